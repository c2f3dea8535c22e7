use Rattle.std.proofs.Common.{◌≡◌, sym, subst, refl}
use Rattle.hive_model.specs.declared.pieces.Colour.{Colour}
use Rattle.hive_model.specs.declared.pieces.Colour.TheVariants.{White, Black}
use Rattle.hive_model.specs.Pieces.{mask_of_pieces, colour_of, is_colour}
use Rattle.hive_eval.proofs.weights.pieces_of.Goals as goal

whites : 16383 ≡ mask_of_pieces (λ x. is_colour (colour_of x) White)
unfolding mask_of_pieces
whites = refl

blacks : 268419072 ≡ mask_of_pieces (λ x. is_colour (colour_of x) Black)
unfolding mask_of_pieces
blacks = refl

pub returns-in-White : goal.returns-in-White
returns-in-White c = subst (λ (side : Colour). 16383 ≡ mask_of_pieces (λ x. is_colour (colour_of x) side)) (sym c.in-White.is) whites

pub returns-in-Black : goal.returns-in-Black
returns-in-Black c = subst (λ (side : Colour). 268419072 ≡ mask_of_pieces (λ x. is_colour (colour_of x) side)) (sym c.in-Black.is) blacks
