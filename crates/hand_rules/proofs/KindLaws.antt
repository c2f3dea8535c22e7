-- Where the pieces of a side's kind end in the order of the pieces.
use Rattle.std.proofs.Common.{◌≡◌, ◌+◌, ◌≤◌, true, refl}
use Rattle.std.specs.Prelude.{nat_le}
use Rattle.std.proofs.lemmas.Bool.{leb-true}
use Rattle.hive_model.specs.declared.pieces.Colour.{Colour}
use Rattle.hive_model.specs.declared.pieces.Colour.TheVariants.{White, Black}
use Rattle.hive_model.specs.declared.pieces.Kind.{Kind}
use Rattle.hive_model.specs.declared.pieces.Kind.TheVariants.{Queen, Spider, Beetle, Grasshopper, Ant, Mosquito, Ladybug, Pillbug}
use Rattle.hand_rules.specs.Hands.{count_of, first_piece}

-- the last of a kind is one of the 28 pieces
pub piece_end : (c : Colour) (k : Kind) → first_piece c k + count_of k ≤ 28
piece_end c k = leb-true _ _ (ends c k)
  where
    ends : (c : Colour) (k : Kind) → nat_le (first_piece c k + count_of k) 28 ≡ true
    ends White Queen = refl
    ends White Spider = refl
    ends White Beetle = refl
    ends White Grasshopper = refl
    ends White Ant = refl
    ends White Mosquito = refl
    ends White Ladybug = refl
    ends White Pillbug = refl
    ends Black Queen = refl
    ends Black Spider = refl
    ends Black Beetle = refl
    ends Black Grasshopper = refl
    ends Black Ant = refl
    ends Black Mosquito = refl
    ends Black Ladybug = refl
    ends Black Pillbug = refl
