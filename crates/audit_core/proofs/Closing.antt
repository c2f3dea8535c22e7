-- The places at which white closes in, by what is on top of a place.
use Rattle.std.proofs.Common.{◌≡◌, ℕ, Bool, true, false, None, Some, sym, ◌∙◌, ap}
use Rattle.std.specs.Prelude.{◌||◌}
use Rattle.std.specs.declared.option.Option.{Option}
use Rattle.hive_model.specs.declared.pieces.Colour.{Colour}
use Rattle.hive_model.specs.declared.pieces.Colour.TheVariants.{Black}
use Rattle.hive_model.specs.declared.places.Place.{Place}
use Rattle.hive_model.specs.Pieces.{colour_of, is_colour, queen_of}
use Rattle.hive_model.specs.Boards.{Stacks, spot_of, top_at}
use Rattle.hive_model.specs.Positions.{Position}
use Rattle.audit_core.specs.Drawing.{is_of, is_beside, closes_in}

module _ (p : Position) (b : Stacks) (q : Place) (board : b ≡ p.board) where
  -- what is beside black's queen on this board
  abbrev beside : Bool
  beside = is_beside (spot_of b (queen_of Black)) q

  by_top : (o : Option ℕ) → o ≡ top_at b q → closes_in p q ≡ is_of Black o || beside
  by_top o top =
      let there : o ≡ top_at p.board q = top ∙ ap (λ (d : Stacks). top_at d q) board in
      sym (λ i. is_of Black (there i) || is_beside (spot_of (board i) (queen_of Black)) q)

  by_colour : (x : ℕ) (c : Colour) (t : Bool) → Some x ≡ top_at b q → c ≡ colour_of x → t ≡ is_colour c Black → closes_in p q ≡ t || beside
  by_colour x c t top colour is = by_top (Some x) top ∙ ap (λ (u : Bool). u || beside) (sym (is ∙ ap (λ (d : Colour). is_colour d Black) colour))

  -- a piece of black is on top
  pub on_black : (x : ℕ) (c : Colour) (t : Bool) → Some x ≡ top_at b q → c ≡ colour_of x → t ≡ is_colour c Black → t ≡ true → t ≡ closes_in p q
  on_black x c t top colour is holds = holds ∙ sym (by_colour x c t top colour is ∙ ap (λ (u : Bool). u || beside) holds)

  -- a piece of white is on top
  pub on_white : (x : ℕ) (c : Colour) (t r : Bool) → Some x ≡ top_at b q → c ≡ colour_of x → t ≡ is_colour c Black → t ≡ false → r ≡ is_beside (spot_of b (queen_of Black)) q → r ≡ closes_in p q
  on_white x c t r top colour is no_ told = told ∙ sym (by_colour x c t top colour is ∙ ap (λ (u : Bool). u || beside) no_)

  -- no piece is on top
  pub on_none : (r : Bool) → None ≡ top_at b q → r ≡ is_beside (spot_of b (queen_of Black)) q → r ≡ closes_in p q
  on_none r top told = told ∙ sym (by_top None top)
