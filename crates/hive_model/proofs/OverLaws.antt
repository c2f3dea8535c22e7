-- The tests of a surrounded queen and of the end of a game hold exactly if their relations do.
use Rattle.std.proofs.Common.{◌≡◌, Bool, true, false, ◌||◌, inl, inr, refl, sym, ◌∙◌, ap}
use Rattle.std.specs.Prelude.{Option, Some, None}
use Rattle.std.proofs.lemmas.Bool.{or_cases, or_left, or_right}
use Rattle.hive_model.specs.declared.pieces.Colour.{Colour}
use Rattle.hive_model.specs.declared.pieces.Colour.TheVariants.{White, Black}
use Rattle.hive_model.specs.declared.places.Spot.{Spot}
use Rattle.hive_model.specs.Pieces.{queen_of}
use Rattle.hive_model.specs.Places.{step, dirs, neighbours}
use Rattle.hive_model.specs.Boards.{Stacks, is_occupied, spot_of}
use Rattle.hive_model.specs.Legal.{IsSurrounded, IsOver, is_surrounded_at, is_surrounded, state_from, state, is_over_state, is_over}
use Rattle.hive_model.specs.Positions.{Position}
use Rattle.hive_model.proofs.RuleLaws.{all_at, at_all, dir_on, on_map}
use Rattle.hive_model.proofs.NearLaws.{map_on}

pub surrounded_from : (b : Stacks) (c : Colour) → is_surrounded b c ≡ true → IsSurrounded b c
surrounded_from b c e = go (spot_of b (queen_of c)) refl e
  where
    go : (o : Option Spot) → spot_of b (queen_of c) ≡ o → is_surrounded_at b o ≡ true → IsSurrounded b c
    go None stands k = let wrong : false ≡ true = k in absurd (cc)
    go (Some s) stands k = record {
      spot = s;
      stands = stands;
      round = λ d. all_at (is_occupied b) (neighbours s.place) (step s.place d) k (on_map (step s.place) dirs d (dir_on d));
    }

pub from_surrounded : (b : Stacks) (c : Colour) → IsSurrounded b c → is_surrounded b c ≡ true
from_surrounded b c h =
    ap (is_surrounded_at b) h.stands
    ∙ at_all (is_occupied b) (neighbours h.spot.place) (λ q on.
    let d = map_on (step h.spot.place) dirs q on in
    ap (is_occupied b) (sym d.1) ∙ h.round d.0)

-- the game is over if one queen is surrounded, or both are
over_parts : (w k fresh : Bool) → is_over_state (state_from w k fresh) ≡ (w || k)
over_parts true true fresh = refl
over_parts true false fresh = refl
over_parts false true fresh = refl
over_parts false false true = refl
over_parts false false false = refl

over_is : (p : Position) → is_over p ≡ (is_surrounded p.board White || is_surrounded p.board Black)
unfolding state
over_is p = over_parts _ _ _

pub over_from : (p : Position) → is_over p ≡ true → IsOver p
over_from p e = elim (or_cases (is_surrounded p.board White) (is_surrounded p.board Black) (sym (over_is p) ∙ e)) [
  | inl white ↦ inl (surrounded_from p.board White white)
  | inr black ↦ inr (surrounded_from p.board Black black)
]

pub from_over : (p : Position) → IsOver p → is_over p ≡ true
from_over p h = over_is p ∙ elim h [
  | inl white ↦ or_left (is_surrounded p.board White) (is_surrounded p.board Black) (from_surrounded p.board White white)
  | inr black ↦ or_right (is_surrounded p.board White) (is_surrounded p.board Black) (from_surrounded p.board Black black)
]
