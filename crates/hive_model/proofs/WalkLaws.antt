-- The test of a piece's own move, and the test of a separating place, hold exactly if their
-- relations do.
use Rattle.std.proofs.Common.{◌≡◌, ◌+◌, true, false, not, refl, sym, ◌∙◌, ap, ℕ}
use Rattle.std.specs.Prelude.{Option, Some, None}
use Rattle.std.proofs.lemmas.Bool.{eqb-true, eq-eqb, and_parts, and_from, not-true, not_from_false, false_from_ne_true}
use Rattle.hive_model.specs.declared.places.Place.{Place}
use Rattle.hive_model.specs.declared.places.Spot.{Spot}
use Rattle.hive_model.specs.Pieces.{kind_of, colour_of, is_colour}
use Rattle.hive_model.specs.Boards.{Stacks, height_at, is_occupied, spot_of, is_top_spot, cleared, lift, IsBoard}
use Rattle.hive_model.specs.Hive.{IsSeparating, is_one, is_separating, is_cut}
use Rattle.hive_model.specs.Reach.{moves_as}
use Rattle.hive_model.specs.Positions.{Position, rests}
use Rattle.hive_model.specs.Legal.{Walk, walks_from, is_walk}
use Rattle.hive_model.proofs.PieceLaws.{same_colour, from_same_colour, awake_from, from_awake}
use Rattle.hive_model.proofs.CutLaws.{separates_from, from_separates, cut_from, from_cut}
use Rattle.hive_model.proofs.CopyLaws.{moves_as_from, from_moves_as}

-- Separating places

pub separating_from : (b : Stacks) → IsBoard b → (p : Place) → is_separating b p ≡ true → IsSeparating b p
separating_from b is p e =
    let both = and_parts (is_occupied b p) (not (is_one (cleared b p))) e in
    (both.0, separates_from b is p (not-true _ both.1))

pub from_separating : (b : Stacks) → IsBoard b → (p : Place) → IsSeparating b p → is_separating b p ≡ true
from_separating b is p h = and_from _ _ h.0 (not_from_false _ (from_separates b is p h.1))

-- Walks

pub walk_from : (p : Position) → IsBoard p.board → (x : ℕ) (q : Place) → is_walk p x q ≡ true → Walk p x q
walk_from p is x q e =
    let own = and_parts (is_colour (colour_of x) p.side) (walks_from p x (spot_of p.board x) q) e in
    go (same_colour _ _ own.0) (spot_of p.board x) refl own.1
  where
    go : colour_of x ≡ p.side → (o : Option Spot) → spot_of p.board x ≡ o → walks_from p x o q ≡ true → Walk p x q
    go own None stands k = let wrong : false ≡ true = k in absurd (cc)
    go own (Some s) stands k =
        let one = and_parts (is_top_spot p.board (Some s)) _ k in
        let two = and_parts (not (rests p x)) _ one.1 in
        let three = and_parts (not (is_cut p.board s.place)) (moves_as (kind_of x) (lift p.board x) s.place q) two.1 in
        record {
          from = s;
          own = own;
          stands = stands;
          on_top = eqb-true (s.level + 1) (height_at p.board s.place) one.0;
          awake = awake_from x p.rest two.0;
          not_cut = λ cut. let wrong : true ≡ false = sym (from_cut p.board is s.place cut) ∙ not-true _ three.0 in cc;
          moves = moves_as_from (kind_of x) (lift p.board x) s.place q three.1;
        }

pub from_walk : (p : Position) → IsBoard p.board → (x : ℕ) (q : Place) → Walk p x q → is_walk p x q ≡ true
from_walk p is x q h =
    and_from _ _ (from_same_colour _ _ h.own)
    (ap (λ o. walks_from p x o q) h.stands
    ∙ and_from _ _ (eq-eqb _ _ h.on_top)
    (and_from _ _ (from_awake x p.rest h.awake)
    (and_from _ _ (not_from_false _ (false_from_ne_true _ (λ e. h.not_cut (cut_from p.board is h.from.place e))))
    (from_moves_as (kind_of x) (lift p.board x) h.from.place q h.moves))))
