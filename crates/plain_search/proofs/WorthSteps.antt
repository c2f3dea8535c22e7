-- One turn of a loop that takes the greatest value of the moves, over plain values.
use Rattle.std.proofs.Common.{◌≡◌, ℕ, ◌+◌, ◌-◌, ◌≤◌, drop, map, ap, subst, arith, ◌∙◌, ℤ, neg_ℤ, to_z, of_z, Some}
use Rattle.std.specs.List.{slice_get}
use Rattle.std.specs.Int.{int_max}
use Rattle.std.proofs.lemmas.Int.{to_z-of_z}
use mir.Val.{SFits}
use mir.Syntax.{w32}
use Rattle.hive_model.specs.declared.places.Move.{Move}
use Rattle.hive_model.specs.Legal.{moves}
use Rattle.hive_model.specs.Minimax.{value, reply_value, greatest_from}
use Rattle.hive_model.specs.Positions.{Position}
use Rattle.hive_model.specs.Histories.{History, position, with_move}
use Rattle.search_laws.specs.Laws.{IsSmall}
use Rattle.search_laws.proofs.LoopLaws.{greatest-step}
use Rattle.search_laws.proofs.MinimaxLaws.{wider, value-fits}
use Rattle.plain_search.proofs.PlySteps.{behind}

-- the negative of what was searched after a move is the value of the move
pub reply-worth : (start played : History) (m : Move) (d : ℕ) (r s : ℤ) → played ≡ with_move start m → r ≡ value (position played) d → s ≡ neg_ℤ r →
    s ≡ reply_value (position start) d m
reply-worth start played m d r s moved is turned = turned ∙ ap neg_ℤ (is ∙ ap (λ (p : Position). value p d) (behind start played m moved))

pub value-small : (p : Position) (d : ℕ) (v : ℤ) → d ≤ 64 → v ≡ value p d → IsSmall 1000100 v
value-small p d v low is = wider 1000064 1000100 v (omega arith) (value-fits p d v low is)

-- the greater of the best so far and the value of one move, as the code computes it
pub raised-to : (bits : ℕ) (r next : ℤ) → SFits w32 r → SFits w32 next → next ≡ int_max (to_z w32 bits) (to_z w32 (of_z w32 r)) →
    to_z w32 (of_z w32 next) ≡ int_max (to_z w32 bits) r
raised-to bits r next fits most e = to_z-of_z w32 next most ∙ e ∙ ap (int_max (to_z w32 bits)) (to_z-of_z w32 r fits)

-- the best so far is raised to the value of one more move
pub best-step : (start now : History) (d i : ℕ) (m : Move) (best r next v : ℤ) → now ≡ start → slice_get (moves (position start)) i ≡ Some m →
    greatest_from best (map (reply_value (position start) (d - 1)) (drop i (moves (position start)))) ≡ v →
    r ≡ reply_value (position now) (d - 1) m → next ≡ int_max best r →
    greatest_from next (map (reply_value (position start) (d - 1)) (drop (i + 1) (moves (position start)))) ≡ v
best-step start now d i m best r next v same here so worth raised =
    let is : r ≡ reply_value (position start) (d - 1) m = subst (λ (g : History). r ≡ reply_value (position g) (d - 1) m) same worth in
    greatest-step (reply_value (position start) (d - 1)) (moves (position start)) i m best next v so here (raised ∙ ap (int_max best) is)
