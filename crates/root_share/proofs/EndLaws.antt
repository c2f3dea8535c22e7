-- The value of a child that ends the game, and how much less the value of one is that does not.
use Rattle.std.proofs.Common.{◌≡◌, ℕ, zero, suc, ◌+◌, ◌-◌, ◌≤◌, List, [], ◌∷◌, map, false, refl, sym, ap, subst, ◌∙◌, arith, ℤ, pos, neg_ℤ, ◌≤ℤ◌, ◌<ℤ◌, Option, Some, None}
use Rattle.std.proofs.lemmas.Int.{ints}
use Rattle.std.specs.List.{slice_get}
use Rattle.std.specs.Option.{IfSome, MatchOption}
use Rattle.hive_model.specs.declared.pieces.Colour.{Colour}
use Rattle.hive_model.specs.declared.pieces.Colour.TheVariants.{White, Black}
use Rattle.hive_model.specs.declared.places.State.{State}
use Rattle.hive_model.specs.declared.places.State.TheVariants.{NotStarted, InProgress, Draw, WhiteWins, BlackWins}
use Rattle.hive_model.specs.declared.places.Move.{Move}
use Rattle.hive_model.specs.Positions.{Position}
use Rattle.hive_model.specs.Legal.{moves, state, is_over, is_over_state}
use Rattle.hive_model.specs.Games.{after}
use Rattle.hive_model.specs.Minimax.{end_value, value, reply_value}
use Rattle.hive_model.specs.Histories.{History, position, with_move}
use Rattle.search_laws.specs.Laws.{IsSmall}
use Rattle.search_laws.proofs.HistoryLaws.{position-with_move}
use Rattle.search_laws.proofs.MinimaxLaws.{IsSmall-neg, wider, eval-within, value-within, value-open, value-at_end, value-fits}
use Rattle.search_laws.proofs.ReplyLaws.{top-there, reply-at}
use Rattle.root_share.specs.Run.{child_values}
use Rattle.root_share.specs.Word.{IsReply}

-- a state without an end value does not end the game
pub goes-on : (s : State) (side : Colour) (d : ℕ) → None ≡ end_value s side d → is_over_state s ≡ false
goes-on NotStarted side d e = refl
goes-on InProgress side d e = refl
goes-on Draw side d e = absurd (cc)
goes-on WhiteWins White d e = absurd (cc)
goes-on WhiteWins Black d e = absurd (cc)
goes-on BlackWins White d e = absurd (cc)
goes-on BlackWins Black d e = absurd (cc)

pub open-behind : (start played : History) (m : Move) (s : State) (side : Colour) (d : ℕ) → played ≡ with_move start m → s ≡ state (position played) → None ≡ end_value s side d →
    is_over (after (position start) m) ≡ false
open-behind start played m s side d moved is e =
    let at : position played ≡ after (position start) m = ap position moved ∙ position-with_move start m in
    subst (λ (p : Position). is_over p ≡ false) at (ap is_over_state (sym is) ∙ goes-on s side d e)

pub end-behind : (start played : History) (m : Move) (s : State) (side : Colour) (d : ℕ) (v : ℤ) → played ≡ with_move start m → s ≡ state (position played) → side ≡ (position played).side →
    Some v ≡ end_value s side d → v ≡ value (after (position start) m) d
end-behind start played m s side d v moved is turn e =
    let at : position played ≡ after (position start) m = ap position moved ∙ position-with_move start m in
    subst (λ (p : Position). v ≡ value p d) at (value-at_end (position played) s side d v is turn e)

pub end-small : (p : Position) (d : ℕ) (v : ℤ) → d ≤ 64 → v ≡ value p d → IsSmall 1000100 v
end-small p d v deep is = wider 1000064 1000100 v (omega arith) (value-fits p d v deep is)

reply-under : (p : Position) (d : ℕ) (ms : List Move) (i : ℕ) (n : ℤ) → slice_get (map (reply_value p d) ms) i ≡ Some n → IsSmall (1000000 + d) n
reply-under p d [] i n e = absurd (cc)
reply-under p d (m ∷ ms) zero n e =
    let same : reply_value p d m ≡ n = cc in
    rw same at (IsSmall-neg (1000000 + d) (value (after p m) d) (value-within (after p m) d))
reply-under p d (m ∷ ms) (suc i) n e = reply-under p d ms i n e

-- a position that is not over is not lost at once
pub open-less : (p : Position) (d : ℕ) → is_over p ≡ false → neg_ℤ (value p d) <ℤ pos (1000000 + d)
open-less p zero h =
    let is = value-open p h in
    let small = eval-within p in
    let low = small.low in
    omega (arith, ints, is, low)
open-less p (suc d) h =
    let top = top-there p (suc d) (record { deep = omega arith; open_ = h }) in
    let same : suc d - 1 ≡ d = omega arith in
    let there : slice_get (map (reply_value p d) (moves p)) top.0 ≡ Some (value p (suc d)) = rw same at top.1 in
    let small = reply-under p d (moves p) top.0 (value p (suc d)) there in
    let low = small.low in
    omega (arith, ints, low)

-- so a move after which the game goes on is worth less than a win at once
pub open-below : (p : Position) (m : Move) (d : ℕ) (b : ℤ) → is_over (after p m) ≡ false → pos (1000000 + d) ≤ℤ b → reply_value p d m <ℤ b
open-below p m d b h most = let k = open-less (after p m) d h in omega (arith, ints, k, most)

-- some child has the value of a move that ends the game
pub some-reply : (p : Position) (d i : ℕ) (m : Move) (o : Option ℤ) → slice_get (moves p) i ≡ Some m → MatchOption o (is_over (after p m) ≡ false) (λ v. v ≡ reply_value p (d - 1) m) → IfSome o (IsReply p d)
some-reply p d i m None here told = tt
some-reply p d i m (Some v) here told =
    let there : slice_get (child_values p d) i ≡ Some v = rw told (reply-at (reply_value p (d - 1)) (moves p) i m here) in
    (i, there)
