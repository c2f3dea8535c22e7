-- The test of forced wins says when a side can force one.
use Rattle.std.proofs.Common.{◌≡◌, ◌≢◌, ◌⊎◌, inl, inr, ℕ, zero, suc, Bool, true, false, cond, refl}
use Rattle.hive_model.specs.declared.pieces.Colour.{Colour}
use Rattle.hive_model.specs.declared.pieces.Colour.TheVariants.{White, Black}
use Rattle.hive_model.specs.declared.places.Move.{Move}
use Rattle.hive_model.specs.declared.places.State.{State}
use Rattle.hive_model.specs.declared.places.State.TheVariants.{NotStarted, InProgress, Draw, WhiteWins, BlackWins}
use Rattle.hive_model.specs.Positions.{Position}
use Rattle.hive_model.specs.Pieces.{is_colour}
use Rattle.hive_model.specs.Legal.{state, is_over, is_over_state, moves}
use Rattle.hive_model.specs.Games.{after}
use Rattle.hive_model.proofs.RuleLaws.{any_has, has_any, all_at, at_all}
use Rattle.hive_model.proofs.PieceLaws.{from_same_colour, same_colour}
use Rattle.win_solver.specs.Force.{CanForce, WinsOr, force, is_win_of, some_or_every, win_of}

-- ---- a win

win-is : (s : State) (c : Colour) → is_win_of s c ≡ true → s ≡ win_of c
win-is NotStarted c e = cc
win-is InProgress c e = cc
win-is Draw c e = cc
win-is WhiteWins White e = refl
win-is WhiteWins Black e = cc
win-is BlackWins White e = cc
win-is BlackWins Black e = refl

is-win : (s : State) (c : Colour) → s ≡ win_of c → is_win_of s c ≡ true
is-win s White e = rw e refl
is-win s Black e = rw e refl

win-over : (s : State) (c : Colour) → s ≡ win_of c → is_over_state s ≡ true
win-over s White e = rw e refl
win-over s Black e = rw e refl

-- ---- whose turn it is

other-turn : (side c : Colour) → is_colour side c ≡ false → side ≢ c
other-turn White White e = cc
other-turn White Black e = λ same. cc
other-turn Black White e = λ same. cc
other-turn Black Black e = cc

turn-other : (side c : Colour) → side ≢ c → is_colour side c ≡ false
turn-other White White n = absurd (n refl)
turn-other White Black n = refl
turn-other Black White n = refl
turn-other Black Black n = absurd (n refl)

-- ---- a ply

module _ (p : Position) (c : Colour) (f : Move → Bool) (Holds : Move → Type 0) where
  turn-forced : (own : Bool) → is_over p ≡ false → is_colour p.side c ≡ own → ((m : Move) → f m ≡ true → Holds m) → some_or_every own f (moves p) ≡ true → WinsOr p c Holds
  turn-forced true goes turn deeper h = let found = any_has f (moves p) h in inr (inl (goes, same_colour p.side c turn, (found.0, found.1, deeper found.0 found.2)))
  turn-forced false goes turn deeper h = inr (inr (goes, other-turn p.side c turn, λ m on. deeper m (all_at f (moves p) m h on)))

  ply-forced : (over : Bool) → is_over p ≡ over → ((m : Move) → f m ≡ true → Holds m) → cond over (is_win_of (state p) c) (some_or_every (is_colour p.side c) f (moves p)) ≡ true → WinsOr p c Holds
  ply-forced true over deeper h = inl (win-is (state p) c h)
  ply-forced false goes deeper h = turn-forced (is_colour p.side c) goes refl deeper h

  ply-tested : ((m : Move) → Holds m → f m ≡ true) → WinsOr p c Holds → cond (is_over p) (is_win_of (state p) c) (some_or_every (is_colour p.side c) f (moves p)) ≡ true
  ply-tested deeper (inl won) = let over : is_over p ≡ true = win-over (state p) c won in rw over (is-win (state p) c won)
  ply-tested deeper (inr (inl (goes, turn, (m, on, holds)))) = rw goes (rw (from_same_colour p.side c turn) (has_any f (moves p) m on (deeper m holds)))
  ply-tested deeper (inr (inr (goes, turn, all))) = rw goes (rw (turn-other p.side c turn) (at_all f (moves p) (λ m on. deeper m (all m on))))

-- ---- a number of plies

pub forced : (n : ℕ) (p : Position) (c : Colour) → force p n c ≡ true → CanForce p n c
unfolding force CanForce
forced zero p c e = win-is (state p) c e
forced (suc n) p c e = ply-forced p c (λ m. force (after p m) n c) (λ m. CanForce (after p m) n c) (is_over p) refl (λ m h. forced n (after p m) c h) e

pub tested : (n : ℕ) (p : Position) (c : Colour) → CanForce p n c → force p n c ≡ true
unfolding force CanForce
tested zero p c e = is-win (state p) c e
tested (suc n) p c e = ply-tested p c (λ m. force (after p m) n c) (λ m. CanForce (after p m) n c) (λ m h. tested n (after p m) c h) e
