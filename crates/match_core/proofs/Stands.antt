-- No move of a match follows the end of the game, move by move. A match from the opening asks at
-- once.
use Rattle.std.proofs.Common.{◌≡◌, ◌⊎◌, ◌+◌, inl, inr, Bool, true, false, cond, List, [], ◌∷◌, ◌++◌, length, refl, ap, sym, ◌∙◌, append_assoc, ◌≤◌, arith}
use Rattle.std.proofs.lemmas.List.{append-nil, append_cancel_left}
use Rattle.std.specs.Prelude.{nat_le}
use Rattle.hive_model.proofs.StandLaws.{split_last}
use Rattle.hive_model.specs.declared.pieces.GameType.{GameType}
use Rattle.hive_model.specs.declared.places.Move.{Move}
use Rattle.hive_model.specs.Positions.{opening}
use Rattle.hive_model.specs.Legal.{state, is_over_state}
use Rattle.hive_model.specs.Keys.{KeyParts, key}
use Rattle.hive_model.specs.Repetition.{same_board, count_same, keys, times, ends_as, outcome_under}
use Rattle.match_core.specs.declared.verdict.Verdict.TheVariants.{Rules, Limit}
use Rattle.match_core.specs.Setups.{FullSetup}
use Rattle.match_core.specs.MatchState.{MatchState, ask, decide, finish, outcome_of}
use Rattle.match_core.specs.Fairness.{StandsFrom, PlainMatchesAsk}

-- no list with an item is empty
some_more : {X : Type 0} (front rest : List X) (x : X) → [] ≡ front ++ x ∷ rest → ⊥
some_more [] rest x e = absurd (cc)
some_more (f ∷ front) rest x e = absurd (cc)

-- nothing is said of the given moves
pub stands_none : (setup : FullSetup) → StandsFrom setup setup.begin
stands_none setup front m rest e = absurd (some_more front rest m (append_cancel_left setup.begin [] (front ++ m ∷ rest) (append-nil setup.begin ∙ e)))

-- one move more, in a game that is not over
pub stands_more : (setup : FullSetup) (made moves : List Move) (m : Move) → moves ≡ setup.begin ++ made → StandsFrom setup moves
    → is_over_state (outcome_under setup.repetition setup.game_type moves) ≡ false → StandsFrom setup (moves ++ m ∷ [])
stands_more setup made moves m split stands yet front k rest e =
    let all : (setup.begin ++ made) ++ m ∷ [] ≡ setup.begin ++ (front ++ k ∷ rest) = ap (λ (z : List Move). z ++ m ∷ []) (sym split) ∙ e in
    let behind : made ++ m ∷ [] ≡ front ++ k ∷ rest = append_cancel_left setup.begin (made ++ m ∷ []) (front ++ k ∷ rest) (sym (append_assoc setup.begin made (m ∷ [])) ∙ all) in
    elim (split_last made front rest m k behind) [
      | inl whole ↦ ap (λ z. is_over_state (outcome_under setup.repetition setup.game_type (setup.begin ++ z))) whole ∙ (ap (λ z. is_over_state (outcome_under setup.repetition setup.game_type z)) (sym split) ∙ yet)
      | inr part ↦ stands front k part.0 (split ∙ ap (λ z. setup.begin ++ z) part.1)
    ]

one_key : (k : KeyParts) → nat_le 3 (count_same k (k ∷ [])) ≡ false
one_key k = go (same_board k k)
  where
    go : (b : Bool) → nat_le 3 (0 + cond b 1 0) ≡ false
    go true = refl
    go false = refl

-- before the first move the game is not over
open_start : (r : Bool) (t : GameType) → is_over_state (outcome_under r t []) ≡ false
unfolding state keys times
open_start false t = refl
open_start true t = ap (λ b. is_over_state (ends_as b (state (opening t)))) (one_key (key (opening t)))

-- if the game is not over and its limit not reached, it goes on
goes_on : (b c : Bool) (x y z : MatchState) → b ≡ false → c ≡ false → cond b x (cond c y z) ≡ z
goes_on true c x y z e f = absurd (cc)
goes_on false true x y z e f = absurd (cc)
goes_on false false x y z e f = refl

pub plain_matches_ask : PlainMatchesAsk
unfolding decide
plain_matches_ask s none some =
    let yet : is_over_state (outcome_of s) ≡ false = ap (λ z. is_over_state (outcome_under s.setup.repetition s.setup.game_type z)) none ∙ open_start s.setup.repetition s.setup.game_type in
    let few : length s.moves ≡ 0 = ap length none in
    let less : nat_le s.setup.limit (length s.moves) ≡ false = ap (nat_le s.setup.limit) few ∙ low s.setup.limit some in
    goes_on (is_over_state (outcome_of s)) (nat_le s.setup.limit (length s.moves)) (finish s (Rules (outcome_of s))) (finish s Limit) (ask s) yet less
  where
    low : (n : _) → 1 ≤ n → nat_le n 0 ≡ false
    low n h = grind (arith, h)
