-- The moves of a game, played one after the other.
use Rattle.std.proofs.Common.{◌≡◌, ℕ, ◌+◌, ◌-◌, ◌≤◌, ◌<◌, List, [], ◌∷◌, ◌++◌, length, take, refl, sym, ◌∙◌, ap, subst, arith}
use Rattle.std.specs.Prelude.{Some, slice_get}
use Rattle.std.proofs.lemmas.List.{take_all}
use Rattle.hive_model.specs.declared.pieces.GameType.{GameType}
use Rattle.hive_model.specs.declared.places.Move.{Move}
use Rattle.hive_model.specs.Lists.{IsOn}
use Rattle.hive_model.specs.Positions.{opening}
use Rattle.hive_model.specs.Legal.{moves}
use Rattle.hive_model.specs.Games.{replay, IsGame}
use Rattle.hive_model.specs.Histories.{History, position, with_move}
use Rattle.game_text.proofs.WriteLaws.{legal_next, taken_next}

-- this many of the moves were played, and there is room for the others
pub record IsPlayed (t : GameType) (ms : List Move) (c : History) (i : ℕ) : Type 0 where
  pub kind : c.game_type ≡ t
  pub made : c.made ≡ take i ms
  pub room : length ms ≤ i + c.spare
  pub legal : IsGame t ms

pub played_none : (t : GameType) (ms : List Move) (c : History) → c.game_type ≡ t → c.made ≡ [] → length ms ≤ c.spare → IsGame t ms → IsPlayed t ms c 0
played_none t ms c kind none room legal = record {
  kind = kind;
  made = none ∙ sym (taken ms);
  room = omega (arith, room);
  legal = legal;
}
  where
    taken : (ms : List Move) → take 0 ms ≡ []
    taken [] = refl
    taken (k ∷ ms) = refl

pub played_legal : (t : GameType) (ms : List Move) (c : History) (i : ℕ) (m : Move) → IsPlayed t ms c i → slice_get ms i ≡ Some m → IsOn (moves (position c)) m
played_legal t ms c i m h at =
    let here : position c ≡ replay (opening t) (take i ms) = (λ j. replay (opening (h.kind j)) (h.made j)) in
    subst (λ p. IsOn (moves p) m) (sym here) (legal_next (opening t) ms i m h.legal at)

pub played_on : (t : GameType) (ms : List Move) (c d : History) (i : ℕ) (m : Move) → IsPlayed t ms c i → slice_get ms i ≡ Some m → i < length ms → d ≡ with_move c m → IsPlayed t ms d (i + 1)
played_on t ms c d i m h at less moved =
    let room = h.room in
    let spare : d.spare ≡ c.spare - 1 = ap (λ (z : History). z.spare) moved in
    record {
      kind = ap (λ (z : History). z.game_type) moved ∙ h.kind;
      made = ap (λ (z : History). z.made) moved ∙ ap (λ (r : List Move). r ++ m ∷ []) h.made ∙ sym (taken_next ms i m at);
      room = omega (arith, room, less, spare);
      legal = h.legal;
    }

pub played_all : (t : GameType) (ms : List Move) (c : History) (i : ℕ) → IsPlayed t ms c i → length ms ≤ i → c.made ≡ ms
played_all t ms c i h all = h.made ∙ take_all i ms all
