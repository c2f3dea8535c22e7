-- The first plies of a game are played again.
use Rattle.std.proofs.Common.{◌≡◌, ℕ, ◌+◌, ◌<◌, ◌≤◌, List, [], ◌∷◌, ◌++◌, take, refl, sym, ◌∙◌, ap, subst, arith}
use Rattle.std.specs.Prelude.{Some, slice_get}
use Rattle.hive_model.specs.declared.places.Move.{Move}
use Rattle.hive_model.specs.Lists.{IsOn}
use Rattle.hive_model.specs.Positions.{opening}
use Rattle.hive_model.specs.Legal.{moves}
use Rattle.hive_model.specs.Games.{replay, IsGame}
use Rattle.hive_model.specs.Histories.{History, position, with_move}
use Rattle.game_text.proofs.WriteLaws.{legal_next, taken_next}

-- this number of plies of a game was played, and there is room for n in all
pub record IsPast (game now : History) (n i : ℕ) : Type 0 where
  pub kind : now.game_type ≡ game.game_type
  pub made : now.made ≡ take i game.made
  pub room : n ≤ now.spare + i

take-none : (ms : List Move) → take 0 ms ≡ []
take-none [] = refl
take-none (m ∷ ms) = refl

pub past_none : (game now : History) (n : ℕ) → now.game_type ≡ game.game_type → now.made ≡ [] → n ≤ now.spare → IsPast game now n 0
past_none game now n kind made room = record {
  kind = kind;
  made = made ∙ sym (take-none game.made);
  room = omega (arith, room);
}

pub past_legal : (game now : History) (n i : ℕ) (m : Move) → IsGame game.game_type game.made → IsPast game now n i → slice_get game.made i ≡ Some m → IsOn (moves (position now)) m
past_legal game now n i m legal h at =
    let here : position now ≡ replay (opening game.game_type) (take i game.made) = λ j. replay (opening (h.kind j)) (h.made j) in
    subst (λ p. IsOn (moves p) m) (sym here) (legal_next (opening game.game_type) game.made i m legal at)

pub past_room : (game now : History) (n i k : ℕ) → i < k → k ≤ n → IsPast game now n i → 1 ≤ now.spare
past_room game now n i k less most h = let room = h.room in omega (arith, room, less, most)

pub past_on : (game now next : History) (n i k : ℕ) (m : Move) → i < k → k ≤ n → IsPast game now n i → slice_get game.made i ≡ Some m → next ≡ with_move now m → IsPast game next n (i + 1)
past_on game now next n i k m less most h at is =
    let room = h.room in
    subst (λ (c : History). IsPast game c n (i + 1)) (sym is) (record {
      kind = h.kind;
      made = ap (λ (ms : List Move). ms ++ m ∷ []) h.made ∙ sym (taken_next game.made i m at);
      room = omega (arith, room, less, most);
    })
