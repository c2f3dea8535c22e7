-- The readers of fields return what the functions compute.
use Rattle.std.proofs.Common.{◌≡◌, Bool, ℕ, List, ◌∷◌, refl, ◌∙◌, ap}
use Rattle.std.specs.Prelude.{Option, Some, None}
use Rattle.hive_model.specs.declared.pieces.GameType.{GameType}
use Rattle.hive_model.specs.declared.places.State.{State}
use Rattle.hive_model.specs.Strings.{parts}
use Rattle.move_text.specs.Readers.{type_at, state_at}
use Rattle.game_text.specs.Reading.{at_state, after_type, at_type, game_at, game_under}

-- a reader that finds only what is true finds nothing if nothing is true
pub none_read : {X : Type 0} (at : List ℕ → Option X) (Is : List ℕ → X → Type 0) → ((text : List ℕ) (x : X) → at text ≡ Some x → Is text x) → (text : List ℕ) → ((x : X) → ¬ Is text x) → at text ≡ None
none_read {X} at Is found text none = go (at text) refl
  where
    go : (o : Option X) → at text ≡ o → at text ≡ None
    go None e = e
    go (Some x) e = absurd (none x (found text x e))

pub second : (r : Bool) (t : GameType) (ps : List (List ℕ)) (x : List ℕ) (rest : List (List ℕ)) (o : Option State) → ps ≡ x ∷ rest → state_at x ≡ o → after_type r t ps ≡ at_state r t o rest
second r t ps x rest o split e = ap (after_type r t) split ∙ ap (λ z. at_state r t z rest) e

pub first : (r : Bool) (line : List ℕ) (x : List ℕ) (rest : List (List ℕ)) (o : Option GameType) → parts line ≡ x ∷ rest → type_at x ≡ o → game_under r line ≡ at_type r o rest
unfolding game_under
first r line x rest o split e = ap (game_at r) split ∙ ap (λ z. at_type r z rest) e
