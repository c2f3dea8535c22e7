-- The keys that a referee keeps, at each stage of a match.
use Rattle.std.proofs.Common.{◌≡◌, suc, ◌+◌, ◌-◌, ◌<◌, ◌≤◌, List, [], ◌∷◌, ◌++◌, length, take, refl, sym, ◌∙◌, ap, arith, length-append}
use Rattle.std.proofs.lemmas.List.{take_at}
use Rattle.std.specs.Prelude.{if◌then◌else◌}
use Rattle.hive_model.specs.declared.places.Move.{Move}
use Rattle.hive_model.specs.Keys.{key}
use Rattle.hive_model.specs.Histories.{History, position, with_move, without_last}
use Rattle.game_text.specs.declared.seen.Seen.{Seen}
use Rattle.game_text.specs.Seen.{Sees}
use Rattle.game_text.proofs.SeenLaws.{seen_few, sees_on}
use Rattle.game_text.proofs.WriteLaws.{taken_size}
use Rattle.match_core.specs.declared.stage.Task.{Task}
use Rattle.match_core.specs.declared.stage.Task.TheVariants.{Greet, Begin, Ask, Tell}
use Rattle.match_core.specs.declared.stage.Stage.{Stage}
use Rattle.match_core.specs.declared.stage.Stage.TheVariants.{Send, Read, Before, After, Finished}
use Rattle.match_core.specs.Keeps.{SeesBefore, SeesFor, SeesAt, IsTold, IsTelling, IsNotTold, IsSettled}

-- if no move is being sent, the keys are those of all positions
settled_for : (job : Task) (seen : Seen) (game : History) → IsNotTold job → SeesFor job seen game → Sees seen game
settled_for Greet seen game n h = h
settled_for Begin seen game n h = h
settled_for Ask seen game n h = h
settled_for (Tell told) seen game n h = absurd n

pub settled : (stage : Stage) (seen : Seen) (game : History) → IsSettled stage → SeesAt stage seen game → Sees seen game
settled (Send job side) seen game n h = settled_for job seen game n h
settled (Read job side) seen game n h = settled_for job seen game n h
settled Before seen game n h = h
settled After seen game n h = h
settled Finished seen game n h = absurd n

-- while a move is sent, they are those of all but the last
telling_for : (job : Task) (seen : Seen) (game : History) → IsTold job → SeesFor job seen game → SeesBefore seen game
telling_for Greet seen game n h = absurd n
telling_for Begin seen game n h = absurd n
telling_for Ask seen game n h = absurd n
telling_for (Tell told) seen game n h = h

pub telling : (stage : Stage) (seen : Seen) (game : History) → IsTelling stage → SeesAt stage seen game → SeesBefore seen game
telling (Send job side) seen game n h = telling_for job seen game n h
telling (Read job side) seen game n h = telling_for job seen game n h
telling Before seen game n h = absurd n
telling After seen game n h = absurd n
telling Finished seen game n h = absurd n

-- the moves before the last, and the last
last_move : (ms : List Move) → 1 ≤ length ms → (m : Move) × (ms ≡ take (length ms - 1) ms ++ m ∷ [])
last_move [] some = absurd (omega (arith, some))
last_move (m ∷ []) some = (m, refl)
last_move (m ∷ k ∷ ms) some =
    let h = last_move (k ∷ ms) (omega arith) in
    let long : length (m ∷ k ∷ ms) - 1 ≡ suc (length (k ∷ ms) - 1) = omega arith in
    (h.0, ap (λ (z : List Move). m ∷ z) h.1 ∙ ap (λ n. take n (m ∷ k ∷ ms) ++ h.0 ∷ []) (sym long))

pub before_few : (seen : Seen) (game : History) → SeesBefore seen game → length game.made ≤ 1000 → length seen.keys < 10000
before_few seen game h few =
    let size = taken_size game.made (length game.made - 1) in
    seen_few seen (without_last game) h.keys (omega (arith, few, size))

-- the key of the position after the last move is kept
pub noted : (seen new : Seen) (game : History) → SeesBefore seen game → new.repetition ≡ seen.repetition
    → new.keys ≡ (if seen.repetition then seen.keys ++ key (position game) ∷ [] else seen.keys) → Sees new game
noted seen new game h same pushed =
    let last = last_move game.made h.made in
    let next : game ≡ with_move (without_last game) last.0 = λ i. record { game_type = game.game_type; made = last.1 i; spare = (let e : game.spare ≡ game.spare + 1 - 1 = omega arith in e) i } in
    sees_on seen.repetition new.repetition seen.keys new.keys (without_last game) game last.0 h.keys next same pushed

-- without its last move, a list of moves is what it was before that move
pub taken_back : (ms : List Move) (m : Move) → take (length (ms ++ m ∷ []) - 1) (ms ++ m ∷ []) ≡ ms
taken_back ms m = take_at ms (m ∷ []) _ (omega (arith, length-append ms (m ∷ [])))
