-- Games under the rule of third repetition: their outcome by the kept keys, and which of their
-- initial parts stand.
use Rattle.std.proofs.Common.{◌≡◌, ℕ, Bool, true, false, List, [], ◌∷◌, ◌++◌, take, drop, refl, sym, ◌∙◌, ap, append_assoc, take-append-drop}
use Rattle.hive_model.specs.declared.pieces.GameType.{GameType}
use Rattle.hive_model.specs.declared.places.Move.{Move}
use Rattle.hive_model.specs.declared.places.State.{State}
use Rattle.hive_model.specs.declared.places.State.TheVariants.{NotStarted, InProgress, Draw, WhiteWins, BlackWins}
use Rattle.hive_model.specs.Legal.{state, is_over, is_over_state}
use Rattle.hive_model.specs.Repetition.{ends_as, StandsUnder}
use Rattle.uhp_session.specs.Answers.{CurrentGame, reached, is_ended}

-- The outcome

ends_later : (b : Bool) (s : State) → is_over_state (ends_as b s) ≡ false → is_over_state s ≡ false
ends_later true NotStarted e = refl
ends_later true InProgress e = refl
ends_later true Draw e = e
ends_later true WhiteWins e = e
ends_later true BlackWins e = e
ends_later false s e = e

-- while the game goes on, its position is not over
pub goes_on : (g : CurrentGame) → is_ended g ≡ false → is_over (reached g) ≡ false
goes_on g e = ends_later _ (state (reached g)) e

-- Initial parts that stand

pub stands_none : (r : Bool) (t : GameType) → StandsUnder r t []
stands_none r t [] m rest e = absurd (cc)
stands_none r t (k ∷ front) m rest e = absurd (cc)

pub stands_part : (r : Bool) (t : GameType) (ms : List Move) (n : ℕ) → StandsUnder r t ms → StandsUnder r t (take n ms)
stands_part r t ms n h front m rest e =
    h front m (rest ++ drop n ms) (sym (take-append-drop n ms) ∙ ap (λ (z : List Move). z ++ drop n ms) e ∙ append_assoc front (m ∷ rest) (drop n ms))
