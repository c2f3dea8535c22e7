-- The result of an act that is done.
use Rattle.std.proofs.Common.{◌≡◌, ℕ, [], refl, ap, sym, arith, None, Some}
use Rattle.std.proofs.lemmas.List.{append-nil}
use Rattle.io_edge.specs.Outside.{Told, behind, HasCause}
use Rattle.hive_model.specs.declared.pieces.Colour.{Colour}
use Rattle.hive_model.specs.declared.pieces.Colour.TheVariants.{White, Black}
use Rattle.match_core.specs.declared.stage.Task.{Task}
use Rattle.match_core.specs.declared.stage.Stage.{Stage}
use Rattle.match_core.specs.declared.stage.Stage.TheVariants.{Send, Read, Before, After, Finished as FinishedStage}
use Rattle.match_core.specs.declared.stage.Act.TheVariants.{Read as ReadAct, Clock}
use Rattle.match_core.specs.MatchState.{MatchState, Happening, Reading, act_at}
use Rattle.match_core.specs.Fairness.{sent_at}
use Rattle.io_edge.specs.Lines.{ToldLines}
use Rattle.match_core.specs.Feeds.{FeedsAt}
use Rattle.match_runner.specs.declared.turns.Acted.{Acted}
use Rattle.match_runner.specs.declared.turns.Acted.TheVariants.{GoOn, Finished, ReadFault, WriteFault, Memory}
use Rattle.match_runner.specs.Turns.{Side, Looks, Turns, OneSide}

pub other_cause : (failed : Type 0) (n : ℕ) → (failed → ⊥) → HasCause failed n n
other_cause failed n f = record { later = omega arith; rose = λ x. absurd (f x); same = λ x. refl }

pub behind-nil : (t : Told) → t ≡ behind t []
behind-nil None = refl
behind-nil (Some w) = ap Some (sym (append-nil w))

reads_at : (stage : Stage) (at : Colour) → act_at stage ≡ ReadAct at → (job : Task) × (stage ≡ Read job at)
reads_at (Read job side) at e = (job, cc)
reads_at (Send job side) at e = absurd (cc)
reads_at Before at e = absurd (cc)
reads_at After at e = absurd (cc)
reads_at FinishedStage at e = absurd (cc)

feeds_clock : (stage : Stage) (h : Happening) (to : Colour) (o : ToldLines) → act_at stage ≡ Clock → FeedsAt stage h to o o
feeds_clock (Send job side) h to o e = refl
feeds_clock (Read job side) h to o e = absurd (cc)
feeds_clock Before h to o e = refl
feeds_clock After h to o e = refl
feeds_clock FinishedStage h to o e = refl

clock_sends : (stage : Stage) (s : MatchState) (h : Happening) (to : Colour) → act_at stage ≡ Clock → sent_at s stage h to ≡ []
clock_sends (Send job side) s h to e = absurd (cc)
clock_sends (Read job side) s h to e = refl
clock_sends Before s h to e = refl
clock_sends After s h to e = refl
clock_sends FinishedStage s h to e = refl

looked_side : (s : MatchState) (h : Happening) (to : Colour) (o : Side) → act_at s.stage ≡ Clock → OneSide s h to o o
looked_side s h to o e = record { feeds = feeds_clock s.stage h to o.ahead e; stays = λ x. refl; wrote = rw (clock_sends s.stage s h to e) (behind-nil o.written) }

pub looked : (turn : Acted) (s t : MatchState) (w b : Side) (c0 c : ℕ) → act_at s.stage ≡ Clock → Looks turn s t c0 c → Turns turn s t w w b b c0 c
looked GoOn s t w b c0 c e (f, g) = (Reading c, record { time = (g, refl); next_is = f; fits = rw e refl; sound = refl; white = looked_side s (Reading c) White w e; black = looked_side s (Reading c) Black b e })
looked (ReadFault at) s t w b c0 c e g = absurd g
looked (WriteFault at) s t w b c0 c e g = absurd g
looked Finished s t w b c0 c e g = absurd g
looked Memory s t w b c0 c e g = tt
