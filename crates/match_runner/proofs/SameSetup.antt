-- A match keeps its setup.
use Rattle.std.proofs.Common.{◌≡◌, refl, ap, ◌∙◌}
use Rattle.hive_model.specs.declared.pieces.Colour.{Colour}
use Rattle.match_core.specs.Setups.{FullSetup}
use Rattle.match_core.specs.Keeps.{IsFullSetup}
use Rattle.match_core.specs.declared.stage.Stage.{Stage}
use Rattle.match_core.specs.declared.stage.Stage.TheVariants.{Send, Read, Before, After, Finished}
use Rattle.match_core.specs.MatchState.{MatchState, Broke, at_stage, start}
use Rattle.match_core.specs.Fairness.{nothing_heard}
use Rattle.match_core.proofs.Fair.{goes, good_start}
use Rattle.match_core.proofs.Follows.{next_is}
use Rattle.match_runner.specs.Wires.{Watch, Wire}
use Rattle.match_runner.proofs.Endings.{by_end}
use Rattle.match_runner.specs.Turns.{Side}
use Rattle.match_runner.specs.Runs.{Cut, FinalRun, Run}

-- after a fault
broke_same : (stage : Stage) (s : MatchState) → (at_stage s stage Broke).setup ≡ s.setup
broke_same (Send job side) s = refl
broke_same (Read job side) s = refl
broke_same Before s = refl
broke_same After s = refl
broke_same Finished s = refl

run_same : (setup : FullSetup) (t : MatchState) (w0 w b0 b : Side) (r0 r : Watch) → IsFullSetup setup → Run setup t w0 w b0 b r0 r → t.setup ≡ setup
run_same setup t w0 w b0 b r0 r is (hs, run) =
    ap (λ (x : MatchState). x.setup) run.here ∙ (goes hs (start setup) nothing_heard setup.begin setup.begin (good_start setup is.begin.game) run.fits).same

cut_same : (side : Colour) (setup : FullSetup) (t : MatchState) (w0 w b0 b : Side) (r0 r : Watch) → IsFullSetup setup → Cut side setup t w0 w b0 b r0 r → t.setup ≡ setup
cut_same side setup t w0 w b0 b r0 r is (s, w1, b1, run, br, act) =
    ap (λ (x : MatchState). x.setup) (br.next_is ∙ next_is s Broke) ∙ (broke_same s.stage s ∙ run_same setup s w0 w1 b0 b1 r0 r is run)

-- the match that a run answers
pub final_same : (setup : FullSetup) (t : MatchState) (w0 w b0 b : Wire) (r0 r : Watch) → IsFullSetup setup → FinalRun setup t w0 w b0 b r0 r → t.setup ≡ setup
final_same setup t w0 w b0 b r0 r is final = by_end setup t _ _ _ _ r0 r (t.setup ≡ setup) final.ran (λ whole. run_same setup t _ _ _ _ r0 r is whole.0) (λ side cut. cut_same side setup t _ _ _ _ r0 r is cut)
