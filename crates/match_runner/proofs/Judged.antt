-- The match that a run answers has a verdict.
use Rattle.std.proofs.Common.{◌≡◌, true, refl, sym, ◌∙◌}
use Rattle.match_core.specs.Setups.{FullSetup}
use Rattle.match_core.specs.MatchState.{MatchState, act_at, Broke, at_stage, answers}
use Rattle.match_core.specs.declared.stage.Stage.{Stage}
use Rattle.match_core.specs.declared.stage.Stage.TheVariants.{Send, Read, Before, After, Finished}
use Rattle.match_core.specs.Plays.{has_verdict}
use Rattle.match_core.proofs.Follows.{finish_is, next_is}
use Rattle.std.specs.Prelude.{IsTrue}
use Rattle.match_runner.specs.Wires.{Watch, Wire}
use Rattle.match_runner.proofs.Endings.{by_end}
use Rattle.match_runner.specs.Turns.{Side, Breaks}
use Rattle.match_runner.specs.Runs.{FinalRun, Whole, Cut, IsJudged}
use Rattle.hive_model.specs.declared.pieces.Colour.{Colour}

broke_judged : (stage : Stage) (s : MatchState) → IsTrue (answers (act_at stage) Broke) → has_verdict (at_stage s stage Broke).verdict ≡ true
broke_judged (Send job side) s e = refl
broke_judged (Read job side) s e = refl
broke_judged Before s e = absurd (cc)
broke_judged After s e = absurd (cc)
broke_judged Finished s e = absurd (cc)

breaks_judged : (s t : MatchState) (w0 w b0 b : Side) → Breaks s t w0 w b0 b → IsJudged t
breaks_judged s t w0 w b0 b br = rw (br.next_is ∙ next_is s Broke) (broke_judged s.stage s br.fits)

whole_judged : (setup : FullSetup) (t : MatchState) (w0 w b0 b : Side) (r0 r : Watch) → Whole setup t w0 w b0 b r0 r → IsJudged t
whole_judged setup t w0 w b0 b r0 r ((hs, run), fin) = sym run.bounded.judged ∙ (finish_is t.stage).0 fin

cut_judged : (side : Colour) (setup : FullSetup) (t : MatchState) (w0 w b0 b : Side) (r0 r : Watch) → Cut side setup t w0 w b0 b r0 r → IsJudged t
cut_judged side setup t w0 w b0 b r0 r (s, w1, b1, run, br, act) = breaks_judged s t w1 w b1 b br

pub final_judged : (setup : FullSetup) (t : MatchState) (w0 w b0 b : Wire) (r0 r : Watch) → FinalRun setup t w0 w b0 b r0 r → IsJudged t
final_judged setup t w0 w b0 b r0 r final = by_end setup t _ _ _ _ r0 r (IsJudged t) final.ran (λ whole. whole_judged setup t _ _ _ _ r0 r whole) (λ side cut. cut_judged side setup t _ _ _ _ r0 r cut)
