use Rattle.std.proofs.Common.{rules, ◌≡◌, false, sym}
use Rattle.std.specs.Prelude.{is_none}
use Rattle.match_core.specs.Setups.{setup_plain}
use Rattle.cup.proofs.EachGame.{ok_some}
use Rattle.cup.proofs.InTime.{never-late}
use Rattle.cup.proofs.job.CupJob.play.Goals as goal

pub returns-clause-played : goal.returns-clause-played
returns-clause-played g c =
    let some : is_none c.ok.result ≡ false = search rules in
    rw (sym c.self.view_is) (ok_some _ _ c.run_match-played.result c.ok.result c.ok.ensures.value some c.run_match-played.ensures.ran
    (λ r ran. record { links = ran.links; in_time = never-late (setup_plain c.self.inside.setup) r _ _ _ _ _ _ _ _ c.self.invariant.depth ran.events.ran }))
