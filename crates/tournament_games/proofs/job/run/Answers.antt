use Rattle.std.proofs.Common.{◌∙◌}
use Rattle.std.proofs.lemmas.Result.{IfOk-weaker}
use Rattle.tournament_games.proofs.Steps.{was-run}
use Rattle.tournament_games.proofs.job.run.Goals as goal

pub returns : goal.returns
returns g c = IfOk-weaker c.tell_match.result _ _ (λ told tells. was-run c.in_ok-referee.ensures.ran (c.in_ok-game.ensures.made ∙ c.begin.ensures.value) c.setup-setup.ensures.value tells) c.tell_match.ensures
