-- How an answer ends, by whether the input was one game.
use Rattle.std.proofs.Common.{rules}
use Rattle.command_runs.specs.GameRun.{AnswersGame, about_game}
use Rattle.command_runs.proofs.AnsweredLemmas.{none_run}
use Rattle.certificate_commands.specs.Certifying.{certificates_of}
use Rattle.certificate_commands.proofs.CertifyLaws.{certified}
use Rattle.certificate_commands.proofs.certifying.certify.Goals as goal

pub returns-in-Err : goal.returns-in-Err
returns-in-Err g c = record {
  run = none_run about_game (AnswersGame (certificates_of c.args.depth)) c.in-Err.none c.tell_none.result _ _ c.in-Err.ensures.none c.tell_none.ensures.told;
  reads = search rules;
  writes = search rules;
}

pub returns : goal.returns
returns g c = record {
  run = certified c.args.depth c.tell_certificate.result _ _ (g.G.Game.history c.in-Ok.game) c.requires.some c.in-Ok.ensures.under_way c.in-Ok.ensures.game c.tell_certificate.ensures.told;
  reads = search rules;
  writes = search rules;
}
