-- A session as a service, and its run.
use Rattle.std.specs.Prelude.{ℕ, false, List, codes}
use Rattle.command_runs.specs.World.{World}
use Rattle.uhp_session.specs.Answers.{SessionState, fresh, next, reply}
use Rattle.uhp_session.specs.Searches.{asks}
use Rattle.line_services.specs.Service.{Service}
use Rattle.line_services.specs.ServiceRun.{ServiceRun}
use Rattle.command_runs.specs.declared.status.Status.{Status}

-- what is written before the first line is read
abbrev pub greeting : List ℕ
greeting = codes "id HiveReferee 1.0\nMosquito;Ladybug;Pillbug\nok\n"

-- The greeting, and the reply to each line, until `exit`. A session goes on after a refusal, and
-- counts as done even if it has refused lines.
abbrev pub session : Service SessionState
session = record {
  begins = fresh;
  preface = greeting;
  asks = asks;
  reply = reply;
  next = next;
  has_refused = λ s. false;
}

-- what was written and read, and which searches were answered, if the run of a session ends with
-- this status
abbrev pub SessionRun : Status → World → World → Type 0
SessionRun status before after = ServiceRun session status before after
