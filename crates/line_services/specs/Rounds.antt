-- One round of a service: a line is read and answered, and its reply is written.
use Rattle.std.specs.Prelude.{◌≡◌, ◌⊎◌, ℕ, ◌<◌, ◌≤◌, Bool, List, length, take, None, Some, if◌then◌else◌}
use Rattle.std.specs.declared.option.Option.{Option}
use Rattle.io_edge.specs.Outside.{Told, behind}
use Rattle.io_edge.specs.Lines.{Line}
use Rattle.line_feed.specs.Feed.{Reading, Ends, Gives, Holds, HoldsLittle, Takes, input_limit}
use Rattle.command_runs.specs.Input.{Sides}
use Rattle.command_runs.specs.World.{TakesNoTime, Times}
use Rattle.uhp_session.specs.Searches.{IsAnswered}
use Rattle.line_services.specs.Service.{Service}
use Rattle.command_runs.specs.declared.status.Status.{Status}
use Rattle.command_runs.specs.declared.status.Status.TheVariants.{Done, Refused, ReadFault, WriteFault, Memory, InputFull}
use Rattle.line_services.specs.declared.service.Stop.{Stop}
use Rattle.line_services.specs.declared.service.Stop.TheVariants.{Over, ReadFailed, Full, WriteFailed, NoMemory}

-- the status of a run that stops for this reason, by whether a line was refused
abbrev pub status_of : Bool → Stop → Status
status_of refused Over = if refused then Refused else Done
status_of refused ReadFailed = ReadFault
status_of refused Full = InputFull
status_of refused WriteFailed = WriteFault
status_of refused NoMemory = Memory

-- a service between two lines: its state, its reader, what is known of both sides, and its times
pub record ServiceState (S : Type 0) : Type 0 where
  pub state : S
  pub reader : Reading
  pub sides : Sides
  pub times : Times

abbrev pub service_state : {S : Type 0} → S → Reading → Sides → Times → ServiceState S
service_state state reader sides times = record {
  state = state;
  reader = reader;
  sides = sides;
  times = times;
}

-- This is how a service in this state answers the line.
abbrev pub IsReply : {S : Type 0} → Service S → S → Line → Option (List ℕ) → Times → Times → Type 0
IsReply v s line answer before after =
    IsAnswered (v.asks s line) (v.reply s line) answer before after

-- The service has answered a line in this way, and this is its next state.
pub record Replies {S : Type 0} (v : Service S) (line : Line) (answer : Option (List ℕ))
    (old new : S)
    (before after : Times) : Type 0 where
  pub answered : IsReply v old line answer before after
  pub next : new ≡ v.next old line

-- Memory ran out for the answer to a line. The clock may have been read, but no entry was appended.
pub record IsUnanswered (before after : Times) : Type 0 where
  pub later : before.last ≤ after.last
  pub timed : after.timed ≡ before.timed

-- The line was answered and the reply written, or the run stops for this reason. The bytes that the
-- sink has taken are given before and after, and so are the times.
abbrev pub Answers : {S : Type 0} → Service S → Option Stop → Line → S → S → Told → Told → Times
    → Times → Type 0
Answers v None line old new before after from to =
    (text : List ℕ) × Replies v line (Some text) old new from to × (after ≡ behind before text)
Answers v (Some Over) line old new before after from to =
    Replies v line None old new from to × (after ≡ before)
Answers v (Some WriteFailed) line old new before after from to =
    (text : List ℕ) × (n : ℕ) × Replies v line (Some text) old new from to
    × (n < length text) × (after ≡ behind before (take n text))
Answers v (Some NoMemory) line old new before after from to =
    IsUnanswered from to × (after ≡ before)
Answers v (Some ReadFailed) line old new before after from to = ⊥
Answers v (Some Full) line old new before after from to = ⊥

-- A line was given and answered.
abbrev pub Serves : {S : Type 0} → Service S → Option Stop → List ℕ → ServiceState S
    → ServiceState S
    → Type 0
Serves v stop bytes old new =
    (line : Line) × Gives old.reader bytes line new.reader new.sides.rest
    × Answers v stop line old.state new.state old.sides.written new.sides.written old.times
    new.times

-- No line was given: the input has ended, a read has failed, or the limit is reached.
abbrev pub Stops : Option Stop → List ℕ → Reading → Reading → Told → Type 0
Stops None bytes old new rest = ⊥
Stops (Some Over) bytes old new rest = Ends old bytes new rest
Stops (Some ReadFailed) bytes old new rest = Holds old bytes new × (new.taken < input_limit)
Stops (Some Full) bytes old new rest = Holds old bytes new × (new.taken ≡ input_limit)
Stops (Some WriteFailed) bytes old new rest = ⊥
Stops (Some NoMemory) bytes old new rest = ⊥

-- No line was given, and nothing was answered.
pub record Rests {S : Type 0} (stop : Option Stop) (bytes : List ℕ)
    (old new : ServiceState S) : Type 0 where
  pub stops : Stops stop bytes old.reader new.reader new.sides.rest
  pub same : new.sides.written ≡ old.sides.written
  pub stands : new.state ≡ old.state
  pub time : TakesNoTime old.times new.times

-- a round in which these bytes were read
pub record Round {S : Type 0} (v : Service S) (stop : Option Stop) (bytes : List ℕ)
    (old new : ServiceState S) : Type 0 where
  pub takes : Takes old.sides.rest new.sides.rest old.reader.taken new.reader.taken bytes
  pub within : new.reader.taken ≤ input_limit
  pub little : HoldsLittle new.reader
  pub does : Serves v stop bytes old new ⊎ Rests stop bytes old new

-- a round in which some bytes were read
abbrev pub Rounds : {S : Type 0} → Service S → Option Stop → ServiceState S → ServiceState S
    → Type 0
Rounds v stop old new = (bytes : List ℕ) × Round v stop bytes old new
