-- What the run of a service writes and reads, and the time that it takes, by the status with which
-- it ends.
use Rattle.std.specs.Prelude.{◌≡◌, ◌⊎◌, ℕ, ◌<◌, ◌≤◌, Bool, true, false, List, [], ◌∷◌, ◌++◌, length, take}
use Rattle.io_edge.specs.Outside.{Told, behind}
use Rattle.hive_model.specs.declared.best.Timed.{Timed}
use Rattle.io_edge.specs.Lines.{Line, lines, whole_lines}
use Rattle.line_feed.specs.Feed.{input_limit}
use Rattle.line_feed.specs.SoFar.{WasRead}
use Rattle.command_runs.specs.Input.{IsAllRead, WereRead, WhereTold}
use Rattle.command_runs.specs.World.{World}
use Rattle.line_services.specs.Service.{HasExit, Service, joined, last_of, output, searches, texts}
use Rattle.line_services.specs.Times.{AreTold, TellsOf, depths}
use Rattle.command_runs.specs.declared.status.Status.{Status}
use Rattle.command_runs.specs.declared.status.Status.TheVariants.{Done, Refused, Usage, ReadFault, WriteFault, SpawnFault, BadInput, Memory, InputFull}

-- The searches that these lines ask for were answered, and these entries describe them.
abbrev pub TellsOfLines : {S : Type 0} → Service S → List Line → List Timed → World → World → Type 0
TellsOfLines v ls entries before after =
    TellsOf (searches v v.begins (depths entries) ls) entries before.times after.times

-- One of the lines read ends the run.
abbrev pub ExitWasRead : {S : Type 0} → Service S → List ℕ → List ℕ → Told → Type 0
ExitWasRead v left input rest =
    (read : List Line) × WereRead input rest read × HasExit v v.begins left read

-- All of the output for the lines of the input was written, at the depths of these entries. The
-- entries describe the searches of these lines. The input was read to its end, or to the line that
-- ends the run. This is then the state of the service.
pub record WroteAll {S : Type 0} (v : Service S) (input : List ℕ) (entries : List Timed)
    (before after : World) (last : S) : Type 0 where
  pub wrote : after.sides.written ≡ behind before.sides.written
      (output v (depths entries) (lines input))
  pub tells : TellsOfLines v (lines input) entries before after
  pub stands : last_of v v.begins (depths entries) (lines input) ≡ last
  pub over : IsAllRead input after.sides.rest
      ⊎ ExitWasRead v (depths entries) input after.sides.rest

-- These bytes have left the source. None of their lines that end in LF ends the run. The output for
-- these lines was written, and the entries describe their searches.
pub record WroteWhole {S : Type 0} (v : Service S) (input : List ℕ) (entries : List Timed)
    (before after : World) (bytes left : List ℕ) : Type 0 where
  pub was_read : WasRead input after.sides.rest bytes left
  pub goes_on : ¬ HasExit v v.begins (depths entries) (whole_lines bytes)
  pub wrote :
      after.sides.written ≡ behind before.sides.written
      (output v (depths entries) (whole_lines bytes))
  pub tells : TellsOfLines v (whole_lines bytes) entries before after

-- None of the lines that were read ends the run. The output for them is the preface and a reply to
-- each. Of these texts all but the last were written whole. Of the last, the first n bytes were
-- written, but not all. All these lines were answered, and the entries describe their searches.
pub record WroteFront {S : Type 0} (v : Service S) (input : List ℕ) (entries : List Timed)
    (before after : World) (read : List Line) (whole : List (List ℕ)) (last : List ℕ)
    (n : ℕ) : Type 0 where
  pub were_read : WereRead input after.sides.rest read
  pub goes_on : ¬ HasExit v v.begins (depths entries) read
  pub are_texts : texts v (depths entries) read ≡ whole ++ last ∷ []
  pub cut : n < length last
  pub wrote : after.sides.written ≡ behind before.sides.written (joined whole ++ take n last)
  pub tells : TellsOfLines v read entries before after

-- Of the lines that were read, the first were answered. Whole texts were written, the first n of
-- those for the answered lines. The entries describe the searches of these lines. The clock may
-- have been read for a search that has no entry.
pub record WroteTexts {S : Type 0} (v : Service S) (input : List ℕ) (entries : List Timed)
    (before after : World) (answered others : List Line) (n : ℕ) : Type 0 where
  pub were_read : WereRead input after.sides.rest (answered ++ others)
  pub wrote :
      after.sides.written
      ≡ behind before.sides.written (joined (take n (texts v (depths entries) answered)))
  pub appended : after.times.timed ≡ before.times.timed ++ entries
  pub told :
      AreTold (searches v v.begins
      (depths entries) answered) before.times.last entries after.times.last

-- The ends of a run

-- The run came to its end, and this says whether the service has refused a line.
abbrev pub RunsToEnd : {S : Type 0} → Service S → Bool → World → World → Type 0
RunsToEnd {S} v refused before after =
    (last : S) × (v.has_refused last ≡ refused)
    × WhereTold before.sides.rest
    (λ input. (entries : List Timed) × WroteAll v input entries before after last)

-- A read failed, or the limit was reached. The condition is on the number of bytes that were read.
abbrev pub RunsWhile : {S : Type 0} → Service S → (ℕ → Type 0) → World → World → Type 0
RunsWhile v many before after =
    WhereTold before.sides.rest (λ input.
    (entries : List Timed) × (bytes : List ℕ) × (left : List ℕ) × many (length bytes)
    × WroteWhole v input entries before after bytes left)

-- A write failed.
abbrev pub RunsToCut : {S : Type 0} → Service S → World → World → Type 0
RunsToCut v before after =
    WhereTold before.sides.rest (λ input.
    (entries : List Timed) × (read : List Line) × (whole : List (List ℕ)) × (last : List ℕ)
    × (n : ℕ)
    × WroteFront v input entries before after read whole last n)

-- Memory ran out.
abbrev pub RunsToWant : {S : Type 0} → Service S → World → World → Type 0
RunsToWant v before after =
    WhereTold before.sides.rest (λ input.
    (entries : List Timed) × (answered : List Line) × (others : List Line) × (n : ℕ)
    × WroteTexts v input entries before after answered others n)

-- What was written and read, and which searches were answered, if the run of a service ends with
-- this status. A service never ends with one of the last three.
abbrev pub EndsAs : {S : Type 0} → Service S → Status → World → World → Type 0
EndsAs v Done before after = RunsToEnd v false before after
EndsAs v Refused before after = RunsToEnd v true before after
EndsAs v ReadFault before after = RunsWhile v (λ many. many < input_limit) before after
EndsAs v InputFull before after = RunsWhile v (λ many. many ≡ input_limit) before after
EndsAs v WriteFault before after = RunsToCut v before after
EndsAs v Memory before after = RunsToWant v before after
EndsAs v Usage before after = ⊥
EndsAs v SpawnFault before after = ⊥
EndsAs v BadInput before after = ⊥

-- The run of a service that ends with this status. The clock's last reading never falls.
pub record ServiceRun {S : Type 0} (v : Service S) (status : Status)
    (before after : World) : Type 0 where
  pub ends : EndsAs v status before after
  pub later : before.times.last ≤ after.times.last
