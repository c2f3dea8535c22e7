-- Timed searches: what a line asks for, what the entry of a search records, and what the answer
-- took.
use Rattle.std.specs.Prelude.{◌≡◌, ℕ, ◌+◌, ◌<◌, ◌≤◌, List, [], ◌∷◌, ◌++◌, Option, Some, None, Result, Ok, IfOk, OnOk, OnErr, codes, if◌then◌else◌}
use Rattle.std.specs.declared.alloc.AllocError.{AllocError}
use Rattle.hive_model.specs.declared.best.Timed.{Timed}
use Rattle.hive_model.specs.Positions.{Position}
use Rattle.io_edge.specs.Lines.{Line, Text as TextLine, TooLong as LongLine}
use Rattle.hive_model.specs.Minimax.{reads}
use Rattle.command_runs.specs.World.{TakesNoTime, Times}
use Rattle.uhp_words.specs.declared.command.Command.{Command}
use Rattle.uhp_words.specs.declared.command.Command.TheVariants.{BestTime}
use Rattle.uhp_words.specs.declared.command.CommandFault.{CommandFault}
use Rattle.uhp_words.specs.Reading.{command_of}
use Rattle.uhp_session.specs.declared.lines.Reply.{Reply}
use Rattle.uhp_session.specs.Answers.{CurrentGame, SessionState, reached, is_ended, best_text, ended, text_of}

-- What a line asks for

-- a timed search: its budget in milliseconds, and the position that is asked about
pub record Search : Type 0 where
  pub budget : ℕ
  pub position : Position

-- a search with this budget, if a game was begun that is not over
abbrev pub search_in : Option CurrentGame → ℕ → Option Search
search_in None budget = None
search_in (Some g) budget =
    if is_ended g then None else Some (record { budget = budget; position = reached g })

abbrev pub command_search : SessionState → Result Command CommandFault → Option Search
command_search s (Ok (BestTime budget)) = search_in s.game budget
command_search s _ = None

-- The command is not a timed search.
abbrev pub IsUntimed : Command → Type 0
IsUntimed (BestTime budget) = ⊥
IsUntimed _ = Unit {0}

-- the timed search that a line asks for, if it asks for one that is not refused
unfoldable pub asks : SessionState → Line → Option Search
asks s (TextLine bytes) = command_search s (command_of bytes)
asks s LongLine = None

-- What its answer records

-- The entry describes this search. It has its budget, and a depth from 1 to 64, which is below 64
-- only if the time was over.
pub record IsToldOf (asked : Search) (entry : Timed) : Type 0 where
  pub budget : entry.budget ≡ asked.budget
  pub low : 1 ≤ entry.depth
  pub high : entry.depth ≤ 64
  pub late : entry.depth < 64 → entry.started + entry.budget ≤ entry.stopped
  pub order : entry.started ≤ entry.stopped

-- A search was answered, and an entry that describes it was appended.
pub record Searched (asked : Search) (entry : Timed) (before after : Times) : Type 0 where
  pub appended : after.timed ≡ before.timed ++ entry ∷ []
  pub told : IsToldOf asked entry
  pub began : before.last ≤ entry.started
  pub stopped : entry.stopped ≡ after.last
  pub few : after.readings ≤ before.readings + reads asked.position entry.depth

-- A line that asks for this search, or for none, got this answer: at the depth of the search's
-- entry, or without taking time.
abbrev pub IsAnswered : Option Search → (ℕ → Option (List ℕ)) → Option (List ℕ) → Times → Times
    → Type 0
IsAnswered None reply answer before after = (answer ≡ reply 0) × TakesNoTime before after
IsAnswered (Some asked) reply answer before after =
    (entry : Timed) × (answer ≡ reply entry.depth) × Searched asked entry before after

-- A line that asks for this search, or for none, got this answer. The state was the first one
-- before, and must be the given one next. If memory ran out, the state is as before, and no entry
-- was appended. The clock's last reading never falls.
pub record Answered {S : Type 0} (asked : Option Search) (told : ℕ → Option (List ℕ)) (follow : S)
    (result : Result Reply AllocError)
    (old new : S) (before after : Times) : Type 0 where
  pub reply : IfOk result (λ r. IsAnswered asked told (text_of r) before after)
  pub next : OnOk result (new ≡ follow)
  pub err : OnErr result (new ≡ old)
  pub memory : OnErr result (after.timed ≡ before.timed)
  pub later : before.last ≤ after.last

-- The best move of this game at the depth of an entry was answered, and the entry describes this
-- search.
abbrev pub HasTold : Search → CurrentGame → Option (List ℕ) → Times → Times → Type 0
HasTold asked g answer before after =
    (entry : Timed) × (answer ≡ Some (ended (best_text g entry.depth ∷ (codes "ok" ∷ []))))
    × Searched asked entry before after
