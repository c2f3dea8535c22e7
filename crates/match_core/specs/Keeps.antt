-- The invariant of a referee.
use Rattle.std.specs.Prelude.{◌≡◌, ℕ, ◌+◌, ◌%◌, unwrap_or, ◌^◌, ◌<◌, ◌≤◌, List, [], length}
use Rattle.hive_model.specs.Histories.{History, without_last}
use Rattle.io_edge.specs.Lines.{greatest_line}
use Rattle.game_text.specs.declared.seen.Seen.{Seen}
use Rattle.game_text.specs.Seen.{Sees}
use Rattle.match_core.specs.declared.setup.Setup.{Setup}
use Rattle.match_core.specs.Setups.{FullSetup, setup_of, IsBegin}
use Rattle.match_core.specs.declared.setup.Level.{Level}
use Rattle.match_core.specs.declared.setup.Level.TheVariants.{Depth, Time}
use Rattle.match_core.specs.declared.stage.Task.{Task}
use Rattle.match_core.specs.declared.stage.Task.TheVariants.{Greet, Begin, Ask, Tell}
use Rattle.match_core.specs.declared.stage.Stage.{Stage}
use Rattle.match_core.specs.declared.stage.Stage.TheVariants.{Send, Read, Before, After, Finished}
use Rattle.match_core.specs.declared.stage.Event.{Event}
use Rattle.match_core.specs.declared.stage.Event.TheVariants.{Sent, Line, TooLong, Ended, Broke, Reading}
use Rattle.match_core.specs.Texts.{most_sent, begin_line}
use Rattle.match_core.specs.MatchState.{MatchState, line_for}

-- A depth is from 1 to 64. A time is whole seconds, at most 99 hours, 59 minutes and 59 seconds; a
-- margin is at most an hour.
abbrev pub IsLevel : Level → Type 0
IsLevel (Depth depth) = (1 ≤ depth) × (depth ≤ 64)
IsLevel (Time budget margin) = (budget % 1000 ≡ 0) × (budget ≤ 359999000) × (margin ≤ 3600000)

-- the most plies of a match are from 1 to 1,000
pub record IsSetup (setup : Setup) : Type 0 where
  pub some : 1 ≤ setup.limit
  pub few : setup.limit ≤ 1000
  pub level : IsLevel setup.level

-- the same, and the moves with which it begins are a game
pub record IsFullSetup (setup : FullSetup) : Type 0 where
  pub plain : IsSetup (setup_of setup)
  pub begin : IsBegin setup

-- the game may go on, or still has only the given moves, which may be more than the limit
abbrev pub HasNext : Task → ℕ → ℕ → ℕ → Type 0
HasNext Greet given plies limit = plies ≤ given + limit
HasNext Begin given plies limit = plies ≤ given + limit
HasNext Ask given plies limit = plies < limit
HasNext (Tell told) given plies limit = plies ≤ limit

-- the line of a task is ready; the one that begins the game is kept apart
abbrev pub IsReady : Task → MatchState → List ℕ → Type 0
IsReady Greet s text = text ≡ line_for s Greet
IsReady Begin s text = Unit {0}
IsReady Ask s text = text ≡ line_for s Ask
IsReady (Tell told) s text = text ≡ line_for s (Tell told)

-- the line to send is ready, and the game may go on
abbrev pub FitsStage : Stage → MatchState → List ℕ → Type 0
FitsStage (Send job side) s text =
    IsReady job s text
    × HasNext job (length s.setup.begin) (length s.moves) s.setup.limit
FitsStage (Read job side) s text =
    IsReady job s text
    × HasNext job (length s.setup.begin) (length s.moves) s.setup.limit
FitsStage Before s text = length s.moves < s.setup.limit
FitsStage After s text = length s.moves < s.setup.limit
FitsStage Finished s text = Unit {0}

-- at least one move was made, and the kept keys are those of the positions before the last
pub record SeesBefore (seen : Seen) (game : History) : Type 0 where
  pub made : 1 ≤ length game.made
  pub keys : Sees seen (without_last game)

-- while a move is sent, the key of the position after it is not yet kept
abbrev pub SeesFor : Task → Seen → History → Type 0
SeesFor Greet seen game = Sees seen game
SeesFor Begin seen game = Sees seen game
SeesFor Ask seen game = Sees seen game
SeesFor (Tell told) seen game = SeesBefore seen game

-- The kept keys are those of all positions of the game; while a move is sent, of all but the last.
-- Nothing is said of a match that is over.
abbrev pub SeesAt : Stage → Seen → History → Type 0
SeesAt (Send job side) seen game = SeesFor job seen game
SeesAt (Read job side) seen game = SeesFor job seen game
SeesAt Before seen game = Sees seen game
SeesAt After seen game = Sees seen game
SeesAt Finished seen game = Unit {0}

-- a side is sent a move
abbrev pub IsTold : Task → Type 0
IsTold Greet = ⊥
IsTold Begin = ⊥
IsTold Ask = ⊥
IsTold (Tell told) = Unit {0}

-- a move is being sent: not both sides know it yet
abbrev pub IsTelling : Stage → Type 0
IsTelling (Send job side) = IsTold job
IsTelling (Read job side) = IsTold job
IsTelling Before = ⊥
IsTelling After = ⊥
IsTelling Finished = ⊥

-- a side is sent something other than a move
abbrev pub IsNotTold : Task → Type 0
IsNotTold Greet = Unit {0}
IsNotTold Begin = Unit {0}
IsNotTold Ask = Unit {0}
IsNotTold (Tell told) = ⊥

-- the match is not over, and both sides know all moves
abbrev pub IsSettled : Stage → Type 0
IsSettled (Send job side) = IsNotTold job
IsSettled (Read job side) = IsNotTold job
IsSettled Before = Unit {0}
IsSettled After = Unit {0}
IsSettled Finished = ⊥

-- The game has the moves of the match, the given ones included, with room for the rest, and the
-- setup's rule of third repetition. The keys of the positions are kept, and the line to send is
-- ready.
pub record IsReferee (s : MatchState) (game : History) (seen : Seen) (begin text : List ℕ)
    (given room : ℕ) : Type 0 where
  pub kind : game.game_type ≡ s.setup.game_type
  pub same : game.made ≡ s.moves
  pub spare : s.setup.limit ≤ length s.moves + game.spare
  pub setup : IsSetup (setup_of s.setup)
  pub within : given ≤ length s.moves
  pub line : begin ≡ begin_line s.setup
  pub asked : s.asked < 2 ^ 62
  pub count : s.count ≤ 1000
  pub short : length (unwrap_or s.first []) ≤ greatest_line
  pub rule : seen.repetition ≡ s.setup.repetition
  pub sees : SeesAt s.stage seen game
  pub fits : FitsStage s.stage s text
  pub has_room : most_sent ≤ room

-- a line has to be sent
abbrev pub IsSend : Stage → Type 0
IsSend (Send job side) = Unit {0}
IsSend (Read job side) = ⊥
IsSend Before = ⊥
IsSend After = ⊥
IsSend Finished = ⊥

-- the line to send
abbrev pub line_at : MatchState → Stage → List ℕ
line_at s (Send job side) = line_for s job
line_at s (Read job side) = []
line_at s Before = []
line_at s After = []
line_at s Finished = []

-- a reading is below 2^62
abbrev pub IsEarly : Event → Type 0
IsEarly Sent = Unit {0}
IsEarly Line = Unit {0}
IsEarly TooLong = Unit {0}
IsEarly Ended = Unit {0}
IsEarly Broke = Unit {0}
IsEarly (Reading at) = at < 2 ^ 62
