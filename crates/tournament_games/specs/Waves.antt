-- Games that were played wave after wave. What a run of a tournament writes, plays and starts, by
-- the status with which it ends.
use Rattle.std.specs.Prelude.{◌≡◌, ◌⊎◌, ℕ, ◌+◌, ◌*◌, ◌<◌, ◌≤◌, List, ◌++◌, length, map, take}
use Rattle.std.specs.List.{All, AllZip, flat_map, sum_by, zip}
use Rattle.io_edge.specs.Outside.{Told, behind}
use Rattle.io_edge.specs.Starts.{Engines}
use Rattle.command_runs.specs.World.{LeavesEngines, World, sides, world}
use Rattle.command_runs.specs.declared.status.Status.{Status}
use Rattle.command_runs.specs.declared.status.Status.TheVariants.{Done, Refused, Usage, ReadFault, WriteFault, SpawnFault, BadInput, Memory, InputFull}
use Rattle.cup_command.specs.Cup.{started_after}
use Rattle.cup_command.specs.Links.{ClosesLinks, StartsAll, counted}
use Rattle.tournament_core.specs.declared.fixtures.GameEnd.{GameEnd}
use Rattle.tournament_core.specs.declared.plan.Plan.{Plan}
use Rattle.tournament_core.specs.declared.standing.Standing.{Standing as Place}
use Rattle.tournament_core.specs.Schedules.{numbers, schedule}
use Rattle.tournament_core.specs.Ends.{AreStandings, PlayedFixture, points}
use Rattle.tournament_core.specs.Counts.{Counts, IsTallyOf}
use Rattle.tournament_games.specs.Tournaments.{Terms, head_line}
use Rattle.tournament_games.specs.Texts.{standing_text}
use Rattle.tournament_games.specs.Games.{AreNext, IsPlayed, IsSameGame, Job, played_game, told_text}
use Rattle.tournament_games.specs.Links.{CountsFaults, IsFreshJob, Shuts, absences, all_links, job_words}

-- Games

-- a game was played: its state once its programs were started, and its state after its match
pub record IsDone (t : Terms) (old new : Job) : Type 0 where
  pub same : IsSameGame old new
  pub played : IsPlayed t old new

-- These games were played, the next ones after `first` earlier ones. Their programs were started,
-- game by game and white's first, and closed in the same order. At their start no call of their
-- links had failed. The first list has the games as they begin, and the second one as they are
-- after their matches. For each game for which a program could not be started, a start has failed
-- and was counted.
pub record ArePlayed
    (t : Terms) (first : ℕ) (olds news : List Job) (before after : Engines) : Type 0 where
  pub next : AreNext t.plan first olds
  pub fresh : All IsFreshJob olds
  pub done : AllZip (IsDone t) olds news
  pub starts : StartsAll before.to_come after.to_come (all_links olds)
  pub named : after.started ≡ started_after before.started (flat_map (job_words t.engines) olds)
  pub closes : ClosesLinks before.sent after.sent (all_links news)
  pub counts : after.engine_faults ≡ counted (all_links news) before.engine_faults
  pub cause : CountsFaults (absences olds) before.start_faults after.start_faults

-- the lines of games, in their order
abbrev pub games_text : List Job → List ℕ
games_text jobs = flat_map told_text jobs

-- a tally has noted these games after others
abbrev pub Notes : List Job → Counts → Counts → Type 0
Notes news before after =
    (games : List PlayedFixture)
    → IsTallyOf games before
    → IsTallyOf (games ++ map played_game news) after

-- so many games were played and noted, and this is their text
pub record IsWave
    (t : Terms) (first count : ℕ) (text : List ℕ) (tally0 tally : Counts) (before after : Engines)
    : Type 0 where
  pub olds : List Job
  pub news : List Job
  pub played : ArePlayed t first olds news before after
  pub many : length news ≡ count
  pub told : text ≡ games_text news
  pub noted : Notes news tally0 tally

-- The run

-- the games that ended in this way before, which are the first ones of the plan
abbrev pub resumed : Plan → List GameEnd → List PlayedFixture
resumed plan ends = map (λ g. record { fixture = g.0; ended = g.1 }) (zip (schedule plan) ends)

-- all games that were played: the earlier ones, and these
abbrev pub all_games : Terms → List GameEnd → List Job → List PlayedFixture
all_games t ends news = resumed t.plan ends ++ map played_game news

-- the lines of the standings
abbrev pub standings_text : Terms → List Place → List ℕ
standings_text t places = flat_map (standing_text t.engines) places

-- All games after the earlier ones were played. These are the standings of all games, and their
-- points add up to two for each game.
pub record IsPlayedOut
    (t : Terms) (ends : List GameEnd) (olds news : List Job) (places : List Place)
    (before after : Engines) : Type 0 where
  pub played : ArePlayed t (length ends) olds news before after
  pub all : length ends + length news ≡ length (schedule t.plan)
  pub standings : AreStandings t.plan.engines (all_games t ends news) places
  pub sums :
      sum_by (points (all_games t ends news)) (numbers t.plan.engines)
      ≡ 2 * length (schedule t.plan)

-- the lines of all these games were written, and then the standings
pub record Tells
    (t : Terms) (ends : List GameEnd) (olds news : List Job) (places : List Place)
    (before after : World) : Type 0 where
  pub out : IsPlayedOut t ends olds news places before.engines after.engines
  pub wrote :
      after.sides.written
      ≡ behind before.sides.written (games_text news ++ standings_text t places)

-- The lines of whole games were written. A wave of further ones was played too, and of its lines
-- the first n bytes were written, and not all.
pub record CutInGames
    (t : Terms) (first : ℕ) (olds whole cut : List Job) (n : ℕ) (before after : World)
    : Type 0 where
  pub played : ArePlayed t first olds (whole ++ cut) before.engines after.engines
  pub wave : length cut ≤ t.at_once
  pub part : n < length (games_text cut)
  pub wrote :
      after.sides.written
      ≡ behind before.sides.written (games_text whole ++ take n (games_text cut))

-- the lines of all games were written, and the first n bytes of the standings, and not all
pub record CutInStandings
    (t : Terms) (ends : List GameEnd) (olds news : List Job) (places : List Place) (n : ℕ)
    (before after : World) : Type 0 where
  pub out : IsPlayedOut t ends olds news places before.engines after.engines
  pub part : n < length (standings_text t places)
  pub wrote :
      after.sides.written
      ≡ behind before.sides.written (games_text news ++ take n (standings_text t places))

-- Memory ran out. The lines of games were written, whole and in their order. Whatever was started
-- after them was closed.
pub record Starved
    (t : Terms) (first : ℕ) (olds news : List Job) (between : Engines)
    (before after : World) : Type 0 where
  pub played : ArePlayed t first olds news before.engines between
  pub shut : Shuts 0 between after.engines
  pub wrote : after.sides.written ≡ behind before.sides.written (games_text news)

-- the lines of a wave were written
pub record WroteWave
    (t : Terms) (first count : ℕ) (tally0 tally : Counts) (before after : World) : Type 0 where
  pub text : List ℕ
  pub wave : IsWave t first count text tally0 tally before.engines after.engines
  pub wrote : after.sides.written ≡ behind before.sides.written text

-- the first n bytes of a wave's lines were written, and not all
pub record CutWave
    (t : Terms) (first count : ℕ) (tally0 tally : Counts) (before after : World) : Type 0 where
  pub text : List ℕ
  pub n : ℕ
  pub wave : IsWave t first count text tally0 tally before.engines after.engines
  pub part : n < length text
  pub wrote : after.sides.written ≡ behind before.sides.written (take n text)

-- nothing of a wave was written, and whatever was started for it was closed
pub record NoWave (before after : World) : Type 0 where
  pub shut : Shuts 0 before.engines after.engines
  pub wrote : after.sides.written ≡ before.sides.written

-- what was written and played in a wave, by the status with which it ends
abbrev pub WaveRun : Terms → ℕ → ℕ → Counts → Counts → Status → World → World → Type 0
WaveRun t first count tally0 tally Done before after =
    WroteWave t first count tally0 tally before after
WaveRun t first count tally0 tally WriteFault before after =
    CutWave t first count tally0 tally before after
WaveRun t first count tally0 tally Memory before after = NoWave before after
WaveRun t first count tally0 tally Refused before after = ⊥
WaveRun t first count tally0 tally Usage before after = ⊥
WaveRun t first count tally0 tally ReadFault before after = ⊥
WaveRun t first count tally0 tally SpawnFault before after = ⊥
WaveRun t first count tally0 tally BadInput before after = ⊥
WaveRun t first count tally0 tally InputFull before after = ⊥

-- the lines of games were written, whole and in their order, and the games were noted
pub record WroteGames
    (t : Terms) (first : ℕ) (olds news : List Job) (tally0 tally : Counts) (before after : World)
    : Type 0 where
  pub played : ArePlayed t first olds news before.engines after.engines
  pub noted : Notes news tally0 tally
  pub wrote : after.sides.written ≡ behind before.sides.written (games_text news)

-- what was written and played of all games after `first` earlier ones, by the status with which
-- they end
abbrev pub GamesRun : Terms → ℕ → Counts → Counts → Status → World → World → Type 0
GamesRun t first tally0 tally Done before after =
    (olds news : List Job)
    × (first + length news ≡ length (schedule t.plan))
    × WroteGames t first olds news tally0 tally before after
GamesRun t first tally0 tally WriteFault before after =
    (olds whole cut : List Job) × (n : ℕ) × CutInGames t first olds whole cut n before after
GamesRun t first tally0 tally Memory before after =
    (olds news : List Job) × (between : Engines) × Starved t first olds news between before after
GamesRun t first tally0 tally Refused before after = ⊥
GamesRun t first tally0 tally Usage before after = ⊥
GamesRun t first tally0 tally ReadFault before after = ⊥
GamesRun t first tally0 tally SpawnFault before after = ⊥
GamesRun t first tally0 tally BadInput before after = ⊥
GamesRun t first tally0 tally InputFull before after = ⊥

-- the standings of all games that were noted
abbrev pub AreNoted : Terms → Counts → List Place → Type 0
AreNoted t tally places =
    (games : List PlayedFixture) → IsTallyOf games tally → AreStandings t.plan.engines games places

-- the lines of the standings were written
pub record WroteStandings (t : Terms) (tally : Counts) (before after : Told) : Type 0 where
  pub places : List Place
  pub noted : AreNoted t tally places
  pub wrote : after ≡ behind before (standings_text t places)

-- the first n bytes of the standings' lines were written, and not all
pub record CutStandings (t : Terms) (tally : Counts) (before after : Told) : Type 0 where
  pub places : List Place
  pub n : ℕ
  pub noted : AreNoted t tally places
  pub part : n < length (standings_text t places)
  pub wrote : after ≡ behind before (take n (standings_text t places))

-- what was written of the standings, by the status with which it ends
abbrev pub StandingsRun : Terms → Counts → Status → Told → Told → Type 0
StandingsRun t tally Done before after = WroteStandings t tally before after
StandingsRun t tally WriteFault before after = CutStandings t tally before after
StandingsRun t tally Memory before after = after ≡ before
StandingsRun t tally Refused before after = ⊥
StandingsRun t tally Usage before after = ⊥
StandingsRun t tally ReadFault before after = ⊥
StandingsRun t tally SpawnFault before after = ⊥
StandingsRun t tally BadInput before after = ⊥
StandingsRun t tally InputFull before after = ⊥

-- What was written, played and started after the head, if a tournament ends with this status. Its
-- first games ended in this way before. Six statuses are not its own.
abbrev pub HeadedRun : Terms → List GameEnd → Status → World → World → Type 0
HeadedRun t ends Done before after =
    (olds news : List Job) × (places : List Place) × Tells t ends olds news places before after
HeadedRun t ends WriteFault before after =
    ((olds whole cut : List Job)
    × (n : ℕ)
    × CutInGames t (length ends) olds whole cut n before after)
    ⊎ ((olds news : List Job)
    × (places : List Place)
    × (n : ℕ)
    × CutInStandings t ends olds news places n before after)
HeadedRun t ends Memory before after =
    (olds news : List Job)
    × (between : Engines)
    × Starved t (length ends) olds news between before after
HeadedRun t ends Refused before after = ⊥
HeadedRun t ends Usage before after = ⊥
HeadedRun t ends ReadFault before after = ⊥
HeadedRun t ends SpawnFault before after = ⊥
HeadedRun t ends BadInput before after = ⊥
HeadedRun t ends InputFull before after = ⊥

-- the world once the head was written
abbrev pub once_headed : Terms → World → World
once_headed t w =
    world (sides w.sides.rest (behind w.sides.written (head_line t))) w.times w.engines

-- the first n bytes of the head were written, and not all; no program was started
pub record CutHead (t : Terms) (n : ℕ) (before after : World) : Type 0 where
  pub part : n < length (head_line t)
  pub wrote : after.sides.written ≡ behind before.sides.written (take n (head_line t))
  pub unstarted : LeavesEngines before after

-- memory ran out before anything was written, and no program was started
pub record NoneTold (before after : World) : Type 0 where
  pub unwritten : after.sides.written ≡ before.sides.written
  pub unstarted : LeavesEngines before after

-- the head was not written whole
abbrev pub HeadlessRun : Terms → Status → World → World → Type 0
HeadlessRun t WriteFault before after = (n : ℕ) × CutHead t n before after
HeadlessRun t Memory before after = NoneTold before after
HeadlessRun t Done before after = ⊥
HeadlessRun t Refused before after = ⊥
HeadlessRun t Usage before after = ⊥
HeadlessRun t ReadFault before after = ⊥
HeadlessRun t SpawnFault before after = ⊥
HeadlessRun t BadInput before after = ⊥
HeadlessRun t InputFull before after = ⊥

-- What was written, played and started if a tournament ends with this status. Its first games ended
-- in this way before. The head comes first.
abbrev pub TournamentRun : Terms → List GameEnd → Status → World → World → Type 0
TournamentRun t ends status before after =
    HeadedRun t ends status (once_headed t before) after ⊎ HeadlessRun t status before after
