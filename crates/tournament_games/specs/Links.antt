-- The links of the games of a tournament: their starts and their closes.
use Rattle.std.specs.Prelude.{◌≡◌, ℕ, ◌+◌, ◌^◌, ◌<◌, ◌≤◌, Bool, ◌||◌, is_none, List, ◌++◌, length, map, Option, None, IfSome}
use Rattle.std.specs.List.{All, count_by, flat_map}
use Rattle.std.specs.Option.{option_to_list}
use Rattle.io_edge.specs.Outside.{HasCause}
use Rattle.io_edge.specs.Starts.{Engines}
use Rattle.match_runner.specs.Wires.{IsFresh, Wire}
use Rattle.cup.specs.Engines.{Engine}
use Rattle.cup_command.specs.Cup.{RoseBy, started_after, words_of}
use Rattle.cup_command.specs.Links.{ClosesLinks, StartsAll}
use Rattle.tournament_games.specs.Games.{Job}

-- the links of a game, white's first; a program that was not started has none
abbrev pub links_of : Job → List Wire
links_of job = option_to_list job.white ++ option_to_list job.black

-- the links of all games, in the order of the starts
abbrev pub all_links : List Job → List Wire
all_links jobs = flat_map links_of jobs

-- the words of a program, if it was started
abbrev pub words_if : Option Wire → List (List ℕ) → List (List (List ℕ))
words_if link words = map (λ one. words) (option_to_list link)

-- the words of the programs of a game that were started, white's first
abbrev pub job_words : List Engine → Job → List (List (List ℕ))
job_words engines job =
    words_if job.white (words_of engines job.fixture.white)
    ++ words_if job.black (words_of engines job.fixture.black)

-- a program of the game could not be started
abbrev pub is_absent : Job → Bool
is_absent job = is_none job.white || is_none job.black

-- the number of games for which a program could not be started
abbrev pub absences : List Job → ℕ
absences jobs = count_by is_absent jobs

-- So many calls have failed, and were counted. The count rose by at least this number, or has
-- reached the greatest u64. If no call has failed, it is unchanged.
pub record CountsFaults (number before now : ℕ) : Type 0 where
  pub later : before ≤ now
  pub rose : RoseBy number before now
  pub same : number ≡ 0 → now ≡ before
  pub below : 0 < number → now < 2 ^ 64

-- no call of its links has failed yet; if white's program was not started, black's was not
pub record IsFreshJob (job : Job) : Type 0 where
  pub white : IfSome job.white (λ link. IsFresh link.reads link.writes)
  pub black : IfSome job.black (λ link. IsFresh link.reads link.writes)
  pub alone : job.white ≡ None → job.black ≡ None

-- a program was started by these words; or it could not be started, and that was counted
pub record IsStart
    (words : List (List ℕ)) (link : Option Wire) (before after : Engines) : Type 0 where
  pub fresh : IfSome link (λ one. IsFresh one.reads one.writes)
  pub starts : StartsAll before.to_come after.to_come (option_to_list link)
  pub named : after.started ≡ started_after before.started (words_if link words)
  pub sent : after.sent ≡ before.sent
  pub failed : after.engine_faults ≡ before.engine_faults
  pub cause : HasCause (link ≡ None) before.start_faults after.start_faults

-- The programs of these games were started, game by game and white's first, and none was closed.
-- For each game for which a program could not be started, a start has failed and was counted.
pub record AreStarted
    (engines : List Engine) (jobs : List Job) (before after : Engines) : Type 0 where
  pub fresh : All IsFreshJob jobs
  pub starts : StartsAll before.to_come after.to_come (all_links jobs)
  pub named : after.started ≡ started_after before.started (flat_map (job_words engines) jobs)
  pub sent : after.sent ≡ before.sent
  pub failed : after.engine_faults ≡ before.engine_faults
  pub cause : CountsFaults (absences jobs) before.start_faults after.start_faults

-- programs were started, and as many were closed as were open before or were started now: none is
-- left open
pub record Shuts (open_before : ℕ) (before after : Engines) : Type 0 where
  pub opened : List Wire
  pub closed : List Wire
  pub starts : StartsAll before.to_come after.to_come opened
  pub closes : ClosesLinks before.sent after.sent closed
  pub many : length closed ≡ open_before + length opened
