-- The links of a cup: their starts and closes, one after another.
use Rattle.std.specs.Prelude.{◌≡◌, ◌≢◌, ℕ, ◌+◌, ◌<◌, ◌≤◌, Bool, List, [], ◌∷◌, ◌++◌, length, take, Option, Some, None, nat_lt, if◌then◌else◌}
use Rattle.std.specs.List.{flat_map, sum_by}
use Rattle.io_edge.specs.Outside.{ToldLists, Starts, Collects, one_more}
use Rattle.io_edge.specs.Starts.{Engines}
use Rattle.match_core.specs.declared.setup.Setup.{Setup}
use Rattle.match_core.specs.Setups.{setup_plain}
use Rattle.match_core.specs.MatchState.{MatchState}
use Rattle.cup.specs.declared.pairing.Pairing.{Pairing}
use Rattle.match_runner.specs.Wires.{IsFresh, Wire}
use Rattle.cup.specs.Played.{Job}
use Rattle.cup_command.specs.Cup.{started_after}
use Rattle.cup_command.specs.Texts.{game_text}

-- Starts

-- the two links of a game, white's first
abbrev pub links_of : Job → List Wire
links_of job = job.white_link ∷ (job.black_link ∷ [])

-- the links of all games, in the order of their starts
abbrev pub all_links : List Job → List Wire
all_links jobs = flat_map links_of jobs

-- programs were started, one after the other, and these are their links
abbrev pub StartsAll : ToldLists → ToldLists → List Wire → Type 0
StartsAll before after [] = after ≡ before
StartsAll before after (link ∷ links) =
    (between : ToldLists)
    × Starts before between link.rest link.written
    × StartsAll between after links

-- programs were started by these words, one after the other, and none was closed
pub record StartsBy (words : List (List (List ℕ))) (before after : Engines) : Type 0 where
  pub named : after.started ≡ started_after before.started words
  pub sent : after.sent ≡ before.sent
  pub failed : after.engine_faults ≡ before.engine_faults

-- a game of two different engines, whose numbers are from 1 to this
pub record IsPaired (engines : ℕ) (game : Pairing) : Type 0 where
  pub white_low : 1 ≤ game.white
  pub white_high : game.white ≤ engines
  pub black_low : 1 ≤ game.black
  pub black_high : game.black ≤ engines
  pub other : game.white ≢ game.black

-- the game was not played, and its links are fresh
pub record IsReady (setup : Setup) (job : Job) : Type 0 where
  pub same : job.setup ≡ setup
  pub white : IsFresh job.white_link.reads job.white_link.writes
  pub black : IsFresh job.black_link.reads job.black_link.writes

-- Closes

-- programs were closed, one after the other, and these were their links
abbrev pub ClosesLinks : ToldLists → ToldLists → List Wire → Type 0
ClosesLinks before after [] = after ≡ before
ClosesLinks before after (link ∷ links) =
    (between : ToldLists) × Collects before between link.written × ClosesLinks between after links

-- whether a read or a write of the link has failed
abbrev pub has_failed : Wire → Bool
has_failed link = nat_lt 0 (link.reads + link.writes)

-- the count of failed programs, after these links were closed
abbrev pub counted : List Wire → ℕ → ℕ
counted [] count = count
counted (link ∷ links) count =
    counted links (if has_failed link then one_more count else count)

-- how many of the links have failed
abbrev pub failures : List Wire → ℕ
failures links = sum_by (λ link. if has_failed link then 1 else 0) links

-- Of the programs with these words the first ones were started, and all of them if no start failed.
-- Then all links were closed, first those that were there before.
pub record GivesUp
    (failed : Type 0) (words : List (List (List ℕ))) (there : List Wire) (before after : Engines)
    : Type 0 where
  pub late : List Wire
  pub few : length late ≤ length words
  pub short : failed → length late < length words
  pub starts : StartsAll before.to_come after.to_come late
  pub closes : ClosesLinks before.sent after.sent (there ++ late)
  pub named : after.started ≡ started_after before.started (take (length late) words)

-- Texts

-- the game was not played, or it was played with this setup
abbrev pub IsOf : Setup → Job → Type 0
IsOf setup job = (t : MatchState) → job.referee ≡ Some t → t.setup ≡ setup_plain setup

-- the lines of a game, if it was played
abbrev pub ended_text : Setup → Pairing → Option MatchState → List ℕ
ended_text setup game None = []
ended_text setup game (Some t) = game_text setup game t

-- the lines of games
abbrev pub jobs_text : Setup → List (Pairing × Job) → List ℕ
jobs_text setup games = flat_map (λ g. ended_text setup g.0 g.1.referee) games
