-- The games of a tournament, and how each of them went.
use Rattle.std.specs.Prelude.{◌≡◌, ◌⊎◌, ℕ, ◌+◌, is_none, List, [], ◌∷◌, ⊤, Option, Some, None, IsSomeAnd, slice_get}
use Rattle.hive_model.specs.declared.pieces.Colour.{Colour}
use Rattle.hive_model.specs.declared.pieces.Colour.TheVariants.{White, Black}
use Rattle.match_core.specs.MatchState.{MatchState}
use Rattle.match_runner.specs.Wires.{Wire}
use Rattle.match_runner.specs.Runs.{HasTimedHistory, LateIn, RanLinks}
use Rattle.tournament_core.specs.declared.fixtures.Fixture.{Fixture}
use Rattle.tournament_core.specs.declared.plan.Plan.{Plan}
use Rattle.tournament_core.specs.Schedules.{schedule}
use Rattle.tournament_core.specs.Ends.{PlayedFixture}
use Rattle.tournament_games.specs.declared.outcome.ToldGame.{ToldGame}
use Rattle.tournament_games.specs.Tournaments.{Terms, begin_of, setup_in}
use Rattle.tournament_games.specs.Texts.{absence_outcome, drawn, match_outcome}

-- A game of a tournament: its number, counted from 1, its opening and its engines. It has the link
-- to white's program and to black's, if it was started, and the outcome, once the game was played.
pub record Job : Type 0 where
  pub number : ℕ
  pub fixture : Fixture
  pub white : Option Wire
  pub black : Option Wire
  pub outcome : Option ToldGame

-- a game that was not played yet
abbrev pub unplayed : ℕ → Fixture → Option Wire → Option Wire → Job
unplayed number fixture white black = record {
  number = number;
  fixture = fixture;
  white = white;
  black = black;
  outcome = None;
}

-- The order of the games

-- the game that is played after `before` earlier ones
pub record IsNext (plan : Plan) (before : ℕ) (job : Job) : Type 0 where
  pub number : job.number ≡ before + 1
  pub fixture : slice_get (schedule plan) before ≡ Some job.fixture

-- the games that are played one after the other, after `before` earlier ones
abbrev pub AreNext : Plan → ℕ → List Job → Type 0
AreNext plan before [] = ⊤
AreNext plan before (job ∷ jobs) = IsNext plan before job × AreNext plan (before + 1) jobs

-- How a game went

-- The match of a game was run over these links, from its opening to its verdict, by readings of a
-- clock of its own. These are the clock's last readings before the match and after it, and this is
-- the outcome.
pub record WasRun
    (t : Terms) (number : ℕ) (f : Fixture) (w0 w b0 b : Wire) (told : ToldGame) : Type 0 where
  pub stands : MatchState
  pub read_before : ℕ
  pub read_now : ℕ
  pub ran : RanLinks (setup_in t f) stands w0 w b0 b
  pub timed : HasTimedHistory (setup_in t f) stands read_before read_now
  pub late : LateIn stands.verdict read_before read_now
  pub tells : told ≡ match_outcome t.setup number f stands

-- both programs have their links, and the match was run over them
pub record IsMatch
    (t : Terms) (number : ℕ) (f : Fixture) (w0 w b0 b : Option Wire) (told : ToldGame)
    : Type 0 where
  pub white_before : Wire
  pub white_after : Wire
  pub black_before : Wire
  pub black_after : Wire
  pub white_begins : w0 ≡ Some white_before
  pub white_ends : w ≡ Some white_after
  pub black_begins : b0 ≡ Some black_before
  pub black_ends : b ≡ Some black_after
  pub run : WasRun t number f white_before white_after black_before black_after told

-- the side that has no link: white if both have none
abbrev pub absent_side : Option Wire → Option Wire → Option Colour
absent_side None black = Some White
absent_side (Some white) None = Some Black
absent_side (Some white) (Some black) = None

-- No match was played, because a program could not be started. Its side forfeits. The links are
-- unchanged.
pub record IsForfeit
    (t : Terms) (number : ℕ) (f : Fixture) (w0 w b0 b : Option Wire) (told : ToldGame)
    : Type 0 where
  pub side : Colour
  pub absent : absent_side w0 b0 ≡ Some side
  pub white : w ≡ w0
  pub black : b ≡ b0
  pub tells : told ≡ absence_outcome t.setup number f (begin_of t f) side

-- a game was played over links in these states before and after it, and this is its outcome
abbrev pub Goes
    : Terms → ℕ → Fixture → Option Wire → Option Wire → Option Wire → Option Wire → ToldGame
    → Type 0
Goes t number f w0 w b0 b told =
    IsMatch t number f w0 w b0 b told ⊎ IsForfeit t number f w0 w b0 b told

-- it is the same game, and has the links that it had
pub record IsSameGame (old new : Job) : Type 0 where
  pub number : new.number ≡ old.number
  pub fixture : new.fixture ≡ old.fixture
  pub white : is_none new.white ≡ is_none old.white
  pub black : is_none new.black ≡ is_none old.black

-- the game was played over the links in their earlier state
abbrev pub IsPlayed : Terms → Job → Job → Type 0
IsPlayed t old new =
    IsSomeAnd new.outcome
    (λ told. Goes t old.number old.fixture old.white new.white old.black new.black told)

-- the result for a game: it is the same game, and it was played or has no outcome
pub record IsSettled (t : Terms) (old new : Job) : Type 0 where
  pub same : IsSameGame old new
  pub settled : (new.outcome ≡ None) ⊎ IsPlayed t old new

-- The result of a game

-- the two lines of a game; none if it has no outcome
abbrev pub text_in : Option ToldGame → List ℕ
text_in None = []
text_in (Some told) = told.text

abbrev pub told_text : Job → List ℕ
told_text job = text_in job.outcome

-- the game for the standings
abbrev pub played_in : Fixture → Option ToldGame → PlayedFixture
played_in f None = record { fixture = f; ended = drawn }
played_in f (Some told) = record { fixture = f; ended = told.ended }

abbrev pub played_game : Job → PlayedFixture
played_game job = played_in job.fixture job.outcome
