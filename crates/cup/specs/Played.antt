-- The games of a cup, and what it means that one was played.
use Rattle.std.specs.Prelude.{◌≡◌, ◌≢◌, ◌⊎◌, ℕ, List, map, Option, Some, None, IsSomeAnd, ⊤}
use Rattle.match_core.specs.declared.setup.Level.{Level}
use Rattle.match_core.specs.declared.setup.Level.TheVariants.{Depth, Time}
use Rattle.match_core.specs.declared.setup.Setup.{Setup}
use Rattle.match_core.specs.Setups.{setup_plain}
use Rattle.match_core.specs.declared.verdict.Verdict.{Verdict}
use Rattle.match_core.specs.Keeps.{IsSetup}
use Rattle.match_core.specs.MatchState.{MatchState}
use Rattle.match_runner.specs.Wires.{Wire}
use Rattle.match_runner.specs.Runs.{IsJudged, IsLate, RanLinks}
use Rattle.cup.specs.declared.pairing.Pairing.{Pairing}
use Rattle.cup.specs.declared.standing.Standing.{Standing as Place}
use Rattle.cup.specs.Cup.{AreStandings}

-- a game of a cup: two engines, a link to each, the setup, and the referee once it was played
pub record Job : Type 0 where
  pub white : ℕ
  pub black : ℕ
  pub white_link : Wire
  pub black_link : Wire
  pub setup : Setup
  pub referee : Option MatchState

-- a game that was not played yet, with this setup and these links
abbrev pub ready : Setup → Pairing → Wire → Wire → Job
ready setup game white black = record {
  white = game.white;
  black = game.black;
  white_link = white;
  black_link = black;
  setup = setup;
  referee = None;
}

-- engines are asked to a depth
abbrev pub IsDepth : Level → Type 0
IsDepth (Depth depth) = ⊤
IsDepth (Time budget margin) = ⊥

-- what holds of every game of a cup
pub record IsJob (white black : ℕ) (setup : Setup) : Type 0 where
  pub other : white ≢ black
  pub valid : IsSetup setup
  pub depth : IsDepth setup.level

-- the referee ran the match over these two links, and its verdict is never a late answer
pub record IsRefereed (setup : Setup) (r : MatchState)
    (white0 white black0 black : Wire) : Type 0 where
  pub links : RanLinks (setup_plain setup) r white0 white black0 black
  pub in_time : ¬ IsLate r.verdict

-- the same engines, and the same setup
pub record IsSameGame (old new : Job) : Type 0 where
  pub white : new.white ≡ old.white
  pub black : new.black ≡ old.black
  pub setup : new.setup ≡ old.setup

-- the game was played over the links in their earlier state
abbrev pub IsPlayed : Job → Job → Type 0
IsPlayed old new =
    IsSomeAnd new.referee
    (λ r. IsRefereed old.setup r old.white_link new.white_link old.black_link new.black_link)

-- the game was played, or it has no referee
abbrev pub IsPlayedOrNot : Job → Job → Type 0
IsPlayedOrNot old new = (new.referee ≡ None) ⊎ IsPlayed old new

-- the result for a game: it is the same game, and it was played or has no referee
pub record IsSettled (old new : Job) : Type 0 where
  pub same : IsSameGame old new
  pub settled : IsPlayedOrNot old new

-- Standings

-- who plays in a game
abbrev pub pairing : Job → Pairing
pairing j = record { white = j.white; black = j.black }

-- the game was played to a verdict
abbrev pub HasVerdict : Job → Type 0
HasVerdict j = IsSomeAnd j.referee IsJudged

-- the verdict of the referee, if there is one
abbrev pub verdict_of : Option MatchState → Option Verdict
verdict_of None = None
verdict_of (Some r) = r.verdict

-- the standings of the engines by the verdicts of the games
abbrev pub AreStandingsOf : ℕ → List Job → List Place → Type 0
AreStandingsOf engines jobs list =
    (verdicts : List Verdict) × (map (λ j. verdict_of j.referee) jobs ≡ map Some verdicts)
    × AreStandings engines verdicts list
