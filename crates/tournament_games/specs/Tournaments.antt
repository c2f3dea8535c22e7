-- The terms of a tournament.
use Rattle.std.specs.Prelude.{◌≡◌, ℕ, ◌≤◌, List, [], length, slice_get, unwrap_or}
use Rattle.std.specs.List.{All}
use Rattle.hive_model.specs.declared.places.Move.{Move}
use Rattle.match_core.specs.declared.setup.Setup.{Setup}
use Rattle.match_core.specs.Setups.{FullSetup, setup_from}
use Rattle.match_core.specs.Keeps.{IsSetup}
use Rattle.cup.specs.Engines.{Engine}
use Rattle.tournament_core.specs.declared.fixtures.Fixture.{Fixture}
use Rattle.tournament_core.specs.declared.plan.Plan.{Plan}
use Rattle.tournament_core.specs.Schedules.{IsPlan}
use Rattle.tournament_record.specs.declared.parts.HeadPart.{HeadPart}
use Rattle.tournament_record.specs.Heads.{head, head_text}
use Rattle.tournament_record.specs.Openings.{IsOpening}

-- The terms of a tournament: its programs, its plan, the setup of the matches, and the moves of
-- each opening. They also say how many games are played at once. The plan says who plays whom and
-- how often.
pub record Terms : Type 0 where
  pub engines : List Engine
  pub plan : Plan
  pub setup : Setup
  pub openings : List (List Move)
  pub at_once : ℕ

abbrev pub terms : List Engine → Plan → Setup → List (List Move) → ℕ → Terms
terms engines plan setup openings at_once = record {
  engines = engines;
  plan = plan;
  setup = setup;
  openings = openings;
  at_once = at_once;
}

-- What holds of every tournament. The plan is for its programs and its openings. Each opening is a
-- game of the setup's type, and 1 to 64 games are played at once.
pub record IsTerms (t : Terms) : Type 0 where
  pub plan : IsPlan t.plan
  pub engines : length t.engines ≡ t.plan.engines
  pub openings : length t.openings ≡ t.plan.openings
  pub each : All (IsOpening t.setup.game_type) t.openings
  pub setup : IsSetup t.setup
  pub some : 1 ≤ t.at_once
  pub few : t.at_once ≤ 64

-- the moves that a game begins with: those of its opening
abbrev pub begin_of : Terms → Fixture → List Move
begin_of t f = unwrap_or (slice_get t.openings f.opening) []

-- the setup of a game's match
abbrev pub setup_in : Terms → Fixture → FullSetup
setup_in t f = setup_from t.setup (begin_of t f)

-- the parts of its head
abbrev pub head_of : Terms → List HeadPart
head_of t = head t.engines t.plan t.setup t.openings

-- the line of its head, with its LF
abbrev pub head_line : Terms → List ℕ
head_line t = head_text (head_of t)
