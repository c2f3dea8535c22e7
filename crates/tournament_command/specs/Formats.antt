-- How a tournament is asked for, and what it is played by.
use Rattle.std.specs.Prelude.{ℕ, ◌≤◌, List, [], ◌∷◌, length}
use Rattle.hive_model.specs.declared.places.Move.{Move}
use Rattle.match_core.specs.Keeps.{IsSetup}
use Rattle.cup.specs.Engines.{Engine}
use Rattle.tournament_core.specs.declared.plan.Plan.{Plan}
use Rattle.tournament_games.specs.Tournaments.{Terms, terms}
use Rattle.tournament_command.specs.declared.format.Format.{Format}

-- matches are played by a setup, in 1 to 10,000 rounds, 1 to 64 of them at once
pub record IsFormat (f : Format) : Type 0 where
  pub setup : IsSetup f.setup
  pub some_rounds : 1 ≤ f.rounds
  pub few_rounds : f.rounds ≤ 10000
  pub some : 1 ≤ f.at_once
  pub few : f.at_once ≤ 64

-- the openings of a tournament are those that are given; where none is given, its games begin with
-- no move
abbrev pub openings_of : List (List Move) → List (List Move)
openings_of [] = [] ∷ []
openings_of (opening ∷ others) = opening ∷ others

-- who plays whom, where there are so many engines and these openings are given
abbrev pub plan_of : Format → ℕ → List (List Move) → Plan
plan_of f engines openings = record {
  engines = engines;
  rounds = f.rounds;
  openings = length (openings_of openings);
  gauntlet = f.gauntlet;
}

-- what a tournament of these engines is played by, where these openings are given
abbrev pub terms_of : List Engine → Format → List (List Move) → Terms
terms_of engines f openings =
    terms engines (plan_of f (length engines) openings) f.setup (openings_of openings) f.at_once
