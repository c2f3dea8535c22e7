-- The words that ask for a tournament of programs.
use Rattle.std.specs.Prelude.{◌≡◌, ℕ, Bool, List, [], ◌∷◌, codes, map, string_bytes, Option, Some}
use Rattle.std.specs.declared.string.String.{String}
use Rattle.std.specs.declared.alloc.Global.{Global}
use Rattle.match_core.specs.declared.setup.Setup.{Setup}
use Rattle.option_words.specs.Options.{Gives, value_at}
use Rattle.cup.specs.Engines.{Engine}
use Rattle.command_words.specs.declared.engine_limits.EngineLimits.{EngineLimits}
use Rattle.command_words.specs.Engines.{ArePrograms, engine_of, program_texts}
use Rattle.command_words.specs.Matches.{Choices, IsCareOf, IsNumberOr, IsRuleOf, IsSetupOf}

-- the options of a tournament, in the order in which their values are given
abbrev pub tournament_options : List (List ℕ)
tournament_options =
    codes "engines" ∷ (codes "type" ∷ (codes "depth" ∷ (codes "time" ∷
    (codes "margin" ∷ (codes "plies" ∷ (codes "repetition" ∷ (codes "patience" ∷
    (codes "quiet" ∷ (codes "rounds" ∷ (codes "at-once" ∷ (codes "gauntlet" ∷
    (codes "resume" ∷ []))))))))))))

-- their values: the text of the programs, the choices for the options that a match has too, and the
-- values of the others
abbrev pub tournament_values : List ℕ → Choices → Option (List ℕ) → Option (List ℕ)
    → Option (List ℕ) → Option (List ℕ) → List (Option (List ℕ))
tournament_values engines choices rounds at_once gauntlet resume =
    Some engines ∷ (choices.game_type ∷ (choices.depth ∷ (choices.time ∷
    (choices.margin ∷ (choices.plies ∷ (choices.repetition ∷ (choices.patience ∷
    (choices.quiet ∷ (rounds ∷ (at_once ∷ (gauntlet ∷
    (resume ∷ []))))))))))))

-- what such values choose
abbrev pub tournament_choices : List (Option (List ℕ)) → Choices
tournament_choices values = record {
  game_type = value_at values 1;
  depth = value_at values 2;
  time = value_at values 3;
  margin = value_at values 4;
  plies = value_at values 5;
  repetition = value_at values 6;
  patience = value_at values 7;
  quiet = value_at values 8;
}

-- These values, without that of the programs, choose a tournament, as `AreTournamentWords` says.
pub record ChooseTournament (values : List (Option (List ℕ))) (setup : Setup) (rounds : ℕ)
    (gauntlet : Bool) (at_once : ℕ) (resume : Bool) : Type 0 where
  pub setup_is : IsSetupOf (tournament_choices values) setup
  pub rounds_is : IsNumberOr (value_at values 9) 1 10000 1 rounds
  pub at_once_is : IsNumberOr (value_at values 10) 1 64 1 at_once
  pub gauntlet_is : IsRuleOf (value_at values 11) gauntlet
  pub resume_is : IsRuleOf (value_at values 12) resume

-- The words are `tournament` and its options with these values. The programs are required.
pub record TournamentOptions (words : List (String Global)) : Type 0 where
  pub engines : List ℕ
  pub choices : Choices
  pub rounds : Option (List ℕ)
  pub at_once : Option (List ℕ)
  pub gauntlet : Option (List ℕ)
  pub resume : Option (List ℕ)
  pub give : Gives (map string_bytes words) (codes "tournament") tournament_options
      (tournament_values engines choices rounds at_once gauntlet resume)

-- The words ask for a tournament of 2 to 64 programs. They say how each match is played. There are
-- from 1 to 10,000 rounds, and 1 to 64 games at once; each of the two is 1 if not given. With 1,
-- the first engine meets all others, in place of each engine each other one. With 1, games that
-- were played before are handed in.
pub record AreTournamentWords (words : List (String Global)) (setup : Setup) (rounds : ℕ)
    (gauntlet : Bool) (at_once : ℕ) (resume : Bool) : Type 0 where
  pub options : TournamentOptions words
  pub programs : ArePrograms 64 options.engines
  pub setup_is : IsSetupOf options.choices setup
  pub rounds_is : IsNumberOr options.rounds 1 10000 1 rounds
  pub at_once_is : IsNumberOr options.at_once 1 64 1 at_once
  pub gauntlet_is : IsRuleOf options.gauntlet gauntlet
  pub resume_is : IsRuleOf options.resume resume

-- The words ask for a tournament played in this way, and for this care of its engines.
abbrev pub AskForTournamentCare : List (String Global) → Setup → ℕ → Bool → ℕ → Bool → EngineLimits
    → Type 0
AskForTournamentCare words setup rounds gauntlet at_once resume care =
    (w : AreTournamentWords words setup rounds gauntlet at_once resume)
    × IsCareOf w.options.choices.patience w.options.choices.quiet setup.level care

-- The words ask for a tournament of these programs, in this order. They are the texts between the
-- semicolons of the value of the option `engines`.
pub record AskForTournamentEngines (words : List (String Global)) (engines : List Engine)
    : Type 0 where
  pub options : TournamentOptions words
  pub engines_are : engines ≡ map engine_of (program_texts options.engines)
