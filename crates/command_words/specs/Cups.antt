-- The words that ask for a cup of programs.
use Rattle.std.specs.Prelude.{◌≡◌, ℕ, List, [], ◌∷◌, codes, map, string_bytes, Option, None, Some}
use Rattle.std.specs.declared.string.String.{String}
use Rattle.std.specs.declared.alloc.Global.{Global}
use Rattle.match_core.specs.declared.setup.Setup.{Setup}
use Rattle.option_words.specs.Options.{Gives}
use Rattle.cup.specs.Engines.{Engine}
use Rattle.command_words.specs.declared.engine_limits.EngineLimits.{EngineLimits}
use Rattle.command_words.specs.Engines.{ArePrograms}
pub use Rattle.command_words.specs.Engines.{engine_of, program_texts}
use Rattle.command_words.specs.Matches.{Choices, IsCareOf, IsSetupOf}

abbrev pub cup_options : List (List ℕ)
cup_options = codes "engines" ∷ (codes "type" ∷ (codes "depth" ∷ (codes "plies" ∷
    (codes "patience" ∷ (codes "quiet" ∷ [])))))

abbrev pub cup_values : List ℕ → Option (List ℕ) → Option (List ℕ) → Option (List ℕ)
    → Option (List ℕ) → Option (List ℕ) → List (Option (List ℕ))
cup_values engines game_type depth plies patience quiet =
    Some engines ∷ (game_type ∷ (depth ∷ (plies ∷ (patience ∷ (quiet ∷ [])))))

-- the options of a match that a cup has too; a cup is played to a depth, without the rule of third
-- repetition
abbrev pub cup_choices : Option (List ℕ) → Option (List ℕ) → Option (List ℕ)
    → Option (List ℕ) → Option (List ℕ) → Choices
cup_choices game_type depth plies patience quiet =
    record {
      game_type = game_type;
      depth = depth;
      time = None;
      margin = None;
      plies = plies;
      repetition = None;
      patience = patience;
      quiet = quiet;
    }

-- The words are `cup` and its options with these values. The programs are required.
pub record CupOptions (words : List (String Global)) : Type 0 where
  pub engines : List ℕ
  pub game_type : Option (List ℕ)
  pub depth : Option (List ℕ)
  pub plies : Option (List ℕ)
  pub patience : Option (List ℕ)
  pub quiet : Option (List ℕ)
  pub give : Gives (map string_bytes words) (codes "cup") cup_options
      (cup_values engines game_type depth plies patience quiet)

-- what these values choose
abbrev pub chosen : {words : List (String Global)} → CupOptions words → Choices
chosen o = cup_choices o.game_type o.depth o.plies o.patience o.quiet

-- The words ask for a cup of 2 to 8 programs. Each game is played by the setup of a match to a
-- depth, without the rule of third repetition.
pub record AreCupWords (words : List (String Global)) (setup : Setup) : Type 0 where
  pub options : CupOptions words
  pub programs : ArePrograms 8 options.engines
  pub setup_is : IsSetupOf (chosen options) setup

-- The words ask for a cup by this setup, and for this care of its engines.
abbrev pub AskForCupCare : List (String Global) → Setup → EngineLimits → Type 0
AskForCupCare words setup care = (w : AreCupWords words setup)
    × IsCareOf w.options.patience w.options.quiet setup.level care

-- The words ask for a cup of these programs, in this order. They are the texts between the
-- semicolons of the value of the option `engines`.
pub record AskForEngines (words : List (String Global)) (engines : List Engine) : Type 0 where
  pub options : CupOptions words
  pub engines_are : engines ≡ map engine_of (program_texts options.engines)
