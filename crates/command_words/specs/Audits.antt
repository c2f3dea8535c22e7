-- The words that ask for an audit of a program.
use Rattle.std.specs.Prelude.{◌≡◌, ℕ, ◌-◌, ◌^◌, Bool, List, [], ◌∷◌, codes, map, string_bytes, Option, None, Some, is_some, option_map, if◌then◌else◌}
use Rattle.std.specs.declared.string.String.{String}
use Rattle.std.specs.declared.alloc.Global.{Global}
use Rattle.hive_model.specs.declared.pieces.GameType.{GameType}
use Rattle.hive_model.specs.Fields.{IsNumberText, type_bytes}
use Rattle.match_core.specs.declared.setup.Level.{Level}
use Rattle.match_core.specs.declared.setup.Level.TheVariants.{Depth}
use Rattle.option_words.specs.Options.{Gives}
use Rattle.command_words.specs.declared.audits.AuditAsked.{AuditAsked}
use Rattle.command_words.specs.declared.audits.AuditTexts.{AuditTexts}
use Rattle.command_words.specs.declared.engine_limits.EngineLimits.{EngineLimits}
use Rattle.command_words.specs.Matches.{IsCareOf, IsNumberOr, IsProgram, IsRuleOf, between_spaces}

-- a game type, or none if none is given
abbrev pub IsTypeGiven : Option (List ℕ) → Option GameType → Type 0
IsTypeGiven None game_type = game_type ≡ None
IsTypeGiven (Some text) game_type =
    (t : GameType) × (text ≡ type_bytes t) × (game_type ≡ Some t)

-- No time is set for an answer, as in a match to a depth. So the wait for the program is limited by
-- the patience, and without one there is no limit.
abbrev pub untimed : Level
untimed = Depth 1

-- How many findings end an audit. It is 1 if the first finding stops it. Otherwise it is the number
-- given. It is 1,000,000 if none is given, which is the most games, each of one finding at most.
abbrev pub IsMostOf : Option (List ℕ) → Option (List ℕ) → ℕ → Type 0
IsMostOf stop most n =
    (stops : Bool) × (m : ℕ) × IsRuleOf stop stops × IsNumberOr most 1 1000000 1000000 m
    × (n ≡ if stops then 1 else m)

-- the texts of the options of an audit: the three required ones, and the others if they are given
pub record AuditOptions : Type 0 where
  pub engine : List ℕ
  pub games : List ℕ
  pub seed : List ℕ
  pub plies : Option (List ℕ)
  pub game_type : Option (List ℕ)
  pub patience : Option (List ℕ)
  pub quiet : Option (List ℕ)
  pub stop : Option (List ℕ)
  pub first : Option (List ℕ)
  pub most : Option (List ℕ)

-- a program's texts of these options
abbrev pub options_in : AuditTexts → AuditOptions
options_in texts = record {
  engine = texts.engine.now;
  games = texts.games.now;
  seed = texts.seed.now;
  plies = option_map (λ t. t.now) texts.plies;
  game_type = option_map (λ t. t.now) texts.game_type;
  patience = option_map (λ t. t.now) texts.patience;
  quiet = option_map (λ t. t.now) texts.quiet;
  stop = option_map (λ t. t.now) texts.stop;
  first = option_map (λ t. t.now) texts.first;
  most = option_map (λ t. t.now) texts.most;
}

-- the options of an audit, in the order in which their values are given
abbrev pub audit_options : List (List ℕ)
audit_options =
    codes "engine" ∷ (codes "games" ∷ (codes "seed" ∷ (codes "plies" ∷
    (codes "type" ∷ (codes "patience" ∷ (codes "quiet" ∷ (codes "stop" ∷
    (codes "first" ∷ (codes "most" ∷ [])))))))))

abbrev pub audit_values : AuditOptions → List (Option (List ℕ))
audit_values o =
    Some o.engine ∷ (Some o.games ∷ (Some o.seed ∷ (o.plies ∷
    (o.game_type ∷ (o.patience ∷ (o.quiet ∷ (o.stop ∷ (o.first ∷ (o.most ∷ [])))))))))

-- The words are `audit` and its options, with these values.
abbrev pub GiveAudit : List (String Global) → AuditOptions → Type 0
GiveAudit words options =
    Gives (map string_bytes words) (codes "audit") audit_options (audit_values options)

-- The options have values of their form. There are from 1 to 1,000,000 games, with moves drawn from
-- a seed, any number below 2^64. The number of the first game is from 1 to 1,000,000,000, and 1 if
-- none is given. A game has from 1 to 1,000 plies, and 80 if none are given. There is one type for
-- all games, or none. The audit ends behind so many findings. It is patient if there is a limit on
-- the wait for the program.
pub record ChooseAudit (options : AuditOptions) (audit : AuditAsked) : Type 0 where
  pub program : IsProgram options.engine
  pub games_are : IsNumberText options.games 1 1000000 audit.games
  pub first_is : IsNumberOr options.first 1 1000000000 1 audit.first
  pub seed_is : IsNumberText options.seed 0 (2 ^ 64 - 1) audit.seed
  pub plies_are : IsNumberOr options.plies 1 1000 80 audit.plies
  pub kind : IsTypeGiven options.game_type audit.game_type
  pub most_is : IsMostOf options.stop options.most audit.most
  pub care : EngineLimits
  pub care_is : IsCareOf options.patience options.quiet untimed care
  pub patient_is : audit.patient ≡ is_some care.limit

-- The words are `audit` and its options. The program, the games and the seed are required.
pub record AreAuditWords (words : List (String Global)) (audit : AuditAsked) : Type 0 where
  pub options : AuditOptions
  pub give : GiveAudit words options
  pub choose : ChooseAudit options audit

-- The words are `audit` and options, and ask for this care of the program.
abbrev pub AskForAuditCare : List (String Global) → EngineLimits → Type 0
AskForAuditCare words care =
    (o : AuditOptions) × GiveAudit words o × IsCareOf o.patience o.quiet untimed care

-- The words ask for an audit of this program. Its words, the program's name first, are the pieces
-- between the spaces of the value of the option `engine`.
abbrev pub AskForAudited : List (String Global) → List (List ℕ) → Type 0
AskForAudited words program =
    (o : AuditOptions) × GiveAudit words o × (program ≡ between_spaces o.engine)
