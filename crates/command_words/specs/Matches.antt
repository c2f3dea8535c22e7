-- The words that ask for a match of two programs.
use Rattle.std.specs.Prelude.{◌≡◌, ◌+◌, ℕ, Bool, false, List, [], ◌∷◌, nat_eq, codes, map, string_bytes, Option, None, Some, option_map, IsTrue, if◌then◌else◌}
use Rattle.std.specs.declared.string.String.{String}
use Rattle.std.specs.declared.alloc.Global.{Global}
use Rattle.hive_model.specs.declared.pieces.GameType.{GameType}
use Rattle.hive_model.specs.Fields.{IsNumberText, IsTimeText, type_bytes}
use Rattle.match_core.specs.declared.setup.Level.{Level}
use Rattle.match_core.specs.declared.setup.Level.TheVariants.{Depth, Time}
use Rattle.match_core.specs.declared.setup.Setup.{Setup}
use Rattle.option_words.specs.Options.{Gives, value_at}
use Rattle.command_words.specs.declared.engine_limits.EngineLimits.{EngineLimits}
use Rattle.command_words.specs.declared.setup.ChoiceTexts.{ChoiceTexts}

-- A program and its words

-- a byte before the first of these words
abbrev pub in_first : ℕ → List (List ℕ) → List (List ℕ)
in_first b [] = (b ∷ []) ∷ []
in_first b (word ∷ words) = (b ∷ word) ∷ words

-- the pieces between the spaces (32) of a text
abbrev pub between_spaces : List ℕ → List (List ℕ)
between_spaces [] = [] ∷ []
between_spaces (b ∷ bs) =
    if nat_eq b 32 then [] ∷ between_spaces bs else in_first b (between_spaces bs)

abbrev pub AreSomeBytes : List ℕ → Type 0
AreSomeBytes [] = ⊥
AreSomeBytes (b ∷ bs) = Unit {0}

abbrev pub AreNotEmpty : List (List ℕ) → Type 0
AreNotEmpty [] = Unit {0}
AreNotEmpty (word ∷ words) = AreSomeBytes word × AreNotEmpty words

-- a program and its words, separated by single spaces, none empty
abbrev pub IsProgram : List ℕ → Type 0
IsProgram text = AreNotEmpty (between_spaces text)

-- Options with a default

-- a number in its range, or the default if none is given
abbrev pub IsNumberOr : Option (List ℕ) → ℕ → ℕ → ℕ → ℕ → Type 0
IsNumberOr None least most default n = n ≡ default
IsNumberOr (Some text) least most default n = IsNumberText text least most n

-- a game type, or the base game if none is given
abbrev pub IsTypeOr : Option (List ℕ) → GameType → Type 0
IsTypeOr None t = t ≡ record { mosquito = false; ladybug = false; pillbug = false }
IsTypeOr (Some text) t = text ≡ type_bytes t

-- 1 turns a switch on, such as the rule of third repetition; with 0 or no value it is off
abbrev pub IsRuleOf : Option (List ℕ) → Bool → Type 0
IsRuleOf text r = (n : ℕ) × IsNumberOr text 0 1 0 n × (r ≡ nat_eq n 1)

-- The engines are asked to a depth, which is 2 if none is given, or in a time with this margin, but
-- never both.
abbrev pub IsLevelOf : Option (List ℕ) → Option (List ℕ) → ℕ → Level → Type 0
IsLevelOf depth None margin level = (n : ℕ) × IsNumberOr depth 1 64 2 n × (level ≡ Depth n)
IsLevelOf None (Some time) margin level =
    (budget : ℕ) × IsTimeText time budget × (level ≡ Time budget margin)
IsLevelOf (Some depth) (Some time) margin level = ⊥

-- the milliseconds that an engine has for a move, its margin included; 0 at a depth
abbrev pub time_of : Level → ℕ
time_of (Depth depth) = 0
time_of (Time budget margin) = budget + margin

-- The longest wait for an answer, in milliseconds, if no patience is given. It is ten seconds
-- longer than the time and its margin, and at a depth there is no limit.
abbrev pub usual_limit : Level → Option ℕ
usual_limit (Depth depth) = None
usual_limit (Time budget margin) = Some (budget + margin + 10000)

-- The longest wait for an answer, in milliseconds. If a patience is given, it is longer than the
-- time and its margin by the patience.
abbrev pub IsLimitOf : Option (List ℕ) → Level → Option ℕ → Type 0
IsLimitOf None level limit = limit ≡ usual_limit level
IsLimitOf (Some text) level limit =
    (patience : ℕ) × IsTimeText text patience × (limit ≡ Some (time_of level + patience))

-- This is the longest wait for the engines. If quiet is 1, what they write on standard error is
-- dropped.
pub record IsCareOf (patience quiet : Option (List ℕ)) (level : Level) (care : EngineLimits)
    : Type 0 where
  pub limit_is : IsLimitOf patience level care.limit
  pub quiet_is : IsRuleOf quiet care.quiet

-- the values of the options with a default
pub record Choices : Type 0 where
  pub game_type : Option (List ℕ)
  pub depth : Option (List ℕ)
  pub time : Option (List ℕ)
  pub margin : Option (List ℕ)
  pub plies : Option (List ℕ)
  pub repetition : Option (List ℕ)
  pub patience : Option (List ℕ)
  pub quiet : Option (List ℕ)

-- what a program's texts of these options choose
abbrev pub choices_of : ChoiceTexts → Choices
choices_of texts = record {
  game_type = option_map (λ t. t.now) texts.game_type;
  depth = option_map (λ t. t.now) texts.depth;
  time = option_map (λ t. t.now) texts.time;
  margin = option_map (λ t. t.now) texts.margin;
  plies = option_map (λ t. t.now) texts.plies;
  repetition = option_map (λ t. t.now) texts.repetition;
  patience = option_map (λ t. t.now) texts.patience;
  quiet = option_map (λ t. t.now) texts.quiet;
}

-- A match is played by this setup. The margin is a second if none is given. Its range holds even if
-- no time is given. The options on the care for engines have values of their form.
pub record IsSetupOf (choices : Choices) (setup : Setup) : Type 0 where
  pub kind : IsTypeOr choices.game_type setup.game_type
  pub margin : ℕ
  pub margin_is : IsNumberOr choices.margin 0 3600000 1000 margin
  pub level : IsLevelOf choices.depth choices.time margin setup.level
  pub limit : IsNumberOr choices.plies 1 1000 400 setup.limit
  pub rule : IsRuleOf choices.repetition setup.repetition
  pub care : EngineLimits
  pub care_is : IsCareOf choices.patience choices.quiet setup.level care

-- the options of a match, in the order in which their values are given
abbrev pub match_options : List (List ℕ)
match_options =
    codes "white" ∷ (codes "black" ∷ (codes "type" ∷ (codes "depth" ∷
    (codes "time" ∷ (codes "margin" ∷ (codes "plies" ∷ (codes "repetition" ∷
    (codes "patience" ∷ (codes "quiet" ∷ (codes "from" ∷ []))))))))))

-- their values: the texts of the two programs, the choices for the others, and whether the match
-- begins with a given game
abbrev pub match_values : List ℕ → List ℕ → Choices → Option (List ℕ) → List (Option (List ℕ))
match_values white black choices from =
    Some white ∷ (Some black ∷ (choices.game_type ∷ (choices.depth ∷
    (choices.time ∷ (choices.margin ∷ (choices.plies ∷ (choices.repetition ∷
    (choices.patience ∷ (choices.quiet ∷ (from ∷ []))))))))))

-- what such values choose
abbrev pub match_choices : List (Option (List ℕ)) → Choices
match_choices values = record {
  game_type = value_at values 2;
  depth = value_at values 3;
  time = value_at values 4;
  margin = value_at values 5;
  plies = value_at values 6;
  repetition = value_at values 7;
  patience = value_at values 8;
  quiet = value_at values 9;
}

-- What the words of a match choose: its setup, and, by 1, that it begins with a given game. In that
-- case no type is chosen, since the match is of the type of this game.
pub record IsMatchOf (choices : Choices) (from_text : Option (List ℕ)) (setup : Setup)
    (from : Bool) : Type 0 where
  pub from_is : IsRuleOf from_text from
  pub untyped : IsTrue from → choices.game_type ≡ None
  pub setup_is : IsSetupOf choices setup

-- The words are `match` and its options. The programs of white and of black are required.
pub record AreMatchWords (words : List (String Global)) (setup : Setup) (from : Bool)
    : Type 0 where
  pub white : List ℕ
  pub black : List ℕ
  pub choices : Choices
  pub from_text : Option (List ℕ)
  pub give : Gives (map string_bytes words) (codes "match") match_options
      (match_values white black choices from_text)
  pub white_is : IsProgram white
  pub black_is : IsProgram black
  pub match_is : IsMatchOf choices from_text setup from

-- The words ask for a match by this setup, and for this care of its engines.
abbrev pub AskForMatchCare : List (String Global) → Setup → Bool → EngineLimits → Type 0
AskForMatchCare words setup from care = (w : AreMatchWords words setup from)
    × IsCareOf w.choices.patience w.choices.quiet setup.level care

-- The words ask for a match of these two programs. For each, its words, the program's name first,
-- are the pieces between the spaces of the value of the option `white` or `black`.
pub record AskForPrograms (words : List (String Global))
    (white black : List (List ℕ)) : Type 0 where
  pub white_text : List ℕ
  pub black_text : List ℕ
  pub choices : Choices
  pub from_text : Option (List ℕ)
  pub give : Gives (map string_bytes words) (codes "match") match_options
      (match_values white_text black_text choices from_text)
  pub white_is : white ≡ between_spaces white_text
  pub black_is : black ≡ between_spaces black_text
