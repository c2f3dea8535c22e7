-- The words of the command line, and what they ask for.
use Rattle.std.specs.Prelude.{◌≡◌, ◌⊎◌, ℕ, ◌-◌, ◌^◌, ◌≤◌, Bool, List, [], ◌∷◌, map, codes, string_bytes, Option, None, Some, IfSome, IsTrue, false}
use Rattle.std.specs.declared.string.String.{String}
use Rattle.std.specs.declared.alloc.Global.{Global}
use Rattle.hive_model.specs.Fields.{IsNumberText}
use Rattle.match_core.specs.Keeps.{IsSetup}
use Rattle.option_words.specs.Options.{GiveOne, Gives}
use Rattle.command_words.specs.declared.asked.Asked.{Asked}
use Rattle.command_words.specs.declared.asked.Asked.TheVariants.{Session, Replay, Count, Grow, Certify, Check, Solve, Verify, Match, Cup, Book, Migrate, Audit, Tournament}
use Rattle.command_words.specs.declared.engine_limits.EngineLimits.{EngineLimits}
use Rattle.command_words.specs.declared.name.Name.{Name}
use Rattle.command_words.specs.declared.name.Name.TheVariants.{Uhp, Replay as ReplayName, Count as CountName, Grow as GrowName, Certify as CertifyName, Check as CheckName, Solve as SolveName, Verify as VerifyName, Match as MatchName, Cup as CupName, Book as BookName, Migrate as MigrateName, Audit as AuditName, Tournament as TournamentName}
use Rattle.command_words.specs.Audits.{AreAuditWords, AskForAuditCare}
use Rattle.command_words.specs.Cups.{AreCupWords, AskForCupCare}
use Rattle.command_words.specs.Matches.{AreMatchWords, AskForMatchCare, IsNumberOr, IsRuleOf}
use Rattle.command_words.specs.Names.{name_text, named, takes_option}
use Rattle.command_words.specs.Tournaments.{AreTournamentWords, AskForTournamentCare}

-- the name of a command, alone
abbrev pub AreAlone : List (String Global) → Name → Type 0
AreAlone words name = map string_bytes words ≡ name_text name ∷ []

-- the words that ask for a session: none, or `uhp` alone
abbrev pub AreUhpWords : List (String Global) → Type 0
AreUhpWords words = (map string_bytes words ≡ []) ⊎ AreAlone words Uhp

-- a command and its one option, a number from `least` to `most`
pub record AreNumbered (words : List (String Global)) (command option : List ℕ)
    (least most n : ℕ) : Type 0 where
  pub value : List ℕ
  pub give : GiveOne (map string_bytes words) command option value
  pub number : IsNumberText value least most n

-- A number of plies from 1 to 8, and of workers from 1 to 16, 1 where none is given. By 1 the parts
-- of the count are asked for in place of it.
pub record AreCounts (plies_text : List ℕ) (workers_text split_text : Option (List ℕ))
    (plies workers : ℕ) (split : Bool) : Type 0 where
  pub plies_are : IsNumberText plies_text 1 8 plies
  pub workers_are : IsNumberOr workers_text 1 16 1 workers
  pub split_is : IsRuleOf split_text split

-- `count` and the options `plies`, which is required, `workers` and `split`
pub record AreCountWords (words : List (String Global)) (plies workers : ℕ) (split : Bool)
    : Type 0 where
  pub plies_text : List ℕ
  pub workers_text : Option (List ℕ)
  pub split_text : Option (List ℕ)
  pub give : Gives (map string_bytes words) (codes "count")
      (codes "plies" ∷ (codes "workers" ∷ (codes "split" ∷ [])))
      (Some plies_text ∷ (workers_text ∷ (split_text ∷ [])))
  pub counts : AreCounts plies_text workers_text split_text plies workers split

-- a seed, which is any number below 2^64, and a number of plies from 1 to 1,000
pub record AreGrowth (seed_text plies_text : List ℕ) (seed plies : ℕ) : Type 0 where
  pub seed_is : IsNumberText seed_text 0 (2 ^ 64 - 1) seed
  pub plies_is : IsNumberText plies_text 1 1000 plies

-- The words are `grow` and the options `seed` and `plies`, both required.
pub record AreGrowWords (words : List (String Global)) (seed plies : ℕ) : Type 0 where
  pub seed_text : List ℕ
  pub plies_text : List ℕ
  pub give : Gives (map string_bytes words) (codes "grow") (codes "seed" ∷ (codes "plies" ∷ []))
      (Some seed_text ∷ (Some plies_text ∷ []))
  pub growth : AreGrowth seed_text plies_text seed plies

-- The words are `replay`, alone or with the option `repetition`.
pub record AreReplayWords (words : List (String Global)) (repetition : Bool) : Type 0 where
  pub value : Option (List ℕ)
  pub give : Gives (map string_bytes words) (codes "replay") (codes "repetition" ∷ []) (value ∷ [])
  pub rule : IsRuleOf value repetition

-- The words ask for this.
abbrev pub Words : List (String Global) → Asked → Type 0
Words words Session = AreUhpWords words
Words words (Replay repetition) = AreReplayWords words repetition
Words words (Count plies workers split) = AreCountWords words plies workers split
Words words (Grow seed plies) = AreGrowWords words seed plies
Words words (Certify depth) = AreNumbered words (codes "certify") (codes "depth") 1 64 depth
Words words Check = AreAlone words CheckName
Words words (Solve plies) = AreNumbered words (codes "solve") (codes "plies") 1 16 plies
Words words Verify = AreAlone words VerifyName
Words words (Match setup from) = AreMatchWords words setup from
Words words (Cup setup) = AreCupWords words setup
Words words Book = AreAlone words BookName
Words words Migrate = AreAlone words MigrateName
Words words (Audit audit) = AreAuditWords words audit
Words words (Tournament setup rounds gauntlet at_once resume) =
    AreTournamentWords words setup rounds gauntlet at_once resume

-- There is no limit on the wait for engines, and nothing that they write is dropped.
abbrev pub no_care : EngineLimits
no_care = record { limit = None; quiet = false }

-- the care for engines that the words of a match, a cup, a tournament or an audit ask for; for
-- other words there is none
abbrev pub CaresFor : List (String Global) → Asked → EngineLimits → Type 0
CaresFor words Session care = care ≡ no_care
CaresFor words (Replay repetition) care = care ≡ no_care
CaresFor words (Count plies workers split) care = care ≡ no_care
CaresFor words (Grow seed plies) care = care ≡ no_care
CaresFor words (Certify depth) care = care ≡ no_care
CaresFor words Check care = care ≡ no_care
CaresFor words (Solve plies) care = care ≡ no_care
CaresFor words Verify care = care ≡ no_care
CaresFor words (Match setup from) care = AskForMatchCare words setup from care
CaresFor words (Cup setup) care = AskForCupCare words setup care
CaresFor words Book care = care ≡ no_care
CaresFor words Migrate care = care ≡ no_care
CaresFor words (Audit audit) care = AskForAuditCare words care
CaresFor words (Tournament setup rounds gauntlet at_once resume) care =
    AskForTournamentCare words setup rounds gauntlet at_once resume care

-- The words ask for nothing that the program does.
abbrev pub AreOfNoCommand : List (String Global) → Type 0
AreOfNoCommand words = (asked : Asked) → ¬ Words words asked

-- the command that is asked for
abbrev pub name_of : Asked → Name
name_of Session = Uhp
name_of (Replay repetition) = ReplayName
name_of (Count plies workers split) = CountName
name_of (Grow seed plies) = GrowName
name_of (Certify depth) = CertifyName
name_of Check = CheckName
name_of (Solve plies) = SolveName
name_of Verify = VerifyName
name_of (Match setup from) = MatchName
name_of (Cup setup) = CupName
name_of Book = BookName
name_of Migrate = MigrateName
name_of (Audit audit) = AuditName
name_of (Tournament setup rounds gauntlet at_once resume) = TournamentName

-- The words ask for what was found, if anything, and for nothing else with this name.
pub record Finds (words : List (String Global)) (name : Name) (found : Option Asked)
    : Type 0 where
  pub asked : IfSome found (λ a. Words words a)
  pub only : (a : Asked) → Words words a → name_of a ≡ name → found ≡ Some a

-- The first word names a command that takes an option.
abbrev pub TakeOption : List (List ℕ) → Type 0
TakeOption words = (name : Name) × (named words ≡ Some name) × IsTrue (takes_option name)

-- The numbers that are asked for are in their ranges.
abbrev pub IsInRange : Asked → Type 0
IsInRange Session = Unit {0}
IsInRange (Replay repetition) = Unit {0}
IsInRange (Count plies workers split) =
    (1 ≤ plies) × (plies ≤ 8) × (1 ≤ workers) × (workers ≤ 16)
IsInRange (Grow seed plies) = (1 ≤ plies) × (plies ≤ 1000)
IsInRange (Certify depth) = (1 ≤ depth) × (depth ≤ 64)
IsInRange Check = Unit {0}
IsInRange (Solve plies) = (1 ≤ plies) × (plies ≤ 16)
IsInRange Verify = Unit {0}
IsInRange (Match setup from) = IsSetup setup
IsInRange (Cup setup) = IsSetup setup
IsInRange Book = Unit {0}
IsInRange Migrate = Unit {0}
IsInRange (Audit audit) =
    (1 ≤ audit.games) × (audit.games ≤ 1000000)
    × (1 ≤ audit.first) × (audit.first ≤ 1000000000)
    × (1 ≤ audit.plies) × (audit.plies ≤ 1000)
    × (1 ≤ audit.most) × (audit.most ≤ 1000000)
IsInRange (Tournament setup rounds gauntlet at_once resume) =
    IsSetup setup × (1 ≤ rounds) × (rounds ≤ 10000) × (1 ≤ at_once) × (at_once ≤ 64)
