-- Which command a line is, by its words and spaces.
use Rattle.std.specs.Prelude.{◌≡◌, ◌≢◌, ℕ, ◌+◌, ◌⊎◌, List, [], codes}
use Rattle.hive_model.specs.Fields.{IsNumberText, IsTimeText}
use Rattle.uhp_words.specs.declared.span.Span.{Span}
use Rattle.uhp_words.specs.declared.command.Command.{Command}
use Rattle.uhp_words.specs.declared.command.Command.TheVariants.{Info, NewGame, Play, Pass, ValidMoves, BestDepth, BestTime, Undo, Options, OptionGet, OptionSet, Exit}
use Rattle.uhp_words.specs.declared.command.CommandFault.{CommandFault}
use Rattle.uhp_words.specs.declared.command.CommandFault.TheVariants.{Unknown, Arguments}
use Rattle.uhp_words.specs.declared.verb.Verb.{Verb}
use Rattle.uhp_words.specs.Spaces.{HasNoSpace, Split, rest_at}
use Rattle.uhp_words.specs.Spans.{IsPart, IsWithin}
use Rattle.uhp_words.specs.Verbs.{verb_text}

-- the first word, and nothing after it
abbrev pub IsAlone : {line : List ℕ} → Split line → List ℕ → Type 0
IsAlone s word = (s.word ≡ word) × (s.rest ≡ [])

-- `depth`, spaces, and a number of plies
pub record IsDepth (rest : List ℕ) (depth : ℕ) : Type 0 where
  pub split : Split rest
  pub word : split.word ≡ codes "depth"
  pub number : IsNumberText split.rest 1 64 depth

-- `time`, spaces, and a time as `hh:mm:ss`
pub record IsTime (rest : List ℕ) (budget : ℕ) : Type 0 where
  pub split : Split rest
  pub word : split.word ≡ codes "time"
  pub time : IsTimeText split.rest budget

-- nothing, which means one ply, or a number of plies
abbrev pub IsPlies : List ℕ → ℕ → Type 0
IsPlies rest plies = ((rest ≡ []) × (plies ≡ 1)) ⊎ IsNumberText rest 1 999999999 plies

-- `get`, spaces, and a name of one word. `name` is the span of that word in the line. The rest
-- begins after the first `at` bytes of the line.
pub record IsGet (line : List ℕ) (at : ℕ) (rest : List ℕ) (name : Span) : Type 0 where
  pub split : Split rest
  pub word : split.word ≡ codes "get"
  pub not_empty : split.rest ≢ []
  pub one_word : HasNoSpace split.rest
  pub name_is : IsPart line name (at + rest_at split) split.rest

-- `set`, spaces, a name, spaces, and a value; name and value are one word each
pub record IsSet (line : List ℕ) (at : ℕ) (rest : List ℕ) (name value : Span) : Type 0 where
  pub split : Split rest
  pub word : split.word ≡ codes "set"
  pub both : Split split.rest
  pub not_empty : both.rest ≢ []
  pub one_word : HasNoSpace both.rest
  pub name_is : IsPart line name (at + rest_at split + both.before) both.word
  pub value_is : IsPart line value (at + rest_at split + rest_at both) both.rest

-- what the first word and the rest of a line mean
abbrev pub Means : (line : List ℕ) → Split line → Command → Type 0
Means line s Info = IsAlone s (codes "info")
Means line s (NewGame text) = (s.word ≡ codes "newgame") × IsPart line text (rest_at s) s.rest
Means line s (Play text) =
    (s.word ≡ codes "play") × (s.rest ≢ []) × IsPart line text (rest_at s) s.rest
Means line s Pass = IsAlone s (codes "pass")
Means line s ValidMoves = IsAlone s (codes "validmoves")
Means line s (BestDepth depth) = (s.word ≡ codes "bestmove") × IsDepth s.rest depth
Means line s (BestTime budget) = (s.word ≡ codes "bestmove") × IsTime s.rest budget
Means line s (Undo plies) = (s.word ≡ codes "undo") × IsPlies s.rest plies
Means line s Options = IsAlone s (codes "options")
Means line s (OptionGet name) = (s.word ≡ codes "options") × IsGet line (rest_at s) s.rest name
Means line s (OptionSet name value) =
    (s.word ≡ codes "options") × IsSet line (rest_at s) s.rest name value
Means line s Exit = IsAlone s (codes "exit")

-- The line is this command.
pub record IsCommand (line : List ℕ) (command : Command) : Type 0 where
  pub split : Split line
  pub means : Means line split command

-- The first word is not a command, as in an empty line.
pub record IsUnknown (line : List ℕ) : Type 0 where
  pub split : Split line
  pub no_verb : (verb : Verb) → split.word ≢ verb_text verb

-- The first word is a command, but the line is not.
pub record HasWrongArguments (line : List ℕ) : Type 0 where
  pub split : Split line
  pub verb : Verb
  pub word : split.word ≡ verb_text verb
  pub no_command : (command : Command) → ¬ IsCommand line command

abbrev pub IsFault : List ℕ → CommandFault → Type 0
IsFault line Unknown = IsUnknown line
IsFault line Arguments = HasWrongArguments line

-- The spans of a command lie in the line.
abbrev pub AreWithin : List ℕ → Command → Type 0
AreWithin line (NewGame text) = IsWithin line text
AreWithin line (Play text) = IsWithin line text
AreWithin line (OptionGet name) = IsWithin line name
AreWithin line (OptionSet name value) = IsWithin line name × IsWithin line value
AreWithin line Info = Unit {0}
AreWithin line Pass = Unit {0}
AreWithin line ValidMoves = Unit {0}
AreWithin line (BestDepth depth) = Unit {0}
AreWithin line (BestTime budget) = Unit {0}
AreWithin line (Undo plies) = Unit {0}
AreWithin line Options = Unit {0}
AreWithin line Exit = Unit {0}
