-- The head of a tournament: a line that says which tournament it is.
use Rattle.std.specs.Prelude.{ℕ, Bool, true, false, nat_eq, List, [], ◌∷◌, ◌++◌, codes, decimal, drop, length, map, if◌then◌else◌}
use Rattle.std.specs.List.{flat_map, starts_with}
use Rattle.std.specs.Str.{bytes_eq}
use Rattle.hex.specs.Hex.{encode_lower}
use Rattle.hive_model.specs.declared.pieces.GameType.{GameType}
use Rattle.hive_model.specs.declared.places.Move.{Move}
use Rattle.hive_model.specs.Fields.{type_bytes}
use Rattle.move_text.specs.Readers.{time_bytes}
use Rattle.match_core.specs.declared.setup.Setup.{Setup}
use Rattle.match_core.specs.declared.setup.Level.{Level}
use Rattle.match_core.specs.declared.setup.Level.TheVariants.{Depth as ToDepth, Time as InTime}
use Rattle.match_command.specs.Texts.{shown}
use Rattle.cup.specs.Engines.{Engine}
use Rattle.tournament_core.specs.declared.plan.Plan.{Plan}
use Rattle.tournament_record.specs.declared.parts.HeadPart.{HeadPart}
use Rattle.tournament_record.specs.declared.topic.Topic.{Topic}
use Rattle.tournament_record.specs.declared.topic.Topic.TheVariants.{Tournament, GameType as TypeOfGames, Depth, Time, Margin, Plies, Repetition, Rounds, Gauntlet, Openings, Sum, Engines}
use Rattle.tournament_record.specs.Openings.{openings_sum}

-- Parts

-- the word of what a part tells
abbrev pub topic_word : Topic → List ℕ
topic_word Tournament = codes "tournament"
topic_word TypeOfGames = codes "type"
topic_word Depth = codes "depth"
topic_word Time = codes "time"
topic_word Margin = codes "margin"
topic_word Plies = codes "plies"
topic_word Repetition = codes "repetition"
topic_word Rounds = codes "rounds"
topic_word Gauntlet = codes "gauntlet"
topic_word Openings = codes "openings"
topic_word Sum = codes "sha256"
topic_word Engines = codes "engines"

-- a part: its word and its value, with a space (32) behind each
abbrev pub part : Topic → List ℕ → HeadPart
part topic value = record {
  topic = topic;
  text = topic_word topic ++ 32 ∷ (value ++ 32 ∷ []);
}

-- a rule that holds is written as 1, and one that does not as 0
abbrev pub flag_text : Bool → List ℕ
flag_text true = codes "1"
flag_text false = codes "0"

-- how the engines are asked: to a depth; or in a time, with a margin in milliseconds
abbrev pub level_parts : Level → List HeadPart
level_parts (ToDepth depth) = part Depth (decimal depth) ∷ []
level_parts (InTime budget margin) =
    part Time (time_bytes budget) ∷ part Margin (decimal margin) ∷ []

-- The head

-- the limit of plies, and whether third repetition draws a game
abbrev pub limit_parts : Setup → List HeadPart
limit_parts setup =
    part Plies (decimal setup.limit) ∷ part Repetition (flag_text setup.repetition) ∷ []

-- the version of the head, and what its matches are played by
abbrev pub setup_parts : Setup → List HeadPart
setup_parts setup =
    part Tournament (codes "1")
    ∷ part TypeOfGames (type_bytes setup.game_type)
    ∷ (level_parts setup.level ++ limit_parts setup)

-- who plays whom, and from how many openings
abbrev pub plan_parts : Plan → List HeadPart
plan_parts plan =
    part Rounds (decimal plan.rounds)
    ∷ part Gauntlet (flag_text plan.gauntlet)
    ∷ part Openings (decimal plan.openings) ∷ []

-- the sum of the openings, in hexadecimal digits
abbrev pub openings_parts : GameType → List (List Move) → List HeadPart
openings_parts t openings = part Sum (encode_lower (openings_sum t openings)) ∷ []

-- a semicolon (59) and the text of an engine, each byte outside 32 to 126 as a question mark
abbrev pub other_engine : Engine → List ℕ
other_engine engine = 59 ∷ map shown engine.text

-- the texts of the engines, joined by semicolons
abbrev pub engines_text : List Engine → List ℕ
engines_text [] = []
engines_text (engine ∷ others) = map shown engine.text ++ flat_map other_engine others

-- the last part: the engines, with the LF (10) that ends the line
abbrev pub engines_part : List Engine → HeadPart
engines_part engines = record {
  topic = Engines;
  text = topic_word Engines ++ 32 ∷ (engines_text engines ++ 10 ∷ []);
}

-- the parts of the head of a tournament
abbrev pub head : List Engine → Plan → Setup → List (List Move) → List HeadPart
head engines plan setup openings =
    setup_parts setup
    ++ (plan_parts plan
    ++ (openings_parts setup.game_type openings ++ engines_part engines ∷ []))

-- the line of a head, with its LF
abbrev pub head_text : List HeadPart → List ℕ
head_text parts = flat_map (λ p. p.text) parts

-- Comparing

-- what the first part tells that does not stand in its place in a line, which is given with its LF
abbrev pub other_topic : List HeadPart → List ℕ → Topic
other_topic [] line = Engines
other_topic (p ∷ ps) line =
    if starts_with nat_eq line p.text then other_topic ps (drop (length p.text) line)
    else p.topic
