-- What a cup of programs writes, plays, starts, sends and counts, by the status with which it ends.
use Rattle.std.specs.Prelude.{◌≡◌, ◌⊎◌, ⊤, ℕ, ◌+◌, ◌-◌, ◌^◌, ◌<◌, ◌≤◌, Bool, false, List, [], ◌∷◌, ◌++◌, length, map, take, drop, replicate, Option, Some, None, slice_get, if◌then◌else◌}
use Rattle.std.specs.List.{All, AllZip, flat_map, sum_by}
use Rattle.std.specs.Option.{option_map}
use Rattle.io_edge.specs.Outside.{ToldLists, ToldPrograms, Rose, behind}
use Rattle.io_edge.specs.Starts.{Engines}
use Rattle.hive_model.specs.Lists.{IsOn}
use Rattle.command_runs.specs.World.{World}
use Rattle.command_runs.specs.declared.status.Status.{Status}
use Rattle.command_runs.specs.declared.status.Status.TheVariants.{Done, Refused, Usage, ReadFault, WriteFault, SpawnFault, BadInput, Memory, InputFull}
use Rattle.match_core.specs.declared.setup.Setup.{Setup}
use Rattle.match_core.specs.Setups.{setup_plain}
use Rattle.match_core.specs.declared.verdict.Verdict.{Verdict}
use Rattle.match_core.specs.MatchState.{MatchState}
use Rattle.match_core.specs.Feeds.{IsFront}
use Rattle.match_runner.specs.Runs.{HasHistory, IsJudged, IsLate}
use Rattle.match_command.specs.Match.{AreFronts, AreSent, IsBroke, end_of}
use Rattle.cup.specs.declared.pairing.Pairing.{Pairing}
use Rattle.cup.specs.declared.standing.Standing.{Standing as Place}
use Rattle.cup.specs.Cup.{AreStandings, pairings}
use Rattle.cup.specs.Engines.{Engine}
use Rattle.cup_command.specs.Texts.{cup_text}

-- What is started

-- the words of a program; none if there is no program
abbrev pub words_in : Option Engine → List (List ℕ)
words_in None = []
words_in (Some engine) = engine.words

-- the words of the engine with this number, counted from 1
abbrev pub words_of : List Engine → ℕ → List (List ℕ)
words_of engines number = words_in (slice_get engines (number - 1))

-- the words of the two programs of a game, white's first
abbrev pub game_words : List Engine → Pairing → List (List (List ℕ))
game_words engines game = words_of engines game.white ∷ (words_of engines game.black ∷ [])

-- the words of all programs of a cup, game by game
abbrev pub cup_words : List Engine → List (List (List ℕ))
cup_words engines = flat_map (game_words engines) (pairings (length engines))

-- the observable programs, with these added at the end
abbrev pub started_after : ToldPrograms → List (List (List ℕ)) → ToldPrograms
started_after told programs = option_map (λ before. before ++ programs) told

-- What was played

-- What is known of a game: what its two programs say, what each of them got, and whether the game
-- is excepted because one of its programs failed.
pub record Heard : Type 0 where
  pub white_says : List ℕ
  pub black_says : List ℕ
  pub white_got : List ℕ
  pub black_got : List ℕ
  pub excepted : Bool

-- what all programs say, in the order of their starts
abbrev pub said : List Heard → List (List ℕ)
said games = flat_map (λ g. g.white_says ∷ (g.black_says ∷ [])) games

-- what all programs got, in the order of their starts
abbrev pub got : List Heard → List (List ℕ)
got games = flat_map (λ g. g.white_got ∷ (g.black_got ∷ [])) games

-- the number of excepted games
abbrev pub exceptions : List Heard → ℕ
exceptions games = sum_by (λ g. if g.excepted then 1 else 0) games

-- moves, verdict and bytes sent are those of the match of the two programs
pub record IsTheirs (setup : Setup) (t : MatchState) (game : Heard) : Type 0 where
  pub moves : t.moves ≡ (end_of (setup_plain setup) game.white_says game.black_says).moves
  pub verdict : t.verdict ≡ (end_of (setup_plain setup) game.white_says game.black_says).verdict
  pub sent : AreSent (setup_plain setup) game.white_says game.black_says
      game.white_got game.black_got

-- A game was played. Its moves and the bytes sent are initial parts of those of the match of its
-- two programs. Its verdict is that of the match, or a side broke. If the game is not excepted, all
-- three are those of the match.
pub record IsGame (setup : Setup) (t : MatchState) (game : Heard) : Type 0 where
  pub moves : IsFront t.moves
      (end_of (setup_plain setup) game.white_says game.black_says).moves
  pub verdict :
      (t.verdict ≡ (end_of (setup_plain setup) game.white_says game.black_says).verdict)
      ⊎ IsBroke t.verdict
  pub sent : AreFronts (setup_plain setup) game.white_says game.black_says
      game.white_got game.black_got
  pub whole : game.excepted ≡ false → IsTheirs setup t game

-- if the bytes sent are observable after the run, they gained exactly these
abbrev pub Gains : ToldLists → ToldLists → List (List ℕ) → Type 0
Gains before None gained = ⊤
Gains None (Some after) gained = ⊥
Gains (Some before) (Some after) gained = after ≡ before ++ gained

-- a count rose by at least this number, or is at its greatest value, that of a u64
abbrev pub RoseBy : ℕ → ℕ → ℕ → Type 0
RoseBy number before now = (before + number ≤ now) ⊎ (now ≡ 2 ^ 64 - 1)

-- The first of the programs to come were started, two for each game and white's first, and played.
-- No others were started. What they got was gained in this order. At most as many games are
-- excepted as failed programs were counted.
pub record PlayedBy
    (all : List (List ℕ)) (setup : Setup) (ends : List MatchState) (before after : Engines)
    : Type 0 where
  pub games : List Heard
  pub others : List (List ℕ)
  pub first_ones : all ≡ said games ++ others
  pub left : after.to_come ≡ Some others
  pub each : AllZip (IsGame setup) ends games
  pub gains : Gains before.sent after.sent (got games)
  pub few : RoseBy (exceptions games) before.engine_faults after.engine_faults

-- A game was played with this setup to a verdict, which is not that an answer was late. Its events
-- answer the acts.
pub record IsEnded (setup : Setup) (t : MatchState) : Type 0 where
  pub same : t.setup ≡ setup_plain setup
  pub judged : IsJudged t
  pub in_time : ¬ IsLate t.verdict
  pub history : HasHistory (setup_plain setup) t

-- All games of a cup were played to these ends, over programs that were started in their order. If
-- a side broke, a failed program was counted.
pub record PlayedGames
    (engines : List Engine) (setup : Setup) (ends : List MatchState) (before after : Engines)
    : Type 0 where
  pub all_games : length ends ≡ length (pairings (length engines))
  pub started : after.started ≡ started_after before.started (cup_words engines)
  pub ended : All (IsEnded setup) ends
  pub broke :
      (t : MatchState)
      → IsOn ends t
      → IsBroke t.verdict
      → Rose before.engine_faults after.engine_faults
  pub programs :
      (all : List (List ℕ)) → before.to_come ≡ Some all → PlayedBy all setup ends before after

-- the standings of the engines by the verdicts of the games, each of which has one
abbrev pub AreCupStandings : ℕ → List MatchState → List Place → Type 0
AreCupStandings engines ends places =
    (verdicts : List Verdict)
    × (map (λ t. t.verdict) ends ≡ map Some verdicts)
    × AreStandings engines verdicts places

-- The run

-- the text of a cup that was played was written
pub record Tells
    (engines : List Engine) (setup : Setup) (ends : List MatchState) (places : List Place)
    (before after : World) : Type 0 where
  pub played : PlayedGames engines setup ends before.engines after.engines
  pub standings : AreCupStandings (length engines) ends places
  pub wrote :
      after.sides.written ≡ behind before.sides.written (cup_text setup engines ends places)

-- the first n bytes of the text of a cup that was played were written, and not all
pub record TellsPart
    (engines : List Engine) (setup : Setup) (ends : List MatchState) (places : List Place) (n : ℕ)
    (before after : World) : Type 0 where
  pub played : PlayedGames engines setup ends before.engines after.engines
  pub standings : AreCupStandings (length engines) ends places
  pub cut : n < length (cup_text setup engines ends places)
  pub wrote :
      after.sides.written
      ≡ behind before.sides.written (take n (cup_text setup engines ends places))

-- This number of programs was started, in their order. If the programs to come were observable,
-- they were the first of those.
pub record StartsFirst
    (engines : List Engine) (count : ℕ) (before after : Engines) : Type 0 where
  pub started : after.started ≡ started_after before.started (take count (cup_words engines))
  pub taken :
      (all : List (List ℕ))
      → before.to_come ≡ Some all
      → (count ≤ length all) × (after.to_come ≡ Some (drop count all))

-- The first programs were started, and not all. If the programs to come were observable, none of
-- these got a byte.
pub record BreaksOff (engines : List Engine) (before after : Engines) : Type 0 where
  pub count : ℕ
  pub few : count < length (cup_words engines)
  pub first : StartsFirst engines count before after
  pub gains :
      (all : List (List ℕ))
      → before.to_come ≡ Some all
      → Gains before.sent after.sent (replicate count [])

-- no game was begun, and nothing was written
pub record NotBegun (engines : List Engine) (before after : World) : Type 0 where
  pub written : after.sides.written ≡ before.sides.written
  pub starts : BreaksOff engines before.engines after.engines

-- The first programs were started, perhaps all. If the programs to come were observable, as many
-- were closed, and what each of them got was gained.
pub record EndsEarly (engines : List Engine) (before after : Engines) : Type 0 where
  pub count : ℕ
  pub few : count ≤ length (cup_words engines)
  pub first : StartsFirst engines count before after
  pub gains :
      (all : List (List ℕ))
      → before.to_come ≡ Some all
      → (gained : List (List ℕ))
      × (length gained ≡ count)
      × Gains before.sent after.sent gained

-- memory ran out: nothing was written
pub record Starved (engines : List Engine) (before after : World) : Type 0 where
  pub written : after.sides.written ≡ before.sides.written
  pub starts : EndsEarly engines before.engines after.engines

-- What was written and played if a cup of programs ends with this status. It never ends with the
-- other five statuses.
abbrev pub CupRun : List Engine → Setup → Status → World → World → Type 0
CupRun engines setup Done before after =
    (ends : List MatchState) × (places : List Place) × Tells engines setup ends places before after
CupRun engines setup WriteFault before after =
    (ends : List MatchState)
    × (places : List Place)
    × (n : ℕ)
    × TellsPart engines setup ends places n before after
CupRun engines setup SpawnFault before after = NotBegun engines before after
CupRun engines setup Memory before after = Starved engines before after
CupRun engines setup Refused before after = ⊥
CupRun engines setup Usage before after = ⊥
CupRun engines setup ReadFault before after = ⊥
CupRun engines setup BadInput before after = ⊥
CupRun engines setup InputFull before after = ⊥
