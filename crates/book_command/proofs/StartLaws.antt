-- The first line of the input.
use Rattle.std.proofs.Common.{◌≡◌, ◌<◌, ℕ, Bool, true, false, List, [], ◌∷◌, refl, ap, sym, ◌∙◌, subst, inl, inr, codes, Some, arith}
use Rattle.std.specs.Prelude.{Result, Ok, Err}
use Rattle.io_edge.specs.Outside.{Told}
use Rattle.hive_model.specs.Histories.{History, position}
use Rattle.hive_model.specs.Legal.{is_over}
use Rattle.io_edge.specs.Lines.{Line, Text, TooLong as LongLine}
use Rattle.line_feed.specs.Feed.{Reading, Gives, Holds, input_limit, fresh}
use Rattle.line_feed.specs.SoFar.{Fed}
use Rattle.line_feed.proofs.FedLemmas.{fed_begin, fed_end, fed_held, fed_line}
use Rattle.game_text.specs.declared.faults.GameFault.{GameFault}
use Rattle.game_text.specs.declared.parsed.Parsed.{Parsed}
use Rattle.game_text.specs.Reading.{game_of}
use Rattle.command_runs.specs.Answered.{IsUnanswered, ReadsWhile}
use Rattle.command_runs.specs.Asking.{GivesGame, GivesNone, IsReplayOf, WereTaken}
use Rattle.command_runs.specs.Input.{WereRead, WhereTold}
use Rattle.command_runs.specs.OneGame.{game_in, if_open, last_position, open_game}
use Rattle.command_runs.specs.declared.no_game.NoGame.{NoGame}
use Rattle.command_runs.specs.declared.no_game.NoGame.TheVariants.{Bad, ReadFault, InputFull, Memory}
use Rattle.command_runs.proofs.GameRunLemmas.{end_is}
use Rattle.command_runs.proofs.OneGameLemmas.{all_were_read}
use Rattle.command_runs.proofs.ReadLemmas.{all_is_read, given_were_read, none_were_read}
use Rattle.book_command.specs.Asked.{AreGood}
use Rattle.book_command.specs.Reading.{HasBegun}
use Rattle.book_command.specs.Runs.{about_book}

-- Its game

if_goes_on : (game start : Parsed) (over : Bool) → is_over (last_position game) ≡ over → if_open game ≡ Ok start → is_over (last_position start) ≡ false
if_goes_on game start true e h = let same : if_open game ≡ Err (codes "game over") = rw e refl in absurd (cc)
if_goes_on game start false e h =
    let opened : if_open game ≡ Ok game = rw e refl in
    let same : game ≡ start = cc in
    subst (λ g. is_over (last_position g) ≡ false) same e

read_goes_on : (r : Result Parsed GameFault) (start : Parsed) → open_game r ≡ Ok start → is_over (last_position start) ≡ false
read_goes_on (Ok game) start h = if_goes_on game start (is_over (last_position game)) refl h
read_goes_on (Err fault) start h = absurd (cc)

goes_on : (line : Line) (start : Parsed) → game_in line ≡ Ok start → is_over (last_position start) ≡ false
unfolding game_in
goes_on (Text bytes) start h = read_goes_on (game_of bytes) start h
goes_on LongLine start h = absurd (cc)

-- the game under way is not over
pub not_over : (history : History) {bytes : List ℕ} {old new : Reading} {rest : Told} → GivesGame history bytes old new rest → is_over (position history) ≡ false
not_over history (line, gives, (game, plays, replay_of)) = ap is_over (end_is history game replay_of) ∙ goes_on line game plays

-- The input

-- the first line was given
fed_first : {r0 r1 : Told} {old new : Reading} {bytes : List ℕ} {line : Line} → old ≡ fresh → WereTaken bytes old new r0 r1 → Gives old bytes line new r1 → Fed r0 r1 new bytes (line ∷ [])
fed_first {r0} {r1} {old} is taken gives = fed_line (fed_begin r0 old is) taken.takes gives

-- it is a game that is not over
pub begun : {r0 r1 : Told} {old new : Reading} {bytes : List ℕ} {history : History} → old ≡ fresh → WereTaken bytes old new r0 r1 → GivesGame history bytes old new r1
    → WhereTold r0 (λ input. (start : Parsed) × HasBegun input start new r1 × IsReplayOf history start)
begun {r0} {r1} {old} {new} {bytes} is taken (line, gives, (game, plays, replay_of)) = λ input told. (
  game,
  record {
    bytes = bytes;
    line = line;
    fed = subst (λ r. Fed r r1 new bytes (line ∷ [])) told (fed_first is taken gives);
    opens = plays;
    within = taken.within;
    little = taken.little;
  },
  replay_of,
)

-- no line was given, and none of those that were read is refused
held_first : {r0 r1 : Told} {old new : Reading} {bytes : List ℕ} (many : ℕ → Type 0) (input : List ℕ) → old ≡ fresh → WereTaken bytes old new r0 r1 → Holds old bytes new → r0 ≡ Some input → many new.taken → ReadsWhile about_book many input r1
held_first {r0} {r1} {old} {new} {bytes} many input is taken holds told so_many =
    let (left, read, all, count) = fed_held input (fed_begin r0 old is) taken.takes holds told in
    (bytes, left, subst many count so_many, record { was_read = read; good = subst AreGood (sym all) tt })

-- the first line gave no game
pub none_begun : {r0 r1 : Told} {old new : Reading} {bytes : List ℕ} (e : NoGame) → old ≡ fresh → WereTaken bytes old new r0 r1 → GivesNone e bytes old new r1 → WhereTold r0 (λ input. IsUnanswered about_book e input r1)
none_begun {r0} {r1} {old} {new} {bytes} (Bad text) is taken none = λ input told. elim none [
  | inl (why, (line, gives, other), says) ↦
      (why, inr (inl (line, record { were_read = given_were_read input (fed_first is taken gives) told taken.within taken.little; refused = other })), says)
  | inr (ends, says) ↦
      let fed = fed_begin r0 old is in
      let (all, below) = fed_end input fed taken.takes ends told in
      (codes "no line", inl (record { none = all; over = all_is_read input fed taken.takes ends told }, refl), says)
]
none_begun ReadFault is taken (holds, below) = λ input told. held_first (λ many. many < input_limit) input is taken holds told below
none_begun InputFull is taken (holds, full) = λ input told. held_first (λ many. many ≡ input_limit) input is taken holds told full
none_begun {r0} {r1} {old} Memory is taken none = λ input told. elim none [
  | inl (line, gives) ↦ (
    [],
    line ∷ [],
    record { were_read = given_were_read input (fed_first is taken gives) told taken.within taken.little; good = tt; one = omega arith },
  )
  | inr ends ↦
      let fed = fed_begin r0 old is in
      let (all, below) = fed_end input fed taken.takes ends told in
      ([], [], record { were_read = subst (λ ls. WereRead input r1 ls) all (all_were_read (all_is_read input fed taken.takes ends told)); good = tt; one = omega arith })
]

-- nothing was read
pub unread : (rest : Told) → WhereTold rest (λ input. IsUnanswered about_book Memory input rest)
unread rest = λ input told. ([], [], record { were_read = none_were_read input rest told; good = tt; one = omega arith })

-- one line was read, and memory ran out
pub one_read : (input : List ℕ) (start : Parsed) (reader : Reading) (rest : Told) → HasBegun input start reader rest → IsUnanswered about_book Memory input rest
one_read input start reader rest b = (
  b.line ∷ [],
  [],
  record { were_read = given_were_read input b.fed refl b.within b.little; good = (start, [], (b.opens, refl)); one = omega arith },
)
