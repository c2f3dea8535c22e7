-- What was read of an input that must be one game.
use Rattle.std.proofs.Common.{◌≡◌, ◌<◌, ◌≤◌, ℕ, List, [], ◌∷◌, ◌++◌, length, refl, ap, sym, ◌∙◌, subst, inl, inr, codes, Some, IfOk, IfErr, MatchResult, arith}
use Rattle.std.specs.Prelude.{Result, Ok, Err}
use Rattle.std.proofs.lemmas.List.{append-nil}
use Rattle.io_edge.specs.Outside.{Told}
use Rattle.hive_model.specs.Histories.{History}
use Rattle.io_edge.specs.Lines.{Line, Text, TooLong as LongLine, lines}
use Rattle.line_feed.specs.Feed.{Reading, Ends, Gives, Holds, HoldsLittle, input_limit, fresh}
use Rattle.line_feed.specs.SoFar.{Fed}
use Rattle.line_feed.proofs.AheadLemmas.{lines-nil}
use Rattle.line_feed.proofs.FedLemmas.{fed_begin, fed_end, fed_held, fed_line, fed_prefix}
use Rattle.game_text.specs.declared.parsed.Parsed.{Parsed}
use Rattle.game_text.specs.Reading.{game_of}
use Rattle.command_runs.specs.Input.{IsAllRead, WereRead, WhereTold}
use Rattle.command_runs.specs.OneGame.{AreUndecided, FewWereRead, IsAsked, IsBad, IsUndecided, and_no_more, asked, game_in, open_game}
use Rattle.command_runs.specs.Answered.{IsUnanswered}
use Rattle.command_runs.specs.GameRun.{about_game}
use Rattle.command_runs.specs.Asking.{GivesGame, GivesNone, GoesOn, IsReplayOf, Lacks, Resumes, Says, WereTaken}
use Rattle.command_runs.specs.declared.no_game.NoGame.{NoGame}
use Rattle.command_runs.specs.declared.no_game.NoGame.TheVariants.{Bad, ReadFault, InputFull, Memory}
use Rattle.command_runs.proofs.ReadLemmas.{all_is_read, fresh_holds_little, given_were_read}

-- A line

none_given : {old new : Reading} {bytes : List ℕ} {rest : Told} {line : Line} (e : NoGame) → Gives old bytes line new rest → Lacks e (game_in line) → GivesNone e bytes old new rest
none_given {line = line} (Bad text) gives (why, is, says) = inl (why, (line, gives, is), says)
none_given ReadFault gives never = absurd never
none_given InputFull gives never = absurd never
none_given {line = line} Memory gives any = inl (line, gives)

-- the text that was given is a game, or none
pub text_given : {G : Type 0} (history : G → History) (r : Result G NoGame) (text last : List ℕ) → text ≡ last → {old new : Reading} {bytes : List ℕ} {rest : Told} → Gives old bytes (Text last) new rest
    → IfOk r (λ g. Resumes (history g) (open_game (game_of text))) → IfErr r (λ e. Lacks e (open_game (game_of text)))
    → MatchResult r (λ g. GivesGame (history g) bytes old new rest) (λ e. GivesNone e bytes old new rest)
unfolding game_in
text_given history (Ok g) text last is gives plays none = (Text last, gives, subst (λ t. Resumes (history g) (open_game (game_of t))) is plays)
text_given history (Err e) text last is gives plays none = none_given e gives (subst (λ t. Lacks e (open_game (game_of t))) is none)

-- the line that was given is too long
pub long_given : {old new : Reading} {bytes : List ℕ} {rest : Told} (e : NoGame) → Gives old bytes LongLine new rest → Says e (codes "line too long") → GivesNone e bytes old new rest
unfolding game_in
long_given (Bad text) gives says = inl (codes "line too long", (LongLine, gives, refl), says)
long_given ReadFault gives never = absurd never
long_given InputFull gives never = absurd never
long_given Memory gives any = inl (LongLine, gives)

-- The input

-- all lines of an input that was read to its end were read
pub all_were_read : {input : List ℕ} {rest : Told} → IsAllRead input rest → WereRead input rest (lines input)
all_were_read {input} {rest} all =
    let below = all.below in (
      input,
      [],
      fresh,
      [],
      record {
        was_read = record { split = sym (append-nil input); told = all.at_end };
        within = omega (arith, below);
        of_bytes = sym (append-nil (lines input)) ∙ ap (λ ls. lines input ++ ls) (sym lines-nil);
        little = fresh_holds_little;
        of_input = sym (append-nil (lines input));
      },
    )

-- the first line
fed_first : {r0 r1 : Told} {old new : Reading} {bytes : List ℕ} {line : Line} → old ≡ fresh → WereTaken bytes old new r0 r1 → Gives old bytes line new r1 → Fed r0 r1 new bytes (line ∷ [])
fed_first {r0} {r1} {old} {new} {bytes} {line} is taken gives = fed_line (fed_begin r0 old is) taken.takes gives

is_bad : {r0 r1 : Told} {new : Reading} {bytes : List ℕ} {given : List Line} (input why : List ℕ) → Fed r0 r1 new bytes given → new.taken ≤ input_limit → HoldsLittle new → r0 ≡ Some input
    → ((others : List Line) → asked (given ++ others) ≡ Err why) → length given ≤ 2 → IsBad input r1 why
is_bad {given = given} input why fed within little e shown few =
    let (others, p) = fed_prefix input fed e in record {
      asks = ap asked p ∙ shown others;
      read = given;
      were_read = given_were_read input fed e within little;
      shown = ap asked (sym (append-nil given)) ∙ shown [];
      few = few;
    }

few_read : {r0 r1 : Told} {new : Reading} {bytes : List ℕ} {given : List Line} (input : List ℕ) → Fed r0 r1 new bytes given → new.taken ≤ input_limit → HoldsLittle new → r0 ≡ Some input → length given ≤ 2 → FewWereRead input r1
few_read {given = given} input fed within little e few = (given, given_were_read input fed e within little, few)

-- nothing was read
pub none_read : (input : List ℕ) (rest : Told) → rest ≡ Some input → FewWereRead input rest
none_read input rest e = few_read input (fed_begin rest fresh refl) (omega arith) fresh_holds_little e (omega arith)

held_open : {r0 r1 r2 : Told} {old new : Reading} {bytes b1 : List ℕ} {given : List Line} (input : List ℕ) → Fed r0 r1 old bytes given → WereTaken b1 old new r1 r2 → Holds old b1 new → r0 ≡ Some input → AreUndecided given
    → (read : List ℕ) × (left : List ℕ) × (new.taken ≡ length read) × IsUndecided input r2 read left
held_open {bytes = bytes} {b1} input fed taken holds e open_ =
    let (left, read, all, count) = fed_held input fed taken.takes holds e in (
      bytes ++ b1,
      left,
      count,
      record { was_read = read; undecided = subst AreUndecided (sym all) open_ },
    )

-- no line was given before
pub no_game_first : {r0 r1 : Told} {old new : Reading} {bytes : List ℕ} (e : NoGame) → old ≡ fresh → WereTaken bytes old new r0 r1 → GivesNone e bytes old new r1 → WhereTold r0 (λ input. IsUnanswered about_game e input r1)
no_game_first {r0} {r1} {old} {new} {bytes} (Bad text) is taken none = λ input told. elim none [
  | inl (why, (line, gives, other), says) ↦ (why, is_bad input why (fed_first is taken gives) taken.within taken.little told (λ others. ap (λ r. and_no_more r others) other) (omega arith), says)
  | inr (ends, says) ↦
      let fed = fed_begin r0 old is in
      let (all, below) = fed_end input fed taken.takes ends told in
      let read = all_is_read input fed taken.takes ends told in (
        codes "no line",
        record {
          asks = ap asked all;
          read = lines input;
          were_read = all_were_read read;
          shown = ap asked all;
          few = rw all (omega arith);
        },
        says,
      )
]
no_game_first {r0} {r1} {old} ReadFault is taken (holds, below) = λ input told.
    let (read, left, count, open_) = held_open input (fed_begin r0 old is) taken holds told tt in (read, left, subst (λ n. n < input_limit) count below, open_)
no_game_first {r0} {r1} {old} InputFull is taken (holds, full) = λ input told.
    let (read, left, count, open_) = held_open input (fed_begin r0 old is) taken holds told tt in (read, left, sym count ∙ full, open_)
no_game_first {r0} {r1} {old} Memory is taken none = λ input told. elim none [
  | inl (line, gives) ↦ few_read input (fed_first is taken gives) taken.within taken.little told (omega arith)
  | inr ends ↦
      let fed = fed_begin r0 old is in
      let (all, below) = fed_end input fed taken.takes ends told in
      (lines input, all_were_read (all_is_read input fed taken.takes ends told), rw all (omega arith))
]

-- a game was given before
pub no_game_after : {r0 r1 r2 : Told} {old mid new : Reading} {b1 b2 : List ℕ} {history : History} (e : NoGame) → old ≡ fresh → WereTaken b1 old mid r0 r1 → GivesGame history b1 old mid r1 → WereTaken b2 mid new r1 r2
    → GoesOn e b2 mid new r2 → WhereTold r0 (λ input. IsUnanswered about_game e input r2)
no_game_after (Bad text) is taken (line, gives, (game, plays, replay_of)) more ((line2, gives2), says) = λ input told. (
  codes "more lines",
  is_bad input (codes "more lines") (fed_line (fed_first is taken gives) more.takes gives2) more.within more.little told (λ others. ap (λ r. and_no_more r (line2 ∷ others)) plays) (omega arith),
  says,
)
no_game_after ReadFault is taken (line, gives, (game, plays, replay_of)) more (holds, below) = λ input told.
    let (read, left, count, open_) = held_open input (fed_first is taken gives) more holds told (game, plays) in (read, left, subst (λ n. n < input_limit) count below, open_)
no_game_after InputFull is taken (line, gives, (game, plays, replay_of)) more (holds, full) = λ input told.
    let (read, left, count, open_) = held_open input (fed_first is taken gives) more holds told (game, plays) in (read, left, sym count ∙ full, open_)
no_game_after Memory is taken (line, gives, (game, plays, replay_of)) more (line2, gives2) = λ input told.
    few_read input (fed_line (fed_first is taken gives) more.takes gives2) more.within more.little told (omega arith)

-- the input ended after a game
pub game_alone : {r0 r1 r2 : Told} {old mid new : Reading} {b1 b2 : List ℕ} {history : History} → old ≡ fresh → WereTaken b1 old mid r0 r1 → GivesGame history b1 old mid r1 → WereTaken b2 mid new r1 r2 → Ends mid b2 new r2
    → WhereTold r0 (λ input. (game : Parsed) × IsAsked input r2 game × IsReplayOf history game)
game_alone is taken (line, gives, (game, plays, replay_of)) more ends = λ input told.
    let fed = fed_first is taken gives in
    let (all, below) = fed_end input fed more.takes ends told in (
      game,
      record {
        asks = ap asked all ∙ ap (λ r. and_no_more r []) plays;
        over = all_is_read input fed more.takes ends told;
      },
      replay_of,
    )
