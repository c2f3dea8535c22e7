-- The games after the first line, one after another.
use Rattle.std.proofs.Common.{◌≡◌, ◌<◌, ◌≤◌, ℕ, ◌+◌, List, [], ◌∷◌, ◌++◌, length, refl, ap, sym, ◌∙◌, subst, inr, Some, arith, append_assoc, length-append}
use Rattle.std.proofs.lemmas.List.{append-nil, map-append}
use Rattle.io_edge.specs.Outside.{Told}
use Rattle.hive_model.specs.Histories.{History}
use Rattle.io_edge.specs.Lines.{Line}
use Rattle.hive_model.specs.Positions.{Position}
use Rattle.line_feed.specs.Feed.{Reading, Ends, Holds, input_limit}
use Rattle.line_feed.specs.SoFar.{Fed}
use Rattle.line_feed.proofs.FedLemmas.{fed_end, fed_held, fed_line}
use Rattle.game_text.specs.declared.parsed.Parsed.{Parsed}
use Rattle.opening_book.specs.Book.{Counts, IsTally, BookGame}
use Rattle.command_runs.specs.Answered.{IsUnanswered, ReadsWhile}
use Rattle.command_runs.specs.Asking.{WereTaken}
use Rattle.command_runs.specs.OneGame.{bad_line}
use Rattle.command_runs.specs.declared.no_game.NoGame.{NoGame}
use Rattle.command_runs.specs.declared.no_game.NoGame.TheVariants.{Bad, ReadFault, InputFull, Memory}
use Rattle.command_runs.proofs.ReadLemmas.{all_is_read, given_were_read}
use Rattle.book_command.specs.Asked.{AreGames, AreGood, Asks, played_in}
use Rattle.book_command.specs.Reading.{Counted, GivesNone, GivesPlayed, HasBegun, IsWhole, played_by}
use Rattle.book_command.specs.Runs.{about_book}
use Rattle.book_command.specs.Text.{refusal}

-- The counting so far. Whatever was given before, these lines were given since. They are these
-- games, whose plies are counted, and each of their plies took a byte.
pub record Counting (start now : Reading) (from to : Told) (first last : Counts) (number : ℕ) : Type 0 where
  pub ls : List Line
  pub games : List BookGame
  pub fed : (begin : Told) (bytes : List ℕ) (given : List Line) → Fed begin from start bytes given → (more : List ℕ) × Fed begin to now more (given ++ ls)
  pub are_games : AreGames ls games
  pub tally : Counted games first last
  pub numbered : number ≡ 2 + length ls
  pub counted : last.plies + number ≤ now.passed + 2

-- no line was given yet
pub none_counted : (start : Reading) (from : Told) (first : Counts) → first.plies ≡ 0 → Counting start start from from first first 2
none_counted start from first none = record {
  ls = [];
  games = [];
  fed = λ begin bytes given f. (bytes, subst (λ ls. Fed begin from start bytes ls) (sym (append-nil given)) f);
  are_games = refl;
  tally = λ p before t. subst (λ games. IsTally p games first) (sym (append-nil before)) t;
  numbered = refl;
  counted = omega (arith, none);
}

more_games : (ls : List Line) (games : List BookGame) (line : Line) (game : BookGame) → AreGames ls games → played_in line ≡ Some game → AreGames (ls ++ line ∷ []) (games ++ game ∷ [])
more_games ls games line game are is =
    map-append played_in ls (line ∷ [])
    ∙ ((λ i. are i ++ is i ∷ []) ∙ sym (map-append (λ g. Some g) games (game ∷ [])))

-- one game more
pub one_counted : {start now new : Reading} {from to rest : Told} {first last next : Counts} {number : ℕ} {bytes : List ℕ} {line : Line} (history : History)
    → Counting start now from to first last number → WereTaken bytes now new to rest → GivesPlayed history bytes now new rest line
    → ((p : Position) (games : List BookGame) → IsTally p games last → IsTally p (games ++ played_by history ∷ []) next) → next.plies ≡ last.plies + length history.made
    → Counting start new from rest first next (number + 1)
one_counted {start} {now} {new} {from} {to} {rest} {first} {last} {next} {number} {bytes} {line} history c taken is added plies = record {
  ls = c.ls ++ line ∷ [];
  games = c.games ++ played_by history ∷ [];
  fed = λ begin before given f.
      let (more, g) = c.fed begin before given f in
      (more ++ bytes, subst (λ ls. Fed begin rest new (more ++ bytes) ls) (append_assoc given c.ls (line ∷ [])) (fed_line g taken.takes is.gives));
  are_games = more_games c.ls c.games line (played_by history) c.are_games is.game;
  tally = λ p before t. subst (λ games. IsTally p games next) (append_assoc before c.games (played_by history ∷ [])) (added p (before ++ c.games) (c.tally p before t));
  numbered = let n = c.numbered in let l = length-append c.ls (line ∷ []) in omega (arith, n, l);
  counted = let k = c.counted in let long = is.long in omega (arith, k, long, plies);
}

-- The end of the counting

-- all lines until now
fed_so_far : {start now : Reading} {from to : Told} {first last : Counts} {number : ℕ} (input : List ℕ) (asked : Parsed) (c : Counting start now from to first last number) (begun : HasBegun input asked start from)
    → (more : List ℕ) × Fed (Some input) to now more (begun.line ∷ c.ls)
fed_so_far input asked c begun = c.fed (Some input) begun.bytes (begun.line ∷ []) begun.fed

-- the input has ended
pub all_counted : {start now new : Reading} {from to rest : Told} {first last : Counts} {number : ℕ} {bytes : List ℕ} (c : Counting start now from to first last number) → WereTaken bytes now new to rest → Ends now bytes new rest
    → (input : List ℕ) (asked : Parsed) → HasBegun input asked start from → IsWhole input rest asked c.games
all_counted c taken ends = λ input asked begun.
    let (more, fed) = fed_so_far input asked c begun in
    let (all, below) = fed_end input fed taken.takes ends refl in
    record {
      asks = subst (λ ls. Asks ls asked c.games) (sym all) (begun.opens, c.are_games);
      over = all_is_read input fed taken.takes ends refl;
    }

held_after : {start now new : Reading} {from to rest : Told} {first last : Counts} {number : ℕ} {bytes : List ℕ} (many : ℕ → Type 0) (c : Counting start now from to first last number) → WereTaken bytes now new to rest
    → Holds now bytes new → many new.taken → (input : List ℕ) (asked : Parsed) → HasBegun input asked start from → ReadsWhile about_book many input rest
held_after {bytes = bytes} many c taken holds so_many input asked begun =
    let (more, fed) = fed_so_far input asked c begun in
    let (left, read, all, count) = fed_held input fed taken.takes holds refl in
    (more ++ bytes, left, subst many count so_many, record { was_read = read; good = subst AreGood (sym all) (asked, c.games, (begun.opens, c.are_games)) })

-- no game was given
pub none_after : {start now new : Reading} {from to rest : Told} {first last : Counts} {number : ℕ} {bytes : List ℕ} (e : NoGame) (c : Counting start now from to first last number) → WereTaken bytes now new to rest
    → GivesNone e number bytes now new rest → (input : List ℕ) (asked : Parsed) → HasBegun input asked start from → IsUnanswered about_book e input rest
none_after {number = number} (Bad text) c taken ((line, gives, none), says) = λ input asked begun.
    let (more, fed) = fed_so_far input asked c begun in
    let given = begun.line ∷ c.ls in
    let l = length-append given (line ∷ []) in
    let n = c.numbered in
    let count : number ≡ length (given ++ line ∷ []) = omega (arith, l, n) in (
      refusal (length (given ++ line ∷ [])),
      inr (inr (
        given ++ line ∷ [],
        record {
          were_read = given_were_read input (fed_line fed taken.takes gives) refl taken.within taken.little;
          refused = record { before = given; last = line; are = refl; start = asked; games = c.games; asks = (begun.opens, c.are_games); none = none };
          why_is = refl;
        },
      )),
      says ∙ ap (λ k. bad_line (refusal k)) count,
    )
none_after ReadFault c taken (holds, below) = λ input asked begun. held_after (λ many. many < input_limit) c taken holds below input asked begun
none_after InputFull c taken (holds, full) = λ input asked begun. held_after (λ many. many ≡ input_limit) c taken holds full input asked begun
none_after Memory c taken (line, gives) = λ input asked begun.
    let (more, fed) = fed_so_far input asked c begun in (
      begun.line ∷ c.ls,
      line ∷ [],
      record {
        were_read = given_were_read input (fed_line fed taken.takes gives) refl taken.within taken.little;
        good = (asked, c.games, (begun.opens, c.are_games));
        one = omega arith;
      },
    )
