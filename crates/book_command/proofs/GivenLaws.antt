-- A further line of the input, and the game that it is.
use Rattle.std.proofs.Common.{◌≡◌, ◌<◌, ℕ, ◌+◌, List, length, refl, subst, Option, Some, None, arith}
use Rattle.io_edge.specs.Outside.{Told}
use Rattle.hive_model.specs.Histories.{History}
use Rattle.io_edge.specs.Lines.{Line, Text, TooLong as LongLine}
use Rattle.line_feed.specs.Feed.{Reading, Gives}
use Rattle.game_text.specs.Reading.{game_of}
use Rattle.opening_book.specs.Book.{BookGame}
use Rattle.command_runs.specs.Asking.{Says}
use Rattle.command_runs.specs.declared.no_game.NoGame.{NoGame}
use Rattle.command_runs.specs.declared.no_game.NoGame.TheVariants.{Bad, ReadFault, InputFull, Memory}
use Rattle.book_command.specs.Asked.{as_played, played_in}
use Rattle.book_command.specs.Reading.{GivesNone, GivesPlayed, LacksGame, played_by}
use Rattle.book_command.specs.Text.{refusal}
use Rattle.book_command.proofs.LongLaws.{passes_text, played_long}

says_none : (e : NoGame) (number : ℕ) (game : Option BookGame) → game ≡ None → Says e (refusal number) → LacksGame e number game
says_none (Bad text) number game none says = (none, says)
says_none ReadFault number game none never = never
says_none InputFull number game none never = never
says_none Memory number game none any = tt

-- The line that was given

-- the text is that of the line, and is a game
pub game_given : (history : History) (text last : List ℕ) → text ≡ last → {old new : Reading} {bytes : List ℕ} {rest : Told} → Gives old bytes (Text last) new rest → as_played (game_of text) ≡ Some (played_by history)
    → (line : Line) × GivesPlayed history bytes old new rest line
unfolding played_in
game_given history text last is {old} {new} {bytes} {rest} gives plays =
    let game : as_played (game_of last) ≡ Some (played_by history) = subst (λ t. as_played (game_of t) ≡ Some (played_by history)) is plays in
    let long = played_long last (game_of last) (played_by history) refl game in
    let passed = passes_text last gives in
    let more : old.passed + length history.made < new.passed = omega (arith, long, passed) in
    (Text last, record { gives = gives; game = game; long = more })

lacks_given : (e : NoGame) (number : ℕ) (line : Line) {old new : Reading} {bytes : List ℕ} {rest : Told} → Gives old bytes line new rest → LacksGame e number (played_in line) → GivesNone e number bytes old new rest
lacks_given (Bad text) number line gives (none, says) = ((line, gives, none), says)
lacks_given ReadFault number line gives never = absurd never
lacks_given InputFull number line gives never = absurd never
lacks_given Memory number line gives any = (line, gives)

-- it is no game
pub other_given : (e : NoGame) (number : ℕ) (text last : List ℕ) → text ≡ last → {old new : Reading} {bytes : List ℕ} {rest : Told} → Gives old bytes (Text last) new rest → LacksGame e number (as_played (game_of text))
    → GivesNone e number bytes old new rest
unfolding played_in
other_given e number text last is gives lacks = lacks_given e number (Text last) gives (subst (λ t. LacksGame e number (as_played (game_of t))) is lacks)

-- the line that was given is too long
pub long_given : (e : NoGame) (number : ℕ) {old new : Reading} {bytes : List ℕ} {rest : Told} → Gives old bytes LongLine new rest → Says e (refusal number) → GivesNone e number bytes old new rest
unfolding played_in
long_given e number gives says = lacks_given e number LongLine gives (says_none e number None refl says)
