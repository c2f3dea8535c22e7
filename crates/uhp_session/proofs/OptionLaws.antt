-- The answers to other lines do not depend on the values of the options.
use Rattle.std.proofs.Common.{◌≡◌, ℕ, ◌-◌, Bool, true, false, List, [], ◌∷◌, ◌++◌, length, take, Result, Ok, Err, refl, ap, subst, if◌then◌else◌}
use Rattle.std.specs.Prelude.{Option, Some, None, codes, nat_le, nat_lt}
use Rattle.hive_model.specs.declared.places.Move.{Move}
use Rattle.hive_model.specs.Histories.{is_listed}
use Rattle.io_edge.specs.Lines.{Text as TextLine, TooLong as LongLine}
use Rattle.move_text.specs.declared.faults.MoveFault.{MoveFault}
use Rattle.move_text.specs.Moves.{move_of}
use Rattle.game_text.specs.declared.faults.GameFault.{GameFault}
use Rattle.game_text.specs.declared.parsed.Parsed.{Parsed}
use Rattle.game_text.specs.Reading.{game_under}
use Rattle.uhp_words.specs.declared.command.Command.{Command}
use Rattle.uhp_words.specs.declared.command.Command.TheVariants.{Info, NewGame, Play, Pass, ValidMoves, BestDepth, BestTime, Undo, Options, OptionGet, OptionSet, Exit}
use Rattle.uhp_words.specs.declared.command.CommandFault.{CommandFault}
use Rattle.uhp_words.specs.declared.command.CommandFault.TheVariants.{Unknown, Arguments}
use Rattle.uhp_words.specs.Reading.{command_of}
use Rattle.uhp_words.specs.Spans.{bytes_at}
use Rattle.uhp_session.specs.Answers.{CurrentGame, SessionState, Answer, reached, is_ended, with_moves, refuse, go_on, in_game, while_on, begin, make, play, list, best_line, undo, or_base, written, ended, command_answer, words_answer, reply_of, after_of, reply, next}
use Rattle.uhp_session.specs.Laws.{IsOfOptions, IsNewGame, OptionsChangeNoAnswer}

-- the answers of two sessions have one reply, and leave one game
abbrev Alike : SessionState → SessionState → Answer → Answer → Type 0
Alike s t a b = (reply_of a ≡ reply_of b) × ((after_of s a).game ≡ (after_of t b).game)

in_alike : (s t : SessionState) (f h : CurrentGame → Answer) → s.game ≡ t.game → ((g : CurrentGame) → Alike s t (f g) (h g)) → Alike s t (in_game s s.game f) (in_game t t.game h)
in_alike s t f h same each = subst (λ (o : Option CurrentGame). Alike s t (in_game s s.game f) (in_game t o h)) same (go s.game)
  where
    go : (o : Option CurrentGame) → Alike s t (in_game s o f) (in_game t o h)
    go None = (refl, same)
    go (Some g) = each g

while_alike : (s t : SessionState) (f h : CurrentGame → Answer) → s.game ≡ t.game → ((g : CurrentGame) → Alike s t (f g) (h g)) → Alike s t (while_on s f) (while_on t h)
while_alike s t f h same each = in_alike s t _ _ same (λ g. go g (is_ended g))
  where
    go : (g : CurrentGame) (over : Bool) → Alike s t (if over then refuse s (codes "err 8 game over") else f g) (if over then refuse t (codes "err 8 game over") else h g)
    go g true = (refl, same)
    go g false = each g

begin_alike : (s t : SessionState) (r : Result Parsed GameFault) → s.game ≡ t.game → s.repetition ≡ t.repetition → Alike s t (begin s r) (begin t r)
begin_alike s t (Ok g) same rule =
    let games : record { game_type = g.game_type; made = g.moves; repetition = s.repetition } ≡ record { game_type = g.game_type; made = g.moves; repetition = t.repetition } =
    λ j. record { game_type = g.game_type; made = g.moves; repetition = rule j } in
    (ap (λ (z : CurrentGame). Some (ended (written z ∷ (codes "ok" ∷ [])))) games, ap (λ (z : CurrentGame). Some z) games)
begin_alike s t (Err fault) same rule = (refl, same)

new_game_alike : (s t : SessionState) (text : List ℕ) → s.game ≡ t.game → s.repetition ≡ t.repetition → Alike s t (begin s (game_under s.repetition text)) (begin t (game_under t.repetition text))
new_game_alike s t text same rule = subst (λ r. Alike s t (begin s (game_under s.repetition text)) (begin t (game_under r text))) rule (begin_alike s t (game_under s.repetition text) same rule)

make_alike : (s t : SessionState) (g : CurrentGame) (r : Result Move MoveFault) → s.game ≡ t.game → Alike s t (make s g r) (make t g r)
make_alike s t g (Err fault) same = (refl, same)
make_alike s t g (Ok m) same = go (is_listed (reached g) m)
  where
    go : (b : Bool) → Alike s t
        (if b then go_on s (with_moves g (g.made ++ m ∷ [])) else refuse s (codes "invalidmove 3 not legal"))
        (if b then go_on t (with_moves g (g.made ++ m ∷ [])) else refuse t (codes "invalidmove 3 not legal"))
    go true = (refl, refl)
    go false = (refl, same)

play_alike : (s t : SessionState) (words : List ℕ) → s.game ≡ t.game → (g : CurrentGame) → Alike s t (play s words g) (play t words g)
play_alike s t words same g = go (is_ended g) (nat_le 5000 (length g.made))
  where
    go : (over full : Bool) → Alike s t
        (if over then refuse s (codes "invalidmove 4 game over") else if full then refuse s (codes "err 11 too many plies") else make s g (move_of g.game_type (reached g).board words))
        (if over then refuse t (codes "invalidmove 4 game over") else if full then refuse t (codes "err 11 too many plies") else make t g (move_of g.game_type (reached g).board words))
    go true full = (refl, same)
    go false true = (refl, same)
    go false false = make_alike s t g (move_of g.game_type (reached g).board words) same

undo_alike : (s t : SessionState) (plies : ℕ) → s.game ≡ t.game → (g : CurrentGame) → Alike s t (undo s plies g) (undo t plies g)
undo_alike s t plies same g = go (nat_lt (length g.made) plies)
  where
    go : (b : Bool) → Alike s t
        (if b then refuse s (codes "err 7 undo beyond start") else go_on s (with_moves g (take (length g.made - plies) g.made)))
        (if b then refuse t (codes "err 7 undo beyond start") else go_on t (with_moves g (take (length g.made - plies) g.made)))
    go true = (refl, same)
    go false = (refl, refl)

command_alike : (s t : SessionState) (line : List ℕ) (d : ℕ) (c : Command) → s.game ≡ t.game → ¬ IsOfOptions (Ok c) → (IsNewGame (Ok c) → s.repetition ≡ t.repetition) → Alike s t (command_answer s line d c) (command_answer t line d c)
command_alike s t line d Info same other rule = (refl, same)
command_alike s t line d (NewGame part) same other rule = new_game_alike s t (or_base (bytes_at line part)) same (rule tt)
command_alike s t line d (Play part) same other rule = in_alike s t (play s (bytes_at line part)) (play t (bytes_at line part)) same (play_alike s t (bytes_at line part) same)
command_alike s t line d Pass same other rule = in_alike s t (play s (codes "pass")) (play t (codes "pass")) same (play_alike s t (codes "pass") same)
command_alike s t line d ValidMoves same other rule = while_alike s t (list s) (list t) same (λ g. (refl, same))
command_alike s t line d (BestDepth depth) same other rule = while_alike s t (best_line s depth) (best_line t depth) same (λ g. (refl, same))
command_alike s t line d (BestTime budget) same other rule = while_alike s t (best_line s d) (best_line t d) same (λ g. (refl, same))
command_alike s t line d (Undo plies) same other rule = in_alike s t (undo s plies) (undo t plies) same (undo_alike s t plies same)
command_alike s t line d Options same other rule = absurd (other tt)
command_alike s t line d (OptionGet name) same other rule = absurd (other tt)
command_alike s t line d (OptionSet name value) same other rule = absurd (other tt)
command_alike s t line d Exit same other rule = (refl, same)

words_alike : (s t : SessionState) (line : List ℕ) (d : ℕ) (r : Result Command CommandFault) → s.game ≡ t.game → ¬ IsOfOptions r → (IsNewGame r → s.repetition ≡ t.repetition) → Alike s t (words_answer s line d r) (words_answer t line d r)
words_alike s t line d (Ok c) same other rule = command_alike s t line d c same other rule
words_alike s t line d (Err Unknown) same other rule = (refl, same)
words_alike s t line d (Err Arguments) same other rule = (refl, same)

pub change_no_answer : OptionsChangeNoAnswer
unfolding reply next
change_no_answer s t (TextLine bytes) depth same other rule = ((words_alike s t bytes depth (command_of bytes) same other rule).0, (words_alike s t bytes 1 (command_of bytes) same other rule).1)
change_no_answer s t LongLine depth same other rule = (refl, same)
