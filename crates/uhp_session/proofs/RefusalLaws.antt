-- A refusal does not change the session.
use Rattle.std.proofs.Common.{◌≡◌, ℕ, ◌-◌, ◌≤◌, Bool, true, false, List, [], ◌∷◌, ◌++◌, length, take, Result, Ok, Err, ◌⊎◌, inl, inr, refl, sym, ◌∙◌, ap, arith, if◌then◌else◌}
use Rattle.std.specs.Prelude.{Option, Some, None, codes, nat_le, nat_lt}
use Rattle.hive_model.specs.declared.places.Move.{Move}
use Rattle.hive_model.specs.Histories.{is_listed}
use Rattle.io_edge.specs.Lines.{Text as TextLine, TooLong as LongLine}
use Rattle.hive_model.specs.Strings.{string_under}
use Rattle.move_text.specs.declared.faults.MoveFault.{MoveFault}
use Rattle.move_text.specs.Moves.{move_of}
use Rattle.game_text.specs.declared.faults.GameFault.{GameFault}
use Rattle.game_text.specs.declared.parsed.Parsed.{Parsed}
use Rattle.game_text.specs.Reading.{game_under}
use Rattle.uhp_words.specs.declared.command.Command.{Command}
use Rattle.uhp_words.specs.declared.command.Command.TheVariants.{Info, NewGame, Play, Pass, ValidMoves, BestDepth, BestTime, Undo, Options, OptionGet, OptionSet, Exit}
use Rattle.uhp_words.specs.declared.command.CommandFault.{CommandFault}
use Rattle.uhp_words.specs.declared.command.CommandFault.TheVariants.{Unknown, Arguments}
use Rattle.uhp_words.specs.Reading.{command_of}
use Rattle.uhp_words.specs.Spans.{bytes_at}
use Rattle.uhp_session.specs.Answers.{CurrentGame, SessionState, Answer, reached, is_ended, written, with_moves, refuse, go_on, in_game, begin, make, play, undo, change, set, setting_of, option_line, or_base, command_answer, words_answer, after_of, next}
use Rattle.uhp_session.specs.declared.options.Setting.{Setting}
use Rattle.uhp_session.specs.declared.options.Setting.TheVariants.{Table, Workers, Repetition}
use Rattle.uhp_session.specs.declared.options.SettingFault.{SettingFault}
use Rattle.uhp_session.specs.Laws.{IsRefusal, RefusalsChangeNothing}
use Rattle.uhp_session.proofs.DepthLaws.{depth_kept}
use Rattle.uhp_session.proofs.ReplyLaws.{get_keeps, list_keeps, best_keeps}

abbrev Keeps : SessionState → Answer → Type 0
Keeps s a = IsRefusal a → after_of s a ≡ s

-- Lines that are not refusals

first : List ℕ → ℕ
first [] = 0
first (x ∷ xs) = x

abbrev Starts : List ℕ → Type 0
Starts line = (rest : List ℕ) × ((line ≡ codes "err " ++ rest) ⊎ (line ≡ codes "invalidmove " ++ rest))

game_begins : (g : CurrentGame) → first (written g) ≡ 66
unfolding string_under first
game_begins g = refl

option_begins : (x : Setting) → (n : ℕ) × (first (option_line x) ≡ n) × (n ≤ 100)
unfolding first
option_begins (Table n) = (84, refl, omega arith)
option_begins (Workers n) = (87, refl, omega arith)
option_begins (Repetition on) = (82, refl, omega arith)

no_fault : (line : List ℕ) (n : ℕ) → first line ≡ n → n ≤ 100 → Starts line → ⊥
unfolding first
no_fault line n is low (rest, inl e) = let wrong : n ≡ 101 = sym is ∙ ap first e in omega (arith, low, wrong)
no_fault line n is low (rest, inr e) = let wrong : n ≡ 105 = sym is ∙ ap first e in omega (arith, low, wrong)

-- The commands

go_on_keeps : (s : SessionState) (g : CurrentGame) → Keeps s (go_on s g)
go_on_keeps s g = λ h. absurd (no_fault (written g) 66 (game_begins g) (omega arith) h)

begin_keeps : (s : SessionState) (r : Result Parsed GameFault) → Keeps s (begin s r)
begin_keeps s (Ok g) = go_on_keeps s (record { game_type = g.game_type; made = g.moves; repetition = s.repetition })
begin_keeps s (Err fault) = λ h. refl

in_keeps : (s : SessionState) (o : Option CurrentGame) (f : CurrentGame → Answer) → ((g : CurrentGame) → Keeps s (f g)) → Keeps s (in_game s o f)
in_keeps s None f each = λ h. refl
in_keeps s (Some g) f each = each g

make_keeps : (s : SessionState) (g : CurrentGame) (r : Result Move MoveFault) → Keeps s (make s g r)
make_keeps s g (Err fault) = λ h. refl
make_keeps s g (Ok m) = go (is_listed (reached g) m)
  where
    go : (b : Bool) → Keeps s (if b then go_on s (with_moves g (g.made ++ m ∷ [])) else refuse s (codes "invalidmove 3 not legal"))
    go true = go_on_keeps s (with_moves g (g.made ++ m ∷ []))
    go false = λ h. refl

play_keeps : (s : SessionState) (words : List ℕ) (g : CurrentGame) → Keeps s (play s words g)
play_keeps s words g = go (is_ended g) (nat_le 5000 (length g.made))
  where
    go : (over full : Bool) → Keeps s (if over then refuse s (codes "invalidmove 4 game over") else if full then refuse s (codes "err 11 too many plies") else make s g (move_of g.game_type (reached g).board words))
    go true full = λ h. refl
    go false true = λ h. refl
    go false false = make_keeps s g (move_of g.game_type (reached g).board words)

undo_keeps : (s : SessionState) (plies : ℕ) (g : CurrentGame) → Keeps s (undo s plies g)
undo_keeps s plies g = go (nat_lt (length g.made) plies)
  where
    go : (b : Bool) → Keeps s (if b then refuse s (codes "err 7 undo beyond start") else go_on s (with_moves g (take (length g.made - plies) g.made)))
    go true = λ h. refl
    go false = go_on_keeps s (with_moves g (take (length g.made - plies) g.made))

change_keeps : (s : SessionState) (r : Result Setting SettingFault) → Keeps s (change s r)
change_keeps s (Ok x) = let begins = option_begins x in λ h. absurd (no_fault (option_line x) begins.0 begins.1 begins.2 h)
change_keeps s (Err fault) = λ h. refl

set_keeps : (s : SessionState) (name value : List ℕ) → Keeps s (set s name value)
set_keeps s name value = change_keeps s (setting_of name value)

command_keeps : (s : SessionState) (line : List ℕ) (d : ℕ) (c : Command) → Keeps s (command_answer s line d c)
command_keeps s line d Info = λ h. refl
command_keeps s line d (NewGame part) = begin_keeps s (game_under s.repetition (or_base (bytes_at line part)))
command_keeps s line d (Play part) = in_keeps s s.game (play s (bytes_at line part)) (play_keeps s (bytes_at line part))
command_keeps s line d Pass = in_keeps s s.game (play s (codes "pass")) (play_keeps s (codes "pass"))
command_keeps s line d ValidMoves = λ h. sym (list_keeps s)
command_keeps s line d (BestDepth depth) = λ h. sym (best_keeps s depth)
command_keeps s line d (BestTime budget) = λ h. sym (best_keeps s d)
command_keeps s line d (Undo plies) = in_keeps s s.game (undo s plies) (undo_keeps s plies)
command_keeps s line d Options = λ h. refl
command_keeps s line d (OptionGet name) = λ h. sym (get_keeps s (bytes_at line name))
command_keeps s line d (OptionSet name value) = set_keeps s (bytes_at line name) (bytes_at line value)
command_keeps s line d Exit = λ h. refl

words_keeps : (s : SessionState) (line : List ℕ) (d : ℕ) (r : Result Command CommandFault) → Keeps s (words_answer s line d r)
words_keeps s line d (Ok c) = command_keeps s line d c
words_keeps s line d (Err Unknown) = λ h. refl
words_keeps s line d (Err Arguments) = λ h. refl

pub changes_nothing : RefusalsChangeNothing
unfolding next
changes_nothing s (TextLine bytes) depth = λ h. sym (depth_kept s bytes depth 1 (command_of bytes)) ∙ words_keeps s bytes depth (command_of bytes) h
changes_nothing s LongLine depth = λ h. refl
