-- The game of a session has legal moves after every line, no more than 5,000, and none after its
-- end.
use Rattle.std.proofs.Common.{◌≡◌, ℕ, suc, ◌-◌, ◌<◌, Bool, true, false, List, [], ◌∷◌, ◌++◌, length, take, Result, Ok, Err, refl, ap, subst, arith, if◌then◌else◌}
use Rattle.std.specs.Prelude.{Option, Some, None, codes, nat_le, nat_lt}
use Rattle.std.proofs.lemmas.Bool.{leb-false}
use Rattle.hive_model.specs.declared.places.Move.{Move}
use Rattle.hive_model.specs.Histories.{is_listed}
use Rattle.hive_model.specs.Games.{after, replay, AreLegal}
use Rattle.hive_model.specs.Legal.{moves}
use Rattle.io_edge.specs.Lines.{Text as TextLine, TooLong as LongLine}
use Rattle.hive_model.specs.Lists.{IsOn}
use Rattle.hive_model.specs.Positions.{Position, opening}
use Rattle.move_text.specs.declared.faults.MoveFault.{MoveFault}
use Rattle.move_text.specs.Moves.{move_of}
use Rattle.game_text.specs.declared.faults.GameFault.{GameFault}
use Rattle.game_text.specs.declared.parsed.Parsed.{Parsed}
use Rattle.game_text.specs.Reading.{game_under}
use Rattle.game_text.proofs.LineLaws.{under_found}
use Rattle.hive_model.proofs.ListedLaws.{listed_on}
use Rattle.hive_model.proofs.StandLaws.{stands_by_moves}
use Rattle.game_text.proofs.WriteLaws.{legal_part, taken_size}
use Rattle.uhp_words.specs.declared.command.Command.{Command}
use Rattle.uhp_words.specs.declared.command.Command.TheVariants.{Info, NewGame, Play, Pass, ValidMoves, BestDepth, BestTime, Undo, Options, OptionGet, OptionSet, Exit}
use Rattle.uhp_words.specs.declared.command.CommandFault.{CommandFault}
use Rattle.uhp_words.specs.declared.command.CommandFault.TheVariants.{Unknown, Arguments}
use Rattle.uhp_words.specs.Reading.{command_of}
use Rattle.uhp_words.specs.Spans.{bytes_at}
use Rattle.uhp_session.specs.Answers.{CurrentGame, SessionState, Answer, reached, is_ended, with_moves, refuse, go_on, in_game, begin, make, play, list, undo, change, set, setting_of, get, best_line, while_on, or_base, command_answer, words_answer, after_of, next}
use Rattle.uhp_session.specs.declared.options.Setting.{Setting}
use Rattle.uhp_session.specs.declared.options.Setting.TheVariants.{Table, Workers, Repetition}
use Rattle.uhp_session.specs.declared.options.SettingFault.{SettingFault}
use Rattle.uhp_session.specs.Laws.{IsHeld, HoldsGame, SessionsHoldGames}
use Rattle.uhp_session.proofs.ReplyLaws.{get_keeps, list_keeps, best_keeps, line_game, line_few, line_stands}
use Rattle.uhp_session.proofs.StandLaws.{stands_part}

abbrev Holds : SessionState → Answer → Type 0
Holds s a = HoldsGame (after_of s a).game

kept : (s : SessionState) (a : Answer) → s ≡ after_of s a → HoldsGame s.game → Holds s a
kept s a same h = subst (λ (z : SessionState). HoldsGame z.game) same h

begin_holds : (s : SessionState) (line : List ℕ) (r : Result Parsed GameFault) → game_under s.repetition line ≡ r → HoldsGame s.game → Holds s (begin s r)
begin_holds s line (Ok g) e h =
    let is = under_found s.repetition line g e in
    record {
      legal = line_game s.repetition line g.game_type g.moves is;
      few = line_few s.repetition line g.game_type g.moves is;
      stands = line_stands s.repetition line g.game_type g.moves is;
    }
begin_holds s line (Err fault) e h = h

in_holds : (s : SessionState) (o : Option CurrentGame) (f : CurrentGame → Answer) → s.game ≡ o → HoldsGame s.game → ((g : CurrentGame) → s.game ≡ Some g → Holds s (f g)) → Holds s (in_game s o f)
in_holds s None f e h each = h
in_holds s (Some g) f e h each = each g e

legal_more : (p : Position) (ms : List Move) (m : Move) → AreLegal p ms → IsOn (moves (replay p ms)) m → AreLegal p (ms ++ m ∷ [])
legal_more p [] m legal on = (on, tt)
legal_more p (k ∷ ms) m legal on = (legal.0, legal_more (after p k) ms m legal.1 on)

length_more : (ms : List Move) (m : Move) → length (ms ++ m ∷ []) ≡ suc (length ms)
length_more [] m = refl
length_more (k ∷ ms) m = ap suc (length_more ms m)

make_holds : (s : SessionState) (g : CurrentGame) (r : Result Move MoveFault) → HoldsGame s.game → IsHeld g → is_ended g ≡ false → length g.made < 5000 → Holds s (make s g r)
make_holds s g (Err fault) h held yet less = h
make_holds s g (Ok m) h held yet less = go (is_listed (reached g) m) refl
  where
    go : (b : Bool) → is_listed (reached g) m ≡ b → Holds s (if b then go_on s (with_moves g (g.made ++ m ∷ [])) else refuse s (codes "invalidmove 3 not legal"))
    go true e =
        let size = length_more g.made m in
        record {
          legal = legal_more (opening g.game_type) g.made m held.legal (listed_on (reached g) m e);
          few = omega (arith, size, less);
          stands = (stands_by_moves g.repetition g.game_type g.made m).1 (record { before = held.stands; open_yet = yet });
        }
    go false e = h

play_holds : (s : SessionState) (words : List ℕ) (g : CurrentGame) → HoldsGame s.game → IsHeld g → Holds s (play s words g)
play_holds s words g h held = go (is_ended g) (nat_le 5000 (length g.made)) refl refl
  where
    less : nat_le 5000 (length g.made) ≡ false → length g.made < 5000
    less e = leb-false 5000 (length g.made) e

    go : (over full : Bool) → is_ended g ≡ over → nat_le 5000 (length g.made) ≡ full → Holds s (if over then refuse s (codes "invalidmove 4 game over") else if full then refuse s (codes "err 11 too many plies") else make s g (move_of g.game_type (reached g).board words))
    go true full yet e = h
    go false true yet e = h
    go false false yet e = make_holds s g (move_of g.game_type (reached g).board words) h held yet (less e)

undo_holds : (s : SessionState) (plies : ℕ) (g : CurrentGame) → HoldsGame s.game → IsHeld g → Holds s (undo s plies g)
undo_holds s plies g h held = go (nat_lt (length g.made) plies)
  where
    go : (b : Bool) → Holds s (if b then refuse s (codes "err 7 undo beyond start") else go_on s (with_moves g (take (length g.made - plies) g.made)))
    go true = h
    go false =
        let size = taken_size g.made (length g.made - plies) in
        let few = held.few in
        record {
          legal = legal_part (opening g.game_type) g.made (length g.made - plies) held.legal;
          few = omega (arith, size, few);
          stands = stands_part g.repetition g.game_type g.made (length g.made - plies) held.stands;
        }

change_holds : (s : SessionState) (r : Result Setting SettingFault) → HoldsGame s.game → Holds s (change s r)
change_holds s (Ok (Table n)) h = h
change_holds s (Ok (Workers n)) h = h
change_holds s (Ok (Repetition on)) h = h
change_holds s (Err fault) h = h

set_holds : (s : SessionState) (name value : List ℕ) → HoldsGame s.game → Holds s (set s name value)
set_holds s name value h = change_holds s (setting_of name value) h

command_holds : (s : SessionState) (line : List ℕ) (d : ℕ) (c : Command) → HoldsGame s.game → Holds s (command_answer s line d c)
command_holds s line d Info h = h
command_holds s line d (NewGame part) h = begin_holds s (or_base (bytes_at line part)) (game_under s.repetition (or_base (bytes_at line part))) refl h
command_holds s line d (Play part) h = in_holds s s.game (play s (bytes_at line part)) refl h (λ g e. play_holds s (bytes_at line part) g h (subst HoldsGame e h))
command_holds s line d Pass h = in_holds s s.game (play s (codes "pass")) refl h (λ g e. play_holds s (codes "pass") g h (subst HoldsGame e h))
command_holds s line d ValidMoves h = kept s (while_on s (list s)) (list_keeps s) h
command_holds s line d (BestDepth depth) h = kept s (while_on s (best_line s depth)) (best_keeps s depth) h
command_holds s line d (BestTime budget) h = kept s (while_on s (best_line s d)) (best_keeps s d) h
command_holds s line d (Undo plies) h = in_holds s s.game (undo s plies) refl h (λ g e. undo_holds s plies g h (subst HoldsGame e h))
command_holds s line d Options h = h
command_holds s line d (OptionGet name) h = kept s (get s (bytes_at line name)) (get_keeps s (bytes_at line name)) h
command_holds s line d (OptionSet name value) h = set_holds s (bytes_at line name) (bytes_at line value) h
command_holds s line d Exit h = h

words_holds : (s : SessionState) (line : List ℕ) (d : ℕ) (r : Result Command CommandFault) → HoldsGame s.game → Holds s (words_answer s line d r)
words_holds s line d (Ok c) h = command_holds s line d c h
words_holds s line d (Err Unknown) h = h
words_holds s line d (Err Arguments) h = h

pub holds_games : SessionsHoldGames
unfolding next
holds_games s (TextLine bytes) h = words_holds s bytes 1 (command_of bytes) h
holds_games s LongLine h = h
