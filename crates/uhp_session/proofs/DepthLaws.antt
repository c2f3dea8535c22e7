-- The depth of a timed search shows only in the reply to its own line.
use Rattle.std.proofs.Common.{◌≡◌, ℕ, Bool, true, false, List, Result, Ok, Err, refl, sym, ◌∙◌, if◌then◌else◌}
use Rattle.std.specs.Prelude.{Option, Some, None, codes}
use Rattle.std.proofs.lemmas.Option.{none-some}
use Rattle.io_edge.specs.Lines.{Text as TextLine, TooLong as LongLine}
use Rattle.uhp_words.specs.declared.command.Command.{Command}
use Rattle.uhp_words.specs.declared.command.Command.TheVariants.{Info, NewGame, Play, Pass, ValidMoves, BestDepth, BestTime, Undo, Options, OptionGet, OptionSet, Exit}
use Rattle.uhp_words.specs.declared.command.CommandFault.{CommandFault}
use Rattle.uhp_words.specs.declared.command.CommandFault.TheVariants.{Unknown, Arguments}
use Rattle.uhp_words.specs.Reading.{command_of}
use Rattle.uhp_session.specs.Answers.{CurrentGame, SessionState, reached, is_ended, refuse, in_game, best_line, command_answer, words_answer, reply_of, after_of, reply, next}
use Rattle.uhp_session.specs.Searches.{Search, asks, command_search, search_in}
use Rattle.uhp_session.specs.Laws.{DepthsServeSearches}
use Rattle.uhp_session.proofs.ReplyLaws.{best_keeps}

-- The session afterwards

command_kept : (s : SessionState) (line : List ℕ) (d e : ℕ) (c : Command) → after_of s (command_answer s line d c) ≡ after_of s (command_answer s line e c)
command_kept s line d e Info = refl
command_kept s line d e (NewGame part) = refl
command_kept s line d e (Play part) = refl
command_kept s line d e Pass = refl
command_kept s line d e ValidMoves = refl
command_kept s line d e (BestDepth depth) = refl
command_kept s line d e (BestTime budget) = sym (best_keeps s d) ∙ best_keeps s e
command_kept s line d e (Undo plies) = refl
command_kept s line d e Options = refl
command_kept s line d e (OptionGet name) = refl
command_kept s line d e (OptionSet name value) = refl
command_kept s line d e Exit = refl

pub depth_kept : (s : SessionState) (line : List ℕ) (d e : ℕ) (r : Result Command CommandFault) → after_of s (words_answer s line d r) ≡ after_of s (words_answer s line e r)
depth_kept s line d e (Ok c) = command_kept s line d e c
depth_kept s line d e (Err Unknown) = refl
depth_kept s line d e (Err Arguments) = refl

-- The reply

-- a search that is refused has one reply
time_same : (s : SessionState) (o : Option CurrentGame) (budget d e : ℕ) → search_in o budget ≡ None
    → reply_of (in_game s o (λ g. if is_ended g then refuse s (codes "err 8 game over") else best_line s d g))
    ≡ reply_of (in_game s o (λ g. if is_ended g then refuse s (codes "err 8 game over") else best_line s e g))
time_same s None budget d e none = refl
time_same s (Some g) budget d e none = go (is_ended g) none
  where
    asked : Option Search
    asked = Some (record { budget = budget; position = reached g })

    go : (over : Bool) → (if over then None else asked) ≡ None
        → reply_of (if over then refuse s (codes "err 8 game over") else best_line s d g) ≡ reply_of (if over then refuse s (codes "err 8 game over") else best_line s e g)
    go true same = refl
    go false same = absurd (none-some _ (sym same))

command_same : (s : SessionState) (line : List ℕ) (d e : ℕ) (c : Command) → command_search s (Ok c) ≡ None → reply_of (command_answer s line d c) ≡ reply_of (command_answer s line e c)
command_same s line d e Info none = refl
command_same s line d e (NewGame part) none = refl
command_same s line d e (Play part) none = refl
command_same s line d e Pass none = refl
command_same s line d e ValidMoves none = refl
command_same s line d e (BestDepth depth) none = refl
command_same s line d e (BestTime budget) none = time_same s s.game budget d e none
command_same s line d e (Undo plies) none = refl
command_same s line d e Options none = refl
command_same s line d e (OptionGet name) none = refl
command_same s line d e (OptionSet name value) none = refl
command_same s line d e Exit none = refl

words_same : (s : SessionState) (line : List ℕ) (d e : ℕ) (r : Result Command CommandFault) → command_search s r ≡ None → reply_of (words_answer s line d r) ≡ reply_of (words_answer s line e r)
words_same s line d e (Ok c) none = command_same s line d e c none
words_same s line d e (Err Unknown) none = refl
words_same s line d e (Err Arguments) none = refl

pub serves : DepthsServeSearches
unfolding reply next asks
serves s (TextLine bytes) d e = record {
  reply_same = λ none. words_same s bytes d e (command_of bytes) none;
  after_same = depth_kept s bytes d 1 (command_of bytes);
}
serves s LongLine d e = record { reply_same = λ none. refl; after_same = refl }
