-- What holds at every stage of an audit: its games are games. A move that is tried was legal two
-- plies before and is not legal now.
use Rattle.std.proofs.Common.{◌≡◌, ℕ, ◌+◌, ◌-◌, ◌<◌, ◌≤◌, Bool, true, false, cond, List, [], ◌∷◌, ◌++◌, length, None, Some, refl, subst, arith, length-append}
use Rattle.std.specs.Prelude.{◌||◌, not, nat_eq, nat_le, nat_lt}
use Rattle.std.specs.declared.option.Option.{Option}
use Rattle.std.specs.Option.{IfSome}
use Rattle.std.proofs.lemmas.Bool.{leb-false}
use Rattle.std.proofs.lemmas.List.{length-take}
use Rattle.hive_model.specs.declared.pieces.GameType.{GameType}
use Rattle.hive_model.specs.declared.places.Move.{Move}
use Rattle.hive_model.specs.Lists.{IsOn}
use Rattle.hive_model.specs.Positions.{Position, opening}
use Rattle.hive_model.specs.Legal.{is_over, moves}
use Rattle.hive_model.specs.Games.{AreLegal, IsGame, after, replay}
use Rattle.hive_model.specs.Strings.{parts}
use Rattle.io_edge.specs.Lines.{Line as Mark, Text, TooLong, greatest_line}
use Rattle.grow_game.specs.Growing.{word}
use Rattle.game_text.proofs.WriteLaws.{legal_part}
use Rattle.audit_core.specs.declared.plan.AuditPlan.{AuditPlan}
use Rattle.audit_core.specs.declared.plan.Stage.{Stage}
use Rattle.audit_core.specs.declared.plan.Stage.TheVariants.{Greeting, Beginning, Listing, Playing, Undoing, Reviewing, Trying, Relisting, Loading, Finishing, Over}
use Rattle.audit_core.specs.declared.findings.Fault.TheVariants.{Unreadable}
use Rattle.audit_core.specs.declared.findings.Finding.{Finding}
use Rattle.audit_core.specs.Judging.{has_move, wrong_list, wrong_refusal, wrong_string}
use Rattle.audit_core.specs.Drawing.{is_siege, tried_of}
use Rattle.audit_core.specs.Texts.{is_ok}
use Rattle.audit_core.specs.Keeps.{IsPlan}
use Rattle.audit_core.specs.AuditState.{AuditState, drawn_now, games_before, start, position_now, conclude, begin, next_game, end_game, note, found, break_off, go, go_or_find, go_back, close_game, list_or_end, play_drawn, count, advance, with_move, check_string, check_list, without_plies, position_before, next_word, try_drawn, loaded, list_loaded, check_undone, check_review, check_tried, check_relisted, check_loaded, check_finish, reply_ends, fresh, keep, reply_with, sent, at_mark, is_ended, line_at, named_in}
use Rattle.audit_core.specs.Audits.{step, after_all}
use Rattle.audit_core.specs.Laws.{TriesIllegal, TriedAreIllegal}
use Rattle.audit_core.proofs.Judged.{on_has}
use Rattle.audit_core.proofs.Picks.{drawn_kept, drawn_legal}
use Rattle.audit_core.proofs.TriedTexts.{none_denoted, two_before}

-- a move was legal two plies before, and is not legal now
abbrev IsStale : Position → Position → Move → Type 0
IsStale before now m = IsOn (moves before) m × (IsOn (moves now) m → ⊥)

-- what holds at each stage
abbrev Fits : Stage → ℕ → GameType → List Move → Type 0
Fits Greeting plies t ms = Unit {0}
Fits Beginning plies t ms = Unit {0}
Fits Listing plies t ms = length ms < plies
Fits (Playing m) plies t ms = (length ms < plies) × IsOn (moves (replay (opening t) ms)) m
Fits (Undoing back) plies t ms = Unit {0}
Fits Reviewing plies t ms = Unit {0}
Fits (Trying m) plies t ms = IsStale (two_before t ms) (replay (opening t) ms) m
Fits Relisting plies t ms = Unit {0}
Fits Loading plies t ms = Unit {0}
Fits Finishing plies t ms = Unit {0}
Fits Over plies t ms = Unit {0}

-- both games are games of at most this number of plies
record AreGames (t : GameType) (ms whole : List Move) (plies : ℕ) : Type 0 where
  game : IsGame t ms
  game_whole : IsGame t whole
  few : length ms ≤ plies
  few_whole : length whole ≤ plies
  small : plies ≤ 1000

abbrev Games : AuditState → Type 0
Games s = AreGames s.game_type s.moves s.whole s.plan.plies

abbrev Stands : AuditState → Type 0
Stands s = Games s × Fits s.stage s.plan.plies s.game_type s.moves

-- How games begin and end

conclude_so : (s : AuditState) → Games s → Stands (conclude s)
conclude_so s g = (g, tt)

begin_so : (s : AuditState) → Games s → Stands (begin s)
begin_so s g = let small = g.small in (record { game = tt; game_whole = tt; few = omega arith; few_whole = omega arith; small = small }, tt)

next_at : (b : Bool) (s : AuditState) → Games s → Stands (cond b (conclude s) (begin s))
next_at true s g = conclude_so s g
next_at false s g = begin_so s g

next_so : (s : AuditState) → Games s → Stands (next_game s)
next_so s g = next_at (nat_le s.plan.games s.ended) s g

found_at : (b : Bool) (s : AuditState) → Games s → Stands (cond b (conclude s) (next_game s))
found_at true s g = conclude_so s g
found_at false s g = next_so s g

found_so : (s : AuditState) (f : Finding) → Games s → Stands (found s f)
found_so s f g = found_at (nat_le s.plan.most (s.findings + 1)) (end_game (note s f)) g

close_at : (b : Bool) (s : AuditState) → Games s → Stands (cond b (next_game (end_game s)) (go_back s))
close_at true s g = next_so (end_game s) g
close_at false s g = (g, tt)

close_so : (s : AuditState) → Games s → Stands (close_game s)
close_so s g = close_at (nat_eq (length s.moves) 0) s g

list_at : (o b : Bool) (s : AuditState) → nat_le s.plan.plies (length s.moves) ≡ b → Games s → Stands (cond (o || b) (close_game s) (go s Listing))
list_at true b s e g = close_so s g
list_at false true s e g = close_so s g
list_at false false s e g = (g, leb-false s.plan.plies (length s.moves) e)

list_so : (s : AuditState) → Games s → Stands (list_or_end s)
list_so s g = list_at (is_over (position_now s)) (nat_le s.plan.plies (length s.moves)) s refl g

drawn_so : (s : AuditState) (o : Option Move) → Games s → length s.moves < s.plan.plies → IfSome o (λ m. IsOn (moves (position_now s)) m) → Stands (play_drawn s o)
drawn_so s None g less h = next_so (end_game s) g
drawn_so s (Some m) g less h = (g, (less, h))

tried_so : (s : AuditState) (o : Option Move) → Games s → IfSome o (IsStale (position_before s) (position_now s)) → Stands (try_drawn s o)
tried_so s None g h = (g, tt)
tried_so s (Some m) g h = (g, h)

loaded_at : (b : Bool) (s : AuditState) → Games s → Stands (cond b (next_game (end_game s)) (go s Finishing))
loaded_at true s g = next_so (end_game s) g
loaded_at false s g = (g, tt)

-- what is drawn of the moves that were legal before is stale
some_stale : (before now : Position) (o : Option Move) → IfSome o (λ m. IsOn (moves before) m × (not (has_move (moves now) m) ≡ true)) → IfSome o (IsStale before now)
some_stale before now None h = tt
some_stale before now (Some m) h = (h.0, λ on. let there = on_has (moves now) m on in let kept = h.1 in not_both (has_move (moves now) m) there kept)
  where
    not_both : (b : Bool) → b ≡ true → not b ≡ true → ⊥
    not_both true e f = cc
    not_both false e f = cc

stale_so : (state : ℕ) (before now : Position) → IfSome (tried_of state before now) (IsStale before now)
stale_so state before now = some_stale before now (tried_of state before now) (drawn_kept (λ m. not (has_move (moves now) m)) (word state) (moves before))

-- The current game

legal_more : (p : Position) (ms : List Move) (m : Move) → AreLegal p ms → IsOn (moves (replay p ms)) m → AreLegal p (ms ++ m ∷ [])
legal_more p [] m legal on = (on, tt)
legal_more p (k ∷ ms) m legal on = (legal.0, legal_more (after p k) ms m legal.1 on)

more_so : (s : AuditState) (m : Move) → Games s → length s.moves < s.plan.plies → IsOn (moves (position_now s)) m → Games (with_move s m)
more_so s m g less on = record {
  game = legal_more (opening s.game_type) s.moves m g.game on;
  game_whole = g.game_whole;
  few = omega (arith, less, length-append s.moves (m ∷ []));
  few_whole = g.few_whole;
  small = g.small;
}

less_so : (s : AuditState) (back : ℕ) → Games s → Games (without_plies s back)
less_so s back g = let few = g.few in record {
  game = legal_part (opening s.game_type) s.moves (length s.moves - back) g.game;
  game_whole = g.game;
  few = omega (arith, few, length-take (length s.moves - back) s.moves);
  few_whole = few;
  small = g.small;
}

swap_so : (s : AuditState) → Games s → Games (loaded s)
swap_so s g = record { game = g.game_whole; game_whole = g.game; few = g.few_whole; few_whole = g.few; small = g.small }

-- A reply

judged_so : (s : AuditState) (o : Option Finding) (t : AuditState) → Games s → Stands t → Stands (go_or_find s o t)
judged_so s None t g h = h
judged_so s (Some f) t g h = found_so s f g

string_so : (s : AuditState) (asked reply : List ℕ) → Games s → Stands (check_string s asked reply)
string_so s asked reply g = judged_so s (wrong_string s.game_type s.moves asked reply) (list_or_end s) g (list_so s g)

list_judged : (s : AuditState) (reply : List ℕ) → Games s → length s.moves < s.plan.plies → Stands (check_list s reply)
list_judged s reply g less =
    judged_so s (wrong_list s.game_type (position_now s) reply) (play_drawn (advance (count s)) (drawn_now s)) g
    (drawn_so (advance (count s)) (drawn_now s) g less (drawn_legal (is_siege s.plan.seed (games_before s)) s.state (position_now s)))

undone_so : (s : AuditState) (asked reply : List ℕ) → Games s → Stands (check_undone s asked reply)
undone_so s asked reply g = judged_so s (wrong_string s.game_type s.moves asked reply) (go s Reviewing) g (g, tt)

review_so : (s : AuditState) (reply : List ℕ) → Games s → Stands (check_review s reply)
review_so s reply g =
    let tried = tried_of s.state (position_before s) (position_now s) in
    judged_so s (wrong_list s.game_type (position_now s) reply) (try_drawn (next_word (count s)) tried) g
    (tried_so (next_word (count s)) tried g (stale_so s.state (position_before s) (position_now s)))

refused_so : (s : AuditState) (m : Move) (reply : List ℕ) → Games s → Stands (check_tried s m reply)
refused_so s m reply g = judged_so s (wrong_refusal (position_now s).board m reply) (go s Relisting) g (g, tt)

relisted_so : (s : AuditState) (reply : List ℕ) → Games s → Stands (check_relisted s reply)
relisted_so s reply g = judged_so s (wrong_list s.game_type (position_now s) reply) (go (count s) Loading) g (g, tt)

loaded_so : (s : AuditState) (asked reply : List ℕ) → Games s → Stands (check_loaded s asked reply)
loaded_so s asked reply g = judged_so s (wrong_string s.game_type s.moves asked reply) (list_loaded s) g (loaded_at (is_over (position_now s)) s g)

finish_so : (s : AuditState) (reply : List ℕ) → Games s → Stands (check_finish s reply)
finish_so s reply g = judged_so s (wrong_list s.game_type (position_now s) reply) (next_game (end_game (count s))) g (next_so (end_game (count s)) g)

reply_so : (s : AuditState) (stage : Stage) (reply : List ℕ) → Stands s → Fits stage s.plan.plies s.game_type s.moves → Stands (reply_ends s stage reply)
reply_so s Greeting reply h fits = next_so (record s { plays = named_in (parts reply) }) h.0
reply_so s Beginning reply h fits = string_so s (line_at s Beginning) reply h.0
reply_so s Listing reply h fits = list_judged s reply h.0 fits
reply_so s (Playing m) reply h fits = string_so (with_move s m) (line_at s (Playing m)) reply (more_so s m h.0 fits.0 fits.1)
reply_so s (Undoing back) reply h fits = undone_so (without_plies s back) (line_at s (Undoing back)) reply (less_so s back h.0)
reply_so s Reviewing reply h fits = review_so s reply h.0
reply_so s (Trying m) reply h fits = refused_so s m reply h.0
reply_so s Relisting reply h fits = relisted_so s reply h.0
reply_so s Loading reply h fits = loaded_so (loaded s) (line_at s Loading) reply (swap_so s h.0)
reply_so s Finishing reply h fits = finish_so s reply h.0
reply_so s Over reply h fits = h

-- A line

keep_at : (s : AuditState) (reply : List ℕ) (b : Bool) → Stands s → Stands (cond b (break_off s Unreadable) (record s { begun = true; reply = reply }))
keep_at s reply true h = (h.0, tt)
keep_at s reply false h = h

hear_at : (s : AuditState) (line : List ℕ) (b : Bool) → Stands s → Stands (cond b (reply_ends (fresh s) s.stage s.reply) (keep s (reply_with s s.stage line)))
hear_at s line true h = reply_so (fresh s) s.stage s.reply h h.1
hear_at s line false h = keep_at s (reply_with s s.stage line) (nat_lt greatest_line (length (reply_with s s.stage line))) h

mark_so : (s : AuditState) (mark : Mark) → Stands s → Stands (at_mark s mark)
unfolding at_mark
mark_so s (Text line) h = hear_at s line (is_ok line) h
mark_so s TooLong h = (h.0, tt)

step_at : (s : AuditState) (mark : Mark) (b : Bool) → Stands s → Stands (cond b s (at_mark (sent s) mark))
step_at s mark true h = h
step_at s mark false h = mark_so (sent s) mark h

all_so : (s : AuditState) (marks : List Mark) → Stands s → Stands (after_all s marks)
all_so s [] h = h
all_so s (mark ∷ marks) h = all_so (step s mark) marks (step_at s mark (is_ended s.stage) h)

start_so : (plan : AuditPlan) → IsPlan plan → Stands (start plan)
start_so plan is = let few = is.few in (record { game = tt; game_whole = tt; few = omega arith; few_whole = omega arith; small = few }, tt)

tried_at : (s : AuditState) (m : Move) → Stands s → s.stage ≡ Trying m → TriesIllegal s m
tried_at s m h e =
    let g = h.0 in
    let few = g.few in
    let small = g.small in
    let fits : Fits (Trying m) s.plan.plies s.game_type s.moves = subst (λ (stage : Stage). Fits stage s.plan.plies s.game_type s.moves) e h.1 in
    let fewer : length s.moves ≤ 1000 = omega (arith, few, small) in
    record {
      was_legal = fits.0;
      not_legal = fits.1;
      denotes_none = λ n d on. none_denoted s.game_type s.moves m n g.game fewer fits.0 fits.1 d on;
    }

pub tried_are_illegal : TriedAreIllegal
tried_are_illegal plan marks m is e = tried_at (after_all (start plan) marks) m (all_so (start plan) marks (start_so plan is)) e
