-- An audit finds nothing exactly if each reply is right.
use Rattle.std.proofs.Common.{◌≡◌, ◌⊎◌, ℕ, ◌+◌, ◌≤◌, Bool, true, false, cond, List, [], ◌∷◌, length, None, Some, refl, ◌∙◌, inl, inr, arith}
use Rattle.std.specs.Prelude.{◌↔◌, ◌||◌, nat_eq, nat_le, nat_lt}
use Rattle.std.specs.declared.option.Option.{Option}
use Rattle.std.proofs.lemmas.Bool.{ltb-true, ltb-false}
use Rattle.hive_model.specs.declared.places.Move.{Move}
use Rattle.hive_model.specs.Legal.{is_over}
use Rattle.io_edge.specs.Lines.{Line as Mark, Text, TooLong}
use Rattle.hive_model.specs.Strings.{parts}
use Rattle.audit_core.specs.declared.plan.Stage.{Stage}
use Rattle.audit_core.specs.declared.plan.Stage.TheVariants.{Greeting, Beginning, Listing, Playing, Undoing, Reviewing, Trying, Relisting, Loading, Finishing, Over}
use Rattle.audit_core.specs.declared.findings.Fault.TheVariants.{Unreadable, Ended}
use Rattle.audit_core.specs.declared.findings.Finding.{Finding}
use Rattle.audit_core.specs.Judging.{wrong_list, wrong_refusal, wrong_string, ListsMoves, TellsGame}
use Rattle.audit_core.specs.Drawing.{tried_of}
use Rattle.audit_core.specs.Texts.{is_ok, is_refusal}
use Rattle.audit_core.specs.AuditState.{AuditState, drawn_now, start, position_now, conclude, begin, next_game, end_game, note, found, break_off, go, go_or_find, go_back, close_game, list_or_end, play_drawn, count, advance, with_move, check_string, check_list, without_plies, position_before, next_word, try_drawn, loaded, list_loaded, check_undone, check_review, check_tried, check_relisted, check_loaded, check_finish, reply_ends, fresh, keep, reply_with, sent, at_mark, is_ended, line_at, named_in}
use Rattle.audit_core.specs.Audits.{step, after_all, close, audit_of}
use Rattle.audit_core.specs.Laws.{IsReply, IsRightLine, IsRight, IsRightAt, AreRight, AuditsFindFaults}
use Rattle.audit_core.proofs.Judged.{replies_are_judged}

-- a step is right and leaves the findings, or is wrong and adds one
abbrev pub Tells : Type 0 → ℕ → ℕ → Type 0
Tells P before now = (P × (now ≡ before)) ⊎ ((P → ⊥) × (now ≡ before + 1))

next_at : (b : Bool) (s : AuditState) → (cond b (conclude s) (begin s)).findings ≡ s.findings
next_at true s = refl
next_at false s = refl

next_keeps : (s : AuditState) → (next_game s).findings ≡ s.findings
next_keeps s = next_at (nat_le s.plan.games s.ended) s

found_at : (b : Bool) (s : AuditState) → (cond b (conclude s) (next_game s)).findings ≡ s.findings
found_at true s = refl
found_at false s = next_keeps s

found_adds : (s : AuditState) (f : Finding) → (found s f).findings ≡ s.findings + 1
found_adds s f = found_at (nat_le s.plan.most (s.findings + 1)) (end_game (note s f))

close_at : (b : Bool) (s : AuditState) → (cond b (next_game (end_game s)) (go_back s)).findings ≡ s.findings
close_at true s = next_keeps (end_game s)
close_at false s = refl

close_keeps : (s : AuditState) → (close_game s).findings ≡ s.findings
close_keeps s = close_at (nat_eq (length s.moves) 0) s

list_at : (b : Bool) (s : AuditState) → (cond b (close_game s) (go s Listing)).findings ≡ s.findings
list_at true s = close_keeps s
list_at false s = refl

list_keeps : (s : AuditState) → (list_or_end s).findings ≡ s.findings
list_keeps s = list_at (is_over (position_now s) || nat_le s.plan.plies (length s.moves)) s

drawn_keeps : (s : AuditState) (m : Option Move) → (play_drawn s m).findings ≡ s.findings
drawn_keeps s None = next_keeps (end_game s)
drawn_keeps s (Some m) = refl

tried_keeps : (s : AuditState) (m : Option Move) → (try_drawn s m).findings ≡ s.findings
tried_keeps s None = refl
tried_keeps s (Some m) = refl

loaded_at : (b : Bool) (s : AuditState) → (cond b (next_game (end_game s)) (go s Finishing)).findings ≡ s.findings
loaded_at true s = next_keeps (end_game s)
loaded_at false s = refl

loaded_keeps : (s : AuditState) → (list_loaded s).findings ≡ s.findings
loaded_keeps s = loaded_at (is_over (position_now s)) s

-- A reply

judged_at : {P : Type 0} (s : AuditState) (o : Option Finding) (t : AuditState) → t.findings ≡ s.findings → (o ≡ None → P) → (P → o ≡ None) → Tells P s.findings (go_or_find s o t).findings
judged_at s None t same right back = inl (right refl, same)
judged_at s (Some f) t same right back = inr (λ p. absurd (let e = back p in cc), found_adds s f)

string_tells : (s : AuditState) (asked reply : List ℕ) → Tells (TellsGame s.game_type s.moves reply) s.findings (check_string s asked reply).findings
string_tells s asked reply =
    let law = replies_are_judged.strings s.game_type s.moves asked reply in
    judged_at s (wrong_string s.game_type s.moves asked reply) (list_or_end s) (list_keeps s) law.0 law.1

list_tells : (s : AuditState) (reply : List ℕ) → Tells (ListsMoves s.game_type (position_now s) reply) s.findings (check_list s reply).findings
list_tells s reply =
    let law = replies_are_judged.lists s.game_type (position_now s) reply in
    judged_at s (wrong_list s.game_type (position_now s) reply) (play_drawn (advance (count s)) (drawn_now s)) (drawn_keeps (advance (count s)) (drawn_now s)) law.0 law.1

undone_tells : (s : AuditState) (asked reply : List ℕ) → Tells (TellsGame s.game_type s.moves reply) s.findings (check_undone s asked reply).findings
undone_tells s asked reply =
    let law = replies_are_judged.strings s.game_type s.moves asked reply in
    judged_at s (wrong_string s.game_type s.moves asked reply) (go s Reviewing) refl law.0 law.1

review_tells : (s : AuditState) (reply : List ℕ) → Tells (ListsMoves s.game_type (position_now s) reply) s.findings (check_review s reply).findings
review_tells s reply =
    let law = replies_are_judged.lists s.game_type (position_now s) reply in
    let tried = tried_of s.state (position_before s) (position_now s) in
    judged_at s (wrong_list s.game_type (position_now s) reply) (try_drawn (next_word (count s)) tried) (tried_keeps (next_word (count s)) tried) law.0 law.1

refused_tells : (s : AuditState) (m : Move) (reply : List ℕ) → Tells (is_refusal reply ≡ true) s.findings (check_tried s m reply).findings
refused_tells s m reply =
    let law = replies_are_judged.refusals (position_now s).board m reply in
    judged_at s (wrong_refusal (position_now s).board m reply) (go s Relisting) refl law.0 law.1

relisted_tells : (s : AuditState) (reply : List ℕ) → Tells (ListsMoves s.game_type (position_now s) reply) s.findings (check_relisted s reply).findings
relisted_tells s reply =
    let law = replies_are_judged.lists s.game_type (position_now s) reply in
    judged_at s (wrong_list s.game_type (position_now s) reply) (go (count s) Loading) refl law.0 law.1

loaded_tells : (s : AuditState) (asked reply : List ℕ) → Tells (TellsGame s.game_type s.moves reply) s.findings (check_loaded s asked reply).findings
loaded_tells s asked reply =
    let law = replies_are_judged.strings s.game_type s.moves asked reply in
    judged_at s (wrong_string s.game_type s.moves asked reply) (list_loaded s) (loaded_keeps s) law.0 law.1

finish_tells : (s : AuditState) (reply : List ℕ) → Tells (ListsMoves s.game_type (position_now s) reply) s.findings (check_finish s reply).findings
finish_tells s reply =
    let law = replies_are_judged.lists s.game_type (position_now s) reply in
    judged_at s (wrong_list s.game_type (position_now s) reply) (next_game (end_game (count s))) (next_keeps (end_game (count s))) law.0 law.1

reply_tells : (s : AuditState) (stage : Stage) (reply : List ℕ) → Tells (IsReply s stage reply) s.findings (reply_ends s stage reply).findings
reply_tells s Greeting reply = inl (tt, next_keeps (record s { plays = named_in (parts reply) }))
reply_tells s Beginning reply = string_tells s (line_at s Beginning) reply
reply_tells s Listing reply = list_tells s reply
reply_tells s (Playing m) reply = string_tells (with_move s m) (line_at s (Playing m)) reply
reply_tells s (Undoing back) reply = undone_tells (without_plies s back) (line_at s (Undoing back)) reply
reply_tells s Reviewing reply = review_tells s reply
reply_tells s (Trying m) reply = refused_tells s m reply
reply_tells s Relisting reply = relisted_tells s reply
reply_tells s Loading reply = loaded_tells (loaded s) (line_at s Loading) reply
reply_tells s Finishing reply = finish_tells s reply
reply_tells s Over reply = inl (tt, refl)

-- A line

keep_tells : (s : AuditState) (reply : List ℕ) (b : Bool) → nat_lt 65536 (length reply) ≡ b → Tells (length reply ≤ 65536) s.findings (cond b (break_off s Unreadable) (record s { begun = true; reply = reply })).findings
keep_tells s reply true e = inr (λ low. absurd (let high = ltb-true 65536 (length reply) e in omega (arith, low, high)), refl)
keep_tells s reply false e = inl (ltb-false 65536 (length reply) e, refl)

-- what is read of a reply, and what was sent, does not count for it
fresh_tells : (s : AuditState) (stage : Stage) → Tells (IsReply s stage s.reply) s.findings (reply_ends (fresh (sent s)) stage s.reply).findings
fresh_tells s Greeting = reply_tells (fresh (sent s)) Greeting s.reply
fresh_tells s Beginning = reply_tells (fresh (sent s)) Beginning s.reply
fresh_tells s Listing = reply_tells (fresh (sent s)) Listing s.reply
fresh_tells s (Playing m) = reply_tells (fresh (sent s)) (Playing m) s.reply
fresh_tells s (Undoing back) = reply_tells (fresh (sent s)) (Undoing back) s.reply
fresh_tells s Reviewing = reply_tells (fresh (sent s)) Reviewing s.reply
fresh_tells s (Trying m) = reply_tells (fresh (sent s)) (Trying m) s.reply
fresh_tells s Relisting = reply_tells (fresh (sent s)) Relisting s.reply
fresh_tells s Loading = reply_tells (fresh (sent s)) Loading s.reply
fresh_tells s Finishing = reply_tells (fresh (sent s)) Finishing s.reply
fresh_tells s Over = reply_tells (fresh (sent s)) Over s.reply

line_tells : (s : AuditState) (line : List ℕ) (b : Bool) → Tells (IsRightLine b s line) s.findings (cond b (reply_ends (fresh (sent s)) s.stage s.reply) (keep (sent s) (reply_with (sent s) s.stage line))).findings
line_tells s line true = fresh_tells s s.stage
line_tells s line false = keep_tells (sent s) (reply_with s s.stage line) (nat_lt 65536 (length (reply_with s s.stage line))) refl

mark_tells : (s : AuditState) (mark : Mark) → Tells (IsRight s mark) s.findings (at_mark (sent s) mark).findings
unfolding at_mark
mark_tells s (Text line) = line_tells s line (is_ok line)
mark_tells s TooLong = inr (λ x. x, refl)

step_tells : (s : AuditState) (mark : Mark) (b : Bool) → Tells (IsRightAt b s mark) s.findings (cond b s (at_mark (sent s) mark)).findings
step_tells s mark true = inl (tt, refl)
step_tells s mark false = mark_tells s mark

-- An audit

close_tells : (s : AuditState) (b : Bool) → Tells (b ≡ true) s.findings (cond b s (break_off s Ended)).findings
close_tells s true = inl (refl, refl)
close_tells s false = inr (λ e. absurd (cc), refl)

-- what is right before, and what is found after it
both : {P Q : Type 0} (a b c : ℕ) → Tells P a b → ((Q × (c ≡ b)) ⊎ ((Q → ⊥) × (b + 1 ≤ c))) → ((P × Q) × (c ≡ a)) ⊎ (((P × Q) → ⊥) × (a + 1 ≤ c))
both a b c (inl (p, e)) (inl (q, f)) = inl ((p, q), f ∙ e)
both a b c (inl (p, e)) (inr (wrong, f)) = inr (λ x. wrong x.1, omega (arith, e, f))
both a b c (inr (wrong, e)) (inl (q, f)) = inr (λ x. wrong x.0, omega (arith, e, f))
both a b c (inr (wrong, e)) (inr (more, f)) = inr (λ x. wrong x.0, omega (arith, e, f))

ending : {Q : Type 0} (b c : ℕ) → Tells Q b c → (Q × (c ≡ b)) ⊎ ((Q → ⊥) × (b + 1 ≤ c))
ending b c (inl h) = inl h
ending b c (inr (wrong, e)) = inr (wrong, omega (arith, e))

lines_tell : (s : AuditState) (marks : List Mark) → (AreRight s marks × ((close (after_all s marks)).findings ≡ s.findings)) ⊎ ((AreRight s marks → ⊥) × (s.findings + 1 ≤ (close (after_all s marks)).findings))
lines_tell s [] = ending s.findings (close s).findings (close_tells s (is_ended s.stage))
lines_tell s (mark ∷ marks) = both s.findings (step s mark).findings (close (after_all (step s mark) marks)).findings (step_tells s mark (is_ended s.stage)) (lines_tell (step s mark) marks)

settle : {Q : Type 0} (c : ℕ) → ((Q × (c ≡ 0)) ⊎ ((Q → ⊥) × (0 + 1 ≤ c))) → (c ≡ 0) ↔ Q
settle c (inl (q, e)) = (λ x. q, λ x. e)
settle c (inr (wrong, h)) = (λ e. absurd (omega (arith, e, h)), λ q. absurd (wrong q))

pub audits_find_faults : AuditsFindFaults
unfolding audit_of
audits_find_faults plan marks = settle (close (after_all (start plan) marks)).findings (lines_tell (start plan) marks)
