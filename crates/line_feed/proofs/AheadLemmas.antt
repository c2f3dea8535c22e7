-- What an answer does to the lines to come.
use Rattle.std.proofs.Common.{◌≡◌, ◌<◌, ◌≤◌, ℕ, ◌+◌, Bool, true, false, List, [], ◌∷◌, ◌++◌, length, refl, ap, sym, ◌∙◌, arith, append_assoc, length-append, None, Some, if◌then◌else◌, ◌↔◌}
use Rattle.std.specs.Bool.{MatchBool}
use Rattle.std.specs.Option.{option_map}
use Rattle.std.proofs.lemmas.List.{append-nil}
use Rattle.io_edge.specs.Outside.{Told, in_front, IsAtEnd}
use Rattle.io_edge.specs.Lines.{Line as OneLine, Text, TooLong as LongLine, line_parts, lines, whole_parts, whole_lines}
use Rattle.line_feed.specs.Feed.{Reading, fresh, pending, SplitsOff, IsLastLine, Gives, Holds, Ends, Feeds, FeedsShort, HoldsLong, Takes, lf_after, input_limit, AddsUp}
use Rattle.io_edge.specs.Lines.{ToldLines, NoneAhead, LongAhead}
use Rattle.line_feed.specs.Ahead.{ahead_of, whole_ahead_of, lines_left, whole_left, Advances, AdvancesShort}
use Rattle.line_feed.specs.declared.line_answers.LineAnswer.{LineAnswer}
use Rattle.line_feed.specs.declared.line_answers.LineAnswer.TheVariants.{Line, TooLong, End, Failed, Full}
use Rattle.line_feed.specs.declared.line_answers.ShortAnswer.{ShortAnswer}
use Rattle.line_feed.specs.declared.line_answers.ShortAnswer.TheVariants.{Line as ShortLine, Long, End as ShortEnd, Failed as ShortFailed, Full as ShortFull}
use Rattle.line_feed.proofs.PartLemmas.{text_fits, long_passes, lines_long, whole_lines-open}

pub lines-nil : lines [] ≡ []
unfolding lines line_parts
lines-nil = refl

pub whole_lines-nil : whole_lines [] ≡ []
unfolding whole_lines whole_parts
whole_lines-nil = refl

-- at the start all lines of the stream are to come
pub ahead_begin : (r : Reading) (t : Told) → r ≡ fresh → ahead_of r t ≡ option_map lines t
unfolding ahead_of
ahead_begin r None e = refl
ahead_begin r (Some bytes) e = rw e refl

-- the lines to come of a reader whose source has known bytes
pub ahead_told : (r : Reading) (bytes : List ℕ) → ahead_of r (Some bytes) ≡ Some (lines_left r bytes)
unfolding ahead_of
ahead_told r bytes = refl

pub whole_ahead_told : (r : Reading) (bytes : List ℕ) → whole_ahead_of r (Some bytes) ≡ Some (whole_left r bytes)
unfolding whole_ahead_of
whole_ahead_told r bytes = refl

ahead_untold : (r : Reading) → ahead_of r None ≡ None
unfolding ahead_of
ahead_untold r = refl

whole_ahead_untold : (r : Reading) → whole_ahead_of r None ≡ None
unfolding whole_ahead_of
whole_ahead_untold r = refl

-- the lines of a reader that goes on, and of one that has finished
left_open : (b : Bool) (xs : List OneLine) → b ≡ false → (if b then [] else xs) ≡ xs
left_open false xs e = refl
left_open true xs e = absurd (cc)

left_over : (b : Bool) (xs : List OneLine) → b ≡ true → (if b then [] else xs) ≡ []
left_over true xs e = refl
left_over false xs e = absurd (cc)

-- a line is given
line_left : (finished : Bool) (po pn bytes left : List ℕ) (m : OneLine) → MatchBool finished (IsLastLine po bytes m pn × IsAtEnd (Some left)) (SplitsOff po bytes (m ∷ []) pn)
    → lines (po ++ (bytes ++ left)) ≡ m ∷ (if finished then [] else lines (pn ++ left))
line_left true po pn bytes left m (last, at_end) = rw (at_end, append-nil bytes) last.line
line_left false po pn bytes left m s = ap lines (sym (append_assoc po bytes left)) ∙ s.all left

gives_told : (old new : Reading) (bytes left : List ℕ) (m : OneLine) → Gives old bytes m new (Some left) → lines_left old (bytes ++ left) ≡ m ∷ lines_left new left
gives_told old new bytes left m g = left_open old.finished (lines (pending old ++ (bytes ++ left))) g.went_on ∙ line_left new.finished (pending old) (pending new) bytes left m g.line

gives_ahead : (old new : Reading) (bytes : List ℕ) (m : OneLine) (r0 r1 : Told) → r0 ≡ in_front bytes r1 → Gives old bytes m new r1 → ahead_of old r0 ≡ option_map (λ ms. m ∷ ms) (ahead_of new r1)
gives_ahead old new bytes m r0 None e g = ap (ahead_of old) e ∙ rw (ahead_untold old, ahead_untold new) refl
gives_ahead old new bytes m r0 (Some left) e g = ap (ahead_of old) e ∙ rw (ahead_told old (bytes ++ left), ahead_told new left) (ap Some (gives_told old new bytes left m g))

-- nothing was given: what is known of the lines to come, of all of them or of the whole ones, does
-- not change
held_left : (f : List ℕ → List OneLine) (old new : Reading) (bytes left : List ℕ) → old.finished ≡ false → new.finished ≡ false → f ((pending old ++ bytes) ++ left) ≡ f (pending new ++ left)
    → (if old.finished then [] else f (pending old ++ (bytes ++ left))) ≡ (if new.finished then [] else f (pending new ++ left))
held_left f old new bytes left went goes same =
    left_open old.finished (f (pending old ++ (bytes ++ left))) went ∙ (ap f (sym (append_assoc (pending old) bytes left)) ∙ (same ∙ sym (left_open new.finished (f (pending new ++ left)) goes)))

holds_as : (before now : List ℕ → List OneLine) (r0 r1 : Told) (bytes : List ℕ) → r0 ≡ in_front bytes r1 → ((left : List ℕ) → before (bytes ++ left) ≡ now left) → option_map now r1 ≡ option_map before r0
holds_as before now r0 None bytes e same = sym (ap (option_map before) e)
holds_as before now r0 (Some left) bytes e same = sym (ap (option_map before) e ∙ ap Some (same left))

holds_ahead : (old new : Reading) (r0 r1 : Told) (bytes : List ℕ) → r0 ≡ in_front bytes r1 → Holds old bytes new → ahead_of new r1 ≡ ahead_of old r0
unfolding ahead_of
holds_ahead old new r0 r1 bytes e h = holds_as (lines_left old) (lines_left new) r0 r1 bytes e (λ left. held_left lines old new bytes left h.went_on h.goes_on (h.split.all left))

-- the source has ended
append-nils : (xs ys : List ℕ) → xs ++ ys ≡ [] → (xs ≡ []) × (ys ≡ [])
append-nils [] ys e = (refl, e)
append-nils (x ∷ xs) ys e = cc

none_when : (b : Bool) (xs : List OneLine) → (b ≡ false → xs ≡ []) → (if b then [] else xs) ≡ []
none_when true xs f = refl
none_when false xs f = f refl

ends_told : (old : Reading) (bytes left : List ℕ) → pending old ++ bytes ≡ [] → (old.finished ≡ false → left ≡ []) → lines_left old (bytes ++ left) ≡ []
ends_told old bytes left e f = none_when old.finished (lines (pending old ++ (bytes ++ left))) (λ b. let n = append-nils (pending old) bytes e in rw (f b, n.0, n.1) lines-nil)

whole_ends_told : (old : Reading) (bytes left : List ℕ) → pending old ++ bytes ≡ [] → (old.finished ≡ false → left ≡ []) → whole_left old (bytes ++ left) ≡ []
whole_ends_told old bytes left e f = none_when old.finished (whole_lines (pending old ++ (bytes ++ left))) (λ b. let n = append-nils (pending old) bytes e in rw (f b, n.0, n.1) whole_lines-nil)

ends_ahead : (old new : Reading) (bytes : List ℕ) (r0 r1 : Told) → r0 ≡ in_front bytes r1 → Ends old bytes new r1 → NoneAhead (ahead_of old r0)
ends_ahead old new bytes r0 None e g = rw (e, ahead_untold old) tt
ends_ahead old new bytes r0 (Some left) e g = rw (e, ahead_told old (bytes ++ left)) (ends_told old bytes left g.nothing g.at_end)

whole_ends_ahead : (old new : Reading) (bytes : List ℕ) (r0 r1 : Told) → r0 ≡ in_front bytes r1 → Ends old bytes new r1 → NoneAhead (whole_ahead_of old r0)
whole_ends_ahead old new bytes r0 None e g = rw (e, whole_ahead_untold old) tt
whole_ends_ahead old new bytes r0 (Some left) e g = rw (e, whole_ahead_told old (bytes ++ left)) (whole_ends_told old bytes left g.nothing g.at_end)

-- a reader that has finished has no line to come
pub none_after_end : (r : Reading) (t : Told) → r.finished ≡ true → NoneAhead (ahead_of r t)
none_after_end r None e = rw (ahead_untold r) tt
none_after_end r (Some bytes) e = rw (ahead_told r bytes) (left_over r.finished (lines (pending r ++ bytes)) e)

pub no_whole_after_end : (r : Reading) (t : Told) → r.finished ≡ true → NoneAhead (whole_ahead_of r t)
no_whole_after_end r None e = rw (whole_ahead_untold r) tt
no_whole_after_end r (Some bytes) e = rw (whole_ahead_told r bytes) (left_over r.finished (whole_lines (pending r ++ bytes)) e)

-- what an answer does to the lines to come follows from the bytes that were read
pub advances : (a : LineAnswer) (old new : Reading) (r0 r1 : Told) → (bytes : List ℕ) × Takes r0 r1 old.taken new.taken bytes × Feeds a old bytes new r1 → Advances a new.last (ahead_of old r0) (ahead_of new r1)
advances Line old new r0 r1 (bytes, t, g) = gives_ahead old new bytes (Text new.last) r0 r1 t.left g
advances TooLong old new r0 r1 (bytes, t, g) = gives_ahead old new bytes LongLine r0 r1 t.left g
advances End old new r0 r1 (bytes, t, g) = (ends_ahead old new bytes r0 r1 t.left g, none_after_end new r1 g.finished)
advances Failed old new r0 r1 (bytes, t, (h, below)) = holds_ahead old new r0 r1 bytes t.left h
advances Full old new r0 r1 (bytes, t, (h, full)) = holds_ahead old new r0 r1 bytes t.left h

match_true : (b : Bool) {P : Type 0} (Q : Type 0) → b ≡ true → P → MatchBool b P Q
match_true true Q e p = p
match_true false Q e p = absurd (cc)

match_false : (b : Bool) (P : Type 0) {Q : Type 0} → b ≡ false → Q → MatchBool b P Q
match_false true P e q = absurd (cc)
match_false false P e q = q

match_both : (b : Bool) {P Q : Type 0} → P → Q → MatchBool b P Q
match_both true p q = p
match_both false p q = q

whole_line_left : (finished : Bool) (po pn bytes left : List ℕ) (m : OneLine) → MatchBool finished (IsLastLine po bytes m pn × IsAtEnd (Some left)) (SplitsOff po bytes (m ∷ []) pn)
    → MatchBool finished (whole_lines (po ++ (bytes ++ left)) ≡ []) (whole_lines (po ++ (bytes ++ left)) ≡ m ∷ whole_lines (pn ++ left))
whole_line_left true po pn bytes left m (last, at_end) = rw (at_end, append-nil bytes) last.no_whole
whole_line_left false po pn bytes left m s = ap whole_lines (sym (append_assoc po bytes left)) ∙ s.whole left

whole_given : (b : Bool) (old new : ToldLines) (w ws : List OneLine) (m : OneLine) → old ≡ Some w → new ≡ Some (if b then [] else ws) → MatchBool b (w ≡ []) (w ≡ m ∷ ws) → MatchBool b (NoneAhead old) (old ≡ option_map (λ ms. m ∷ ms) new)
whole_given true old new w ws m e f h = rw e h
whole_given false old new w ws m e f h = rw (e, f) (ap Some h)

whole_gives_ahead : (old new : Reading) (bytes : List ℕ) (m : OneLine) (r0 r1 : Told) → r0 ≡ in_front bytes r1 → Gives old bytes m new r1
    → MatchBool new.finished (NoneAhead (whole_ahead_of old r0)) (whole_ahead_of old r0 ≡ option_map (λ ms. m ∷ ms) (whole_ahead_of new r1))
whole_gives_ahead old new bytes m r0 None e g =
    let none : whole_ahead_of old r0 ≡ None = ap (whole_ahead_of old) e ∙ whole_ahead_untold old in
    match_both new.finished (rw none tt) (rw (none, whole_ahead_untold new) refl)
whole_gives_ahead old new bytes m r0 (Some left) e g =
    whole_given
    new.finished
    (whole_ahead_of old r0)
    (whole_ahead_of new (Some left))
    (whole_lines (pending old ++ (bytes ++ left)))
    (whole_lines (pending new ++ left))
    m
    (ap (whole_ahead_of old) e ∙ (whole_ahead_told old (bytes ++ left) ∙ ap Some (left_open old.finished (whole_lines (pending old ++ (bytes ++ left))) g.went_on)))
    (whole_ahead_told new left)
    (whole_line_left new.finished (pending old) (pending new) bytes left m g.line)

whole_holds_ahead : (old new : Reading) (r0 r1 : Told) (bytes : List ℕ) → r0 ≡ in_front bytes r1 → Holds old bytes new → whole_ahead_of new r1 ≡ whole_ahead_of old r0
unfolding whole_ahead_of
whole_holds_ahead old new r0 r1 bytes e h = holds_as (whole_left old) (whole_left new) r0 r1 bytes e (λ left. held_left whole_lines old new bytes left h.went_on h.goes_on (h.split.whole left))

-- the same for whole lines: once the source has ended there was none
pub whole_advances : (a : LineAnswer) (old new : Reading) (r0 r1 : Told) → (bytes : List ℕ) × Takes r0 r1 old.taken new.taken bytes × Feeds a old bytes new r1
    → MatchBool new.finished (NoneAhead (whole_ahead_of old r0)) (Advances a new.last (whole_ahead_of old r0) (whole_ahead_of new r1))
whole_advances Line old new r0 r1 (bytes, t, g) = whole_gives_ahead old new bytes (Text new.last) r0 r1 t.left g
whole_advances TooLong old new r0 r1 (bytes, t, g) = whole_gives_ahead old new bytes LongLine r0 r1 t.left g
whole_advances End old new r0 r1 (bytes, t, g) = match_true new.finished _ g.finished (whole_ends_ahead old new bytes r0 r1 t.left g)
whole_advances Failed old new r0 r1 (bytes, t, (h, below)) = match_false new.finished _ h.goes_on (whole_holds_ahead old new r0 r1 bytes t.left h)
whole_advances Full old new r0 r1 (bytes, t, (h, full)) = match_false new.finished _ h.goes_on (whole_holds_ahead old new r0 r1 bytes t.left h)

-- a line that is given fits
pub line_fits : (a : LineAnswer) (old new : Reading) (r0 r1 : Told) → (bytes : List ℕ) × Takes r0 r1 old.taken new.taken bytes × Feeds a old bytes new r1 → a ≡ Line → length new.last ≤ 65536
line_fits Line old new r0 r1 (bytes, t, g) e = let (part, p) = g.passes in let (short, less) = text_fits part new.last p.line in omega arith
line_fits TooLong old new r0 r1 fed e = absurd (cc)
line_fits End old new r0 r1 fed e = absurd (cc)
line_fits Failed old new r0 r1 fed e = absurd (cc)
line_fits Full old new r0 r1 fed e = absurd (cc)

-- the bytes that pass in a call decide whether a line was too long
pub long_counts : (a : LineAnswer) (old new : Reading) (r0 r1 : Told) → (bytes : List ℕ) × Takes r0 r1 old.taken new.taken bytes × Feeds a old bytes new r1
    → (a ≡ TooLong) ↔ (old.passed + 65536 + length (lf_after new.finished) < new.passed)
long_counts Line old new r0 r1 (bytes, t, g) = let (part, p) = g.passes in let (short, less) = text_fits part new.last p.line in let c = p.counted in (λ e. absurd (cc), λ h. absurd (omega arith))
long_counts TooLong old new r0 r1 (bytes, t, g) = let (part, p) = g.passes in let long = long_passes part p.line in let c = p.counted in (λ e. omega arith, λ h. refl)
long_counts End old new r0 r1 (bytes, t, g) = let s = g.same in (λ e. absurd (cc), λ h. absurd (omega arith))
long_counts Failed old new r0 r1 (bytes, t, (h, below)) = let s = h.same in (λ e. absurd (cc), λ k. absurd (omega arith))
long_counts Full old new r0 r1 (bytes, t, (h, full)) = let s = h.same in (λ e. absurd (cc), λ k. absurd (omega arith))

lf_after-length : (b : Bool) → length (lf_after b) ≤ 1
lf_after-length true = omega arith
lf_after-length false = omega arith

-- a reader that has finished is asked again
pub whole_after_end : (r : Reading) (t : Told) → r.finished ≡ true → MatchBool r.finished (NoneAhead (whole_ahead_of r t)) (NoneAhead (whole_ahead_of r t) × NoneAhead (whole_ahead_of r t))
whole_after_end r t e = let n = no_whole_after_end r t e in match_both r.finished n (n, n)

-- what is held, and its end was not looked for, leaves the lines to come
long_held : (old new : Reading) (bytes : List ℕ) (r0 r1 : Told) → r0 ≡ in_front bytes r1 → HoldsLong old bytes new → ahead_of new r1 ≡ ahead_of old r0
unfolding ahead_of
long_held old new bytes r0 r1 e h =
    holds_as (lines_left old) (lines_left new) r0 r1 bytes e (λ left. held_left lines old new bytes left h.went_on h.goes_on (ap (λ held. lines (held ++ left)) (sym h.kept)))

-- and the first of them is too long
long_first : (r : Reading) (t : Told) → r.finished ≡ false → whole_lines r.part ≡ [] → 65536 < length r.part → LongAhead (ahead_of r t)
long_first r None go none long = rw (ahead_untold r) tt
long_first r (Some left) go none long =
    let (more, e) = lines_long r.part (r.ahead ++ left) none long in
    rw (ahead_told r left, left_open r.finished (lines (pending r ++ left)) go, append_assoc r.part r.ahead left) (more, e)

-- what an answer that reads no further than a line may go does to the lines to come
pub short_advances : (a : ShortAnswer) (old new : Reading) (r0 r1 : Told) → (bytes : List ℕ) × Takes r0 r1 old.taken new.taken bytes × FeedsShort a old bytes new r1
    → AdvancesShort a new.last (ahead_of old r0) (ahead_of new r1)
short_advances ShortLine old new r0 r1 (bytes, t, g) = advances Line old new r0 r1 (bytes, t, g)
short_advances Long old new r0 r1 (bytes, t, h) =
    let same = long_held old new bytes r0 r1 t.left h in
    let front = h.front in
    (rw (← same) (long_first new r1 h.goes_on (whole_lines-open new.part h.no_lf) (omega arith)), same)
short_advances ShortEnd old new r0 r1 (bytes, t, g) = advances End old new r0 r1 (bytes, t, g)
short_advances ShortFailed old new r0 r1 (bytes, t, (h, short, below)) = holds_ahead old new r0 r1 bytes t.left h
short_advances ShortFull old new r0 r1 (bytes, t, (h, short, full)) = holds_ahead old new r0 r1 bytes t.left h

-- a line that is given fits, and a call passes no more than it and its LF
pub short_fits : (a : ShortAnswer) (old new : Reading) (r0 r1 : Told) → (bytes : List ℕ) × Takes r0 r1 old.taken new.taken bytes × FeedsShort a old bytes new r1 → a ≡ ShortLine → length new.last ≤ 65536
short_fits ShortLine old new r0 r1 fed e = line_fits Line old new r0 r1 fed refl
short_fits Long old new r0 r1 fed e = absurd (cc)
short_fits ShortEnd old new r0 r1 fed e = absurd (cc)
short_fits ShortFailed old new r0 r1 fed e = absurd (cc)
short_fits ShortFull old new r0 r1 fed e = absurd (cc)

pub short_passes : (a : ShortAnswer) (old new : Reading) (r0 r1 : Told) → (bytes : List ℕ) × Takes r0 r1 old.taken new.taken bytes × FeedsShort a old bytes new r1 → new.passed ≤ old.passed + 65537
short_passes ShortLine old new r0 r1 (bytes, t, g) =
    let (part, p) = g.passes in
    let (short, less) = text_fits part new.last p.line in
    let one = lf_after-length new.finished in
    let c = p.counted in omega arith
short_passes Long old new r0 r1 (bytes, t, h) = let s = h.same in omega arith
short_passes ShortEnd old new r0 r1 (bytes, t, g) = let s = g.same in omega arith
short_passes ShortFailed old new r0 r1 (bytes, t, (h, short, below)) = let s = h.same in omega arith
short_passes ShortFull old new r0 r1 (bytes, t, (h, short, full)) = let s = h.same in omega arith

-- a reader whose part is not too long is full near its limit
pub short_full : (a : ShortAnswer) (old new : Reading) (r0 r1 : Told) → (bytes : List ℕ) × Takes r0 r1 old.taken new.taken bytes × FeedsShort a old bytes new r1 → AddsUp new → a ≡ ShortFull → input_limit ≤ new.passed + 65536
short_full ShortFull old new r0 r1 (bytes, t, (h, short, full)) sums e =
    let sum = length-append new.part new.ahead in
    let exact = sums.exact (omega arith) in omega arith
short_full ShortLine old new r0 r1 fed sums e = absurd (cc)
short_full Long old new r0 r1 fed sums e = absurd (cc)
short_full ShortEnd old new r0 r1 fed sums e = absurd (cc)
short_full ShortFailed old new r0 r1 fed sums e = absurd (cc)
