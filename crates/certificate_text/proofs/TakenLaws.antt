-- What a reader that goes on reading has read of its input.
use Rattle.std.proofs.Common.{◌≡◌, ◌≢◌, ◌<◌, ◌≤◌, ℕ, suc, ◌+◌, ◌-◌, ◌^◌, min, Bool, true, false, List, [], ◌∷◌, ◌++◌, length, length-append, refl, ap, sym, subst, arith, ◌∙◌, inl, inr, add-zero, if◌then◌else◌}
use Rattle.std.specs.Prelude.{◌==◌, ⊤, ◌⊎◌, map, Option, Some, None, Result, Ok, Err}
use Rattle.std.specs.Option.{option_map}
use Rattle.std.proofs.lemmas.List.{append-nil, length-map}
use Rattle.io_edge.specs.Outside.{HasCause, Told, in_front, IsAtEnd}
use Rattle.io_edge.proofs.Told.{in_front-nil}
use Rattle.io_edge.specs.Lines.{Line as OneLine, Text, TooLong as LongLine, line_of, line_parts, lines, onto, ToldLines, NoneAhead, LongAhead}
use Rattle.line_feed.specs.Feed.{Reading, HoldsLittle, Ends, Feeds, Takes, input_limit, pending}
use Rattle.line_feed.specs.SoFar.{Covers, Fed}
use Rattle.line_feed.specs.declared.line_answers.LineAnswer.{LineAnswer}
use Rattle.line_feed.specs.declared.line_answers.LineAnswer.TheVariants.{Line, TooLong, End, Failed, Full}
use Rattle.line_feed.proofs.AheadLemmas.{lines-nil}
use Rattle.line_feed.proofs.FedLemmas.{fed_kept, fed_line}
use Rattle.certificate_text.specs.declared.head.HeadFault.{HeadFault}
use Rattle.certificate_text.specs.declared.head.HeadFault.TheVariants.{BadLine, BadGame, ReadFault, InputFull, Memory}
use Rattle.game_text.specs.declared.faults.GameFault.{GameFault}
use Rattle.game_text.specs.declared.parsed.Parsed.{Parsed}
use Rattle.certificate_walks.specs.Items.{Lent, in_front as in_front_of}
use Rattle.certificate_walks.specs.declared.items.ItemAnswer.{ItemAnswer}
use Rattle.certificate_walks.specs.declared.items.ItemAnswer.TheVariants.{Failed as NoRead}
use Rattle.certificate_text.specs.Heads.{Reads, ReadsGame, TakesLine, TakesLines, fault_line, in_all, last_line}
use Rattle.certificate_text.specs.Taken.{HasRead}
use Rattle.certificate_text.proofs.TextLaws.{all-same}

no-bytes : (xs ys : List ℕ) → xs ++ ys ≡ [] → (xs ≡ []) × (ys ≡ [])
no-bytes [] ys e = (refl, e)
no-bytes (x ∷ xs) ys e = cc

-- if nothing is held, the lines given are all those of the bytes
lines-of : (finished : Bool) (bytes held : List ℕ) (given : List OneLine) (rest : Told) → Covers finished bytes held given rest → held ≡ [] → lines bytes ≡ given
lines-of true bytes held given rest (all, none, at_end) e = all
lines-of false bytes held given rest s e =
    ap lines (sym (append-nil bytes)) ∙ (s.all [] ∙ (ap (λ (x : List ℕ). given ++ lines x) (append-nil held ∙ e) ∙ (ap (λ (x : List OneLine). given ++ x) lines-nil ∙ append-nil given)))

at-end : (finished : Bool) (bytes held : List ℕ) (given : List OneLine) (r0 r1 : Told) → Covers finished bytes held given r0 → r0 ≡ r1 → (finished ≡ false → IsAtEnd r1) → IsAtEnd r1
at-end true bytes held given r0 r1 (all, none, over) same go = subst IsAtEnd same over
at-end false bytes held given r0 r1 s same go = go refl

-- the source has ended
fed-ended : {start r0 r1 : Told} {old new : Reading} {bytes b1 : List ℕ} {given : List OneLine} → Fed start r0 old bytes given → Takes r0 r1 old.taken new.taken b1 → Ends old b1 new r1 → Fed start r1 new bytes given
fed-ended {start} {r0} {r1} {old} {new} {bytes} {b1} {given} f t d =
    let (held, none) = no-bytes (pending old) b1 d.nothing in
    let same : r0 ≡ r1 = t.left ∙ (ap (λ b. in_front b r1) none ∙ sym (in_front-nil r1)) in
    let all : lines bytes ≡ given = lines-of old.finished bytes (pending old) given r0 f.covers held in
    let over : IsAtEnd r1 = at-end old.finished bytes (pending old) given r0 r1 f.covers same d.at_end in
    record {
      left = f.left ∙ ap (in_front bytes) same;
      counted = t.counted ∙ (ap (λ b. old.taken + length b) none ∙ (add-zero old.taken ∙ f.counted));
      covers = subst (λ (b : Bool). Covers b bytes (pending new) given r1) (sym d.finished) (all, d.nothing_left, over);
      below = λ e. d.below;
    }

-- ---- how many lines

parts-onto : (b : ℕ) (ps : List (List ℕ)) → length (onto b ps) ≤ length ps + 1
parts-onto b [] = omega arith
parts-onto b (p ∷ ps) = omega arith

part-few : (lf : Bool) (b : ℕ) (ps : List (List ℕ)) (n : ℕ) → length ps ≤ n → length (if lf then [] ∷ ps else onto b ps) ≤ suc n
part-few true b ps n few = omega (arith, few)
part-few false b ps n few = omega (arith, few, parts-onto b ps)

parts-few : (bytes : List ℕ) → length (line_parts bytes) ≤ length bytes
unfolding line_parts
parts-few [] = omega arith
parts-few (b ∷ bs) = part-few (b == 10) b (line_parts bs) (length bs) (parts-few bs)

lines-few : (bytes : List ℕ) → length (lines bytes) ≤ length bytes
unfolding lines
lines-few bytes = omega (arith, length-map (line_parts bytes) line_of, parts-few bytes)

given-few : (finished : Bool) (bytes held : List ℕ) (given : List OneLine) (rest : Told) → Covers finished bytes held given rest → length given ≤ length bytes
given-few true bytes held given rest (all, none, over) = omega (arith, lines-few bytes, ap length all)
given-few false bytes held given rest s =
    omega (arith, lines-few (bytes ++ []), ap length (s.all []), length-append given (lines (held ++ [])), ap length (append-nil bytes))

-- each line that was given has a byte of its own
pub within-limit : (input : List ℕ) (rest : Told) (reader : Reading) (most : ℕ) → (r : HasRead input rest reader most) → length r.given ≤ input_limit
within-limit input rest reader most r = omega (arith, given-few reader.finished r.bytes (pending reader) r.given rest r.fed.covers, r.fed.counted, r.within)

-- what holds for at most n lines also holds for a larger bound
pub read-more : (input : List ℕ) (rest : Told) (reader : Reading) (m n : ℕ) → m ≤ n → HasRead input rest reader m → HasRead input rest reader n
read-more input rest reader m n more r = record { bytes = r.bytes; given = r.given; few = omega (arith, r.few, more); fed = r.fed; within = r.within; little = r.little }

-- how many lines an answer gives
abbrev pub lines_given : LineAnswer → ℕ
lines_given Line = 1
lines_given TooLong = 1
lines_given End = 0
lines_given Failed = 0
lines_given Full = 0

one-more : (given : List OneLine) (line : OneLine) (most : ℕ) → length given ≤ most → length (given ++ line ∷ []) ≤ most + 1
one-more given line most few = omega (arith, length-append given (line ∷ []), few)

none-more : (given : List OneLine) (most : ℕ) → length given ≤ most → length given ≤ most + 0
none-more given most few = omega (arith, few)

-- whatever is answered, what was read is an initial part of the input
read_on : (a : LineAnswer) (old new : Reading) (r0 r1 : Told) → (bytes : List ℕ) × Takes r0 r1 old.taken new.taken bytes × Feeds a old bytes new r1 → new.taken ≤ input_limit → HoldsLittle new
    → (input : List ℕ) (most : ℕ) → HasRead input r0 old most → HasRead input r1 new (most + lines_given a)
read_on Line old new r0 r1 (b1, t, g) within little input most r =
    record { bytes = r.bytes ++ b1; given = r.given ++ Text new.last ∷ []; few = one-more r.given (Text new.last) most r.few; fed = fed_line r.fed t g; within = within; little = little }
read_on TooLong old new r0 r1 (b1, t, g) within little input most r =
    record { bytes = r.bytes ++ b1; given = r.given ++ LongLine ∷ []; few = one-more r.given LongLine most r.few; fed = fed_line r.fed t g; within = within; little = little }
read_on End old new r0 r1 (b1, t, d) within little input most r =
    record { bytes = r.bytes; given = r.given; few = none-more r.given most r.few; fed = fed-ended r.fed t d; within = within; little = little }
read_on Failed old new r0 r1 (b1, t, (h, below)) within little input most r =
    record { bytes = r.bytes ++ b1; given = r.given; few = none-more r.given most r.few; fed = fed_kept r.fed t h; within = within; little = little }
read_on Full old new r0 r1 (b1, t, (h, full)) within little input most r =
    record { bytes = r.bytes ++ b1; given = r.given; few = none-more r.given most r.few; fed = fed_kept r.fed t h; within = within; little = little }

at-most-one : (a : LineAnswer) → lines_given a ≤ 1
at-most-one Line = omega arith
at-most-one TooLong = omega arith
at-most-one End = omega arith
at-most-one Failed = omega arith
at-most-one Full = omega arith

-- it is at most one line more
pub read_line : (a : LineAnswer) (old new : Reading) (r0 r1 : Told) → (bytes : List ℕ) × Takes r0 r1 old.taken new.taken bytes × Feeds a old bytes new r1 → new.taken ≤ input_limit → HoldsLittle new
    → (line : ℕ) (input : List ℕ) (before : ℕ) → line ≡ before + 1 → HasRead input r0 old before → HasRead input r1 new line
read_line a old new r0 r1 fed within little line input before next r =
    read-more input r1 new (before + lines_given a) line (omega (arith, at-most-one a, next)) (read_on a old new r0 r1 fed within little input before r)

-- what the reading of one line of a head leaves behind
pub line-taken : (a : LineAnswer) (old new : Reading) (r0 r1 : Told) → (bytes : List ℕ) × Takes r0 r1 old.taken new.taken bytes × Feeds a old bytes new r1 → new.taken ≤ input_limit → HoldsLittle new
    → (line : ℕ) (result : Result ⊤ HeadFault) (faults faults' : ℕ) → last_line line result ≡ line → (result ≡ Err InputFull → new.taken ≡ input_limit) → HasCause (result ≡ Err ReadFault) faults faults' → (result ≡ Err ReadFault → new.taken < input_limit)
    → TakesLines 1 line result old new r0 r1 faults faults'
line-taken a old new r0 r1 fed within little line result faults faults' last full cause failed = record {
  full = full;
  cause = cause;
  bytes = let (bytes, takes, feeds) = fed in all-same old new r0 r1 bytes takes;
  failed = failed;
  read = λ input before next r. subst (HasRead input r1 new) (sym last) (read_line a old new r0 r1 fed within little line input before next r);
}

-- and no line if none was given
pub read-none-given : (a : LineAnswer) (old new : Reading) (r0 r1 : Told) → (bytes : List ℕ) × Takes r0 r1 old.taken new.taken bytes × Feeds a old bytes new r1 → new.taken ≤ input_limit → HoldsLittle new
    → lines_given a ≡ 0 → (input : List ℕ) (most : ℕ) → HasRead input r0 old most → HasRead input r1 new most
read-none-given a old new r0 r1 fed within little none input most r =
    read-more input r1 new (most + lines_given a) most (omega (arith, none)) (read_on a old new r0 r1 fed within little input most r)

-- a count that stops at its greatest value keeps up with the lines, which are within the limit
pub read-item : (a : LineAnswer) (old new : Reading) (r0 r1 : Told) → (bytes : List ℕ) × Takes r0 r1 old.taken new.taken bytes × Feeds a old bytes new r1 → new.taken ≤ input_limit → HoldsLittle new
    → (count now : ℕ) → now ≡ min (count + 1) (2 ^ 64 - 1) → (input : List ℕ) (before : ℕ) → HasRead input r0 old (before + count) → HasRead input r1 new (before + now)
read-item a old new r0 r1 fed within little count now next input before r =
    let s : HasRead input r1 new (before + count + 1) = read_line a old new r0 r1 fed within little (before + count + 1) input (before + count) refl r in
    record { bytes = s.bytes; given = s.given; few = omega (arith, s.few, within-limit input r1 new (before + count + 1) s, next); fed = s.fed; within = s.within; little = s.little }

-- if no line was given, the last one taken is the one before
pub none-taken : (a : LineAnswer) (old new : Reading) (r0 r1 : Told) → (bytes : List ℕ) × Takes r0 r1 old.taken new.taken bytes × Feeds a old bytes new r1 → new.taken ≤ input_limit → HoldsLittle new → lines_given a ≡ 0
    → (line : ℕ) (result : Result ⊤ HeadFault) (faults faults' : ℕ) → last_line line result ≡ line - 1 → (result ≡ Err InputFull → new.taken ≡ input_limit) → HasCause (result ≡ Err ReadFault) faults faults' → (result ≡ Err ReadFault → new.taken < input_limit)
    → TakesLines 1 line result old new r0 r1 faults faults'
none-taken a old new r0 r1 fed within little none line result faults faults' last full cause failed = record {
  full = full;
  cause = cause;
  bytes = let (bytes, takes, feeds) = fed in all-same old new r0 r1 bytes takes;
  failed = failed;
  read = λ input before next r.
      let same : before ≡ last_line line result = omega (arith, next, last) in
      subst (HasRead input r1 new) same (read-none-given a old new r0 r1 fed within little none input before r);
}

-- ---- parts of a head

pub fault-is : {A : Type 0} (fault other : HeadFault) → (let r : Result A HeadFault = Err fault in r ≡ Err other) → fault ≡ other
fault-is fault other e = cc

same-fault : {A B : Type 0} (fault other : HeadFault) → (let r : Result A HeadFault = Err fault in r ≡ Err other) → (let r : Result B HeadFault = Err fault in r ≡ Err other)
same-fault fault other e = let same : fault ≡ other = cc in ap (λ f. Err f) same

fault-later : (n m : ℕ) (fault : HeadFault) → n ≤ m → fault_line n fault ≤ fault_line m fault
fault-later n m (BadLine k) more = omega arith
fault-later n m (BadGame f) more = omega arith
fault-later n m ReadFault more = omega (arith, more)
fault-later n m InputFull more = more
fault-later n m Memory more = more

-- a fault in the first lines of a part is one of the part
pub taken-short : {A B : Type 0} (k n j m more : ℕ) (fault : HeadFault) (result : Result B HeadFault) (old new : Reading) (r0 r1 : Told) (faults faults' : ℕ) → n + more ≡ m → n + j ≡ m + k → result ≡ Err fault →
    (let r : Result A HeadFault = Err fault in TakesLines k n r old new r0 r1 faults faults') → TakesLines j m result old new r0 r1 faults faults'
taken-short {A} {B} k n j m more fault result old new r0 r1 faults faults' later start is t =
    subst (λ (r : Result B HeadFault). TakesLines j m r old new r0 r1 faults faults') (sym is) (record {
      full = λ e. t.full (same-fault fault InputFull e);
      cause = record {
        later = t.cause.later;
        rose = λ e. t.cause.rose (same-fault fault ReadFault e);
        same = λ not. t.cause.same (λ e. not (same-fault fault ReadFault e));
      };
      bytes = t.bytes;
      failed = λ e. t.failed (same-fault fault ReadFault e);
      read = λ input before e r. read-more input r1 new (fault_line n fault) (fault_line m fault) (fault-later n m fault (omega (arith, later))) (t.read input before (omega (arith, e, start)) r);
    })

-- a fault in lines is one of all that they are
pub taken-fault : {A B : Type 0} (k n : ℕ) (fault : HeadFault) (result : Result B HeadFault) (old new : Reading) (r0 r1 : Told) (faults faults' : ℕ) → result ≡ Err fault →
    (let r : Result A HeadFault = Err fault in TakesLines k n r old new r0 r1 faults faults') → TakesLines k n result old new r0 r1 faults faults'
taken-fault k n fault result old new r0 r1 faults faults' is t = taken-short k n k n 0 fault result old new r0 r1 faults faults' (omega arith) refl is t

-- the lines of one part after those of another
pub taken-then : {A B : Type 0} (j m k n : ℕ) (a : A) (result : Result B HeadFault) (old mid new : Reading) (r0 r1 r2 : Told) (faults faults' last : ℕ) → n ≡ m + k →
    (let r : Result A HeadFault = Ok a in TakesLines j m r old mid r0 r1 faults faults') → TakesLines k n result mid new r1 r2 faults' last → TakesLines (j + k) n result old new r0 r2 faults last
taken-then j m k n a result old mid new r0 r1 r2 faults faults' last next first later = record {
  full = later.full;
  cause = subst (λ (f : ℕ). HasCause (result ≡ Err ReadFault) f last) (first.cause.same (λ e. cc)) later.cause;
  bytes = later.bytes ∙ first.bytes;
  failed = later.failed;
  read = λ input before e r. later.read input m next (first.read input before (omega (arith, e, next)) r);
}

-- the result for lines that were taken: neither a failed read nor a full reader
pub taken-as : {A B : Type 0} (k n : ℕ) (a : A) (result : Result B HeadFault) (old new : Reading) (r0 r1 : Told) (faults faults' : ℕ) → last_line n result ≡ n → result ≢ Err ReadFault → result ≢ Err InputFull →
    (let r : Result A HeadFault = Ok a in TakesLines k n r old new r0 r1 faults faults') → TakesLines k n result old new r0 r1 faults faults'
taken-as k n a result old new r0 r1 faults faults' last read full t = record {
  full = λ e. absurd (full e);
  cause = record { later = t.cause.later; rose = λ e. absurd (read e); same = λ not. t.cause.same (λ e. cc) };
  bytes = t.bytes;
  failed = λ e. absurd (read e);
  read = λ input before e r. subst (HasRead input r1 new) (sym last) (t.read input before e r);
}

-- the result for lines that were taken: a value, the fault of the last of them, or out of memory

pub taken-ok : {A B : Type 0} (k n : ℕ) (a : A) (b : B) (old new : Reading) (r0 r1 : Told) (faults faults' : ℕ) → (let r : Result A HeadFault = Ok a in TakesLines k n r old new r0 r1 faults faults') →
    (let r : Result B HeadFault = Ok b in TakesLines k n r old new r0 r1 faults faults')
taken-ok k n a b old new r0 r1 faults faults' t = taken-as k n a (Ok b) old new r0 r1 faults faults' refl (λ e. cc) (λ e. cc) t

pub taken-bad : {A B : Type 0} (k n : ℕ) (a : A) (old new : Reading) (r0 r1 : Told) (faults faults' : ℕ) → (let r : Result A HeadFault = Ok a in TakesLines k n r old new r0 r1 faults faults') →
    (let r : Result B HeadFault = Err (BadLine n) in TakesLines k n r old new r0 r1 faults faults')
taken-bad k n a old new r0 r1 faults faults' t = taken-as k n a (Err (BadLine n)) old new r0 r1 faults faults' refl (λ e. cc) (λ e. cc) t

pub taken-without : {A B : Type 0} (k n : ℕ) (a : A) (old new : Reading) (r0 r1 : Told) (faults faults' : ℕ) → (let r : Result A HeadFault = Ok a in TakesLines k n r old new r0 r1 faults faults') →
    (let r : Result B HeadFault = Err Memory in TakesLines k n r old new r0 r1 faults faults')
taken-without k n a old new r0 r1 faults faults' t = taken-as k n a (Err Memory) old new r0 r1 faults faults' refl (λ e. cc) (λ e. cc) t

-- ---- items

-- a read failed if and only if that is the answer
pub item-cause : {T : Type 0} (a : LineAnswer) (r : ItemAnswer T) (faults faults' : ℕ) → (r ≡ NoRead → a ≡ Failed) → (a ≡ Failed → r ≡ NoRead) → HasCause (a ≡ Failed) faults faults' → HasCause (r ≡ NoRead) faults faults'
item-cause a r faults faults' there back cause = record {
  later = cause.later;
  rose = λ e. cause.rose (there e);
  same = λ not. cause.same (λ e. not (back e));
}

-- the first item, which is on the first line
pub item-front : {T : Type 0} (item : OneLine → Option T) (line : OneLine) (i : Option T) (old new : ToldLines) → i ≡ item line → old ≡ option_map (λ left. line ∷ left) new →
    option_map (map item) old ≡ in_front_of i (option_map (map item) new)
item-front item line i old None is e = ap (option_map (map item)) e
item-front item line i old (Some ls) is e = ap (option_map (map item)) e ∙ ap (λ x. Some (x ∷ map item ls)) (sym is)

abbrev pub lent : List ℕ → Option ℕ → Lent
lent names bytes = record { references = names; bytes = bytes }

-- no byte is lost
pub lent-same : (names : List ℕ) (old new : Reading) (r0 r1 : Told) (a : LineAnswer) → (bytes : List ℕ) × Takes r0 r1 old.taken new.taken bytes × Feeds a old bytes new r1 → lent names (in_all new r1) ≡ lent names (in_all old r0)
lent-same names old new r0 r1 a fed = let (bytes, takes, feeds) = fed in ap (λ b. lent names b) (all-same old new r0 r1 bytes takes)

-- ---- a line of a head

-- the game of a line is that of the second
pub game-last : (result : Result Parsed HeadFault) (read : Result Parsed GameFault) → ReadsGame result read → last_line 2 result ≡ 2
game-last (Ok game) read r = refl
game-last (Err (BadLine n)) read r = absurd r
game-last (Err (BadGame fault)) read r = refl
game-last (Err ReadFault) read r = absurd r
game-last (Err InputFull) read r = absurd r
game-last (Err Memory) read r = refl

not-there : (last : List ℕ) (rest : List OneLine) → (let t : ToldLines = Some (Text last ∷ rest) in NoneAhead t ⊎ LongAhead t) → ⊥
not-there last rest (inl none) = cc
not-there last rest (inr long) = let same = long.1 in cc

-- a line that was not taken is the fault of its field, or of its game
pub line-missing : {A : Type 0} (n : ℕ) (f : List OneLine → Result A HeadFault) (fault : HeadFault) (result : Result A HeadFault) (last : List ℕ) (old new : ToldLines) →
    f [] ≡ Err (BadLine n) → ((ls : List OneLine) → f (LongLine ∷ ls) ≡ Err (BadLine n)) → result ≡ Err fault → (let r : Result ⊤ HeadFault = Err fault in TakesLine r n last old new) →
    (ls : List OneLine) → old ≡ Some ls → Reads 1 result (f ls) ls new
line-missing {A} n f fault result last old new none long is takes ls told = subst (λ (r : Result A HeadFault). Reads 1 r (f ls) ls new) (sym is) (go fault takes ls told)
  where
    there : (k : ℕ) (ls : List OneLine) → k ≡ n → (let t : ToldLines = Some ls in NoneAhead t ⊎ LongAhead t) → f ls ≡ Err (BadLine k)
    there k [] same e = none ∙ ap (λ j. Err (BadLine j)) (sym same)
    there k (LongLine ∷ rest) same e = long rest ∙ ap (λ j. Err (BadLine j)) (sym same)
    there k (Text line ∷ rest) same e = absurd (not-there line rest e)

    go : (fault : HeadFault) → (let r : Result ⊤ HeadFault = Err fault in TakesLine r n last old new) → (ls : List OneLine) → old ≡ Some ls → (let r : Result A HeadFault = Err fault in Reads 1 r (f ls) ls new)
    go (BadLine k) t ls told = there k ls t.0 (subst (λ (o : ToldLines). NoneAhead o ⊎ LongAhead o) told t.1)
    go (BadGame f) t ls told = absurd t
    go ReadFault t ls told = tt
    go InputFull t ls told = tt
    go Memory t ls told = absurd t
