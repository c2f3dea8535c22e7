-- The text after a word, and what the reading of one line answers.
use Rattle.std.proofs.Common.{◌≡◌, ◌≢◌, ◌<◌, ℕ, ◌+◌, ◌-◌, List, [], ◌∷◌, ◌++◌, drop, length, refl, sym, ap, subst, arith, ◌∙◌, Option, Some, None, Bor}
use Rattle.std.specs.Prelude.{codes, decimal, map, MatchOption, Result, Ok, Err, ℤ}
use Rattle.std.specs.Option.{option_map}
use Rattle.std.specs.Fmt.{signed_decimal}
use Rattle.hive_model.specs.declared.pieces.GameType.{GameType}
use Rattle.hive_model.specs.declared.places.Move.{Move}
use Rattle.hive_model.specs.Positions.{opening}
use Rattle.hive_model.specs.Games.{replay}
use Rattle.hive_model.specs.Denotes.{text}
use Rattle.hive_model.specs.Strings.{string}
use Rattle.io_edge.specs.Lines.{Line, Text, TooLong, ToldLines, NoneAhead}
use Rattle.io_edge.specs.Outside.{Told, in_front}
use Rattle.line_feed.specs.Feed.{Reading, Takes}
use Rattle.std.proofs.lemmas.List.{append_assoc, drop-drop, length-append}
use Rattle.line_feed.specs.Ahead.{ahead_of, lines_left}
use Rattle.certificate_walks.specs.Items.{IsAtEnd}
use Rattle.game_text.specs.Turns.{behind_word}
use Rattle.game_text.proofs.TurnLaws.{behind_is, is_behind}
use Rattle.game_text.specs.Reading.{game_of}
use Rattle.game_text.specs.declared.faults.GameFault.{GameFault}
use Rattle.game_text.specs.declared.parsed.Parsed.{Parsed}
use Rattle.certificate_text.specs.declared.head.Head.{Head}
use Rattle.certificate_text.specs.declared.head.HeadFault.{HeadFault}
use Rattle.certificate_text.specs.declared.head.HeadFault.TheVariants.{BadLine, BadGame, ReadFault, InputFull, Memory}
use Rattle.certificate_text.specs.Text.{HeadRead, and_then, field_in, game_in, head_of, head_text, or_bad, or_bad_game, version_at, depth_at, move_at, value_at, written_line}
use Rattle.certificate_text.specs.Heads.{BreaksOff, IsBehind, Reads, fault_line, in_all}
use Rattle.certificate_text.specs.Taken.{HasRead}

-- ---- words

pub none-behind : (p s : List ℕ) → ((rest : List ℕ) → s ≢ p ++ rest) → behind_word p s ≡ None
none-behind p s not = go (behind_word p s) refl
  where
    go : (o : Option (List ℕ)) → behind_word p s ≡ o → o ≡ None
    go None e = refl
    go (Some xs) e = absurd (not xs (is_behind p s xs e))

pub some-behind : (p s xs : List ℕ) → s ≡ p ++ xs → behind_word p s ≡ Some xs
some-behind p s xs e = ap (behind_word p) e ∙ behind_is p xs

-- what stripping a prefix answers
pub behind-found : (p s : List ℕ) (r : Option (Bor (List ℕ))) → MatchOption r ((rest : List ℕ) → s ≢ p ++ rest) (λ x. s ≡ p ++ x.now) →
    MatchOption r (behind_word p s ≡ None) (λ x. behind_word p s ≡ Some x.now)
behind-found p s None m = none-behind p s m
behind-found p s (Some x) m = some-behind p s x.now m

-- ---- a head of any form, line by line

-- so far the first k lines were read, and the head is made from the lines after them
pub record GoesOn {H : Type 0} (head : Result H HeadFault) (lines : List Line) (k : ℕ) (rest : Result H HeadFault) (after : ToldLines) : Type 0 where
  pub told : after ≡ Some (drop k lines)
  pub so : head ≡ rest

-- a part of the reading of these lines comes to its end, or meets a fault
abbrev pub Part : {A : Type 0} → (List Line → Result A HeadFault) → Result A HeadFault → ToldLines → ToldLines → Type 0
Part f result before after = (ls : List Line) → before ≡ Some ls → Reads 1 result (f ls) ls after

pub goes-on : {A H : Type 0} (f : List Line → Result A HeadFault) (next : A → Result H HeadFault) (head : Result H HeadFault) (lines : List Line) (k : ℕ) (a : A) (before after : ToldLines) →
    GoesOn head lines k (and_then (f (drop k lines)) next) before → Part f (Ok a) before after → GoesOn head lines (k + 1) (next a) after
goes-on f next head lines k a before after so part =
    let h = part (drop k lines) so.told in record {
      told = h.1 ∙ ap (λ ls. Some ls) (drop-drop 1 k lines);
      so = so.so ∙ ap (λ r. and_then r next) h.0;
    }

pub ends-here : {A H : Type 0} (f : List Line → Result A HeadFault) (next : A → Result H HeadFault) (head : Result H HeadFault) (lines : List Line) (k n : ℕ) (fault : HeadFault) (before after last : ToldLines) →
    GoesOn head lines k (and_then (f (drop k lines)) next) before → (let r : Result A HeadFault = Err fault in Part f r before after) → (let r : Result H HeadFault = Err fault in Reads n r head lines last)
ends-here f next head lines k n (BadLine j) before after last so part = so.so ∙ ap (λ r. and_then r next) (part (drop k lines) so.told)
ends-here f next head lines k n (BadGame fault) before after last so part = so.so ∙ ap (λ r. and_then r next) (part (drop k lines) so.told)
ends-here f next head lines k n ReadFault before after last so part = tt
ends-here f next head lines k n InputFull before after last so part = tt
ends-here f next head lines k n Memory before after last so part = tt

-- ---- if a read failed

behind-part : {A H : Type 0} (m i : ℕ) (o : Option A) (next : A → Result H HeadFault) → m < i → ((a : A) → IsBehind m (next a)) → IsBehind m (and_then (or_bad i o) next)
behind-part m i None next less rest = less
behind-part m i (Some a) next less rest = rest a

-- the fault of a field is that of its line
pub behind-field : {A H : Type 0} (m i : ℕ) (at : List ℕ → Option A) (ls : List Line) (next : A → Result H HeadFault) → m < i → ((a : A) → IsBehind m (next a)) → IsBehind m (and_then (field_in i at ls) next)
behind-field m i at [] next less rest = less
behind-field m i at (TooLong ∷ ls) next less rest = less
behind-field m i at (Text line ∷ ls) next less rest = behind-part m i (at line) next less rest

behind-read : {H : Type 0} (m : ℕ) (r : Result Parsed GameFault) (next : Parsed → Result H HeadFault) → m < 2 → ((g : Parsed) → IsBehind m (next g)) → IsBehind m (and_then (or_bad_game r) next)
behind-read m (Ok g) next less rest = rest g
behind-read m (Err fault) next less rest = less

pub behind-game : {H : Type 0} (m : ℕ) (ls : List Line) (next : Parsed → Result H HeadFault) → m < 2 → ((g : Parsed) → IsBehind m (next g)) → IsBehind m (and_then (game_in ls) next)
behind-game m [] next less rest = less
behind-game m (TooLong ∷ ls) next less rest = less
behind-game m (Text line ∷ ls) next less rest = behind-read m (game_of line) next less rest

-- a number is below those after it
pub less : (m more : ℕ) → m < m + 1 + more
less m more = omega arith

-- the reading of the line after the first k failed
pub breaks-off : {H : Type 0} (k n last : ℕ) (head read : Result H HeadFault) (lines : List Line) (fault : HeadFault) (input : List ℕ) (rest : Told) (reader : Reading) (before : ToldLines) → last ≡ k + 1 → k < n →
    GoesOn head lines k read before → HasRead input rest reader (fault_line last fault) → fault ≡ ReadFault → IsBehind k read → BreaksOff n head input rest reader
breaks-off {H = H} k n last head read lines fault input rest reader before next less so r failed sound =
    let there : fault_line last fault ≡ last - 1 = ap (fault_line last) failed in
    let same : fault_line last fault ≡ k = omega (arith, there, next) in record {
      lines = k;
      fewer = less;
      taken = subst (λ (m : ℕ). HasRead input rest reader m) same r;
      sound = subst (λ (r : Result H HeadFault). IsBehind k r) (sym so.so) sound;
    }

-- ---- the head of a certificate

abbrev pub head_is : ℕ → Parsed → ℕ → List ℕ → ℤ → Head
head_is v g d t x = record { version = v; game_type = g.game_type; moves = g.moves; claim_text = t; depth = d; value = x }

-- what follows from these lines and the first parts of the head that they have
abbrev pub after_text : List Line → ℕ → Parsed → ℕ → List ℕ → HeadRead
after_text lines v g d t = and_then (field_in 5 value_at (drop 4 lines)) (λ x. Ok (head_is v g d t x))

abbrev pub after_depth : List Line → ℕ → Parsed → ℕ → HeadRead
after_depth lines v g d = and_then (field_in 4 move_at (drop 3 lines)) (λ t. after_text lines v g d t)

abbrev pub after_game : List Line → ℕ → Parsed → HeadRead
after_game lines v g = and_then (field_in 3 depth_at (drop 2 lines)) (λ d. after_depth lines v g d)

abbrev pub after_version : List Line → ℕ → HeadRead
after_version lines v = and_then (game_in (drop 1 lines)) (λ g. after_game lines v g)

pub head-begins : (newest : ℕ) (lines : List Line) → head_of newest lines ≡ and_then (field_in 1 (version_at newest) lines) (λ v. after_version lines v)
unfolding head_of
head-begins newest lines = refl

pub begins : (newest : ℕ) (lines : List Line) (before : ToldLines) → before ≡ Some lines →
    GoesOn (head_of newest lines) lines 0 (and_then (field_in 1 (version_at newest) (drop 0 lines)) (λ v. after_version lines v)) before
begins newest lines before told = record { told = told; so = head-begins newest lines }

-- this number of parts was read, and the lines have each of them

pub after-1 : (newest : ℕ) (lines : List Line) (v : ℕ) (t0 t1 : ToldLines) → t0 ≡ Some lines → (let r : Result ℕ HeadFault = Ok v in Part (field_in 1 (version_at newest)) r t0 t1) →
    GoesOn (head_of newest lines) lines 1 (after_version lines v) t1
after-1 newest lines v t0 t1 told version =
    goes-on (field_in 1 (version_at newest)) (λ w. after_version lines w) (head_of newest lines) lines 0 v t0 t1 (begins newest lines t0 told) version

pub after-2 : (newest : ℕ) (lines : List Line) (v : ℕ) (g : Parsed) (t0 t1 t2 : ToldLines) → t0 ≡ Some lines → (let r : Result ℕ HeadFault = Ok v in Part (field_in 1 (version_at newest)) r t0 t1) →
    (let r : Result Parsed HeadFault = Ok g in Part game_in r t1 t2) → GoesOn (head_of newest lines) lines 2 (after_game lines v g) t2
after-2 newest lines v g t0 t1 t2 told version game =
    goes-on game_in (λ h. after_game lines v h) (head_of newest lines) lines 1 g t1 t2 (after-1 newest lines v t0 t1 told version) game

pub after-3 : (newest : ℕ) (lines : List Line) (v : ℕ) (g : Parsed) (d : ℕ) (t0 t1 t2 t3 : ToldLines) → t0 ≡ Some lines → (let r : Result ℕ HeadFault = Ok v in Part (field_in 1 (version_at newest)) r t0 t1) →
    (let r : Result Parsed HeadFault = Ok g in Part game_in r t1 t2) → (let r : Result ℕ HeadFault = Ok d in Part (field_in 3 depth_at) r t2 t3) → GoesOn (head_of newest lines) lines 3 (after_depth lines v g d) t3
after-3 newest lines v g d t0 t1 t2 t3 told version game depth =
    goes-on (field_in 3 depth_at) (λ e. after_depth lines v g e) (head_of newest lines) lines 2 d t2 t3 (after-2 newest lines v g t0 t1 t2 told version game) depth

pub after-4 : (newest : ℕ) (lines : List Line) (v : ℕ) (g : Parsed) (d : ℕ) (t : List ℕ) (t0 t1 t2 t3 t4 : ToldLines) → t0 ≡ Some lines → (let r : Result ℕ HeadFault = Ok v in Part (field_in 1 (version_at newest)) r t0 t1) →
    (let r : Result Parsed HeadFault = Ok g in Part game_in r t1 t2) → (let r : Result ℕ HeadFault = Ok d in Part (field_in 3 depth_at) r t2 t3) → (let r : Result (List ℕ) HeadFault = Ok t in Part (field_in 4 move_at) r t3 t4) →
    GoesOn (head_of newest lines) lines 4 (after_text lines v g d t) t4
after-4 newest lines v g d t t0 t1 t2 t3 t4 told version game depth claim_text =
    goes-on (field_in 4 move_at) (λ u. after_text lines v g d u) (head_of newest lines) lines 3 t t3 t4 (after-3 newest lines v g d t0 t1 t2 t3 told version game depth) claim_text

-- what the lines after the first n give is the fault of none of the first n

pub behind-value : (m : ℕ) (lines : List Line) (v : ℕ) (g : Parsed) (d : ℕ) (t : List ℕ) → m < 5 → IsBehind m (after_text lines v g d t)
behind-value m lines v g d t less = behind-field m 5 value_at (drop 4 lines) (λ x. Ok (head_is v g d t x)) less (λ x. tt)

pub behind-text : (m : ℕ) (lines : List Line) (v : ℕ) (g : Parsed) (d : ℕ) → m < 4 → IsBehind m (after_depth lines v g d)
behind-text m lines v g d less = behind-field m 4 move_at (drop 3 lines) (λ t. after_text lines v g d t) less (λ t. behind-value m lines v g d t (omega (arith, less)))

pub behind-depth : (m : ℕ) (lines : List Line) (v : ℕ) (g : Parsed) → m < 3 → IsBehind m (after_game lines v g)
behind-depth m lines v g less = behind-field m 3 depth_at (drop 2 lines) (λ d. after_depth lines v g d) less (λ d. behind-text m lines v g d (omega (arith, less)))

pub behind-version : (m : ℕ) (lines : List Line) (v : ℕ) → m < 2 → IsBehind m (after_version lines v)
behind-version m lines v less = behind-game m (drop 1 lines) (λ g. after_game lines v g) less (λ g. behind-depth m lines v g (omega (arith, less)))

pub behind-none : (newest : ℕ) (lines : List Line) → IsBehind 0 (and_then (field_in 1 (version_at newest) (drop 0 lines)) (λ v. after_version lines v))
behind-none newest lines = behind-field 0 1 (version_at newest) (drop 0 lines) (λ v. after_version lines v) (omega arith) (λ v. behind-version 0 lines v (omega arith))

-- the head, as the code makes it
pub head-pushed : (t : GameType) (ms : List Move) (n d : ℕ) (m : Move) (v : ℤ) (start a b c e f h : List ℕ) → start ≡ [] → a ≡ start ++ written_line (codes "hive-certificate " ++ decimal n) → b ≡ a ++ string t ms →
    c ≡ b ++ 10 ∷ [] → e ≡ c ++ written_line (codes "depth " ++ decimal d) → f ≡ e ++ written_line (codes "move " ++ text (replay (opening t) ms).board m) →
    h ≡ f ++ written_line (codes "value " ++ signed_decimal v) → h ≡ head_text n t ms d m v
unfolding head_text
head-pushed t ms n d m v start a b c e f h none one two three four five six =
    let first : a ≡ written_line (codes "hive-certificate " ++ decimal n) = one ∙ ap (λ s. s ++ written_line (codes "hive-certificate " ++ decimal n)) none in
    let game : c ≡ written_line (codes "hive-certificate " ++ decimal n) ++ written_line (string t ms) =
    three ∙ ap (λ s. s ++ 10 ∷ []) two ∙ append_assoc a (string t ms) (10 ∷ []) ∙ ap (λ s. s ++ written_line (string t ms)) first in
    six ∙ ap (λ s. s ++ written_line (codes "value " ++ signed_decimal v)) (five ∙ ap (λ s. s ++ written_line (codes "move " ++ text (replay (opening t) ms).board m))
    (four ∙ ap (λ s. s ++ written_line (codes "depth " ++ decimal d)) game))

-- ---- bytes

-- what a reader takes leaves its source
pub all-same : (old new : Reading) (r0 r1 : Told) (bytes : List ℕ) → Takes r0 r1 old.taken new.taken bytes → in_all new r1 ≡ in_all old r0
all-same old new r0 None bytes t = ap (in_all old) (sym t.left)
all-same old new r0 (Some left) bytes t =
    let before = old.taken in
    let counted = t.counted in
    let whole : length (bytes ++ left) ≡ length bytes + length left = length-append bytes left in
    let same : new.taken + length left ≡ before + length (bytes ++ left) = omega (arith, counted, whole) in
    ap (λ n. Some n) same ∙ ap (in_all old) (sym t.left)

-- ---- lines of items

-- at the end nothing is known that was not known before
pub end-told : (old new : Reading) (r0 r1 : Told) (bytes : List ℕ) → r0 ≡ in_front bytes r1 → NoneAhead (ahead_of old r0) → NoneAhead (ahead_of new r1) → ahead_of new r1 ≡ ahead_of old r0
unfolding ahead_of
end-told old new r0 None bytes e none0 none1 = ap (ahead_of old) (sym e)
end-told old new r0 (Some b) bytes e none0 none1 =
    let z : lines_left old (bytes ++ b) ≡ [] = subst (λ r. NoneAhead (ahead_of old r)) e none0 in
    ap (λ ls. Some ls) none1 ∙ sym (ap (λ ls. Some ls) z) ∙ ap (ahead_of old) (sym e)

pub no-items : {T : Type 0} (item : Line → Option T) (t : ToldLines) → NoneAhead t → IsAtEnd (option_map (map item) t)
no-items item None e = tt
no-items item (Some ls) e = ap (map item) e
