-- The fields of lines are read exactly.
use Rattle.std.proofs.Common.{◌≡◌, ℕ, ◌+◌, ◌*◌, ◌-◌, ◌/◌, ◌%◌, ◌^◌, ◌≤◌, ◌<◌, Bool, true, false, List, [], ◌∷◌, ◌++◌, Result, Ok, Err, refl, sym, ◌∙◌, ap, subst, arith}
use Rattle.std.specs.Prelude.{Option, Some, None, IfSome, decimal, not, ◌&&◌, nat_eq, nat_le, nat_lt, if◌then◌else◌}
use Rattle.std.specs.Str.{bytes_eq, IsUtf8, IsAscii}
use Rattle.std.specs.Str.Parse.{ParsesUnsigned}
use Rattle.std.proofs.lemmas.Str.{IsUtf8-from_ascii}
use Rattle.std.proofs.lemmas.Fmt.{IsAscii-decimal, parse-decimal}
use Rattle.std.proofs.lemmas.Slice.Eq.{bytes_eq-Decides}
use Rattle.std.proofs.lemmas.Bool.{eqb-true, leb-true, ltb-true}
use Rattle.hive_model.specs.declared.pieces.GameType.{GameType}
use Rattle.hive_model.specs.declared.places.State.{State}
use Rattle.hive_model.specs.declared.places.State.TheVariants.{NotStarted, InProgress, Draw, WhiteWins, BlackWins}
use Rattle.hive_model.specs.Fields.{IsNumberText, type_bytes, state_bytes, two_digits, IsTimeText}
use Rattle.move_text.specs.Readers.{game_type_of, game_types, type_at, states, state_at, two_digit_number, budget_of, time_at}
use Rattle.move_text.proofs.TableLaws.{name_is}

-- Numbers

pub number_utf8 : (text : List ℕ) (least most n : ℕ) → most < 2 ^ 64 → IsNumberText text least most n → IsUtf8 text
number_utf8 text least most n fits h = let high = h.high in let small : n < 2 ^ 64 = omega (arith, high, fits) in
    IsUtf8-from_ascii text (subst IsAscii (sym h.digits) (IsAscii-decimal n small))

pub number_parsed : {E : Type 0} (text letters : List ℕ) (least most n : ℕ) (r : Result ℕ E) → most < 2 ^ 64 → IsNumberText text least most n → letters ≡ text → ParsesUnsigned 64 10 letters r → r ≡ Ok n
number_parsed text letters least most n r fits h same parsed = let high = h.high in let small : n < 2 ^ 64 = omega (arith, high, fits) in
    parse-decimal 64 n letters r small small (same ∙ h.digits) parsed

pub number_not_err : {E : Type 0} (text letters : List ℕ) (least most n : ℕ) (r : Result ℕ E) (k : E) → most < 2 ^ 64 → IsNumberText text least most n → letters ≡ text → ParsesUnsigned 64 10 letters r → r ≡ Err k → ⊥
number_not_err text letters least most n r k fits h same parsed e = let f = number_parsed text letters least most n r fits h same parsed in cc

pub number_same : {E : Type 0} (text letters : List ℕ) (least most n : ℕ) (r : Result ℕ E) (k : ℕ) → most < 2 ^ 64 → IsNumberText text least most n → letters ≡ text → ParsesUnsigned 64 10 letters r → r ≡ Ok k → k ≡ n
number_same text letters least most n r k fits h same parsed e = let f = number_parsed text letters least most n r fits h same parsed in cc

pub printed_same : (text letters printed : List ℕ) (number n : ℕ) → number ≡ n → letters ≡ text → printed ≡ decimal number → text ≡ decimal n → true ≡ not (bytes_eq printed letters) → ⊥
printed_same text letters printed number n same e p h other =
    let one : printed ≡ letters = p ∙ ap decimal same ∙ sym h ∙ sym e in
    let equal = (bytes_eq-Decides printed letters).1 one in
    let wrong : true ≡ false = other ∙ ap not equal in
    cc

-- Texts of a few values

pub type_found : (text : List ℕ) (t : GameType) → type_at text ≡ Some t → text ≡ type_bytes t
unfolding type_at
type_found = name_is type_bytes game_types

-- what holds of each of the game types, in the order of their list, holds of every one
pub on_types : (P : GameType → Type 0) → P (game_type_of false false false) → P (game_type_of true false false) → P (game_type_of false true false) → P (game_type_of false false true)
    → P (game_type_of true true false) → P (game_type_of true false true) → P (game_type_of false true true) → P (game_type_of true true true) → (t : GameType) → P t
on_types P a b c d e f g h t = go t.mosquito t.ladybug t.pillbug
  where
    go : (m l p : Bool) → P (game_type_of m l p)
    go false false false = a
    go true false false = b
    go false true false = c
    go false false true = d
    go true true false = e
    go true false true = f
    go false true true = g
    go true true true = h

type_again : (t : GameType) → type_at (type_bytes t) ≡ Some t
unfolding type_at
type_again = on_types (λ t. type_at (type_bytes t) ≡ Some t) refl refl refl refl refl refl refl refl

pub type_only : (text : List ℕ) (t : GameType) → text ≡ type_bytes t → type_at text ≡ Some t
type_only text t e = ap type_at e ∙ type_again t

pub if_type_found : (text : List ℕ) (o : Option GameType) → o ≡ type_at text → IfSome o (λ t. text ≡ type_bytes t)
if_type_found text None e = tt
if_type_found text (Some t) e = type_found text t (sym e)

pub state_found : (text : List ℕ) (s : State) → state_at text ≡ Some s → text ≡ state_bytes s
unfolding state_at
state_found = name_is state_bytes states

-- what holds of each of the states, in the order of their list, holds of every one
pub on_states : (P : State → Type 0) → P NotStarted → P InProgress → P Draw → P WhiteWins → P BlackWins → (s : State) → P s
on_states P a b c d e NotStarted = a
on_states P a b c d e InProgress = b
on_states P a b c d e Draw = c
on_states P a b c d e WhiteWins = d
on_states P a b c d e BlackWins = e

state_again : (s : State) → state_at (state_bytes s) ≡ Some s
unfolding state_at
state_again = on_states (λ s. state_at (state_bytes s) ≡ Some s) refl refl refl refl refl

pub state_only : (text : List ℕ) (s : State) → text ≡ state_bytes s → state_at text ≡ Some s
state_only text s e = ap state_at e ∙ state_again s

pub if_state_found : (text : List ℕ) (o : Option State) → o ≡ state_at text → IfSome o (λ s. text ≡ state_bytes s)
if_state_found text None e = tt
if_state_found text (Some s) e = state_found text s (sym e)

-- Times

record IsPart (most a b n : ℕ) : Type 0 where
  fits : n ≤ most
  text : a ∷ (b ∷ []) ≡ two_digits n

part_found : (most a b n : ℕ) → two_digit_number most a b ≡ Some n → IsPart most a b n
part_found most a b n h = go (nat_le 48 a) (nat_lt a 58) (nat_le 48 b) (nat_lt b 58) (nat_le ((a - 48) * 10 + (b - 48)) most) refl refl refl refl refl h
  where
    go : (p q r s t : Bool) → nat_le 48 a ≡ p → nat_lt a 58 ≡ q → nat_le 48 b ≡ r → nat_lt b 58 ≡ s → nat_le ((a - 48) * 10 + (b - 48)) most ≡ t
        → (if p && q && (r && s && t) then Some ((a - 48) * 10 + (b - 48)) else None) ≡ Some n → IsPart most a b n
    go true true true true true e f g i j k =
        let same : (a - 48) * 10 + (b - 48) ≡ n = cc in
        let a1 = leb-true 48 a e in
        let a2 = ltb-true a 58 f in
        let b1 = leb-true 48 b g in
        let b2 = ltb-true b 58 i in
        let m = leb-true ((a - 48) * 10 + (b - 48)) most j in
        let tens : a ≡ 48 + n / 10 = omega (arith, a1, a2, b1, b2, same) in
        let ones : b ≡ 48 + n % 10 = omega (arith, a1, a2, b1, b2, same) in
        record { fits = omega (arith, m, same); text = λ i. tens i ∷ (ones i ∷ []) }
    go true true true true false e f g i j k = absurd (cc)
    go true true true false t e f g i j k = absurd (cc)
    go true true false s t e f g i j k = absurd (cc)
    go true false r s t e f g i j k = absurd (cc)
    go false q r s t e f g i j k = absurd (cc)

cond_some : (t : Bool) (o : Option ℕ) (n : ℕ) → (if t then o else None) ≡ Some n → (t ≡ true) × (o ≡ Some n)
cond_some true o n h = (refl, h)
cond_some false o n h = absurd (cc)

both_true : (a b : Bool) → (a && b) ≡ true → (a ≡ true) × (b ≡ true)
both_true true b h = (refl, h)
both_true false b h = absurd (cc)

pub time_found : (text : List ℕ) (n : ℕ) → time_at text ≡ Some n → IsTimeText text n
time_found (a ∷ b ∷ c ∷ d ∷ e ∷ f ∷ g ∷ h ∷ []) n eq = let split = cond_some (nat_eq c 58 && nat_eq f 58) (budget_of (two_digit_number 99 a b) (two_digit_number 59 d e) (two_digit_number 59 g h)) n eq in
    let colons = both_true (nat_eq c 58) (nat_eq f 58) split.0 in
    go (two_digit_number 99 a b) (two_digit_number 59 d e) (two_digit_number 59 g h) refl refl refl (eqb-true c 58 colons.0) (eqb-true f 58 colons.1) split.1
  where
    go : (x y z : Option ℕ) → two_digit_number 99 a b ≡ x → two_digit_number 59 d e ≡ y → two_digit_number 59 g h ≡ z → c ≡ 58 → f ≡ 58 → budget_of x y z ≡ Some n → IsTimeText (a ∷ b ∷ c ∷ d ∷ e ∷ f ∷ g ∷ h ∷ []) n
    go (Some x) (Some y) (Some z) p q r i j k =
        let hours = part_found 99 a b x p in
        let minutes = part_found 59 d e y q in
        let seconds = part_found 59 g h z r in
        let same : ((x * 60 + y) * 60 + z) * 1000 ≡ n = cc in
        record {
          hours = x;
          minutes = y;
          seconds = z;
          hours_fit = hours.fits;
          minutes_fit = minutes.fits;
          seconds_fit = seconds.fits;
          text_is = (λ t. a ∷ (b ∷ (i t ∷ (d ∷ (e ∷ (j t ∷ (g ∷ (h ∷ [])))))))) ∙ ap (λ (t : List ℕ). t ++ 58 ∷ (d ∷ (e ∷ (58 ∷ (g ∷ (h ∷ [])))))) hours.text
              ∙ ap (λ (t : List ℕ). two_digits x ++ 58 ∷ (t ++ 58 ∷ (g ∷ (h ∷ [])))) minutes.text ∙ ap (λ (t : List ℕ). two_digits x ++ 58 ∷ (two_digits y ++ 58 ∷ t)) seconds.text;
          budget_is = sym same;
        }
    go None y z p q r i j k = absurd (cc)
    go (Some x) None z p q r i j k = absurd (cc)
    go (Some x) (Some y) None p q r i j k = absurd (cc)
time_found _ n eq = absurd (cc)

pub if_time_found : (text : List ℕ) (o : Option ℕ) → o ≡ time_at text → IfSome o (λ n. IsTimeText text n)
if_time_found text None e = tt
if_time_found text (Some n) e = time_found text n (sym e)
