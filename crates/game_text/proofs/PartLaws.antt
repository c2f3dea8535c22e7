-- Parts, joined and taken apart.
use Rattle.std.proofs.Common.{◌≡◌, ◌≢◌, ℕ, suc, zero, ◌+◌, ◌%◌, ◌^◌, ◌≤◌, ◌<◌, Bool, true, false, List, [], ◌∷◌, ◌++◌, length, take, drop, get_or, refl, sym, ◌∙◌, ap, subst, arith}
use Rattle.std.specs.Prelude.{nat_eq, ◌&&◌, not, codes, decimal, if◌then◌else◌}
use Rattle.std.specs.List.{list_all}
use Rattle.std.proofs.lemmas.Bool.{ne_eqb}
use Rattle.std.proofs.lemmas.List.{take_all}
use Rattle.std.proofs.lemmas.Fmt.{decimal_by_steps}
use Rattle.hive_model.specs.declared.pieces.Colour.{Colour}
use Rattle.hive_model.specs.declared.pieces.Colour.TheVariants.{White, Black}
use Rattle.hive_model.specs.declared.pieces.GameType.{GameType}
use Rattle.hive_model.specs.declared.places.State.{State}
use Rattle.hive_model.specs.Pieces.{all_pieces}
use Rattle.hive_model.proofs.RuleLaws.{all_at}
use Rattle.hive_model.proofs.PieceLaws.{on_pieces}
use Rattle.hive_model.specs.declared.forms.Stroke.{Stroke}
use Rattle.hive_model.specs.declared.forms.Stroke.TheVariants.{Dash, Slash, Backslash}
use Rattle.hive_model.specs.declared.forms.Mark.{Mark}
use Rattle.hive_model.specs.declared.forms.Mark.TheVariants.{On, Before, After}
use Rattle.hive_model.specs.declared.forms.Form.{Form}
use Rattle.hive_model.specs.declared.forms.Form.TheVariants.{Passes, Alone, Beside}
use Rattle.hive_model.specs.Texts.{piece_text, stroke_code, destination, form_text, IsForm}
use Rattle.hive_model.specs.Fields.{type_bytes, state_bytes}
use Rattle.move_text.proofs.FieldLaws.{on_types, on_states}
use Rattle.hive_model.specs.Strings.{parts, joined_on, turn_bytes}
use Rattle.hive_model.specs.Lists.{onto}

-- without a semicolon
abbrev pub has_none : List ℕ → Bool
has_none [] = true
has_none (b ∷ bs) = not (nat_eq b 59) && has_none bs

abbrev pub IsPart : List ℕ → Type 0
IsPart p = has_none p ≡ true

abbrev pub AreParts : List (List ℕ) → Type 0
AreParts [] = Unit {0}
AreParts (p ∷ ps) = IsPart p × AreParts ps

none_cons : (b : ℕ) (bs : List ℕ) → has_none (b ∷ bs) ≡ true → (nat_eq b 59 ≡ false) × (has_none bs ≡ true)
none_cons b bs h = go (nat_eq b 59) refl h
  where
    go : (t : Bool) → nat_eq b 59 ≡ t → (not t && has_none bs) ≡ true → (nat_eq b 59 ≡ false) × (has_none bs ≡ true)
    go true e k = absurd (cc)
    go false e k = (e, k)

part_end : (p : List ℕ) → IsPart p → parts p ≡ p ∷ []
unfolding parts
part_end [] h = refl
part_end (b ∷ bs) h = let s = none_cons b bs h in
    ap (λ t. if t then [] ∷ parts bs else onto b (parts bs)) s.0 ∙ ap (onto b) (part_end bs s.1)

part_front : (p rest : List ℕ) → IsPart p → parts (p ++ 59 ∷ rest) ≡ p ∷ parts rest
unfolding parts
part_front [] rest h = refl
part_front (b ∷ bs) rest h = let s = none_cons b bs h in
    ap (λ t. if t then [] ∷ parts (bs ++ 59 ∷ rest) else onto b (parts (bs ++ 59 ∷ rest))) s.0 ∙ ap (onto b) (part_front bs rest s.1)

pub parts-joined : (p : List ℕ) (ps : List (List ℕ)) → IsPart p → AreParts ps → parts (joined_on p ps) ≡ p ∷ ps
parts-joined p [] h hs = part_end p h
parts-joined p (q ∷ qs) h hs = part_front p (joined_on q qs) h ∙ ap (λ (r : List (List ℕ)). p ∷ r) (parts-joined q qs hs.0 hs.1)

-- The fields have none

none_append : (xs ys : List ℕ) → has_none xs ≡ true → has_none ys ≡ true → has_none (xs ++ ys) ≡ true
none_append [] ys h k = k
none_append (x ∷ xs) ys h k = let s = none_cons x xs h in ap (λ t. not t && has_none (xs ++ ys)) s.0 ∙ none_append xs ys s.1 k

pub type_part : (t : GameType) → IsPart (type_bytes t)
type_part = on_types (λ t. IsPart (type_bytes t)) refl refl refl refl refl refl refl refl

pub state_part : (s : State) → IsPart (state_bytes s)
state_part = on_states (λ s. IsPart (state_bytes s)) refl refl refl refl refl

digit_part : (b : ℕ) → b < 58 → IsPart (b ∷ [])
digit_part b h = let apart : b ≢ 59 = (λ e. omega (arith, e, h)) in ap (λ t. not t && true) (ne_eqb b 59 apart)

decimal_part : (n : ℕ) → n < 2 ^ 64 → IsPart (decimal n)
decimal_part n h = decimal_by_steps (λ _ ds. IsPart ds) (λ n low. digit_part (48 + n) (omega (arith, low)))
    (λ n ds low front. none_append ds ((48 + n % 10) ∷ []) front (digit_part (48 + n % 10) (omega arith))) n h

pub turn_part : (c : Colour) (n : ℕ) → n < 2 ^ 64 → IsPart (turn_bytes c n)
turn_part White n h = none_append (codes "White[") (decimal n ++ 93 ∷ []) refl (none_append (decimal n) (93 ∷ []) (decimal_part n h) refl)
turn_part Black n h = none_append (codes "Black[") (decimal n ++ 93 ∷ []) refl (none_append (decimal n) (93 ∷ []) (decimal_part n h) refl)

all_named : list_all (λ x. has_none (piece_text x)) all_pieces ≡ true
all_named = refl

piece_part : (x : ℕ) → x < 28 → IsPart (piece_text x)
piece_part x h = all_at (λ x. has_none (piece_text x)) all_pieces x all_named (on_pieces x h)

stroke_part : (s : Stroke) → IsPart (stroke_code s ∷ [])
stroke_part Dash = refl
stroke_part Slash = refl
stroke_part Backslash = refl

destination_part : (m : Mark) (name : List ℕ) → IsPart name → IsPart (destination m name)
destination_part On name h = h
destination_part (Before s) name h = none_append (stroke_code s ∷ []) name (stroke_part s) h
destination_part (After s) name h = none_append name (stroke_code s ∷ []) h (stroke_part s)

pub form_part : (f : Form) → IsForm f → IsPart (form_text f)
form_part Passes is = refl
form_part (Alone x) is = piece_part x is
form_part (Beside x mark y) is = none_append (piece_text x) (32 ∷ destination mark (piece_text y)) (piece_part x is.0) (destination_part mark (piece_text y) (piece_part y is.1))

-- The first part

pub first_part : (text : List ℕ) (i : ℕ) → i < length text → has_none (take i text) ≡ true → get_or text i 0 ≡ 59 → parts text ≡ take i text ∷ parts (drop 1 (drop i text))
first_part text i less none at = ap parts (split text i less at) ∙ part_front (take i text) (drop 1 (drop i text)) none
  where
    split : (text : List ℕ) (i : ℕ) → i < length text → get_or text i 0 ≡ 59 → text ≡ take i text ++ 59 ∷ drop 1 (drop i text)
    split [] i less at = absurd (omega (arith, less))
    split (b ∷ bs) zero less at = ap (λ c. c ∷ bs) at ∙ ap (λ (r : List ℕ). 59 ∷ r) (whole bs)
      where
        whole : (bs : List ℕ) → bs ≡ drop 0 bs
        whole [] = refl
        whole (c ∷ cs) = refl
    split (b ∷ bs) (suc i) less at = ap (λ (r : List ℕ). b ∷ r) (split bs i (omega (arith, less)) at)

pub only_part : (text : List ℕ) → has_none text ≡ true → parts text ≡ text ∷ []
only_part text none = part_end text none

pub none_more : (text : List ℕ) (i : ℕ) → i < length text → has_none (take i text) ≡ true → nat_eq (get_or text i 0) 59 ≡ false → has_none (take (i + 1) text) ≡ true
none_more [] i less none e = absurd (omega (arith, less))
none_more (b ∷ bs) zero less none e = ap (λ t. not t && has_none (take 0 bs)) e ∙ empty bs
  where
    empty : (bs : List ℕ) → has_none (take 0 bs) ≡ true
    empty [] = refl
    empty (c ∷ cs) = refl
none_more (b ∷ bs) (suc i) less none e =
    let s = none_cons b (take i bs) none in
    let next : suc i + 1 ≡ suc (i + 1) = omega arith in
    ap (λ n. has_none (take n (b ∷ bs))) next ∙ ap (λ t. not t && has_none (take (i + 1) bs)) s.0 ∙ none_more bs i (omega (arith, less)) s.1 e

-- For the call

pub first_cut : (text : List ℕ) (i : ℕ) (part back rest : List ℕ) → i < length text → has_none (take i text) ≡ true → get_or text i 0 ≡ 59 → part ≡ take i text → back ≡ drop i text → rest ≡ drop 1 back → parts text ≡ part ∷ parts rest
first_cut text i part back rest less none at p b r =
    first_part text i less none at ∙ ap (λ (x : List ℕ). x ∷ parts (drop 1 (drop i text))) (sym p)
    ∙ ap (λ (x : List ℕ). part ∷ parts x) (sym (r ∙ ap (drop 1) b))

pub whole_part : (text : List ℕ) (i : ℕ) → length text ≤ i → has_none (take i text) ≡ true → parts text ≡ text ∷ []
whole_part text i all none = only_part text (subst (λ (x : List ℕ). has_none x ≡ true) (take_all i text all) none)
