-- What was read of a move text: its bytes, and that some move text begins with them.
use Rattle.std.proofs.Common.{◌≡◌, ℕ, ◌+◌, ◌-◌, ◌≤◌, ◌<◌, Bool, true, false, List, [], ◌∷◌, ◌++◌, Option, Some, None, refl, sym, ◌∙◌, ap, subst, arith, append_assoc, ◌⊎◌, inl, inr, lit<}
use Rattle.std.specs.Prelude.{nat_eq, nat_lt, nat_le, codes, ◌&&◌, if◌then◌else◌}
use Rattle.std.proofs.lemmas.Bool.{eqb-true, ltb-true, leb-true, eqb-false}
use Rattle.hive_model.specs.declared.pieces.Colour.{Colour}
use Rattle.hive_model.specs.declared.pieces.Colour.TheVariants.{White, Black}
use Rattle.hive_model.specs.declared.pieces.Kind.{Kind}
use Rattle.hive_model.specs.Pieces.{piece_of, most_of, IsNumber}
use Rattle.hive_model.specs.declared.forms.Stroke.{Stroke}
use Rattle.hive_model.specs.declared.forms.Mark.TheVariants.{On, Before, After}
use Rattle.hive_model.specs.declared.forms.Form.{Form}
use Rattle.hive_model.specs.declared.forms.Form.TheVariants.{Passes, Alone, Beside}
use Rattle.move_text.specs.declared.progress.Naming.{Naming}
use Rattle.move_text.specs.declared.progress.Naming.TheVariants.{Empty, Side, Kinded, Named}
use Rattle.move_text.specs.declared.progress.Progress.{Progress}
use Rattle.move_text.specs.declared.progress.Progress.TheVariants.{AtP, AtPa, AtPas, AtPass, First, Second, Marked}
use Rattle.hive_model.specs.Texts.{colour_code, kind_code, number_code, piece_text, stroke_code, form_text, IsForm, Begins}
use Rattle.move_text.specs.Scan.{colours, colour_at, kinds, kind_at, strokes, stroke_at, sided, kinded, naming_with, after_first, on_first, before_second, behind_second, after_second, on_second, progress_with, end_of}
use Rattle.move_text.proofs.Names.{text_of_piece, piece_within}
use Rattle.move_text.proofs.Runs.{then_run, run}
use Rattle.move_text.proofs.TableLaws.{code_is}

-- What was read

abbrev pub IsNaming : Naming → Type 0
IsNaming Empty = Unit {0}
IsNaming (Side c) = Unit {0}
IsNaming (Kinded c k) = 0 < most_of k
IsNaming (Named x) = x < 28

abbrev pub IsProgress : Progress → Type 0
IsProgress AtP = Unit {0}
IsProgress AtPa = Unit {0}
IsProgress AtPas = Unit {0}
IsProgress AtPass = Unit {0}
IsProgress (First n) = IsNaming n
IsProgress (Second x s n) = (x < 28) × IsNaming n
IsProgress (Marked x y s) = (x < 28) × (y < 28)

abbrev pub naming_text : Naming → List ℕ
naming_text Empty = []
naming_text (Side c) = colour_code c ∷ []
naming_text (Kinded c k) = colour_code c ∷ (kind_code k ∷ [])
naming_text (Named x) = piece_text x

abbrev pub stroke_text : Option Stroke → List ℕ
stroke_text None = []
stroke_text (Some s) = stroke_code s ∷ []

abbrev pub spelled : Progress → List ℕ
spelled AtP = codes "p"
spelled AtPa = codes "pa"
spelled AtPas = codes "pas"
spelled AtPass = codes "pass"
spelled (First n) = naming_text n
spelled (Second x s n) = piece_text x ++ 32 ∷ (stroke_text s ++ naming_text n)
spelled (Marked x y s) = piece_text x ++ 32 ∷ (piece_text y ++ stroke_code s ∷ [])

-- Each byte adds to it

taken : {X : Type 0} (b n : ℕ) (x : X) (o : Option X) (y : X) → (if nat_eq b n then Some x else o) ≡ Some y → ((b ≡ n) × (x ≡ y)) ⊎ (o ≡ Some y)
taken {X} b n x o y = go (nat_eq b n) refl
  where
    go : (t : Bool) → nat_eq b n ≡ t → (if t then Some x else o) ≡ Some y → ((b ≡ n) × (x ≡ y)) ⊎ (o ≡ Some y)
    go true e h = let same : x ≡ y = cc in inl (eqb-true b n e, same)
    go false e h = inr h

colour_is : (b : ℕ) (c : Colour) → colour_at b ≡ Some c → b ≡ colour_code c
colour_is = code_is colour_code colours

stroke_is : (b : ℕ) (s : Stroke) → stroke_at b ≡ Some s → b ≡ stroke_code s
stroke_is = code_is stroke_code strokes

kind_is : (b : ℕ) (k : Kind) → kind_at b ≡ Some k → b ≡ kind_code k
kind_is = code_is kind_code kinds

record NameGrows (n : Naming) (b : ℕ) (next : Naming) : Type 0 where
  is : IsNaming next
  text : naming_text next ≡ naming_text n ++ b ∷ []

name_grows : (n : Naming) (b : ℕ) (next : Naming) → IsNaming n → naming_with n b ≡ Some next → NameGrows n b next
name_grows Empty b next is h = go (colour_at b) refl h
  where
    go : (o : Option Colour) → colour_at b ≡ o → sided o ≡ Some next → NameGrows Empty b next
    go None e k = absurd (cc)
    go (Some c) e k = let same : Side c ≡ next = cc in
        subst (NameGrows Empty b) same (record { is = tt; text = ap (λ n. n ∷ []) (sym (colour_is b c e)) })
name_grows (Side c) b next is h = go (kind_at b) refl h
  where
    one : (k : Kind) → kind_at b ≡ Some k → (t : Bool) → nat_eq (most_of k) 0 ≡ t → Some (if t then Named (piece_of c k 0) else Kinded c k) ≡ Some next → NameGrows (Side c) b next
    one k e true f j = let same : Named (piece_of c k 0) ≡ next = cc in
        let none : most_of k ≡ 0 = eqb-true (most_of k) 0 f in
        let number : IsNumber k 0 = (omega arith, λ _. none) in
        subst (NameGrows (Side c) b) same (record {
          is = piece_within c k 0 number;
          text = text_of_piece c k 0 number ∙ ap (λ n. colour_code c ∷ (n ∷ [])) (sym (kind_is b k e));
        })
    one k e false f j = let same : Kinded c k ≡ next = cc in
        let some = eqb-false (most_of k) 0 f in
        let more : 0 < most_of k = omega (arith, some) in
        subst (NameGrows (Side c) b) same (record { is = more; text = ap (λ n. colour_code c ∷ (n ∷ [])) (sym (kind_is b k e)) })

    go : (o : Option Kind) → kind_at b ≡ o → kinded c o ≡ Some next → NameGrows (Side c) b next
    go None e k = absurd (cc)
    go (Some k) e j = one k e (nat_eq (most_of k) 0) refl j
name_grows (Kinded c k) b next is h = go (nat_lt 48 b) (nat_le (b - 48) (most_of k)) refl refl h
  where
    go : (t u : Bool) → nat_lt 48 b ≡ t → nat_le (b - 48) (most_of k) ≡ u → (if t && u then Some (Named (piece_of c k (b - 48))) else None) ≡ Some next → NameGrows (Kinded c k) b next
    go true true e f j = let same : Named (piece_of c k (b - 48)) ≡ next = cc in
        let low : 48 < b = ltb-true 48 b e in
        let high : b - 48 ≤ most_of k = leb-true (b - 48) (most_of k) f in
        let number : IsNumber k (b - 48) = (high, λ z. absurd (omega (arith, z, low))) in
        let digit : number_code (b - 48) ≡ b ∷ [] = digit_is b low in
        subst (NameGrows (Kinded c k) b) same (record {
          is = piece_within c k (b - 48) number;
          text = text_of_piece c k (b - 48) number ∙ ap (λ ds. colour_code c ∷ (kind_code k ∷ ds)) digit;
        })
      where
        digit_is : (b : ℕ) → 48 < b → number_code (b - 48) ≡ b ∷ []
        digit_is b low = on (nat_eq (b - 48) 0) refl
          where
            on : (t : Bool) → nat_eq (b - 48) 0 ≡ t → (if t then [] else (48 + (b - 48)) ∷ []) ≡ b ∷ []
            on true e = absurd (let z = eqb-true (b - 48) 0 e in omega (arith, z, low))
            on false e = let same : 48 + (b - 48) ≡ b = omega (arith, low) in ap (λ n. n ∷ []) same
    go true false e f j = absurd (cc)
    go false true e f j = absurd (cc)
    go false false e f j = absurd (cc)
name_grows (Named x) b next is h = absurd (cc)

record Grows (s : Progress) (b : ℕ) (next : Progress) : Type 0 where
  is : IsProgress next
  text : spelled next ≡ spelled s ++ b ∷ []

chosen_at : {X : Type 0} (b n : ℕ) (x y : X) → (if nat_eq b n then Some x else None) ≡ Some y → (n ≡ b) × (x ≡ y)
chosen_at b n x y h = elim (taken b n x None y h) [ inl r ↦ (sym r.0, r.1) | inr wrong ↦ absurd (cc) ]

-- a text with more at its end
further : (p s n more : List ℕ) (c b : ℕ) → more ≡ n ++ b ∷ [] → p ++ c ∷ (s ++ more) ≡ (p ++ c ∷ (s ++ n)) ++ b ∷ []
further p s n more c b e = ap (λ (m : List ℕ). p ++ c ∷ (s ++ m)) e ∙ simp append_assoc

progress_grows : (s : Progress) (b : ℕ) (next : Progress) → IsProgress s → progress_with s b ≡ Some next → Grows s b next
progress_grows AtP b next is h = let r = chosen_at b 97 AtPa next h in
    subst (Grows AtP b) r.1 (record { is = tt; text = ap (λ n. 112 ∷ (n ∷ [])) r.0 })
progress_grows AtPa b next is h = let r = chosen_at b 115 AtPas next h in
    subst (Grows AtPa b) r.1 (record { is = tt; text = ap (λ n. 112 ∷ (97 ∷ (n ∷ []))) r.0 })
progress_grows AtPas b next is h = let r = chosen_at b 115 AtPass next h in
    subst (Grows AtPas b) r.1 (record { is = tt; text = ap (λ n. 112 ∷ (97 ∷ (115 ∷ (n ∷ [])))) r.0 })
progress_grows AtPass b next is h = absurd (cc)
progress_grows (First n) b next is h = go (naming_with n b) refl h
  where
    other : (n : Naming) → IsNaming n → after_first n b ≡ Some next → Grows (First n) b next
    other Empty is k = let r = chosen_at b 112 AtP next k in subst (Grows (First Empty) b) r.1 (record { is = tt; text = ap (λ n. n ∷ []) r.0 })
    other (Side c) is k = absurd (cc)
    other (Kinded c j) is k = absurd (cc)
    other (Named x) is k = let r = chosen_at b 32 (Second x None Empty) next k in
        subst (Grows (First (Named x)) b) r.1 (record { is = (is, tt); text = ap (λ n. piece_text x ++ n ∷ []) r.0 })

    go : (o : Option Naming) → naming_with n b ≡ o → on_first o n b ≡ Some next → Grows (First n) b next
    go None e k = other n is k
    go (Some m) e k = let same : First m ≡ next = cc in let r = name_grows n b m is e in
        subst (Grows (First n) b) same (record { is = r.is; text = r.text })
progress_grows (Second x s n) b next is h = go (naming_with n b) refl h
  where
    before : (o : Option Stroke) → stroke_at b ≡ o → before_second x o ≡ Some next → Grows (Second x None Empty) b next
    before None e k = absurd (cc)
    before (Some m) e k = let same : Second x (Some m) Empty ≡ next = cc in
        subst (Grows (Second x None Empty) b) same (record { is = (is.0, tt); text = further (piece_text x) [] [] (stroke_code m ∷ []) 32 b (ap (λ n. n ∷ []) (sym (stroke_is b m e))) })

    behind : (y : ℕ) → y < 28 → (o : Option Stroke) → stroke_at b ≡ o → behind_second x y o ≡ Some next → Grows (Second x None (Named y)) b next
    behind y there None e k = absurd (cc)
    behind y there (Some m) e k = let same : Marked x y m ≡ next = cc in
        subst (Grows (Second x None (Named y)) b) same (record { is = (is.0, there); text = further (piece_text x) [] (piece_text y) (piece_text y ++ stroke_code m ∷ []) 32 b (ap (λ n. piece_text y ++ n ∷ []) (sym (stroke_is b m e))) })

    other : (s : Option Stroke) (n : Naming) → IsNaming n → after_second x s n b ≡ Some next → Grows (Second x s n) b next
    other (Some m) n is2 k = absurd (cc)
    other None Empty is2 k = before (stroke_at b) refl k
    other None (Side c) is2 k = absurd (cc)
    other None (Kinded c j) is2 k = absurd (cc)
    other None (Named y) is2 k = behind y is2 (stroke_at b) refl k

    go : (o : Option Naming) → naming_with n b ≡ o → on_second o x s n b ≡ Some next → Grows (Second x s n) b next
    go None e k = other s n is.1 k
    go (Some m) e k = let same : Second x s m ≡ next = cc in let r = name_grows n b m is.1 e in
        subst (Grows (Second x s n) b) same (record { is = (is.0, r.is); text = further (piece_text x) (stroke_text s) (naming_text n) (naming_text m) 32 b r.text })
progress_grows (Marked x y s) b next is h = absurd (cc)

pub record Reached (s : Progress) (t : List ℕ) (last : Progress) : Type 0 where
  pub is : IsProgress last
  pub text : spelled last ≡ spelled s ++ t

pub append_none : (xs : List ℕ) → xs ≡ xs ++ []
append_none [] = refl
append_none (x ∷ xs) = ap (λ ys. x ∷ ys) (append_none xs)

pub run_spelled : (s : Progress) (t : List ℕ) (last : Progress) → IsProgress s → run s t ≡ Some last → Reached s t last
run_spelled s [] last is h = let same : s ≡ last = cc in subst (Reached s []) same (record { is = is; text = append_none (spelled s) })
run_spelled s (b ∷ bs) last is h = go (λ next there k. run_spelled next bs last there k) (progress_with s b) refl h
  where
    go : ((next : Progress) → IsProgress next → run next bs ≡ Some last → Reached next bs last) → (o : Option Progress) → progress_with s b ≡ o → then_run o (λ next. run next bs) ≡ Some last → Reached s (b ∷ bs) last
    go more None e k = absurd (cc)
    go more (Some next) e k = let one = progress_grows s b next is e in let rest = more next one.is k in
        record { is = rest.is; text = rest.text ∙ ap (λ (xs : List ℕ). xs ++ bs) one.text ∙ append_assoc (spelled s) (b ∷ []) bs }

-- If it may end, it is a form's text

pub record Ends (s : Progress) (f : Form) : Type 0 where
  pub is : IsForm f
  pub text : spelled s ≡ form_text f

pub ends_form : (s : Progress) (f : Form) → IsProgress s → end_of s ≡ Some f → Ends s f
ends_form AtP f is h = absurd (cc)
ends_form AtPa f is h = absurd (cc)
ends_form AtPas f is h = absurd (cc)
ends_form AtPass f is h = let same : Passes ≡ f = cc in subst (Ends AtPass) same (record { is = tt; text = refl })
ends_form (First Empty) f is h = absurd (cc)
ends_form (First (Side c)) f is h = absurd (cc)
ends_form (First (Kinded c k)) f is h = absurd (cc)
ends_form (First (Named x)) f is h = let same : Alone x ≡ f = cc in subst (Ends (First (Named x))) same (record { is = is; text = refl })
ends_form (Second x s Empty) f is h = absurd (cc)
ends_form (Second x s (Side c)) f is h = absurd (cc)
ends_form (Second x s (Kinded c k)) f is h = absurd (cc)
ends_form (Second x None (Named y)) f is h = let same : Beside x On y ≡ f = cc in
    subst (Ends (Second x None (Named y))) same (record { is = is; text = refl })
ends_form (Second x (Some s) (Named y)) f is h = let same : Beside x (Before s) y ≡ f = cc in
    subst (Ends (Second x (Some s) (Named y))) same (record { is = is; text = refl })
ends_form (Marked x y s) f is h = let same : Beside x (After s) y ≡ f = cc in subst (Ends (Marked x y s)) same (record { is = is; text = refl })

-- Whatever was read begins a move text

record Completes (n : Naming) : Type 0 where
  piece : ℕ
  is : piece < 28
  rest : List ℕ
  text : piece_text piece ≡ naming_text n ++ rest

name_completes : (n : Naming) → IsNaming n → Completes n
name_completes Empty is = record { piece = 0; is = lit< tt; rest = piece_text 0; text = refl }
name_completes (Side White) is = record { piece = 0; is = lit< tt; rest = 81 ∷ []; text = refl }
name_completes (Side Black) is = record { piece = 14; is = lit< tt; rest = 81 ∷ []; text = refl }
name_completes (Kinded c k) is =
    let number : IsNumber k 1 = (omega (arith, is), λ wrong. absurd (omega (arith, wrong))) in
    record { piece = piece_of c k 1; is = piece_within c k 1 number; rest = 49 ∷ []; text = text_of_piece c k 1 number }
name_completes (Named x) is = record { piece = x; is = is; rest = []; text = append_none (piece_text x) }

pub completed : (s : Progress) → IsProgress s → Begins (spelled s)
completed AtP is = record { form = Passes; is = tt; rest = codes "ass"; text = refl }
completed AtPa is = record { form = Passes; is = tt; rest = codes "ss"; text = refl }
completed AtPas is = record { form = Passes; is = tt; rest = codes "s"; text = refl }
completed AtPass is = record { form = Passes; is = tt; rest = []; text = refl }
completed (First n) is = let c = name_completes n is in record { form = Alone c.piece; is = c.is; rest = c.rest; text = c.text }
completed (Second x None n) is = let c = name_completes n is.1 in record {
  form = Beside x On c.piece;
  is = (is.0, c.is);
  rest = c.rest;
  text = ap (λ (t : List ℕ). piece_text x ++ 32 ∷ t) c.text ∙ sym (append_assoc (piece_text x) (32 ∷ naming_text n) c.rest);
}
completed (Second x (Some s) n) is = let c = name_completes n is.1 in record {
  form = Beside x (Before s) c.piece;
  is = (is.0, c.is);
  rest = c.rest;
  text = ap (λ (t : List ℕ). piece_text x ++ 32 ∷ (stroke_code s ∷ t)) c.text ∙ sym (append_assoc (piece_text x) (32 ∷ (stroke_code s ∷ naming_text n)) c.rest);
}
completed (Marked x y s) is = record { form = Beside x (After s) y; is = is; rest = []; text = append_none (form_text (Beside x (After s) y)) }
