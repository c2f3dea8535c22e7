-- The form of a text is read, and a text of no form is refused at its offset.
use Rattle.std.proofs.Common.{◌≡◌, ℕ, suc, zero, ◌+◌, ◌≤◌, ◌<◌, Bool, true, false, List, [], ◌∷◌, ◌++◌, take, Option, Some, None, Result, Ok, Err, refl, sym, ◌∙◌, ap, subst, arith, append_assoc}
use Rattle.std.specs.Prelude.{nat_eq}
use Rattle.std.specs.List.{list_all}
use Rattle.std.proofs.lemmas.Bool.{eqb-true}
use Rattle.hive_model.specs.Pieces.{all_pieces}
use Rattle.hive_model.proofs.RuleLaws.{all_at}
use Rattle.hive_model.proofs.PieceLaws.{on_pieces}
use Rattle.hive_model.specs.declared.forms.Stroke.{Stroke}
use Rattle.hive_model.specs.declared.forms.Stroke.TheVariants.{Dash, Slash, Backslash}
use Rattle.hive_model.specs.declared.forms.Mark.{Mark}
use Rattle.hive_model.specs.declared.forms.Mark.TheVariants.{On, Before, After}
use Rattle.hive_model.specs.declared.forms.Form.{Form}
use Rattle.hive_model.specs.declared.forms.Form.TheVariants.{Passes, Alone, Beside}
use Rattle.move_text.specs.declared.progress.Naming.{Naming}
use Rattle.move_text.specs.declared.progress.Naming.TheVariants.{Empty, Side, Kinded, Named}
use Rattle.move_text.specs.declared.progress.Progress.TheVariants.{AtPass, First, Second, Marked}
use Rattle.hive_model.specs.Texts.{piece_text, stroke_code, destination, form_text, IsForm, Begins, IsNoText}
use Rattle.move_text.specs.Scan.{naming_with, on_first, on_second, scan}
use Rattle.move_text.proofs.Runs.{then_run, run, run_on, run_stuck, run_scan, EndsAs, scan_ok, scan_err}
use Rattle.move_text.proofs.ProgressLaws.{run_spelled, ends_form, completed}

-- Each text of a form is read

abbrev then_name : Option Naming → (Naming → Option Naming) → Option Naming
then_name None f = None
then_name (Some n) f = f n

abbrev name_run : Naming → List ℕ → Option Naming
name_run n [] = Some n
name_run n (b ∷ bs) = then_name (naming_with n b) (λ next. name_run next bs)

abbrev is_named : ℕ → Option Naming → Bool
is_named x None = false
is_named x (Some Empty) = false
is_named x (Some (Side c)) = false
is_named x (Some (Kinded c k)) = false
is_named x (Some (Named y)) = nat_eq y x

named_is : (x : ℕ) (o : Option Naming) → is_named x o ≡ true → o ≡ Some (Named x)
named_is x None h = absurd (cc)
named_is x (Some Empty) h = absurd (cc)
named_is x (Some (Side c)) h = absurd (cc)
named_is x (Some (Kinded c k)) h = absurd (cc)
named_is x (Some (Named y)) h = ap (λ n. Some (Named n)) (eqb-true y x h)

all_named : list_all (λ x. is_named x (name_run Empty (piece_text x))) all_pieces ≡ true
all_named = refl

piece_named : (x : ℕ) → x < 28 → name_run Empty (piece_text x) ≡ Some (Named x)
piece_named x is = named_is x (name_run Empty (piece_text x)) (all_at (λ x. is_named x (name_run Empty (piece_text x))) all_pieces x all_named (on_pieces x is))

first_run : (n : Naming) (t : List ℕ) (m : Naming) → name_run n t ≡ Some m → run (First n) t ≡ Some (First m)
first_run n [] m h = let same : n ≡ m = cc in ap (λ n. Some (First n)) same
first_run n (b ∷ bs) m h = go (λ next k. first_run next bs m k) (naming_with n b) refl h
  where
    go : ((next : Naming) → name_run next bs ≡ Some m → run (First next) bs ≡ Some (First m)) → (o : Option Naming) → naming_with n b ≡ o
        → then_name o (λ next. name_run next bs) ≡ Some m → then_run (on_first (naming_with n b) n b) (λ next. run next bs) ≡ Some (First m)
    go more None e k = absurd (cc)
    go more (Some next) e k = ap (λ o. then_run (on_first o n b) (λ next. run next bs)) e ∙ more next k

second_run : (x : ℕ) (s : Option Stroke) (n : Naming) (t : List ℕ) (m : Naming) → name_run n t ≡ Some m → run (Second x s n) t ≡ Some (Second x s m)
second_run x s n [] m h = let same : n ≡ m = cc in ap (λ n. Some (Second x s n)) same
second_run x s n (b ∷ bs) m h = go (λ next k. second_run x s next bs m k) (naming_with n b) refl h
  where
    go : ((next : Naming) → name_run next bs ≡ Some m → run (Second x s next) bs ≡ Some (Second x s m)) → (o : Option Naming) → naming_with n b ≡ o
        → then_name o (λ next. name_run next bs) ≡ Some m → then_run (on_second (naming_with n b) x s n b) (λ next. run next bs) ≡ Some (Second x s m)
    go more None e k = absurd (cc)
    go more (Some next) e k = ap (λ o. then_run (on_second o x s n b) (λ next. run next bs)) e ∙ more next k

destination_run : (x y : ℕ) (mark : Mark) → y < 28 → EndsAs (Second x None Empty) (destination mark (piece_text y)) (Beside x mark y)
destination_run x y On there = record { last = Second x None (Named y); reached = second_run x None Empty (piece_text y) (Named y) (piece_named y there); ends = refl }
destination_run x y (Before Dash) there = record { last = Second x (Some Dash) (Named y); reached = second_run x (Some Dash) Empty (piece_text y) (Named y) (piece_named y there); ends = refl }
destination_run x y (Before Slash) there = record { last = Second x (Some Slash) (Named y); reached = second_run x (Some Slash) Empty (piece_text y) (Named y) (piece_named y there); ends = refl }
destination_run x y (Before Backslash) there = record { last = Second x (Some Backslash) (Named y); reached = second_run x (Some Backslash) Empty (piece_text y) (Named y) (piece_named y there); ends = refl }
destination_run x y (After s) there = record {
  last = Marked x y s;
  reached = run_on (Second x None Empty) (Second x None (Named y)) (piece_text y) (stroke_code s ∷ []) (second_run x None Empty (piece_text y) (Named y) (piece_named y there)) ∙ last s;
  ends = refl;
}
  where
    last : (s : Stroke) → run (Second x None (Named y)) (stroke_code s ∷ []) ≡ Some (Marked x y s)
    last Dash = refl
    last Slash = refl
    last Backslash = refl

form_run : (f : Form) → IsForm f → EndsAs (First Empty) (form_text f) f
form_run Passes is = record { last = AtPass; reached = refl; ends = refl }
form_run (Alone x) is = record { last = First (Named x); reached = first_run Empty (piece_text x) (Named x) (piece_named x is); ends = refl }
form_run (Beside x mark y) is = let rest = destination_run x y mark is.1 in record {
  last = rest.last;
  reached = run_on (First Empty) (First (Named x)) (piece_text x) (32 ∷ destination mark (piece_text y)) (first_run Empty (piece_text x) (Named x) (piece_named x is.0)) ∙ rest.reached;
  ends = rest.ends;
}

-- The laws

pub form_read : (t : List ℕ) (f : Form) → scan (First Empty) t 0 ≡ Ok f → IsForm f × (t ≡ form_text f)
form_read t f h =
    let e = scan_ok (First Empty) t 0 f h in
    let r = run_spelled (First Empty) t e.last tt e.reached in
    let q = ends_form e.last f r.is e.ends in
    (q.is, sym r.text ∙ q.text)

pub read_form : (t : List ℕ) (f : Form) → IsForm f → t ≡ form_text f → scan (First Empty) t 0 ≡ Ok f
read_form t f is e = let r = form_run f is in run_scan (First Empty) r.last t 0 f (ap (run (First Empty)) e ∙ r.reached) r.ends

pub no_text : (t : List ℕ) (k : ℕ) → scan (First Empty) t 0 ≡ Err k → IsNoText t k
no_text t k h =
    let e = scan_err (First Empty) t 0 k h in
    let stop = e.2 in
    let same : e.0 ≡ k = omega (arith, e.1) in
    let r = run_spelled (First Empty) (take e.0 t) stop.last tt stop.reached in
    subst (IsNoText t) same (record {
      none = λ f is text. let wrong : Ok f ≡ Err k = sym (read_form t f is text) ∙ h in absurd (cc);
      within = stop.within;
      begins = subst Begins r.text (completed stop.last r.is);
      stops = λ less b.
          let go = form_run b.form b.is in
          let one : e.0 + 1 ≡ suc e.0 = omega arith in
          let stuck = run_stuck (First Empty) (take (suc e.0) t) b.rest (stop.stuck less) in
          let reached = ap (run (First Empty)) (ap (λ n. take n t ++ b.rest) (sym one) ∙ sym b.text) ∙ go.reached in
          let wrong : None ≡ Some go.last = sym stuck ∙ reached in
          absurd (cc);
    })

front_of_take : (n k : ℕ) (t : List ℕ) → n ≤ k → (rest : List ℕ) × (take k t ≡ take n t ++ rest)
front_of_take zero k t h = (take k t, sym (ap (λ (xs : List ℕ). xs ++ take k t) (none t)))
  where
    none : (xs : List ℕ) → take zero xs ≡ []
    none [] = refl
    none (x ∷ xs) = refl
front_of_take (suc n) zero t h = absurd (omega (arith, h))
front_of_take (suc n) (suc k) [] h = ([], refl)
front_of_take (suc n) (suc k) (x ∷ xs) h = let less : n ≤ k = omega (arith, h) in let r = front_of_take n k xs less in (r.0, ap (λ (ys : List ℕ). x ∷ ys) r.1)

shorter : (t : List ℕ) (n k : ℕ) → n ≤ k → Begins (take k t) → Begins (take n t)
shorter t n k h b = let r = front_of_take n k t h in
    record { form = b.form; is = b.is; rest = r.0 ++ b.rest; text = b.text ∙ ap (λ (xs : List ℕ). xs ++ b.rest) r.1 ∙ append_assoc (take n t) r.0 b.rest }

-- the offset is the only one
not_before : (t : List ℕ) (j k : ℕ) → IsNoText t j → IsNoText t k → ¬ (j < k)
not_before t j k one other less =
    let bound = other.within in
    let next : j + 1 ≤ k = omega (arith, less) in
    one.stops (omega (arith, bound, less)) (shorter t (j + 1) k next other.begins)

pub text_no : (t : List ℕ) (k : ℕ) → IsNoText t k → scan (First Empty) t 0 ≡ Err k
text_no t k is = go (scan (First Empty) t 0) refl
  where
    go : (r : Result Form ℕ) → scan (First Empty) t 0 ≡ r → r ≡ Err k
    go (Ok f) e = let q = form_read t f e in absurd (is.none f q.0 q.1)
    go (Err j) e =
        let here = no_text t j e in
        let same : j ≡ k = omega (arith, not_before t j k here is, not_before t k j is here) in
        ap (λ n. Err n) same
