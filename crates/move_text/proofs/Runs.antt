-- Reading byte by byte: the ends and the stops. Nothing here depends on a certain state.
use Rattle.std.proofs.Common.{◌≡◌, ℕ, suc, zero, ◌+◌, ◌≤◌, ◌<◌, List, [], ◌∷◌, ◌++◌, length, take, Option, Some, None, Ok, Err, refl, sym, ◌∙◌, ap, arith}
use Rattle.std.specs.Option.{ok_or}
use Rattle.hive_model.specs.declared.forms.Form.{Form}
use Rattle.move_text.specs.declared.progress.Progress.{Progress}
use Rattle.move_text.specs.Scan.{progress_with, end_of, go_on, scan}

abbrev pub then_run : Option Progress → (Progress → Option Progress) → Option Progress
then_run None f = None
then_run (Some s) f = f s

abbrev pub run : Progress → List ℕ → Option Progress
run s [] = Some s
run s (b ∷ bs) = then_run (progress_with s b) (λ next. run next bs)

pub run_append : (s : Progress) (xs ys : List ℕ) → run s (xs ++ ys) ≡ then_run (run s xs) (λ next. run next ys)
run_append s [] ys = refl
run_append s (x ∷ xs) ys = go (λ t. run_append t xs ys) (progress_with s x)
  where
    go : ((t : Progress) → run t (xs ++ ys) ≡ then_run (run t xs) (λ next. run next ys)) → (o : Option Progress)
        → then_run o (λ next. run next (xs ++ ys)) ≡ then_run (then_run o (λ next. run next xs)) (λ next. run next ys)
    go more None = refl
    go more (Some t) = more t

pub run_on : (s t : Progress) (xs ys : List ℕ) → run s xs ≡ Some t → run s (xs ++ ys) ≡ run t ys
run_on s t xs ys e = run_append s xs ys ∙ ap (λ o. then_run o (λ next. run next ys)) e

pub run_stuck : (s : Progress) (xs ys : List ℕ) → run s xs ≡ None → run s (xs ++ ys) ≡ None
run_stuck s xs ys e = run_append s xs ys ∙ ap (λ o. then_run o (λ next. run next ys)) e

pub run_scan : (s e : Progress) (t : List ℕ) (offset : ℕ) (f : Form) → run s t ≡ Some e → end_of e ≡ Some f → scan s t offset ≡ Ok f
unfolding scan
run_scan s e [] offset f r h = let same : s ≡ e = cc in ap (λ o. ok_or o offset) (ap end_of same ∙ h)
run_scan s e (b ∷ bs) offset f r h = go (λ t k. run_scan t e bs (offset + 1) f k h) (progress_with s b) r
  where
    go : ((t : Progress) → run t bs ≡ Some e → scan t bs (offset + 1) ≡ Ok f) → (o : Option Progress)
        → then_run o (λ next. run next bs) ≡ Some e → go_on o offset (λ next. scan next bs (offset + 1)) ≡ Ok f
    go more None k = absurd (cc)
    go more (Some t) k = more t k

pub record EndsAs (s : Progress) (t : List ℕ) (f : Form) : Type 0 where
  pub last : Progress
  pub reached : run s t ≡ Some last
  pub ends : end_of last ≡ Some f

some_of_ok : (o : Option Form) (offset : ℕ) (f : Form) → ok_or o offset ≡ Ok f → o ≡ Some f
some_of_ok None offset f h = absurd (cc)
some_of_ok (Some g) offset f h = let same : g ≡ f = cc in ap Some same

none_of_err : (o : Option Form) (offset k : ℕ) → ok_or o offset ≡ Err k → (o ≡ None) × (k ≡ offset)
none_of_err None offset k h = let same : offset ≡ k = cc in (refl, sym same)
none_of_err (Some g) offset k h = absurd (cc)

pub scan_ok : (s : Progress) (t : List ℕ) (offset : ℕ) (f : Form) → scan s t offset ≡ Ok f → EndsAs s t f
unfolding scan
scan_ok s [] offset f h = record { last = s; reached = refl; ends = some_of_ok (end_of s) offset f h }
scan_ok s (b ∷ bs) offset f h = go (λ t k. scan_ok t bs (offset + 1) f k) (progress_with s b) refl h
  where
    go : ((t : Progress) → scan t bs (offset + 1) ≡ Ok f → EndsAs t bs f) → (o : Option Progress)
        → progress_with s b ≡ o → go_on o offset (λ next. scan next bs (offset + 1)) ≡ Ok f → EndsAs s (b ∷ bs) f
    go more None e k = absurd (cc)
    go more (Some t) e k = let rest = more t k in
        record { last = rest.last; reached = ap (λ o. then_run o (λ next. run next bs)) e ∙ rest.reached; ends = rest.ends }

pub record StopsAt (s : Progress) (t : List ℕ) (n : ℕ) : Type 0 where
  pub within : n ≤ length t
  pub last : Progress
  pub reached : run s (take n t) ≡ Some last
  pub stuck : n < length t → run s (take (suc n) t) ≡ None
  pub unfinished : n ≡ length t → end_of last ≡ None

take_none : (xs : List ℕ) → take zero xs ≡ []
take_none [] = refl
take_none (x ∷ xs) = refl

pub scan_err : (s : Progress) (t : List ℕ) (offset k : ℕ) → scan s t offset ≡ Err k → (n : ℕ) × (k ≡ offset + n) × StopsAt s t n
unfolding scan
scan_err s [] offset k h =
    let e = none_of_err (end_of s) offset k h in
    let same : k ≡ offset + 0 = omega (arith, e.1) in
    (0, same, record { within = omega arith; last = s; reached = refl; stuck = λ wrong. absurd (omega (arith, wrong)); unfinished = λ _. e.0 })
scan_err s (b ∷ bs) offset k h = go (λ t j. scan_err t bs (offset + 1) k j) (progress_with s b) refl h
  where
    go : ((t : Progress) → scan t bs (offset + 1) ≡ Err k → (n : ℕ) × (k ≡ offset + 1 + n) × StopsAt t bs n) → (o : Option Progress)
        → progress_with s b ≡ o → go_on o offset (λ next. scan next bs (offset + 1)) ≡ Err k → (n : ℕ) × (k ≡ offset + n) × StopsAt s (b ∷ bs) n
    go more None e j =
        let here : offset ≡ k = cc in
        let same : k ≡ offset + 0 = omega (arith, here) in (
          0,
          same,
          record {
            within = omega arith;
            last = s;
            reached = refl;
            stuck = λ _. ap (λ o. then_run o (λ next. run next (take 0 bs))) e;
            unfinished = λ wrong. absurd (omega (arith, wrong));
          },
        )
    go more (Some t) e j =
        let rest = more t j in
        let stop = rest.2 in
        let same : k ≡ offset + suc rest.0 = omega (arith, rest.1) in (
          suc rest.0,
          same,
          record {
            within = omega (arith, stop.within);
            last = stop.last;
            reached = ap (λ o. then_run o (λ next. run next (take rest.0 bs))) e ∙ stop.reached;
            stuck = λ less. ap (λ o. then_run o (λ next. run next (take (suc rest.0) bs))) e ∙ stop.stuck (omega (arith, less));
            unfinished = λ all. stop.unfinished (omega (arith, all));
          },
        )
