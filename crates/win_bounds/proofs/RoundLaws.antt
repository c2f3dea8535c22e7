-- Of the six neighbours of a place, all but one are five.
use Rattle.std.proofs.Common.{◌≡◌, ◌≢◌, suc, ◌+◌, ◌≤◌, Bool, true, false, cond, not, ◌&&◌, List, [], ◌∷◌, length, map, ◌⊎◌, inl, inr, refl, sym, ◌∙◌, ap, arith}
use Rattle.std.specs.List.{list_all, filter}
use Rattle.std.proofs.lemmas.Bool.{and_parts, not-true}
use Rattle.hive_model.specs.declared.places.Place.{Place}
use Rattle.hive_model.specs.declared.places.Dir.{Dir}
use Rattle.hive_model.specs.Lists.{IsOn}
use Rattle.hive_model.specs.Places.{is_place, step, dirs, neighbours, origin}
use Rattle.hive_model.proofs.PlaceLemmas.{false_place}
use Rattle.hive_model.proofs.RuleLaws.{all_at, step_once}

-- none of the directions is this one
abbrev is_apart : Dir → List Dir → Bool
is_apart d ds = list_all (λ e. not (is_place (step origin d) (step origin e))) ds

abbrev are_apart : List Dir → Bool
are_apart [] = true
are_apart (d ∷ ds) = is_apart d ds && are_apart ds

not_again : (p q : Place) (d : Dir) (ds : List Dir) → is_apart d ds ≡ true → step p d ≡ q → (e : Dir) → IsOn ds e → step p e ≢ q
not_again p q d ds apart at e on same =
    let other = all_at (λ e. not (is_place (step origin d) (step origin e))) ds e apart on in
    false_place (step origin d) (step origin e) (not-true _ other) (ap (step origin) (step_once p d e (at ∙ sym same)))

all_counted : (f : Place → Bool) (p : Place) (ds : List Dir) → ((d : Dir) → IsOn ds d → f (step p d) ≡ true) → length (filter f (map (step p) ds)) ≡ length ds
all_counted f p [] h = refl
all_counted f p (d ∷ ds) h =
    let rest = all_counted f p ds (λ e on. h e (inr on)) in
    ap (λ t. length (cond t (step p d ∷ filter f (map (step p) ds)) (filter f (map (step p) ds)))) (h d (inl refl)) ∙ ap suc rest

all_but_one : (f : Place → Bool) (p q : Place) (ds : List Dir) → are_apart ds ≡ true → ((d : Dir) → IsOn ds d → (f (step p d) ≡ true) ⊎ (step p d ≡ q))
    → length ds ≤ length (filter f (map (step p) ds)) + 1
all_but_one f p q [] apart h = omega arith
all_but_one f p q (d ∷ ds) apart h =
    let both = and_parts (is_apart d ds) (are_apart ds) apart in
    let rest = filter f (map (step p) ds) in
    elim (f (step p d)) as (λ t. f (step p d) ≡ t → suc (length ds) ≤ length (cond t (step p d ∷ rest) rest) + 1) [
      | true ↦ λ _. let less = all_but_one f p q ds both.1 (λ e on. h e (inr on)) in omega (arith, less)
      | false ↦ λ free.
          let at : step p d ≡ q = elim (h d (inl refl)) [ inl taken ↦ absurd (let wrong : false ≡ true = sym free ∙ taken in cc) | inr same ↦ same ] in
          let all = all_counted f p ds (λ e on. elim (h e (inr on)) [ inl taken ↦ taken | inr same ↦ absurd (not_again p q d ds both.0 at e on same) ]) in
          omega (arith, all)
    ] refl

-- if each neighbour passes or is q, five pass
pub five_round : (f : Place → Bool) (p q : Place) → ((d : Dir) → (f (step p d) ≡ true) ⊎ (step p d ≡ q)) → 5 ≤ length (filter f (neighbours p))
five_round f p q h = let most = all_but_one f p q dirs refl (λ d _. h d) in omega (arith, most)
