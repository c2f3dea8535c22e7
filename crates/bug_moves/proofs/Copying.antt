-- What a mosquito copies, kind by kind, is what it copies.
use Rattle.std.proofs.Common.{◌≡◌, ◌≢◌, ℕ, suc, zero, ◌+◌, ◌≤◌, ◌<◌, true, false, List, length, ◌↔◌, refl, sym, ◌∙◌, ap, subst, arith}
use Rattle.std.proofs.lemmas.Option.{same_Some}
use Rattle.std.specs.Prelude.{Option, Some, None, slice_get}
use Rattle.hive_model.specs.declared.pieces.Kind.{Kind}
use Rattle.hive_model.specs.declared.pieces.Kind.TheVariants.{Queen, Spider, Beetle, Grasshopper, Ant, Mosquito, Ladybug, Pillbug}
use Rattle.hive_model.specs.declared.places.Place.{Place}
use Rattle.hive_model.specs.Lists.{IsOn}
use Rattle.hive_model.specs.Pieces.{kind_of}
use Rattle.hive_model.specs.Places.{step, dirs}
use Rattle.hive_model.specs.Boards.{Stacks, top_at}
use Rattle.hive_model.specs.Near.{with_place}
use Rattle.hive_model.specs.Reach.{Reach, CopiesOne}
use Rattle.hive_model.proofs.TouchLaws.{reach_touches}
use Rattle.hive_model.proofs.GetLemmas.{on-at}
use Rattle.hive_model.proofs.PieceLaws.{same_kind, from_same_kind}
use Rattle.hive_model.proofs.RuleLaws.{any_has, has_any, dir_on}
use Rattle.bug_moves.specs.Adding.{IsAtHive, Gains}
use Rattle.bug_moves.proofs.AtHive.{touched_at_hive}
use Rattle.bug_moves.proofs.AntLaws.{place_of}
use Rattle.bug_moves.proofs.Gaining.{gains_place, gains_same, gains_turn}
use Rattle.bug_moves.specs.Copied.{shows, CopiesKind, copied_kind, InKinds, AmongFirst}

-- Each kind reaches places at the hive

pub reach_at_hive : (k : Kind) (b : Stacks) (p q : Place) → Reach k b p q → IsAtHive b q
reach_at_hive k b p q h = touched_at_hive b q (reach_touches k b p q h.0 h.1)

-- One place of a list after another

-- what the list has at the index is at the hive
pub got_at_hive : (k : Kind) (b : Stacks) (p : Place) (ps : List Place) (n : ℕ) (q : Place) → ((x : Place) → IsOn ps x ↔ Reach k b p x) → slice_get ps n ≡ Some q → IsAtHive b q
got_at_hive k b p ps n q is at = reach_at_hive k b p q ((is q).0 (on-at ps n q at))

pub among_next : (b : Stacks) (ps : List Place) (n : ℕ) (p : Place) (xs ys zs : List Place) → Gains b (AmongFirst n ps) xs ys → slice_get ps n ≡ Some p → IsAtHive b p → zs ≡ with_place p ys → Gains b (AmongFirst (n + 1) ps) xs zs
among_next b ps n p xs ys zs one at near made =
    gains_turn b (λ k q. slice_get ps k ≡ Some q) n xs ys zs one
    (gains_place b (λ q. slice_get ps n ≡ Some q) p ys zs one.list near made at (λ q is. same_Some p q (sym at ∙ is)))

pub among_all : (k : Kind) (b : Stacks) (p : Place) (ps : List Place) (n : ℕ) (xs ys : List Place) → length ps ≤ n → ((q : Place) → IsOn ps q ↔ Reach k b p q) → Gains b (AmongFirst n ps) xs ys → Gains b (Reach k b p) xs ys
among_all k b p ps n xs ys all is h = gains_same b (Reach k b p) (AmongFirst n ps) xs ys
    (λ q r. let (i, low, at) = place_of ps q ((is q).1 r) in let less : i < n = omega (arith, low, all) in (i, less, at))
    (λ q (i, _, at). (is q).0 (on-at ps i q at)) h

-- Each kind in turn

pub kinds_next : (b : Stacks) (P : Kind → Place → Type 0) (n : ℕ) (xs ys zs : List Place) → Gains b (InKinds n P) xs ys → Gains b (P (copied_kind n)) ys zs → Gains b (InKinds (n + 1) P) xs zs
kinds_next b P = gains_turn b (λ k. P (copied_kind k))

pub copied_at : (n : ℕ) → n < 7 → copied_kind n ≢ Mosquito
copied_at zero low e = cc
copied_at (suc zero) low e = cc
copied_at (suc (suc zero)) low e = cc
copied_at (suc (suc (suc zero))) low e = cc
copied_at (suc (suc (suc (suc zero)))) low e = cc
copied_at (suc (suc (suc (suc (suc zero))))) low e = cc
copied_at (suc (suc (suc (suc (suc (suc zero)))))) low e = cc
copied_at (suc (suc (suc (suc (suc (suc (suc n))))))) low e = omega (arith, low)

index_of : (k : Kind) → k ≢ Mosquito → (n : ℕ) × (n < 7) × (copied_kind n ≡ k)
index_of Queen another = let low : 0 < 7 = omega arith in (0, low, refl)
index_of Spider another = let low : 1 < 7 = omega arith in (1, low, refl)
index_of Beetle another = let low : 2 < 7 = omega arith in (2, low, refl)
index_of Grasshopper another = let low : 3 < 7 = omega arith in (3, low, refl)
index_of Ant another = let low : 4 < 7 = omega arith in (4, low, refl)
index_of Ladybug another = let low : 5 < 7 = omega arith in (5, low, refl)
index_of Pillbug another = let low : 6 < 7 = omega arith in (6, low, refl)
index_of Mosquito another = absurd (another refl)

shown : (k : Kind) (o : Option ℕ) → shows k o ≡ true → (x : ℕ) × (o ≡ Some x) × (kind_of x ≡ k)
shown k None e = let wrong : false ≡ true = e in absurd (cc)
shown k (Some x) e = (x, refl, same_kind (kind_of x) k e)

one_from_kind : (b : Stacks) (p : Place) (k : Kind) (q : Place) → k ≢ Mosquito → CopiesKind b p k q → CopiesOne b p q
one_from_kind b p k q another (touched, r) =
    let found = any_has (λ d. shows k (top_at b (step p d))) dirs touched in
    let (x, stands, is) = shown k (top_at b (step p found.0)) found.2 in
    record {
      dir = found.0;
      other = x;
      stands = stands;
      copied = λ e. another (sym is ∙ e);
      reach = subst (λ j. Reach j b p q) (sym is) r;
    }

kind_from_one : (b : Stacks) (p q : Place) → (h : CopiesOne b p q) → CopiesKind b p (kind_of h.other) q
kind_from_one b p q h = (
  has_any (λ d. shows (kind_of h.other) (top_at b (step p d))) dirs h.dir (dir_on h.dir) (ap (shows (kind_of h.other)) h.stands ∙ from_same_kind (kind_of h.other) (kind_of h.other) refl),
  h.reach,
)

pub kinds_all : (b : Stacks) (p : Place) (n : ℕ) (xs ys : List Place) → n ≡ 7 → Gains b (InKinds n (CopiesKind b p)) xs ys → Gains b (CopiesOne b p) xs ys
kinds_all b p n xs ys all h = gains_same b (CopiesOne b p) (InKinds n (CopiesKind b p)) xs ys
    (λ q one.
    let (i, low, is) = index_of (kind_of one.other) one.copied in
    let less : i < n = omega (arith, low, all) in
    (i, less, subst (λ j. CopiesKind b p j q) (sym is) (kind_from_one b p q one)))
    (λ q (i, low, copies). let less : i < 7 = omega (arith, low, all) in one_from_kind b p (copied_kind i) q (copied_at i less) copies) h
