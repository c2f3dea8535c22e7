-- The parts of a certificate's walk that comes to its end, and a certificate from such parts.
use Rattle.std.proofs.Common.{◌≡◌, ℕ, ◌+◌, ◌-◌, true, false, cond, take, drop, refl, sym, ap, ◌∙◌, ℤ, pos, neg_ℤ, ◌-ℤ◌, Option, Some, None}
use Rattle.hive_model.specs.declared.places.Move.{Move}
use Rattle.hive_model.specs.Positions.{Position}
use Rattle.hive_model.specs.Legal.{moves}
use Rattle.hive_model.specs.Games.{after}
use Rattle.certificate_walks.specs.declared.limit.Limit.{Limit}
use Rattle.certificate_walks.specs.declared.limit.Limit.TheVariants.{AtMost, AtLeast}
use Rattle.certificate_walks.specs.Walks.{WalkEnd, Left, Fault, Rules, go_on, walk_all, walk, walk_moves, walk_root, finish, place_of, certificate}
use Rattle.certificate_walks.proofs.WalkLaws.{go_on-left, left-is, Chain, walk_all-chain}

finish-left : {S W : Type 0} (R : Rules S W) (s t : S) → finish R s ≡ Left t → (R.at_end s ≡ true) × (s ≡ t)
finish-left {S} {W} R s t e =
    elim (R.at_end s) as (λ b. (let o : WalkEnd S W = cond b (Left s) (Fault R.reasons.rest (R.taken s)) in o ≡ Left t) → (b ≡ true) × (s ≡ t)) [
      | true ↦ λ h. (refl, left-is s t h)
      | false ↦ λ h. cc
    ] e

finish-end : {S W : Type 0} (R : Rules S W) (s : S) → R.at_end s ≡ true → finish R s ≡ Left s
finish-end R s e = rw e refl

-- the walks of the moves of a root, with what holds of each
pub record Parts {S W : Type 0} (R : Rules S W) (Q : Position → Limit → S → S → Type 0) (p : Position) (m : Move) (v : ℤ) (s t : S) : Type 0 where
  pub k : ℕ
  pub s1 : S
  pub s2 : S
  pub s3 : S
  pub place : place_of m (moves p) ≡ Some k
  pub before : Chain (λ n. Q (after p n) (AtLeast (pos 1 -ℤ v))) (take k (moves p)) s s1
  pub high : Q (after p m) (AtMost (neg_ℤ v)) s1 s2
  pub low : Q (after p m) (AtLeast (neg_ℤ v)) s2 s3
  pub behind : Chain (λ n. Q (after p n) (AtLeast (neg_ℤ v))) (drop (k + 1) (moves p)) s3 t
  pub ended : R.at_end t ≡ true

module _ {S W : Type 0} (R : Rules S W) (e : ℕ) (Q : Position → Limit → S → S → Type 0) (shows : (p : Position) (c : Limit) (s t : S) → walk R p e c s ≡ Left t → Q p c s t) where
  root-parts : (p : Position) (m : Move) (v : ℤ) (s t : S) (o : Option ℕ) → place_of m (moves p) ≡ o → walk_root R (λ n. walk R (after p n) e) (moves p) o m v s ≡ Left t → Parts R Q p m v s t
  root-parts p m v s t None place h = cc
  root-parts p m v s t (Some k) place h =
      let whole = go_on-left (walk_moves (λ n. walk R (after p n) e) (moves p) k m v s) (finish R) t h in
      let end = finish-left R whole.0 t whole.2 in
      let first = go_on-left (walk_all (λ n. walk R (after p n) e (AtLeast (pos 1 -ℤ v))) (take k (moves p)) s) _ whole.0 whole.1 in
      let second = go_on-left (walk R (after p m) e (AtMost (neg_ℤ v)) first.0) _ whole.0 first.2 in
      let third = go_on-left (walk R (after p m) e (AtLeast (neg_ℤ v)) second.0) _ whole.0 second.2 in
      record {
        k = k;
        s1 = first.0;
        s2 = second.0;
        s3 = third.0;
        place = place;
        before = walk_all-chain (λ n. walk R (after p n) e (AtLeast (pos 1 -ℤ v))) (λ n. Q (after p n) (AtLeast (pos 1 -ℤ v))) (λ n a b w. shows (after p n) (AtLeast (pos 1 -ℤ v)) a b w) (take k (moves p)) s first.0 first.1;
        high = shows (after p m) (AtMost (neg_ℤ v)) first.0 second.0 second.1;
        low = shows (after p m) (AtLeast (neg_ℤ v)) second.0 third.0 third.1;
        behind = walk_all-chain (λ n. walk R (after p n) e (AtLeast (neg_ℤ v))) (λ n. Q (after p n) (AtLeast (neg_ℤ v))) (λ n a b w. shows (after p n) (AtLeast (neg_ℤ v)) a b w) (drop (k + 1) (moves p)) third.0 t (third.2 ∙ ap (λ u. Left u) end.1);
        ended = ap R.at_end (sym end.1) ∙ end.0;
      }

pub certificate-parts : {S W : Type 0} (R : Rules S W) (d : ℕ) (Q : Position → Limit → S → S → Type 0) → ((p : Position) (c : Limit) (s t : S) → walk R p (d - 1) c s ≡ Left t → Q p c s t) →
    (p : Position) (m : Move) (v : ℤ) (s t : S) → certificate R p d m v s ≡ Left t → Parts R Q p m v s t
unfolding certificate
certificate-parts R d Q shows p m v s t h = root-parts R (d - 1) Q shows p m v s t (place_of m (moves p)) refl h

-- a certificate from walks that come to their ends
pub certificate-of : {S W : Type 0} (R : Rules S W) (p : Position) (d k : ℕ) (m : Move) (v : ℤ) (s s1 s2 s3 t : S) → place_of m (moves p) ≡ Some k →
    walk_all (λ n. walk R (after p n) (d - 1) (AtLeast (pos 1 -ℤ v))) (take k (moves p)) s ≡ Left s1 → walk R (after p m) (d - 1) (AtMost (neg_ℤ v)) s1 ≡ Left s2 →
    walk R (after p m) (d - 1) (AtLeast (neg_ℤ v)) s2 ≡ Left s3 → walk_all (λ n. walk R (after p n) (d - 1) (AtLeast (neg_ℤ v))) (drop (k + 1) (moves p)) s3 ≡ Left t → R.at_end t ≡ true →
    certificate R p d m v s ≡ Left t
unfolding certificate
certificate-of R p d k m v s s1 s2 s3 t place first high low last end =
    let f = λ (n : Move). walk R (after p n) (d - 1) in
    ap (λ o. walk_root R f (moves p) o m v s) place
    ∙ ap (λ o. go_on (go_on o (λ u. go_on (f m (AtMost (neg_ℤ v)) u) (λ w. go_on (f m (AtLeast (neg_ℤ v)) w) (walk_all (λ n. f n (AtLeast (neg_ℤ v))) (drop (k + 1) (moves p)))))) (finish R)) first
    ∙ ap (λ o. go_on (go_on o (λ w. go_on (f m (AtLeast (neg_ℤ v)) w) (walk_all (λ n. f n (AtLeast (neg_ℤ v))) (drop (k + 1) (moves p))))) (finish R)) high
    ∙ ap (λ o. go_on (go_on o (walk_all (λ n. f n (AtLeast (neg_ℤ v))) (drop (k + 1) (moves p)))) (finish R)) low
    ∙ ap (λ o. go_on o (finish R)) last
    ∙ finish-end R t end
