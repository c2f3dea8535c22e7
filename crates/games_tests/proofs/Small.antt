-- A board of a test, with a piece put near the origin.
use Rattle.std.proofs.Common.{◌≡◌, ℕ, ◌⊎◌, inl, inr, true, false, [], sym, subst, arith}
use Rattle.std.specs.Prelude.{IsTrue}
use Rattle.std.proofs.lemmas.Int.{ints}
use Rattle.hive_model.specs.declared.places.Place.{Place}
use Rattle.hive_model.specs.Places.{IsWithin}
use Rattle.hive_model.specs.Boards.{Stacks, is_occupied, put}
use Rattle.hive_model.specs.Spread.{AreNear}
use Rattle.hive_model.proofs.BoardLemmas.{occupied_stands, put_stands, stands_occupied}
use Rattle.games_tests.specs.Small.{IsSmall}

pub near_each_other : (p q : Place) → IsWithin 9 p → IsWithin 9 q → AreNear 32 p q
near_each_other p q h k = record {
  q_up = (let a = h.q_high in let b = k.q_low in omega (arith, ints, a, b));
  q_down = (let a = h.q_low in let b = k.q_high in omega (arith, ints, a, b));
  r_up = (let a = h.r_high in let b = k.r_low in omega (arith, ints, a, b));
  r_down = (let a = h.r_low in let b = k.r_high in omega (arith, ints, a, b));
}

pub on_board : (p : Place) → IsWithin 9 p → IsWithin 9000 p
on_board p h = record {
  q_low = (let a = h.q_low in omega (arith, ints, a));
  q_high = (let a = h.q_high in omega (arith, ints, a));
  r_low = (let a = h.r_low in omega (arith, ints, a));
  r_high = (let a = h.r_high in omega (arith, ints, a));
}

put_occupied : (b : Stacks) (x : ℕ) (p q : Place) → IsTrue (is_occupied (put b x p) q) → IsTrue (is_occupied b q) ⊎ (q ≡ p)
put_occupied b x p q h =
    let first = occupied_stands (put b x p) q h in
    elim (put_stands b x p first.0 q 0 first.1) [ inl old ↦ inl (stands_occupied b first.0 q 0 old) | inr (e, f, g) ↦ inr f ]

pub small_put : (b : Stacks) (x : ℕ) (p : Place) → IsSmall b → IsWithin 9 p → IsSmall (put b x p)
small_put b x p small within q on = elim (put_occupied b x p q on) [ inl old ↦ small q old | inr here ↦ subst (IsWithin 9) (sym here) within ]

pub small_empty : (b : Stacks) → b ≡ [] → IsSmall b
small_empty b e q on = absurd (nothing q (subst (λ c. IsTrue (is_occupied c q)) e on))
  where
    nothing : (q : Place) → IsTrue (is_occupied [] q) → ⊥
    nothing q h = let wrong : false ≡ true = h in cc
