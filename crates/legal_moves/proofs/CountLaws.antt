-- Counting what would be listed.
use Rattle.std.proofs.Common.{◌≡◌, ℕ, ◌+◌, ◌*◌, ◌≤◌, ◌<◌, false, List, [], ◌∷◌, ◌++◌, length, map, inl, refl, sym, ◌∙◌, ap, arith, length-append}
use Rattle.std.proofs.lemmas.List.{length-map}
use Rattle.hive_model.specs.declared.places.Place.{Place}
use Rattle.hive_model.specs.declared.places.Move.{Move}
use Rattle.hive_model.specs.declared.places.Move.TheVariants.{To}
use Rattle.hive_model.specs.Lists.{IsOn}
use Rattle.hive_model.specs.Boards.{IsBoard}
use Rattle.hive_model.specs.Positions.{Position}
use Rattle.hive_model.specs.Legal.{LegalPair, is_over, moves}
use Rattle.hand_rules.proofs.PairLaws.{none_listed, with_piece}
use Rattle.bug_moves.specs.Counts.{AreMany}
use Rattle.legal_moves.specs.Counting.{PairsAreMany, one_level}
use Rattle.legal_moves.proofs.Listed.{no_pairs, all_pairs}

module _ (May : ℕ → Place → Type 0) where
  pub none_counted : PairsAreMany May 0 0
  none_counted = record { pairs = []; listed = none_listed May (one_level []) refl; many = refl }

  -- the places of one piece more
  pub counted_next : (x n k : ℕ) → PairsAreMany May x n → AreMany (May x) k → PairsAreMany May (x + 1) (n + k)
  counted_next x n k h more =
      let long = length-append h.pairs (map (λ q. To x q) more.places) in
      let same = length-map more.places (λ q. To x q) in
      let old = h.many in
      let new = more.many in
      record {
        pairs = h.pairs ++ map (λ q. To x q) more.places;
        listed = with_piece May x (one_level []) (one_level h.pairs) h.listed (one_level (h.pairs ++ map (λ q. To x q) more.places)) (record {
          places = more.places;
          all = more.all;
          few = more.few;
          added = refl;
          levels = refl;
          others = refl;
        });
        many = omega (arith, long, same, old, new);
      }

  pub counted_few : (x n : ℕ) → PairsAreMany May x n → n ≤ 196 * x
  counted_few x n h = let room = h.listed.room in let many = h.many in omega (arith, room, many)

none_long : (xs : List Move) → length xs ≡ 0 → xs ≡ []
none_long [] e = refl
none_long (x ∷ xs) e = absurd (omega (arith, e))

some_on : (xs : List Move) → 0 < length xs → (m : Move) × IsOn xs m
some_on [] long = absurd (omega (arith, long))
some_on (x ∷ xs) long = (x, inl refl)

module _ (p : Position) (is : IsBoard p.board) (on : is_over p ≡ false) (n : ℕ) (h : PairsAreMany (LegalPair p) 28 n) where
  pub one_pass : n ≡ 0 → 1 ≡ length (moves p)
  one_pass none = sym (ap length (no_pairs p is on h.pairs h.listed.all.listed (none_long h.pairs (h.many ∙ none))))

  pub many_moves : 0 < n → n ≡ length (moves p)
  many_moves some =
      let many = h.many in
      let long : 0 < length h.pairs = omega (arith, many, some) in
      let first = some_on h.pairs long in
      sym many ∙ ap length (all_pairs p is on h.pairs h.listed.all.listed first.0 first.1 h.listed.all.order)
