-- The legal pairs, listed piece by piece, are the list of legal moves.
use Rattle.std.proofs.Common.{◌≡◌, ◌↔◌, ℕ, ◌+◌, ◌-◌, ◌≤◌, ◌<◌, false, List, [], ◌∷◌, ◌++◌, length, take, inl, refl, sym, ◌∙◌, ap, subst, arith, length-append}
use Rattle.std.proofs.Math.Seq.{take-append_seam}
use Rattle.std.proofs.lemmas.List.{get_or_push, take_all, take_more}
use Rattle.hive_model.specs.declared.places.Place.{Place}
use Rattle.hive_model.specs.declared.places.Move.{Move}
use Rattle.hive_model.specs.declared.places.Move.TheVariants.{Pass, To}
use Rattle.hive_model.specs.Lists.{IsOn, Rises}
use Rattle.hive_model.specs.Boards.{IsBoard}
use Rattle.hive_model.specs.Positions.{Position}
use Rattle.hive_model.specs.Legal.{LegalPair, is_over, moves, move_cmp}
use Rattle.hive_model.specs.Stack.{Levels, level_of, with_level, without_level, with_move_on_top}
use Rattle.hive_model.proofs.Orders.{same_rising}
use Rattle.hive_model.proofs.LegalLaws.{legal_is_piece}
use Rattle.hive_model.proofs.MoveLaws.{moves_total, exact_moves, moves_rise, pass_alone}
use Rattle.hand_rules.specs.Listing.{last_level, IsPairBelow, ListsAll}
use Rattle.legal_moves.specs.Listing.{HasPair}
use Rattle.legal_moves.proofs.Pairing.{pair_is_listed, pass_is_listed}

-- Levels

pub last-with : (s : Levels) (ms : List Move) → last_level (with_level s ms) ≡ ms
last-with s ms = let e : length s.lists ≡ length (s.lists ++ ms ∷ []) - 1 = (let n = length-append s.lists (ms ∷ []) in omega (arith, n)) in get_or_push s.lists ms [] (length (s.lists ++ ms ∷ []) - 1) e

pub without-with : (s : Levels) (ms : List Move) → 1 ≤ s.free → without_level (with_level s ms) ≡ s
without-with s ms room =
    let e : length (s.lists ++ ms ∷ []) - 1 ≡ length s.lists = (let n = length-append s.lists (ms ∷ []) in omega (arith, n)) in
    let lists : take (length (s.lists ++ ms ∷ []) - 1) (s.lists ++ ms ∷ []) ≡ s.lists = ap (λ n. take n (s.lists ++ ms ∷ [])) e ∙ take-append_seam s.lists (ms ∷ []) in
    let free : s.free - 1 + 1 ≡ s.free = omega (arith, room) in
    (λ i. record { lists = lists i; free = free i })

-- a stack with a level is what is below it with that level
pub whole : (s : Levels) → 1 ≤ length s.lists → s ≡ with_level (without_level s) (last_level s)
whole s some =
    let n : length s.lists - 1 + 1 ≡ length s.lists = omega (arith, some) in
    let last : length s.lists - 1 < length s.lists = omega (arith, some) in
    let all : length s.lists ≤ length s.lists = omega arith in
    let lists : s.lists ≡ take (length s.lists - 1) s.lists ++ last_level s ∷ [] = sym (take_all (length s.lists) s.lists all) ∙ ap (λ k. take k s.lists) (sym n) ∙ take_more s.lists (length s.lists - 1) [] last in
    let free : s.free ≡ s.free + 1 - 1 = omega arith in
    (λ i. record { lists = lists i; free = free i })

-- The whole list

-- what is pushed is the list of legal moves
module _ (p : Position) (is : IsBoard p.board) (on : is_over p ≡ false) (xs : List Move) (listed : (m : Move) → IsOn xs m ↔ IsPairBelow (LegalPair p) 28 m) where
  pair_of : (m : Move) → IsPairBelow (LegalPair p) 28 m → HasPair p
  pair_of Pass h = absurd h
  pair_of (To x q) h = (x, q, h.1)

  to_on : (x : ℕ) (q : Place) → LegalPair p x q → IsOn xs (To x q)
  to_on x q h = (listed (To x q)).1 (legal_is_piece p is x q h, h)

  pub no_pairs : xs ≡ [] → moves p ≡ Pass ∷ []
  no_pairs none = pass_alone p ((pass_is_listed p is on).0 (λ (x, q, h). subst (λ ms. IsOn ms (To x q)) none (to_on x q h)))

  pub all_pairs : (m : Move) → IsOn xs m → Rises move_cmp xs → xs ≡ moves p
  all_pairs m some rise = same_rising moves_total exact_moves xs (moves p) rise (moves_rise p) there back
    where
      there : (n : Move) → IsOn xs n → IsOn (moves p) n
      there Pass h = absurd ((listed Pass).0 h)
      there (To x q) h = (pair_is_listed p is on x q).0 ((listed (To x q)).0 h).1

      back : (n : Move) → IsOn (moves p) n → IsOn xs n
      back Pass h = absurd ((pass_is_listed p is on).1 h (pair_of m ((listed m).0 some)))
      back (To x q) h = to_on x q ((pair_is_listed p is on x q).1 h)

-- In the terms of the code

pub last_long : (s : Levels) (n k : ℕ) → n ≡ length s.lists → k ≡ length (level_of s (n - 1)) → length (last_level s) ≡ k
last_long s n k levels long = ap (λ m. length (level_of s (m - 1))) (sym levels) ∙ sym long

none_long : (xs : List Move) → length xs ≡ 0 → xs ≡ []
none_long [] e = refl
none_long (x ∷ xs) e = absurd (omega (arith, e))

some_on : (xs : List Move) → 0 < length xs → (m : Move) × IsOn xs m
some_on [] long = absurd (omega (arith, long))
some_on (x ∷ xs) long = (x, inl refl)

module _ (p : Position) (is : IsBoard p.board) (on : is_over p ≡ false) (old begun s : Levels) (begin : begun ≡ with_level old []) (room : 1 ≤ old.free) (lists : ListsAll (IsPairBelow (LegalPair p) 28) begun s) where
  below : without_level s ≡ old
  below = lists.others ∙ ap without_level begin ∙ without-with old [] room

  pub pass_listed : length (last_level s) ≡ 0 → with_move_on_top s Pass ≡ with_level old (moves p)
  pass_listed short =
      let none = none_long (last_level s) short in
      ap (λ v. with_level v (last_level s ++ Pass ∷ [])) below ∙ ap (λ ms. with_level old (ms ++ Pass ∷ [])) none ∙ ap (with_level old) (sym (no_pairs p is on (last_level s) lists.listed none))

  pub pairs_listed : 0 < length (last_level s) → s ≡ with_level old (moves p)
  pairs_listed long =
      let some = some_on (last_level s) long in
      let n = length-append old.lists ([] ∷ []) in
      let m : length begun.lists ≡ length (old.lists ++ [] ∷ []) = ap (λ (v : Levels). length v.lists) begin in
      let has : 1 ≤ length s.lists = omega (arith, lists.levels, m, n) in
      whole s has ∙ ap (λ v. with_level v (last_level s)) below ∙ ap (with_level old) (all_pairs p is on (last_level s) lists.listed some.0 some.1 lists.order)
