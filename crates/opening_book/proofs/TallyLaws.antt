-- Counts over a list of games.
use Rattle.std.proofs.Common.{◌≡◌, ℕ, suc, ◌+◌, ◌-◌, ◌≤◌, ◌<◌, List, [], ◌∷◌, ◌++◌, length, sym, ◌∙◌, ap, arith, Some, inl, inr}
use Rattle.std.specs.Prelude.{slice_get, slice_index}
use Rattle.std.proofs.lemmas.List.Sums.{sum_by-append}
use Rattle.std.proofs.lemmas.Option.{get_or_from_slice_get}
use Rattle.hive_model.specs.declared.places.Move.{Move}
use Rattle.hive_model.specs.Lists.{IsOn}
use Rattle.hive_model.specs.Boards.{IsBoard}
use Rattle.hive_model.specs.Positions.{Position, opening}
use Rattle.hive_model.specs.Legal.{moves}
use Rattle.hive_model.specs.Games.{after}
use Rattle.hive_model.specs.Keys.{key}
use Rattle.hive_model.proofs.GetLemmas.{get_within, get_exists}
use Rattle.opening_book.specs.Book.{BookGame, Counts, IsTally, IsBookMove, count, line_count, ply_count}
use Rattle.opening_book.specs.Plies.{IsMost}

-- a number at a place, both ways
pub index_of : (xs : List ℕ) (j n : ℕ) → slice_get xs j ≡ Some n → slice_index xs j ≡ n
index_of xs j n e = get_or_from_slice_get xs j n 0 e

pub of_index : (xs : List ℕ) (j n : ℕ) → j < length xs → slice_index xs j ≡ n → slice_get xs j ≡ Some n
of_index xs j n low e = let x = get_exists xs j low in x.1 ∙ ap Some (sym (index_of xs j x.0 x.1) ∙ e)

more : (p : Position) (m : Move) (games : List BookGame) (g : BookGame) → count p m (games ++ g ∷ []) ≡ count p m games + line_count p m (opening g.game_type) g.made
more p m games g =
    let one = sum_by-append (λ (h : BookGame). line_count p m (opening h.game_type) h.made) games (g ∷ []) in
    omega (arith, one)

-- one game more
pub added : (p : Position) (games : List BookGame) (g : BookGame) (old new : Counts) → IsTally p games old
    → new.key ≡ old.key → new.moves ≡ old.moves → length new.counts ≡ length old.counts → new.plies ≡ old.plies + length g.made
    → ((q : Position) → IsBoard q.board → old.key ≡ key q → (j : ℕ) (m : Move) → slice_get old.moves j ≡ Some m
    → slice_index new.counts j ≡ slice_index old.counts j + line_count q m (opening g.game_type) g.made)
    → IsTally p (games ++ g ∷ []) new
added p games g old new h keys mo long plies counted = record {
  board = h.board;
  key_is = keys ∙ h.key_is;
  moves_are = mo ∙ h.moves_are;
  counts_are = λ j m e.
      let old_is = h.counts_are j m e in
      let small : j < length new.counts = omega (arith, long, get_within old.counts j (count p m games) old_is) in
      let up = counted p h.board h.key_is j m (ap (λ ms. slice_get ms j) h.moves_are ∙ e) in
      of_index new.counts j (count p m (games ++ g ∷ [])) small (up ∙ ap (λ n. n + line_count p m (opening g.game_type) g.made) (index_of old.counts j (count p m games) old_is) ∙ sym (more p m games g));
  plies_are =
      let one = sum_by-append (λ (x : BookGame). length x.made) games (g ∷ []) in
      omega (arith, one, plies, h.plies_are);
}

-- The answer

at_least : (ms : List Move) (m : Move) → IsOn ms m → (j : ℕ) × (slice_get ms j ≡ Some m)
at_least [] m on = absurd on
at_least (x ∷ ms) m on = elim on [
  | inl same ↦ (0, ap Some same)
  | inr rest ↦ let r = at_least ms m rest in (suc r.0, r.1)
]

module _ (p : Position) (games : List BookGame) (t : Counts) (h : IsTally p games t) (place most : ℕ) (is : IsMost t.counts (length t.counts) place most) where
  below : (j : ℕ) (m : Move) → slice_get (moves p) j ≡ Some m → count p m games ≤ most
  below j m e =
      let here = h.counts_are j m e in
      let same = index_of t.counts j (count p m games) here in
      let low = is.greatest j (get_within t.counts j (count p m games) here) in
      omega (arith, same, low)

  pub no_move : most ≡ 0 → (m : Move) → IsOn (moves p) m → count p m games ≡ 0
  no_move none m on = let at = at_least (moves p) m on in let low = below at.0 m at.1 in omega (arith, low, none)

  pub book_move : (m : Move) → 0 < most → slice_get t.moves place ≡ Some m → IsBookMove p games m most
  book_move m some e =
      let at : slice_get (moves p) place ≡ Some m = sym (ap (λ ms. slice_get ms place) h.moves_are) ∙ e in
      let here = h.counts_are place m at in
      record {
        place = place;
        move = at;
        made = sym (index_of t.counts place (count p m games) here) ∙ (is.here some).1;
        some = some;
        most = below;
        first = λ j k before e.
            let there = h.counts_are j k e in
            let same = index_of t.counts j (count p k games) there in
            let low = is.first some j before in
            omega (arith, same, low);
      }

-- One ply more

pub line_next : (p : Position) (m : Move) (r now : Position) (n : Move) (xs ys : List Move) → ys ≡ n ∷ xs → now ≡ after r n
    → line_count p m r ys ≡ ply_count p m r n + line_count p m now xs
line_next p m r now n xs ys e is = ap (line_count p m r) e ∙ ap (λ q. ply_count p m r n + line_count p m q xs) (sym is)

pub sum_next : (new old first bit line before : ℕ) → new ≡ old + bit → old ≡ first + before → line ≡ bit + before → new ≡ first + line
sum_next new old first bit line before a b c = omega (arith, a, b, c)
