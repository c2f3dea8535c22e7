-- What is written of a root, and of a whole certificate.
use Rattle.std.proofs.Common.{◌≡◌, ℕ, ◌+◌, ◌-◌, Bool, true, false, List, ◌++◌, ◌<◌, length, take, drop, sym, ap, subst, refl, inl, inr, suc, [], ◌∷◌, ◌∙◌, Option, Some}
use Rattle.hive_model.specs.Positions.{Position}
use Rattle.hive_model.specs.Games.{after}
use Rattle.std.specs.Prelude.{ℤ, pos, neg_ℤ, ◌-ℤ◌}
use Rattle.std.specs.List.{flat_map, slice_get}
use Rattle.std.specs.Bool.{OnTrue, OnFalse}
use Rattle.std.specs.Option.{IsSome}
use Rattle.std.proofs.lemmas.Grind.{flat_map-append}
use Rattle.io_edge.specs.Outside.{Told, behind as written_behind}
use Rattle.hive_model.specs.declared.places.Move.{Move}
use Rattle.hive_model.specs.Lists.{IsOn}
use Rattle.hive_model.specs.Legal.{moves}
use Rattle.hive_model.specs.Histories.{History, position}
use Rattle.hive_model.specs.Minimax.{best, value}
use Rattle.hive_model.specs.Stack.{Levels, level_of, with_level}
use Rattle.search_laws.proofs.LoopLaws.{on-at, level_of-with_level}
use Rattle.search_laws.proofs.BestLaws.{best-is}
use Rattle.certificate_walks.specs.declared.limit.Limit.{Limit}
use Rattle.certificate_walks.specs.declared.limit.Limit.TheVariants.{AtMost, AtLeast}
use Rattle.certificate_walks.specs.Follows.{range_of}
use Rattle.certificate_walks.proofs.FollowLaws.{range-before, range-behind}
use Rattle.strategy_check.specs.Least.{least, least_moves}
use Rattle.certificate_walks.specs.Walks.{place_of}
use Rattle.certificate_walks.proofs.PlaceLaws.{place-here, place-first}
use Rattle.certificate_text.specs.Text.{index_line, head_text}
use Rattle.certificate_indices.specs.Writing.{Wrote, index_lines, lines_below}
use Rattle.certificate_indices.proofs.WriteLaws.{wrote-as, wrote-then, wrote-stop, wrote-is, index-written}
use Rattle.strategy_make.specs.Making.{least_indices, certificate, certificate_of}

-- ---- the parts of the least indices of a root

abbrev pub before : Position → ℕ → ℕ → ℤ → List ℕ
before p e k v = lines_below p e (AtLeast (pos 1 -ℤ v)) (take k (moves p))

abbrev pub here : Position → ℕ → Move → Limit → List ℕ
here p e m c = index_lines (least (after p m) e c)

abbrev pub behind : Position → ℕ → ℕ → ℤ → List ℕ
behind p e k v = lines_below p e (AtLeast (neg_ℤ v)) (drop (k + 1) (moves p))

abbrev least_all : Position → ℕ → Limit → List Move → List ℕ
least_all p e c ms = flat_map (λ n. least (after p n) e c) ms

abbrev parts : Position → ℕ → ℕ → Move → ℤ → List ℕ
parts p e k m v = before p e k v ++ (here p e m (AtMost (neg_ℤ v)) ++ (here p e m (AtLeast (neg_ℤ v)) ++ behind p e k v))

parts-are : (p : Position) (e k : ℕ) (m : Move) (v : ℤ) → parts p e k m v ≡ index_lines (least_moves p e k m v)
parts-are p e k m v =
    let first = least (after p m) e (AtMost (neg_ℤ v)) in
    let second = least (after p m) e (AtLeast (neg_ℤ v)) in
    let last : List ℕ = least_all p e (AtLeast (neg_ℤ v)) (drop (k + 1) (moves p)) in
    sym (flat_map-append index_line (least_all p e (AtLeast (pos 1 -ℤ v)) (take k (moves p))) (first ++ (second ++ last))
    ∙ ap (λ l. before p e k v ++ l) (flat_map-append index_line first (second ++ last)
    ∙ ap (λ l. here p e m (AtMost (neg_ℤ v)) ++ l) (flat_map-append index_line second last)))

-- ---- as the code writes them

pub before-written : (p : Position) (e k : ℕ) (v x : ℤ) (r : Bool) (a b : Told) → x ≡ pos 1 -ℤ v → Wrote r (lines_below p e (AtLeast x) (range_of (moves p) 0 k)) a b → Wrote r (before p e k v) a b
before-written p e k v x r a b is h =
    wrote-as r _ _ a b (ap (λ z. lines_below p e (AtLeast z) (range_of (moves p) 0 k)) is ∙ ap (lines_below p e (AtLeast (pos 1 -ℤ v))) (range-before (moves p) k)) h

pub most-written : (start now : History) (e : ℕ) (m : Move) (v x : ℤ) (r : Bool) (a b : Told) → now ≡ start → x ≡ neg_ℤ v → Wrote r (here (position now) e m (AtMost x)) a b → Wrote r (here (position start) e m (AtMost (neg_ℤ v))) a b
most-written start now e m v x r a b same is h =
    wrote-as r _ _ a b (ap (λ (g : History). here (position g) e m (AtMost x)) same ∙ ap (λ z. here (position start) e m (AtMost z)) is) h

pub least-written : (start now : History) (e : ℕ) (m : Move) (v x : ℤ) (r : Bool) (a b : Told) → now ≡ start → x ≡ neg_ℤ v → Wrote r (here (position now) e m (AtLeast x)) a b → Wrote r (here (position start) e m (AtLeast (neg_ℤ v))) a b
least-written start now e m v x r a b same is h =
    wrote-as r _ _ a b (ap (λ (g : History). here (position g) e m (AtLeast x)) same ∙ ap (λ z. here (position start) e m (AtLeast z)) is) h

pub behind-written : (start now : History) (e k count : ℕ) (v x : ℤ) (r : Bool) (a b : Told) → now ≡ start → x ≡ neg_ℤ v → count ≡ length (moves (position start)) →
    Wrote r (lines_below (position now) e (AtLeast x) (range_of (moves (position now)) (k + 1) count)) a b → Wrote r (behind (position start) e k v) a b
behind-written start now e k count v x r a b same is all h =
    wrote-as r _ _ a b (ap (λ (g : History). lines_below (position g) e (AtLeast x) (range_of (moves (position g)) (k + 1) count)) same
    ∙ ap (λ z. lines_below (position start) e (AtLeast z) (range_of (moves (position start)) (k + 1) count)) is
    ∙ ap (lines_below (position start) e (AtLeast (neg_ℤ v))) (range-behind (moves (position start)) (k + 1) count all)) h

-- ---- a root, whose writing ends in each of its parts

module _ (p : Position) (e k : ℕ) (m : Move) (v : ℤ) where
  pub before-cut : (r : Bool) (a b : Told) → r ≡ false → Wrote r (before p e k v) a b → Wrote false (index_lines (least_moves p e k m v)) a b
  before-cut r a b cut h =
      wrote-as false _ _ a b (parts-are p e k m v) (wrote-stop (before p e k v) _ a b (wrote-is r false _ a b cut h))

  pub most-cut : (r s : Bool) (a b c : Told) → r ≡ true → Wrote r (before p e k v) a b → s ≡ false → Wrote s (here p e m (AtMost (neg_ℤ v))) b c →
      Wrote false (index_lines (least_moves p e k m v)) a c
  most-cut r s a b c whole first cut second =
      wrote-as false _ _ a c (parts-are p e k m v) (wrote-then false (before p e k v) _ a b c (wrote-is r true _ a b whole first)
      (wrote-stop (here p e m (AtMost (neg_ℤ v))) _ b c (wrote-is s false _ b c cut second)))

  pub least-cut : (r s t : Bool) (a b c d : Told) → r ≡ true → Wrote r (before p e k v) a b → s ≡ true → Wrote s (here p e m (AtMost (neg_ℤ v))) b c →
      t ≡ false → Wrote t (here p e m (AtLeast (neg_ℤ v))) c d → Wrote false (index_lines (least_moves p e k m v)) a d
  least-cut r s t a b c d whole first all second cut third =
      wrote-as false _ _ a d (parts-are p e k m v) (wrote-then false (before p e k v) _ a b d (wrote-is r true _ a b whole first)
      (wrote-then false (here p e m (AtMost (neg_ℤ v))) _ b c d (wrote-is s true _ b c all second)
      (wrote-stop (here p e m (AtLeast (neg_ℤ v))) _ c d (wrote-is t false _ c d cut third))))

  pub root-written : (r s t u : Bool) (a b c d f : Told) → r ≡ true → Wrote r (before p e k v) a b → s ≡ true → Wrote s (here p e m (AtMost (neg_ℤ v))) b c →
      t ≡ true → Wrote t (here p e m (AtLeast (neg_ℤ v))) c d → Wrote u (behind p e k v) d f → Wrote u (index_lines (least_moves p e k m v)) a f
  root-written r s t u a b c d f whole first all second every third last =
      wrote-as u _ _ a f (parts-are p e k m v) (wrote-then u (before p e k v) _ a b f (wrote-is r true _ a b whole first)
      (wrote-then u (here p e m (AtMost (neg_ℤ v))) _ b c f (wrote-is s true _ b c all second)
      (wrote-then u (here p e m (AtLeast (neg_ℤ v))) (behind p e k v) c d f (wrote-is t true _ c d every third) last)))

-- the best move is legal
pub best-on : (p : Position) (d : ℕ) (m : Move) → best p d ≡ Some m → IsOn (moves p) m
best-on p d m is = let b = best-is p d m is in on-at (moves p) b.place m b.move

on-index : {A : Type 0} (xs : List A) (x : A) → IsOn xs x → (i : ℕ) × (slice_get xs i ≡ Some x)
on-index [] x on = absurd on
on-index (y ∷ xs) x (inl same) = (0, ap (λ z. Some z) same)
on-index (y ∷ xs) x (inr later) = let at = on-index xs x later in (suc at.0, at.1)

-- the place of a move on the level that was listed last is its place among the legal moves
pub level-place : (old new : Levels) (ms : List Move) (level : ℕ) (m : Move) (o : Option ℕ) → new ≡ with_level old ms → level ≡ length old.lists → o ≡ place_of m (level_of new level) → o ≡ place_of m ms
level-place old new ms level m o listed last found = found ∙ ap (place_of m) (level_of-with_level new old ms level listed last)

-- a legal move has a place among the legal moves
pub place-some : (m : Move) (ms : List Move) (o : Option ℕ) → o ≡ place_of m ms → IsOn ms m → IsSome o
place-some m ms o is on =
    let at = on-index ms m on in
    let first = place-first m ms at.0 at.1 in
    subst IsSome (sym (is ∙ first.1)) refl

pub place-at : (m : Move) (ms : List Move) (o : Option ℕ) (k : ℕ) → o ≡ place_of m ms → o ≡ Some k → slice_get ms k ≡ Some m
place-at m ms o k is found = place-here m ms k (sym is ∙ found)

-- ---- a whole certificate

abbrev pub head : History → ℕ → Move → ℤ → List ℕ
head c d m v = head_text 1 c.game_type c.made d m v

abbrev pub whole : History → ℕ → Move → ℤ → List ℕ
whole c d m v = certificate c.game_type c.made d m v

whole-is : (c : History) (d : ℕ) (m : Move) (v : ℤ) → head c d m v ++ index_lines (least_indices (position c) d m v) ≡ whole c d m v
unfolding certificate
whole-is c d m v = refl

head-written : (start now : History) (d : ℕ) (m : Move) (v : ℤ) (r : Bool) (bytes : List ℕ) (a b : Told) → now ≡ start → bytes ≡ head now d m v → OnTrue r (b ≡ written_behind a bytes) →
    OnFalse r ((n : ℕ) × (n < length bytes) × (b ≡ written_behind a (take n bytes))) → Wrote r (head start d m v) a b
head-written start now d m v r bytes a b same is all part = index-written r bytes (head start d m v) a b (is ∙ ap (λ (c : History). head c d m v) same) all part

head-cut : (c : History) (d : ℕ) (m : Move) (v : ℤ) (r : Bool) (a b : Told) → r ≡ false → Wrote r (head c d m v) a b → Wrote false (whole c d m v) a b
head-cut c d m v r a b cut h = wrote-as false _ _ a b (whole-is c d m v) (wrote-stop (head c d m v) _ a b (wrote-is r false _ a b cut h))

whole-written : (start now : History) (d : ℕ) (m : Move) (v : ℤ) (r s : Bool) (a b e : Told) → now ≡ start → r ≡ true → Wrote r (head start d m v) a b →
    Wrote s (index_lines (least_indices (position now) d m v)) b e → Wrote s (whole start d m v) a e
whole-written start now d m v r s a b e same all first later =
    wrote-as s _ _ a e (whole-is start d m v) (wrote-then s (head start d m v) (index_lines (least_indices (position start) d m v)) a b e (wrote-is r true _ a b all first)
    (wrote-as s _ _ b e (ap (λ (c : History). index_lines (least_indices (position c) d m v)) same) later))

-- an initial part of the certificate of the best move and the value of the position
pub part-of : (c : History) (d : ℕ) (m : Move) (v : ℤ) (a b : Told) → best (position c) d ≡ Some m → v ≡ value (position c) d → Wrote false (whole c d m v) a b →
    Wrote false (certificate_of c d (best (position c) d)) a b
part-of c d m v a b is worth h = wrote-as false _ _ a b (ap (whole c d m) worth ∙ ap (certificate_of c d) (sym is)) h

-- if the head was cut off
pub head-part : (start now : History) (d : ℕ) (m : Move) (v : ℤ) (r : Bool) (bytes : List ℕ) (a b : Told) → now ≡ start → bytes ≡ head now d m v → OnTrue r (b ≡ written_behind a bytes) →
    OnFalse r ((n : ℕ) × (n < length bytes) × (b ≡ written_behind a (take n bytes))) → best (position start) d ≡ Some m → v ≡ value (position start) d → r ≡ false → Wrote false (certificate_of start d (best (position start) d)) a b
head-part start now d m v r bytes a b same is all part first worth cut =
    part-of start d m v a b first worth (head-cut start d m v r a b cut (head-written start now d m v r bytes a b same is all part))

-- if the head was written, and then this part of the indices
pub both-written : (start now : History) (d : ℕ) (m : Move) (v : ℤ) (r s : Bool) (bytes : List ℕ) (a b e : Told) → now ≡ start → bytes ≡ head now d m v → OnTrue r (b ≡ written_behind a bytes) →
    OnFalse r ((n : ℕ) × (n < length bytes) × (b ≡ written_behind a (take n bytes))) → r ≡ true → Wrote s (index_lines (least_indices (position now) d m v)) b e → Wrote s (whole start d m v) a e
both-written start now d m v r s bytes a b e same is all part done later =
    whole-written start now d m v r s a b e same done (head-written start now d m v r bytes a b same is all part) later
