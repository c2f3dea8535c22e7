-- The tokens that are made of the indices on the lines of a text have texts of their own.
use Rattle.std.proofs.Common.{◌≡◌, ℕ, suc, ◌+◌, ◌-◌, ◌<◌, ◌≤◌, Bool, true, false, cond, List, [], ◌∷◌, ◌++◌, map, take, drop, length, length-append, refl, sym, ap, subst, arith, ◌∙◌, ℤ, pos, neg_ℤ, ◌-ℤ◌, Option, Some, None}
use Rattle.std.specs.Prelude.{⊤, nat_lt}
use Rattle.std.proofs.lemmas.Bool.{ltb-true}
use Rattle.hive_model.proofs.GetLemmas.{get_within}
use Rattle.hive_model.specs.declared.places.Move.{Move}
use Rattle.hive_model.specs.Positions.{Position}
use Rattle.hive_model.specs.Legal.{moves}
use Rattle.hive_model.specs.Games.{after}
use Rattle.hive_model.specs.Keys.{KeyParts, key}
use Rattle.io_edge.specs.Lines.{Line, Text, TooLong}
use Rattle.move_text.proofs.NumberLaws.{number_found}
use Rattle.certificate_walks.specs.declared.limit.Limit.{Limit}
use Rattle.certificate_walks.specs.declared.limit.Limit.TheVariants.{AtLeast}
use Rattle.certificate_walks.specs.Limits.{Each}
use Rattle.certificate_walks.specs.Walks.{WalkEnd, Left, Fault, Halt, Below, Ends, certificate}
use Rattle.certificate_walks.proofs.WalkLaws.{Chain, Shows, walk-shows}
use Rattle.certificate_walks.proofs.PartLaws.{certificate-parts}
use Rattle.certificate_walks.proofs.PlaceLaws.{Each-append, position-at}
use Rattle.strategy_check.specs.declared.why.Why.{Why}
use Rattle.strategy_check.specs.Trace.{Steps, steps, take_index, index_rules, trace, Holds}
use Rattle.strategy_check.proofs.TraceLaws.{never-ends, took-index}
use Rattle.strategy_lemmas.specs.declared.tokens.Token.{Token}
use Rattle.strategy_lemmas.specs.declared.tokens.Token.TheVariants.{Index, Cite}
use Rattle.strategy_lemmas.specs.declared.lemmas.Lemma.{Lemma}
use Rattle.strategy_lemmas.specs.Lemmas.{serves, with_lemma, server}
use Rattle.strategy_lemmas.specs.Short.{ShortSteps, short_steps, passes_over, writes_index, short_take, short_rules, of_indices, shortened, short, written_by}
use Rattle.strategy_lemmas.proofs.CitedLaws.{ends-is}
use Rattle.strategy_lemmas.proofs.ShortLaws.{written-ends}
use Rattle.strategy_lemmas.proofs.OutcomeLaws.{ends-as}
use Rattle.certificate_text.specs.Text.{index_in}

-- a token that is on a line
abbrev pub IsLow : Token → Type 0
IsLow (Index i) = i ≤ 5487
IsLow (Cite n) = n ≤ 65535

-- an item that is not an index, or one that is on a line
abbrev IsLowItem : Option ℕ → Type 0
IsLowItem None = ⊤
IsLowItem (Some i) = i ≤ 5487

chain-keeps : {S : Type 0} (Inv : S → Type 0) (Q : Move → S → S → Type 0) → ((m : Move) (s t : S) → Q m s t → Inv s → Inv t) → (ms : List Move) (s t : S) → Chain Q ms s t → Inv s → Inv t
chain-keeps Inv Q keep [] s t chain inv = subst Inv chain inv
chain-keeps Inv Q keep (m ∷ ms) s t chain inv = chain-keeps Inv Q keep ms chain.0 t chain.2 (keep m s chain.0 chain.1 inv)

-- ---- the items of a walk of indices

abbrev KeepsItems : Position → ℕ → Limit → Steps → Steps → Type 0
KeepsItems p e c s t = Each IsLowItem s.left → Each IsLowItem t.left

took-low : (items : List (Option ℕ)) (n i : ℕ) (t : Steps) → take_index items n ≡ Below i t → Each IsLowItem items → (i ≤ 5487) × Each IsLowItem t.left
took-low items n i t took low =
    let f = took-index items n i t took in
    let all : Each IsLowItem (Some i ∷ f.0) = subst (Each IsLowItem) f.1 low in
    (all.0, subst (λ (u : Steps). Each IsLowItem u.left) (sym f.2) all.1)

items-shows : Shows index_rules KeepsItems
items-shows = record {
  leaf = λ p e c s leaf kept low. low;
  every = λ p e x s t goes chain low. chain-keeps (λ (u : Steps). Each IsLowItem u.left) (λ m. KeepsItems (after p m) e (AtLeast (neg_ℤ x))) (λ m a b keeps before. keeps before) (moves p) s t chain low;
  ends = λ p e x s t goes whole took. absurd (never-ends s.left s.taken t took);
  below = λ p e x s t goes whole i s1 s2 m took here walked deeper kept low. subst (λ (u : Steps). Each IsLowItem u.left) kept (deeper (took-low s.left s.taken i s1 took low).1);
}

-- ---- what a walk writes

record AreLow (s : ShortSteps) : Type 0 where
  items : Each IsLowItem s.items.left
  written : Each IsLow s.written
  few : length s.lemmas ≤ 65536

abbrev KeepsLow : Position → ℕ → Limit → ShortSteps → ShortSteps → Type 0
KeepsLow p e c s t = AreLow s → AreLow t

written-more : (ws : List Token) (w : Token) → Each IsLow ws → IsLow w → Each IsLow (ws ++ w ∷ [])
written-more ws w low here = Each-append IsLow ws (w ∷ []) low (here, tt)

passed : (o : WalkEnd Steps Why) (ls : List Lemma) (ws : List Token) (t : ShortSteps) → passes_over o ls ws ≡ Left t → (u : Steps) × (o ≡ Left u) × (short_steps u ls ws ≡ t)
passed (Left u) ls ws t h = (u, refl, cc)
passed (Fault why n) ls ws t h = cc
passed (Halt n) ls ws t h = cc

written-index : (items : List (Option ℕ)) (n : ℕ) (ls : List Lemma) (ws : List Token) (i : ℕ) (t : ShortSteps) → writes_index (take_index items n) ls ws ≡ Below i t →
    (u : Steps) × (take_index items n ≡ Below i u) × (short_steps u ls (ws ++ Index i ∷ []) ≡ t)
written-index [] n ls ws i t h = cc
written-index (None ∷ items) n ls ws i t h = cc
written-index (Some j ∷ items) n ls ws i t h =
    let at : j ≡ i = cc in
    let same : short_steps (steps items (n + 1)) ls (ws ++ Index j ∷ []) ≡ t = cc in
    (steps items (n + 1), ap (λ k. Below k (steps items (n + 1))) at, ap (λ k. short_steps (steps items (n + 1)) ls (ws ++ Index k ∷ [])) (sym at) ∙ same)

cited-low : (k : KeyParts) (e : ℕ) (x : ℤ) (ls : List Lemma) (n : ℕ) → length ls ≤ 65536 → server k e x ls ≡ Some n → n ≤ 65535
cited-low k e x ls n few some =
    let f = position-at (serves k e x) 0 ls n some in
    let low = get_within ls f.0 f.1 f.3 in
    omega (arith, f.2, low, few)

ends-low : (p : Position) (e : ℕ) (x : ℤ) (s t : ShortSteps) → (o : Option ℕ) → server (key p) (suc e) x s.lemmas ≡ o → short_take o p (suc e) x s ≡ Ends (Left t) → AreLow s → AreLow t
ends-low p e x s t None none took low = absurd (written-ends s.items.left s.items.taken s.lemmas s.written t took)
ends-low p e x s t (Some n) some took low =
    let f = passed (trace p (suc e) (AtLeast x) s.items) s.lemmas (s.written ++ Cite n ∷ []) t (ends-is _ (Left t) took) in
    subst AreLow f.2 (record {
      items = walk-shows index_rules KeepsItems items-shows (suc e) p (AtLeast x) s.items f.0 f.1 low.items;
      written = written-more s.written (Cite n) low.written (cited-low (key p) (suc e) x s.lemmas n low.few some);
      few = low.few;
    })

lemma-few : (k : KeyParts) (e : ℕ) (x : ℤ) (ls : List Lemma) → length ls ≤ 65536 → length (with_lemma k e x ls) ≤ 65536
lemma-few k e x ls few = go (nat_lt (length ls) 65536) refl
  where
    go : (b : Bool) → nat_lt (length ls) 65536 ≡ b → length (cond b (ls ++ record { key = k; depth = e; least = x } ∷ []) ls) ≤ 65536
    go true h = let low : length ls < 65536 = ltb-true _ _ h in omega (arith, low, length-append ls (record { key = k; depth = e; least = x } ∷ []))
    go false h = few

below-low : (p : Position) (e : ℕ) (x : ℤ) (s t s1 s2 : ShortSteps) (i : ℕ) → (o : Option ℕ) → short_take o p (suc e) x s ≡ Below i s1 → (AreLow s1 → AreLow s2) →
    short_steps s2.items (with_lemma (key p) (suc e) x s2.lemmas) s2.written ≡ t → AreLow s → AreLow t
below-low p e x s t s1 s2 i None took deeper kept low =
    let f = written-index s.items.left s.items.taken s.lemmas s.written i s1 took in
    let first = took-low s.items.left s.items.taken i f.0 f.1 low.items in
    let next = deeper (subst AreLow f.2 (record { items = first.1; written = written-more s.written (Index i) low.written first.0; few = low.few })) in
    subst AreLow kept (record { items = next.items; written = next.written; few = lemma-few (key p) (suc e) x s2.lemmas next.few })
below-low p e x s t s1 s2 i (Some n) took deeper kept low = cc

tokens-shows : Shows short_rules KeepsLow
tokens-shows = record {
  leaf = λ p e c s leaf kept low. low;
  every = λ p e x s t goes chain low. chain-keeps AreLow (λ m. KeepsLow (after p m) e (AtLeast (neg_ℤ x))) (λ m a b keeps before. keeps before) (moves p) s t chain low;
  ends = λ p e x s t goes whole took low. ends-low p e x s t (server (key p) (suc e) x s.lemmas) refl took low;
  below = λ p e x s t goes whole i s1 s2 m took here walked deeper kept low. below-low p e x s t s1 s2 i (server (key p) (suc e) x s.lemmas) took deeper kept low;
}

certificate-low : (p : Position) (d : ℕ) (m : Move) (v : ℤ) (s t : ShortSteps) → certificate short_rules p d m v s ≡ Left t → AreLow s → AreLow t
certificate-low p d m v s t h low =
    let e = d - 1 in
    let parts = certificate-parts short_rules d (λ q. KeepsLow q e) (λ q c a b w. walk-shows short_rules KeepsLow tokens-shows e q c a b w) p m v s t h in
    let first = chain-keeps AreLow (λ n. KeepsLow (after p n) e (AtLeast (pos 1 -ℤ v))) (λ n a b keeps before. keeps before) (take parts.k (moves p)) s parts.s1 parts.before low in
    chain-keeps AreLow (λ n. KeepsLow (after p n) e (AtLeast (neg_ℤ v))) (λ n a b keeps before. keeps before) (drop (parts.k + 1) (moves p)) parts.s3 t parts.behind (parts.low (parts.high first))

indices-left : (o : WalkEnd ShortSteps Why) (s : Steps) → of_indices o ≡ Left s → (t : ShortSteps) × (o ≡ Left t)
indices-left (Left t) s h = (t, refl)
indices-left (Fault why n) s h = cc
indices-left (Halt n) s h = cc

-- ---- for the lines of a text

line-low : (l : Line) (o : Option ℕ) → index_in l ≡ o → IsLowItem o
line-low l None e = tt
line-low TooLong (Some i) e = cc
line-low (Text line) (Some i) e = (number_found line 0 5487 i e).high

lines-low : (ls : List Line) → Each IsLowItem (map index_in ls)
lines-low [] = tt
lines-low (l ∷ ls) = (line-low l (index_in l) refl, lines-low ls)

pub short-low : (p : Position) (d : ℕ) (m : Move) (v : ℤ) (rest : List Line) (indices : List ℕ) → map index_in rest ≡ map (λ i. Some i) indices → Holds p d m v indices → Each IsLow (short p d m v indices)
short-low p d m v rest indices are hold =
    let f = indices-left (shortened p d m v (map (λ i. Some i) indices)) hold.0 (ends-as p d m v (map (λ i. Some i) indices) ∙ hold.1) in
    let begun : AreLow (short_steps (steps (map (λ i. Some i) indices) 0) [] []) = record { items = subst (Each IsLowItem) are (lines-low rest); written = tt; few = omega arith } in
    let low = certificate-low p d m v (short_steps (steps (map (λ i. Some i) indices) 0) [] []) f.0 f.1 begun in
    subst (Each IsLow) (sym (ap written_by f.1)) low.written
