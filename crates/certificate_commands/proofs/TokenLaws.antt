-- If the walk of items as a citing certificate comes to its end, the items are tokens.
use Rattle.std.proofs.Common.{◌≡◌, ℕ, suc, ◌+◌, ◌-◌, true, List, [], ◌∷◌, ◌++◌, map, take, drop, refl, sym, ap, subst, ◌∙◌, ℤ, pos, neg_ℤ, ◌-ℤ◌, Option, Some, None}
use Rattle.std.specs.Prelude.{Bool, cond, false, slice_get}
use Rattle.hive_model.specs.declared.places.Move.{Move}
use Rattle.hive_model.specs.Positions.{Position}
use Rattle.hive_model.specs.Legal.{moves}
use Rattle.hive_model.specs.Games.{after}
use Rattle.hive_model.specs.Keys.{KeyParts, key}
use Rattle.certificate_walks.specs.declared.limit.Limit.{Limit}
use Rattle.certificate_walks.specs.declared.limit.Limit.TheVariants.{AtLeast}
use Rattle.certificate_walks.specs.Items.{is_none_left}
use Rattle.certificate_walks.specs.Walks.{WalkEnd, Left, Fault, Halt, Below, Ends}
use Rattle.certificate_walks.proofs.WalkLaws.{Chain, Shows, walk-shows}
use Rattle.certificate_walks.proofs.PartLaws.{certificate-parts}
use Rattle.strategy_lemmas.specs.declared.lemmas.Lemma.{Lemma}
use Rattle.strategy_lemmas.specs.Lemmas.{serves}
use Rattle.strategy_lemmas.specs.declared.tokens.Token.{Token}
use Rattle.strategy_lemmas.specs.declared.tokens.Token.TheVariants.{Index, Cite}
use Rattle.strategy_lemmas.specs.declared.tokens.WhyCited.{WhyCited}
use Rattle.strategy_lemmas.specs.declared.tokens.WhyCited.TheVariants.{BadCite, TooShort}
use Rattle.strategy_lemmas.specs.Cited.{CitedSteps, cited_steps, cites, take_token, cite_rules, cited_checked, HoldsCited}
use Rattle.strategy_lemmas.proofs.CitedLaws.{cites-below, ends-is}

-- these tokens come before what is left
pub record TakesFrom (s t : CitedSteps) : Type 0 where
  pub tokens : List Token
  pub front : s.left ≡ map (λ t. Some t) tokens ++ t.left

takes-none : (s : CitedSteps) → TakesFrom s s
takes-none s = record { tokens = []; front = refl }

items-append : (xs ys : List Token) (rest : List (Option Token)) → map (λ t. Some t) (xs ++ ys) ++ rest ≡ map (λ t. Some t) xs ++ (map (λ t. Some t) ys ++ rest)
items-append [] ys rest = refl
items-append (x ∷ xs) ys rest = ap (λ zs. Some x ∷ zs) (items-append xs ys rest)

takes-both : (s t u : CitedSteps) → TakesFrom s t → TakesFrom t u → TakesFrom s u
takes-both s t u a b = record {
  tokens = a.tokens ++ b.tokens;
  front = a.front ∙ ap (λ rest. map (λ t. Some t) a.tokens ++ rest) b.front ∙ sym (items-append a.tokens b.tokens u.left);
}

-- one token was taken, and nothing else changes what is left
abbrev OneTaken : List (Option Token) → List (Option Token) → Type 0
OneTaken xs ys = (t : Token) × (xs ≡ Some t ∷ ys)

serves-on : (b : Bool) (s t : CitedSteps) (n : ℕ) → (let o : WalkEnd CitedSteps WhyCited = cond b (Left s) (Fault BadCite n) in o ≡ Left t) → t.left ≡ s.left
serves-on true s t n e = let same : s ≡ t = cc in ap (λ (x : CitedSteps). x.left) (sym same)
serves-on false s t n e = cc

cites-ends : (k : KeyParts) (e : ℕ) (x : ℤ) (o : Option Lemma) (xs : List (Option Token)) (n : ℕ) (ls : List Lemma) (t : CitedSteps) → cites k e x o xs n ls ≡ Ends (Left t) → t.left ≡ xs
cites-ends k e x None xs n ls t h = let no = ends-is (Fault BadCite n) (Left t) h in cc
cites-ends k e x (Some l) xs n ls t h = serves-on (serves k e x l) (cited_steps xs n ls) t n (ends-is (cond (serves k e x l) (Left (cited_steps xs n ls)) (Fault BadCite n)) (Left t) h)

token-ends : (k : KeyParts) (e : ℕ) (x : ℤ) (items : List (Option Token)) (n : ℕ) (ls : List Lemma) (t : CitedSteps) → take_token k e x items n ls ≡ Ends (Left t) → OneTaken items t.left
token-ends k e x [] n ls t h = let no = ends-is (Fault TooShort n) (Left t) h in cc
token-ends k e x (None ∷ xs) n ls t h = let no = ends-is (Halt n) (Left t) h in cc
token-ends k e x (Some (Index i) ∷ xs) n ls t h = cc
token-ends k e x (Some (Cite i) ∷ xs) n ls t h = (Cite i, ap (λ ys. Some (Cite i) ∷ ys) (sym (cites-ends k e x (slice_get ls i) xs (n + 1) ls t h)))

token-below : (k : KeyParts) (e : ℕ) (x : ℤ) (items : List (Option Token)) (n : ℕ) (ls : List Lemma) (j : ℕ) (t : CitedSteps) → take_token k e x items n ls ≡ Below j t → OneTaken items t.left
token-below k e x [] n ls j t h = cc
token-below k e x (None ∷ xs) n ls j t h = cc
token-below k e x (Some (Index i) ∷ xs) n ls j t h = let same : cited_steps xs (n + 1) ls ≡ t = cc in (Index i, ap (λ (u : CitedSteps). Some (Index i) ∷ u.left) same)
token-below k e x (Some (Cite i) ∷ xs) n ls j t h = absurd (cites-below k e x (slice_get ls i) xs (n + 1) ls j t h)

takes-one : (s t : CitedSteps) → OneTaken s.left t.left → TakesFrom s t
takes-one s t (token, e) = record { tokens = token ∷ []; front = e }

abbrev Taken : Position → ℕ → Limit → CitedSteps → CitedSteps → Type 0
Taken p e c s t = TakesFrom s t

-- what is stored besides does not change what is left
kept-left : (s t : CitedSteps) (p : Position) (e : ℕ) (x : ℤ) → cite_rules.keep p e x s ≡ t → TakesFrom s t
kept-left s t p e x kept = record { tokens = []; front = ap (λ (u : CitedSteps). u.left) kept }

chain-takes : (Q : Move → CitedSteps → CitedSteps → Type 0) → ((m : Move) (s t : CitedSteps) → Q m s t → TakesFrom s t) → (ms : List Move) (s t : CitedSteps) → Chain Q ms s t → TakesFrom s t
chain-takes Q shows [] s t chain = subst (TakesFrom s) chain (takes-none s)
chain-takes Q shows (m ∷ ms) s t chain = takes-both s chain.0 t (shows m s chain.0 chain.1) (chain-takes Q shows ms chain.0 t chain.2)

walk-takes : Shows cite_rules Taken
walk-takes = record {
  leaf = λ p e c s leaf kept. takes-none s;
  every = λ p e x s t goes chain. chain-takes (λ m. Taken (after p m) e (AtLeast (neg_ℤ x))) (λ m a b h. h) (moves p) s t chain;
  ends = λ p e x s t goes whole took. takes-one s t (token-ends (key p) (suc e) x s.left s.taken s.lemmas t took);
  below = λ p e x s t goes whole i s1 s2 m took here walked deeper kept.
      takes-both s s1 t (takes-one s s1 (token-below (key p) (suc e) x s.left s.taken s.lemmas i s1 took)) (takes-both s1 s2 t deeper (kept-left s2 t p (suc e) x kept));
}

none-left : (items : List (Option Token)) → is_none_left items ≡ true → items ≡ []
none-left [] e = refl
none-left (i ∷ items) e = cc

all-front : (xs : List Token) → map (λ t. Some t) xs ++ [] ≡ map (λ t. Some t) xs
all-front [] = refl
all-front (x ∷ xs) = ap (λ ys. Some x ∷ ys) (all-front xs)

pub accepted-tokens : (p : Position) (d : ℕ) (m : Move) (v : ℤ) (items : List (Option Token)) (s : CitedSteps) → cited_checked p d m v items ≡ Left s →
    (tokens : List Token) × (items ≡ map (λ t. Some t) tokens) × HoldsCited p d m v tokens
accepted-tokens p d m v items s h =
    let e = d - 1 in
    let s0 = cited_steps items 0 [] in
    let parts = certificate-parts cite_rules d (λ q. Taken q e) (λ q c a b w. walk-shows cite_rules Taken walk-takes e q c a b w) p m v s0 s h in
    let before = chain-takes (λ n. Taken (after p n) e (AtLeast (pos 1 -ℤ v))) (λ n a b t. t) (take parts.k (moves p)) s0 parts.s1 parts.before in
    let behind = chain-takes (λ n. Taken (after p n) e (AtLeast (neg_ℤ v))) (λ n a b t. t) (drop (parts.k + 1) (moves p)) parts.s3 s parts.behind in
    let all = takes-both s0 parts.s1 s before (takes-both parts.s1 parts.s2 s parts.high (takes-both parts.s2 parts.s3 s parts.low behind)) in
    let whole : items ≡ map (λ t. Some t) all.tokens = all.front ∙ ap (λ rest. map (λ t. Some t) all.tokens ++ rest) (none-left s.left parts.ended) ∙ all-front all.tokens in
    (all.tokens, whole, (s, ap (cited_checked p d m v) (sym whole) ∙ h))
