-- The shares of workers, and what they add up to.
use Rattle.std.proofs.Common.{◌≡◌, ℕ, zero, suc, ◌+◌, ◌-◌, ◌^◌, ◌≤◌, ◌<◌, List, [], ◌∷◌, ◌++◌, length, take, get_or, inl, inr, refl, sym, ◌∙◌, ap, subst, arith}
use Rattle.std.specs.List.{All, AllZip, sum_by, slice_index_or}
use Rattle.std.specs.Prelude.{slice_set}
use Rattle.std.proofs.lemmas.List.{length-set, take_all, take_at}
use Rattle.std.proofs.lemmas.List.Elements.{All-nil, All-cons, All-head, All-tail, All-set, All-push}
use Rattle.std.proofs.lemmas.List.Sums.{sum_by-cons, sum_by-set, sum_by_more, sum_by_push, get_or-le-sum_by}
use Rattle.hive_model.specs.Boards.{IsBoard}
use Rattle.hive_model.specs.Lists.{IsOn}
use Rattle.hive_model.specs.Legal.{moves}
use Rattle.hive_model.specs.Positions.{Position}
use Rattle.hive_model.specs.Histories.{History, position}
use Rattle.hive_model.specs.Minimax.{lines}
use Rattle.plain_search.proofs.FewMoves.{board-few, lines-fit}
use Rattle.count_share.specs.declared.classes.MoveClass.{MoveClass}
use Rattle.count_share.specs.Classes.{AreClasses, lines_by, lines_of}
use Rattle.count_share.specs.Shares.{AreDealt, AreHelpers, idle, CanCount, HasCounted, HasTaken, HaveCounted, IsMember, Share, lines_counted, lines_shared}

-- R holds at each place of two lists
abbrev pub AtEach : {A : Type 0} → (A → A → Type 0) → List A → List A → Type 0
AtEach {A} R xs ys = (i : ℕ) (d : A) → i < length xs → R (slice_index_or xs i d) (slice_index_or ys i d)

pub zip-each : {A : Type 0} (R : A → A → Type 0) (xs ys : List A) → length ys ≡ length xs → AtEach R xs ys → AllZip R xs ys
zip-each R [] [] long each = tt
zip-each R [] (y ∷ ys) long each = absurd (omega (arith, long))
zip-each R (x ∷ xs) [] long each = absurd (omega (arith, long))
zip-each R (x ∷ xs) (y ∷ ys) long each = (each zero x (omega arith), zip-each R xs ys (omega (arith, long)) (λ i d h. each (suc i) d (omega (arith, h))))

-- Dealing

-- the lists of a worker
share_of : Position → ℕ → Share → ℕ
share_of p n s = lines_of p n s.classes

-- idle workers count nothing
pub deal-none : (p : Position) (n : ℕ) (ss : List Share) (cs : List MoveClass) → All (λ (s : Share). s.classes ≡ []) ss → lines_shared p n ss ≡ 0
deal-none p n [] cs idle = refl
deal-none p n (s ∷ ss) cs idle =
    let here : lines_of p n s.classes ≡ 0 = ap (lines_of p n) (All-head (λ (s : Share). s.classes ≡ []) s ss idle) in
    let rest = deal-none p n ss cs (All-tail (λ (s : Share). s.classes ≡ []) s ss idle) in
    let whole = sum_by-cons (λ (s : Share). lines_of p n s.classes) s ss in
    omega (arith, whole, here, rest)

pub deal-long : (ss : List Share) (i : ℕ) (s : Share) → length (slice_set ss i s) ≡ length ss
deal-long ss i s = length-set ss i s

-- a worker that has one more class is a member still
pub deal-members : (p : Position) (plies : ℕ) (ss : List Share) (i : ℕ) (old new : Share) (c : MoveClass) (cs : List MoveClass) (j : ℕ) → i < length ss → old ≡ get_or ss i old → j < length cs → c ≡ get_or cs j c
    → AreClasses p cs → All (IsMember p plies) ss → HasTaken c old new → All (IsMember p plies) (slice_set ss i new)
deal-members p plies ss i old new c cs j low is less here are all takes =
    let was : IsMember p plies old = subst (IsMember p plies) (sym is) (all i old low) in
    let legal : IsOn (moves p) c.moved = subst (λ (k : MoveClass). IsOn (moves p) k.moved) (sym here) (are.legal j c less) in
    All-set (IsMember p plies) ss i new (record {
      at = ap position takes.history ∙ was.at;
      spare = subst (λ g. plies ≤ g.spare) (sym takes.history) was.spare;
      free = subst (λ n. plies ≤ n) (sym takes.free) was.free;
      legal = subst (All (λ (k : MoveClass). IsOn (moves p) k.moved)) (sym takes.classes) (All-push (λ (k : MoveClass). IsOn (moves p) k.moved) old.classes c was.legal legal);
    }) all

-- and the shares are those of one more class
pub deal-shares : (p : Position) (n : ℕ) (ss : List Share) (i : ℕ) (old new : Share) (c : MoveClass) (cs : List MoveClass) (j : ℕ) → i < length ss → old ≡ get_or ss i old → j < length cs → c ≡ get_or cs j c
    → lines_shared p n ss ≡ lines_of p n (take j cs) → HasTaken c old new → lines_shared p n (slice_set ss i new) ≡ lines_of p n (take (j + 1) cs)
deal-shares p n ss i old new c cs j low is less here so takes =
    let whole = sum_by-set (λ (s : Share). lines_of p n s.classes) ss i new old low in
    let was : lines_of p n (get_or ss i old).classes ≡ lines_of p n old.classes = ap (λ (s : Share). lines_of p n s.classes) (sym is) in
    let more : lines_of p n new.classes ≡ lines_of p n old.classes + lines_by p n c = ap (lines_of p n) takes.classes ∙ sum_by_push (lines_by p n) old.classes c in
    let next = sum_by_more (lines_by p n) cs j c less in
    let at : lines_by p n (get_or cs j c) ≡ lines_by p n c = ap (lines_by p n) (sym here) in
    omega (arith, whole, was, more, next, at, so)

pub deal-whole : (p : Position) (n : ℕ) (ss : List Share) (cs : List MoveClass) (j : ℕ) → length cs ≤ j → lines_shared p n ss ≡ lines_of p n (take j cs) → lines_shared p n ss ≡ lines_of p n cs
deal-whole p n ss cs j all so = so ∙ ap (lines_of p n) (take_all j cs all)

-- Counting

-- what the workers counted adds up to the lists of their classes
pub counted-sum : (n : ℕ) (ss ts : List Share) → HaveCounted n ss ts → sum_by (λ (s : Share). s.total) ts ≡ lines_counted n ss
counted-sum n [] [] all = refl
counted-sum n [] (t ∷ ts) all = absurd all
counted-sum n (s ∷ ss) [] all = absurd all
counted-sum n (s ∷ ss) (t ∷ ts) all =
    let rest = counted-sum n ss ts all.1 in
    let here = all.0.total in
    let one = sum_by-cons (λ (s : Share). s.total) t ts in
    let two = sum_by-cons (λ (s : Share). lines_of (position s.history) (n - 1) s.classes) s ss in
    omega (arith, rest, here, one, two)

-- members count at the position of the team
counted-here : (p : Position) (n plies : ℕ) (ss : List Share) → All (IsMember p plies) ss → lines_counted n ss ≡ lines_shared p (n - 1) ss
counted-here p n plies [] all = refl
counted-here p n plies (s ∷ ss) all =
    let here : lines_of (position s.history) (n - 1) s.classes ≡ lines_of p (n - 1) s.classes = ap (λ q. lines_of q (n - 1) s.classes) (All-head (IsMember p plies) s ss all).at in
    let rest = counted-here p n plies ss (All-tail (IsMember p plies) s ss all) in
    let one = sum_by-cons (λ (s : Share). lines_of (position s.history) (n - 1) s.classes) s ss in
    let two = sum_by-cons (λ (s : Share). lines_of p (n - 1) s.classes) s ss in
    omega (arith, here, rest, one, two)

-- together they count the lists of the position
pub dealt-lines : (p : Position) (n plies : ℕ) (ss : List Share) → 1 ≤ n → n ≤ 8 → AreDealt p plies ss → lines_counted n ss ≡ lines p n
dealt-lines p n plies ss some few dealt =
    let e : suc (n - 1) ≡ n = omega (arith, some) in
    counted-here p n plies ss dealt.members ∙ dealt.whole (n - 1) (omega (arith, some, few)) ∙ ap (lines p) e

pub dealt-fit : (p : Position) (n plies : ℕ) (ss : List Share) → 1 ≤ n → n ≤ 8 → IsBoard p.board → AreDealt p plies ss → lines_counted n ss < 2 ^ 128
dealt-fit p n plies ss some few board dealt =
    let whole = dealt-lines p n plies ss some few dealt in
    let small = lines-fit n p few (omega (arith, board-few p.board board, few)) in
    subst (λ k. k < 2 ^ 128) (sym whole) small

pub dealt-can : (p : Position) (n plies : ℕ) (ss : List Share) → 1 ≤ n → n ≤ 8 → n ≤ plies → IsBoard p.board → AreDealt p plies ss → All (CanCount n) ss
dealt-can p n plies ss some few within board dealt k d h =
    let s = get_or ss k d in
    let is : IsMember p plies s = dealt.members k d h in
    let fits = dealt-fit p n plies ss some few board dealt in
    let part = get_or-le-sum_by (λ (s : Share). lines_of (position s.history) (n - 1) s.classes) ss k d h in
    record {
      some = some;
      few = few;
      spare = omega (arith, within, is.spare);
      free = omega (arith, within, is.free);
      legal = subst (λ q. All (λ (c : MoveClass). IsOn (moves q) c.moved) s.classes) (sym is.at) is.legal;
      fits = omega (arith, part, fits);
    }

-- and are as many members as before
counted-member : (p : Position) (n plies : ℕ) (s t : Share) → IsMember p plies s → HasCounted n s t → IsMember p plies t
counted-member p n plies s t is did = record {
  at = ap position did.history ∙ is.at;
  spare = subst (λ g. plies ≤ g.spare) (sym did.history) is.spare;
  free = subst (λ n. plies ≤ n) (sym did.free) is.free;
  legal = subst (All (λ (c : MoveClass). IsOn (moves p) c.moved)) (sym did.classes) is.legal;
}

counted-members : (p : Position) (n plies : ℕ) (ss ts : List Share) → HaveCounted n ss ts → All (IsMember p plies) ss → All (IsMember p plies) ts
counted-members p n plies [] [] did all = all
counted-members p n plies [] (t ∷ ts) did all = absurd did
counted-members p n plies (s ∷ ss) [] did all = absurd did
counted-members p n plies (s ∷ ss) (t ∷ ts) did all =
    All-cons (IsMember p plies) t ts (counted-member p n plies s t (All-head (IsMember p plies) s ss all) did.0) (counted-members p n plies ss ts did.1 (All-tail (IsMember p plies) s ss all))

counted-shares : (p : Position) (n k : ℕ) (ss ts : List Share) → HaveCounted n ss ts → lines_shared p k ts ≡ lines_shared p k ss
counted-shares p n k [] [] did = refl
counted-shares p n k [] (t ∷ ts) did = absurd did
counted-shares p n k (s ∷ ss) [] did = absurd did
counted-shares p n k (s ∷ ss) (t ∷ ts) did =
    let here : lines_of p k t.classes ≡ lines_of p k s.classes = ap (lines_of p k) did.0.classes in
    let rest = counted-shares p n k ss ts did.1 in
    let one = sum_by-cons (λ (s : Share). lines_of p k s.classes) t ts in
    let two = sum_by-cons (λ (s : Share). lines_of p k s.classes) s ss in
    omega (arith, here, rest, one, two)

-- what was dealt out stays so
pub counted-dealt : (p : Position) (n plies : ℕ) (ss ts : List Share) → HaveCounted n ss ts → AreDealt p plies ss → AreDealt p plies ts
counted-dealt p n plies ss ts did dealt = record {
  members = counted-members p n plies ss ts did dealt.members;
  whole = λ k low. counted-shares p n k ss ts did ∙ dealt.whole k low;
}

pub counted-many : (n : ℕ) (ss ts : List Share) → HaveCounted n ss ts → length ts ≡ length ss
counted-many n [] [] did = refl
counted-many n [] (t ∷ ts) did = absurd did
counted-many n (s ∷ ss) [] did = absurd did
counted-many n (s ∷ ss) (t ∷ ts) did = ap suc (counted-many n ss ts did.1)

-- Lent for a while

-- an idle worker is a member
pub idle-member : (p : Position) (plies : ℕ) (s : Share) (history : History) → position history ≡ p → plies ≤ history.spare → s ≡ idle history plies → IsMember p plies s
idle-member p plies s history at room is = subst (IsMember p plies) (sym is) (record {
  at = at;
  spare = room;
  free = omega arith;
  legal = All-nil (λ (c : MoveClass). IsOn (moves p) c.moved);
})

-- workers that are there have all moves dealt out to them
pub helpers-dealt : (p : Position) (plies : ℕ) (ss lent : List Share) → 0 < length lent → lent ≡ ss → AreHelpers p plies ss → AreDealt p plies lent
helpers-dealt p plies ss lent some is (inl none) = let e = ap length (is ∙ none) in absurd (omega (arith, some, e))
helpers-dealt p plies ss lent some is (inr dealt) = subst (AreDealt p plies) (sym is) dealt

-- they keep them
pub lent-dealt : (p : Position) (n plies : ℕ) (lent ts rest : List Share) (many : ℕ) → length lent ≡ many → HaveCounted n lent ts → AreDealt p plies lent → AreDealt p plies (take many (ts ++ rest))
lent-dealt p n plies lent ts rest many long did dealt =
    subst (AreDealt p plies) (sym (take_at ts rest many (counted-many n lent ts did ∙ long))) (counted-dealt p n plies lent ts did dealt)
