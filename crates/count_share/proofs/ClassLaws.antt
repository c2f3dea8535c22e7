-- Classes that grow by one move at a time.
use Rattle.std.proofs.Common.{◌≡◌, ℕ, suc, ◌+◌, ◌-◌, ◌*◌, ◌≤◌, ◌<◌, List, [], ◌∷◌, ◌++◌, length, drop, get_or, length-append, inl, inr, ◌⊎◌, refl, sym, ◌∙◌, ap, subst, arith, zero}
use Rattle.std.specs.Prelude.{Option, None, Some, is_some, true, slice_get, slice_set}
use Rattle.std.specs.List.{All, sum_by, slice_index_or}
use Rattle.hive_model.specs.Stack.{Levels, level_of, with_level}
use Rattle.std.proofs.lemmas.Option.{slice_get-get_or, same_Some}
use Rattle.std.proofs.lemmas.List.{drop_all}
use Rattle.std.proofs.lemmas.List.Elements.{All-nil, All-set, All-push}
use Rattle.std.proofs.lemmas.List.Sums.{sum_by-set, sum_by_push}
use Rattle.hive_model.specs.declared.places.Move.{Move}
use Rattle.hive_model.specs.Lists.{IsOn}
use Rattle.hive_model.proofs.GetLemmas.{get_within}
use Rattle.std.proofs.lemmas.Bool.{cases_eq}
use Rattle.hive_model.specs.Positions.{Position, IsSound}
use Rattle.hive_model.specs.Legal.{moves}
use Rattle.hive_model.specs.Games.{IsGame, after}
use Rattle.hive_model.specs.Boards.{StandsWithin}
use Rattle.hive_model.specs.Histories.{History, position, with_move}
use Rattle.hive_model.specs.Keys.{KeyParts, key}
use Rattle.hive_model.specs.Minimax.{lines}
use Rattle.rule_laws.proofs.Games.{games_sound}
use Rattle.search_laws.proofs.HistoryLaws.{position-with_move}
use Rattle.hive_model.specs.declared.places.Place.{Place}
use Rattle.symmetry.specs.Shifts.{IsShift}
use Rattle.symmetry.proofs.LineLaws.{lines_alike}
use Rattle.plain_search.proofs.CountSteps.{lines_after, CountsTo, count-begin, count-step}
use Rattle.count_share.specs.declared.classes.MoveClass.{MoveClass}
use Rattle.count_share.specs.Classes.{AreAlike, AreClasses, HasOneMore, IsClass, IsCovered, lines_by, lines_of}

-- the position after a move that a game goes on with is sound, and its pieces are near
after-sound : (game : History) (m : Move) → IsGame game.game_type (with_move game m).made → length (with_move game m).made ≤ 9000
    → IsSound (after (position game) m) × StandsWithin (length (with_move game m).made) (after (position game) m).board
after-sound game m goes low =
    let sound = games_sound game.game_type (with_move game m).made goes low in
    subst (λ p. IsSound p × StandsWithin (length (with_move game m).made) p.board) (position-with_move game m) sound

-- two moves after which the positions are alike are followed by as many lists
alike-lines : (game : History) (m o : Move) (k : ℕ) → IsGame game.game_type (with_move game m).made → IsGame game.game_type (with_move game o).made
    → length (with_move game m).made ≡ k → length (with_move game o).made ≡ k → k ≤ 5064 → AreAlike (key (after (position game) m)) (key (after (position game) o))
    → (n : ℕ) → n < 8 → lines (after (position game) m) n ≡ lines (after (position game) o) n
alike-lines game m o k first second long longer short alike n low =
    let one = after-sound game m first (omega (arith, long, short)) in
    let two = after-sound game o second (omega (arith, longer, short)) in
    let (s, t, same) = alike (after (position game) m) (after (position game) o) one.0.board two.0.board refl refl in
    lines_alike n (after (position game) m) (after (position game) o) s t k one.0.board two.0.board same
    (subst (λ j. StandsWithin j (after (position game) m).board) long one.1) (subst (λ j. StandsWithin j (after (position game) o).board) longer two.1) (omega (arith, short, low))

-- a shift between two keys makes their positions alike
pub shift-alike : (o : Option Place) (a b : KeyParts) (s : ℕ) → IsShift o a b s → is_some o ≡ true → AreAlike a b
shift-alike None a b s is some = absurd (cc)
shift-alike (Some t) a b s is some = λ p r ip ir ap ar. (s, t, (is p r ip ir ap ar t).0 refl)

-- A class grows, or one more is made

-- what was on a list with another item at one place: itself, or the item in its place
on-set : (cs : List MoveClass) (i : ℕ) (c d e : MoveClass) → i < length cs → c ≡ get_or cs i c → IsOn cs e → IsOn (slice_set cs i d) e ⊎ ((e ≡ c) × IsOn (slice_set cs i d) d)
on-set [] i c d e low is on = absurd on
on-set (x ∷ xs) zero c d e low is (inl same) = inr (sym same ∙ sym is, inl refl)
on-set (x ∷ xs) zero c d e low is (inr rest) = inl (inr rest)
on-set (x ∷ xs) (suc i) c d e low is (inl same) = inl (inl same)
on-set (x ∷ xs) (suc i) c d e low is (inr rest) = elim (on-set xs i c d e (omega (arith, low)) is rest) [ inl on ↦ inl (inr on) | inr (same, on) ↦ inr (same, inr on) ]

set-on : (cs : List MoveClass) (i : ℕ) (d : MoveClass) → i < length cs → IsOn (slice_set cs i d) d
set-on [] i d low = absurd (omega (arith, low))
set-on (x ∷ xs) zero d low = inl refl
set-on (x ∷ xs) (suc i) d low = inr (set-on xs i d (omega (arith, low)))

on-front : (cs : List MoveClass) (d e : MoveClass) → IsOn cs e → IsOn (cs ++ d ∷ []) e
on-front [] d e on = absurd on
on-front (x ∷ xs) d e (inl same) = inl same
on-front (x ∷ xs) d e (inr rest) = inr (on-front xs d e rest)

on-back : (cs : List MoveClass) (d : MoveClass) → IsOn (cs ++ d ∷ []) d
on-back [] d = inl refl
on-back (x ∷ xs) d = inr (on-back xs d)

-- what one entry adds
set-lines : (p : Position) (n i : ℕ) (cs : List MoveClass) (c d : MoveClass) → i < length cs → c ≡ get_or cs i c → d.moved ≡ c.moved → d.weight ≡ c.weight + 1
    → lines_of p n (slice_set cs i d) ≡ lines_of p n cs + lines (after p c.moved) n
set-lines p n i cs c d low is same more =
    let whole = sum_by-set (lines_by p n) cs i d c low in
    let here : lines_by p n (get_or cs i c) ≡ lines_by p n c = ap (lines_by p n) (sym is) in
    let one : lines_by p n d ≡ (c.weight + 1) * lines (after p c.moved) n = (λ j. more j * lines (after p (same j)) n) in
    let split : (c.weight + 1) * lines (after p c.moved) n ≡ c.weight * lines (after p c.moved) n + lines (after p c.moved) n = omega arith in
    omega (arith, whole, here, one, split)

-- The classes of the first moves

-- classes of the first i moves of a game
pub record AreFirst (game : History) (i : ℕ) (cs : List MoveClass) : Type 0 where
  pub classes : All (IsClass game) cs
  pub counts : (n : ℕ) → n < 8 → CountsTo (position game) (n + 1) i (lines_of (position game) n cs)
  pub weights : All (λ c. c.weight ≤ i) cs
  pub covers : (j : ℕ) (m : Move) → j < i → slice_get (moves (position game)) j ≡ Some m → IsCovered (position game) cs m

pub first-none : (game : History) → AreFirst game 0 []
first-none game = record {
  classes = All-nil (IsClass game);
  counts = λ n low. count-begin (position game) (n + 1) (omega arith);
  weights = All-nil (λ c. c.weight ≤ 0);
  covers = λ j m low here. absurd (omega (arith, low));
}

at-on : (ms : List Move) (m : Move) → IsOn ms m → (j : ℕ) × (slice_get ms j ≡ Some m)
at-on [] m on = absurd on
at-on (x ∷ ms) m (inl same) = (zero, ap Some same)
at-on (x ∷ ms) m (inr rest) = let (j, here) = at-on ms m rest in (suc j, here)

below : (j i : ℕ) → j < i + 1 → (j < i) ⊎ (j ≡ i)
below j i low = elim (cases_eq j i) [ inl same ↦ inr same | inr other ↦ inl (omega (arith, low, other)) ]

pub first-more : (game : History) (i : ℕ) (m : Move) (cs ds : List MoveClass) → slice_get (moves (position game)) i ≡ Some m → AreFirst game i cs → HasOneMore game m cs ds → AreFirst game (i + 1) ds
first-more game i m cs ds here so more = record {
  classes = more.classes so.classes;
  counts = λ n low.
      let e : n ≡ n + 1 - 1 = omega arith in
      let step = count-step (position game) (n + 1) i (lines_of (position game) n cs) m (lines (after (position game) m) n) here (ap (lines (after (position game) m)) e) (so.counts n low) in
      subst (CountsTo (position game) (n + 1) (i + 1)) (sym (more.counts so.classes n low)) step;
  weights = more.weights i so.weights;
  covers = λ j n low at. elim (below j i low) [
    | inl less ↦ more.covers n (so.covers j n less at)
    | inr same ↦ subst (IsCovered (position game) ds) (same_Some _ _ (sym here ∙ subst (λ k. slice_get (moves (position game)) k ≡ Some n) same at)) more.added
  ];
}

pub first-all : (game : History) (i : ℕ) (cs : List MoveClass) → length (moves (position game)) ≤ i → AreFirst game i cs → AreClasses (position game) cs
first-all game i cs all so = record {
  legal = λ k d h. (so.classes k d h).legal;
  keyed = λ k d h. (so.classes k d h).keyed;
  covers = λ m on.
      let (j, at) = at-on (moves (position game)) m on in
      so.covers j m (omega (arith, all, get_within (moves (position game)) j m at)) at;
  adds_up = λ n low.
      let whole = so.counts n low in
      let none : drop i (moves (position game)) ≡ [] = drop_all i (moves (position game)) all in
      let nothing : sum_by (lines_after (position game) (n + 1 - 1)) (drop i (moves (position game))) ≡ 0 = ap (sum_by (lines_after (position game) (n + 1 - 1))) none in
      let e : n + 1 ≡ suc n = omega arith in
      omega (arith, whole, nothing) ∙ ap (lines (position game)) e;
}

-- The key of a move is alike to that of a class, which has one move more then.
pub one-more-in : (game : History) (m again : Move) (k : KeyParts) (cs slice : List MoveClass) (i : ℕ) (c : MoveClass) → again ≡ m → k ≡ key (after (position game) again)
    → IsGame game.game_type (with_move game again).made → length game.made + 1 ≤ 5064 → slice ≡ cs → i < length slice → ((c : MoveClass) → slice_get slice i ≡ Some c → AreAlike c.key k)
    → c ≡ get_or cs i c → HasOneMore game m cs (slice_set cs i (record { moved = c.moved; weight = c.weight + 1; key = c.key }))
one-more-in game m again k cs slice i c same keyed goes short lent within like is =
    let low : i < length cs = subst (λ xs. i < length xs) lent within in
    let alike : AreAlike c.key (key (after (position game) m)) =
    subst (AreAlike c.key) (keyed ∙ ap (λ z. key (after (position game) z)) same) (like c (ap (λ xs. slice_get xs i) lent ∙ slice_get-get_or cs i c low ∙ ap Some (sym is))) in
    let d : MoveClass = record { moved = c.moved; weight = c.weight + 1; key = c.key } in
    let next : IsGame game.game_type (with_move game m).made = subst (λ z. IsGame game.game_type (with_move game z).made) same goes in
    record {
      classes = λ all.
          let was : IsClass game c = subst (IsClass game) (sym is) (all i c low) in
          All-set (IsClass game) cs i d (record { legal = was.legal; goes_on = was.goes_on; keyed = was.keyed }) all;
      counts = λ all n few.
          let was : IsClass game c = subst (IsClass game) (sym is) (all i c low) in
          let equal = alike-lines game c.moved m (length game.made + 1) was.goes_on next (length-append game.made (c.moved ∷ [])) (length-append game.made (m ∷ [])) short
          (subst (λ a. AreAlike a (key (after (position game) m))) was.keyed alike) n few in
          set-lines (position game) n i cs c d low is refl refl ∙ ap (λ x. lines_of (position game) n cs + x) equal;
      covers = λ n is_in. elim (on-set cs i c d is_in.class low is is_in.listed) [
        | inl on ↦ record { class = is_in.class; listed = on; like = is_in.like }
        | inr (same_class, on) ↦ record {
          class = d;
          listed = on;
          like = subst (λ (z : MoveClass). (z.moved ≡ n) ⊎ AreAlike z.key (key (after (position game) n))) same_class is_in.like;
        }
      ];
      added = record { class = d; listed = set-on cs i d low; like = inr alike };
      weights = λ w all.
          let was : c.weight ≤ w = subst (λ (z : MoveClass). z.weight ≤ w) (sym is) (all i c low) in
          All-set (λ (z : MoveClass). z.weight ≤ w + 1) cs i d (omega (arith, was)) (λ j e h. let old : (get_or cs j e).weight ≤ w = all j e h in omega (arith, old));
    }

-- the moves of the root, listed on an empty stack
pub listed-root : (s old : Levels) (ms : List Move) → s ≡ with_level old ms → old.lists ≡ [] → level_of s 0 ≡ ms
listed-root s old ms is none = ap (λ t. level_of t 0) is ∙ ap (λ ls. slice_index_or (ls ++ ms ∷ []) 0 []) none

-- A move makes a class of its own.
pub one-more-own : (game : History) (m again : Move) (k : KeyParts) (cs ds : List MoveClass) → again ≡ m → k ≡ key (after (position game) again) → IsOn (moves (position game)) m
    → IsGame game.game_type (with_move game again).made → ds ≡ cs ++ (record { moved = m; weight = 1; key = k }) ∷ [] → HasOneMore game m cs ds
one-more-own game m again k cs ds same keyed legal goes is =
    let d : MoveClass = record { moved = m; weight = 1; key = k } in
    let own : IsClass game d = record {
      legal = legal;
      goes_on = subst (λ z. IsGame game.game_type (with_move game z).made) same goes;
      keyed = keyed ∙ ap (λ z. key (after (position game) z)) same;
    } in
    subst (HasOneMore game m cs) (sym is) (record {
      classes = λ all. All-push (IsClass game) cs d all own;
      counts = λ all n few. let push = sum_by_push (lines_by (position game) n) cs d in omega (arith, push);
      covers = λ n is_in. record { class = is_in.class; listed = on-front cs d is_in.class is_in.listed; like = is_in.like };
      added = record { class = d; listed = on-back cs d; like = inl refl };
      weights = λ w all. All-push (λ (z : MoveClass). z.weight ≤ w + 1) cs d (λ j e h. let old : (get_or cs j e).weight ≤ w = all j e h in omega (arith, old)) (omega arith);
    })
