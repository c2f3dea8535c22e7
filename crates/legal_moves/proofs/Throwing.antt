-- Where a piece is thrown, and how many places a piece of the board can go to.
use Rattle.std.proofs.Common.{◌≡◌, ◌↔◌, ℕ, ◌≤◌, ◌<◌, Bool, true, false, not, ◌||◌, List, [], ◌∷◌, length, ◌⊎◌, inl, inr, refl, sym, ◌∙◌, ap, subst, arith}
use Rattle.std.specs.Prelude.{Option, Some, IsTrue, nat_eq, slice_get}
use Rattle.std.specs.List.{list_all}
use Rattle.std.proofs.lemmas.Bool.{lt-ltb, ltb-true, eqb-true, or_cases, not-true}
use Rattle.hive_model.specs.declared.pieces.Colour.{Colour}
use Rattle.hive_model.specs.declared.pieces.Colour.TheVariants.{White, Black}
use Rattle.hive_model.specs.declared.pieces.Kind.{Kind}
use Rattle.hive_model.specs.declared.pieces.Kind.TheVariants.{Mosquito, Pillbug}
use Rattle.hive_model.specs.declared.places.Place.{Place}
use Rattle.hive_model.specs.declared.places.Spot.{Spot}
use Rattle.hive_model.specs.Lists.{IsOn, Rises}
use Rattle.hive_model.specs.PlaceLists.{AreAll}
use Rattle.hive_model.specs.Pieces.{kind_of, colour_of, is_kind, piece_of, queen_of, all_pieces}
use Rattle.hive_model.specs.Places.{place_cmp}
use Rattle.hive_model.specs.Boards.{Stacks, height_at, spot_of, is_in_play, IsBoard}
use Rattle.hive_model.specs.Near.{near}
use Rattle.hive_model.specs.Positions.{Position}
use Rattle.hive_model.specs.Throws.{IsThrower, ThrowOver, Throw}
use Rattle.hive_model.specs.Legal.{Walk}
use Rattle.hive_model.proofs.PlaceLemmas.{places_total}
use Rattle.hive_model.proofs.PieceLaws.{from_same_kind, on_pieces}
use Rattle.hive_model.proofs.RuleLaws.{all_at}
use Rattle.hive_model.proofs.NearLaws.{near_neighbour, near_place}
use Rattle.hive_model.proofs.LegalLaws.{near_legal, from_legal_pair}
use Rattle.hive_model.proofs.CountLaws.{rising_distinct, distinct_short, near_few}
use Rattle.bug_moves.specs.Counts.{AreMany}
use Rattle.bug_moves.proofs.CountLaws.{none_many, same_many}
use Rattle.pillbug_throws.specs.Throwing.{ThrowsFrom, ThrowsTo, StandsLoose}
use Rattle.legal_moves.specs.declared.turns.Throwers.{Throwers}
use Rattle.legal_moves.specs.Going.{ThrownBy, CanLift, IsThrowable, AreThrowers, IsGoal, AreGoals, HaveRoom, IsMoved}
use Rattle.legal_moves.proofs.Walking.{same_spot, stands_there, moves_apart}

-- Goals

-- a piece has at most 196 places to go to, since its own is near the hive too
pub goals_few : (b : Stacks) → IsBoard b → (x : ℕ) (zs : List Place) → Rises place_cmp zs → ((q : Place) → IsOn zs q → IsGoal b x q) → length zs ≤ 196
goals_few b is x [] rise goals = omega arith
goals_few b is x (z ∷ zs) rise goals =
    let first = goals z (inl refl) in
    let s = first.0 in
    let other : ¬ IsOn (z ∷ zs) s.place = λ on.
    let again = goals s.place on in
    again.3 (ap (λ (t : Spot). t.place) (same_spot (spot_of b x) again.0 s again.1 first.1)) in
    let short = distinct_short (s.place ∷ z ∷ zs) (near b) (other, rising_distinct places_total (z ∷ zs) rise) (λ q on. elim on [
      | inl same ↦ subst (IsOn (near b)) same (near_place b s.place (stands_there b x s first.1))
      | inr later ↦ (goals q later).2
    ]) in
    let few = near_few b is in
    omega (arith, short, few)

pub throw_goal : (b : Stacks) (rest : Option ℕ) (y x : ℕ) (q : Place) → ThrownBy b rest y x q → IsGoal b x q
throw_goal b rest y x q (t, is, (a, h)) =
    let alone = is.alone in
    let long : 0 < height_at b t.place = omega (arith, alone) in
    (a, h.stands, subst (IsOn (near b)) h.down.leads (near_neighbour b t.place h.down.dir (lt-ltb 0 _ long)), h.other)

pub walk_goal : (p : Position) → IsBoard p.board → IsTrue (is_in_play p.board (queen_of p.side)) → (x : ℕ) (q : Place) → Walk p x q → IsGoal p.board x q
walk_goal p is queen x q h = (h.from, h.stands, near_legal p x q is (from_legal_pair p is x q (inr (queen, inl h))), moves_apart _ _ _ _ h.moves)

pub room_for_throws : (b : Stacks) → IsBoard b → (rest : Option ℕ) (y x : ℕ) (xs ps : List Place) → AreGoals b x xs → ((q : Place) → IsOn ps q → ThrownBy b rest y x q) → HaveRoom xs ps
room_for_throws b is rest y x xs ps list thrown zs rise only = goals_few b is x zs rise (λ q on. elim (only q on) [
  | inl old ↦ list.goals q old
  | inr new ↦ throw_goal b rest y x q (thrown q new)
])

pub goals_with_throws : (b : Stacks) (rest : Option ℕ) (y x : ℕ) (xs ys : List Place) → AreGoals b x xs → Rises place_cmp ys → ((q : Place) → IsOn ys q → IsOn xs q ⊎ ThrownBy b rest y x q) → AreGoals b x ys
goals_with_throws b rest y x xs ys list rise only = record {
  in_order = rise;
  goals = λ q on. elim (only q on) [ inl old ↦ list.goals q old | inr new ↦ throw_goal b rest y x q new ];
}

-- Throws by one piece

pub thrown_is : (b : Stacks) (rest : Option ℕ) (y x : ℕ) → (t : Spot) × IsThrower b rest y t → (q : Place) → ThrowsTo b rest y x q ↔ ThrownBy b rest y x q
thrown_is b rest y x (t, is) q = (
  λ h. (t, is, (h.1, subst (λ (u : Spot). ThrowOver b rest u.place x h.1 q) (same_spot (spot_of b y) h.0 t h.2 is.stands) h.3)),
  λ (u, by, (a, h)). (u, a, by.stands, h),
)

-- Who throws

abbrev is_one_of : Kind → ℕ → Bool
is_one_of k y = not (is_kind (kind_of y) k) || nat_eq y (piece_of (colour_of y) k 0)

pillbugs : list_all (is_one_of Pillbug) all_pieces ≡ true
pillbugs = refl

mosquitoes : list_all (is_one_of Mosquito) all_pieces ≡ true
mosquitoes = refl

the_one : (k : Kind) → list_all (is_one_of k) all_pieces ≡ true → (y : ℕ) → y < 28 → kind_of y ≡ k → y ≡ piece_of (colour_of y) k 0
the_one k all y small e = elim (or_cases (not (is_kind (kind_of y) k)) (nat_eq y (piece_of (colour_of y) k 0)) (all_at (is_one_of k) all_pieces y all (on_pieces y small))) [
  | inl other ↦ let wrong : true ≡ false = sym (from_same_kind _ _ e) ∙ not-true _ other in absurd (cc)
  | inr same ↦ eqb-true _ _ same
]

own_pillbug : (c : Colour) → colour_of (piece_of c Pillbug 0) ≡ c
own_pillbug White = refl
own_pillbug Black = refl

own_mosquito : (c : Colour) → colour_of (piece_of c Mosquito 0) ≡ c
own_mosquito White = refl
own_mosquito Black = refl

pub throw_by : (p : Position) (x : ℕ) (q : Place) → Throw p x q → ThrownBy p.board p.rest (piece_of p.side Pillbug 0) x q ⊎ ThrownBy p.board p.rest (piece_of p.side Mosquito 0) x q
throw_by p x q h =
    let small = ltb-true _ _ h.is_thrower.is_piece in
    elim h.is_thrower.can [
      | inl pillbug ↦
          let e = the_one Pillbug pillbugs h.thrower small pillbug ∙ ap (λ c. piece_of c Pillbug 0) h.own in
          inl (subst (λ y. ThrownBy p.board p.rest y x q) e (h.over, h.is_thrower, (h.from, h.throws)))
      | inr mosquito ↦
          let e = the_one Mosquito mosquitoes h.thrower small mosquito.0 ∙ ap (λ c. piece_of c Mosquito 0) h.own in
          inr (subst (λ y. ThrownBy p.board p.rest y x q) e (h.over, h.is_thrower, (h.from, h.throws)))
    ]

thrown_throw : (p : Position) (y x : ℕ) (q : Place) → colour_of y ≡ p.side → ThrownBy p.board p.rest y x q → Throw p x q
thrown_throw p y x q own (t, is, (a, h)) = record { thrower = y; over = t; from = a; own = own; is_thrower = is; throws = h }

pub by_throw : (p : Position) (x : ℕ) (q : Place) → ThrownBy p.board p.rest (piece_of p.side Pillbug 0) x q ⊎ ThrownBy p.board p.rest (piece_of p.side Mosquito 0) x q → Throw p x q
by_throw p x q h = elim h [ inl one ↦ thrown_throw p _ x q (own_pillbug p.side) one | inr two ↦ thrown_throw p _ x q (own_mosquito p.side) two ]

-- In the terms of the code

pub throws_listed : (b : Stacks) (rest r1 r2 : Option ℕ) (y x : ℕ) (items ps : List Place) → r1 ≡ rest → r2 ≡ rest → (t : Spot) × IsThrower b r1 y t → AreAll (ThrowsTo b r2 y x) items → ps ≡ items → (q : Place) → IsOn ps q ↔ ThrownBy b rest y x q
throws_listed b rest r1 r2 y x items ps e1 e2 is places same q =
    let by = subst (λ r. (t : Spot) × IsThrower b r y t) e1 is in
    let law = thrown_is b rest y x by q in (
      λ on. law.0 (subst (λ r. ThrowsTo b r y x q) e2 ((places.exact q).0 (subst (λ zs. IsOn zs q) same on))),
      λ h. subst (λ zs. IsOn zs q) (sym same) ((places.exact q).1 (subst (λ r. ThrowsTo b r y x q) (sym e2) (law.1 h))),
    )

pub both_throw : (p : Position) (x y1 y2 : ℕ) (xs ys zs : List Place) → y1 ≡ piece_of p.side Pillbug 0 → y2 ≡ piece_of p.side Mosquito 0
    → ((q : Place) → IsOn ys q ↔ (IsOn xs q ⊎ ThrownBy p.board p.rest y1 x q)) → ((q : Place) → IsOn zs q ↔ (IsOn ys q ⊎ ThrownBy p.board p.rest y2 x q)) → (q : Place) → IsOn zs q ↔ (IsOn xs q ⊎ Throw p x q)
both_throw p x y1 y2 xs ys zs e1 e2 one two q = (
  λ on. elim ((two q).0 on) [
    | inl before ↦ elim ((one q).0 before) [
      | inl old ↦ inl old
      | inr thrown ↦ inr (by_throw p x q (inl (subst (λ y. ThrownBy p.board p.rest y x q) e1 thrown)))
    ]
    | inr thrown ↦ inr (by_throw p x q (inr (subst (λ y. ThrownBy p.board p.rest y x q) e2 thrown)))
  ],
  λ h. elim h [
    | inl old ↦ (two q).1 (inl ((one q).1 (inl old)))
    | inr throw ↦ elim (throw_by p x q throw) [
      | inl first ↦ (two q).1 (inl ((one q).1 (inr (subst (λ y. ThrownBy p.board p.rest y x q) (sym e1) first))))
      | inr second ↦ (two q).1 (inr (subst (λ y. ThrownBy p.board p.rest y x q) (sym e2) second))
    ]
  ],
)

-- Who can be thrown

module _ (b : Stacks) (rest : Option ℕ) (y x : ℕ) where
  -- a piece that may throw from there lifts what is loose beside it
  pub lifted_from : (o : Spot) → ThrowsFrom b rest y (Some o) → StandsLoose b rest o.place x ↔ CanLift b rest y x
  lifted_from o by = (
    λ loose. (o, by, loose),
    λ (t, is, loose). subst (λ (u : Spot). StandsLoose b rest u.place x) (same_spot (spot_of b y) t o is.stands by.stands) loose,
  )

  -- what is thrown is lifted
  thrown_lifted : (q : Place) → ThrownBy b rest y x q → CanLift b rest y x
  thrown_lifted q (t, is, (a, h)) = (t, is, (a, h.stands, record { alone = h.alone; awake = h.awake; beside = h.beside; not_cut = h.not_cut }))

-- a piece that is not marked beside the throwers can be lifted by nobody
pub not_beside : (p : Position) (t : Throwers) (x : ℕ) → AreThrowers p t → (marked : Bool) → slice_get t.beside x ≡ Some marked → marked ≡ false → ¬ IsThrowable p x
not_beside p t x h marked at none can = let wrong : Some true ≡ Some false = sym (h.lifted x can) ∙ at ∙ ap Some none in let bad : true ≡ false = cc in absurd (cc)

-- what nobody can lift is not thrown
pub no_throw : (p : Position) (x : ℕ) → (¬ IsThrowable p x) → (q : Place) → ¬ Throw p x q
no_throw p x none q h = none (elim (throw_by p x q h) [
  | inl one ↦ inl (thrown_lifted p.board p.rest (piece_of p.side Pillbug 0) x q one)
  | inr two ↦ inr (thrown_lifted p.board p.rest (piece_of p.side Mosquito 0) x q two)
])

-- nothing is moved where the queen is not in play
pub none_moved : (p : Position) (x : ℕ) → is_in_play p.board (queen_of p.side) ≡ false → AreMany (IsMoved p x) 0
none_moved p x out = none_many (IsMoved p x) (λ q h. let wrong : true ≡ false = sym h.0 ∙ out in cc)

-- where nothing is thrown, what is moved walks
pub walks_alone : (p : Position) (x n : ℕ) → is_in_play p.board (queen_of p.side) ≡ true → ((q : Place) → ¬ Throw p x q) → AreMany (Walk p x) n → AreMany (IsMoved p x) n
walks_alone p x n queen none = same_many (Walk p x) (IsMoved p x) n (λ q. (
  λ walk. (queen, inl walk),
  λ h. elim h.1 [ inl walk ↦ walk | inr throw ↦ absurd (none q throw) ],
))

pub walk_goals : (p : Position) → IsBoard p.board → IsTrue (is_in_play p.board (queen_of p.side)) → (x : ℕ) (ys : List Place) → AreAll (Walk p x) ys → AreGoals p.board x ys
walk_goals p is queen x ys walks = record { in_order = walks.in_order; goals = λ q on. walk_goal p is queen x q ((walks.exact q).0 on) }
