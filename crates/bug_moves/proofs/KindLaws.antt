-- A list that gained what a kind's ways lead to is its reach.
use Rattle.std.proofs.Common.{◌≡◌, ◌≢◌, ℕ, Bool, true, List, [], ◌↔◌, ◌⊎◌, inl, inr, sym, ◌∙◌, subst}
use Rattle.std.specs.Prelude.{IsTrue}
use Rattle.hive_model.specs.declared.pieces.Kind.{Kind}
use Rattle.hive_model.specs.declared.pieces.Kind.TheVariants.{Queen, Beetle, Grasshopper, Pillbug, Spider, Ant, Ladybug}
use Rattle.hive_model.specs.declared.places.Place.{Place}
use Rattle.hive_model.specs.PlaceLists.{AreAll}
use Rattle.hive_model.specs.Boards.{Stacks}
use Rattle.hive_model.specs.Reach.{Reach}
use Rattle.hive_model.specs.Steps.{GroundStep}
use Rattle.bug_moves.specs.Adding.{Gains}
use Rattle.bug_moves.specs.Ways.{Toward, BeetleStep, HopAlong, InSome, FirstToward, UpToward}
use Rattle.hive_model.specs.Pieces.{is_kind}
use Rattle.hive_model.proofs.PieceLaws.{same_kind}
use Rattle.bug_moves.specs.Counts.{AreMany}
use Rattle.bug_moves.specs.Walks.{AntWay}
use Rattle.hive_model.proofs.PlaceListLaws.{all_same}
use Rattle.hive_model.proofs.ReachLaws.{ground_moves}
use Rattle.bug_moves.proofs.AtHive.{climb_moves}
use Rattle.bug_moves.proofs.HopLaws.{hop_moves, hop_along, along_hop}
use Rattle.bug_moves.proofs.WayLaws.{three_from_first, first_from_three, over_from_up, up_from_over}
use Rattle.bug_moves.proofs.Gaining.{gained_all}

-- a list that was empty has what a kind reaches where it gained what its ways lead to, and they lead where it reaches
reach_listed : (k j : Kind) (b : Stacks) (p : Place) (S : Place → Type 0) (xs ys : List Place) → k ≡ j → xs ≡ [] → Gains b S xs ys
    → ((q : Place) → S q → Reach j b p q) → ((q : Place) → Reach j b p q → S q) → AreAll (Reach k b p) ys
reach_listed k j b p S xs ys is none h there back =
    subst (λ i. AreAll (Reach i b p) ys) (sym is) (all_same S (Reach j b p) ys (λ q. (there q, back q)) (gained_all b S xs ys none h))

slides : (b : Stacks) (p q : Place) → InSome (Toward (GroundStep b) p) q → (p ≢ q) × GroundStep b p q
slides b p q (_, (_, s)) = (ground_moves b p q s, s)

slid : (b : Stacks) (p q : Place) → (p ≢ q) × GroundStep b p q → InSome (Toward (GroundStep b) p) q
slid b p q (_, s) = (s.dir, (s.leads, s))

pub queens : (k : Kind) (b : Stacks) (p : Place) (xs ys : List Place) → (k ≡ Queen) ⊎ (k ≡ Pillbug) → xs ≡ [] → Gains b (InSome (Toward (GroundStep b) p)) xs ys → AreAll (Reach k b p) ys
queens k b p xs ys is none h = elim is [
  | inl e ↦ reach_listed k Queen b p (InSome (Toward (GroundStep b) p)) xs ys e none h (slides b p) (slid b p)
  | inr e ↦ reach_listed k Pillbug b p (InSome (Toward (GroundStep b) p)) xs ys e none h (slides b p) (slid b p)
]

pub beetles : (k : Kind) (b : Stacks) (p : Place) (xs ys : List Place) → k ≡ Beetle → xs ≡ [] → Gains b (InSome (Toward (BeetleStep b) p)) xs ys → AreAll (Reach k b p) ys
beetles k b p xs ys e none h = reach_listed k Beetle b p (InSome (Toward (BeetleStep b) p)) xs ys e none h
    (λ q (_, (_, s)). ((λ same. elim s [ inl g ↦ ground_moves b p q g same | inr c ↦ climb_moves b p q c same ]), s))
    (λ q (_, s). elim s [ inl g ↦ (g.dir, (g.leads, inl g)) | inr c ↦ (c.dir, (c.leads, inr c)) ])

pub hoppers : (k : Kind) (b : Stacks) (p : Place) (xs ys : List Place) → k ≡ Grasshopper → xs ≡ [] → Gains b (InSome (HopAlong b p)) xs ys → AreAll (Reach k b p) ys
hoppers k b p xs ys e none h = reach_listed k Grasshopper b p (InSome (HopAlong b p)) xs ys e none h
    (λ q (d, s). let hop = hop_along b p d q s in (hop_moves b p q hop, hop)) (λ q (_, r). along_hop b p q r)

pub spiders : (k : Kind) (b : Stacks) (p : Place) (xs ys : List Place) → k ≡ Spider → xs ≡ [] → Gains b (InSome (FirstToward b p)) xs ys → AreAll (Reach k b p) ys
spiders k b p xs ys e none h = reach_listed k Spider b p (InSome (FirstToward b p)) xs ys e none h
    (λ q s. let three = three_from_first b p q s in (three.apart.2, three)) (λ q (_, r). first_from_three b p q r)

pub ants : (k : Kind) (b : Stacks) (p : Place) (xs ys : List Place) → k ≡ Ant → xs ≡ [] → Gains b (AntWay b p) xs ys → AreAll (Reach k b p) ys
ants k b p xs ys e none h = reach_listed k Ant b p (AntWay b p) xs ys e none h (λ q s. s) (λ q r. r)

pub ladybugs : (k : Kind) (b : Stacks) (p : Place) (xs ys : List Place) → k ≡ Ladybug → xs ≡ [] → Gains b (InSome (UpToward b p)) xs ys → AreAll (Reach k b p) ys
ladybugs k b p xs ys e none h = reach_listed k Ladybug b p (InSome (UpToward b p)) xs ys e none h (over_from_up b p) (up_from_over b p)

-- a bug comes to as many places as an ant, if it is one
pub ants_counted : (k : Kind) (b : Stacks) (p : Place) (n : ℕ) (answer : Bool) → answer ≡ is_kind k Ant → answer ≡ true → AreMany (AntWay b p) n → AreMany (Reach k b p) n
ants_counted k b p n answer says is h = subst (λ i. AreMany (Reach i b p) n) (sym (same_kind k Ant (sym says ∙ is))) h

-- A test of one place

as_kind : (k j : Kind) (b : Stacks) (p q : Place) (S : Type 0) {answer : Bool} → k ≡ j → (S → Reach j b p q) → (Reach j b p q → S) → (IsTrue answer ↔ S) → IsTrue answer ↔ Reach k b p q
as_kind k j b p q S {answer} is there back h = subst (λ i. IsTrue answer ↔ Reach i b p q) (sym is) ((λ e. there (h.0 e)), (λ r. h.1 (back r)))

pub queen_reaches : (k : Kind) (b : Stacks) (p q : Place) {answer : Bool} → (k ≡ Queen) ⊎ (k ≡ Pillbug) → (IsTrue answer ↔ GroundStep b p q) → IsTrue answer ↔ Reach k b p q
queen_reaches k b p q is h = elim is [
  | inl e ↦ as_kind k Queen b p q (GroundStep b p q) e (λ s. (ground_moves b p q s, s)) (λ r. r.1) h
  | inr e ↦ as_kind k Pillbug b p q (GroundStep b p q) e (λ s. (ground_moves b p q s, s)) (λ r. r.1) h
]

pub beetle_reaches : (k : Kind) (b : Stacks) (p q : Place) {answer : Bool} → k ≡ Beetle → (IsTrue answer ↔ BeetleStep b p q) → IsTrue answer ↔ Reach k b p q
beetle_reaches k b p q is h = as_kind k Beetle b p q (BeetleStep b p q) is
    (λ s. ((λ same. elim s [ inl g ↦ ground_moves b p q g same | inr c ↦ climb_moves b p q c same ]), s)) (λ r. r.1) h

pub ant_reaches : (k : Kind) (b : Stacks) (p q : Place) {answer : Bool} → k ≡ Ant → (IsTrue answer ↔ AntWay b p q) → IsTrue answer ↔ Reach k b p q
ant_reaches k b p q is h = as_kind k Ant b p q (AntWay b p q) is (λ s. s) (λ r. r) h
