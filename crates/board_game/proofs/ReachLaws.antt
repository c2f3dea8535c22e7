-- The reach of a piece's moves, and what follows for one of them.
use Rattle.std.proofs.Common.{◌≡◌, ℕ, ◌+◌, ◌≤◌, ◌<◌, List, inl, inr, sym, ◌∙◌, ap, subst, arith, ℤ, ◌≤ℤ◌}
use Rattle.std.specs.Prelude.{Option, Some, None, IfSome, slice_get}
use Rattle.std.specs.Option.{IsSomeAnd}
use Rattle.std.proofs.lemmas.Int.{ints}
use Rattle.hive_model.specs.declared.pieces.Colour.{Colour}
use Rattle.hive_model.specs.declared.places.Place.{Place}
use Rattle.hive_model.specs.declared.places.Move.{Move}
use Rattle.hive_model.specs.declared.places.Move.TheVariants.{To}
use Rattle.hive_model.specs.Lists.{IsOn}
use Rattle.hive_model.specs.Boards.{Stacks, IsBoard, put, spot_of, without}
use Rattle.hive_model.specs.Hive.{OneHive}
use Rattle.hive_model.specs.Legal.{moves}
use Rattle.hive_model.specs.Minimax.{reply_value}
use Rattle.hive_model.specs.Placement.{Placement}
use Rattle.hive_model.specs.Positions.{Position}
use Rattle.hive_model.proofs.MoveLaws.{moves_legal}
use Rattle.leaf_worth.proofs.SpotsAfter.{cases_number}
use Rattle.leaf_bounds.specs.Most.{IsAfar}
use Rattle.board_game.specs.declared.reach.Reach.{Reach}
use Rattle.board_game.specs.Reaches.{Goes, IsReach, IsReachWithout}
use Rattle.board_game.specs.Replayed.{CanMake}

-- a bound for the board without the piece, stated for the whole board
pub reach_whole : (b d : Stacks) (x : ℕ) (side : Colour) (r : Reach) → r.piece ≡ x → d ≡ without b x → IsReachWithout d side r → IsReach b side r
reach_whole b d x side r same left h p on turned q goes =
    let here : without b r.piece ≡ d = ap (without b) same ∙ sym left in
    let there : without p.board r.piece ≡ d = ap (λ c. without c r.piece) on ∙ here in
    let both = h p there turned q goes.within (subst (λ c. OneHive (put c r.piece q)) there goes.one_hive) in
    (both.0, λ afar. both.1 (subst (λ c. IsAfar c side q) here afar))

-- if a bound is at most alpha, the number that it bounds is too
pub no_more : (o : Option ℤ) (alpha beta z : ℤ) → beta ≡ alpha → IsSomeAnd o (λ v. v ≤ℤ beta) → IfSome o (λ v. z ≤ℤ v) → z ≤ℤ alpha
no_more None alpha beta z same few most = absurd few
no_more (Some v) alpha beta z same few most = omega (arith, ints, same, few, most)

-- a legal move of a piece in hand is a placement
placed_from : (p : Position) → IsBoard p.board → (x : ℕ) (q : Place) → IsOn (moves p) (To x q) → spot_of p.board x ≡ None → Placement p x q
placed_from p is x q on hand = elim (moves_legal p is (To x q) on).1 [
  | inl placed ↦ placed
  | inr (queen, moved) ↦ elim moved [
    | inl walk ↦ let wrong : Some walk.from ≡ None = sym walk.stands ∙ hand in absurd (cc)
    | inr throw ↦ let wrong : Some throw.from ≡ None = sym throw.throws.stands ∙ hand in absurd (cc)
  ]
]

-- a legal move that can be made goes to its place in this way
pub goes_so : (p : Position) (b : Stacks) (x : ℕ) (q : Place) → p.board ≡ b → CanMake b (To x q) → IsOn (moves p) (To x q) → Goes p x q
goes_so p b x q same can on =
    let here = subst (λ c. CanMake c (To x q)) (sym same) can in
    record { within = here.3; one_hive = here.8; placed = placed_from p here.0 x q on }

-- a fact about a piece's move, stated for the piece with the same number
pub said_of : (p : Position) (x y : ℕ) (q : Place) (alpha beta : ℤ) → y ≡ x → beta ≡ alpha → (Goes p y q → reply_value p 0 (To y q) ≤ℤ beta) → Goes p x q → reply_value p 0 (To x q) ≤ℤ alpha
said_of p x y q alpha beta same ends h goes =
    subst (λ v. reply_value p 0 (To x q) ≤ℤ v) ends (subst (λ z. reply_value p 0 (To z q) ≤ℤ beta) same (h (subst (λ z. Goes p z q) (sym same) goes)))

-- one more move that is worth no more than a number
pub more_futile : (ms : List Move) (f : Move → ℤ) (alpha beta : ℤ) (low at : ℕ) → beta ≡ alpha → ((i : ℕ) (m : Move) → low ≤ i → i < at → slice_get ms i ≡ Some m → f m ≤ℤ alpha)
    → (m : Move) → slice_get ms at ≡ Some m → f m ≤ℤ beta → (i : ℕ) (n : Move) → low ≤ i → i < at + 1 → slice_get ms i ≡ Some n → f n ≤ℤ alpha
more_futile ms f alpha beta low at ends before m here few i n above below there = elim (cases_number i at) [
  | inl e ↦
      let both : Some m ≡ Some n = sym here ∙ ap (slice_get ms) (sym e) ∙ there in
      let same : m ≡ n = cc in
      subst (λ v. f v ≤ℤ alpha) same (subst (λ v. f m ≤ℤ v) ends few)
  | inr apart ↦ before i n above (omega (arith, below, apart)) there
]
