-- How many places meet something.
use Rattle.std.proofs.Common.{ℕ, ◌↔◌, [], refl, arith}
use Rattle.hive_model.specs.declared.places.Place.{Place}
use Rattle.hive_model.proofs.PlaceListLaws.{all_same}
use Rattle.bug_moves.specs.Counts.{AreMany}

-- as many places meet what holds of the same places
pub same_many : (P S : Place → Type 0) (n : ℕ) → ((q : Place) → P q ↔ S q) → AreMany P n → AreMany S n
same_many P S n same h = record { places = h.places; all = all_same P S h.places same h.all; few = h.few; many = h.many }

-- none meets what nothing meets
pub none_many : (P : Place → Type 0) → ((q : Place) → ¬ P q) → AreMany P 0
none_many P none = record {
  places = [];
  all = record { in_order = tt; exact = λ q. (λ on. absurd on, λ is. absurd (none q is)) };
  few = omega arith;
  many = refl;
}
