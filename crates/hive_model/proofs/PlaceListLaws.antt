-- Lists of all places of which something holds.
use Rattle.std.proofs.Common.{◌≡◌, ◌↔◌, List, [], sym, subst}
use Rattle.hive_model.specs.declared.places.Place.{Place}
use Rattle.hive_model.specs.Lists.{IsOn, Rises}
use Rattle.hive_model.specs.Places.{place_cmp}
use Rattle.hive_model.specs.PlaceLists.{AreAll}

-- what holds of the same places has the same list
pub all_same : (P S : Place → Type 0) (places : List Place) → ((q : Place) → P q ↔ S q) → AreAll P places → AreAll S places
all_same P S places same h = record {
  in_order = h.in_order;
  exact = λ q. (λ on. (same q).0 ((h.exact q).0 on), λ is. (h.exact q).1 ((same q).1 is));
}

-- what holds of no place has the empty list
pub all_none : (P : Place → Type 0) (places : List Place) → places ≡ [] → ((q : Place) → P q → ⊥) → AreAll P places
all_none P places empty none = record {
  in_order = subst (Rises place_cmp) (sym empty) tt;
  exact = λ q. (λ on. absurd (subst (λ qs. IsOn qs q) empty on), λ is. absurd (none q is));
}
