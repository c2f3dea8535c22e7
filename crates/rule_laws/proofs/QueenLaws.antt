-- While a queen is in hand, and what is near.
use Rattle.std.proofs.Common.{◌≡◌, true, false, ◌∷◌, ◌++◌, inl, inr, refl, sym, ◌∙◌, ap, subst}
use Rattle.std.specs.Prelude.{is_some}
use Rattle.std.specs.List.{flat_map}
use Rattle.hive_model.specs.declared.places.Move.TheVariants.{Pass, To}
use Rattle.hive_model.specs.Lists.{IsOn}
use Rattle.hive_model.specs.Places.{origin, neighbours}
use Rattle.hive_model.specs.Boards.{places_of}
use Rattle.hive_model.specs.Near.{near}
use Rattle.hive_model.proofs.MoveLaws.{moves_legal, pass_alone}
use Rattle.hive_model.proofs.NearLaws.{near_is, near_place, near_neighbour, in_order_has}
use Rattle.rule_laws.specs.Readings.{QueensComeFirst, NearPlacesAreBeside}

pub queens_first : QueensComeFirst
queens_first p is off Pass on = pass_alone p on
queens_first p is off (To x q) on =
    let legal = moves_legal p is (To x q) on in
    elim (legal.1) [
      | inl placed ↦ placed
      | inr moved ↦ let wrong : false ≡ true = sym (ap is_some off) ∙ moved.0 in absurd (cc)
    ]

pub beside_near : NearPlacesAreBeside
beside_near b is q = (
  near_is b is.stacks q,
  λ h. elim h [
    | inl same ↦ subst (IsOn (near b)) (sym same) (in_order_has (origin ∷ places_of b ++ flat_map neighbours (places_of b)) origin (inl refl))
    | inr (p, occupied, how) ↦ elim how [
      | inl here ↦ subst (IsOn (near b)) (sym here) (near_place b p occupied)
      | inr (d, leads) ↦ subst (IsOn (near b)) leads (near_neighbour b p d occupied)
    ]
  ],
)
