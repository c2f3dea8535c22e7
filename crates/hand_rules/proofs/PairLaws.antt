-- Moves listed piece by piece: what the last level holds once the places of one piece more are added.
use Rattle.std.proofs.Common.{◌≡◌, ◌↔◌, ℕ, ◌+◌, ◌<◌, List, [], ◌∷◌, ◌++◌, map, length, inl, inr, refl, sym, ◌∙◌, ap, subst, arith, length-append}
use Rattle.std.specs.Ordering.{nat_cmp, ordering_then}
use Rattle.std.specs.Cmp.{nat_cmp_is}
use Rattle.std.specs.declared.cmp.Ordering.{Ordering}
use Rattle.std.specs.declared.cmp.Ordering.TheVariants.{Less, Equal}
use Rattle.std.proofs.lemmas.Bool.{cases_eq}
use Rattle.std.proofs.lemmas.List.{length-map}
use Rattle.hive_model.specs.declared.places.Place.{Place}
use Rattle.hive_model.specs.declared.places.Move.{Move}
use Rattle.hive_model.specs.declared.places.Move.TheVariants.{Pass, To}
use Rattle.hive_model.specs.Lists.{IsOn, Rises}
use Rattle.hive_model.specs.Places.{place_cmp}
use Rattle.hive_model.specs.PlaceLists.{AreAll}
use Rattle.hive_model.specs.Legal.{move_cmp}
use Rattle.hive_model.specs.Stack.{Levels}
use Rattle.hive_model.proofs.Floods.{on_append, append_left, append_right}
use Rattle.hive_model.proofs.RuleLaws.{on_map}
use Rattle.hand_rules.specs.Listing.{last_level, IsPairBelow, ListsAll, ListsBelow, GainsPlaces}

-- Order

rises_append : {X : Type 0} (R : X → X → Ordering) (xs ys : List X) → Rises R xs → Rises R ys → ((x y : X) → IsOn xs x → IsOn ys y → R x y ≡ Less) → Rises R (xs ++ ys)
rises_append R [] ys h k between = k
rises_append R (x ∷ xs) ys h k between = (
  λ y on. elim (on_append xs ys y on) [ inl here ↦ h.0 y here | inr there ↦ between x y (inl refl) there ],
  rises_append R xs ys h.1 k (λ z y on also. between z y (inr on) also),
)

on_moves : (x : ℕ) (qs : List Place) (m : Move) → IsOn (map (λ q. To x q) qs) m → (q : Place) × IsOn qs q × (m ≡ To x q)
on_moves x [] m on = absurd on
on_moves x (q ∷ qs) m on = elim on [ inl same ↦ (q, inl refl, sym same) | inr later ↦ let r = on_moves x qs m later in (r.0, inr r.1, r.2) ]

same_number : (x : ℕ) → nat_cmp x x ≡ Equal
same_number x = sym (nat_cmp_is x x Equal refl)

less_number : (x y : ℕ) → x < y → nat_cmp x y ≡ Less
less_number x y h = sym (nat_cmp_is x y Less h)

rises_moves : (x : ℕ) (qs : List Place) → Rises place_cmp qs → Rises move_cmp (map (λ q. To x q) qs)
rises_moves x [] h = tt
rises_moves x (q ∷ qs) h = (
  λ m on.
      let r = on_moves x qs m on in
      ap (move_cmp (To x q)) r.2 ∙ ap (λ o. ordering_then o (place_cmp q r.0)) (same_number x) ∙ h.0 r.0 r.1,
  rises_moves x qs h.1,
)

-- The moves of no piece, of one piece more, and of a piece that may go nowhere

module _ (May : ℕ → Place → Type 0) where
  nothing_below : (m : Move) → ¬ IsPairBelow May 0 m
  nothing_below Pass h = h
  nothing_below (To y q) h = let low = h.0 in omega (arith, low)

  module _ (x : ℕ) (xs : List Move) (listed : (m : Move) → IsOn xs m ↔ IsPairBelow May x m) where
    later : (m : Move) → IsPairBelow May x m → IsPairBelow May (x + 1) m
    later Pass h = h
    later (To y q) h = let low = h.0 in (omega (arith, low), h.1)

    still_listed : ((q : Place) → ¬ May x q) → (m : Move) → IsPairBelow May (x + 1) m → IsOn xs m
    still_listed none Pass h = absurd h
    still_listed none (To y q) h = elim (cases_eq y x) [
      | inl same ↦ absurd (none q (subst (λ z. May z q) same h.1))
      | inr other ↦ let low = h.0 in let less : y < x = omega (arith, low, other) in (listed (To y q)).1 (less, h.1)
    ]

    module _ (qs : List Place) (places : AreAll (May x) qs) where
      abbrev more : List Move
      more = xs ++ map (λ q. To x q) qs

      more_sound : (m : Move) → IsOn more m → IsPairBelow May (x + 1) m
      more_sound m on = elim (on_append xs (map (λ q. To x q) qs) m on) [
        | inl old ↦ later m ((listed m).0 old)
        | inr new ↦
            let r = on_moves x qs m new in
            let low : x < x + 1 = omega arith in
            subst (IsPairBelow May (x + 1)) (sym r.2) (low, (places.exact r.0).0 r.1)
      ]

      more_full : (m : Move) → IsPairBelow May (x + 1) m → IsOn more m
      more_full Pass h = absurd h
      more_full (To y q) h = elim (cases_eq y x) [
        | inl same ↦ append_right xs (map (λ q. To x q) qs) (To y q) (subst (λ z. IsOn (map (λ q. To x q) qs) (To z q)) (sym same) (on_map (λ q. To x q) qs q ((places.exact q).1 (subst (λ z. May z q) same h.1))))
        | inr other ↦ let low = h.0 in let less : y < x = omega (arith, low, other) in append_left xs (map (λ q. To x q) qs) (To y q) ((listed (To y q)).1 (less, h.1))
      ]

      more_rises : Rises move_cmp xs → Rises move_cmp more
      more_rises h = rises_append move_cmp xs (map (λ q. To x q) qs) h (rises_moves x qs places.in_order) between
        where
          before : (m : Move) (q : Place) → IsPairBelow May x m → move_cmp m (To x q) ≡ Less
          before Pass q h = absurd h
          before (To y r) q h = ap (λ o. ordering_then o (place_cmp r q)) (less_number y x h.0)

          between : (m n : Move) → IsOn xs m → IsOn (map (λ q. To x q) qs) n → move_cmp m n ≡ Less
          between m n on also = let r = on_moves x qs n also in ap (move_cmp m) r.2 ∙ before m r.0 ((listed m).0 on)

  -- Levels

  pub none_listed : (s : Levels) → last_level s ≡ [] → ListsBelow May 0 s s
  none_listed s none =
      let short = ap length none in
      record {
        all = record {
          listed = λ m. (λ on. absurd (subst (λ ms. IsOn ms m) none on), λ h. absurd (nothing_below m h));
          order = subst (Rises move_cmp) (sym none) tt;
          levels = refl;
          others = refl;
        };
        room = omega (arith, short);
      }

  module _ (x : ℕ) (old now : Levels) (below : ListsBelow May x old now) where
    pub with_piece : (new : Levels) → GainsPlaces (May x) x now new → ListsBelow May (x + 1) old new
    with_piece new gains =
        let xs = last_level now in
        let qs = gains.places in
        let many = length-append xs (map (λ q. To x q) qs) in
        let same = length-map qs (λ q. To x q) in
        let made = ap length gains.added in
        record {
          all = record {
            listed = λ m. (
              λ on. more_sound x xs below.all.listed qs gains.all m (subst (λ ms. IsOn ms m) gains.added on),
              λ h. subst (λ ms. IsOn ms m) (sym gains.added) (more_full x xs below.all.listed qs gains.all m h),
            );
            order = subst (Rises move_cmp) (sym gains.added) (more_rises x xs below.all.listed qs gains.all below.all.order);
            levels = gains.levels ∙ below.all.levels;
            others = gains.others ∙ below.all.others;
          };
          room = omega (arith, made, many, same, gains.few, below.room);
        }

    pub without_piece : ((q : Place) → ¬ May x q) → ListsBelow May (x + 1) old now
    without_piece none = record {
      all = record {
        listed = λ m. (
          λ on. later x (last_level now) below.all.listed m ((below.all.listed m).0 on),
          λ h. still_listed x (last_level now) below.all.listed none m h,
        );
        order = below.all.order;
        levels = below.all.levels;
        others = below.all.others;
      };
      room = omega (arith, below.room);
    }

-- what is listed is listed under each name for the same moves
pub all_named : (Holds Also : Move → Type 0) (old new : Levels) → ((m : Move) → Holds m ↔ Also m) → ListsAll Holds old new → ListsAll Also old new
all_named Holds Also old new same lists = record {
  listed = λ m. (λ on. (same m).0 ((lists.listed m).0 on), λ h. (lists.listed m).1 ((same m).1 h));
  order = lists.order;
  levels = lists.levels;
  others = lists.others;
}
