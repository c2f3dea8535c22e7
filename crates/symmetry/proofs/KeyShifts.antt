-- The shift between two keys is that of their positions.
use Rattle.std.proofs.Common.{◌≡◌, ℕ, ◌<◌, true, false, [], inl, inr, refl, sym, ◌∙◌, ap, subst, arith, ℤ, ◌+ℤ◌, ◌-ℤ◌}
use Rattle.std.specs.Prelude.{Option, Some, None, option_map, nat_eq}
use Rattle.std.proofs.lemmas.Bool.{eqb-true, eq-eqb, and_parts, and_from}
use Rattle.std.proofs.lemmas.Int.{ints}
use Rattle.hive_model.specs.declared.places.Place.{Place}
use Rattle.hive_model.specs.declared.places.Spot.{Spot}
use Rattle.hive_model.specs.Places.{is_place, origin}
use Rattle.hive_model.specs.Boards.{stack_at, spot_of, StandsAt, IsBoard}
use Rattle.hive_model.specs.Positions.{Position}
use Rattle.hive_model.specs.Keys.{KeyParts, key_of, key, spot_in}
use Rattle.hive_model.proofs.PlaceLemmas.{same_place, is_place_itself}
use Rattle.hive_model.proofs.GetLemmas.{same_somes}
use Rattle.hive_model.proofs.KeyLemmas.{spot_listed, spots_in_plane}
use Rattle.hive_model.proofs.BoardLemmas.{spot_of_stands, stands_spot_of}
use Rattle.symmetry.specs.Images.{image, shifted, moved_by}
use Rattle.symmetry.specs.Alike.{IsImage, Alike}
use Rattle.symmetry.specs.Shifts.{AreInPlane, IsShift, HasSameTurn, between, shift_to, IsAsked, is_taken, AreTaken}
use Rattle.symmetry.proofs.Maps.{moved_is}
use Rattle.symmetry.proofs.Boards.{spot_by, one_to_one, spots}
use Rattle.symmetry.proofs.AlikeLaws.{someone}

pub key_spot : (p : Position) (x : ℕ) → x < 28 → spot_in (key p) x ≡ spot_of p.board x
unfolding key_of
key_spot p x small =
    spot_listed p.board x small

-- the keys of positions whose boards are boards

pub key_in_plane : (p : Position) → IsBoard p.board → AreInPlane (key p)
unfolding key_of
key_in_plane p is x s small e = spots_in_plane p.board is x s e

-- One spot

taken_by : (s : ℕ) (t : Place) (o u : Option Spot) → is_taken s t o u ≡ true → u ≡ option_map (spot_by (moved_by s t)) o
taken_by s t None None e = refl
taken_by s t None (Some b) e = let wrong : false ≡ true = e in absurd (cc)
taken_by s t (Some a) None e = let wrong : false ≡ true = e in absurd (cc)
taken_by s t (Some a) (Some b) e =
    let parts = and_parts (nat_eq a.level b.level) (is_place (moved_by s t a.place) b.place) e in
    let level = eqb-true a.level b.level parts.0 in
    let place = same_place (moved_by s t a.place) b.place parts.1 in
    (λ i. Some (record { place = sym place i; level = sym level i }))

by_taken : (s : ℕ) (t : Place) (o : Option Spot) → is_taken s t o (option_map (spot_by (moved_by s t)) o) ≡ true
by_taken s t None = refl
by_taken s t (Some a) = and_from _ _ (eq-eqb a.level a.level refl) (is_place_itself (moved_by s t a.place))

added : (a t : ℤ) → (a +ℤ t) -ℤ a ≡ t
added a t = omega (arith, ints)

between_shifted : (t q : Place) → between q (shifted t q) ≡ t
between_shifted t q = λ i. record { q = added q.q t.q i; r = added q.r t.r i }

module _ (p r : Position) (s : ℕ) (is : IsBoard p.board) (js : IsBoard r.board) where
  -- the spots of positions that are alike

  taken : (t : Place) → Alike p r s t → AreTaken s t (key p) (key r)
  taken t h x small =
      ap (λ o. is_taken s t o (spot_in (key r) x)) (key_spot p x small)
      ∙ ap (is_taken s t (spot_of p.board x)) (key_spot r x small ∙ spots (moved_by s t) (moved_is s t) p.board r.board h.board is js x)
      ∙ by_taken s t (spot_of p.board x)

  module _ (t : Place) (all : AreTaken s t (key p) (key r)) where
    abbrev f : Place → Place
    f q = moved_by s t q

    one : (x : ℕ) → x < 28 → spot_of r.board x ≡ option_map (spot_by f) (spot_of p.board x)
    one x small = sym (key_spot r x small) ∙ taken_by s t (spot_in (key p) x) (spot_in (key r) x) (all x small) ∙ ap (option_map (spot_by f)) (key_spot p x small)

    there : (q : Place) (i y : ℕ) → StandsAt p.board y q i → StandsAt r.board y (f q) i
    there q i y h = spot_of_stands r.board y (record { place = f q; level = i }) (one y (is.pieces q i y h) ∙ ap (option_map (spot_by f)) (stands_spot_of p.board is y q i h))

    here : (q : Place) (i y : ℕ) → StandsAt r.board y (f q) i → StandsAt p.board y q i
    here q i y h = from (spot_of p.board y) refl (sym (one y small) ∙ stands_spot_of r.board js y (f q) i h)
      where
        small : y < 28
        small = js.pieces (f q) i y h

        from : (o : Option Spot) → spot_of p.board y ≡ o → option_map (spot_by f) (spot_of p.board y) ≡ Some (record { place = f q; level = i }) → StandsAt p.board y q i
        from None e k = let wrong : ◌≡◌ {A = Option Spot} None (Some (record { place = f q; level = i })) = sym (ap (option_map (spot_by f)) e) ∙ k in absurd (cc)
        from (Some u) e k =
            let same : Some (spot_by f u) ≡ Some (record { place = f q; level = i }) = sym (ap (option_map (spot_by f)) e) ∙ k in
            let spot : spot_by f u ≡ record { place = f q; level = i } = cc in
            let place = one_to_one f (moved_is s t) u.place q (ap (λ (v : Spot). v.place) spot) in
            let level : u.level ≡ i = ap (λ (v : Spot). v.level) spot in
            subst (λ z. StandsAt p.board y z i) place (subst (λ n. StandsAt p.board y u.place n) level (spot_of_stands p.board y u e))

    pub image_from : IsImage f p.board r.board
    image_from q = same_somes (stack_at r.board (f q)) (stack_at p.board q) (λ i y h. here q i y h) (λ i y h. there q i y h)

  -- the shift that is asked for is the one

  asked : (t : Place) → Alike p r s t → (o : Option Place) → IsAsked (key p) (key r) s o → o ≡ Some t
  asked t h o (inl ask) =
      let x = ask.piece in
      let q = image s ask.spot.place in
      let old : spot_of p.board x ≡ Some ask.spot = sym (key_spot p x ask.is_piece) ∙ ask.stands in
      let new : spot_in (key r) x ≡ Some (spot_by (moved_by s t) ask.spot) = key_spot r x ask.is_piece ∙ spots (moved_by s t) (moved_is s t) p.board r.board h.board is js x ∙ ap (option_map (spot_by (moved_by s t))) old in
      ask.shift ∙ ap (shift_to s ask.spot.place) new ∙ ap Some (between_shifted t q)
  asked t h o (inr none) = elim (someone p.board is) [
    | inl empty ↦ none.1 ∙ ap Some (sym (h.on_empty empty))
    | inr some ↦
        let small = is.pieces some.1 0 some.0 some.2 in
        let wrong : ◌≡◌ {A = Option Spot} None (Some (record { place = some.1; level = 0 })) = sym (none.0 some.0 small) ∙ key_spot p some.0 small ∙ stands_spot_of p.board is some.0 some.1 0 some.2 in
        absurd (cc)
  ]

  -- no piece is on an empty board
  asked_empty : (t : Place) → IsAsked (key p) (key r) s (Some t) → p.board ≡ [] → t ≡ origin
  asked_empty t (inl ask) empty =
      let wrong : ◌≡◌ {A = Option Spot} None (Some ask.spot) = sym (ap (λ b. spot_of b ask.piece) empty) ∙ sym (key_spot p ask.piece ask.is_piece) ∙ ask.stands in
      absurd (cc)
  asked_empty t (inr none) empty = let same : Some t ≡ Some origin = none.1 in cc

  alike_from : (t : Place) → HasSameTurn (key p) (key r) → IsAsked (key p) (key r) s (Some t) → AreTaken s t (key p) (key r) → Alike p r s t
  unfolding key_of
  alike_from t turn ask all = record {
    game_type = turn.game_type;
    side = turn.side;
    rest = turn.rest;
    turn = turn.turn;
    board = image_from t all;
    on_empty = asked_empty t ask;
  }

  same_turn : (t : Place) → Alike p r s t → HasSameTurn (key p) (key r)
  unfolding key_of
  same_turn t h = record { game_type = h.game_type; side = h.side; rest = h.rest; turn = h.turn }

-- What `alike` returns

module _ (a b : KeyParts) (s : ℕ) where
  absent : (t : Place) → None ≡ Some t → {P : Type 0} → P
  absent t e = let wrong : None ≡ Some t = e in absurd (cc)

  -- the three facts of positions with these keys that are alike
  module _ (p r : Position) (is : IsBoard p.board) (js : IsBoard r.board) (ea : a ≡ key p) (eb : b ≡ key r) (t : Place) where
    turn_of : Alike p r s t → HasSameTurn a b
    turn_of h = subst (λ k. HasSameTurn k b) (sym ea) (subst (HasSameTurn (key p)) (sym eb) (same_turn p r s is js t h))

    taken_of : Alike p r s t → AreTaken s t a b
    taken_of h = subst (λ k. AreTaken s t k b) (sym ea) (subst (AreTaken s t (key p)) (sym eb) (taken p r s is js t h))

    asked_of : Alike p r s t → (o : Option Place) → IsAsked a b s o → o ≡ Some t
    asked_of h o ask = asked p r s is js t h o (subst (λ k. IsAsked (key p) k s o) eb (subst (λ k. IsAsked k b s o) ea ask))

    alike_of : HasSameTurn a b → IsAsked a b s (Some t) → AreTaken s t a b → Alike p r s t
    alike_of turn ask all = alike_from p r s is js t
        (subst (HasSameTurn (key p)) eb (subst (λ k. HasSameTurn k b) ea turn))
        (subst (λ k. IsAsked (key p) k s (Some t)) eb (subst (λ k. IsAsked k b s (Some t)) ea ask))
        (subst (AreTaken s t (key p)) eb (subst (λ k. AreTaken s t k b) ea all))

  pub first_outside : (¬ AreInPlane a) → IsShift None a b s
  first_outside other p r is js ea eb t = absurd (other (subst AreInPlane (sym ea) (key_in_plane p is)))

  pub second_outside : (¬ AreInPlane b) → IsShift None a b s
  second_outside other p r is js ea eb t = absurd (other (subst AreInPlane (sym eb) (key_in_plane r js)))

  pub other_turn : (¬ HasSameTurn a b) → IsShift None a b s
  other_turn other p r is js ea eb t = (λ e. absent t e, λ h. absurd (other (turn_of p r is js ea eb t h)))

  pub none_asked : IsAsked a b s None → IsShift None a b s
  none_asked ask p r is js ea eb t = (λ e. absent t e, λ h. asked_of p r is js ea eb t h None ask)

  pub not_taken : (u : Place) → IsAsked a b s (Some u) → (¬ AreTaken s u a b) → IsShift None a b s
  not_taken u ask other p r is js ea eb t = (
    λ e. absent t e,
    λ h.
        let same : Some u ≡ Some t = asked_of p r is js ea eb t h (Some u) ask in
        let equal : u ≡ t = cc in
        absurd (other (subst (λ z. AreTaken s z a b) (sym equal) (taken_of p r is js ea eb t h))),
  )

  pub shift_found : (u : Place) → HasSameTurn a b → IsAsked a b s (Some u) → AreTaken s u a b → IsShift (Some u) a b s
  shift_found u turn ask all p r is js ea eb t = (
    λ e. let same : Some u ≡ Some t = e in let equal : u ≡ t = cc in subst (Alike p r s) equal (alike_of p r is js ea eb u turn ask all),
    λ h. asked_of p r is js ea eb t h (Some u) ask,
  )
