-- What a piece leaves when it lands on the board that it left.
use Rattle.std.proofs.Common.{◌≡◌, ℕ, ◌+◌, ◌≤◌, ◌<◌, true, false, [], ◌∷◌, ◌++◌, length, ◌⊎◌, inl, inr, refl, sym, ◌∙◌, ap, subst, arith, cond, length-append}
use Rattle.std.specs.Prelude.{Some, None, IsTrue, is_some}
use Rattle.std.proofs.lemmas.Bool.{eq-eqb, cases_eq}
use Rattle.hive_model.specs.declared.places.Place.{Place}
use Rattle.hive_model.specs.declared.places.Spot.{Spot}
use Rattle.hive_model.specs.declared.places.Move.TheVariants.{To}
use Rattle.hive_model.specs.Pieces.{kind_of, colour_of, OfType}
use Rattle.hive_model.specs.Places.{step, IsWithin}
use Rattle.hive_model.specs.Boards.{Stacks, is_top_spot, stack_at, height_at, is_occupied, spot_of, put, without, is_in_play, is_on_top, StandsAt, IsBoard, StandsWithin}
use Rattle.hive_model.specs.Hive.{StepOn, OneHive}
use Rattle.hive_model.specs.Positions.{Position, IsSound}
use Rattle.hive_model.specs.Games.{after}
use Rattle.hive_model.proofs.PlaceLemmas.{is_place_itself, widened, step_inside}
use Rattle.hive_model.proofs.Floods.{path_weaker}
use Rattle.hive_model.proofs.BoardLemmas.{stands_occupied, occupied_stands, spot_of_stands, stands_spot_of, stack_at-put, put_stands, stands_put, stands_on_top}
use Rattle.hive_model.proofs.LegalLaws.{opposite, back}
use Rattle.hive_model.proofs.KeepLaws.{board_put, one_hive_put, still, was_or_new}
use Rattle.hive_model.proofs.TouchLaws.{Touched}
use Rattle.rule_laws.proofs.Climbing.{Climbs}
use Rattle.rule_laws.proofs.Leaves.{Leaves}

-- How far out

-- a place beside an occupied one is one further out at most
pub touched_within : (n : ℕ) (c : Stacks) (q : Place) → StandsWithin n c → Touched c q → IsWithin (n + 1) q
touched_within n c q w (inl here) = let low : n ≤ n + 1 = omega arith in widened n (n + 1) low q (w q here)
touched_within n c q w (inr next) = subst (IsWithin (n + 1)) (back q next.0) (step_inside n (n + 1) (omega arith) (step q next.0) (opposite next.0) (w (step q next.0) next.1))

pub put_within : (n : ℕ) (c : Stacks) (x : ℕ) (q : Place) → StandsWithin n c → IsWithin (n + 1) q → StandsWithin (n + 1) (put c x q)
put_within n c x q w near p h = elim (was_or_new c x q p h) [
  | inl old ↦ let low : n ≤ n + 1 = omega arith in widened n (n + 1) low p (w p old)
  | inr new ↦ subst (IsWithin (n + 1)) (sym new) near
]

pub left_within : (n : ℕ) (b c : Stacks) (x : ℕ) → Leaves b c x → StandsWithin n b → StandsWithin n c
left_within n b c x leaves w p h = let y = occupied_stands c p h in w p (stands_occupied b y.0 p 0 (leaves.stood y.0 p 0 y.1))

-- One hive

one_hive_on : (c : Stacks) (x : ℕ) (q : Place) → OneHive c → IsTrue (is_occupied c q) → OneHive (put c x q)
one_hive_on c x q one here p r hp hr =
    let was : (z : Place) → IsTrue (is_occupied (put c x q) z) → IsTrue (is_occupied c z) = (λ z h. elim (was_or_new c x q z h) [
      | inl old ↦ old
      | inr new ↦ subst (λ y. IsTrue (is_occupied c y)) (sym new) here
    ]) in
    let w = one p r (was p hp) (was r hr) in
    (w.0, (hp, path_weaker (StepOn (is_occupied c)) (StepOn (is_occupied (put c x q))) (λ a b s. (s.0, still c x q b s.1)) p w.0 r w.1.1))

-- a piece that lands on the hive or beside it leaves one hive
pub one_hive_touched : (c : Stacks) (x : ℕ) (q : Place) → OneHive c → Touched c q → OneHive (put c x q)
one_hive_touched c x q one (inl here) = one_hive_on c x q one here
one_hive_touched c x q one (inr next) = one_hive_put c x q one next.0 next.1

-- the first piece is one hive
pub one_hive_first : (c : Stacks) (x : ℕ) (q : Place) → ((p : Place) → ¬ IsTrue (is_occupied c p)) → OneHive (put c x q)
one_hive_first c x q none p r hp hr =
    let here : (z : Place) → IsTrue (is_occupied (put c x q) z) → z ≡ q = (λ z h. elim (was_or_new c x q z h) [ inl old ↦ absurd (none z old) | inr new ↦ new ]) in
    ([], (hp, here p hp ∙ sym (here r hr)))

-- In play

pub play_spot : (b : Stacks) (x : ℕ) → IsTrue (is_in_play b x) → (s : Spot) × (spot_of b x ≡ Some s)
play_spot b x h = elim (spot_of b x) as (λ o. spot_of b x ≡ o → is_some o ≡ true → (s : Spot) × (spot_of b x ≡ Some s)) [
  | None ↦ λ _ k. let wrong : false ≡ true = k in absurd (cc)
  | Some s ↦ λ e _. (s, e)
] refl h

pub stands_play : (b : Stacks) → IsBoard b → (x : ℕ) (p : Place) (i : ℕ) → StandsAt b x p i → IsTrue (is_in_play b x)
stands_play b is x p i h = ap is_some (stands_spot_of b is x p i h)

-- The position after a piece has landed

module _ (p : Position) (x : ℕ) (q : Place) (sound : IsSound p) (leaves : Leaves p.board (without p.board x) x) (small : x < 28) (inside : IsWithin 9000 q) where
  landed_board : IsBoard (put (without p.board x) x q)
  landed_board = board_put (without p.board x) x q leaves.board small inside leaves.gone

  landed_play : (y : ℕ) → IsTrue (is_in_play (put (without p.board x) x q) y) → (y ≡ x) ⊎ IsTrue (is_in_play p.board y)
  landed_play y h =
      let s = play_spot (put (without p.board x) x q) y h in
      elim (put_stands (without p.board x) x q y s.0.place s.0.level (spot_of_stands (put (without p.board x) x q) y s.0 s.1)) [
        | inl old ↦ inr (stands_play p.board sound.board y s.0.place s.0.level (leaves.stood y s.0.place s.0.level old))
        | inr new ↦ inl new.0
      ]

  here_play : IsTrue (is_in_play (put (without p.board x) x q) x)
  here_play = stands_play (put (without p.board x) x q) landed_board x q (height_at (without p.board x) q) (stands_on_top (without p.board x) x q)

  still_play : (y : ℕ) → IsTrue (is_in_play p.board y) → IsTrue (is_in_play (put (without p.board x) x q) y)
  still_play y h = elim (cases_eq y x) [
    | inl same ↦ subst (λ z. IsTrue (is_in_play (put (without p.board x) x q) z)) (sym same) here_play
    | inr other ↦
        let s = play_spot p.board y h in
        let left = leaves.stays y s.0.place s.0.level (spot_of_stands p.board y s.0 s.1) other in
        stands_play (put (without p.board x) x q) landed_board y s.0.place s.0.level (stands_put (without p.board x) x q y s.0.place s.0.level left)
  ]

  landed_on_top : IsTrue (is_on_top (put (without p.board x) x q) x)
  landed_on_top =
      let c = without p.board x in
      let spot = stands_spot_of (put c x q) landed_board x q (height_at c q) (stands_on_top c x q) in
      let tall : height_at (put c x q) q ≡ height_at c q + 1 =
      (ap length (stack_at-put c x q q) ∙ ap (λ t. length (cond t (stack_at c q ++ x ∷ []) (stack_at c q))) (is_place_itself q) ∙ length-append (stack_at c q) (x ∷ [])) in
      ap (is_top_spot (put c x q)) spot ∙ eq-eqb (height_at c q + 1) (height_at (put c x q) q) (sym tall)

  pub landed : OfType p.game_type x → OneHive (put (without p.board x) x q) → (0 < height_at (without p.board x) q → Climbs (kind_of x))
      → ((y : ℕ) → y < x → kind_of y ≡ kind_of x → colour_of y ≡ colour_of x → IsTrue (is_in_play p.board y)) → IsSound (after p (To x q))
  unfolding after
  landed of_type one climbs least = record {
    board = landed_board;
    of_type = λ y h. elim (landed_play y h) [ inl same ↦ subst (OfType p.game_type) (sym same) of_type | inr old ↦ sound.of_type y old ];
    one_hive = one;
    above = λ y r level h high. elim (put_stands (without p.board x) x q y r level h) [
      | inl old ↦ sound.above y r level (leaves.stood y r level old) high
      | inr new ↦ let up : 0 < height_at (without p.board x) q = subst (λ n. 0 < n) new.2 high in subst (λ z. Climbs (kind_of z)) (sym new.0) (climbs up)
    ];
    least = λ y z h low k d. still_play z (elim (landed_play y h) [
      | inl same ↦ least z (subst (λ w. z < w) same low) (k ∙ ap kind_of same) (d ∙ ap colour_of same)
      | inr old ↦ sound.least y z old low k d
    ]);
    resting = λ y e. let same : x ≡ y = (let some : Some x ≡ Some y = e in cc) in subst (λ z. IsTrue (is_on_top (put (without p.board x) x q) z)) same landed_on_top;
  }
