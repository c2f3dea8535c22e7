-- Each kind of legal move of a sound position leaves a sound position.
use Rattle.std.proofs.Common.{◌≡◌, ℕ, ◌+◌, ◌-◌, ◌≤◌, ◌<◌, true, false, ◌⊎◌, inl, inr, refl, sym, ◌∙◌, ap, subst, arith}
use Rattle.std.specs.Prelude.{Option, Some, None, IsTrue, is_some}
use Rattle.std.proofs.lemmas.Bool.{lt-ltb, ltb-true}
use Rattle.std.proofs.lemmas.Int.{ints}
use Rattle.hive_model.specs.declared.pieces.Colour.{Colour}
use Rattle.hive_model.specs.declared.pieces.Colour.TheVariants.{White, Black}
use Rattle.hive_model.specs.declared.places.Place.{Place}
use Rattle.hive_model.specs.declared.places.Spot.{Spot}
use Rattle.hive_model.specs.declared.places.Move.{Move}
use Rattle.hive_model.specs.declared.places.Move.TheVariants.{Pass, To}
use Rattle.hive_model.specs.Pieces.{kind_of, colour_of, other_side, has_kind, OfType}
use Rattle.hive_model.specs.Places.{step, origin, IsWithin}
use Rattle.hive_model.specs.Boards.{Stacks, height_at, is_occupied, spot_of, put, lift, without, without_at, is_in_play, IsBoard, StandsWithin}
use Rattle.hive_model.specs.Hive.{OneHive}
use Rattle.hive_model.specs.Positions.{Position, IsSound}
use Rattle.hive_model.specs.Placement.{HasColour, MayPlace, Placement, has_colour}
use Rattle.hive_model.specs.Throws.{Throw}
use Rattle.hive_model.specs.Legal.{Walk}
use Rattle.hive_model.specs.Games.{after}
use Rattle.hive_model.proofs.ReachLaws.{step_moves}
use Rattle.hive_model.proofs.PlaceLemmas.{is_other_place, widened}
use Rattle.hive_model.proofs.PlacementLaws.{play_or_hand, has_colour_from, from_has_colour}
use Rattle.hive_model.proofs.GetLemmas.{get_within}
use Rattle.hive_model.proofs.BoardLemmas.{stands_occupied, occupied_stands, spot_of_stands}
use Rattle.hive_model.proofs.LiftLemmas.{height_there}
use Rattle.rule_laws.specs.Soundness.{LegalMovesKeepSoundness}
use Rattle.hive_model.proofs.TouchLaws.{Touched, beside, moves_touch}
use Rattle.rule_laws.proofs.Climbing.{Climbs, ends_low}
use Rattle.rule_laws.proofs.Leaves.{Leaves, leaves_hand, leaves_top, on_without}
use Rattle.rule_laws.proofs.Lands.{touched_within, put_within, left_within, stands_play, one_hive_touched, one_hive_first, landed}

-- the position after the move is sound, and its pieces are one place further out at most
abbrev Keeps : Position → ℕ → Move → Type 0
Keeps p n m = IsSound (after p m) × StandsWithin (n + 1) (after p m).board

-- a piece lands on the hive or beside it, or as the first on the origin
abbrev First : Stacks → Place → Type 0
First c q = (q ≡ origin) × ((z : Place) → ¬ IsTrue (is_occupied c z))

abbrev Lands : Stacks → Place → Type 0
Lands c q = Touched c q ⊎ First c q

origin_within : (n : ℕ) → IsWithin n origin
origin_within n = record { q_low = omega (arith, ints); q_high = omega (arith, ints); r_low = omega (arith, ints); r_high = omega (arith, ints) }

lands_within : (n : ℕ) (c : Stacks) (q : Place) → StandsWithin n c → Lands c q → IsWithin (n + 1) q
lands_within n c q w (inl touched) = touched_within n c q w touched
lands_within n c q w (inr first) = subst (IsWithin (n + 1)) (sym first.0) (origin_within (n + 1))

lands_one : (c : Stacks) (x : ℕ) (q : Place) → OneHive c → Lands c q → OneHive (put c x q)
lands_one c x q one (inl touched) = one_hive_touched c x q one touched
lands_one c x q one (inr first) = one_hive_first c x q first.1

lands : (p : Position) (n x : ℕ) (q : Place) → IsSound p → StandsWithin n p.board → n < 9000 → Leaves p.board (without p.board x) x
    → x < 28 → OfType p.game_type x → Lands (without p.board x) q → (0 < height_at (without p.board x) q → Climbs (kind_of x))
    → ((y : ℕ) → y < x → kind_of y ≡ kind_of x → colour_of y ≡ colour_of x → IsTrue (is_in_play p.board y)) → Keeps p n (To x q)
unfolding after
lands p n x q sound w low leaves small of_type on climbs least =
    let out = left_within n p.board (without p.board x) x leaves w in
    let near = lands_within n (without p.board x) q out on in
    let board : n + 1 ≤ 9000 = omega (arith, low) in (
      landed p x q sound leaves small (widened (n + 1) 9000 board q near) of_type (lands_one (without p.board x) x q leaves.one_hive on) climbs least,
      put_within n (without p.board x) x q out near,
    )

-- A pass

passes : (p : Position) (n : ℕ) → IsSound p → StandsWithin n p.board → Keeps p n Pass
unfolding after
passes p n sound w = (
  record {
    board = sound.board;
    of_type = sound.of_type;
    one_hive = sound.one_hive;
    above = sound.above;
    least = sound.least;
    resting = λ x e. let wrong : ◌≡◌ {A = Option ℕ} None (Some x) = e in absurd (cc);
  },
  λ q h. let more : n ≤ n + 1 = omega arith in widened n (n + 1) more q (w q h),
)

-- A placement

has_or_not : (b : Stacks) (c : Colour) → HasColour b c ⊎ (¬ HasColour b c)
has_or_not b c = elim (has_colour b c) as (λ t. has_colour b c ≡ t → HasColour b c ⊎ (¬ HasColour b c)) [
  | true ↦ λ e. inl (has_colour_from b c e)
  | false ↦ λ e. inr (λ h. let wrong : false ≡ true = sym e ∙ from_has_colour b c h in cc)
] refl

one_or_other : (k c : Colour) → (k ≡ c) ⊎ (k ≡ other_side c)
one_or_other White White = inl refl
one_or_other White Black = inr refl
one_or_other Black White = inr refl
one_or_other Black Black = inl refl

-- if neither side has a piece on the board, no place is occupied
none_occupied : (b : Stacks) → IsBoard b → (c : Colour) → (¬ HasColour b c) → (¬ HasColour b (other_side c)) → (z : Place) → ¬ IsTrue (is_occupied b z)
none_occupied b is c own other z h =
    let y = occupied_stands b z h in
    let small = lt-ltb y.0 28 (is.pieces z 0 y.0 y.1) in
    let play = stands_play b is y.0 z 0 y.1 in
    elim (one_or_other (colour_of y.0) c) [
      | inl same ↦ own (record { piece = y.0; is_piece = small; colour = same; in_play = play })
      | inr apart ↦ other (record { piece = y.0; is_piece = small; colour = apart; in_play = play })
    ]

may_place_lands : (b : Stacks) → IsBoard b → (c : Colour) (q : Place) → MayPlace b c q → Lands b q
may_place_lands b is c q h = elim (has_or_not b c) [
  | inl own ↦ let t = (h.on_own own).0 in inl (inr (t.dir, stands_occupied b t.other (step q t.dir) (height_at b (step q t.dir) - 1) t.stands))
  | inr none ↦ elim (has_or_not b (other_side c)) [
    | inl other ↦ inl (inr (h.on_others none other))
    | inr neither ↦ inr (h.on_empty none neither, none_occupied b is c none neither)
  ]
]

places : (p : Position) (n x : ℕ) (q : Place) → IsSound p → StandsWithin n p.board → n < 9000 → Placement p x q → Keeps p n (To x q)
places p n x q sound w low h =
    let hand = h.next.in_hand in
    let same : p.board ≡ without p.board x = sym (ap (without_at p.board) hand.off) in
    let empty : height_at (without p.board x) q ≡ 0 = subst (λ c. height_at c q ≡ 0) same h.place.empty in
    lands p n x q sound w low (leaves_hand p.board x sound.board sound.one_hive hand.off) (ltb-true _ _ h.is_piece) hand.of_type
    (subst (λ c. Lands c q) same (may_place_lands p.board sound.board p.side q h.place))
    (λ high. absurd (omega (arith, high, empty)))
    (λ y less kind colour. elim (play_or_hand (spot_of p.board y)) [
      | inl play ↦ play
      | inr off ↦ absurd (h.next.least y less kind colour (record { of_type = ap (has_kind p.game_type) kind ∙ hand.of_type; off = off }))
    ])

-- A move of a piece on top, by its own way or thrown

moves_top : (p : Position) (n x : ℕ) (q : Place) → IsSound p → StandsWithin n p.board → n < 9000 → (s : Spot) → spot_of p.board x ≡ Some s → s.level + 1 ≡ height_at p.board s.place
    → Leaves p.board (without p.board x) x → Touched (lift p.board x) q → (height_at (lift p.board x) q ≡ 0) ⊎ Climbs (kind_of x) → Keeps p n (To x q)
moves_top p n x q sound w low s stands top leaves touched climbs =
    lands p n x q sound w low leaves (sound.board.pieces s.place s.level x (spot_of_stands p.board x s stands)) (sound.of_type x (ap is_some stands))
    (inl (on_without p.board x s (λ c. Touched c q) stands top touched))
    (on_without p.board x s (λ c. 0 < height_at c q → Climbs (kind_of x)) stands top (λ high. elim climbs [ inl ground ↦ absurd (omega (arith, high, ground)) | inr up ↦ up ]))
    (λ y less kind colour. sound.least x y (ap is_some stands) less kind colour)

walks : (p : Position) (n x : ℕ) (q : Place) → IsSound p → StandsWithin n p.board → n < 9000 → Walk p x q → Keeps p n (To x q)
walks p n x q sound w low h =
    moves_top p n x q sound w low h.from h.stands h.on_top (leaves_top p.board x h.from sound.board sound.one_hive h.stands h.on_top h.not_cut)
    (moves_touch (kind_of x) (lift p.board x) h.from.place q h.moves) (ends_low (kind_of x) (lift p.board x) h.from.place q h.moves)

throws : (p : Position) (n x : ℕ) (q : Place) → IsSound p → StandsWithin n p.board → n < 9000 → Throw p x q → Keeps p n (To x q)
throws p n x q sound w low h =
    let thrown = h.throws in
    let stands = spot_of_stands p.board x h.from thrown.stands in
    let level = get_within _ h.from.level x stands in
    let alone : height_at p.board h.from.place ≡ 1 = thrown.alone in
    let top : h.from.level + 1 ≡ height_at p.board h.from.place = omega (arith, level, alone) in
    let there = height_there p.board sound.board x h.from.place h.from.level stands (sym top) in
    let over = there h.over.place (is_other_place _ _ (λ e. step_moves h.over.place thrown.beside.0 (thrown.beside.1 ∙ sym e))) in
    let thrower : height_at p.board h.over.place ≡ 1 = h.is_thrower.alone in
    let high : 0 < height_at (lift p.board x) h.over.place = omega (arith, over, thrower) in
    moves_top p n x q sound w low h.from thrown.stands top (leaves_top p.board x h.from sound.board sound.one_hive thrown.stands top thrown.not_cut)
    (beside (lift p.board x) h.over.place q thrown.down.dir thrown.down.leads (lt-ltb _ _ high))
    (inl (there q (is_other_place _ _ (λ e. thrown.other (sym e))) ∙ thrown.empty))

-- The law

pub moves_keep : LegalMovesKeepSoundness
moves_keep p n Pass sound w low legal = passes p n sound w
moves_keep p n (To x q) sound w low legal = elim (legal.1) [
  | inl place ↦ places p n x q sound w low place
  | inr (queen, moved) ↦ elim moved [ inl walk ↦ walks p n x q sound w low walk | inr throw ↦ throws p n x q sound w low throw ]
]
