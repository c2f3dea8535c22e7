-- The laws of positions that are alike.
use Rattle.std.proofs.Common.{◌≡◌, ◌↔◌, ℕ, zero, suc, ◌+◌, min, Bool, true, false, cond, List, [], ◌∷◌, ◌⊎◌, inl, inr, refl, sym, ◌∙◌, ap, subst, arith, ℤ, ◌+ℤ◌, ◌%◌, if◌then◌else◌}
use Rattle.std.specs.Prelude.{Option, Some, None, unwrap_or, slice_get, nat_le, nat_eq, ◌&&◌}
use Rattle.std.proofs.lemmas.Int.{ints}
use Rattle.hive_model.specs.declared.pieces.Colour.{Colour}
use Rattle.hive_model.specs.declared.pieces.Colour.TheVariants.{White, Black}
use Rattle.hive_model.specs.declared.places.Place.{Place}
use Rattle.hive_model.specs.declared.places.Move.{Move}
use Rattle.hive_model.specs.declared.places.Move.TheVariants.{Pass, To}
use Rattle.hive_model.specs.Lists.{IsOn}
use Rattle.hive_model.specs.Pieces.{is_colour, other_side}
use Rattle.hive_model.specs.Places.{origin}
use Rattle.hive_model.specs.Boards.{Stacks, stack_found, height_at, put, without, StandsAt, IsBoard}
use Rattle.hive_model.specs.Positions.{Position}
use Rattle.hive_model.specs.Legal.{IsLegal, is_surrounded, state_from, state, moves}
use Rattle.hive_model.specs.Games.{after}
use Rattle.hive_model.proofs.PlaceLemmas.{is_place_itself}
use Rattle.hive_model.proofs.BoardLemmas.{stands_on_top}
use Rattle.hive_model.proofs.OverLaws.{surrounded_from, from_surrounded}
use Rattle.hive_model.proofs.MoveLaws.{moves_legal, legal_moves}
use Rattle.symmetry.specs.Images.{rotated, mirrored, turns, image, shifted, moved_by}
use Rattle.symmetry.specs.Alike.{Alike, move_by, started_state}
use Rattle.symmetry.proofs.Maps.{moved_is}
use Rattle.symmetry.proofs.Boards.{one_to_one, stands, put_image, without_image}
use Rattle.symmetry.proofs.Settled.{no_entries}
use Rattle.symmetry.proofs.Legal.{IsCarried, carried_back, surrounded, legal, legal_back}

-- The origin

turns_origin : (n : ℕ) → turns n origin ≡ origin
turns_origin zero = refl
turns_origin (suc n) = ap rotated (turns_origin n)

pub image_origin : (s : ℕ) → image s origin ≡ origin
image_origin s = ap (turns (s % 6)) (either (nat_le 6 s)) ∙ turns_origin (s % 6)
  where
    either : (b : Bool) → (if b then mirrored origin else origin) ≡ origin
    either true = refl
    either false = refl

pub fixes_origin : (s : ℕ) (t : Place) → t ≡ origin → moved_by s t origin ≡ origin
fixes_origin s t e = ap (shifted t) (image_origin s) ∙ ap (λ z. shifted z origin) e

module _ (p r : Position) (s : ℕ) (t : Place) (is : IsBoard p.board) (js : IsBoard r.board) (h : Alike p r s t) where
  pub carried : IsCarried (moved_by s t) p r
  carried = record {
    map = moved_is s t;
    image = h.board;
    board = is;
    carried = js;
    game_type = h.game_type;
    side = h.side;
    rest = h.rest;
    turn = h.turn;
    fixes = λ none. fixes_origin s t (h.on_empty (no_entries p.board is none));
  }

  pub legal_there : (m : Move) → IsLegal p m → IsLegal r (move_by s t m)
  legal_there Pass k = legal (moved_by s t) p r carried Pass k
  legal_there (To x q) k = legal (moved_by s t) p r carried (To x q) k

  pub legal_here : (m : Move) → IsLegal r (move_by s t m) → IsLegal p m
  legal_here Pass k = legal_back (moved_by s t) p r carried Pass k
  legal_here (To x q) k = legal_back (moved_by s t) p r carried (To x q) k

  pub legal_alike : (m : Move) → IsLegal p m ↔ IsLegal r (move_by s t m)
  legal_alike m = (legal_there m, legal_here m)

  pub listed_alike : (m : Move) → IsOn (moves p) m ↔ IsOn (moves r) (move_by s t m)
  listed_alike m = (λ on. legal_moves r js (move_by s t m) (legal_there m (moves_legal p is m on)), λ on. legal_moves p is m (legal_here m (moves_legal r js (move_by s t m) on)))

  -- the position after a move

  more_turns : (m n k : ℕ) → min m 5 ≡ min n 5 → min (m + k) 5 ≡ min (n + k) 5
  more_turns m n k e = omega (arith, e)

  after_turn : min (r.turn + (if is_colour r.side Black then 1 else 0)) 5 ≡ min (p.turn + (if is_colour p.side Black then 1 else 0)) 5
  after_turn = ap (λ d. min (r.turn + (if is_colour d Black then 1 else 0)) 5) h.side ∙ more_turns r.turn p.turn (if is_colour p.side Black then 1 else 0) h.turn

  not_empty : (b : Stacks) (x : ℕ) (q : Place) → put b x q ≡ [] → t ≡ origin
  not_empty b x q e =
      let here : StandsAt [] x q (height_at b q) = subst (λ c. StandsAt c x q (height_at b q)) e (stands_on_top b x q) in
      nothing_stands (height_at b q) here
    where
      nothing_stands : (n : ℕ) → StandsAt [] x q n → t ≡ origin
      nothing_stands n k = let wrong : ◌≡◌ {A = Option ℕ} None (Some x) = k in absurd (cc)

  pub after_alike : (m : Move) → Alike (after p m) (after r (move_by s t m)) s t
  unfolding after
  after_alike Pass = record { game_type = h.game_type; side = ap other_side h.side; rest = refl; turn = after_turn; board = h.board; on_empty = h.on_empty }
  after_alike (To x q) = record {
    game_type = h.game_type;
    side = ap other_side h.side;
    rest = refl;
    turn = after_turn;
    board = put_image (moved_by s t) (moved_is s t) (without p.board x) (without r.board x) (without_image (moved_by s t) (moved_is s t) p.board r.board h.board is js x) x q;
    on_empty = not_empty (without p.board x) x q;
  }

  -- the state

  same_tests : (a b : Bool) → (a ≡ true → b ≡ true) → (b ≡ true → a ≡ true) → a ≡ b
  same_tests true b there back = sym (there refl)
  same_tests false true there back = back refl
  same_tests false false there back = refl

  same_surrounded : (c : Colour) → is_surrounded p.board c ≡ is_surrounded r.board c
  same_surrounded c = same_tests (is_surrounded p.board c) (is_surrounded r.board c)
      (λ e. from_surrounded r.board c (surrounded (moved_by s t) p r carried c (surrounded_from p.board c e)))
      (λ e. from_surrounded p.board c (surrounded carried.map.back r p (carried_back (moved_by s t) p r carried) c (surrounded_from r.board c e)))

  same_started : (w k f g : Bool) → started_state (state_from w k f) ≡ started_state (state_from w k g)
  same_started true true f g = refl
  same_started true false f g = refl
  same_started false true f g = refl
  same_started false false true true = refl
  same_started false false true false = refl
  same_started false false false true = refl
  same_started false false false false = refl

  pub states_alike : started_state (state p) ≡ started_state (state r)
  unfolding state
  states_alike =
      (λ k. started_state (state_from (same_surrounded White k) (same_surrounded Black k) (nat_eq p.turn 1 && is_colour p.side White)))
      ∙ same_started (is_surrounded r.board White) (is_surrounded r.board Black) (nat_eq p.turn 1 && is_colour p.side White) (nat_eq r.turn 1 && is_colour r.side White)

-- The shift

same_right : (a x y : ℤ) → a +ℤ x ≡ a +ℤ y → x ≡ y
same_right a x y e = omega (arith, ints, e)

same_shift : (p t u : Place) → shifted t p ≡ shifted u p → t ≡ u
same_shift p t u e =
    let one = same_right p.q t.q u.q (ap (λ (z : Place). z.q) e) in
    let two = same_right p.r t.r u.r (ap (λ (z : Place). z.r) e) in
    (λ i. record { q = one i; r = two i })

-- the place of a piece, if it has one
pub someone : (b : Stacks) → IsBoard b → (b ≡ []) ⊎ ((x : ℕ) × (q : Place) × StandsAt b x q 0)
someone [] is = inl refl
someone (e ∷ b) is = inr (first e.1 (ap (λ t. cond t (Some e.1) (stack_found b e.0)) (is_place_itself e.0)))
  where
    first : (xs : List ℕ) → stack_found (e ∷ b) e.0 ≡ Some xs → (x : ℕ) × (q : Place) × StandsAt (e ∷ b) x q 0
    first [] found = absurd (is.stacks e.0 found)
    first (x ∷ xs) found = (x, e.0, ap (λ o. slice_get (unwrap_or o []) 0) found)

pub shift_only : (p r : Position) (s : ℕ) (t u : Place) → IsBoard p.board → IsBoard r.board → Alike p r s t → Alike p r s u → t ≡ u
shift_only p r s t u is js h k = elim (someone p.board is) [
  | inl none ↦ h.on_empty none ∙ sym (k.on_empty none)
  | inr one ↦
      let here = stands (moved_by s t) (moved_is s t) p.board r.board h.board one.0 one.1 0 one.2 in
      let there = stands (moved_by s u) (moved_is s u) p.board r.board k.board one.0 one.1 0 one.2 in
      same_shift (image s one.1) t u (js.once one.0 (moved_by s t one.1) (moved_by s u one.1) 0 0 here there).0
]

-- Moves

pub moves_apart : (s : ℕ) (t : Place) (m n : Move) → move_by s t m ≡ move_by s t n → m ≡ n
moves_apart s t Pass Pass e = refl
moves_apart s t Pass (To y z) e = let wrong : Pass ≡ To y (moved_by s t z) = e in absurd (cc)
moves_apart s t (To x q) Pass e = let wrong : To x (moved_by s t q) ≡ Pass = e in absurd (cc)
moves_apart s t (To x q) (To y z) e =
    let parts : To x (moved_by s t q) ≡ To y (moved_by s t z) = e in
    let piece : x ≡ y = cc in
    let place : moved_by s t q ≡ moved_by s t z = cc in
    let same = one_to_one (moved_by s t) (moved_is s t) q z place in
    (λ i. To (piece i) (same i))

pub moves_images : (s : ℕ) (t : Place) (n : Move) → (m : Move) × (move_by s t m ≡ n)
moves_images s t Pass = (Pass, refl)
moves_images s t (To x q) = let i = moved_is s t in (To x (i.back q), ap (To x) (i.again q))
