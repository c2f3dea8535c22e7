-- After a quiet reply the board is worth what it was worth with no piece resting.
use Rattle.std.proofs.Common.{◌≡◌, ◌≢◌, ℕ, zero, suc, ◌+◌, ◌-◌, ◌<◌, Bool, true, false, ◌&&◌, List, [], ◌∷◌, inl, inr, refl, sym, ◌∙◌, ap, subst, arith, if◌then◌else◌, ℤ, pos, neg_ℤ, ◌+ℤ◌, ◌-ℤ◌, ◌*ℤ◌, ◌≤ℤ◌, sum_by, count_by}
use Rattle.std.specs.Prelude.{Option, Some, None, slice_get}
use Rattle.std.proofs.lemmas.Int.{ints}
use Rattle.std.proofs.lemmas.Bool.{false_from_ne_true, ltb-true}
use Rattle.hive_model.specs.declared.pieces.Colour.{Colour}
use Rattle.hive_model.specs.declared.pieces.Colour.TheVariants.{White, Black}
use Rattle.hive_model.specs.declared.pieces.Kind.TheVariants.{Queen}
use Rattle.hive_model.specs.declared.places.Dir.{Dir}
use Rattle.hive_model.specs.declared.places.Place.{Place}
use Rattle.hive_model.specs.declared.places.Spot.{Spot}
use Rattle.hive_model.specs.declared.places.Move.{Move}
use Rattle.hive_model.specs.declared.places.Move.TheVariants.{To}
use Rattle.hive_model.specs.Lists.{IsOn}
use Rattle.hive_model.specs.Pieces.{kind_of, colour_of, is_colour, other_side, queen_of, all_pieces}
use Rattle.hive_model.specs.Places.{IsWithin, dirs, is_place, step}
use Rattle.hive_model.specs.Boards.{Stacks, IsBoard, height_at, spot_of, put, without, without_at}
use Rattle.hive_model.specs.Positions.{Position}
use Rattle.hive_model.specs.Placement.{Placement}
use Rattle.hive_model.specs.Evaluation.{weight_of, is_free_piece, counted, free_weight, round_queen, evaluation, eval}
use Rattle.hive_model.specs.Legal.{is_over, is_surrounded, moves}
use Rattle.hive_model.specs.Games.{after}
use Rattle.hive_model.specs.Minimax.{value, replies, reply_value}
use Rattle.hive_model.proofs.MoveLaws.{legal_moves}
use Rattle.hive_model.proofs.OverLaws.{surrounded_from, from_over}
use Rattle.hive_model.proofs.PlaceLemmas.{is_other_place}
use Rattle.leaf_worth.specs.After.{FreeAfter}
use Rattle.leaf_worth.proofs.SpotsAfter.{free_beside_arc}
use Rattle.leaf_worth.proofs.QueensAfter.{hand_more, hand_open, beside_more, apart_open}
use Rattle.leaf_worth.proofs.ValuesAfter.{value_is}
use Rattle.search_laws.proofs.MinimaxLaws.{value-open}
use Rattle.search_laws.proofs.ReplyLaws.{reply-at, reply-most}
use Rattle.quiet_reply.specs.Quiet.{IsApart, IsQuiet, HasQuietReply, QuietRepliesHold, rest_weight}
use Rattle.quiet_reply.proofs.Resting.{rest_most, other_worth}

-- if the game goes on, no queen is surrounded
open_queen : (p : Position) → is_over p ≡ false → (c : Colour) → is_surrounded p.board c ≡ false
open_queen p going White = false_from_ne_true _ (λ e. let wrong : false ≡ true = sym going ∙ from_over p (inl (surrounded_from p.board White e)) in cc)
open_queen p going Black = false_from_ne_true _ (λ e. let wrong : false ≡ true = sym going ∙ from_over p (inr (surrounded_from p.board Black e)) in cc)

queen_kind : (c : Colour) → kind_of (queen_of c) ≡ Queen
queen_kind White = refl
queen_kind Black = refl

no_place : (s q : Place) → ((d : Dir) → step s d ≢ q) → 0 ≡ count_by (λ d. is_place (step s d) q) dirs
no_place s q apart = sym (ap (λ (f : Dir → Bool). count_by f dirs) (λ i d. is_other_place (step s d) q (apart d) i))

on_index : (ms : List Move) (m : Move) → IsOn ms m → (i : ℕ) × (slice_get ms i ≡ Some m)
on_index [] m on = absurd on
on_index (n ∷ ms) m (inl e) = (0, ap (λ (k : Move). Some k) e)
on_index (n ∷ ms) m (inr on) = let r = on_index ms m on in (suc r.0, r.1)

abbrev weighed : Colour → ℕ → Bool → ℕ
weighed s y t = if is_colour (colour_of y) s && t then weight_of (kind_of y) else 0

module _ (b : Stacks) (is : IsBoard b) (y : ℕ) (q : Place) (low : y < 28) (absent : spot_of b y ≡ None) (no_queen : kind_of y ≢ Queen) (side : Colour) (quiet : IsQuiet b side q) where
  after_quiet : FreeAfter b y q None
  after_quiet = free_beside_arc b is y q low quiet.within absent quiet.may.empty quiet.pair.arc quiet.pair.more (λ d. inl (quiet.pair.ends d))

  other : (c : Colour) → y ≢ queen_of c
  other c e = no_queen (ap kind_of e ∙ queen_kind c)

  apart : (c : Colour) → IsApart b c q
  apart White = quiet.white
  apart Black = quiet.black

  round_same : (c : Colour) → round_queen (put b y q) c ≡ round_queen b c
  round_same c = by (spot_of b (queen_of c)) refl
    where
      by : (o : Option Spot) → spot_of b (queen_of c) ≡ o → round_queen (put b y q) c ≡ round_queen b c
      by None e = let more = hand_more b is y q low quiet.within absent c (other c) e in omega (arith, more)
      by (Some s) e = let more = beside_more b is y q low quiet.within absent c (other c) s e quiet.may.empty 0 (no_place s.place q (apart c s e)) in omega (arith, more)

  still_open : (c : Colour) → is_surrounded b c ≡ false → is_surrounded (put b y q) c ≡ false
  still_open c calm = by (spot_of b (queen_of c)) refl
    where
      by : (o : Option Spot) → spot_of b (queen_of c) ≡ o → is_surrounded (put b y q) c ≡ false
      by None e = hand_open b is y q low quiet.within absent c (other c) e
      by (Some s) e = apart_open b is y q low quiet.within absent c (other c) s e quiet.may.empty 0 (no_place s.place q (apart c s e)) refl calm

  free_same : (c : Colour) → free_weight (put b y q) (Some y) c ≡ free_weight b None c
  free_same c = ap (λ (f : ℕ → ℕ). sum_by f all_pieces) (λ i z. weighed c z (after_quiet z i))

  worth_same : (c : Colour) → evaluation (put b y q) (Some y) c ≡ evaluation b None c
  unfolding evaluation
  worth_same c =
      go (round_queen (put b y q) (other_side c)) (round_queen b (other_side c)) (round_queen (put b y q) c) (round_queen b c)
      (free_weight (put b y q) (Some y) c) (free_weight b None c) (free_weight (put b y q) (Some y) (other_side c)) (free_weight b None (other_side c))
      (round_same (other_side c)) (round_same c) (free_same c) (free_same (other_side c))
    where
      go : (m m' n n' v v' w w' : ℕ) → m ≡ m' → n ≡ n' → v ≡ v' → w ≡ w'
          → (pos 40 *ℤ (pos m -ℤ pos n) +ℤ (pos v -ℤ pos w)) ≡ (pos 40 *ℤ (pos m' -ℤ pos n') +ℤ (pos v' -ℤ pos w'))
      go m m' n n' v v' w w' a b c d = λ i. pos 40 *ℤ (pos (a i) -ℤ pos (b i)) +ℤ (pos (c i) -ℤ pos (d i))

rest_now : (b : Stacks) (s : Colour) (o : Option ℕ) → evaluation b o s ≤ℤ (evaluation b None s +ℤ pos (rest_weight o))
rest_now b s None = omega (arith, ints)
rest_now b s (Some x) = rest_most b x s

module _ (p : Position) (is : IsBoard p.board) (going : is_over p ≡ false) (reply : HasQuietReply p) where
  abbrev y : ℕ
  y = reply.piece

  abbrev q : Place
  q = reply.place

  low : y < 28
  low = ltb-true y 28 reply.brought.is_piece

  absent : spot_of p.board y ≡ None
  absent = reply.brought.next.in_hand.off

  left : without p.board y ≡ p.board
  left = ap (without_at p.board) absent

  calm : (c : Colour) → is_surrounded (put (without p.board y) y q) c ≡ false
  calm c = ap (λ b. is_surrounded (put b y q) c) left ∙ still_open p.board is y q low absent reply.no_queen p.side reply.quiet c (open_queen p going c)

  -- the value of the position after the reply, for the other side
  then_worth : value (after p (To y q)) 0 ≡ neg_ℤ (evaluation p.board None p.side)
  then_worth =
      value_is p y q (calm White) (calm Black) ∙ ap (λ b. evaluation (put b y q) (Some y) (other_side p.side)) left
      ∙ worth_same p.board is y q low absent reply.no_queen p.side reply.quiet (other_side p.side) ∙ other_worth p.board p.side

  listed : IsOn (moves p) (To y q)
  listed = legal_moves p is (To y q) ((λ over. let wrong : false ≡ true = sym going ∙ from_over p over in cc), inl reply.brought)

  pub gains : evaluation p.board None p.side ≤ℤ value p 1
  gains =
      let at = on_index (moves p) (To y q) listed in
      let most = reply-most p 1 at.0 (reply_value p 0 (To y q)) (record { deep = omega arith; open_ = going }) (reply-at (reply_value p 0) (moves p) at.0 (To y q) at.1) in
      let worth_then = then_worth in
      go (value (after p (To y q)) 0) (evaluation p.board None p.side) (value p 1) worth_then most
    where
      go : (v e w : ℤ) → v ≡ neg_ℤ e → neg_ℤ v ≤ℤ w → e ≤ℤ w
      go v e w is most = omega (arith, ints, is, most)

  pub loses_little : value p 0 ≤ℤ (value p 1 +ℤ pos (rest_weight p.rest))
  loses_little = go (value p 0) (eval p) (evaluation p.board None p.side) (value p 1) (rest_weight p.rest) (value-open p going) (rest_now p.board p.side p.rest) gains
    where
      go : (v e f w : ℤ) (n : ℕ) → v ≡ e → e ≤ℤ (f +ℤ pos n) → f ≤ℤ w → v ≤ℤ (w +ℤ pos n)
      go v e f w n is low gain = omega (arith, ints, is, low, gain)

pub quiet_replies : QuietRepliesHold
quiet_replies p is going reply = loses_little p is going reply
