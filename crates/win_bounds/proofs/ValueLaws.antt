-- Far from a win, a position is worth at most 1000 with one ply to search. Far from a loss, it is
-- worth at least -1000.
use Rattle.std.proofs.Common.{◌≡◌, ℕ, Bool, true, false, List, [], ◌∷◌, map, inl, inr, refl, sym, ◌∙◌, ap, subst, arith, ℤ, pos, neg_ℤ, ◌≤ℤ◌, unwrap_or}
use Rattle.std.specs.Prelude.{IsTrue}
use Rattle.std.proofs.lemmas.Int.{ints, clamps}
use Rattle.std.specs.Int.{int_max}
use Rattle.hive_model.specs.declared.pieces.Colour.{Colour}
use Rattle.hive_model.specs.declared.pieces.Colour.TheVariants.{White, Black}
use Rattle.hive_model.specs.declared.places.Move.{Move}
use Rattle.hive_model.specs.Lists.{IsOn}
use Rattle.hive_model.specs.Pieces.{other_side, queen_of}
use Rattle.hive_model.specs.Boards.{Stacks, spot_of, IsBoard}
use Rattle.hive_model.specs.Positions.{Position}
use Rattle.hive_model.specs.Legal.{is_surrounded, state_from, state, moves}
use Rattle.hive_model.specs.Games.{after}
use Rattle.hive_model.specs.Evaluation.{eval}
use Rattle.hive_model.specs.Minimax.{end_value, greatest_from, greatest, value, reply_value}
use Rattle.search_laws.proofs.MinimaxLaws.{eval-within, value-leaf}
use Rattle.win_bounds.specs.FarFromWin.{IsFarFromWin, IsFarFromLoss, is_far_spot, is_home_spot, is_far_from_win, is_far_from_loss}
use Rattle.win_bounds.proofs.TestLaws.{far_from, safe_from}
use Rattle.win_bounds.proofs.MoveLaws.{far_now, far_moves, safe_now, safe_moves}

-- which of the two says that this side's queen is surrounded
abbrev of_side : Colour → Bool → Bool → Bool
of_side White w k = w
of_side Black w k = k

side_is : (p : Position) (c : Colour) → of_side c (is_surrounded p.board White) (is_surrounded p.board Black) ≡ is_surrounded p.board c
side_is p White = refl
side_is p Black = refl

-- if a side's queen is not surrounded, the game has not ended with its loss
no_loss : (w k fresh : Bool) (c : Colour) (d : ℕ) (z : ℤ) → of_side c w k ≡ false → neg_ℤ (pos 1000) ≤ℤ z → neg_ℤ (pos 1000) ≤ℤ unwrap_or (end_value (state_from w k fresh) c d) z
no_loss true true fresh c d z safe low = omega (arith, ints)
no_loss true false fresh White d z safe low = cc
no_loss true false fresh Black d z safe low = omega (arith, ints)
no_loss false true fresh White d z safe low = omega (arith, ints)
no_loss false true fresh Black d z safe low = cc
no_loss false false true c d z safe low = low
no_loss false false false c d z safe low = low

-- if the other side's is not, it has not ended with its win
no_win : (w k fresh : Bool) (c : Colour) (d : ℕ) (z : ℤ) → of_side (other_side c) w k ≡ false → z ≤ℤ pos 1000 → unwrap_or (end_value (state_from w k fresh) c d) z ≤ℤ pos 1000
no_win true true fresh c d z safe high = omega (arith, ints)
no_win true false fresh White d z safe high = omega (arith, ints)
no_win true false fresh Black d z safe high = cc
no_win false true fresh White d z safe high = cc
no_win false true fresh Black d z safe high = omega (arith, ints)
no_win false false true c d z safe high = high
no_win false false false c d z safe high = high

leaf_low : (p : Position) → is_surrounded p.board p.side ≡ false → neg_ℤ (pos 1000) ≤ℤ value p 0
unfolding state
leaf_low p safe =
    let low : neg_ℤ (pos 1000) ≤ℤ unwrap_or (end_value (state p) p.side 0) (eval p) = no_loss _ _ _ p.side 0 (eval p) (side_is p p.side ∙ safe) (eval-within p).low in
    subst (λ z. neg_ℤ (pos 1000) ≤ℤ z) (sym (value-leaf p)) low

-- after a move the other side is on move
reply_high : (p : Position) (m : Move) → is_surrounded (after p m).board (other_side p.side) ≡ false → reply_value p 0 m ≤ℤ pos 1000
unfolding after
reply_high p m safe = let low : neg_ℤ (pos 1000) ≤ℤ value (after p m) 0 = leaf_low (after p m) safe in omega (arith, ints, low)

from_high : (r : Move → ℤ) (ms : List Move) (a : ℤ) → a ≤ℤ pos 1000 → ((m : Move) → IsOn ms m → r m ≤ℤ pos 1000) → greatest_from a (map r ms) ≤ℤ pos 1000
from_high r [] a high each = high
from_high r (m ∷ ms) a high each =
    let first = each m (inl refl) in
    let more : int_max a (r m) ≤ℤ pos 1000 = omega (arith, ints, clamps, high, first) in
    from_high r ms (int_max a (r m)) more (λ n on. each n (inr on))

greatest_high : (r : Move → ℤ) (ms : List Move) → ((m : Move) → IsOn ms m → r m ≤ℤ pos 1000) → greatest (map r ms) ≤ℤ pos 1000
greatest_high r [] each = omega (arith, ints)
greatest_high r (m ∷ ms) each = from_high r ms (r m) (each m (inl refl)) (λ n on. each n (inr on))

pub far_value : (p : Position) → IsBoard p.board → IsFarFromWin p → value p 1 ≤ℤ pos 1000
unfolding value state
far_value p is far =
    no_win (is_surrounded p.board White) (is_surrounded p.board Black) _ p.side 1 (greatest (map (reply_value p 0) (moves p)))
    (side_is p (other_side p.side) ∙ far_now p is far)
    (greatest_high (reply_value p 0) (moves p) (λ m on. reply_high p m (far_moves p is far m on)))

-- The same of a loss

leaf_high : (p : Position) → is_surrounded p.board (other_side p.side) ≡ false → value p 0 ≤ℤ pos 1000
unfolding state
leaf_high p safe =
    let high : unwrap_or (end_value (state p) p.side 0) (eval p) ≤ℤ pos 1000 = no_win _ _ _ p.side 0 (eval p) (side_is p (other_side p.side) ∙ safe) (eval-within p).high in
    subst (λ z. z ≤ℤ pos 1000) (sym (value-leaf p)) high

turned_back : (c : Colour) → other_side (other_side c) ≡ c
turned_back White = refl
turned_back Black = refl

reply_low : (p : Position) (m : Move) → is_surrounded (after p m).board p.side ≡ false → neg_ℤ (pos 1000) ≤ℤ reply_value p 0 m
unfolding after
reply_low p m safe =
    let high : value (after p m) 0 ≤ℤ pos 1000 = leaf_high (after p m) (ap (is_surrounded (after p m).board) (turned_back p.side) ∙ safe) in
    omega (arith, ints, high)

from_low : (xs : List ℤ) (a : ℤ) → neg_ℤ (pos 1000) ≤ℤ a → neg_ℤ (pos 1000) ≤ℤ greatest_from a xs
from_low [] a low = low
from_low (x ∷ xs) a low = let more : neg_ℤ (pos 1000) ≤ℤ int_max a x = omega (arith, ints, clamps, low) in from_low xs (int_max a x) more

greatest_low : (r : Move → ℤ) (ms : List Move) → ((m : Move) → IsOn ms m → neg_ℤ (pos 1000) ≤ℤ r m) → neg_ℤ (pos 1000) ≤ℤ greatest (map r ms)
greatest_low r [] each = omega (arith, ints)
greatest_low r (m ∷ ms) each = from_low (map r ms) (r m) (each m (inl refl))

pub safe_value : (p : Position) → IsBoard p.board → IsFarFromLoss p → neg_ℤ (pos 1000) ≤ℤ value p 1
unfolding value state
safe_value p is far =
    no_loss (is_surrounded p.board White) (is_surrounded p.board Black) _ p.side 1 (greatest (map (reply_value p 0) (moves p)))
    (side_is p p.side ∙ safe_now p is far)
    (greatest_low (reply_value p 0) (moves p) (λ m on. reply_low p m (safe_moves p is far m on)))

pub safe_worth : (p : Position) (b : Stacks) (c : Colour) (far : Bool) → b ≡ p.board → c ≡ p.side → IsBoard b → far ≡ is_home_spot b c (spot_of b (queen_of c)) → IsTrue far → neg_ℤ (pos 1000) ≤ℤ value p 1
safe_worth p b c far same side is told holds =
    let here : far ≡ is_far_from_loss p =
    told ∙ ap (λ (z : Stacks). is_home_spot z c (spot_of z (queen_of c))) same ∙ ap (λ z. is_home_spot p.board z (spot_of p.board (queen_of z))) side in
    safe_value p (subst IsBoard same is) (safe_from p (sym here ∙ holds))

-- what the code finds on the board of the game
pub far_worth : (p : Position) (b : Stacks) (c : Colour) (far : Bool) → b ≡ p.board → c ≡ p.side → IsBoard b → far ≡ is_far_spot b c (spot_of b (queen_of (other_side c))) → IsTrue far → value p 1 ≤ℤ pos 1000
far_worth p b c far same side is told holds =
    let here : far ≡ is_far_from_win p =
    told ∙ ap (λ (z : Stacks). is_far_spot z c (spot_of z (queen_of (other_side c)))) same ∙ ap (λ z. is_far_spot p.board z (spot_of p.board (queen_of (other_side z)))) side in
    far_value p (subst IsBoard same is) (far_from p (sym here ∙ holds))
