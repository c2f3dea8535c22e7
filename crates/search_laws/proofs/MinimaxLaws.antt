-- Laws of minimax: how its equations apply, and how large its values are.
use Rattle.std.proofs.Common.{◌≡◌, ℕ, zero, suc, ◌+◌, ◌-◌, ◌<◌, ◌≤◌, true, false, cond, List, [], ◌∷◌, length, map, refl, sym, ap, arith, ◌∙◌, ℤ, negsuc, neg_ℤ, ◌≤ℤ◌, int_lt, unwrap_or, Some, None}
use Rattle.std.proofs.lemmas.Int.{ints}
use Rattle.std.specs.Int.{int_max}
use Rattle.search_laws.proofs.LoopLaws.{greatest-start}
use Rattle.hive_model.specs.declared.pieces.Colour.{Colour}
use Rattle.hive_model.specs.declared.pieces.Colour.TheVariants.{White, Black}
use Rattle.hive_model.specs.declared.places.State.{State}
use Rattle.hive_model.specs.declared.places.State.TheVariants.{NotStarted, InProgress, Draw, WhiteWins, BlackWins}
use Rattle.hive_model.specs.declared.places.Move.{Move}
use Rattle.hive_model.specs.Positions.{Position}
use Rattle.search_laws.specs.Laws.{IsSmall}
use Rattle.hive_eval.proofs.SmallLaws.{evaluation-small}
use Rattle.hive_model.specs.Legal.{moves, pairs, or_pass, state, is_over, is_over_state}
use Rattle.hive_model.specs.Games.{after}
use Rattle.hive_model.specs.Evaluation.{eval}
use Rattle.hive_model.specs.Minimax.{IsInner, end_value, greatest_from, greatest, value, reply_value}

-- ---- what the rules give

or_pass-some : (ms : List Move) → 0 < length (or_pass ms)
or_pass-some [] = omega arith
or_pass-some (m ∷ ms) = omega arith

-- if the game is not over there is a move
pub moves-not_over : (p : Position) → is_over p ≡ false → 0 < length (moves p)
unfolding moves
moves-not_over p h = rw h (or_pass-some (pairs p))

pub eval-within : (p : Position) → IsSmall 1000 (eval p)
eval-within p = let k = evaluation-small p.board p.rest p.side in record { low = omega (arith, ints, k.0); high = omega (arith, ints, k.1) }

-- ---- the size of values

pub wider : (m n : ℕ) (z : ℤ) → m ≤ n → IsSmall m z → IsSmall n z
wider m n z h w = record { low = omega (arith, ints); high = omega (arith, ints) }

pub IsSmall-neg : (n : ℕ) (z : ℤ) → IsSmall n z → IsSmall n (neg_ℤ z)
IsSmall-neg n z w = record { low = omega (arith, ints); high = omega (arith, ints) }

end_value-within : (s : State) (c : Colour) (d : ℕ) (z : ℤ) → IsSmall (1000000 + d) z → IsSmall (1000000 + d) (unwrap_or (end_value s c d) z)
end_value-within NotStarted c d z w = w
end_value-within InProgress c d z w = w
end_value-within Draw c d z w = record { low = omega (arith, ints); high = omega (arith, ints) }
end_value-within WhiteWins White d z w = record { low = omega (arith, ints); high = omega (arith, ints) }
end_value-within WhiteWins Black d z w = record { low = omega (arith, ints); high = omega (arith, ints) }
end_value-within BlackWins White d z w = record { low = omega (arith, ints); high = omega (arith, ints) }
end_value-within BlackWins Black d z w = record { low = omega (arith, ints); high = omega (arith, ints) }

int_max-within : (n : ℕ) (a x : ℤ) → IsSmall n a → IsSmall n x → IsSmall n (int_max a x)
int_max-within n a x v w = elim (int_lt x a) as (λ b. IsSmall n (cond b a x)) [ true ↦ v | false ↦ w ]

greatest_from-within : (n : ℕ) (r : Move → ℤ) → ((m : Move) → IsSmall n (r m)) → (a : ℤ) (ms : List Move) → IsSmall n a → IsSmall n (greatest_from a (map r ms))
greatest_from-within n r all a [] w = w
greatest_from-within n r all a (m ∷ ms) w = greatest_from-within n r all (int_max a (r m)) ms (int_max-within n a (r m) w (all m))

greatest-within : (n : ℕ) (r : Move → ℤ) → ((m : Move) → IsSmall n (r m)) → (ms : List Move) → IsSmall n (greatest (map r ms))
greatest-within n r all [] = record { low = omega (arith, ints); high = omega (arith, ints) }
greatest-within n r all (m ∷ ms) = greatest_from-within n r all (r m) ms (all m)

pub value-within : (p : Position) (d : ℕ) → IsSmall (1000000 + d) (value p d)
unfolding value
value-within p zero = end_value-within (state p) p.side 0 (eval p) (wider 1000 (1000000 + 0) (eval p) (omega arith) (eval-within p))
value-within p (suc d) =
    end_value-within (state p) p.side (suc d) _
    (wider (1000000 + d) (1000000 + suc d) _ (omega arith)
    (greatest-within (1000000 + d) (reply_value p d) (λ m. IsSmall-neg _ _ (value-within (after p m) d)) (moves p)))

-- ---- the equations

end_value-open : (s : State) (c : Colour) (d : ℕ) → is_over_state s ≡ false → end_value s c d ≡ None
end_value-open NotStarted c d h = refl
end_value-open InProgress c d h = refl
end_value-open Draw c d h = cc
end_value-open WhiteWins c d h = cc
end_value-open BlackWins c d h = cc

pub value-leaf : (p : Position) → value p 0 ≡ unwrap_or (end_value (state p) p.side 0) (eval p)
unfolding value
value-leaf p = refl

pub value-over : (p : Position) (d : ℕ) (v : ℤ) → end_value (state p) p.side d ≡ Some v → value p d ≡ v
unfolding value
value-over p zero v h = rw h refl
value-over p (suc d) v h = rw h refl

pub value-inner : (p : Position) (d : ℕ) → is_over p ≡ false → value p (suc d) ≡ greatest (map (reply_value p d) (moves p))
unfolding value
value-inner p d h = rw (end_value-open (state p) p.side (suc d) h) refl

-- ---- a leaf, as the code finds it

pub value-at_end : (p : Position) (s : State) (c : Colour) (d : ℕ) (v : ℤ) → s ≡ state p → c ≡ p.side → Some v ≡ end_value s c d → v ≡ value p d
value-at_end p s c d v es ec e = sym (value-over p d v (rw (← es, ← ec) (sym e)))

pub value-at_zero : (p : Position) (s : State) (c : Colour) (d : ℕ) (v : ℤ) → s ≡ state p → c ≡ p.side → None ≡ end_value s c d → d ≡ 0 → v ≡ eval p → v ≡ value p d
value-at_zero p s c d v es ec e z ev =
    let f : end_value (state p) p.side 0 ≡ None = rw (← es, ← ec, ← z) (sym e) in
    rw z (ev ∙ sym (value-leaf p ∙ ap (λ o. unwrap_or o (eval p)) f))

reply-low : (n : ℕ) (z : ℤ) → n ≤ 1000100 → IsSmall n z → negsuc 1000099 ≤ℤ neg_ℤ z
reply-low n z h w = omega (arith, ints)

-- what the loop over all moves begins with
pub value-begin : (p : Position) (d : ℕ) → IsInner p d → d ≤ 64 → greatest_from (negsuc 1000099) (map (reply_value p (d - 1)) (moves p)) ≡ value p d
value-begin p zero inner low = absurd (omega (arith, inner.deep))
value-begin p (suc d) inner low =
    let e : suc d - 1 ≡ d = omega arith in
    let below : (m : Move) → negsuc 1000099 ≤ℤ reply_value p d m = λ m. reply-low (1000000 + d) (value (after p m) d) (omega arith) (value-within (after p m) d) in
    rw e (greatest-start (reply_value p d) (moves p) (negsuc 1000099) below (moves-not_over p inner.open_) ∙ sym (value-inner p d inner.open_))

pub value-fits : (p : Position) (d : ℕ) (v : ℤ) → d ≤ 64 → v ≡ value p d → IsSmall 1000064 v
value-fits p d v low e = rw e (wider (1000000 + d) 1000064 (value p d) (omega arith) (value-within p d))

pub value-greatest : (p : Position) (d : ℕ) → IsInner p d → value p d ≡ greatest (map (reply_value p (d - 1)) (moves p))
value-greatest p zero inner = absurd (omega (arith, inner.deep))
value-greatest p (suc d) inner = let e : suc d - 1 ≡ d = omega arith in rw e (value-inner p d inner.open_)

pub value-open : (p : Position) → is_over p ≡ false → value p 0 ≡ eval p
value-open p h = value-leaf p ∙ ap (λ o. unwrap_or o (eval p)) (end_value-open (state p) p.side 0 h)
