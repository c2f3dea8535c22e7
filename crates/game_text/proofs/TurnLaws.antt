-- Numbers and turns are read exactly.
use Rattle.std.proofs.Common.{◌≡◌, ◌≢◌, ℕ, ◌≤◌, Bool, true, false, List, [], ◌∷◌, ◌++◌, refl, sym, ◌∙◌, ap, subst, lit<}
use Rattle.std.specs.Prelude.{Option, Some, None, option_map, nat_eq, codes, decimal, if◌then◌else◌}
use Rattle.std.proofs.lemmas.Bool.{eqb-true, eq-eqb}
use Rattle.hive_model.specs.declared.pieces.Colour.{Colour}
use Rattle.hive_model.specs.declared.pieces.Colour.TheVariants.{White, Black}
use Rattle.hive_model.specs.Strings.{turn_bytes, side_name}
use Rattle.move_text.specs.Readers.{number_at}
use Rattle.move_text.proofs.NumberLaws.{number_found, number_again}
use Rattle.game_text.proofs.FieldReads.{none_read}
use Rattle.game_text.specs.declared.turns.DeclaredTurn.{DeclaredTurn}
use Rattle.game_text.specs.Turns.{IsTurn, behind_word, before_close, turn_number, turn_digits, turn_of, or_turn, turn_at}

pub behind_is : (p xs : List ℕ) → behind_word p (p ++ xs) ≡ Some xs
behind_is [] xs = refl
behind_is (b ∷ bs) xs = ap (λ t. if t then behind_word bs (bs ++ xs) else None) (eq-eqb b b refl) ∙ behind_is bs xs

pub is_behind : (p text xs : List ℕ) → behind_word p text ≡ Some xs → text ≡ p ++ xs
is_behind [] text xs h = let same : text ≡ xs = cc in same
is_behind (b ∷ bs) [] xs h = absurd (cc)
is_behind (b ∷ bs) (x ∷ text) xs h = go (nat_eq x b) refl h (λ k. is_behind bs text xs k)
  where
    go : (t : Bool) → nat_eq x b ≡ t → (if t then behind_word bs text else None) ≡ Some xs → (behind_word bs text ≡ Some xs → text ≡ bs ++ xs) → x ∷ text ≡ b ∷ (bs ++ xs)
    go true e k more = let one = eqb-true x b e in let rest = more k in λ i. one i ∷ rest i
    go false e k more = absurd (cc)

close_is : (xs : List ℕ) → before_close (xs ++ 93 ∷ []) ≡ Some xs
close_is [] = refl
close_is (x ∷ []) = refl
close_is (x ∷ y ∷ ys) = ap (option_map (λ (r : List ℕ). x ∷ r)) (close_is (y ∷ ys))

is_close : (text xs : List ℕ) → before_close text ≡ Some xs → text ≡ xs ++ 93 ∷ []
is_close [] xs h = absurd (cc)
is_close (x ∷ []) xs h = go (nat_eq x 93) refl h
  where
    go : (t : Bool) → nat_eq x 93 ≡ t → (if t then Some [] else None) ≡ Some xs → x ∷ [] ≡ xs ++ 93 ∷ []
    go true e k = let none : [] ≡ xs = cc in ap (λ n. n ∷ []) (eqb-true x 93 e) ∙ ap (λ (r : List ℕ). r ++ 93 ∷ []) none
    go false e k = absurd (cc)
is_close (x ∷ y ∷ ys) xs h = go (before_close (y ∷ ys)) refl h (λ r k. is_close (y ∷ ys) r k)
  where
    go : (o : Option (List ℕ)) → before_close (y ∷ ys) ≡ o → option_map (λ (r : List ℕ). x ∷ r) o ≡ Some xs → ((r : List ℕ) → before_close (y ∷ ys) ≡ Some r → y ∷ ys ≡ r ++ 93 ∷ []) → x ∷ (y ∷ ys) ≡ xs ++ 93 ∷ []
    go None e k more = absurd (cc)
    go (Some r) e k more = let same : x ∷ r ≡ xs = cc in ap (λ (z : List ℕ). x ∷ z) (more r e) ∙ ap (λ (z : List ℕ). z ++ 93 ∷ []) same

of_found : (c : Colour) (text rest : List ℕ) (u : DeclaredTurn) → text ≡ side_name c ++ rest → turn_of c (Some rest) ≡ Some u → IsTurn text u
of_found c text rest u split h = go (before_close rest) refl h
  where
    number : (digits : List ℕ) → before_close rest ≡ Some digits → (o : Option ℕ) → number_at digits 1 999999999 ≡ o → turn_number c o ≡ Some u → IsTurn text u
    number digits e None f k = absurd (cc)
    number digits e (Some n) f k =
        let same : ◌≡◌ {A = DeclaredTurn} (record { side = c; number = n }) u = cc in
        let is = number_found digits 1 999999999 n f in
        subst (IsTurn text) same (record { text_is = split ∙ ap (λ (r : List ℕ). side_name c ++ r) (is_close rest digits e ∙ ap (λ (d : List ℕ). d ++ 93 ∷ []) is.digits); low = is.low; high = is.high })

    go : (o : Option (List ℕ)) → before_close rest ≡ o → turn_digits c o ≡ Some u → IsTurn text u
    go None e k = absurd (cc)
    go (Some digits) e k = number digits e (number_at digits 1 999999999) refl k

pub turn_found : (text : List ℕ) (u : DeclaredTurn) → turn_at text ≡ Some u → IsTurn text u
unfolding turn_at
turn_found text u h = go (behind_word (codes "White[") text) (behind_word (codes "Black[") text) refl refl h
  where
    black : (o : Option (List ℕ)) → behind_word (codes "Black[") text ≡ o → turn_of Black o ≡ Some u → IsTurn text u
    black None e k = absurd (cc)
    black (Some rest) e k = of_found Black text rest u (is_behind (codes "Black[") text rest e) k

    white : (rest : List ℕ) → behind_word (codes "White[") text ≡ Some rest → (w : Option DeclaredTurn) → turn_of White (Some rest) ≡ w → (o : Option (List ℕ)) → behind_word (codes "Black[") text ≡ o → or_turn w (turn_of Black o) ≡ Some u → IsTurn text u
    white rest e None f o g k = black o g k
    white rest e (Some w) f o g k = of_found White text rest u (is_behind (codes "White[") text rest e) (f ∙ k)

    go : (p o : Option (List ℕ)) → behind_word (codes "White[") text ≡ p → behind_word (codes "Black[") text ≡ o → or_turn (turn_of White p) (turn_of Black o) ≡ Some u → IsTurn text u
    go None o e g k = black o g k
    go (Some rest) o e g k = white rest e (turn_of White (Some rest)) refl o g k

-- what a side and brackets declare is the number in the brackets
pub turn_is : (c : Colour) (digits : List ℕ) → turn_at (side_name c ++ (digits ++ 93 ∷ [])) ≡ turn_number c (number_at digits 1 999999999)
unfolding turn_at
turn_is White digits =
    ap (λ o. or_turn (turn_of White o) None) (behind_is (codes "White[") (digits ++ 93 ∷ [])) ∙ ap (λ o. or_turn (turn_digits White o) None) (close_is digits)
    ∙ alone (turn_number White (number_at digits 1 999999999))
  where
    alone : (o : Option DeclaredTurn) → or_turn o None ≡ o
    alone None = refl
    alone (Some u) = refl
turn_is Black digits = ap (turn_of Black) (behind_is (codes "Black[") (digits ++ 93 ∷ [])) ∙ ap (turn_digits Black) (close_is digits)

pub turn_again : (c : Colour) (n : ℕ) → 1 ≤ n → n ≤ 999999999 → turn_at (turn_bytes c n) ≡ Some (record { side = c; number = n })
turn_again c n low high = turn_is c (decimal n) ∙ ap (turn_number c) (number_again (decimal n) 1 999999999 n (lit< tt) (record { digits = refl; low = low; high = high }))

-- For the call

-- a text that names no side before brackets declares no turn
pub no_turn : (text : List ℕ) → ((digits : List ℕ) → text ≢ codes "White[" ++ (digits ++ 93 ∷ [])) → ((digits : List ℕ) → text ≢ codes "Black[" ++ (digits ++ 93 ∷ [])) → turn_at text ≡ None
no_turn text white black = none_read turn_at IsTurn turn_found text (λ u is. of_side u.side u.number is.text_is)
  where
    of_side : (c : Colour) (n : ℕ) → text ≡ turn_bytes c n → ⊥
    of_side White n e = white (decimal n) e
    of_side Black n e = black (decimal n) e

pub turn_read : (text digits : List ℕ) (c : Colour) (o : Option ℕ) → text ≡ side_name c ++ (digits ++ 93 ∷ []) → o ≡ number_at digits 1 999999999 → turn_number c o ≡ turn_at text
turn_read text digits c o split e = ap (turn_number c) e ∙ sym (ap turn_at split ∙ turn_is c digits)
