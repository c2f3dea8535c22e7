-- Games stand under the rule of third repetition move by move, and all games stand if it is off.
use Rattle.std.proofs.Common.{◌≡◌, Bool, true, false, List, [], ◌∷◌, ◌++◌, ◌⊎◌, inl, inr, refl, sym, ◌∙◌, ap, subst, append_assoc}
use Rattle.std.specs.Prelude.{if◌then◌else◌}
use Rattle.hive_model.specs.declared.places.Move.{Move}
use Rattle.hive_model.specs.Lists.{IsOn}
use Rattle.hive_model.specs.Positions.{Position, opening}
use Rattle.hive_model.specs.Legal.{is_over_state, is_over, or_pass, pairs, moves}
use Rattle.hive_model.specs.Games.{after, replay, AreLegal}
use Rattle.hive_model.specs.Repetition.{outcome_under, StandsMoveByMove, AllStandUnderFalse}

-- if a list ends with one item, a prefix before another item is the whole of the rest or a prefix
-- of it
pub split_last : {X : Type 0} (xs front rest : List X) (x y : X) → xs ++ x ∷ [] ≡ front ++ y ∷ rest → (front ≡ xs) ⊎ ((less : List X) × (xs ≡ front ++ y ∷ less))
split_last [] [] rest x y e = inl refl
split_last [] (f ∷ []) rest x y e = absurd (cc)
split_last [] (f ∷ g ∷ fs) rest x y e = absurd (cc)
split_last (k ∷ ks) [] rest x y e = let same : k ≡ y = cc in inr (ks, ap (λ z. z ∷ ks) same)
split_last (k ∷ ks) (f ∷ fs) rest x y e =
    let same : k ≡ f = cc in
    let tails : ks ++ x ∷ [] ≡ fs ++ y ∷ rest = cc in
    elim (split_last ks fs rest x y tails) [
      | inl whole ↦ inl (λ i. sym same i ∷ whole i)
      | inr part ↦ inr (part.0, λ i. same i ∷ part.1 i)
    ]

pub stands_by_moves : StandsMoveByMove
stands_by_moves r t ms m = (
  λ h. record {
    before = λ front k rest e. h front k (rest ++ m ∷ []) (ap (λ (z : List Move). z ++ m ∷ []) e ∙ append_assoc front (k ∷ rest) (m ∷ []));
    open_yet = h ms m [] refl;
  },
  λ h front k rest e. elim (split_last ms front rest m k e) [
    | inl whole ↦ ap (λ z. is_over_state (outcome_under r t z)) whole ∙ h.open_yet
    | inr part ↦ h.before front k part.0 part.1
  ],
)

-- a game that is over has no moves
pub listed_open : (p : Position) (m : Move) → IsOn (moves p) m → is_over p ≡ false
unfolding moves
listed_open p m on = go (is_over p) refl on
  where
    go : (b : Bool) → is_over p ≡ b → IsOn (if b then [] else or_pass (pairs p)) m → is_over p ≡ false
    go true e h = absurd h
    go false e h = e

pub legal_at : (p : Position) (front rest : List Move) (m : Move) → AreLegal p (front ++ m ∷ rest) → IsOn (moves (replay p front)) m
legal_at p [] rest m h = h.0
legal_at p (k ∷ front) rest m h = legal_at (after p k) front rest m h.1

pub all_stand : AllStandUnderFalse
all_stand t ms legal front m rest e = listed_open (replay (opening t) front) m (legal_at (opening t) front rest m (subst (AreLegal (opening t)) e legal))
