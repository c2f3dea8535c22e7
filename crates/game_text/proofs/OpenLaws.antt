-- No move follows the end of a game under the rule of third repetition: the test on keys, and the
-- games that stand.
use Rattle.std.proofs.Common.{◌≡◌, suc, Bool, true, false, not, ◌&&◌, List, [], ◌∷◌, ◌++◌, ◌⊎◌, inl, inr, length, map, refl, sym, ◌∙◌, ap, subst, append_assoc, append-nil}
use Rattle.std.specs.Prelude.{nat_le, IsTrue}
use Rattle.hive_model.specs.declared.pieces.GameType.{GameType}
use Rattle.hive_model.specs.declared.places.Move.{Move}
use Rattle.hive_model.specs.declared.places.State.{State}
use Rattle.hive_model.specs.declared.places.State.TheVariants.{NotStarted, InProgress, Draw, WhiteWins, BlackWins}
use Rattle.hive_model.specs.Positions.{Position, opening}
use Rattle.hive_model.specs.Legal.{state, is_over_state, is_over}
use Rattle.hive_model.specs.Games.{after, replay, AreLegal}
use Rattle.hive_model.specs.Histories.{is_listed}
use Rattle.hive_model.specs.Keys.{KeyParts, key}
use Rattle.hive_model.specs.Repetition.{positions, keys, times, count_last, ends_as, outcome_under, StandsUnder}
use Rattle.hive_model.proofs.ListedLaws.{listed_on}
use Rattle.hive_model.proofs.SameBoards.{keys_give_times, keys_grow}
use Rattle.hive_model.proofs.StandLaws.{stands_by_moves, listed_open}
use Rattle.game_text.specs.Reading.{is_third, may_follow}

-- The keys after some moves

pub replay_more : (p : Position) (ms : List Move) (m : Move) → replay p (ms ++ m ∷ []) ≡ after (replay p ms) m
replay_more p [] m = refl
replay_more p (k ∷ ms) m = replay_more (after p k) ms m

abbrev pub seen_by : List KeyParts → Position → List Move → List KeyParts
seen_by seen p [] = seen
seen_by seen p (m ∷ ms) = seen_by (seen ++ key (after p m) ∷ []) (after p m) ms

-- the keys and the position of the game that these moves lead to
pub record IsReached (t : GameType) (front : List Move) (seen : List KeyParts) (p : Position) : Type 0 where
  pub seen_is : seen ≡ keys t front
  pub place : p ≡ replay (opening t) front

pub reached_on : (t : GameType) (front : List Move) (seen : List KeyParts) (p : Position) (m : Move) → IsReached t front seen p → IsReached t (front ++ m ∷ []) (seen ++ key (after p m) ∷ []) (after p m)
reached_on t front seen p m h =
    let place : after p m ≡ replay (opening t) (front ++ m ∷ []) = ap (λ z. after z m) h.place ∙ sym (replay_more (opening t) front m) in
    record {
      seen_is = ap (λ (z : List KeyParts). z ++ key (after p m) ∷ []) h.seen_is ∙ ap (λ z. keys t front ++ key z ∷ []) place ∙ sym (keys_grow t front m);
      place = place;
    }

reached_by : (t : GameType) (front : List Move) (seen : List KeyParts) (p : Position) (ms : List Move) → IsReached t front seen p → IsReached t (front ++ ms) (seen_by seen p ms) (replay p ms)
reached_by t front seen p [] h = subst (λ (z : List Move). IsReached t z seen p) (sym (append-nil front)) h
reached_by t front seen p (m ∷ ms) h =
    subst (λ (z : List Move). IsReached t z (seen_by (seen ++ key (after p m) ∷ []) (after p m) ms) (replay (after p m) ms)) (append_assoc front (m ∷ []) ms)
    (reached_by t (front ++ m ∷ []) (seen ++ key (after p m) ∷ []) (after p m) ms (reached_on t front seen p m h))

pub reached_none : (t : GameType) → IsReached t [] (keys t []) (opening t)
reached_none t = record { seen_is = refl; place = refl }

pub reached_all : (t : GameType) (ms : List Move) → IsReached t ms (seen_by (keys t []) (opening t) ms) (replay (opening t) ms)
reached_all t ms = reached_by t [] (keys t []) (opening t) ms (reached_none t)

pub keys_size : (t : GameType) (ms : List Move) → length (keys t ms) ≡ suc (length ms)
unfolding keys
keys_size t ms = go (opening t) ms
  where
    go : (p : Position) (ms : List Move) → length (map key (positions p ms)) ≡ suc (length ms)
    go p [] = refl
    go p (m ∷ ms) = ap suc (go (after p m) ms)

-- The outcome

pub third_is : (r : Bool) (t : GameType) (front : List Move) (seen : List KeyParts) (p : Position) → IsReached t front seen p → is_third r seen ≡ (r && nat_le 3 (times t front))
third_is r t front seen p h = ap (λ z. r && nat_le 3 (count_last z)) h.seen_is ∙ ap (λ n. r && nat_le 3 n) (keys_give_times t front)

pub outcome_is : (r : Bool) (t : GameType) (front : List Move) (seen : List KeyParts) (p : Position) → IsReached t front seen p → ends_as (is_third r seen) (state p) ≡ outcome_under r t front
outcome_is r t front seen p h = ap (λ b. ends_as b (state p)) (third_is r t front seen p h) ∙ ap (λ z. ends_as (r && nat_le 3 (times t front)) (state z)) h.place

third_over : (s : State) → is_over_state (ends_as true s) ≡ true
third_over NotStarted = refl
third_over InProgress = refl
third_over Draw = refl
third_over WhiteWins = refl
third_over BlackWins = refl

pub third_ends : (r : Bool) (t : GameType) (front : List Move) (seen : List KeyParts) (p : Position) → IsReached t front seen p → is_third r seen ≡ true → is_over_state (outcome_under r t front) ≡ true
third_ends r t front seen p h e = ap is_over_state (sym (outcome_is r t front seen p h)) ∙ ap (λ b. is_over_state (ends_as b (state p))) e ∙ third_over (state p)

undrawn : (r : Bool) (t : GameType) (front : List Move) (seen : List KeyParts) (p : Position) → IsReached t front seen p → is_over_state (outcome_under r t front) ≡ false → is_third r seen ≡ false
undrawn r t front seen p h yet = go (is_third r seen) refl
  where
    go : (b : Bool) → is_third r seen ≡ b → is_third r seen ≡ false
    go true e = let wrong = sym (third_ends r t front seen p h e) ∙ yet in absurd (cc)
    go false e = e

not_over : (r : Bool) (t : GameType) (front : List Move) (seen : List KeyParts) (p : Position) → IsReached t front seen p → is_third r seen ≡ false → is_over p ≡ false → is_over_state (outcome_under r t front) ≡ false
not_over r t front seen p h e yet = ap is_over_state (sym (outcome_is r t front seen p h)) ∙ ap (λ b. is_over_state (ends_as b (state p))) e ∙ yet

-- One move

both_parts : (a b : Bool) → (not a && b) ≡ true → (a ≡ false) × (b ≡ true)
both_parts true b e = let wrong : false ≡ true = e in absurd (cc)
both_parts false b e = (refl, e)

pub follows : (r : Bool) (seen : List KeyParts) (p : Position) (m : Move) → may_follow r seen p m ≡ true → (is_third r seen ≡ false) × (is_listed p m ≡ true)
follows r seen p m e = both_parts (is_third r seen) (is_listed p m) e

pub follows_again : (r : Bool) (seen : List KeyParts) (p : Position) (m : Move) → is_third r seen ≡ false → is_listed p m ≡ true → may_follow r seen p m ≡ true
follows_again r seen p m e f = ap (λ b. not b && is_listed p m) e ∙ f

pub drawn_first : (r : Bool) (seen : List KeyParts) (p : Position) (m : Move) → is_third r seen ≡ true → may_follow r seen p m ≡ false
drawn_first r seen p m e = ap (λ b. not b && is_listed p m) e

pub not_listed : (r : Bool) (seen : List KeyParts) (p : Position) (m : Move) → is_listed p m ≡ false → may_follow r seen p m ≡ false
not_listed r seen p m e = go (is_third r seen) refl
  where
    go : (b : Bool) → is_third r seen ≡ b → may_follow r seen p m ≡ false
    go true f = drawn_first r seen p m f
    go false f = ap (λ b. not b && is_listed p m) f ∙ e

pub not_follows : (r : Bool) (seen : List KeyParts) (p : Position) (m : Move) → may_follow r seen p m ≡ false → (is_third r seen ≡ true) ⊎ (is_listed p m ≡ false)
not_follows r seen p m e = go (is_third r seen) refl
  where
    go : (b : Bool) → is_third r seen ≡ b → (is_third r seen ≡ true) ⊎ (is_listed p m ≡ false)
    go true f = inl f
    go false f = inr (sym (ap (λ b. not b && is_listed p m) f) ∙ e)

-- if the game is over, no move follows
pub over_stops : (r : Bool) (t : GameType) (front : List Move) (seen : List KeyParts) (p : Position) (m : Move) → IsReached t front seen p → IsTrue (is_over_state (outcome_under r t front)) → may_follow r seen p m ≡ false
over_stops r t front seen p m h over = go (may_follow r seen p m) refl
  where
    go : (b : Bool) → may_follow r seen p m ≡ b → may_follow r seen p m ≡ false
    go true e =
        let parts = follows r seen p m e in
        let wrong = sym over ∙ not_over r t front seen p h parts.0 (listed_open p m (listed_on p m parts.1)) in
        absurd (cc)
    go false e = e

-- Games that stand

-- before each of the moves the game is not drawn by the rule
abbrev pub AreOpen : Bool → List KeyParts → Position → List Move → Type 0
AreOpen r seen p [] = Unit {0}
AreOpen r seen p (m ∷ ms) = (is_third r seen ≡ false) × AreOpen r (seen ++ key (after p m) ∷ []) (after p m) ms

stands_none : (r : Bool) (t : GameType) → StandsUnder r t []
stands_none r t [] m rest e = absurd (cc)
stands_none r t (k ∷ front) m rest e = absurd (cc)

open_on : (r : Bool) (t : GameType) (front : List Move) (seen : List KeyParts) (p : Position) (ms : List Move) → IsReached t front seen p → StandsUnder r t front → AreLegal p ms → AreOpen r seen p ms → StandsUnder r t (front ++ ms)
open_on r t front seen p [] h stands legal yet = subst (StandsUnder r t) (sym (append-nil front)) stands
open_on r t front seen p (m ∷ ms) h stands legal yet =
    let here = not_over r t front seen p h yet.0 (listed_open p m legal.0) in
    let next = (stands_by_moves r t front m).1 (record { before = stands; open_yet = here }) in
    subst (StandsUnder r t) (append_assoc front (m ∷ []) ms)
    (open_on r t (front ++ m ∷ []) (seen ++ key (after p m) ∷ []) (after p m) ms (reached_on t front seen p m h) next legal.1 yet.1)

on_open : (r : Bool) (t : GameType) (front : List Move) (seen : List KeyParts) (p : Position) (ms : List Move) → IsReached t front seen p → StandsUnder r t (front ++ ms) → AreOpen r seen p ms
on_open r t front seen p [] h stands = tt
on_open r t front seen p (m ∷ ms) h stands = (
  undrawn r t front seen p h (stands front m ms refl),
  on_open r t (front ++ m ∷ []) (seen ++ key (after p m) ∷ []) (after p m) ms (reached_on t front seen p m h) (subst (StandsUnder r t) (sym (append_assoc front (m ∷ []) ms)) stands),
)

pub open_stands : (r : Bool) (t : GameType) (ms : List Move) → AreLegal (opening t) ms → AreOpen r (keys t []) (opening t) ms → StandsUnder r t ms
open_stands r t ms legal yet = open_on r t [] (keys t []) (opening t) ms (reached_none t) (stands_none r t) legal yet

pub stands_open : (r : Bool) (t : GameType) (ms : List Move) → StandsUnder r t ms → AreOpen r (keys t []) (opening t) ms
stands_open r t ms stands = on_open r t [] (keys t []) (opening t) ms (reached_none t) stands
