-- What code that walks answers, if what is left to the walk is observable.
use Rattle.std.specs.Prelude.{◌≡◌, ℕ, ◌-◌, ◌^◌, min, List, take, drop, ℤ}
use Rattle.hive_model.specs.declared.places.Move.{Move}
use Rattle.hive_model.specs.Positions.{Position}
use Rattle.certificate_walks.specs.Walks.{WalkEnd, Left, Fault, Halt, Step, Below, Ends, Rules}

-- a count of what was taken, capped at the greatest u64
abbrev pub held : ℕ → ℕ
held n = min n (2 ^ 64 - 1)

-- the moves from one place up to another
abbrev pub range_of : List Move → ℕ → ℕ → List Move
range_of ms from to = take (to - from) (drop from ms)

-- How the code ends a part of a walk: everything is shown; or the first fault; or a bad item is in
-- the place of a token; or no more could be read.
pub data Ending (W : Type 0) : Type 0 where
  Shown : Ending W
  Refused : W → Ending W
  BadItem : Ending W
  Unread : Ending W

-- How the code sees a walk. S is what the walk has left, and W are its faults. N is what the code
-- sees: a function of what is left, which holds a count of what was taken.
pub record Sight (S W N : Type 0) : Type 1 where
  pub view : S → N
  pub place : N → ℕ
  -- what holds of a walk that ends like this, if no more could be read when the code saw n
  pub unread : WalkEnd S W → N → Type 0

-- how a part of the walk ends, by its outcome, and what the code then sees
abbrev pub Meets : {S W N : Type 0} → Sight S W N → WalkEnd S W → Ending W → N → Type 0
Meets {S} V o Shown n = (s : S) × (o ≡ Left s) × (n ≡ V.view s)
Meets V o (Refused why) n = (k : ℕ) × (o ≡ Fault why k) × (V.place n ≡ held k)
Meets V o BadItem n = (k : ℕ) × (o ≡ Halt k) × (V.place n ≡ held k)
Meets V o Unread n = V.unread o n

-- the walk ends like this for everything that may be left to it and that gives this view
abbrev pub Follows : {S W N : Type 0} → Sight S W N → (S → WalkEnd S W) → N → Ending W → N
    → Type 0
Follows {S} V f before ending after = (s : S) → before ≡ V.view s → Meets V (f s) ending after

-- what holds of an unread walk that has come so far also holds of one that goes on with this part
abbrev pub Carries : {S W N : Type 0} → Sight S W N → (S → WalkEnd S W) → Type 0
Carries {S} {W} {N} V f = (s : S) (n : N) → V.unread (Left s) n → V.unread (f s) n

-- the same, however a walk goes on
pub record CarriesOn {S W N : Type 0} (rules : Rules S W) (V : Sight S W N) : Type 0 where
  pub leaf : Carries V (λ s. Fault rules.reasons.leaf_fails (rules.taken s))
  pub place : Carries V (λ s. Fault rules.reasons.bad_index (rules.taken s))
  pub below : (p : Position) (e : ℕ) (x : ℤ) (i : ℕ) (s t : S) → rules.take p e x s ≡ Below i t
      → (n : N) → V.unread (Left s) n → V.unread (Left t) n
  pub ends : (p : Position) (e : ℕ) (x : ℤ) (s : S) (o : WalkEnd S W) → rules.take p e x s ≡ Ends o
      → (n : N) → V.unread (Left s) n → V.unread o n
  pub keep : (p : Position) (e : ℕ) (x : ℤ) → Carries V (λ s. Left (rules.keep p e x s))
