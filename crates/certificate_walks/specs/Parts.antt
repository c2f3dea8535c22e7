-- What holds of the parts of a walk, whatever walker takes its tokens.
use Rattle.std.specs.Prelude.{◌≡◌, ℕ, Bool, true, false, List, ℤ, Option, Some, None}
use Rattle.hive_model.specs.declared.places.Move.{Move}
use Rattle.hive_model.specs.Positions.{Position}
use Rattle.certificate_walks.specs.Walks.{WalkEnd, Fault, Below as GoesBelow, Rules, go_on, walk_step, finish, certificate}
use Rattle.certificate_walks.specs.Follows.{Sight, Ending, Shown as IsShown, Refused, Meets, Follows, Carries}
use Rattle.certificate_walks.specs.declared.walker.Walked.{Walked}
use Rattle.certificate_walks.specs.declared.walker.Walked.TheVariants.{Done, LeafFails, BadIndex, Stops as WalkStops}
use Rattle.certificate_walks.specs.declared.walker.Took.{Took}
use Rattle.certificate_walks.specs.declared.walker.Took.TheVariants.{Below, Shown, Stops}

-- how a part of a walk ends, by the code's answer
abbrev pub ending_of : {S W T : Type 0} → Rules S W → (T → Ending W) → Walked T → Ending W
ending_of rules ending Done = IsShown
ending_of rules ending LeafFails = Refused rules.reasons.leaf_fails
ending_of rules ending BadIndex = Refused rules.reasons.bad_index
ending_of rules ending (WalkStops stop) = ending stop

-- If this is taken, the walk ends like this, whatever moves there are and however they would be
-- walked. The premise is that each of these walks carries on.
abbrev pub EndsHere : {S W N : Type 0} → Rules S W → Sight S W N → Position → ℕ → ℤ → N → Ending W
    → N → Type 0
EndsHere {S} {W} rules V p e x before ending after =
    (walk : Move → S → WalkEnd S W) (ms : List Move) → ((m : Move) → Carries V (walk m))
    → Follows V (λ s. walk_step rules walk ms (rules.take p e x s)) before ending after

-- what the code finds if a node takes a token, and what it then sees
abbrev pub Finds : {S W N T : Type 0} → Rules S W → Sight S W N → (T → Ending W) → Position → ℕ → ℤ
    → Took T → N → N → Type 0
Finds {S} rules V ending p e x (Below i) before after =
    (s : S) → before ≡ V.view s → (s1 : S) × (rules.take p e x s ≡ GoesBelow i s1)
    × (after ≡ V.view s1)
Finds rules V ending p e x Shown before after = EndsHere rules V p e x before IsShown after
Finds rules V ending p e x (Stops stop) before after =
    EndsHere rules V p e x before (ending stop) after

-- What else holds between the start and the end of a part of a walk, and how parts join. A is the
-- type of the walkers, and T the type of their reasons to end it.
pub record Parts (A T : Type 0) : Type 1 where
  -- if the walker does not end it
  pub goes : A → A → Type 0
  -- if it ends it for this reason
  pub stops : T → A → A → Type 0
  -- from a moment to itself
  pub none : (w : A) → goes w w
  -- one part after another
  pub both : (a b c : A) → goes a b → goes b c → goes a c
  -- a part that it ends, after one that it does not end
  pub behind : (stop : T) (a b c : A) → goes a b → stops stop b c → stops stop a c

-- what else holds of a part of a walk, by the code's answer
abbrev pub IsPart : {A T : Type 0} → Parts A T → Walked T → A → A → Type 0
IsPart parts Done a b = parts.goes a b
IsPart parts LeafFails a b = parts.goes a b
IsPart parts BadIndex a b = parts.goes a b
IsPart parts (WalkStops stop) a b = parts.stops stop a b

-- the same for the taking of a token
abbrev pub IsFoundBy : {A T : Type 0} → Parts A T → Took T → A → A → Type 0
IsFoundBy parts (Below i) a b = parts.goes a b
IsFoundBy parts Shown a b = parts.goes a b
IsFoundBy parts (Stops stop) a b = parts.stops stop a b

-- the answer of a leaf
abbrev pub leaf_walked : {T : Type 0} → Bool → Walked T
leaf_walked true = Done
leaf_walked false = LeafFails

-- the same for a whole certificate; if its move is not legal, nothing changes
abbrev pub IsPartIf : {A T : Type 0} → Parts A T → Option (Walked T) → A → A → Type 0
IsPartIf parts None a b = b ≡ a
IsPartIf parts (Some walked) a b = IsPart parts walked a b

-- How the walk of a whole certificate ends, without the test that nothing is left over. Its move is
-- not legal, or its parts end like this if what is left to the walk is observable.
abbrev pub LeadsToEnd : {S W N T : Type 0} → Rules S W → Sight S W N → (T → Ending W) → Position → ℕ
    → Move → ℤ → Option (Walked T) → N → N → Type 0
LeadsToEnd {S} rules V ending p d m v None before after =
    (s : S) → certificate rules p d m v s ≡ Fault rules.reasons.no_such_move 0
LeadsToEnd {S} {W} rules V ending p d m v (Some walked) before after =
    (s : S) → before ≡ V.view s → (o : WalkEnd S W)
    × (certificate rules p d m v s ≡ go_on o (finish rules))
    × Meets V o (ending_of rules ending walked) after
