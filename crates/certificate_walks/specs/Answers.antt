-- What the code answers for a walk over observable items.
use Rattle.std.specs.Prelude.{◌≡◌, ℕ, ◌+◌, ◌<◌, ◌≤◌, Bool, IsTrue, ⊤}
use Rattle.io_edge.specs.Outside.{Rose}
use Rattle.certificate_walks.specs.Walks.{WalkEnd, Left, Fault, Halt}
use Rattle.certificate_walks.specs.Follows.{held, Ending, Shown, Refused as RefusedFor, BadItem, Unread}
use Rattle.certificate_walks.specs.declared.items.ItemAnswer.{ItemAnswer}
use Rattle.certificate_walks.specs.declared.items.ItemAnswer.TheVariants.{End, Bad as BadOne, Failed as NoRead, Full as NoMore}
use Rattle.certificate_walks.specs.declared.walk_answers.Halt.TheVariants.{Bad, Failed, Full}
use Rattle.certificate_walks.specs.declared.walk_answers.WalkAnswer.{WalkAnswer}
use Rattle.certificate_walks.specs.declared.walk_answers.WalkAnswer.TheVariants.{Done, Refuses, Halts}
use Rattle.certificate_walks.specs.declared.walk_answers.Checked.{Checked}
use Rattle.certificate_walks.specs.declared.walk_answers.Checked.TheVariants.{Accepted, Refused, Halted}

-- The properties of a walk's faults that contracts use.
pub record Faults (W : Type 0) : Type 1 where
  -- a walk below a root can end with this fault
  pub is_below_root : W → Type 0
  -- the claim holds if this fault is that of a missing item
  pub on_short : W → Type 0 → Type 0
  -- how many items the check looked at beyond those before the fault
  pub looked_at : W → ℕ
  -- how many items it looked for beyond those before the fault, a missing one included
  pub looked_for : W → ℕ

-- how many items a walk that ends like this has looked for; `taken` counts those taken
abbrev pub looked : {S W : Type 0} → Faults W → (S → ℕ) → WalkEnd S W → ℕ
looked faults taken (Left s) = taken s
looked faults taken (Fault why n) = n + faults.looked_for why
looked faults taken (Halt n) = n + 1

-- how a part of a walk ended
abbrev pub ending : {W : Type 0} → WalkAnswer W → Ending W
ending Done = Shown
ending (Refuses why) = RefusedFor why
ending (Halts Bad) = BadItem
ending (Halts Failed) = Unread
ending (Halts Full) = Unread

-- the part does not end with the fault of a root
abbrev pub IsOfWalk : {W : Type 0} → Faults W → WalkAnswer W → Type 0
IsOfWalk faults Done = ⊤
IsOfWalk faults (Refuses why) = faults.is_below_root why
IsOfWalk faults (Halts answer) = ⊤

-- What a whole check answers, by the outcome of its walk.
abbrev pub Answers : {S W : Type 0} → WalkEnd S W → Checked W → Type 0
Answers {S} o Accepted = (s : S) × (o ≡ Left s)
Answers o (Refused place why) = (n : ℕ) × (o ≡ Fault why n) × (place ≡ held n)
Answers o (Halted Bad) = (n : ℕ) × (o ≡ Halt n)
Answers o (Halted Failed) = ⊤
Answers o (Halted Full) = ⊤

-- How many items were taken when a part of a walk ends: those that it took, and the bad item if one
-- ends it.
abbrev pub ended : {W : Type 0} → WalkAnswer W → ℕ → ℕ
ended Done n = n
ended (Refuses why) n = n
ended (Halts Bad) n = held (n + 1)
ended (Halts Failed) n = n
ended (Halts Full) n = n

-- the items' own count moves as the walk's count of taken items does
abbrev pub CountsOn : {W : Type 0} → WalkAnswer W → ℕ → ℕ → ℕ → ℕ → Type 0
CountsOn walked count now taken then_ = count ≡ taken → now ≡ ended walked then_

-- If a bad item ends a whole check, the items taken are those before it and itself.
abbrev pub CountsBad : {S W : Type 0} → WalkEnd S W → Checked W → ℕ → Type 0
CountsBad o Accepted count = ⊤
CountsBad o (Refused place why) count = ⊤
CountsBad o (Halted Bad) count = (n : ℕ) × (o ≡ Halt n) × (count ≡ held (n + 1))
CountsBad o (Halted Failed) count = ⊤
CountsBad o (Halted Full) count = ⊤

-- If the items could not be read on, those taken did not decide the whole check. A walk that would
-- meet a fault or a bad item looks for more of them; one that would show everything looks for their
-- end.
abbrev pub CountsUnread : {S W : Type 0} → Faults W → WalkEnd S W → ℕ → Type 0
CountsUnread faults (Left s) count = ⊤
CountsUnread faults (Fault why n) count = count < n + faults.looked_for why
CountsUnread faults (Halt n) count = count < n + 1

-- the same, by the answer of the check
abbrev pub StopsUnread : {S W : Type 0} → Faults W → WalkEnd S W → Checked W → ℕ → Type 0
StopsUnread faults o Accepted count = ⊤
StopsUnread faults o (Refused place why) count = ⊤
StopsUnread faults o (Halted Bad) count = ⊤
StopsUnread faults o (Halted Failed) count = CountsUnread faults o count
StopsUnread faults o (Halted Full) count = CountsUnread faults o count

-- If a fault ends a whole check, the items taken are at most those before it and those that the
-- check looked at.
abbrev pub CountsRefused : {W : Type 0} → Faults W → Checked W → ℕ → Type 0
CountsRefused faults Accepted count = ⊤
CountsRefused faults (Refused place why) count = count ≤ place + faults.looked_at why
CountsRefused faults (Halted answer) count = ⊤

-- The count of faults rose if a read failed, and is otherwise unchanged. If the answer was that no
-- more may be read, no more may be read.
pub record ReadCauses (failed stopped : Type 0) (before now : ℕ) (full : Bool) : Type 0 where
  pub later : before ≤ now
  pub rose : failed → Rose before now
  pub same : ¬ failed → now ≡ before
  pub closed : stopped → IsTrue full

-- why the items ended a part of a walk
abbrev pub Causes : {W : Type 0} → WalkAnswer W → ℕ → ℕ → Bool → Type 0
Causes answer = ReadCauses (answer ≡ Halts Failed) (answer ≡ Halts Full)

-- why they ended a whole check
abbrev pub EndCauses : {W : Type 0} → Checked W → ℕ → ℕ → Bool → Type 0
EndCauses answer = ReadCauses (answer ≡ Halted Failed) (answer ≡ Halted Full)

-- If an answer of the items without an item ended the walk (a bad item is such an answer), what
-- holds after that answer holds.
abbrev pub EndsAs : {T W : Type 0} → Faults W → (ItemAnswer T → Type 0) → WalkAnswer W → Type 0
EndsAs faults met Done = ⊤
EndsAs faults met (Refuses why) = faults.on_short why (met End)
EndsAs faults met (Halts Bad) = met BadOne
EndsAs faults met (Halts Failed) = met NoRead
EndsAs faults met (Halts Full) = met NoMore

-- The same for the answer of a whole check, which accepts only at the end of the items.
abbrev pub Ended : {T W : Type 0} → Faults W → (ItemAnswer T → Type 0) → Checked W → Type 0
Ended faults met Accepted = met End
Ended faults met (Refused place why) = faults.on_short why (met End)
Ended faults met (Halted Bad) = met BadOne
Ended faults met (Halted Failed) = met NoRead
Ended faults met (Halted Full) = met NoMore
