-- How the end of a walk over items becomes the answer of a whole check, in which nothing may be
-- left over.
use Rattle.std.specs.Prelude.{◌≡◌, ◌≢◌, ℕ, Bool, List, [], ⊤, Option, None, Some, IfSome}
use Rattle.certificate_walks.specs.Items.{ToldItems, IsAtEnd, Supply}
use Rattle.certificate_walks.specs.Walks.{WalkEnd}
use Rattle.certificate_walks.specs.Answers.{Faults, ReadCauses, Causes, EndCauses, CountsBad, CountsRefused, StopsUnread, EndsAs, Ended, ended}
use Rattle.certificate_walks.specs.declared.walk_answers.Halt.{Halt}
use Rattle.certificate_walks.specs.declared.walk_answers.Halt.TheVariants.{Bad, Failed, Full}
use Rattle.certificate_walks.specs.declared.walk_answers.WalkAnswer.{WalkAnswer}
use Rattle.certificate_walks.specs.declared.walk_answers.WalkAnswer.TheVariants.{Done, Refuses, Halts}
use Rattle.certificate_walks.specs.declared.walk_answers.Checked.{Checked}
use Rattle.certificate_walks.specs.declared.walk_answers.Checked.TheVariants.{Accepted, Refused, Halted}

-- If everything is shown, the items that are left decide. The check accepts if there are none, and
-- refuses with the fault `rest` if one is left. No bad item halts it then, since that too is left
-- over.
abbrev pub IsLastLook : {T W : Type 0} → W → ℕ → ToldItems T → Checked W → Type 0
IsLastLook rest taken told Accepted = IsAtEnd told
IsLastLook rest taken told (Refused place why) = (place ≡ taken) × (why ≡ rest) × (told ≢ Some [])
IsLastLook rest taken told (Halted Bad) = ⊥
IsLastLook rest taken told (Halted Failed) = ⊤
IsLastLook rest taken told (Halted Full) = ⊤

-- any other end of the walk is the end of the whole check
abbrev pub IsWhole : {T W : Type 0} → W → WalkAnswer W → ℕ → ToldItems T → Checked W → Type 0
IsWhole rest Done taken told answer = IsLastLook rest taken told answer
IsWhole rest (Refuses why) taken told answer = answer ≡ Refused taken why
IsWhole rest (Halts halt) taken told answer = answer ≡ Halted halt

-- what happens to the items at the end of a walk that took this number of them, and of the whole
-- check
pub record EndsItems {T W : Type 0} (kinds : Faults W) (walked : WalkAnswer W) (taken : ℕ)
    (answer : Checked W) (a b : Supply T) : Type 0 where
  pub halted : (halt : Halt) → answer ≡ Halted halt → b.count ≡ a.count
  pub refused : a.count ≡ ended walked taken → CountsRefused kinds answer b.count
  pub cause : (first : ℕ) → Causes walked first a.faults a.full
      → EndCauses answer first b.faults b.full
  pub lenders : b.lenders ≡ a.lenders
  pub known : (input : List ℕ) (before : ℕ) → a.known input before → b.known input before
  pub met : EndsAs kinds a.met walked → Ended kinds b.met answer

-- why the items ended a whole check; `None` if neither a fault nor the items ended it
abbrev pub CheckCauses : {W : Type 0} → Option (Checked W) → ℕ → ℕ → Bool → Type 0
CheckCauses None = ReadCauses ⊥ ⊥
CheckCauses (Some checked) = EndCauses checked

-- What happened to the items from the start to the end of a whole check. Its answer is `None` if
-- neither a fault nor the items ended it. `outcome` says how the walk of observable items ends.
pub record ChecksItems {S T W : Type 0} (kinds : Faults W) (outcome : List (Option T) → WalkEnd S W)
    (answer : Option (Checked W)) (a b : Supply T) : Type 0 where
  pub bad : (items : List (Option T)) → a.left ≡ Some items → a.count ≡ 0
      → IfSome answer (λ checked. CountsBad (outcome items) checked b.count)
  pub refused : a.count ≡ 0 → IfSome answer (λ checked. CountsRefused kinds checked b.count)
  pub cause : CheckCauses answer a.faults b.faults b.full
  pub lenders : b.lenders ≡ a.lenders
  pub known : (input : List ℕ) (before : ℕ) → a.known input before → b.known input before
  pub met : IfSome answer (λ checked. Ended kinds b.met checked)

-- If no item was taken before a whole check, and its observable items could not be read on, then
-- those that it took did not decide it.
abbrev pub EndsUnread : {S T W : Type 0} → Faults W → (List (Option T) → WalkEnd S W) → Checked W
    → Supply T → Supply T → Type 0
EndsUnread {S} {T} kinds outcome answer a b =
    (items : List (Option T)) → a.left ≡ Some items → a.count ≡ 0
    → StopsUnread kinds (outcome items) answer b.count
