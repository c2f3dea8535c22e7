-- How the last look at the items decides a whole check.
use Rattle.std.proofs.Common.{◌≡◌, ℕ, List, [], Option, Some, None, refl, sym, ap, subst, arith, ◌∙◌}
use Rattle.std.specs.Prelude.{IsTrue}
use Rattle.io_edge.specs.Outside.{HasCause, Rose}
use Rattle.certificate_walks.specs.Items.{Supply, Takes, ToldItems, counted, in_front}
use Rattle.certificate_walks.specs.Answers.{CountsRefused, EndCauses, Ended, Faults}
use Rattle.certificate_walks.specs.Ends.{EndsItems, IsLastLook, IsWhole}
use Rattle.certificate_walks.specs.declared.items.ItemAnswer.{ItemAnswer}
use Rattle.certificate_walks.specs.declared.items.ItemAnswer.TheVariants.{Item, End, Bad as BadOne, Failed as NoRead, Full as NoMore}
use Rattle.certificate_walks.specs.declared.walk_answers.Halt.{Halt as AnyHalt}
use Rattle.certificate_walks.specs.declared.walk_answers.Halt.TheVariants.{Failed, Full}
use Rattle.certificate_walks.specs.declared.walk_answers.WalkAnswer.{WalkAnswer}
use Rattle.certificate_walks.specs.declared.walk_answers.WalkAnswer.TheVariants.{Done}
use Rattle.certificate_walks.specs.declared.walk_answers.Checked.{Checked}
use Rattle.certificate_walks.specs.declared.walk_answers.Checked.TheVariants.{Accepted, Refused, Halted}

-- how the item that is left, if there is one, decides a whole walk
abbrev pub looked_as : {T W : Type 0} → W → ℕ → ItemAnswer T → Checked W
looked_as rest taken End = Accepted
looked_as rest taken (Item i) = Refused taken rest
looked_as rest taken BadOne = Refused taken rest
looked_as rest taken NoRead = Halted Failed
looked_as rest taken NoMore = Halted Full

-- what one call that takes an item does
pub record TakesOne {T : Type 0} (a : ItemAnswer T) (s t : Supply T) : Type 0 where
  pub cause : HasCause (a ≡ NoRead) s.faults t.faults
  pub full : a ≡ NoMore → IsTrue t.full
  pub count : t.count ≡ counted a s.count
  pub lenders : t.lenders ≡ s.lenders
  pub known : (input : List ℕ) (before : ℕ) → s.known input before → t.known input before
  pub met : t.met a

module _ {T W : Type 0} (kinds : Faults W) (rest : W) (taken : ℕ) (s t : Supply T) (short : (claim : Type 0) → kinds.on_short rest claim) (seen : kinds.looked_at rest ≡ 1) where
  look-halted : (a : ItemAnswer T) → t.count ≡ counted a s.count → (halt : AnyHalt) → looked_as rest taken a ≡ Halted halt → t.count ≡ s.count
  look-halted End count halt e = count
  look-halted (Item i) count halt e = cc
  look-halted BadOne count halt e = cc
  look-halted NoRead count halt e = count
  look-halted NoMore count halt e = count

  look-refused : (a : ItemAnswer T) → t.count ≡ counted a s.count → s.count ≡ taken → CountsRefused kinds (looked_as rest taken a) t.count
  look-refused End count e = tt
  look-refused (Item i) count e = omega (arith, count, e, seen)
  look-refused BadOne count e = omega (arith, count, e, seen)
  look-refused NoRead count e = tt
  look-refused NoMore count e = tt

  look-failed : (a : ItemAnswer T) → looked_as rest taken a ≡ Halted Failed → a ≡ NoRead
  look-failed End e = cc
  look-failed (Item i) e = cc
  look-failed BadOne e = cc
  look-failed NoRead e = refl
  look-failed NoMore e = cc

  look-full : (a : ItemAnswer T) → looked_as rest taken a ≡ Halted Full → a ≡ NoMore
  look-full End e = cc
  look-full (Item i) e = cc
  look-full BadOne e = cc
  look-full NoRead e = cc
  look-full NoMore e = refl

  look-met : (a : ItemAnswer T) → t.met a → Ended kinds t.met (looked_as rest taken a)
  look-met End met = met
  look-met (Item i) met = short (t.met End)
  look-met BadOne met = short (t.met End)
  look-met NoRead met = met
  look-met NoMore met = met

  look-cause : (a : ItemAnswer T) (first : ℕ) → TakesOne a s t → s.faults ≡ first → EndCauses (looked_as rest taken a) first t.faults t.full
  look-cause a first takes same = record {
    later = omega (arith, takes.cause.later, same);
    rose = λ e. subst (λ n. Rose n t.faults) same (takes.cause.rose (look-failed a e));
    same = λ not. takes.cause.same (λ e. not (ap (looked_as rest taken) e)) ∙ same;
    closed = λ e. takes.full (look-full a e);
  }

  -- if everything is shown, this happens to the items
  pub last-taken : (a : ItemAnswer T) (walked : WalkAnswer W) (answer : Checked W) → walked ≡ Done → answer ≡ looked_as rest taken a → TakesOne a s t → EndsItems kinds walked taken answer s t
  last-taken a walked answer shown is takes =
      subst (λ (w : WalkAnswer W). EndsItems kinds w taken answer s t) (sym shown)
      (subst (λ (x : Checked W). let done : WalkAnswer W = Done in EndsItems kinds done taken x s t) (sym is) (record {
        halted = look-halted a takes.count;
        refused = look-refused a takes.count;
        cause = λ first causes. look-cause a first takes (causes.same (λ e. cc));
        lenders = takes.lenders;
        known = takes.known;
        met = λ e. look-met a takes.met;
      }))

left-over : {T : Type 0} (i : Option T) (old new : ToldItems T) → old ≡ in_front i new → old ≡ Some [] → ⊥
left-over i old None e none = cc
left-over i old (Some items) e none = cc

-- and this is the whole check
pub last-whole : {T W : Type 0} (rest : W) (taken : ℕ) (a : ItemAnswer T) (old new : ToldItems T) (walked : WalkAnswer W) (answer : Checked W) → walked ≡ Done → answer ≡ looked_as rest taken a →
    Takes a old new → IsWhole rest walked taken old answer
last-whole {T} {W} rest taken a old new walked answer shown is takes =
    subst (λ (w : WalkAnswer W). IsWhole rest w taken old answer) (sym shown) (subst (λ (x : Checked W). IsLastLook rest taken old x) (sym is) (go a takes))
  where
    go : (a : ItemAnswer T) → Takes a old new → IsLastLook rest taken old (looked_as rest taken a)
    go End t = t.1
    go (Item i) t = (refl, refl, left-over (Some i) old new t)
    go BadOne t = (refl, refl, left-over None old new t)
    go NoRead t = tt
    go NoMore t = tt
