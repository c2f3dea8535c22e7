-- What holds of the items between the start and the end of a part of a walk.
use Rattle.std.proofs.Common.{◌≡◌, ℕ, Bool, List, Option, None, Some, refl, subst, arith, ◌∙◌}
use Rattle.std.specs.Prelude.{IfSome}
use Rattle.certificate_walks.specs.Follows.{Ending, Shown}
use Rattle.certificate_walks.specs.Items.{Supply}
use Rattle.certificate_walks.specs.Parts.{Parts}
use Rattle.certificate_walks.specs.Answers.{Faults, ReadCauses, ending, IsOfWalk, CountsOn, Causes, EndsAs}
use Rattle.certificate_walks.specs.declared.walk_answers.Halt.TheVariants.{Bad, Failed, Full}
use Rattle.certificate_walks.specs.declared.walk_answers.Stop.{Stop}
use Rattle.certificate_walks.specs.declared.walk_answers.Stop.TheVariants.{Refuses as StopRefuses, Halts as StopHalts}
use Rattle.certificate_walks.specs.declared.walk_answers.WalkAnswer.{WalkAnswer}
use Rattle.certificate_walks.specs.declared.walk_answers.WalkAnswer.TheVariants.{Done, Refuses, Halts}
use Rattle.certificate_walks.specs.declared.walker.Walked.{Walked}
use Rattle.certificate_walks.specs.declared.walker.Walked.TheVariants.{Done as AllDone, LeafFails, BadIndex, Stops}

-- What contracts know at one moment of a walk: the names of the references that it uses, how many
-- items it took, and what is known of the items.
pub record Moment (T : Type 0) : Type 1 where
  pub names : List ℕ
  pub taken : ℕ
  pub items : Supply T

abbrev pub moment_of : {T : Type 0} → List ℕ → ℕ → Supply T → Moment T
moment_of names taken items = record { names = names; taken = taken; items = items }

-- why a part of a walk ended; `None` if neither a fault nor the items ended it
abbrev pub PartCauses : {W : Type 0} → Option (WalkAnswer W) → ℕ → ℕ → Bool → Type 0
PartCauses None = ReadCauses ⊥ ⊥
PartCauses (Some walked) = Causes walked

-- What holds of a part of a walk. Its answer is `None` if neither a fault nor the items ended it.
pub record Taking {T W : Type 0} (kinds : Faults W) (answer : Option (WalkAnswer W))
    (a b : Moment T) : Type 0 where
  pub names : b.names ≡ a.names
  pub cause : PartCauses answer a.items.faults b.items.faults b.items.full
  pub counted : IfSome answer
      (λ walked. CountsOn walked a.items.count b.items.count a.taken b.taken)
  pub lenders : b.items.lenders ≡ a.items.lenders
  pub known : (input : List ℕ) (before : ℕ) → a.items.known input before
      → b.items.known input before
  pub met : IfSome answer (λ walked. EndsAs kinds b.items.met walked)
  pub legal : IfSome answer (λ walked. IsOfWalk kinds walked)

-- why it was ended
abbrev pub of_stop : {W : Type 0} → Stop W → WalkAnswer W
of_stop (StopRefuses why) = Refuses why
of_stop (StopHalts halt) = Halts halt

abbrev pub stop_ending : {W : Type 0} → Stop W → Ending W
stop_ending stop = ending (of_stop stop)

-- how a part of a walk ended, given the faults of a leaf and of a place
abbrev pub of_walk : {W : Type 0} → W → W → Walked (Stop W) → WalkAnswer W
of_walk leaf_fails bad_index AllDone = Done
of_walk leaf_fails bad_index LeafFails = Refuses leaf_fails
of_walk leaf_fails bad_index BadIndex = Refuses bad_index
of_walk leaf_fails bad_index (Stops stop) = of_stop stop

-- what holds if it is not ended
abbrev pub GoesOn : {T W : Type 0} → Faults W → Moment T → Moment T → Type 0
GoesOn kinds = Taking kinds (Some Done)

-- ---- its laws

pub stops-short : {W : Type 0} (stop : Stop W) → stop_ending stop ≡ Shown → ⊥
stops-short (StopRefuses why) e = cc
stops-short (StopHalts Bad) e = cc
stops-short (StopHalts Failed) e = cc
stops-short (StopHalts Full) e = cc

pub goes-none : {T W : Type 0} (kinds : Faults W) (a : Moment T) → GoesOn kinds a a
goes-none kinds a = record {
  names = refl;
  cause = record { later = omega arith; rose = λ e. cc; same = λ e. refl; closed = λ e. cc };
  counted = λ e. e;
  lenders = refl;
  known = λ input before k. k;
  met = tt;
  legal = tt;
}

counts-then : {W : Type 0} (answer : Option (WalkAnswer W)) (i j k n m l : ℕ) → (i ≡ n → j ≡ m)
    → IfSome answer (λ walked. CountsOn walked j k m l)
    → IfSome answer (λ walked. CountsOn walked i k n l)
counts-then None i j k n m l first later = later
counts-then (Some walked) i j k n m l first later = λ e. later (first e)

pub goes-then : {T W : Type 0} (kinds : Faults W) (answer : Option (WalkAnswer W))
    (a b c : Moment T) → GoesOn kinds a b → Taking kinds answer b c → Taking kinds answer a c
goes-then kinds answer a b c first later = record {
  names = later.names ∙ first.names;
  cause =
      subst (λ n. PartCauses answer n c.items.faults c.items.full)
      (first.cause.same (λ e. cc)) later.cause;
  counted =
      counts-then answer a.items.count b.items.count c.items.count a.taken b.taken c.taken
      first.counted later.counted;
  lenders = later.lenders ∙ first.lenders;
  known = λ input before k. later.known input before (first.known input before k);
  met = later.met;
  legal = later.legal;
}

-- What holds of the parts of a walk. The first function gives the reason why a part was ended, and
-- the second the moment of a walker.
abbrev pub taking_parts : {A T W K : Type 0} → Faults W → (K → Option (WalkAnswer W))
    → (A → Moment T) → Parts A K
taking_parts kinds answer at = record {
  goes = λ a b. GoesOn kinds (at a) (at b);
  stops = λ stop a b. Taking kinds (answer stop) (at a) (at b);
  none = λ w. goes-none kinds (at w);
  both = λ a b c. goes-then kinds (Some Done) (at a) (at b) (at c);
  behind = λ stop a b c. goes-then kinds (answer stop) (at a) (at b) (at c);
}

-- the same for a walk that the items or a fault ends
abbrev pub stop_parts : {A T W : Type 0} → Faults W → (A → Moment T) → Parts A (Stop W)
stop_parts kinds = taking_parts kinds (λ stop. Some (of_stop stop))
