-- How taking an item changes what is known of the items, and what the code's answers say of a walk.
use Rattle.std.proofs.Common.{◌≡◌, ℕ, List, ◌∷◌, refl, sym, ap, subst, ◌∙◌, Option, Some, None}
use Rattle.certificate_walks.specs.Walks.{WalkEnd, Rules}
use Rattle.certificate_walks.specs.Follows.{Sight, Ending, Meets}
use Rattle.certificate_walks.specs.Parts.{IsPart, ending_of}
use Rattle.certificate_walks.specs.Items.{ToldItems, in_front}
use Rattle.certificate_walks.specs.Answers.{Faults, ending, Answers, CountsBad, StopsUnread}
use Rattle.certificate_walks.specs.Taking.{Moment, Taking, GoesOn, stop_ending, of_walk, stop_parts}
use Rattle.certificate_walks.specs.declared.items.ItemAnswer.TheVariants.{End}
use Rattle.certificate_walks.specs.declared.walk_answers.Stop.{Stop}
use Rattle.certificate_walks.specs.declared.walk_answers.Checked.{Checked}
use Rattle.certificate_walks.specs.declared.walk_answers.WalkAnswer.{WalkAnswer}
use Rattle.certificate_walks.specs.declared.walk_answers.WalkAnswer.TheVariants.{Refuses}
use Rattle.certificate_walks.specs.declared.walker.Walked.{Walked}
use Rattle.certificate_walks.specs.declared.walker.Walked.TheVariants.{Done, LeafFails, BadIndex, Stops}

-- ---- endings

module _ {S W : Type 0} (R : Rules S W) where
  ending-is : (w : Walked (Stop W)) → ending_of R stop_ending w ≡ ending (of_walk R.reasons.leaf_fails R.reasons.bad_index w)
  ending-is Done = refl
  ending-is LeafFails = refl
  ending-is BadIndex = refl
  ending-is (Stops stop) = refl

  pub meets-is : {N : Type 0} (V : Sight S W N) (o : WalkEnd S W) (w : Walked (Stop W)) (walked : WalkAnswer W) (n : N) → walked ≡ of_walk R.reasons.leaf_fails R.reasons.bad_index w →
      Meets V o (ending_of R stop_ending w) n → Meets V o (ending walked) n
  meets-is V o w walked n is h = subst (λ (e : Ending W). Meets V o e n) (ending-is w ∙ ap ending (sym is)) h

-- what holds of a walk that came to its end also holds if it was refused and no item is missing
pub refuses : {T W : Type 0} (kinds : Faults W) (why : W) (a b : Moment T) → kinds.on_short why (b.items.met End) → kinds.is_below_root why → GoesOn kinds a b → Taking kinds (Some (Refuses why)) a b
refuses kinds why a b met legal h = record {
  names = h.names;
  cause = record { later = h.cause.later; rose = λ e. cc; same = λ e. h.cause.same (λ f. cc); closed = λ e. cc };
  counted = h.counted;
  lenders = h.lenders;
  known = h.known;
  met = met;
  legal = legal;
}

-- a fault with which a walk below the root may end if no item is missing
pub record IsInner {W : Type 0} (kinds : Faults W) (why : W) : Type 1 where
  pub met : (claim : Type 0) → kinds.on_short why claim
  pub legal : kinds.is_below_root why

module _ {A T W : Type 0} (kinds : Faults W) (leaf_fails bad_index : W) (leaf : IsInner kinds leaf_fails) (bad : IsInner kinds bad_index) (at : A → Moment T) where
  abbrev pub IsTold : Walked (Stop W) → A → A → Type 0
  IsTold = IsPart (stop_parts kinds at)

  part-is : (w : Walked (Stop W)) (a b : A) → IsTold w a b → Taking kinds (Some (of_walk leaf_fails bad_index w)) (at a) (at b)
  part-is Done a b h = h
  part-is LeafFails a b h = refuses kinds leaf_fails (at a) (at b) (leaf.met ((at b).items.met End)) leaf.legal h
  part-is BadIndex a b h = refuses kinds bad_index (at a) (at b) (bad.met ((at b).items.met End)) bad.legal h
  part-is (Stops stop) a b h = h

  pub taking-is : (w : Walked (Stop W)) (walked : WalkAnswer W) (a b : A) → walked ≡ of_walk leaf_fails bad_index w → IsTold w a b → Taking kinds (Some walked) (at a) (at b)
  taking-is w walked a b is h = subst (λ (x : WalkAnswer W). Taking kinds (Some x) (at a) (at b)) (sym is) (part-is w a b h)

-- ---- what was taken

pub front-is : {T : Type 0} (item : Option T) (items : List (Option T)) (b : ToldItems T) → Some items ≡ in_front item b → (later : List (Option T)) × (b ≡ Some later) × (items ≡ item ∷ later)
front-is item items None e = cc
front-is item items (Some later) e = (later, refl, cc)

-- ---- what is answered

pub answers-as : {S W : Type 0} (o q : WalkEnd S W) (answer : Checked W) → o ≡ q → Answers q answer → Answers o answer
answers-as {S} {W} o q answer e h = subst (λ (x : WalkEnd S W). Answers x answer) (sym e) h

pub bad-as : {S W : Type 0} (o q : WalkEnd S W) (answer : Checked W) (count : ℕ) → o ≡ q → CountsBad q answer count → CountsBad o answer count
bad-as {S} {W} o q answer count e h = subst (λ (x : WalkEnd S W). CountsBad x answer count) (sym e) h

pub unread-as : {S W : Type 0} (kinds : Faults W) (o q : WalkEnd S W) (answer : Checked W) (count : ℕ) → o ≡ q → StopsUnread kinds q answer count → StopsUnread kinds o answer count
unread-as {S} {W} kinds o q answer count e h = subst (λ (x : WalkEnd S W). StopsUnread kinds x answer count) (sym e) h
