-- What contracts know of indices at one moment of a walk that writes tokens, and how its parts end.
use Rattle.std.specs.Prelude.{◌≡◌, ℕ, [], ◌∷◌, Option, None, Some}
use Rattle.certificate_walks.specs.Follows.{Ending, Shown}
use Rattle.certificate_walks.specs.Items.{Supply}
use Rattle.certificate_walks.specs.Taking.{Moment, moment_of, of_stop}
use Rattle.certificate_walks.specs.declared.walk_answers.Halt.TheVariants.{Bad, Failed, Full}
use Rattle.certificate_walks.specs.declared.walk_answers.Stop.{Stop}
use Rattle.certificate_walks.specs.declared.walk_answers.Stop.TheVariants.{Refuses as StopRefuses, Halts as StopHalts}
use Rattle.certificate_walks.specs.declared.walk_answers.WalkAnswer.{WalkAnswer}
use Rattle.certificate_walks.specs.declared.walk_answers.WalkAnswer.TheVariants.{Done, Refuses, Halts}
use Rattle.certificate_walks.specs.declared.walker.Took.{Took}
use Rattle.certificate_walks.specs.declared.walker.Took.TheVariants.{Shown as TookShown, Stops as TookStops}
use Rattle.certificate_walks.specs.declared.walker.Walked.{Walked}
use Rattle.certificate_walks.specs.declared.walker.Walked.TheVariants.{Done as AllDone, LeafFails as ALeafFails, BadIndex as ABadIndex, Stops}
use Rattle.strategy_check.specs.declared.why.Why.{Why}
use Rattle.strategy_check.specs.declared.why.Why.TheVariants.{BadIndex, LeafFails}
use Rattle.certificate_citing.specs.declared.shortening.ShortWalk.{ShortWalk}
use Rattle.certificate_citing.specs.Shortening.{short_ending}

-- the moment of a walk over indices, given what is known of them
abbrev pub short_moment : {I : Type 0} → (I → Supply ℕ) → ShortWalk I → Moment ℕ
short_moment supply walk =
    moment_of (walk.indices.ghost_name ∷ walk.draft.ghost_name ∷ []) walk.draft.now.taken
    (supply walk.indices.now)

-- why it was ended, or `None` if there was no memory for a token
abbrev pub of_short_stop : Option (Stop Why) → Option (WalkAnswer Why)
of_short_stop None = None
of_short_stop (Some stop) = Some (of_stop stop)

abbrev pub short_stop_ending : Option (Stop Why) → Ending Why
short_stop_ending stop = short_ending (of_short_stop stop)

-- how a part of a walk ended
abbrev pub of_short_walk : Walked (Option (Stop Why)) → Option (WalkAnswer Why)
of_short_walk AllDone = Some Done
of_short_walk ALeafFails = Some (Refuses LeafFails)
of_short_walk ABadIndex = Some (Refuses BadIndex)
of_short_walk (Stops stop) = of_short_stop stop

-- what a node answers after its indices were passed over
abbrev pub of_passed : Option (WalkAnswer Why) → Took (Option (Stop Why))
of_passed None = TookStops None
of_passed (Some Done) = TookShown
of_passed (Some (Refuses why)) = TookStops (Some (StopRefuses why))
of_passed (Some (Halts halt)) = TookStops (Some (StopHalts halt))

pub stops-short : (stop : Option (Stop Why)) → short_stop_ending stop ≡ Shown → ⊥
stops-short None e = cc
stops-short (Some (StopRefuses why)) e = cc
stops-short (Some (StopHalts Bad)) e = cc
stops-short (Some (StopHalts Failed)) e = cc
stops-short (Some (StopHalts Full)) e = cc
