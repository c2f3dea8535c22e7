-- Lines that are too long.
use Rattle.std.proofs.Common.{◌≡◌, ◌⊎◌, ◌+◌, Bool, true, false, List, refl, ap, ◌∙◌, inl, inr, None}
use Rattle.std.specs.Prelude.{Ok, Err, if◌then◌else◌, nat_lt, length, ◌&&◌}
use Rattle.io_edge.specs.Lines.{TooLong as LongLine}
use Rattle.cup.specs.Engines.{Engine}
use Rattle.tournament_record.specs.declared.parts.HeadPart.{HeadPart}
use Rattle.command_runs.specs.OneGame.{game_in}
use Rattle.tournament_command.specs.declared.format.Format.{Format}
use Rattle.tournament_command.specs.declared.phase.Phase.TheVariants.{Openings, Head}
use Rattle.tournament_command.specs.declared.refused.LineFault.TheVariants.{Bad}
use Rattle.tournament_command.specs.Intakes.{Intake, head_after, take_as, take_line, take_opening, with_head, with_opening}

long_first : (resume room : Bool) (i : Intake) (parts : List HeadPart) → (if (resume && false) then Ok (with_head parts i) else if room then with_opening i None else Err (Bad (i.lines + 1))) ≡ Err (Bad (i.lines + 1))
long_first true true i parts = refl
long_first true false i parts = refl
long_first false true i parts = refl
long_first false false i parts = refl

long_opening : (engines : List Engine) (f : Format) (i : Intake) → take_opening engines f i LongLine ≡ Err (Bad (i.lines + 1))
unfolding game_in
long_opening engines f i = long_first f.resume (nat_lt (length i.openings) 100000) i (head_after engines f i.openings)

-- it is neither an opening nor a head
pub long_refused : (engines : List Engine) (f : Format) (i : Intake) → (i.phase ≡ Openings) ⊎ (i.phase ≡ Head) → take_line engines f i LongLine ≡ Err (Bad (i.lines + 1))
long_refused engines f i (inl e) = ap (λ p. take_as p engines f i LongLine) e ∙ long_opening engines f i
long_refused engines f i (inr e) = ap (λ p. take_as p engines f i LongLine) e
