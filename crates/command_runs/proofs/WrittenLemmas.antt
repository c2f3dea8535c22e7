-- Bytes that were written one after another, and how a run ends that writes a text.
use Rattle.std.proofs.Common.{◌≡◌, ◌≢◌, ℕ, List, [], ◌++◌, refl, ap, sym, ◌∙◌, None, Some, inl, inr}
use Rattle.std.proofs.lemmas.List.{append-nil}
use Rattle.io_edge.specs.Outside.{Told, behind}
use Rattle.io_edge.proofs.Told.{behind-behind}
use Rattle.command_runs.specs.Answered.{WritesAs}
use Rattle.command_runs.specs.declared.status.Status.{Status}
use Rattle.command_runs.specs.declared.status.Status.TheVariants.{WriteFault}

-- nothing was written
pub behind_none : (w : Told) → w ≡ behind w []
behind_none None = refl
behind_none (Some w) = ap Some (sym (append-nil w))

-- more was written
pub on_written : (w0 w w2 : Told) (front text : List ℕ) → w ≡ behind w0 front → w2 ≡ behind w text → w2 ≡ behind w0 (front ++ text)
on_written w0 w w2 front text e f = f ∙ (ap (λ z. behind z text) e ∙ behind-behind w0 front text)

-- a run that ends with a text ends so, or by a write that has failed, and in no other way
pub ends_so : (text : List ℕ) (whole other status : Status) (before after : Told) → WritesAs text whole status before after → whole ≢ other → WriteFault ≢ other → status ≢ other
ends_so text whole other status before after (inl (e, wrote)) some fault same = some (sym e ∙ same)
ends_so text whole other status before after (inr (e, wrote)) some fault same = fault (sym e ∙ same)
