-- One turn of an audit over a link: the line that is waiting is sent, and a line is read.
use Rattle.std.specs.Prelude.{◌≡◌, ℕ, ◌∷◌, length, take, ◌<◌}
use Rattle.std.specs.Option.{option_map}
use Rattle.io_edge.specs.Outside.{Told, behind}
use Rattle.io_edge.specs.Lines.{Line as Mark, TooLong, ToldLines, LongAhead, NoneAhead}
use Rattle.audit_core.specs.AuditState.{AuditState, line_now, sent, at_mark}
use Rattle.audit_core.specs.Audits.{step}
use Rattle.audit_command.specs.declared.turns.Sending.{Sending}
use Rattle.audit_command.specs.declared.turns.Sending.TheVariants.{Sent, Broke, Memory as NoMemory}
use Rattle.audit_command.specs.declared.turns.Turned.{Turned}
use Rattle.audit_command.specs.declared.turns.Turned.TheVariants.{Heard, Long, Ended, ReadFault, WriteFault, Memory, Full}

-- The line that was waiting was sent, or an initial part of it.
abbrev pub Sends : Sending → AuditState → AuditState → Told → Told → Type 0
Sends Sent s t before after = (t ≡ sent s) × (after ≡ behind before (line_now s))
Sends Broke s t before after =
    (t ≡ s) × ((n : ℕ) × (n < length (line_now s)) × (after ≡ behind before (take n (line_now s))))
Sends NoMemory s t before after = Unit {0}

-- A line was read. One that is too long stays the first of those to come.
abbrev pub Hears : Turned → AuditState → AuditState → ToldLines → ToldLines → Type 0
Hears Heard s t old new =
    (mark : Mark) × (t ≡ at_mark s mark) × (old ≡ option_map (λ left. mark ∷ left) new)
Hears Long s t old new = (t ≡ at_mark s TooLong) × LongAhead old
Hears Ended s t old new = (t ≡ s) × NoneAhead old
Hears ReadFault s t old new = (t ≡ s) × (new ≡ old)
Hears WriteFault s t old new = ⊥
Hears Memory s t old new = Unit {0}
Hears Full s t old new = Unit {0}

-- What a turn did to the audit, to the lines to come and to the bytes written. If memory ran out,
-- or the reader is full, nothing is said.
abbrev pub Turns : Turned → AuditState → AuditState → ToldLines → ToldLines → Told → Told → Type 0
Turns Heard s t old new before after =
    (mark : Mark) × (t ≡ step s mark) × (old ≡ option_map (λ left. mark ∷ left) new)
    × (after ≡ behind before (line_now s))
Turns Long s t old new before after =
    (t ≡ step s TooLong) × LongAhead old × (after ≡ behind before (line_now s))
Turns Ended s t old new before after =
    (t ≡ sent s) × NoneAhead old × (after ≡ behind before (line_now s))
Turns ReadFault s t old new before after =
    (t ≡ sent s) × (new ≡ old) × (after ≡ behind before (line_now s))
Turns WriteFault s t old new before after =
    (t ≡ s) × (new ≡ old)
    × ((n : ℕ) × (n < length (line_now s)) × (after ≡ behind before (take n (line_now s))))
Turns Memory s t old new before after = Unit {0}
Turns Full s t old new before after = Unit {0}
