use Rattle.std.proofs.Common.{◌≡◌, ◌++◌, map, take}
use Rattle.audit_core.specs.Texts.{shown}
use Rattle.audit_core.proofs.texts.write_shown.Given as goal

abbrev pub invariant-loop-byte : goal.invariant-loop-byte
invariant-loop-byte l = l.out ≡ l.fn.out ++ map shown (take l.byte-index l.bytes)
