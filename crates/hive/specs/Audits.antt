-- Which runs are audits.
use Rattle.std.specs.Prelude.{Bool, false, ℕ, List, [], ◌∷◌, codes}
use Rattle.std.specs.Str.{bytes_eq}

-- whether the first word of the command line asks for an audit
abbrev pub begin_with_audit : List (List ℕ) → Bool
begin_with_audit [] = false
begin_with_audit (word ∷ words) = bytes_eq word (codes "audit")
