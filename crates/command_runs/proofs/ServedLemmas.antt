-- How a run ends that its streams served.
use Rattle.std.proofs.Common.{◌≡◌, ◌<◌, ◌+◌, ℕ, List, length, ap, ◌∙◌, arith, length-append}
use Rattle.line_feed.specs.Feed.{input_limit}
use Rattle.line_feed.specs.SoFar.{WasRead}
use Rattle.io_edge.specs.Outside.{Told}
use Rattle.command_runs.specs.Served.{NoFault}

-- a call without a fault has not failed
pub no_failure : {failed : Type 0} → NoFault failed → failed → ⊥
no_failure none f = none.steady (none.cause.rose f)

-- an input below the limit is not full
pub not_full : (input bytes left : List ℕ) (rest : Told) → WasRead input rest bytes left
    → length bytes ≡ input_limit → length input < input_limit → ⊥
not_full input bytes left rest was full below =
    let e : length input ≡ length bytes + length left = ap length was.split ∙ length-append bytes left in
    omega (arith, e, full, below)
