-- The endings of a run: by itself, or by a fault of a side.
use Rattle.std.proofs.Common.{inl, inr}
use Rattle.hive_model.specs.declared.pieces.Colour.{Colour}
use Rattle.hive_model.specs.declared.pieces.Colour.TheVariants.{White, Black}
use Rattle.match_core.specs.Setups.{FullSetup}
use Rattle.match_core.specs.MatchState.{MatchState}
use Rattle.match_runner.specs.Wires.{Watch}
use Rattle.match_runner.specs.Turns.{Side}
use Rattle.match_runner.specs.Runs.{Whole, Cut, Ran}

-- what holds if a run ends by itself, and if either side cuts it, holds of each run
pub by_end : (setup : FullSetup) (t : MatchState) (w0 w b0 b : Side) (r0 r : Watch) {white_rose black_rose : Type 0} (P : Type 0) → Ran setup t w0 w b0 b r0 r white_rose black_rose
    → (Whole setup t w0 w b0 b r0 r → P) → ((side : Colour) → Cut side setup t w0 w b0 b r0 r → P) → P
by_end setup t w0 w b0 b r0 r P ran whole cut = elim ran.ended [
  | inl x ↦ whole x
  | inr x ↦ elim x [ inl c ↦ cut White c.0 | inr c ↦ cut Black c.0 ]
]
