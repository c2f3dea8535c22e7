use Rattle.std.proofs.Common.{◌≡◌, ℕ, subst, arith}
use Rattle.symmetry.specs.Own.{AreOwnBelow}
use Rattle.symmetry.proofs.finding.own_symmetries.Goals as goal

pub returns : goal.returns
returns c =
    let end : c.loop-index.index ≡ 12 = omega (arith, c.loop-index-test.false, c.loop-index.auto.index-end) in
    subst (λ (n : ℕ). AreOwnBelow n c.args.key.now c.loop-index.own.items) end c.loop-index.invariant.own
