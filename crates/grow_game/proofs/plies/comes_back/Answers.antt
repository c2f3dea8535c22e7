use Rattle.std.proofs.Common.{◌≡◌, IsTrue, ◌↔◌, sym, subst}
use Rattle.hive_model.proofs.SameKeys.{keys}
use Rattle.grow_game.proofs.plies.comes_back.Goals as goal

pub returns-clause-same : goal.returns-clause-same
returns-clause-same g c =
    let before = c.args.before.now in
    let both : IsTrue c.eq.result ↔ (c.key.result ≡ before) = subst (λ b. IsTrue b ↔ (c.key.result ≡ before)) (sym c.eq.ensures) (keys c.key.result before) in
    subst (λ k. IsTrue c.eq.result ↔ (k ≡ before)) c.key.ensures.key both
