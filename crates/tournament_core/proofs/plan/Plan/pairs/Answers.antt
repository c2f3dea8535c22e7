use Rattle.std.proofs.Common.{rules, ◌≡◌, ◌-◌, ◌*◌, ◌/◌, length, sym, ap, ◌∙◌}
use Rattle.tournament_core.specs.declared.pairs.Pair.{Pair}
use Rattle.tournament_core.proofs.PairLemmas.{pairs-gauntlet, pairs-all, length-pairs_of, length-all_pairs}
use Rattle.tournament_core.proofs.plan.Plan.pairs.Goals as goal

pub returns-then-self-clause-all : goal.returns-then-self-clause-all
returns-then-self-clause-all c =
    let engines : c.from-engines.result ≡ c.args.self.now.engines = search rules in
    ap (λ k. k - 1) engines
    ∙ sym (length-pairs_of c.args.self.now.engines 1)
    ∙ ap (length {A = Pair}) (sym (pairs-gauntlet c.args.self.now c.if-self.true))

pub returns-else-self-clause-all : goal.returns-else-self-clause-all
returns-else-self-clause-all c =
    let engines : c.from-engines.result ≡ c.args.self.now.engines = search rules in
    ap (λ k. k * (k - 1) / 2) engines
    ∙ length-all_pairs c.args.self.now.engines
    ∙ ap (length {A = Pair}) (sym (pairs-all c.args.self.now c.if-self.false))
