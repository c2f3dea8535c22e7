use Rattle.std.proofs.Common.{◌≡◌, ◌-◌, length, Some, ap, arith, ◌∙◌}
use Rattle.std.specs.Prelude.{slice_get}
use Rattle.tournament_core.specs.declared.pairs.Pair.{Pair}
use Rattle.tournament_core.specs.Schedules.{pairs}
use Rattle.tournament_core.proofs.PairLemmas.{pairs-gauntlet, length-pairs_of, get-pairs_of}
use Rattle.tournament_core.proofs.plan.Plan.pair.Goals as goal

pub overflow_add-result : goal.overflow_add-result
overflow_add-result c =
    let long : length (pairs c.args.self.now) ≡ c.args.self.now.engines - 1 = ap (length {A = Pair}) (pairs-gauntlet c.args.self.now c.if-self.true) ∙ length-pairs_of c.args.self.now.engines 1 in
    record { fits = omega (arith, long, c.requires.within, c.requires.valid.few_engines) }

pub returns-then-self-clause-there : goal.returns-then-self-clause-there
returns-then-self-clause-there c =
    let long : length (pairs c.args.self.now) ≡ c.args.self.now.engines - 1 = ap (length {A = Pair}) (pairs-gauntlet c.args.self.now c.if-self.true) ∙ length-pairs_of c.args.self.now.engines 1 in
    ap (λ ps. slice_get ps c.args.place) (pairs-gauntlet c.args.self.now c.if-self.true)
    ∙ get-pairs_of c.args.self.now.engines 1 c.args.place (omega (arith, long, c.requires.within))
    ∙ ap (λ k. Some (record { first = 1; second = k })) (omega arith)

pub returns-then-self-clause-high : goal.returns-then-self-clause-high
returns-then-self-clause-high c =
    let long : length (pairs c.args.self.now) ≡ c.args.self.now.engines - 1 = ap (length {A = Pair}) (pairs-gauntlet c.args.self.now c.if-self.true) ∙ length-pairs_of c.args.self.now.engines 1 in
    omega (arith, long, c.requires.within)
