use Rattle.std.proofs.Common.{rules, ◌≡◌, ◌*◌, length, sym, ◌∙◌}
use Rattle.tournament_core.specs.Schedules.{pairs}
use Rattle.tournament_core.proofs.Games.{turned, length-schedule}
use Rattle.tournament_core.proofs.plan.Plan.games.Goals as goal

pub returns-clause-all : goal.returns-clause-all
returns-clause-all c =
    let rounds : c.from.result ≡ c.args.self.now.rounds = search rules in
    let openings : c.from-2.result ≡ c.args.self.now.openings = search rules in
    let many : c.pairs.result ≡ length (pairs c.args.self.now) = c.pairs.ensures.all in
    (λ i. rounds i * openings i * many i * 2)
    ∙ sym (turned c.args.self.now.rounds c.args.self.now.openings (length (pairs c.args.self.now)))
    ∙ sym (length-schedule c.args.self.now)
