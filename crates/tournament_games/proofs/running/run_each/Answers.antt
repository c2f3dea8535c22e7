use Rattle.std.proofs.Common.{rules, ◌≡◌, length, subst, slice_index_or}
use Rattle.tournament_games.specs.Games.{IsSettled}
use Rattle.cup.proofs.EachGame.{zip-each}
use Rattle.tournament_games.proofs.running.run_each.Goals as goal

pub returns : goal.returns
returns g c =
    let t = c.args.tournament.now in
    let long : length c.for_each_mut.new.s ≡ length c.args.jobs.now = search rules in
    zip-each (IsSettled t) c.args.jobs.now c.for_each_mut.new.s long
    (λ i d h.
    let turn = (c.for_each_mut.ensures i d h).1 in
    let done : IsSettled t turn.argument.now turn.after_call.now = search rules in
    subst (IsSettled t (slice_index_or c.args.jobs.now i d)) turn.left (subst (λ old. IsSettled t old turn.after_call.now) {y = slice_index_or c.args.jobs.now i d} turn.argument_is done))
