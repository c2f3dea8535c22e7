use Rattle.std.proofs.Common.{rules, ◌≡◌, length, subst, slice_index_or}
use Rattle.cup.specs.Played.{IsSettled}
use Rattle.cup.proofs.EachGame.{zip-each}
use Rattle.cup.proofs.run.run_games.Goals as goal

pub returns : goal.returns
returns g c =
    let long : length c.for_each_mut.new.s ≡ length c.args.jobs.now = search rules in
    zip-each IsSettled c.args.jobs.now c.for_each_mut.new.s long
    (λ i d h.
    let turn = (c.for_each_mut.ensures i d h).1 in
    let done : IsSettled turn.argument.now turn.after_call.now = search rules in
    subst (IsSettled (slice_index_or c.args.jobs.now i d)) turn.left (subst (λ old. IsSettled old turn.after_call.now) {y = slice_index_or c.args.jobs.now i d} turn.argument_is done))
