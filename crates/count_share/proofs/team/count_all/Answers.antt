use Rattle.std.proofs.Common.{rules, ◌≡◌, length, subst, slice_index_or}
use Rattle.count_share.specs.Shares.{HasCounted}
use Rattle.count_share.proofs.ShareLaws.{zip-each}
use Rattle.count_share.proofs.team.count_all.Goals as goal

pub returns : goal.returns
returns g c =
    let long : length c.for_each_mut.new.s ≡ length c.args.workers.now = search rules in
    zip-each (HasCounted c.args.plies) c.args.workers.now c.for_each_mut.new.s long
    (λ i d h.
    let turn = (c.for_each_mut.ensures i d h).1 in
    let done : HasCounted c.args.plies turn.argument.now turn.after_call.now = search rules in
    subst (HasCounted c.args.plies (slice_index_or c.args.workers.now i d)) turn.left (subst (λ old. HasCounted c.args.plies old turn.after_call.now) {y = slice_index_or c.args.workers.now i d} turn.argument_is done))
