use Rattle.std.proofs.Common.{◌≡◌, arith, ◌∙◌, ap, sym, ◌++◌, ◌∷◌, [], take, suc, ◌+◌}
use Rattle.hive_model.specs.Stack.{level_of}
use Rattle.opening_book.proofs.PlyLaws.{take_next}
use Rattle.opening_book.proofs.tally.listed.Goals as goal

pub loop-i-preserved : goal.loop-i-preserved
loop-i-preserved c =
    let level = level_of c.args.stack.now c.args.level in
    let next : suc c.loop-i.i ≡ c.loop-i.i + 1 = omega arith in
    c.in_ok-push.ensures.items ∙ ap (λ ms. ms ++ c.get.result ∷ []) c.loop-i.invariant ∙ sym (take_next level c.loop-i.i c.get.result c.get.ensures) ∙ ap (λ n. take n level) next
