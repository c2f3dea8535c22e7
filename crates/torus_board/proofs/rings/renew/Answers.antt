use Rattle.std.proofs.Common.{sym, ◌∙◌, subst, ℕ, ◌<◌}
use Rattle.torus_board.proofs.RingLaws.{mask_written, mask_there, has_mask}
use Rattle.torus_board.proofs.rings.renew.Goals as goal

pub returns-clause-here : goal.returns-clause-here
returns-clause-here c b now m high turned was h =
    let low = subst (λ (k : ℕ). c.index_in-index.result < k) (sym c.requires.rings) c.index_in-index.ensures.bound in
    sym (mask_written c.args.side c.args.rings.now c.args.place c.index_in-index.result c.index_in-index.ensures.index low c.mask_after-mask.result m h)
    ∙ c.mask_after-mask.ensures.mask b now high turned
    (λ same. was c.ring_in-last.result.mask (has_mask c.args.side c.args.rings.now c.args.place c.index_in-index.result c.index_in-index.ensures.index c.ring_in-last.result c.ring_in-last.ensures same))

pub returns-clause-there : goal.returns-clause-there
returns-clause-there c q m other h =
    let low = subst (λ (k : ℕ). c.index_in-index.result < k) (sym c.requires.rings) c.index_in-index.ensures.bound in
    mask_there c.args.side c.args.rings.now c.args.place c.index_in-index.result c.index_in-index.ensures.index low c.mask_after-mask.result q m other h
