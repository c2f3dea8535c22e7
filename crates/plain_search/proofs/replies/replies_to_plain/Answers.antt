use Rattle.std.proofs.Common.{sym, ap, ◌∙◌}
use Rattle.std.specs.List.{slice_get}
use Rattle.plain_search.proofs.ReplySteps.{placed-once, counted-more}
use Rattle.plain_search.proofs.replies.replies_to_plain.Goals as goal

pub returns-in-Some-clause-count : goal.returns-in-Some-clause-count
returns-in-Some-clause-count g c =
    let found = c.in-Some.ensures in
    sym (c.requires.known found.0 _ (ap (λ es. slice_get es found.0) (sym c.as_slice.ensures.value) ∙ found.1) c.args.piece c.requires.legal c.requires.plain)

pub returns-clause-known : goal.returns-clause-known
returns-clause-known g c =
    counted-more _ _ _ c.args.place _ c.requires.known
    (placed-once _ c.lemma_sound.ensures.sound.board c.args.piece c.args.place _ c.requires.legal c.requires.plain c.replies_after-replies.ensures.count)
    c.note.ensures
