use Rattle.std.proofs.Common.{◌≡◌, ◌∙◌, sym, inl, refl, false, true, not, subst}
use Rattle.std.proofs.lemmas.Bool.{and_parts}
use Rattle.hive_model.specs.Boards.{is_occupied}
use Rattle.hive_model.specs.Places.{step}
use Rattle.one_hive.specs.Walks.{others, is_left_out, Meets}
use Rattle.one_hive.proofs.Taken.{none_taken}
use Rattle.one_hive.proofs.Walking.{spread_one}
use Rattle.one_hive.proofs.met.meet_toward.Goals as goal

pub returns-then-not-has_dir-clause-spreads : goal.returns-then-not-has_dir-clause-spreads
returns-then-not-has_dir-clause-spreads g c =
    let b = g.B.Board.stacks c.args.board.now in
    let p = step c.args.from c.args.dir in
    let free = none_taken b c.args.from c.args.taken c.requires.taken c.args.dir c.has_dir.result c.has_dir.ensures c.if-not-has_dir.true in
    let old = c.args.met.now.places.items in
    spread_one (others b c.args.left_out) c.args.from c.args.dir old old
    (inl (refl, λ h. let wrong : false ≡ true = sym free ∙ (and_parts (not (is_left_out c.args.left_out p)) (is_occupied b p) h).1 in absurd (cc)))

pub returns-clause-spreads : goal.returns-clause-spreads
returns-clause-spreads g c =
    let o = others (g.B.Board.stacks c.args.board.now) c.args.left_out in
    let old = c.args.met.now.places.items in
    let new = c.meet.new.met.places.items in
    spread_one o c.args.from c.args.dir old new (subst (λ p. Meets o p old new) c.step.ensures c.meet.ensures.meets)
