use Rattle.std.proofs.Common.{◌≡◌, false, refl, sym, ◌∙◌, ap}
use Rattle.hive_model.specs.Boards.{is_occupied}
use Rattle.hive_model.specs.Neighbours.{ring}
use Rattle.hive_model.specs.Places.{step, dir_before, dir_after}
use Rattle.gates.proofs.Rings.{ring_has}
use Rattle.gates.proofs.Toward.{free_toward, free_before, free_after}
use Rattle.gates.proofs.climbs.climb_amid.Goals as goal

pub returns-then-not-has_dir : goal.returns-then-not-has_dir
returns-then-not-has_dir g c =
    let b = g.B.Board.stacks c.args.board.now in
    let bit = ring_has c.args.taken (ring (is_occupied b) c.args.from) c.requires.taken c.before-first.result in
    let free : is_occupied b (step c.args.from (dir_before c.args.dir)) ≡ false =
    ap (λ d. is_occupied b (step c.args.from d)) (sym c.before-first.ensures) ∙ sym bit ∙ sym c.has_dir.ensures ∙ c.if-not-has_dir.true in
    (λ _. free_toward b c.args.from c.args.dir c.args.to c.requires.leads (free_before b c.args.from c.args.dir free), λ _. refl)

pub returns-then-not-has_dir-2 : goal.returns-then-not-has_dir-2
returns-then-not-has_dir-2 g c =
    let b = g.B.Board.stacks c.args.board.now in
    let bit = ring_has c.args.taken (ring (is_occupied b) c.args.from) c.requires.taken c.after-second.result in
    let free : is_occupied b (step c.args.from (dir_after c.args.dir)) ≡ false =
    ap (λ d. is_occupied b (step c.args.from d)) (sym c.after-second.ensures) ∙ sym bit ∙ sym c.has_dir-2.ensures ∙ c.if-not-has_dir-2.true in
    (λ _. free_toward b c.args.from c.args.dir c.args.to c.requires.leads (free_after b c.args.from c.args.dir free), λ _. refl)
