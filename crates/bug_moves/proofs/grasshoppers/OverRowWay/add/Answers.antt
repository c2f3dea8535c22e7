use Rattle.std.proofs.Common.{arith, refl, sym, ◌∙◌}
use Rattle.bug_moves.proofs.Gaining.{room_for}
use Rattle.bug_moves.proofs.HopLaws.{few_over, more_over, next_over, row_at_hive, gains_hop, gains_no_hop}
use Rattle.std.specs.Prelude.{IsTrue}
use Rattle.hive_model.specs.Boards.{is_occupied}
use Rattle.hive_model.specs.Places.{steps}
use Rattle.std.proofs.Common.{suc, ap}
use Rattle.bug_moves.proofs.TakenLaws.{is_free}
use Rattle.hive_model.specs.Places.{step}
use Rattle.bug_moves.proofs.grasshoppers.OverRowWay.add.Goals as goal

pub returns-then-not-has_dir : goal.returns-then-not-has_dir
returns-then-not-has_dir g c =
    let b = g.B.Board.stacks c.args.board.now in
    let free = is_free b c.args.from c.args.dir c.args.taken c.requires.taken c.has_dir.ensures c.if-not-has_dir.true in
    gains_no_hop b c.args.from c.args.dir 0 (step c.args.from c.args.dir) c.args.out.now.items c.requires.list (omega arith) refl free

pub row-init : goal.row-init
row-init g c = record { place = c.step-place.ensures; over = λ k some low. absurd (omega (arith, some, low)) }

pub overflow_add-over : goal.overflow_add-over
overflow_add-over g c =
    let few = few_over (g.B.Board.stacks c.args.board.now) c.requires.list.sound c.args.from c.args.dir c.row.over c.requires.within c.row.invariant.over in
    omega (arith, few)

pub row-smaller : goal.row-smaller
row-smaller g c =
    let few = few_over (g.B.Board.stacks c.args.board.now) c.requires.list.sound c.args.from c.args.dir c.row.over c.requires.within c.row.invariant.over in
    omega (arith, few)

pub row-preserved : goal.row-preserved
row-preserved g c =
    let b = g.B.Board.stacks c.args.board.now in
    let on : IsTrue (is_occupied b c.row.place) = sym c.is_occupied.ensures ∙ c.row-test.true in
    let next : IsTrue (is_occupied b (steps (suc c.row.over) c.args.from c.args.dir)) = sym (ap (is_occupied b) c.row.invariant.place) ∙ on in
    record {
      place = next_over c.args.from c.args.dir c.row.over c.row.place c.step-place-in-row.result c.row.invariant.place c.step-place-in-row.ensures;
      over = more_over b c.args.from c.args.dir c.row.over c.row.invariant.over next;
    }

pub add_place-requires : goal.add_place-requires
add_place-requires g c =
    let b = g.B.Board.stacks c.args.board.now in
    record { room = room_for b c.row.place c.args.out.now.items c.requires.list (row_at_hive b c.args.from c.args.dir c.row.over c.row.place c.if-over-gt0.true c.row.invariant.over c.row.invariant.place) }

pub returns-then-over-gt0 : goal.returns-then-over-gt0
returns-then-over-gt0 g c =
    let b = g.B.Board.stacks c.args.board.now in
    gains_hop b c.args.from c.args.dir c.row.over c.row.place c.args.out.now.items c.add_place.new.list.items c.requires.list c.if-over-gt0.true c.row.invariant.over c.row.invariant.place
    (sym c.is_occupied.ensures ∙ c.row-test.false) c.add_place.ensures

pub returns-else-over-gt0 : goal.returns-else-over-gt0
returns-else-over-gt0 g c =
    let b = g.B.Board.stacks c.args.board.now in
    gains_no_hop b c.args.from c.args.dir c.row.over c.row.place c.args.out.now.items c.requires.list c.if-over-gt0.false c.row.invariant.place
    (sym c.is_occupied.ensures ∙ c.row-test.false)
