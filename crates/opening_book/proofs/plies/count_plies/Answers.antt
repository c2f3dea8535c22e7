use Rattle.std.proofs.Common.{◌≡◌, ◌+◌, drop, subst, ◌∙◌, ap, arith, length}
use Rattle.std.specs.Prelude.{slice_index, ◌-◌}
use Rattle.opening_book.specs.Book.{ply_count, line_count}
use Rattle.hive_model.specs.Boards.{IsBoard}
use Rattle.hive_model.specs.Positions.{Position}
use Rattle.hive_model.specs.Histories.{History, position}
use Rattle.hive_model.proofs.GetLemmas.{get_exists}
use Rattle.opening_book.specs.Plies.{one_if, is_taken_to}
use Rattle.opening_book.proofs.PlyLaws.{IsStep, stepped, placed_by, taken_is, one_most}
use Rattle.opening_book.proofs.TallyLaws.{line_next, sum_next}
use Rattle.opening_book.proofs.plies.count_plies.Goals as goal

pub count_ply-requires-clause-placed : goal.count_ply-requires-clause-placed
count_ply-requires-clause-placed g c =
    let now : History = g.G.Game.history c.loop-i.played in
    let back : History = g.G.Game.history c.undo.new.self in
    let h = c.loop-i.invariant in
    let s : IsStep (g.G.Game.history c.args.played.now) now back c.loop-i.i c.move_at-m.result =
    stepped (g.G.Game.history c.args.played.now) now back c.loop-i.i c.plies-count.result c.move_at-m.result c.plies-count.ensures.plies c.loop-i-test.true h.game_type h.made c.move_at-m.ensures c.undo.ensures.back in
    placed_by (position back) c.move_at-m.result (subst (λ (p : Position). IsBoard p.board) s.position_is h.board)

pub loop-i-preserved : goal.loop-i-preserved
loop-i-preserved g c =
    let now : History = g.G.Game.history c.loop-i.played in
    let back : History = g.G.Game.history c.undo.new.self in
    let h = c.loop-i.invariant in
    let n = c.move_at-m.result in
    let shifts = c.shifts_between-shifts.result in
    let s : IsStep (g.G.Game.history c.args.played.now) now back c.loop-i.i n =
    stepped (g.G.Game.history c.args.played.now) now back c.loop-i.i c.plies-count.result n c.plies-count.ensures.plies c.loop-i-test.true h.game_type h.made c.move_at-m.ensures c.undo.ensures.back in
    let board : IsBoard (position back).board = c.key-before.ensures.sound.board in
    record {
      game_type = s.game_type;
      made = s.made;
      board = board;
      counted = λ p is e j m at.
          let same = taken_is shifts c.key-before.result c.args.root.now (position back) p n m c.shifts_between-shifts.ensures c.key-before.ensures.key e board is in
          let old = slice_index c.loop-i.counts j in
          let made = (g.G.Game.history c.args.played.now).made in
          let left = drop (length made - c.loop-i.i) made in
          let more = drop (length made - (c.loop-i.i + 1)) made in
          let bit = ap (λ b. old + one_if b) same in
          let up : slice_index c.count_ply.new.counts j ≡ old + ply_count p m (position back) n = c.count_ply.ensures j m at ∙ bit in
          let line = line_next p m (position back) (position now) n left more s.rest s.position_is in
          sum_next (slice_index c.count_ply.new.counts j) old (slice_index c.args.counts.now j) (ply_count p m (position back) n) (line_count p m (position back) more) (line_count p m (position now) left)
          up (h.counted p is e j m at) line;
      bound = λ j low.
          let m = get_exists c.args.moves.now j (omega (arith, low, c.requires.long)) in
          let up = c.count_ply.ensures j m.0 m.1 in
          let bit = one_most (is_taken_to shifts n m.0) in
          let before = h.bound j low in
          omega (arith, up, bit, before);
    }
