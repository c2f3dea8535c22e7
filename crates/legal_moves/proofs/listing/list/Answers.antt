use Rattle.std.proofs.Common.{◌<◌, length, sym, ◌∙◌, ap, arith}
use Rattle.hive_model.specs.Stack.{with_level}
use Rattle.hive_model.proofs.MoveLaws.{over_moves}
use Rattle.hand_rules.specs.Listing.{last_level}
use Rattle.legal_moves.specs.Going.{position_of}
use Rattle.legal_moves.proofs.Listed.{last_long, pass_listed, pairs_listed}
use Rattle.legal_moves.proofs.listing.list.Goals as goal

pub returns-then-over : goal.returns-then-over
returns-then-over g c =
    let b = g.B.Board.stacks c.args.board.now in
    let p = position_of b c.args.turn.now in
    c.begin_level.ensures ∙ ap (with_level c.args.out.now) (sym (over_moves p (sym c.requires.over ∙ c.if-over.true)))

pub returns-then-level_len-eq0 : goal.returns-then-level_len-eq0
returns-then-level_len-eq0 g c =
    let b = g.B.Board.stacks c.args.board.now in
    let p = position_of b c.args.turn.now in
    let s = c.push_pairs.new.out in
    let short = last_long s c.levels.result c.level_len.result c.levels.ensures c.level_len.ensures ∙ c.if-level_len-eq0.true in
    c.push.ensures ∙ pass_listed p c.lemma_board.ensures (sym c.requires.over ∙ c.if-over.false) c.args.out.now c.begin_level.new.self s c.begin_level.ensures c.requires.level c.push_pairs.ensures short

pub returns-else-level_len-eq0 : goal.returns-else-level_len-eq0
returns-else-level_len-eq0 g c =
    let b = g.B.Board.stacks c.args.board.now in
    let p = position_of b c.args.turn.now in
    let s = c.push_pairs.new.out in
    let many = last_long s c.levels.result c.level_len.result c.levels.ensures c.level_len.ensures in
    let long : 0 < length (last_level s) = omega (arith, many, c.if-level_len-eq0.false) in
    pairs_listed p c.lemma_board.ensures (sym c.requires.over ∙ c.if-over.false) c.args.out.now c.begin_level.new.self s c.begin_level.ensures c.requires.level c.push_pairs.ensures long
