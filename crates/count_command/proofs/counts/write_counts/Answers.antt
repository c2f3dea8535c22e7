use Rattle.std.proofs.Common.{◌≡◌, ◌+◌, ◌-◌, ap, ◌∙◌, arith}
use Rattle.io_edge.specs.Outside.{behind}
use Rattle.hive_model.specs.Histories.{position}
use Rattle.hive_model.specs.Minimax.{lines}
use Rattle.count_command.specs.Count.{count_text}
use Rattle.count_command.proofs.CountLemmas.{count_cut, count_on}
use Rattle.count_command.proofs.counts.write_counts.Goals as goal

pub returns-then-not-write_all-clause-part : goal.returns-then-not-write_all-clause-part
returns-then-not-write_all-clause-part g c =
    let high = c.loop-n-test.true in
    count_cut (position (g.G.Game.history c.args.game.now)) c.loop-n.n c.args.plies c.count_lines.result c.as_bytes.result.now (g.K.Sink.written c.args.output.now) (g.K.Sink.written c.loop-n.output) (g.K.Sink.written c.write_all.new.sink)
    c.loop-n.auto.n (omega (arith, high)) (c.as_bytes.ensures.value ∙ (c.as_str.ensures.value ∙ c.count_line-line.ensures)) (c.count_lines.ensures.count ∙ ap (λ k. lines (position k) c.loop-n.n) c.loop-n.invariant.game) c.loop-n.invariant.wrote c.if-not-write_all.ensures.part

pub loop-n-preserved : goal.loop-n-preserved
loop-n-preserved g c =
    let wrote = count_on (position (g.G.Game.history c.args.game.now)) c.loop-n.n c.count_lines.result c.as_bytes.result.now (g.K.Sink.written c.args.output.now) (g.K.Sink.written c.loop-n.output) (g.K.Sink.written c.write_all.new.sink)
    c.loop-n.auto.n (c.as_bytes.ensures.value ∙ (c.as_str.ensures.value ∙ c.count_line-line.ensures)) (c.count_lines.ensures.count ∙ ap (λ k. lines (position k) c.loop-n.n) c.loop-n.invariant.game) c.loop-n.invariant.wrote c.if-not-write_all.ensures.all in
    let next : c.loop-n.n ≡ c.loop-n.n + 1 - 1 = omega arith in record {
      game = c.count_lines.ensures.game ∙ c.loop-n.invariant.game;
      stack = c.count_lines.ensures.stack ∙ c.loop-n.invariant.stack;
      wrote = wrote ∙ ap (λ n. behind (g.K.Sink.written c.args.output.now) (count_text (position (g.G.Game.history c.args.game.now)) n)) next;
      faults = c.if-not-write_all.ensures.cause.same (λ e. cc) ∙ c.loop-n.invariant.faults;
    }

pub returns-clause-all : goal.returns-clause-all
returns-clause-all g c =
    let past = c.loop-n-test.false in
    let within = c.loop-n.auto.n-end c.requires.some in
    absurd (omega (arith, past, within))

pub returns-else-not-write_all-clause-all : goal.returns-else-not-write_all-clause-all
returns-else-not-write_all-clause-all g c =
    let wrote = count_on (position (g.G.Game.history c.args.game.now)) c.loop-n.n c.count_lines.result c.as_bytes.result.now (g.K.Sink.written c.args.output.now) (g.K.Sink.written c.loop-n.output) (g.K.Sink.written c.write_all.new.sink)
    c.loop-n.auto.n (c.as_bytes.ensures.value ∙ (c.as_str.ensures.value ∙ c.count_line-line.ensures)) (c.count_lines.ensures.count ∙ ap (λ k. lines (position k) c.loop-n.n) c.loop-n.invariant.game) c.loop-n.invariant.wrote c.if-not-write_all.ensures.all in
    let last : c.loop-n.n ≡ c.args.plies = omega arith in
    wrote ∙ ap (λ n. behind (g.K.Sink.written c.args.output.now) (count_text (position (g.G.Game.history c.args.game.now)) n)) last
