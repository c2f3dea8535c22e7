-- The loop over the acts.
use Rattle.std.proofs.Common.{arith}
use Rattle.line_feed.specs.Feed.{fresh}
use Rattle.match_runner.specs.Wires.{Watch, watch}
use Rattle.match_runner.specs.Turns.{Side, side_of}
use Rattle.match_runner.proofs.Over.{ends_over, rises}
use Rattle.match_runner.proofs.Progress.{run_begin, run_on, run_falls, room_on, room_begin}
use Rattle.match_runner.proofs.run.run_acts.Goals as goal

pub acts-init : goal.acts-init
acts-init g c =
    let room = room_begin c.args.referee.now.setup c.args.referee.now c.requires.setup c.requires.begin in
    let white : Side = side_of fresh (g.L.Source.rest c.args.white.now) (g.L.Sink.written c.args.white.now) in
    let black : Side = side_of fresh (g.L.Source.rest c.args.black.now) (g.L.Sink.written c.args.black.now) in
    rw (c.requires.white_reader, c.requires.black_reader) (record {
      ran = run_begin c.args.referee.now.setup c.args.referee.now white black (watch (g.C.Clock.last c.args.clock.now) (g.C.Clock.readings c.args.clock.now)) c.requires.setup c.requires.begin;
      w_little = record { no_lf = tt; front = omega arith; ahead = omega arith };
      b_little = record { no_lf = tt; front = omega arith; ahead = omega arith };
      w_room = λ _. room;
      b_room = λ _. room;
      w_reads = omega arith;
      w_writes = omega arith;
      b_reads = omega arith;
      b_writes = omega arith;
      clock = omega arith;
    })

pub acts-smaller : goal.acts-smaller
acts-smaller g c =
    run_falls c.args.referee.now.setup c.acts.referee c.one_act.new.referee _ _ (side_of c.one_act.new.white_lines (g.L.Source.rest c.one_act.new.white) (g.L.Sink.written c.one_act.new.white)) _ _
    (side_of c.one_act.new.black_lines (g.L.Source.rest c.one_act.new.black) (g.L.Sink.written c.one_act.new.black)) _ _ _ _ c.acts.invariant.ran c.in-GoOn.ensures.turned

pub acts-preserved : goal.acts-preserved
acts-preserved g c =
    let i = c.acts.invariant in
    let a = c.in-GoOn.ensures in
    let w2 : Side = side_of c.one_act.new.white_lines (g.L.Source.rest c.one_act.new.white) (g.L.Sink.written c.one_act.new.white) in
    let b2 : Side = side_of c.one_act.new.black_lines (g.L.Source.rest c.one_act.new.black) (g.L.Sink.written c.one_act.new.black) in
    let r2 : Watch = watch (g.C.Clock.last c.one_act.new.clock) (g.C.Clock.readings c.one_act.new.clock) in
    let less = run_falls c.args.referee.now.setup c.acts.referee c.one_act.new.referee _ _ w2 _ _ b2 _ _ _ _ i.ran a.turned in
    record {
      ran = run_on c.args.referee.now.setup c.acts.referee c.one_act.new.referee _ _ w2 _ _ b2 _ _ r2 i.ran a.turned a.clock.no_more;
      w_little = a.white_reader.little;
      b_little = a.black_reader.little;
      w_room = room_on c.acts.referee c.one_act.new.referee _ w2 _ b2 _ _ _ _ a.turned less i.w_room a.white_reader.room;
      b_room = room_on c.acts.referee c.one_act.new.referee _ w2 _ b2 _ _ _ _ a.turned less i.b_room a.black_reader.room;
      w_reads = let x = a.white_causes.reads.later in let y = i.w_reads in omega (arith, x, y);
      w_writes = let x = a.white_causes.writes.later in let y = i.w_writes in omega (arith, x, y);
      b_reads = let x = a.black_causes.reads.later in let y = i.b_reads in omega (arith, x, y);
      b_writes = let x = a.black_causes.writes.later in let y = i.b_writes in omega (arith, x, y);
      clock = let x = a.clock.later in let y = i.clock in omega (arith, x, y);
    }

pub returns-in-Finished-clause-ran : goal.returns-in-Finished-clause-ran
returns-in-Finished-clause-ran g c =
    let i = c.acts.invariant in
    let a = c.in-Finished.ensures in
    ends_over _ c.args.referee.now.setup c.acts.referee _ c.one_act.new.white_lines c.one_act.new.black_lines _ _ _ _ _ _ _ _ _ c.requires.setup tt i.ran a.turned a.clock a.white_reader.little a.black_reader.little
    (rises _ _ _ _ _ _ _ _ _ i.w_reads i.w_writes i.b_reads i.b_writes a.white_causes a.black_causes)

pub returns-in-ReadFault-clause-ran : goal.returns-in-ReadFault-clause-ran
returns-in-ReadFault-clause-ran g c =
    let i = c.acts.invariant in
    let a = c.in-ReadFault.ensures in
    ends_over _ c.args.referee.now.setup c.acts.referee _ c.one_act.new.white_lines c.one_act.new.black_lines _ _ _ _ _ _ _ _ _ c.requires.setup tt i.ran a.turned a.clock a.white_reader.little a.black_reader.little
    (rises _ _ _ _ _ _ _ _ _ i.w_reads i.w_writes i.b_reads i.b_writes a.white_causes a.black_causes)

pub returns-in-WriteFault-clause-ran : goal.returns-in-WriteFault-clause-ran
returns-in-WriteFault-clause-ran g c =
    let i = c.acts.invariant in
    let a = c.in-WriteFault.ensures in
    ends_over _ c.args.referee.now.setup c.acts.referee _ c.one_act.new.white_lines c.one_act.new.black_lines _ _ _ _ _ _ _ _ _ c.requires.setup tt i.ran a.turned a.clock a.white_reader.little a.black_reader.little
    (rises _ _ _ _ _ _ _ _ _ i.w_reads i.w_writes i.b_reads i.b_writes a.white_causes a.black_causes)
