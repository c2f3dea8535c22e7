-- Each answer of the reader is an event.
use Rattle.std.proofs.Common.{refl, ◌∙◌, ap, ℕ, List}
use Rattle.match_core.specs.MatchState.{MatchState, Line, TooLong, Ended, next}
use Rattle.match_runner.proofs.Hearing.{little, never_full, long_finishes, not_long, not_ended}
use Rattle.match_runner.proofs.turns.listen.Goals as goal

pub returns-in-Ok-clause-heard : goal.returns-in-Ok-clause-heard
returns-in-Ok-clause-heard g c =
    let s : MatchState = c.args.referee.now in
    let said : List ℕ → MatchState = λ b. next s (Line b) in
    (Line c.next_short_line.new.self.last, c.in-Ok.ensures.ok ∙ ap said c.line.ensures, c.in-Line.ensures.ahead, not_long _)

pub returns-in-Ok-clause-reader : goal.returns-in-Ok-clause-reader
returns-in-Ok-clause-reader g c = record { little = c.in-Line.ensures.little; room = λ _. little _ _ c.in-Line.ensures.passes }

pub returns-in-Long-clause-heard : goal.returns-in-Long-clause-heard
returns-in-Long-clause-heard g c = (TooLong, c.step_on.ensures, c.in-Long.ensures.ahead.0, λ e. c.in-Long.ensures.ahead.1)

pub returns-in-Long-clause-reader : goal.returns-in-Long-clause-reader
returns-in-Long-clause-reader g c = record {
  little = c.in-Long.ensures.little;
  room = λ goes_on.
      let done = long_finishes c.args.referee.now c.step_on.new.referee c.args.side c.requires.act c.step_on.ensures in absurd (cc);
}

pub returns-in-End-clause-heard : goal.returns-in-End-clause-heard
returns-in-End-clause-heard g c =
    (Ended, c.step_on-in-End.ensures, c.in-End.ensures.ahead.0, not_ended)

pub returns-in-Full-clause-heard : goal.returns-in-Full-clause-heard
returns-in-Full-clause-heard g c = absurd (never_full _ _ _ _ c.in-Full.ensures.fed (c.in-Full.ensures.full refl) c.requires.room)
