use Rattle.std.proofs.Common.{◌+◌, ◌∙◌, ap, sym, subst}
use Rattle.std.proofs.lemmas.List.{get_or_default}
use Rattle.tournament_core.specs.Counts.{IsTallyOf}
use Rattle.tournament_games.proofs.Runs.{resumed-none, resumed-noted}
use Rattle.tournament_games.proofs.playing.resume.Goals as goal

pub loop-place-init : goal.loop-place-init
loop-place-init c = record {
  engines = c.in_ok-tally.ensures.engines;
  games = c.in_ok-tally.ensures.empty.many;
  noted = subst (λ games. IsTallyOf games c.in_ok-tally.tally) (sym (resumed-none c.args.plan)) c.in_ok-tally.ensures.empty;
}

pub loop-place-preserved : goal.loop-place-preserved
loop-place-preserved c = record {
  engines = c.note.ensures.engines ∙ c.loop-place.invariant.engines;
  games = c.note.ensures.count ∙ ap (λ n. n + 1) c.loop-place.invariant.games;
  noted = resumed-noted c.args.plan c.args.ends.now c.loop-place.place c.fixture.result c.note.new.self c.fixture.ensures.there c.loop-place-test.true (c.note.ensures.noted _ c.loop-place.invariant.noted) (get_or_default c.args.ends.now c.loop-place.place _ _ c.loop-place-test.true);
}
