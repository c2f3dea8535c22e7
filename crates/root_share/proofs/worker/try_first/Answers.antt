use Rattle.std.proofs.Common.{rules, ◌≡◌, ◌∙◌, to_z, of_z}
use Rattle.std.proofs.lemmas.Int.{to_z-of_z}
use mir.Syntax.{w32}
use Rattle.root_share.proofs.PlaysLaws.{first-more}
use Rattle.root_share.proofs.worker.try_first.Goals as goal

pub is_ahead-ahead-requires : goal.is_ahead-ahead-requires
is_ahead-ahead-requires g c = rw (← c.requires.may.begin.ready.stands) c.requires.may.begin.listed

pub returns-clause-worker : goal.returns-clause-worker
returns-clause-worker g c =
    let won = c.look_for_win-bound.ensures in
    let made = c.close_child-found.ensures.worker in
    let kept : to_z w32 (of_z w32 c.look_for_win-bound.result) ≡ c.look_for_win-bound.result = to_z-of_z w32 c.look_for_win-bound.result (search rules) in
    record {
      game = made.game ∙ won.worker.game ∙ c.is_ahead-ahead.ensures.same;
      searcher = made.searcher ∙ won.worker.searcher;
      plays = first-more _ _ c.args.work.now.depth c.args.first.now.m c.args.seat.now.me.0.top c.look_for_win-bound.result _ _ _ won.seat.root won.grows
          (rw c.is_ahead-ahead.ensures.count at won.worker.plays) (rw kept at made.plays);
    }
