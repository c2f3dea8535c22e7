use Rattle.std.proofs.Common.{rules}
use Rattle.hive_model.specs.Histories.{position}
use Rattle.root_share.proofs.EndLaws.{open-below}
use Rattle.root_share.proofs.behind.value_behind.Goals as goal

pub returns-in-None-clause-tested : goal.returns-in-None-clause-tested
returns-in-None-clause-tested g c = record {
  exact = search rules;
  below = λ less. open-below (position (g.G.Game.history c.args.game.now)) c.args.m c.args.depth c.args.bound c.in-None.ensures.worth c.requires.least;
}
