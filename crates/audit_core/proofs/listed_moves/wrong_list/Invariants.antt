use Rattle.std.proofs.Common.{◌≡◌, ◌≤◌, [], length}
use Rattle.hive_model.specs.Histories.{position}
use Rattle.hive_model.specs.Strings.{parts}
use Rattle.audit_core.specs.Judging.{wrong_in}
use Rattle.audit_core.proofs.listed_moves.wrong_list.Given as goal

abbrev pub invariant-parts : goal.invariant-parts
invariant-parts g l = record {
  same :
      wrong_in (g.G.Game.history l.game).game_type (position (g.G.Game.history l.game)).board l.legal l.listed (parts l.rest)
      ≡ wrong_in (g.G.Game.history l.game).game_type (position (g.G.Game.history l.game)).board l.legal [] (parts l.line);
  short : length l.rest ≤ 65536;
}

abbrev pub decreases-parts : goal.decreases-parts
decreases-parts g l = length l.rest
