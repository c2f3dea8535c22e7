use Rattle.std.proofs.Common.{subst, sym, rules}
use Rattle.games_tests.specs.Small.{IsSmall}
use Rattle.games_tests.proofs.Small.{near_each_other, on_board, small_put}
use Rattle.games_tests.proofs.fast_game_tests.rows.stand.Goals as goal

pub put-requires : goal.put-requires
put-requires c = (
  search rules,
  (
    search rules,
    (
      on_board c.args.place c.requires.within,
      λ q on. near_each_other c.args.place q c.requires.within (c.requires.small q on),
    ),
  ),
)

pub returns-then-is_none : goal.returns-then-is_none
returns-then-is_none c = subst IsSmall (sym c.put.ensures) (small_put _ _ _ c.requires.small c.requires.within)
