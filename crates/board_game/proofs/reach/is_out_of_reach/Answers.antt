use Rattle.std.proofs.Common.{rules, w32}
use Rattle.std.proofs.lemmas.Int.{to_z-of_z}
use Rattle.board_game.proofs.ReachLaws.{no_more}
use Rattle.board_game.proofs.reach.is_out_of_reach.Goals as goal

pub returns-then-is_no_more : goal.returns-then-is_no_more
returns-then-is_no_more g c = λ _ p on turned goes.
    no_more c.args.reach.now.most c.args.alpha _ _ (to_z-of_z w32 c.args.alpha (search rules)) (c.is_no_more.ensures c.if-is_no_more.true) (c.requires.reach p on turned c.args.place goes).0

pub returns : goal.returns
returns g c = λ afar p on turned goes.
    no_more c.args.reach.now.afar c.args.alpha _ _ (to_z-of_z w32 c.args.alpha (search rules)) (c.is_no_more-2.ensures c.if-not-is_no_more.false) ((c.requires.reach p on turned c.args.place goes).1 (c.goes_afar.ensures afar))
