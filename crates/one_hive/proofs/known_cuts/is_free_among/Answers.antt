use Rattle.std.proofs.Common.{sym, ◌∙◌}
use Rattle.std.proofs.lemmas.Bool.{eq-eqb}
use Rattle.one_hive.proofs.FreeMarks.{uncut_is}
use Rattle.one_hive.proofs.known_cuts.is_free_among.Goals as goal

pub returns : goal.returns
returns g c =
    uncut_is (g.B.Board.stacks c.args.board.now) c.in-Some.ensures.board c.args.piece c.in-Some.spot c.is_cut_among.result (sym c.in-Some.ensures.spot)
    (eq-eqb _ _ (c.if-spot-height.false ∙ c.height.ensures)) c.is_cut_among.ensures
