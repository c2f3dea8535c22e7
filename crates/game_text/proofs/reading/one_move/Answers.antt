use Rattle.std.proofs.Common.{rules, ◌≡◌, ◌∙◌, sym, subst}
use Rattle.hive_model.specs.Boards.{IsBoard}
use Rattle.hive_model.specs.Histories.{position}
use Rattle.hive_model.specs.Repetition.{keys}
use Rattle.game_text.proofs.SeenLaws.{third_seen, seen_some}
use Rattle.game_text.proofs.ReadLaws.{kind_here, plays_made, illegal_made, drawn_made, refused_made}
use Rattle.game_text.proofs.reading.one_move.Goals as goal

pub returns-then-is_legal-clause-ok : goal.returns-then-is_legal-clause-ok
returns-then-is_legal-clause-ok g c =
    let board : g.G.Board.stacks c.args.game.now ≡ (position (g.G.Game.history c.args.game.now)).board = search rules in
    plays_made c.args.seen.now.repetition (keys (g.G.Game.history c.args.game.now).game_type (g.G.Game.history c.args.game.now).made) (position (g.G.Game.history c.args.game.now)) _ _ _ _ _ (c.game_type.ensures ∙ sym (kind_here (g.G.Game.history c.args.game.now))) board c.in-Ok.ensures.denotes c.again.ensures (sym (third_seen c.args.seen.now (g.G.Game.history c.args.game.now) c.requires.seen) ∙ sym c.is_third.ensures ∙ c.if-is_third.false) (c.is_legal.ensures.legal.0 c.if-is_legal.true)

pub returns-else-is_legal-clause-err : goal.returns-else-is_legal-clause-err
returns-else-is_legal-clause-err g c =
    let board : g.G.Board.stacks c.args.game.now ≡ (position (g.G.Game.history c.args.game.now)).board = search rules in
    illegal_made c.args.seen.now.repetition (keys (g.G.Game.history c.args.game.now).game_type (g.G.Game.history c.args.game.now).made) (position (g.G.Game.history c.args.game.now)) _ _ _ _ _ _ c.args.number (c.game_type.ensures ∙ sym (kind_here (g.G.Game.history c.args.game.now))) board c.in-Ok.ensures.denotes c.again.ensures c.is_legal.ensures.test c.if-is_legal.false

pub returns-in-Err-clause-err : goal.returns-in-Err-clause-err
returns-in-Err-clause-err g c =
    let board : g.G.Board.stacks c.args.game.now ≡ (position (g.G.Game.history c.args.game.now)).board = search rules in
    refused_made c.args.seen.now.repetition (keys (g.G.Game.history c.args.game.now).game_type (g.G.Game.history c.args.game.now).made) (position (g.G.Game.history c.args.game.now)) _ _ _ _ c.args.number (c.game_type.ensures ∙ sym (kind_here (g.G.Game.history c.args.game.now))) board (subst IsBoard (sym board) c.requires.sound) c.in-Err.ensures.refuses

pub is_third-requires : goal.is_third-requires
is_third-requires g c = seen_some c.args.seen.now (g.G.Game.history c.args.game.now) c.requires.seen

pub returns-then-is_third-clause-err : goal.returns-then-is_third-clause-err
returns-then-is_third-clause-err g c =
    let board : g.G.Board.stacks c.args.game.now ≡ (position (g.G.Game.history c.args.game.now)).board = search rules in
    drawn_made c.args.seen.now.repetition (keys (g.G.Game.history c.args.game.now).game_type (g.G.Game.history c.args.game.now).made) (position (g.G.Game.history c.args.game.now)) _ _ _ _ c.args.number
    (c.game_type.ensures ∙ sym (kind_here (g.G.Game.history c.args.game.now))) board c.in-Ok.ensures.denotes (sym (third_seen c.args.seen.now (g.G.Game.history c.args.game.now) c.requires.seen) ∙ sym c.is_third.ensures ∙ c.if-is_third.true)
