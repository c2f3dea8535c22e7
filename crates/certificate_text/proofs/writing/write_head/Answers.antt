use Rattle.std.proofs.Common.{rules}
use Rattle.certificate_text.proofs.TextLaws.{head-pushed}
use Rattle.certificate_text.proofs.writing.write_head.Goals as goal

pub returns-clause-head : goal.returns-clause-head
returns-clause-head g c =
    let start = g.G.Game.history c.args.game.now in
    let claim = c.args.claim.now in
    head-pushed start.game_type start.made c.args.version claim.depth claim.best claim.value c.new-text.result c.push_number.new.text c.write_game.new.out c.push.new.self c.push_number-2.new.text c.push_move.new.text c.push_value.new.text
    c.new-text.ensures (search rules) c.in_ok-write_game.ensures.written c.in_ok-push.ensures.pushed (search rules) c.in_ok-push_move.ensures.line (search rules)
