use Rattle.std.proofs.Common.{rules, ◌≡◌, ◌<◌, ◌∙◌, length, get_or}
use Rattle.count_command.proofs.PartLemmas.{parts_more}
use Rattle.count_command.proofs.parts.parts_text.Goals as goal

pub loop-i-preserved : goal.loop-i-preserved
loop-i-preserved g c =
    let low : c.loop-i.i < length c.in_ok-classes.classes.items = search rules in
    let is : c.index.result.now ≡ get_or c.in_ok-classes.classes.items c.loop-i.i c.index.result.now = search rules in
    record {
      game = c.in_ok-push_part.ensures.game ∙ c.loop-i.invariant.game;
      text = parts_more (g.G.Game.history c.args.game) (g.G.Game.history c.loop-i.game) c.in_ok-classes.classes.items c.loop-i.i c.index.result.now _ _ c.loop-i.invariant.game low is c.loop-i.invariant.text c.in_ok-push_part.ensures.written;
    }
