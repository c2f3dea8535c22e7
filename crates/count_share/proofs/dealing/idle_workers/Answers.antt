use Rattle.std.proofs.Common.{◌≡◌, length, arith, ap, length-append, [], ◌∷◌}
use Rattle.std.proofs.lemmas.List.Elements.{All-push, All-same}
use Rattle.hive_model.specs.Histories.{position}
use Rattle.count_share.specs.Shares.{IsMember, Share}
use Rattle.count_share.proofs.ShareLaws.{idle-member}
use Rattle.count_share.proofs.dealing.idle_workers.Goals as goal

pub loop-made-preserved : goal.loop-made-preserved
loop-made-preserved g c =
    let p = position (g.G.Game.history c.args.game.now) in
    let turn = c.loop-made.invariant in
    let items = c.in_ok-push.ensures.items in
    let old = c.loop-made.workers.items in
    let made = c.in_ok-new.field-0 in
    let more = length-append old (made ∷ []) in
    let e = ap length items in
    let member : IsMember p c.args.plies made = idle-member p c.args.plies made (g.G.Game.history c.in_ok-own.own) c.in_ok-own.ensures.position c.in_ok-own.ensures.room c.in_ok-new.ensures in
    let none : made.classes ≡ [] = ap (λ (s : Share). s.classes) c.in_ok-new.ensures in
    record {
      idle = (
        All-same (IsMember p c.args.plies) c.push.new.self.items _ items (All-push (IsMember p c.args.plies) old made turn.idle.0 member),
        All-same (λ (s : Share). s.classes ≡ []) c.push.new.self.items _ items (All-push (λ (s : Share). s.classes ≡ []) old made turn.idle.1 none),
      );
      count = omega (arith, e, more, turn.count);
    }
