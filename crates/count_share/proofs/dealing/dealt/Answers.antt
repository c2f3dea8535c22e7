use Rattle.std.proofs.Common.{rules, ◌≡◌, length, subst, sym, ap, ◌∙◌}
use Rattle.std.proofs.lemmas.List.{take_at}
use Rattle.hive_model.specs.Histories.{position}
use Rattle.count_share.specs.Classes.{AreClasses}
use Rattle.count_share.specs.Shares.{AreDealt, AreIdle}
use Rattle.count_share.proofs.dealing.dealt.Goals as goal

pub returns-clause-dealt : goal.returns-clause-dealt
returns-clause-dealt g c =
    let p = position (g.G.Game.history c.args.game.now) in
    let classes = subst (AreClasses p) (sym c.as_slice.ensures.value) c.in_ok-classes.ensures.classes in
    let at : position (g.G.Game.history c.classes_of.new.game) ≡ p = ap position c.in_ok-classes.ensures.game in
    let idle = subst (AreIdle p c.args.plies) (sym c.as_mut_slice.ensures.value) (subst (λ q. AreIdle q c.args.plies c.in_ok-workers.workers.items) at c.in_ok-workers.ensures.idle) in
    let dealt = c.in_ok-deal.ensures p classes idle in
    let same : length c.deal.new.workers ≡ length c.as_mut_slice.result.now = search rules in
    let long : length c.deal.new.workers ≡ c.in_ok-workers.workers.len = same ∙ c.as_mut_slice.ensures.len in
    subst (AreDealt p c.args.plies) (sym (take_at c.deal.new.workers _ c.in_ok-workers.workers.len long)) dealt
