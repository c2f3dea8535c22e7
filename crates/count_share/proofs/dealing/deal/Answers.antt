use Rattle.std.proofs.Common.{rules, ◌%◌, ◌<◌, length, sym, ◌∙◌, subst}
use Rattle.count_share.specs.Shares.{HasTaken}
use Rattle.count_share.proofs.ShareLaws.{deal-none, deal-long, deal-members, deal-shares, deal-whole}
use Rattle.count_share.proofs.dealing.deal.Goals as goal

pub loop-i-init : goal.loop-i-init
loop-i-init g c = record {
  long = λ i. length c.args.workers.now;
  members = λ p are idle. idle.0;
  shares = λ p are idle n. deal-none p n c.args.workers.now c.args.classes.now idle.1;
}

pub loop-i-preserved : goal.loop-i-preserved
loop-i-preserved g c =
    let turn = c.loop-i.invariant in
    let place = c.loop-i.i % length c.loop-i.workers in
    let took = subst (λ o. HasTaken c.index-classes-i.result o c.take.new.self) (sym c.index-workers-next.is) c.in_ok-take.ensures in
    let low : place < length c.loop-i.workers = search rules in
    record {
      long = deal-long c.loop-i.workers place c.take.new.self ∙ turn.long;
      members = λ p are idle. deal-members p c.args.plies c.loop-i.workers place c.index-workers-next.result c.take.new.self c.index-classes-i.result c.args.classes.now c.loop-i.i
          low c.index-workers-next.is c.loop-i-test.true c.index-classes-i.is are (turn.members p are idle) took;
      shares = λ p are idle n. deal-shares p n c.loop-i.workers place c.index-workers-next.result c.take.new.self c.index-classes-i.result c.args.classes.now c.loop-i.i
          low c.index-workers-next.is c.loop-i-test.true c.index-classes-i.is (turn.shares p are idle n) took;
    }

pub returns : goal.returns
returns g c = λ p are idle. record {
  members = c.loop-i.invariant.members p are idle;
  whole = λ n low. deal-whole p n c.loop-i.workers c.args.classes.now c.loop-i.i c.loop-i-test.false (c.loop-i.invariant.shares p are idle n) ∙ are.adds_up n low;
}
