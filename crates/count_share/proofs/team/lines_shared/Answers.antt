use Rattle.std.proofs.Common.{sym, ◌∙◌, ◌<◌, ◌^◌, subst}
use Rattle.count_share.proofs.ShareLaws.{counted-sum}
use Rattle.count_share.proofs.team.lines_shared.Goals as goal

pub total_of-requires : goal.total_of-requires
total_of-requires g c = subst (λ n. n < 2 ^ 128) (sym (counted-sum c.args.plies c.args.workers.now c.count_all.new.workers c.count_all.ensures)) c.requires.fits

pub returns-clause-sum : goal.returns-clause-sum
returns-clause-sum g c = c.total_of.ensures ∙ counted-sum c.args.plies c.args.workers.now c.count_all.new.workers c.count_all.ensures
