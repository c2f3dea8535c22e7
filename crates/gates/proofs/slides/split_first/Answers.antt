use Rattle.gates.proofs.Firsts.{first_low, first_has, first_gone, first_others}
use Rattle.gates.proofs.slides.split_first.Goals as goal

pub bounds-mask : goal.bounds-mask
bounds-mask c = first_low c.args.mask c.requires.some c.requires.few

pub returns-clause-has : goal.returns-clause-has
returns-clause-has c = first_has c.args.mask c.requires.some c.requires.few

pub returns-clause-gone : goal.returns-clause-gone
returns-clause-gone c = first_gone c.args.mask c.requires.some c.requires.few

pub returns-clause-others : goal.returns-clause-others
returns-clause-others c = first_others c.args.mask c.requires.some c.requires.few
