use Rattle.std.proofs.Common.{ap, rules, refl}
use Rattle.certificate_text.proofs.TakenLaws.{line-taken, lines_given, none-taken}
use Rattle.certificate_text.proofs.head.next_text.Goals as goal

pub returns-in-Line-clause-taken : goal.returns-in-Line-clause-taken
returns-in-Line-clause-taken g c = line-taken c.next_line.result _ _ _ _ c.next_line.ensures.fed c.next_line.ensures.counts.bound c.next_line.ensures.little _ _ _ _ refl (search rules) (search rules) (search rules)

pub returns-in-TooLong-clause-taken : goal.returns-in-TooLong-clause-taken
returns-in-TooLong-clause-taken g c = line-taken c.next_line.result _ _ _ _ c.next_line.ensures.fed c.next_line.ensures.counts.bound c.next_line.ensures.little _ _ _ _ refl (search rules) (search rules) (search rules)

pub returns-in-Failed-clause-taken : goal.returns-in-Failed-clause-taken
returns-in-Failed-clause-taken g c = none-taken c.next_line.result _ _ _ _ c.next_line.ensures.fed c.next_line.ensures.counts.bound c.next_line.ensures.little (ap lines_given c.in-Failed.is) _ _ _ _ refl (search rules) (search rules) (search rules)

pub returns-in-Full-clause-taken : goal.returns-in-Full-clause-taken
returns-in-Full-clause-taken g c = line-taken c.next_line.result _ _ _ _ c.next_line.ensures.fed c.next_line.ensures.counts.bound c.next_line.ensures.little _ _ _ _ refl (search rules) (search rules) (search rules)
