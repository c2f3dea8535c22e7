-- Each answer of the part is an answer of the line.
use Rattle.std.proofs.Common.{rules, arith, ◌≡◌, ◌≢◌, ap, length}
use Rattle.line_feed.specs.declared.line_answers.LineAnswer.TheVariants.{Line}
use Rattle.line_feed.proofs.Feeding.{begins, feeds_ended, feeds_last, feeds_end, feeds_long, feeds_held_short, stays_reader, adds_up, empty_list, never}
use Rattle.line_feed.proofs.reader.LineReader.read_short.Goals as goal

pub returns-in-Ended-clause-fed : goal.returns-in-Ended-clause-fed
returns-in-Ended-clause-fed g c =
    feeds_ended Line _ _ _ (begins _ _ _ _ _ _ _ _ c.self.view_is c.self.invariant c.begin.ensures.part c.requires) c.in-Ended.ensures.read c.pass_short_part.ensures.closed c.pass_short_part.ensures.passed

pub returns-in-Long-clause-fed : goal.returns-in-Long-clause-fed
returns-in-Long-clause-fed g c =
    feeds_long _ _ (begins _ _ _ _ _ _ _ _ c.self.view_is c.self.invariant c.begin.ensures.part c.requires) c.in-Long.ensures.read c.in-Long.ensures.all c.in-Long.ensures.why (omega arith)

pub returns-then-is_empty-clause-fed : goal.returns-then-is_empty-clause-fed
returns-then-is_empty-clause-fed g c =
    let empty : length c.read_short_part.new.part.items ≡ 0 = search rules in
    feeds_end _ _ (begins _ _ _ _ _ _ _ _ c.self.view_is c.self.invariant c.begin.ensures.part c.requires) c.in-End.ensures.read (empty_list _ empty) c.in-End.ensures.why.1

pub returns-else-is_empty-clause-fed : goal.returns-else-is_empty-clause-fed
returns-else-is_empty-clause-fed g c =
    let some : length c.read_short_part.new.part.items ≢ 0 = search rules in
    feeds_last Line _ _ _ (begins _ _ _ _ _ _ _ _ c.self.view_is c.self.invariant c.begin.ensures.part c.requires) c.in-End.ensures.read c.pass_short_part-in-End.ensures.closed c.pass_short_part-in-End.ensures.passed (λ e. some (ap length e)) c.in-End.ensures.why.1

pub returns-in-Failed-clause-fed : goal.returns-in-Failed-clause-fed
returns-in-Failed-clause-fed g c = feeds_held_short _ _ (begins _ _ _ _ _ _ _ _ c.self.view_is c.self.invariant c.begin.ensures.part c.requires) c.in-Failed.ensures.read c.in-Failed.ensures.why

pub returns-in-Full-clause-fed : goal.returns-in-Full-clause-fed
returns-in-Full-clause-fed g c = feeds_held_short _ _ (begins _ _ _ _ _ _ _ _ c.self.view_is c.self.invariant c.begin.ensures.part c.requires) c.in-Full.ensures.read c.in-Full.ensures.why

pub invariant_of-self-in-Long : goal.invariant_of-self-in-Long
invariant_of-self-in-Long g c =
    let b = begins _ _ _ _ _ _ _ _ c.self.view_is c.self.invariant c.begin.ensures.part c.requires in
    stays_reader _ _ _ b c.in-Long.ensures.read (omega arith, omega arith, omega arith, omega arith) (λ e. absurd (never b.goes_on e))

pub invariant_of-self-in-Failed : goal.invariant_of-self-in-Failed
invariant_of-self-in-Failed g c =
    let b = begins _ _ _ _ _ _ _ _ c.self.view_is c.self.invariant c.begin.ensures.part c.requires in
    stays_reader _ _ _ b c.in-Failed.ensures.read (omega arith, omega arith, omega arith, omega arith) (λ e. absurd (never b.goes_on e))

pub invariant_of-self-in-Full : goal.invariant_of-self-in-Full
invariant_of-self-in-Full g c =
    let b = begins _ _ _ _ _ _ _ _ c.self.view_is c.self.invariant c.begin.ensures.part c.requires in
    stays_reader _ _ _ b c.in-Full.ensures.read (omega arith, omega arith, omega arith, omega arith) (λ e. absurd (never b.goes_on e))

pub invariant_of-self-then-is_empty : goal.invariant_of-self-then-is_empty
invariant_of-self-then-is_empty g c =
    let empty : length c.read_short_part.new.part.items ≡ 0 = search rules in
    stays_reader _ _ _ (begins _ _ _ _ _ _ _ _ c.self.view_is c.self.invariant c.begin.ensures.part c.requires) c.in-End.ensures.read (omega arith, omega arith, omega arith, omega arith) (λ _. (empty_list _ empty, c.in-End.ensures.why.1.0, c.in-End.ensures.why.1.1))

pub returns-in-Long-clause-counts : goal.returns-in-Long-clause-counts
returns-in-Long-clause-counts g c = adds_up _ _ _ (begins _ _ _ _ _ _ _ _ c.self.view_is c.self.invariant c.begin.ensures.part c.requires) c.in-Long.ensures.read (omega arith)

pub returns-in-Failed-clause-counts : goal.returns-in-Failed-clause-counts
returns-in-Failed-clause-counts g c = adds_up _ _ _ (begins _ _ _ _ _ _ _ _ c.self.view_is c.self.invariant c.begin.ensures.part c.requires) c.in-Failed.ensures.read (omega arith)

pub returns-in-Full-clause-counts : goal.returns-in-Full-clause-counts
returns-in-Full-clause-counts g c = adds_up _ _ _ (begins _ _ _ _ _ _ _ _ c.self.view_is c.self.invariant c.begin.ensures.part c.requires) c.in-Full.ensures.read (omega arith)

pub returns-then-is_empty-clause-counts : goal.returns-then-is_empty-clause-counts
returns-then-is_empty-clause-counts g c = adds_up _ _ _ (begins _ _ _ _ _ _ _ _ c.self.view_is c.self.invariant c.begin.ensures.part c.requires) c.in-End.ensures.read (omega arith)
