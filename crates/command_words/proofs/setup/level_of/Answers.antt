use Rattle.command_words.proofs.setup.level_of.Goals as goal

pub returns-in-None-Some-clause-only : goal.returns-in-None-Some-clause-only
returns-in-None-Some-clause-only c = λ l w. c.timed_level.ensures.only l (rw (c.in-None-Some.is-0, c.in-None-Some.is-1) at w)
