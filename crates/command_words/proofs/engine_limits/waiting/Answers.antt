use Rattle.command_words.proofs.engine_limits.waiting.Goals as goal

pub returns-in-Some-clause-only : goal.returns-in-Some-clause-only
returns-in-Some-clause-only c = λ limit w. c.patient.ensures.only limit (rw c.in-Some.is at w)
