use Rattle.std.proofs.lemmas.Bool.{ne_eqb}
use Rattle.game_text.proofs.PartLaws.{first_cut, whole_part, none_more}
use Rattle.audit_core.proofs.parts.cut.Goals as goal

pub returns-then-byte-eq59-clause-parts : goal.returns-then-byte-eq59-clause-parts
returns-then-byte-eq59-clause-parts c = first_cut c.args.text.now c.loop-i.i _ _ _ c.loop-i-test.true c.loop-i.invariant c.if-byte-eq59.true c.split_at.ensures.front c.split_at.ensures.back c.split_at-then-byte-eq59.ensures.back

pub loop-i-preserved : goal.loop-i-preserved
loop-i-preserved c = none_more c.args.text.now c.loop-i.i c.loop-i-test.true c.loop-i.invariant (ne_eqb _ _ c.if-byte-eq59.false)

pub returns-clause-parts : goal.returns-clause-parts
returns-clause-parts c = whole_part c.args.text.now c.loop-i.i c.loop-i-test.false c.loop-i.invariant
