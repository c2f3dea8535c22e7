use Rattle.std.proofs.Common.{◌∙◌, sym, arith}
use Rattle.std.proofs.lemmas.Grind.{common_steps}
use Rattle.uhp_words.proofs.SpaceLaws.{last_space, last_other}
use Rattle.uhp_words.proofs.words.before_spaces.Goals as goal

pub returns-then-last-ne32-clause-value : goal.returns-then-last-ne32-clause-value
returns-then-last-ne32-clause-value c = sym (last_other c.loop-kept.kept.now (omega arith) c.if-last-ne32.true) ∙ c.loop-kept.invariant.same

pub loop-kept-preserved : goal.loop-kept-preserved
loop-kept-preserved c = record {
  same = last_space c.loop-kept.kept.now (omega arith) c.if-last-ne32.false ∙ c.loop-kept.invariant.same;
  within = grind (arith, common_steps);
}
