use Rattle.std.proofs.lemmas.Bool.Decides.{Decides-eqb}
use Rattle.std.proofs.lemmas.Slice.Eq.{strip_prefix_is}
use Rattle.certificate_text.proofs.TextLaws.{behind-found}
use Rattle.certificate_text.proofs.fields.behind.Goals as goal

pub returns-clause-found : goal.returns-clause-found
returns-clause-found c =
    behind-found c.args.word.now c.args.text.now c.strip_prefix.result
    (strip_prefix_is Decides-eqb c.args.text.now c.args.word.now c.strip_prefix.result c.strip_prefix.ensures.cases)
