use Rattle.std.proofs.Common.{rules, tests}
use Rattle.std.specs.Str.{bytes_eq}
use Rattle.std.proofs.lemmas.Iterator.{YieldsList-from_slice}
use Rattle.std.proofs.lemmas.Iterator.Consumers.{YieldsList-at, YieldsList-from_copied}
use Rattle.std.proofs.lemmas.Iterator.Search.{find_from_yields_List}
use Rattle.hive_model.specs.Fields.{state_bytes}
use Rattle.move_text.specs.Readers.{states, state_at}
use Rattle.move_text.proofs.TableLaws.{as_found}
use Rattle.move_text.proofs.fields.state_at.Goals as goal

pub returns : goal.returns
unfolding state_at
returns c =
    as_found c.find.result _
    (find_from_yields_List (λ x. bytes_eq c.args.text.now (state_bytes x)) _ _ _ c.find.ensures.ran
    (YieldsList-from_copied (YieldsList-at c.copied.ensures.source (YieldsList-from_slice states c.iter.ensures.rest))) (λ x b q k. search (rules, tests)))
