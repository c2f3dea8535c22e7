use Rattle.std.proofs.Common.{◌≡◌, [], IfOk, subst}
use Rattle.std.specs.HashSet.{IsFromIterResult}
use Rattle.indexmap.specs.IndexSet.{insert_all}
use Rattle.std.proofs.lemmas.Iterator.{YieldsList-from_slice}
use Rattle.std.proofs.lemmas.Iterator.Adapters.{fact_from_collect}
use Rattle.std.proofs.lemmas.Iterator.Consumers.{YieldsList-at, YieldsList-from_copied}
use Rattle.command_words.proofs.EngineLemmas.{as_many, same}
use Rattle.command_words.proofs.engines.are_distinct.Goals as goal

pub returns : goal.returns
returns c =
    let made = fact_from_collect (λ texts set. (set.keys ≡ insert_all same [] texts) × IsFromIterResult same texts set) c.collect.result c.collect.ensures.ran
    (YieldsList-from_copied (YieldsList-at c.copied.ensures.source (YieldsList-from_slice c.args.texts.now c.iter.ensures.rest))) in
    let here = subst (λ r. IfOk r (λ set. (set.keys ≡ insert_all same [] c.args.texts.now) × IsFromIterResult same c.args.texts.now set)) c.in_ok-seen.was made in
    rw c.len.ensures.len (as_many c.args.texts.now c.in_ok-seen.seen here.1)
