use Rattle.std.proofs.Common.{◌≡◌, ◌<◌, List, sym, ◌∙◌, ap, subst, arith}
use Rattle.hive_model.specs.Keys.{KeyParts}
use Rattle.hive_model.specs.KeyNumbers.{number_of}
use Rattle.hive_model.specs.NumberCounts.{count_of, AreCounted}
use Rattle.hive_model.specs.Repetition.{count_last}
use Rattle.hive_model.proofs.SameBoards.{last_read}
use Rattle.hive_model.proofs.NumberCountLaws.{few_alike, both_few}
use Rattle.hive_model.proofs.repeats.Repeats.is_third.Goals as goal

pub returns-else-count_of-ge3 : goal.returns-else-count_of-ge3
returns-else-count_of-ge3 c =
    let keys = c.as_slice-keys.result.now in
    let last = c.index-keys-keys.result in
    let counts = c.self.inside.counts in
    let same = c.as_slice-keys.ensures.value ∙ c.self.view_is in
    let counted : AreCounted keys counts = subst (λ (ks : List KeyParts). AreCounted ks counts) (sym c.as_slice-keys.ensures.value) c.self.invariant.1 in
    let is : c.count_of.result ≡ count_of counts (number_of last) = c.count_of.ensures ∙ ap (count_of counts) c.number.ensures in
    let alike = few_alike keys counts counted last in
    let here = last_read keys c.args.self.now last same c.requires c.index-keys-keys.is in
    let few = c.if-count_of-ge3.false in
    let less : count_last c.args.self.now < 3 = omega (arith, is, alike, here, few) in
    both_few c.count_of.result (count_last c.args.self.now) few less
