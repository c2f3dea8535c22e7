use Rattle.std.proofs.Common.{◌∙◌}
use Rattle.hive_model.proofs.SameBoards.{last_read}
use Rattle.hive_model.proofs.repeats.Repeats.times.Goals as goal

pub returns : goal.returns
returns c =
    let same = c.as_slice-keys.ensures.value ∙ c.self.view_is in
    c.count_same.ensures ∙ last_read c.as_slice-keys.result.now c.args.self.now c.index-keys-keys.result same c.requires c.index-keys-keys.is
