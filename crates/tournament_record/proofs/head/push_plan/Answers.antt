use Rattle.std.proofs.Common.{◌≡◌, ap, ◌++◌, ◌∷◌, [], OnOk, rules}
use Rattle.std.specs.Prelude.{decimal}
use Rattle.tournament_record.specs.declared.topic.Topic.TheVariants.{Rounds, Openings}
use Rattle.tournament_record.specs.Heads.{part}
use Rattle.tournament_record.proofs.Appends.{behind_others, more_behind}
use Rattle.tournament_record.proofs.head.push_plan.Goals as goal

pub returns : goal.returns
returns c =
    let one : c.push_number.new.parts ≡ c.args.parts.now ++ part Rounds (decimal c.args.plan.rounds) ∷ [] = search rules in
    let two = behind_others c.args.parts.now c.push_number.new.parts c.push_flag.new.parts _ _ one c.in_ok-push_flag.ensures in
    let three : OnOk c.push_number-2.result (c.push_number-2.new.parts ≡ c.push_flag.new.parts ++ part Openings (decimal c.args.plan.openings) ∷ []) = search rules in
    more_behind c.push_number-2.result c.args.parts.now c.push_flag.new.parts c.push_number-2.new.parts _ _ two three
