use Rattle.std.proofs.Common.{◌≡◌, ap, ◌++◌, ◌∷◌, [], rules}
use Rattle.std.specs.Prelude.{decimal}
use Rattle.tournament_record.specs.declared.topic.Topic.TheVariants.{Plies}
use Rattle.tournament_record.specs.Heads.{part}
use Rattle.tournament_record.proofs.Appends.{more_behind}
use Rattle.tournament_record.proofs.head.push_limits.Goals as goal

pub returns : goal.returns
returns c =
    let limited : c.push_number.new.parts ≡ c.args.parts.now ++ part Plies (decimal c.args.setup.limit) ∷ [] = search rules in
    more_behind c.push_flag.result c.args.parts.now c.push_number.new.parts c.push_flag.new.parts _ _ limited c.push_flag.ensures
