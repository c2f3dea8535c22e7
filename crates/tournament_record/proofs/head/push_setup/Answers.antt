use Rattle.std.proofs.Common.{◌≡◌, ap, ◌++◌, ◌∷◌, [], rules}
use Rattle.std.specs.Prelude.{codes}
use Rattle.hive_model.specs.Fields.{type_bytes}
use Rattle.tournament_record.specs.declared.topic.Topic.TheVariants.{Tournament, GameType as TypeOfGames}
use Rattle.tournament_record.specs.Heads.{part}
use Rattle.tournament_record.proofs.Appends.{behind_others, more_behind}
use Rattle.tournament_record.proofs.head.push_setup.Goals as goal

pub returns : goal.returns
returns c =
    let one : c.push_part.new.parts ≡ c.args.parts.now ++ part Tournament (codes "1") ∷ [] = search rules in
    let typed : c.push_part-2.new.parts ≡ c.push_part.new.parts ++ part TypeOfGames (type_bytes c.args.setup.game_type) ∷ [] = search rules in
    let two = behind_others c.args.parts.now c.push_part.new.parts c.push_part-2.new.parts _ _ one typed in
    let three = behind_others c.args.parts.now c.push_part-2.new.parts c.push_level.new.parts _ _ two c.in_ok-push_level.ensures in
    more_behind c.push_limits.result c.args.parts.now c.push_level.new.parts c.push_limits.new.parts _ _ three c.push_limits.ensures
