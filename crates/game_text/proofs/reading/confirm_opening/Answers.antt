use Rattle.std.proofs.Common.{rules, ◌≡◌, Ok, []}
use Rattle.game_text.specs.Reading.{moves_of, confirmed}
use Rattle.game_text.proofs.ReadLaws.{agrees_same}
use Rattle.game_text.proofs.reading.confirm_opening.Goals as goal

pub returns : goal.returns
unfolding moves_of
returns g c =
    let told : c.confirm.result ≡ confirmed c.args.repetition c.args.declared.game_type c.args.declared.state c.args.declared.turn (Ok []) = search rules in
    agrees_same c.confirm.result _ told
