use Rattle.std.proofs.Common.{◌≡◌, ◌++◌, sym, subst, OnOk}
use Rattle.tournament_record.specs.Heads.{level_parts}
use Rattle.tournament_record.proofs.Appends.{more_behind}
use Rattle.tournament_record.proofs.parts.push_level.Goals as goal

pub returns-in_ok-push_time-in-Time : goal.returns-in_ok-push_time-in-Time
returns-in_ok-push_time-in-Time c =
    subst (λ l. OnOk c.push_number-in-Time.result (c.push_number-in-Time.new.parts ≡ c.args.parts.now ++ level_parts l)) (sym c.in-Time.is)
    (more_behind c.push_number-in-Time.result c.args.parts.now c.push_time.new.parts c.push_number-in-Time.new.parts _ _ c.in_ok-push_time-in-Time.ensures c.push_number-in-Time.ensures)
