use Rattle.std.proofs.Common.{◌≡◌, Bool, true, false, refl, sym, ◌∙◌, ap, rules}
use Rattle.hive_model.specs.declared.places.Move.{Move}
use Rattle.hive_model.specs.Histories.{is_move}
use Rattle.hive_model.proofs.ListedLaws.{is_move_same, is_move_itself}
use Rattle.audit_core.proofs.lists.is_move.Goals as goal

other_at : (m n : Move) (b : Bool) → is_move m n ≡ b → (m ≡ n → ⊥) → b ≡ false
other_at m n true e other = absurd (other (sym (is_move_same m n e)))
other_at m n false e other = refl

pub returns-then-eq : goal.returns-then-eq
returns-then-eq c =
    let same : c.args.m ≡ c.args.n = search rules in
    sym (ap (is_move c.args.m) (sym same) ∙ is_move_itself c.args.m)

pub returns : goal.returns
returns c = sym (other_at c.args.m c.args.n (is_move c.args.m c.args.n) refl (search rules))
