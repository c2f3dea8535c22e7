use Rattle.std.proofs.Common.{◌+◌, sym, subst, List}
use Rattle.std.specs.Prelude.{None, Some}
use Rattle.symmetry.specs.Shifts.{IsShift}
use Rattle.symmetry.specs.Own.{AreOwnBelow}
use Rattle.symmetry.specs.declared.own.OwnSymmetry.{OwnSymmetry}
use Rattle.symmetry.proofs.OwnLaws.{none_more, one_more}
use Rattle.symmetry.proofs.finding.add_own.Goals as goal

pub returns-in_default-clause-own : goal.returns-in_default-clause-own
returns-in_default-clause-own c =
    let key = c.args.key.now in
    none_more c.args.index key c.args.own.now.items c.requires.own (subst (IsShift None key key) c.at-symmetry.ensures c.in_default.ensures.shift)

pub returns-clause-own : goal.returns-clause-own
returns-clause-own c =
    let key = c.args.key.now in
    let shift = c.in-Some.shift in
    subst (λ (own : List OwnSymmetry). AreOwnBelow (c.args.index + 1) key own) (sym c.push.ensures.items)
    (one_more c.args.index key c.args.own.now.items _ c.requires.number c.requires.own (subst (IsShift (Some shift) key key) c.at-symmetry.ensures c.in-Some.ensures.shift) c.at-symmetry.ensures)
