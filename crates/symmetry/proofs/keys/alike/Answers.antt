use Rattle.std.proofs.Common.{◌≡◌, sym, ◌∙◌, true, false}
use Rattle.symmetry.proofs.KeyShifts.{other_turn, first_outside, second_outside, none_asked, not_taken, shift_found}
use Rattle.symmetry.proofs.keys.alike.Goals as goal

pub returns-then-not-has_same_turn-clause-shift : goal.returns-then-not-has_same_turn-clause-shift
returns-then-not-has_same_turn-clause-shift c = other_turn c.args.from.now c.args.to.now c.args.symmetry
    (λ same. let wrong : true ≡ false = sym (c.has_same_turn.ensures.other same) ∙ c.if-not-has_same_turn.true in cc)

pub returns-then-not-are_in_plane-clause-shift : goal.returns-then-not-are_in_plane-clause-shift
returns-then-not-are_in_plane-clause-shift c = first_outside c.args.from.now c.args.to.now c.args.symmetry
    (λ inside. let wrong : true ≡ false = sym (c.are_in_plane.ensures.outside inside) ∙ c.if-not-are_in_plane.true in cc)

pub returns-then-not-are_in_plane-2-clause-shift : goal.returns-then-not-are_in_plane-2-clause-shift
returns-then-not-are_in_plane-2-clause-shift c = second_outside c.args.from.now c.args.to.now c.args.symmetry
    (λ inside. let wrong : true ≡ false = sym (c.are_in_plane-2.ensures.outside inside) ∙ c.if-not-are_in_plane-2.true in cc)

pub returns-in_default-clause-shift : goal.returns-in_default-clause-shift
returns-in_default-clause-shift c = none_asked c.args.from.now c.args.to.now c.args.symmetry c.in_default.ensures.asked

pub returns-then-are_taken-clause-shift : goal.returns-then-are_taken-clause-shift
returns-then-are_taken-clause-shift c = shift_found c.args.from.now c.args.to.now c.args.symmetry c.in-Some.shift (c.has_same_turn.ensures.same c.if-not-has_same_turn.false) c.in-Some.ensures.asked (c.are_taken.ensures.all c.if-are_taken.true)

pub returns-else-are_taken-clause-shift : goal.returns-else-are_taken-clause-shift
returns-else-are_taken-clause-shift c = not_taken c.args.from.now c.args.to.now c.args.symmetry c.in-Some.shift c.in-Some.ensures.asked
    (λ all. let wrong : true ≡ false = sym (c.are_taken.ensures.some all) ∙ c.if-are_taken.false in cc)
