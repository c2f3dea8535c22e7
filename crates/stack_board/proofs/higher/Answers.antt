use Rattle.std.proofs.Common.{◌<◌, ◌∙◌, sym, subst, arith, length}
use Rattle.std.proofs.lemmas.Bool.{ltb-true, ltb-false}
use Rattle.stack_board.specs.Highest.{IsHighest}
use Rattle.stack_board.proofs.Tops.{read_spot, read_away, higher_same, higher_first, higher_old, higher_new}
use Rattle.stack_board.proofs.higher.Goals as goal

pub returns-then-not-is : goal.returns-then-not-is
returns-then-not-is c =
    let s = c.args.spots.now in
    let low : c.index.result < length s = omega (arith, c.index.ensures.bound) in
    higher_same s c.args.place c.args.piece c.args.found (read_away s c.index.result c.args.piece c.index.ensures.index low c.in-Some.spot c.args.place c.in-Some.is (sym c.is.ensures ∙ c.if-not-is.true)) c.requires

pub returns-then-is_above : goal.returns-then-is_above
returns-then-is_above c =
    let s = c.args.spots.now in
    let low : c.index.result < length s = omega (arith, c.index.ensures.bound) in
    let here = read_spot s c.index.result c.args.piece c.index.ensures.index low c.in-Some.spot c.args.place c.in-Some.is (sym c.is.ensures ∙ c.if-not-is.false) in
    let h = subst (IsHighest s c.args.place c.args.piece) c.in-Some-found.is c.requires in
    let above = sym (c.is_above.ensures (record { place = c.args.place; level = h.0 }) h.1) ∙ c.if-is_above.true in
    higher_old s c.args.place c.args.piece c.in-Some.spot.level c.in-Some-found.other here h (ltb-true c.in-Some.spot.level h.0 above)

pub returns-else-is_above : goal.returns-else-is_above
returns-else-is_above c =
    let s = c.args.spots.now in
    let low : c.index.result < length s = omega (arith, c.index.ensures.bound) in
    let here = read_spot s c.index.result c.args.piece c.index.ensures.index low c.in-Some.spot c.args.place c.in-Some.is (sym c.is.ensures ∙ c.if-not-is.false) in
    let h = subst (IsHighest s c.args.place c.args.piece) c.in-Some-found.is c.requires in
    let below = sym (c.is_above.ensures (record { place = c.args.place; level = h.0 }) h.1) ∙ c.if-is_above.false in
    higher_new s c.args.place c.args.piece c.in-Some.spot.level c.in-Some-found.other here h (ltb-false c.in-Some.spot.level h.0 below)

pub returns-in-None : goal.returns-in-None
returns-in-None c =
    let s = c.args.spots.now in
    let low : c.index.result < length s = omega (arith, c.index.ensures.bound) in
    let here = read_spot s c.index.result c.args.piece c.index.ensures.index low c.in-Some.spot c.args.place c.in-Some.is (sym c.is.ensures ∙ c.if-not-is.false) in
    higher_first s c.args.place c.args.piece c.in-Some.spot.level here (subst (IsHighest s c.args.place c.args.piece) c.in-None.is c.requires)
