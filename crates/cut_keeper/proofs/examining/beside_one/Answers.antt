use Rattle.std.proofs.Common.{◌≡◌, ◌⊎◌, ◌+◌, ◌∷◌, Bool, if◌then◌else◌, arith, sym, ◌∙◌, ap, subst, w32, rules}
use Rattle.std.proofs.lemmas.Int.{to_z-of_z}
use Rattle.hive_model.specs.Places.{IsWithin, step}
use Rattle.hive_model.specs.Boards.{is_occupied, top_at}
use Rattle.hive_model.specs.Neighbours.{ring}
use Rattle.hive_model.proofs.PlaceLemmas.{wider, wider_on_board}
use Rattle.cut_keeper.specs.Keeping.{Right, HalfRight, suspects}
use Rattle.cut_keeper.specs.Rings.{later}
use Rattle.cut_keeper.proofs.KeepingLaws.{pending_then, pending_else, pending_at, top_there}
use Rattle.cut_keeper.proofs.RingLaws.{suspect_occupied, small_mask}
use Rattle.cut_keeper.proofs.examining.beside_one.Goals as goal

pub returns-then-not-is_suspect-clause-pending : goal.returns-then-not-is_suspect-clause-pending
returns-then-not-is_suspect-clause-pending g c =
    pending_else (g.B.Board.stacks c.args.board.now) c.args.site.place c.args.doubted c.args.dir (later c.args.dir) c.args.marks.now c.requires.pending (sym (c.is_suspect.ensures (ring (is_occupied (g.B.Board.stacks c.args.board.now)) c.args.site.place) c.requires.ring.mask) ∙ c.if-not-is_suspect.true)

pub step-place-requires : goal.step-place-requires
step-place-requires g c = wider c.args.site.place c.requires.ring.within

pub examine_doubted-requires-clause-within : goal.examine_doubted-requires-clause-within
examine_doubted-requires-clause-within g c =
    let b = g.B.Board.stacks c.args.board.now in
    let n = step c.args.site.place c.args.dir in
    let on = suspect_occupied b c.args.site.place c.args.dir (sym (c.is_suspect.ensures (ring (is_occupied (g.B.Board.stacks c.args.board.now)) c.args.site.place) c.requires.ring.mask) ∙ c.if-not-is_suspect.false) in
    subst (IsWithin 9500) (sym c.step-place.ensures) (wider_on_board n (c.requires.ring.sound.within n on))

pub examine_doubted-requires-clause-half : goal.examine_doubted-requires-clause-half
examine_doubted-requires-clause-half g c =
    let b = g.B.Board.stacks c.args.board.now in
    subst (λ q. Right b c.args.marks.now q ⊎ HalfRight b c.args.marks.now q c.args.doubted) (sym c.step-place.ensures)
    (pending_at b c.args.site.place c.args.doubted c.args.dir (later c.args.dir) c.args.marks.now c.requires.pending)

pub returns-in-Some-clause-pending : goal.returns-in-Some-clause-pending
returns-in-Some-clause-pending g c =
    let b = g.B.Board.stacks c.args.board.now in
    pending_then b c.requires.ring.sound c.args.marks.now c.examine_doubted.new.marks c.step-place.result c.in-Some.top (sym c.in-Some.ensures) c.examine_doubted.ensures.others c.args.site.place c.args.doubted c.args.dir (later c.args.dir)
    (sym c.step-place.ensures) c.requires.pending c.examine_doubted.ensures.right

pub returns-in_default-clause-pending : goal.returns-in_default-clause-pending
returns-in_default-clause-pending g c =
    let b = g.B.Board.stacks c.args.board.now in
    let on = suspect_occupied b c.args.site.place c.args.dir (sym (c.is_suspect.ensures (ring (is_occupied (g.B.Board.stacks c.args.board.now)) c.args.site.place) c.requires.ring.mask) ∙ c.if-not-is_suspect.false) in
    absurd (top_there b (step c.args.site.place c.args.dir) on (c.in_default.ensures ∙ ap (top_at b) c.step-place.ensures))

pub is_suspect-requires : goal.is_suspect-requires
is_suspect-requires g c =
    let few = small_mask (ring (is_occupied (g.B.Board.stacks c.args.board.now)) c.args.site.place) in
    let mask = c.requires.ring.mask in
    omega (arith, few, mask)

pub returns-in-Some-clause-steps : goal.returns-in-Some-clause-steps
returns-in-Some-clause-steps g c =
    let b = g.B.Board.stacks c.args.board.now in
    let on = sym (c.is_suspect.ensures (ring (is_occupied b) c.args.site.place) c.requires.ring.mask) ∙ c.if-not-is_suspect.false in
    let rest = suspects b c.args.site.place (later c.args.dir) in
    let one : suspects b c.args.site.place (c.args.dir ∷ later c.args.dir) ≡ 1 + rest = ap (λ (t : Bool). (if t then 1 else 0) + rest) on in
    let step = c.examine_doubted.ensures.step in
    omega (arith, one, step)

pub returns-in-Some-clause-none : goal.returns-in-Some-clause-none
returns-in-Some-clause-none g c = λ e. c.examine_doubted.ensures.none (to_z-of_z w32 c.args.site.number (search rules) ∙ e)
