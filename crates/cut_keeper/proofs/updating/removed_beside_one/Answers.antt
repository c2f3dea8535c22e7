use Rattle.std.proofs.Common.{◌≡◌, sym, ◌∙◌, ap, subst}
use Rattle.std.specs.Prelude.{Some}
use Rattle.hive_model.specs.Places.{IsWithin, step}
use Rattle.hive_model.specs.Boards.{is_occupied, top_at}
use Rattle.hive_model.proofs.PlaceLemmas.{wider, wider_on_board}
use Rattle.cut_keeper.specs.Keeping.{Right}
use Rattle.hive_model.specs.Neighbours.{ring}
use Rattle.cut_keeper.proofs.KeepingLaws.{but_given, top_there}
use Rattle.cut_keeper.proofs.ChangeLaws.{shrunk_but}
use Rattle.cut_keeper.proofs.RingLaws.{only_from}
use Rattle.cut_keeper.proofs.updating.removed_beside_one.Goals as goal

pub step-place-requires : goal.step-place-requires
step-place-requires g c = wider c.args.site.place c.requires.ring.within

pub examine-requires-clause-top : goal.examine-requires-clause-top
examine-requires-clause-top g c = sym c.in-Some.ensures

pub examine-requires-clause-within : goal.examine-requires-clause-within
examine-requires-clause-within g c =
    let b = g.B.Board.stacks c.args.board.now in
    let on = (only_from (ring (is_occupied b) c.args.site.place) c.args.dir (sym c.requires.ring.mask)).0 in
    subst (IsWithin 9500) (sym c.step-place.ensures) (wider_on_board (step c.args.site.place c.args.dir) (c.requires.sound.within (step c.args.site.place c.args.dir) on))

pub returns-in-Some-clause-marks : goal.returns-in-Some-clause-marks
returns-in-Some-clause-marks g c =
    let b = g.B.Board.stacks c.args.board.now in
    let h = c.requires.shrunk in
    let p = c.args.site.place in
    let n = step p c.args.dir in
    let here : top_at b n ≡ Some c.in-Some.top = sym (c.in-Some.ensures ∙ ap (top_at b) c.step-place.ensures) in
    but_given b c.requires.sound c.args.marks.now c.examine.new.marks n c.in-Some.top here c.examine.ensures.others
    (shrunk_but b h.before c.args.piece p c.requires.sound h.sound h.made c.requires.empty h.still c.args.marks.now h.stood c.requires.arc c.args.dir c.requires.ring.mask)
    (subst (Right b c.examine.new.marks) c.step-place.ensures c.examine.ensures.right)

pub returns-in_default-clause-marks : goal.returns-in_default-clause-marks
returns-in_default-clause-marks g c =
    let b = g.B.Board.stacks c.args.board.now in
    let on = (only_from (ring (is_occupied b) c.args.site.place) c.args.dir (sym c.requires.ring.mask)).0 in
    absurd (top_there b (step c.args.site.place c.args.dir) on (c.in_default.ensures ∙ ap (top_at b) c.step-place.ensures))
