use Rattle.std.proofs.Common.{◌≡◌, ◌↔◌, sym, ◌∙◌, ap, subst}
use Rattle.std.specs.Prelude.{Some, IsTrue}
use Rattle.hive_model.specs.Places.{IsWithin, step}
use Rattle.hive_model.specs.Boards.{is_occupied, top_at}
use Rattle.hive_model.specs.Hive.{IsSeparating}
use Rattle.hive_model.proofs.PlaceLemmas.{wider, wider_on_board}
use Rattle.hive_model.specs.Neighbours.{ring, ring_mask}
use Rattle.cut_keeper.proofs.KeepingLaws.{given_right, but_given, top_there}
use Rattle.cut_keeper.proofs.ChangeLaws.{grown_but, holds_test, empty_before, none_answer}
use Rattle.cut_keeper.proofs.RingLaws.{only_from}
use Rattle.cut_keeper.proofs.updating.added_beside_one.Goals as goal

pub step-next-requires : goal.step-next-requires
step-next-requires g c = wider c.args.place c.requires.ring.within

pub neighbours-requires : goal.neighbours-requires
neighbours-requires g c =
    let b = g.B.Board.stacks c.args.board.now in
    let on = (only_from (ring (is_occupied b) c.args.place) c.args.dir (sym c.requires.ring.mask)).0 in
    let near = wider_on_board (step c.args.place c.args.dir) (c.requires.sound.within (step c.args.place c.args.dir) on) in
    subst (IsWithin 10000) (sym c.step-next.ensures) (wider (step c.args.place c.args.dir) near)

pub returns-in-Some : goal.returns-in-Some
returns-in-Some g c =
    let b = g.B.Board.stacks c.args.board.now in
    let h = c.requires.grown in
    let p = c.args.place in
    let n = step p c.args.dir in
    let empty = empty_before h.before b c.args.piece p h.sound c.requires.sound h.made c.requires.low in
    let mask = c.neighbours.ensures.mask ∙ ap (λ q. ring_mask (ring (is_occupied b) q)) c.step-next.ensures in
    let test = holds_test h.before b c.args.piece p h.sound c.requires.sound h.made empty h.one_hive c.args.marks.now c.args.dir c.requires.ring.mask c.neighbours.result mask c.only_in.result c.only_in.ensures.some c.only_in.ensures.none in
    let cut = subst (λ t. IsTrue t ↔ IsSeparating b n) (sym (none_answer c.only_in.result c.is_none-is_cut.result c.is_none-is_cut.ensures)) test in
    let here : top_at b n ≡ Some c.in-Some.top = sym (c.in-Some.ensures ∙ ap (top_at b) c.step-next.ensures) in
    let right = given_right b c.give.new.self n c.in-Some.top c.is_none-is_cut.result here c.give.ensures.given cut in
    but_given b c.requires.sound c.args.marks.now c.give.new.self n c.in-Some.top here c.give.ensures.others
    (grown_but h.before b c.args.piece p h.sound c.requires.sound h.made empty h.one_hive c.args.marks.now h.stood c.requires.unmarked c.requires.arc c.args.dir c.requires.ring.mask) right

pub returns-in_default : goal.returns-in_default
returns-in_default g c =
    let b = g.B.Board.stacks c.args.board.now in
    let on = (only_from (ring (is_occupied b) c.args.place) c.args.dir (sym c.requires.ring.mask)).0 in
    absurd (top_there b (step c.args.place c.args.dir) on (c.in_default.ensures ∙ ap (top_at b) c.step-next.ensures))
