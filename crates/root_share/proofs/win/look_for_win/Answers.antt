use Rattle.std.proofs.Common.{rules, ◌≡◌, ◌∙◌, refl, arith, to_z, of_z}
use Rattle.std.proofs.lemmas.Int.{to_z-of_z}
use mir.Syntax.{w32}
use Rattle.search_laws.proofs.ReplyLaws.{reply-most}
use Rattle.root_share.specs.Word.{IsReply}
use Rattle.root_share.proofs.ReadyLaws.{root-of, top-of, depth-of}
use Rattle.root_share.proofs.win.look_for_win.Goals as goal

pub likely_end-requires-clause-listed : goal.likely_end-requires-clause-listed
likely_end-requires-clause-listed g c = rw (← c.requires.begin.ready.stands) c.requires.begin.listed

pub raise-requires-clause-inner : goal.raise-requires-clause-inner
raise-requires-clause-inner g c = rw (root-of c.look-bound.ensures.view, depth-of c.look-bound.ensures.view ∙ c.requires.begin.ready.agreed) c.requires.begin.ready.inner

pub returns-clause-most : goal.returns-clause-most
returns-clause-most g c =
    let p = c.args.seat.now.me.0.root in
    let worth = c.in-Some.worth in
    let kept : to_z w32 (of_z w32 worth) ≡ worth = to_z-of_z w32 worth (search rules) in
    let reply : IsReply p c.args.work.now.depth worth = rw c.requires.begin.ready.stands c.in-Some.ensures.reply in
    rw kept (reply-most p c.args.work.now.depth reply.0 worth c.requires.begin.ready.inner reply.1)

pub returns-then-bound-work-clause-seat : goal.returns-then-bound-work-clause-seat
returns-then-bound-work-clause-seat g c =
    let read = c.look-bound.ensures in
    record { seated = read.seat; root = root-of read.view; depth = depth-of read.view ∙ c.requires.begin.ready.agreed }

pub returns-then-bound-work-clause-top : goal.returns-then-bound-work-clause-top
returns-then-bound-work-clause-top g c = rw (to_z-of_z w32 c.look-bound.result (search rules)) (top-of c.look-bound.ensures.view)

pub returns-then-bound-work-clause-grows : goal.returns-then-bound-work-clause-grows
returns-then-bound-work-clause-grows g c = rw (to_z-of_z w32 c.look-bound.result (search rules)) c.look-bound.ensures.grows

pub returns-then-bound-work-clause-most : goal.returns-then-bound-work-clause-most
returns-then-bound-work-clause-most g c = rw (to_z-of_z w32 c.look-bound.result (search rules)) (rw c.requires.begin.ready.agreed at c.look-bound.ensures.most)

pub returns-then-bound-work-clause-worker : goal.returns-then-bound-work-clause-worker
returns-then-bound-work-clause-worker g c = record { game = refl; searcher = refl; plays = omega arith }

pub returns-in_default-clause-seat : goal.returns-in_default-clause-seat
returns-in_default-clause-seat g c =
    let read = c.look-bound.ensures in
    record { seated = read.seat; root = root-of read.view; depth = depth-of read.view ∙ c.requires.begin.ready.agreed }

pub returns-in_default-clause-top : goal.returns-in_default-clause-top
returns-in_default-clause-top g c = rw (to_z-of_z w32 c.look-bound.result (search rules)) (top-of c.look-bound.ensures.view)

pub returns-in_default-clause-grows : goal.returns-in_default-clause-grows
returns-in_default-clause-grows g c = rw (to_z-of_z w32 c.look-bound.result (search rules)) c.look-bound.ensures.grows

pub returns-in_default-clause-most : goal.returns-in_default-clause-most
returns-in_default-clause-most g c = rw (to_z-of_z w32 c.look-bound.result (search rules)) (rw c.requires.begin.ready.agreed at c.look-bound.ensures.most)

pub returns-in_default-clause-worker : goal.returns-in_default-clause-worker
returns-in_default-clause-worker g c = record { game = c.likely_end.ensures.game; searcher = refl; plays = c.likely_end.ensures.played }

pub returns-then-worth-bound-clause-seat : goal.returns-then-worth-bound-clause-seat
returns-then-worth-bound-clause-seat g c =
    let read = c.look-bound.ensures in
    record { seated = read.seat; root = root-of read.view; depth = depth-of read.view ∙ c.requires.begin.ready.agreed }

pub returns-then-worth-bound-clause-top : goal.returns-then-worth-bound-clause-top
returns-then-worth-bound-clause-top g c = rw (to_z-of_z w32 c.look-bound.result (search rules)) (top-of c.look-bound.ensures.view)

pub returns-then-worth-bound-clause-grows : goal.returns-then-worth-bound-clause-grows
returns-then-worth-bound-clause-grows g c = rw (to_z-of_z w32 c.look-bound.result (search rules)) c.look-bound.ensures.grows

pub returns-then-worth-bound-clause-most : goal.returns-then-worth-bound-clause-most
returns-then-worth-bound-clause-most g c = rw (to_z-of_z w32 c.look-bound.result (search rules)) (rw c.requires.begin.ready.agreed at c.look-bound.ensures.most)

pub returns-then-worth-bound-clause-worker : goal.returns-then-worth-bound-clause-worker
returns-then-worth-bound-clause-worker g c = record { game = c.likely_end.ensures.game; searcher = refl; plays = c.likely_end.ensures.played }

pub look-bound-requires-clause-deep : goal.look-bound-requires-clause-deep
look-bound-requires-clause-deep g c = rw c.requires.begin.ready.agreed c.requires.begin.ready.deep

pub likely_end-requires-clause-spare : goal.likely_end-requires-clause-spare
likely_end-requires-clause-spare g c = omega (arith, c.requires.begin.ready.inner.deep, c.requires.begin.ready.spare)

pub raise-requires-clause-deep : goal.raise-requires-clause-deep
raise-requires-clause-deep g c = rw (depth-of c.look-bound.ensures.view, c.requires.begin.ready.agreed) c.requires.begin.ready.deep

pub raise-requires-clause-reply : goal.raise-requires-clause-reply
raise-requires-clause-reply g c =
    rw (to_z-of_z w32 c.in-Some.worth (search rules), root-of c.look-bound.ensures.view, depth-of c.look-bound.ensures.view ∙ c.requires.begin.ready.agreed, c.requires.begin.ready.stands) c.in-Some.ensures.reply

pub returns-clause-worker : goal.returns-clause-worker
returns-clause-worker g c = record { game = c.likely_end.ensures.game; searcher = refl; plays = c.likely_end.ensures.played }

pub returns-clause-seat : goal.returns-clause-seat
returns-clause-seat g c =
    let read = c.look-bound.ensures.view in
    let raised = c.raise.ensures in
    record {
      seated = raised.seat;
      root = root-of raised.view ∙ root-of read;
      depth = depth-of raised.view ∙ depth-of read ∙ c.requires.begin.ready.agreed;
    }
