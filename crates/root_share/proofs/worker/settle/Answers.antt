use Rattle.std.proofs.Common.{rules, ◌≡◌, ◌-◌, ◌<ℤ◌, Some, refl, ◌∙◌, arith, to_z, of_z}
use Rattle.std.proofs.lemmas.Int.{ints, clamps, to_z-of_z}
use Rattle.std.specs.List.{slice_get}
use mir.Syntax.{w32}
use Rattle.hive_model.specs.Legal.{moves}
use Rattle.hive_model.specs.Minimax.{reply_value}
use Rattle.root_share.specs.Children.{child_worth}
use Rattle.root_share.specs.Run.{child_values}
use Rattle.search_laws.proofs.ReplyLaws.{reply-at}
use Rattle.root_share.proofs.ReplyLaws.{tested-less, tested-least}
use Rattle.root_share.proofs.AnswerLaws.{answer-exact, answer-below}
use Rattle.root_share.proofs.ReadyLaws.{root-of, top-of, depth-of}
use Rattle.root_share.proofs.worker.settle.Goals as goal

pub returns-then-worth-bound : goal.returns-then-worth-bound
returns-then-worth-bound g c =
    let d = c.args.work.now.depth in
    let bound = c.args.bound in
    let worth = c.args.worth in
    let less = tested-less worth bound (search rules) (search rules) c.if-worth-bound.true in
    let under : child_worth c.args.seat.now.me.0.root d c.args.child.now <ℤ bound = c.requires.tested.below less in
    let stands = c.requires.bound.stands in
    record {
      closed = record {
        knows = record { seated = c.requires.seat; root = refl; depth = c.requires.depth.agreed };
        answer = answer-below _ d c.args.child.now.place c.args.child.now.m bound c.requires.here under c.requires.bound.most;
        least = omega (arith, ints, stands);
        worth = omega (arith, ints, stands, under);
      };
    }

pub raise-requires-clause-reply : goal.raise-requires-clause-reply
raise-requires-clause-reply g c =
    let p = c.args.seat.now.me.0.root in
    let d = c.args.work.now.depth in
    let worth = c.args.worth in
    let more = tested-least worth c.args.bound (search rules) (search rules) c.if-worth-bound.false in
    let is : worth ≡ child_worth p d c.args.child.now = c.requires.tested.exact more in
    let there : slice_get (child_values p d) c.args.child.now.place ≡ Some worth =
    rw (is) (reply-at (reply_value p (d - 1)) (moves p) c.args.child.now.place c.args.child.now.m c.requires.here) in
    rw (c.requires.depth.agreed, to_z-of_z w32 worth (search rules)) (c.args.child.now.place, there)

pub returns : goal.returns
returns g c =
    let p = c.args.seat.now.me.0.root in
    let d = c.args.work.now.depth in
    let worth = c.args.worth in
    let same : to_z w32 (of_z w32 worth) ≡ worth = to_z-of_z w32 worth (search rules) in
    let more = tested-least worth c.args.bound (search rules) (search rules) c.if-worth-bound.false in
    let is : worth ≡ child_worth p d c.args.child.now = c.requires.tested.exact more in
    let view = c.raise.ensures.view in
    let stands = c.requires.bound.stands in
    record {
      closed = record {
        knows = record { seated = c.raise.ensures.seat; root = root-of view; depth = depth-of view ∙ c.requires.depth.agreed };
        answer = rw same (answer-exact _ d c.args.child.now.place c.args.child.now.m worth c.requires.here is);
        least = rw (top-of view, same) (omega (arith, ints, clamps, stands));
        worth = rw (top-of view, same) (omega (arith, ints, clamps, is));
      };
    }
