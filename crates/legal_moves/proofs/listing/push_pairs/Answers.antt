use Rattle.std.proofs.Common.{◌≡◌, arith, subst}
use Rattle.hive_model.specs.Legal.{LegalPair}
use Rattle.hand_rules.specs.Listing.{IsPairBelow, ListsAll, GainsPlaces}
use Rattle.hand_rules.proofs.PairLaws.{none_listed, with_piece}
use Rattle.legal_moves.specs.Going.{position_of}
use Rattle.legal_moves.proofs.listing.push_pairs.Goals as goal

pub loop-x-init : goal.loop-x-init
loop-x-init g c =
    let p = position_of (g.B.Board.stacks c.args.board.now) c.args.turn.now in
    record { below = none_listed (LegalPair p) c.args.out.now c.requires.empty }

pub loop-x-preserved : goal.loop-x-preserved
loop-x-preserved g c =
    let p = position_of (g.B.Board.stacks c.args.board.now) c.args.turn.now in
    let x = c.loop-x.x in
    let gains = subst (λ y. GainsPlaces (LegalPair p y) y c.loop-x.out c.push_piece.new.out) c.at.ensures c.push_piece.ensures in
    record { below = with_piece (LegalPair p) x c.args.out.now c.loop-x.out c.loop-x.invariant.below c.push_piece.new.out gains }

pub returns : goal.returns
returns g c =
    let p = position_of (g.B.Board.stacks c.args.board.now) c.args.turn.now in
    let all : c.loop-x.x ≡ 28 = omega arith in
    subst (λ n. ListsAll (IsPairBelow (LegalPair p) n) c.args.out.now c.loop-x.out) all c.loop-x.invariant.below.all
