use Rattle.std.proofs.Common.{sym, subst}
use Rattle.std.proofs.lemmas.Bool.{iff_false}
use Rattle.hive_model.specs.PlaceLists.{AreAll}
use Rattle.hive_model.specs.Placement.{MayPlace}
use Rattle.hive_model.specs.Legal.{LegalPair}
use Rattle.hive_model.proofs.PlaceListLaws.{all_same}
use Rattle.legal_moves.specs.Going.{IsMoved, position_of}
use Rattle.legal_moves.proofs.Pairing.{brought_pair, moved_pair}
use Rattle.legal_moves.proofs.listing.push_piece.Goals as goal

pub returns-then-may_bring : goal.returns-then-may_bring
returns-then-may_bring g c =
    let b = g.B.Board.stacks c.args.board.now in
    let t = c.args.turn.now in
    let may = c.may_bring.ensures.0 c.if-may_bring.true in
    let same = c.as_slice.ensures.value in
    record {
      places = c.as_slice.result.now;
      all = subst (AreAll (LegalPair (position_of b t) c.args.piece)) (sym same)
          (all_same (MayPlace b t.side) (LegalPair (position_of b t) c.args.piece) c.args.open_places.now.items
          (λ q. brought_pair t.game_type b t.side t.number t.rest c.args.piece q may) (c.requires.places (c.args.piece, may)));
      few = c.as_slice.ensures.fits;
      added = c.push_each.ensures.added;
      levels = c.push_each.ensures.levels;
      others = c.push_each.ensures.others;
    }

pub returns : goal.returns
returns g c =
    let b = g.B.Board.stacks c.args.board.now in
    let t = c.args.turn.now in
    let none = iff_false c.may_bring.ensures c.if-may_bring.false in
    let same = c.as_slice-2.ensures.value in
    record {
      places = c.as_slice-2.result.now;
      all = subst (AreAll (LegalPair (position_of b t) c.args.piece)) (sym same)
          (all_same (IsMoved (position_of b t) c.args.piece) (LegalPair (position_of b t) c.args.piece) c.moved_places.new.out.items
          (λ q. moved_pair t.game_type b t.side t.number t.rest c.args.piece q none) c.moved_places.ensures);
      few = c.as_slice-2.ensures.fits;
      added = c.push_each-2.ensures.added;
      levels = c.push_each-2.ensures.levels;
      others = c.push_each-2.ensures.others;
    }
