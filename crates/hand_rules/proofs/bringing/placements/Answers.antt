use Rattle.std.proofs.Common.{ℕ, ◌+◌, ◌≤◌, ◌++◌, map, length, refl, sym, ◌∙◌, ap, subst}
use Rattle.std.proofs.lemmas.Bool.{iff_false}
use Rattle.hive_model.specs.declared.places.Move.TheVariants.{To}
use Rattle.hive_model.specs.Lists.{IsOn, Rises}
use Rattle.hive_model.specs.Legal.{move_cmp}
use Rattle.hive_model.specs.Placement.{MayPlace, Placement}
use Rattle.hive_model.specs.Stack.{Levels, without_level}
use Rattle.hive_model.proofs.PlaceListLaws.{all_same}
use Rattle.hand_rules.specs.Listing.{last_level, IsPairBelow, ListsBelow}
use Rattle.hand_rules.specs.Bringing.{MayBring, IsPlacementMove, position_awake}
use Rattle.hand_rules.proofs.PairLaws.{none_listed, with_piece, without_piece, all_named}
use Rattle.hand_rules.proofs.BringLaws.{bring_from, brought_there, placed_below, none_to_bring}
use Rattle.hand_rules.proofs.bringing.placements.Goals as goal
use Rattle.hand_rules.proofs.bringing.placements.Goals.{then-may_bring, else-may_bring}

pub returns-then-not-can_bring : goal.returns-then-not-can_bring
returns-then-not-can_bring g c =
    let b = g.B.Board.stacks c.args.board.now in
    let none : (x : ℕ) → ¬ MayBring c.args.game_type b c.args.colour c.args.turn x = λ x may. iff_false c.can_bring.ensures c.if-not-can_bring.true (x, may) in
    record {
      listed = λ m. (λ on. absurd (subst (λ ms. IsOn ms m) c.requires.empty on), λ h. absurd (none_to_bring c.args.game_type b c.args.colour c.args.turn none m h));
      order = subst (Rises move_cmp) (sym c.requires.empty) tt;
      levels = refl;
      others = refl;
    }

pub loop-x-init : goal.loop-x-init
loop-x-init g c =
    let p = position_awake c.args.game_type (g.B.Board.stacks c.args.board.now) c.args.colour c.args.turn in
    record { below = none_listed (Placement p) c.args.out.now c.requires.empty }

pub loop-x-preserved : goal.loop-x-preserved
loop-x-preserved g c =
    let b = g.B.Board.stacks c.args.board.now in
    let t = c.args.game_type in
    let turn = c.args.turn in
    let p = position_awake t b c.args.colour turn in
    let x = c.loop-x.x in
    let qs = c.placement_places.new.out.items in
    let below = c.loop-x.invariant.below in
    elim c.if-may_bring.branch [
      | then-may_bring w ↦
          let may = subst (MayBring t b c.args.colour turn) c.at-piece.ensures (c.may_bring.ensures.0 w.if-may_bring.true) in
          record {
            below = with_piece (Placement p) x c.args.out.now c.loop-x.out below c.if-may_bring.out (record {
              places = qs;
              all = all_same (MayPlace b c.args.colour) (Placement p x) qs (λ q. brought_there p x q may) c.placement_places.ensures;
              few = subst (λ ys. length ys ≤ 196) w.as_slice.ensures.value w.as_slice.ensures.fits;
              added = ap last_level w.out-is ∙ w.push_each.ensures.added ∙ (λ i. last_level c.loop-x.out ++ map (λ q. To (c.at-piece.ensures i) q) (w.as_slice.ensures.value i));
              levels = ap (λ (v : Levels). length v.lists) w.out-is ∙ w.push_each.ensures.levels;
              others = ap without_level w.out-is ∙ w.push_each.ensures.others;
            });
          }
      | else-may_bring w ↦
          let none : ¬ MayBring t b c.args.colour turn x = λ may. iff_false c.may_bring.ensures w.if-may_bring.false (subst (MayBring t b c.args.colour turn) (sym c.at-piece.ensures) may) in
          record {
            below = subst (ListsBelow (Placement p) (x + 1) c.args.out.now) (sym w.out-is)
                (without_piece (Placement p) x c.args.out.now c.loop-x.out below (λ q h. none (bring_from p x q h).0));
          }
    ]

pub returns : goal.returns
returns g c =
    let p = position_awake c.args.game_type (g.B.Board.stacks c.args.board.now) c.args.colour c.args.turn in
    let x = c.loop-x.x in
    all_named (IsPairBelow (Placement p) x) (IsPlacementMove p) c.args.out.now c.loop-x.out (placed_below p x c.loop-x-test.false) c.loop-x.invariant.below.all
