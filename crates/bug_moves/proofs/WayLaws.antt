-- The ways of spiders and ladybugs, step by step, are their ways as a whole.
use Rattle.std.proofs.Common.{sym}
use Rattle.hive_model.specs.declared.places.Place.{Place}
use Rattle.hive_model.specs.Places.{step}
use Rattle.hive_model.specs.Boards.{Stacks}
use Rattle.hive_model.specs.Steps.{GroundStep}
use Rattle.hive_model.specs.Reach.{ThreeSteps}
use Rattle.bug_moves.specs.Ways.{InSome, StepAway, ThirdToward, SecondToward, FirstToward, OnTop, DownToward, AlongToward, UpToward, OverTwoAway}
use Rattle.hive_model.proofs.ReachLaws.{ground_moves}
use Rattle.bug_moves.proofs.Gaining.{onward_at}

pub three_from_first : (b : Stacks) (s q : Place) → InSome (FirstToward b s) q → ThreeSteps b s q
three_from_first b s q (d, (one, (e, ((back, two), (_, (_, (three, start, first))))))) = record {
  first = step s d;
  second = step (step s d) e;
  one = one;
  two = two;
  three = three;
  apart = (ground_moves b s (step s d) one, back, start, ground_moves b (step s d) (step (step s d) e) two, first, ground_moves b (step (step s d) e) q three);
}

pub first_from_three : (b : Stacks) (s q : Place) → ThreeSteps b s q → InSome (FirstToward b s) q
first_from_three b s q h =
    let third : InSome (ThirdToward b s h.first h.second) q = (h.three.dir, (h.three.leads, (h.three, h.apart.2, h.apart.4))) in
    let second : SecondToward b s h.first h.two.dir q = onward_at (StepAway b s h.first) (ThirdToward b s h.first) h.first h.two.dir h.second q (sym h.two.leads) (h.apart.1, h.two) third in
    (h.one.dir, onward_at (GroundStep b s) (SecondToward b s) s h.one.dir h.first q (sym h.one.leads) h.one (h.two.dir, second))

pub over_from_up : (b : Stacks) (s q : Place) → InSome (UpToward b s) q → OverTwoAway b s q
over_from_up b s q (d, ((first_on, up), (e, ((second_on, along), (_, (_, (empty, apart, down))))))) = (
  apart,
  record {
    first = step s d;
    second = step (step s d) e;
    up = up;
    along = along;
    down = down;
    first_occupied = first_on;
    second_occupied = second_on;
    empty = empty;
  },
)

pub up_from_over : (b : Stacks) (s q : Place) → OverTwoAway b s q → InSome (UpToward b s) q
up_from_over b s q (apart, h) =
    let down : InSome (DownToward b s h.second) q = (h.down.dir, (h.down.leads, (h.empty, apart, h.down))) in
    let along : AlongToward b s h.first h.along.dir q = onward_at (OnTop b h.first) (DownToward b s) h.first h.along.dir h.second q (sym h.along.leads) (h.second_occupied, h.along) down in
    (h.up.dir, onward_at (OnTop b s) (AlongToward b s) s h.up.dir h.first q (sym h.up.leads) (h.first_occupied, h.up) (h.along.dir, along))
