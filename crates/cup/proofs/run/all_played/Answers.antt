use Rattle.std.proofs.Common.{◌≡◌, ◌≢◌, length, None, sym, Result, Ok, Err, OnErr}
use Rattle.std.specs.List.{Any}
use Rattle.std.proofs.lemmas.List.Elements.{All-from_all_within, AllWithin-more, AllWithin-none, AllWithin-upto, at_read}
use Rattle.cup.proofs.run.all_played.Goals as goal

on_err : {A E : Type 0} (P : Type 0) (r : Result A E) → P → OnErr r P
on_err P (Ok a) p = tt
on_err P (Err e) p = p

pub loop-place-init : goal.loop-place-init
loop-place-init g c = AllWithin-none (λ j. j.referee ≢ None) c.args.jobs.now 0

pub loop-place-preserved : goal.loop-place-preserved
loop-place-preserved g c =
    let jobs = c.args.jobs.now in
    AllWithin-more (λ j. j.referee ≢ None) jobs 0 c.loop-place.place c.loop-place.invariant
    (at_read jobs (λ j. j.referee ≢ None) c.loop-place.place c.index-jobs-place.result c.loop-place-test.true c.index-jobs-place.is c.in_ok-played.ensures.ok)

pub returns-clause-ok : goal.returns-clause-ok
returns-clause-ok g c =
    let jobs = c.args.jobs.now in
    All-from_all_within (λ j. j.referee ≢ None) jobs (AllWithin-upto (λ j. j.referee ≢ None) jobs 0 c.loop-place.place (length jobs) c.loop-place-test.false c.loop-place.invariant)

pub returns-in_err-played-clause-err : goal.returns-in_err-played-clause-err
returns-in_err-played-clause-err g c =
    on_err (Any (λ j. j.referee ≡ None) c.args.jobs.now) c.from_residual.result
    (c.loop-place.place, c.index-jobs-place.result, c.loop-place-test.true, sym c.index-jobs-place.is, c.in_err-played.ensures.err)
