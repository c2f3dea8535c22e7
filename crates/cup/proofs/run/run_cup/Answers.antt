use Rattle.std.proofs.Common.{◌≡◌}
use Rattle.cup.specs.Played.{Job, IsSettled, pairing}
use Rattle.cup.proofs.EachGame.{same-map, zip-weaker, if-on-ok, all-run, all-judged}
use Rattle.cup.proofs.run.run_cup.Goals as goal

same-pairing : (x y : Job) → IsSettled x y → pairing y ≡ pairing x
same-pairing x y turn i = record { white = turn.same.white i; black = turn.same.black i }

pub returns-clause-engines : goal.returns-clause-engines
returns-clause-engines g c = same-map IsSettled pairing same-pairing c.args.jobs.now _ c.run_games.ensures

pub returns-clause-setups : goal.returns-clause-setups
returns-clause-setups g c = same-map IsSettled (λ j. j.setup) (λ x y turn. turn.same.setup) c.args.jobs.now _ c.run_games.ensures

pub returns-clause-settled : goal.returns-clause-settled
returns-clause-settled g c = zip-weaker IsSettled _ (λ x y turn. turn.settled) c.args.jobs.now _ c.run_games.ensures

pub returns-clause-judged : goal.returns-clause-judged
returns-clause-judged g c =
    if-on-ok _ _ c.all_played.result (λ some. all-judged c.args.jobs.now _ (all-run c.args.jobs.now _ (zip-weaker IsSettled _ (λ x y turn. turn.settled) c.args.jobs.now _ c.run_games.ensures) some)) c.all_played.ensures.ok

pub returns-clause-played : goal.returns-clause-played
returns-clause-played g c =
    if-on-ok _ _ c.all_played.result (λ some. all-run c.args.jobs.now _ (zip-weaker IsSettled _ (λ x y turn. turn.settled) c.args.jobs.now _ c.run_games.ensures) some) c.all_played.ensures.ok
