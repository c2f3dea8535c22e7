use Rattle.std.proofs.Common.{rules, ◌≡◌, ◌+◌, List, [], ◌∷◌, ◌++◌, map, take, ap, sym, ◌∙◌, subst, Option, Some}
use Rattle.std.proofs.lemmas.List.{map-append, take_all, take_more}
use Rattle.match_core.specs.declared.verdict.Verdict.{Verdict}
use Rattle.cup.specs.Played.{Job, HasVerdict, verdict_of}
use Rattle.cup.proofs.played.verdicts_of.Goals as goal

pub verdict_of-requires : goal.verdict_of-requires
verdict_of-requires g c = record {
  played = subst HasVerdict (sym c.index-jobs-place.is) (c.requires.played c.loop-place.place c.index-jobs-place.result c.loop-place-test.true);
}

pub loop-place-preserved : goal.loop-place-preserved
loop-place-preserved g c =
    let f : Job → Option Verdict = λ j. verdict_of j.referee in
    let jobs : List Job = c.args.jobs.now in
    let front : List Job = take c.loop-place.place jobs in
    let job : Job = c.index-jobs-place.result in
    let more : take (c.loop-place.place + 1) jobs ≡ front ++ job ∷ [] =
    take_more jobs c.loop-place.place job c.loop-place-test.true ∙ ap (λ (j : Job). front ++ j ∷ []) (sym c.index-jobs-place.is) in
    let found : f job ≡ Some c.in_ok-verdict.verdict = c.in_ok-verdict.ensures in
    let pushed : c.push.new.self.items ≡ c.loop-place.verdicts.items ++ c.in_ok-verdict.verdict ∷ [] = search rules in
    ap (map f) more ∙ map-append f front (job ∷ [])
    ∙ (λ i. c.loop-place.invariant i ++ found i ∷ [])
    ∙ sym (map-append Some c.loop-place.verdicts.items (c.in_ok-verdict.verdict ∷ []))
    ∙ ap (map Some) (sym pushed)

pub loop-place-init : goal.loop-place-init
loop-place-init g c = ap (map Some) (sym c.new-verdicts.ensures.items)

pub returns : goal.returns
returns g c = ap (map (λ j. verdict_of j.referee)) (sym (take_all c.loop-place.place c.args.jobs.now c.loop-place-test.false)) ∙ c.loop-place.invariant
