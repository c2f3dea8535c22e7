-- What was started and closed if memory ran out.
use Rattle.std.proofs.Common.{◌≡◌, ℕ, ◌≤◌, List, [], ◌∷◌, ◌++◌, length, drop, map, Some, None, refl, ap, sym, ◌∙◌, arith, subst, append_assoc}
use Rattle.std.proofs.lemmas.List.{length-map, take_all}
use Rattle.io_edge.specs.Outside.{ToldLists}
use Rattle.io_edge.specs.Starts.{Engines}
use Rattle.cup.specs.declared.pairing.Pairing.{Pairing}
use Rattle.cup.specs.Cup.{pairings}
use Rattle.cup.specs.Engines.{Engine}
use Rattle.match_runner.specs.Wires.{Wire}
use Rattle.cup.specs.Played.{Job, pairing}
use Rattle.cup_command.specs.Cup.{EndsEarly, Gains, cup_words, started_after}
use Rattle.cup_command.specs.Links.{ClosesLinks, GivesUp, StartsAll, all_links}
use Rattle.cup_command.proofs.Breaks.{starts-first, told-late, started-none, two-words}
use Rattle.cup_command.proofs.Chains.{as-many, two-each}
use Rattle.cup_command.proofs.Heard.{bytes_of, gains-all}
use Rattle.cup_command.proofs.Steps.{take-none}

-- What was got

-- what each of the links has written, if it is observable
abbrev wrote_by : List Wire → List (List ℕ)
wrote_by [] = []
wrote_by (l ∷ ls) = bytes_of l.written ∷ wrote_by ls

long-wrote : (links : List Wire) → length (wrote_by links) ≡ length links
long-wrote [] = refl
long-wrote (l ∷ ls) = let more = long-wrote ls in omega (arith, more)

gains-wrote : (links : List Wire) (before now : ToldLists) → ClosesLinks before now links → Gains before now (wrote_by links)
gains-wrote [] before now e = gains-all [] [] before now tt e
gains-wrote (l ∷ ls) before None c = tt
gains-wrote (l ∷ ls) None (Some after) (None, c, r) = gains-wrote ls None (Some after) r
gains-wrote (l ∷ ls) None (Some after) (Some mid, c, r) = c
gains-wrote (l ∷ ls) (Some lists) (Some after) (None, c, r) = absurd (gains-wrote ls None (Some after) r)
gains-wrote (l ∷ ls) (Some lists) (Some after) (Some mid, (p, pe, pm), r) =
    let same : p ≡ bytes_of l.written = sym (ap bytes_of pe) in
    gains-wrote ls (Some mid) (Some after) r ∙ (ap (λ m. m ++ wrote_by ls) (pm ∙ ap (λ q. lists ++ q ∷ []) same) ∙ append_assoc lists (bytes_of l.written ∷ []) (wrote_by ls))

-- Memory ran out

drop-none : {A : Type 0} (xs : List A) → xs ≡ drop 0 xs
drop-none [] = refl
drop-none (x ∷ xs) = refl

-- before the first start
pub early-none : (engines : List Engine) (at : Engines) → EndsEarly engines at at
early-none engines at = record {
  count = 0;
  few = omega arith;
  first = record {
    started = started-none at.started ∙ ap (λ ws. started_after at.started ws) (sym (take-none (cup_words engines)));
    taken = λ all e. (omega arith, e ∙ ap (λ ls. Some ls) (drop-none all));
  };
  gains = λ all e. ([], refl, gains-all [] [] at.sent at.sent tt refl);
}

-- at a start
pub early : (failed : Type 0) (engines : List Engine) (before after : Engines) → GivesUp failed (cup_words engines) [] before after → EndsEarly engines before after
early failed engines before after g = record {
  count = length g.late;
  few = g.few;
  first = starts-first failed engines before after g;
  gains = λ all e. (wrote_by g.late, long-wrote g.late, gains-wrote g.late before.sent after.sent g.closes);
}

-- after all starts: the same number of links was closed
pub early-all : (engines : List Engine) (games : List Pairing) (olds shut : List Job) (before between after : Engines)
    → games ≡ pairings (length engines) → map pairing olds ≡ games → length shut ≡ length olds
    → StartsAll before.to_come between.to_come (all_links olds) → between.sent ≡ before.sent → between.started ≡ started_after before.started (cup_words engines)
    → ClosesLinks between.sent after.sent (all_links shut) → after.to_come ≡ between.to_come → after.started ≡ between.started → EndsEarly engines before after
early-all engines games olds shut before between after whole pairs same starts sent named closes come began =
    let many : length (all_links olds) ≡ length (cup_words engines) =
    let one = two-each olds in
    let other = two-words engines (pairings (length engines)) in
    let paired : length olds ≡ length (pairings (length engines)) = sym (length-map olds pairing) ∙ ap length pairs ∙ ap length whole in
    omega (arith, one, other, paired) in
    let closed : ClosesLinks before.sent after.sent (all_links shut) = subst (λ s. ClosesLinks s after.sent (all_links shut)) sent closes in
    let opened : StartsAll before.to_come after.to_come (all_links olds) = subst (λ t. StartsAll before.to_come t (all_links olds)) (sym come) starts in
    record {
      count = length (cup_words engines);
      few = omega arith;
      first = record {
        started = began ∙ (named ∙ ap (λ ws. started_after before.started ws) (sym (take_all (length (cup_words engines)) (cup_words engines) (omega arith))));
        taken = λ all e.
            let told = told-late (all_links olds) all before.to_come after.to_come opened e in
            (subst (λ n. n ≤ length all) many told.few, told.left ∙ ap (λ n. Some (drop n all)) many);
      };
      gains = λ all e. (wrote_by (all_links shut), long-wrote (all_links shut) ∙ (as-many olds shut same ∙ many), gains-wrote (all_links shut) before.sent after.sent closed);
    }
