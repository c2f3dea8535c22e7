-- The loop that closes the links of games.
use Rattle.std.proofs.Common.{◌≡◌, ◌∷◌, ◌+◌, ◌++◌, ℕ, List, length, arith, ap, sym, ◌∙◌, refl, subst}
use Rattle.io_edge.specs.Outside.{ToldLists}
use Rattle.io_edge.specs.Starts.{Engines}
use Rattle.match_command.specs.Match.{StartsNone}
use Rattle.cup.specs.Played.{Job}
use Rattle.cup_command.specs.Links.{ClosesLinks, all_links, counted, links_of}
use Rattle.cup_command.proofs.Chains.{closes-append, counted-append, nothing-left}
use Rattle.cup_command.proofs.Kept.{none-at-all, none-then}

-- the links of some games were closed, and this number of games is left
pub record IsLeft (jobs left : List Job) (many : ℕ) (before now : Engines) : Type 0 where
  pub long : many ≡ length left
  pub sent : (later : ToldLists) → ClosesLinks now.sent later (all_links left) → ClosesLinks before.sent later (all_links jobs)
  pub failed : counted (all_links left) now.engine_faults ≡ counted (all_links jobs) before.engine_faults
  pub none_started : StartsNone before now

-- before the first close all games are left
pub left-first : (jobs left : List Job) (many : ℕ) (before : Engines) → left ≡ jobs → many ≡ length jobs → IsLeft jobs left many before before
left-first jobs left many before same long =
    subst (λ (js : List Job). IsLeft jobs js many before before) (sym same) (record {
      long = long;
      sent = λ later closes. closes;
      failed = refl;
      none_started = none-at-all before;
    })

-- once the links of the first game were closed, the others are left
pub left-next : (jobs left rest : List Job) (job : Job) (many fewer : ℕ) (before now after : Engines) → IsLeft jobs left many before now → left ≡ job ∷ rest → fewer + 1 ≡ many
    → ClosesLinks now.sent after.sent (links_of job) → after.engine_faults ≡ counted (links_of job) now.engine_faults → StartsNone now after → IsLeft jobs rest fewer before after
left-next jobs left rest job many fewer before now after so items gone closed failed none = record {
  long = let shorter : length left ≡ length rest + 1 = ap (λ (js : List Job). length js) items ∙ omega arith in let was = so.long in omega (arith, was, gone, shorter);
  sent = λ later more. so.sent later (subst (λ (js : List Job). ClosesLinks now.sent later (all_links js)) (sym items) (closes-append now.sent after.sent later (links_of job) (all_links rest) closed more));
  failed =
      ap (counted (all_links rest)) failed
      ∙ (sym (counted-append (links_of job) (all_links rest) now.engine_faults) ∙ (ap (λ (js : List Job). counted (all_links js) now.engine_faults) (sym items) ∙ so.failed));
  none_started = none-then before now after so.none_started none;
}

-- if none is left, the links of all games were closed
pub left-none : (jobs left : List Job) (many : ℕ) (before now : Engines) → IsLeft jobs left many before now → many ≡ 0 → ClosesLinks before.sent now.sent (all_links jobs)
left-none jobs left many before now so over =
    so.sent now.sent (subst (λ (js : List Job). ClosesLinks now.sent now.sent (all_links js)) (sym (nothing-left left (sym so.long ∙ over))) refl)

-- and this number of programs had failed
pub left-failed : (jobs left : List Job) (many : ℕ) (before now : Engines) → IsLeft jobs left many before now → many ≡ 0 → now.engine_faults ≡ counted (all_links jobs) before.engine_faults
left-failed jobs left many before now so over =
    ap (λ (js : List Job). counted (all_links js) now.engine_faults) (sym (nothing-left left (sym so.long ∙ over))) ∙ so.failed

-- the links of all games were closed, and then those of one more
pub closes-last : (held jobs : List Job) (last job : Job) (before between after : ToldLists) → held ≡ jobs → last ≡ job
    → ClosesLinks before between (all_links held) → ClosesLinks between after (links_of last) → ClosesLinks before after (all_links jobs ++ links_of job)
closes-last held jobs last job before between after same one all more =
    closes-append before between after (all_links jobs) (links_of job) (subst (λ (js : List Job). ClosesLinks before between (all_links js)) same all) (subst (λ (j : Job). ClosesLinks between after (links_of j)) one more)
