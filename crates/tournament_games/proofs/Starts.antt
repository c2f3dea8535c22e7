-- The starts of programs, one after another, and what is closed after them.
use Rattle.std.proofs.Common.{◌≡◌, ℕ, ◌+◌, ◌^◌, ◌<◌, ◌≤◌, cond, List, [], ◌∷◌, ◌++◌, length, Option, Some, refl, ap, sym, ◌∙◌, arith, subst, length-append, inl, inr}
use Rattle.std.specs.List.{flat_map}
use Rattle.std.specs.Option.{option_to_list}
use Rattle.std.proofs.lemmas.List.{append-nil}
use Rattle.std.proofs.lemmas.Bool.{cases_lt}
use Rattle.std.proofs.lemmas.List.Concat.{flat_map-append}
use Rattle.std.proofs.lemmas.List.Elements.{All-nil, All-append}
use Rattle.std.proofs.lemmas.List.Sums.{sum_by-append}
use Rattle.io_edge.specs.Starts.{Engines}
use Rattle.match_runner.specs.Wires.{Wire}
use Rattle.cup.specs.Engines.{Engine}
use Rattle.cup_command.specs.Cup.{RoseBy, started_after}
use Rattle.cup_command.specs.Links.{ClosesLinks, StartsAll}
use Rattle.cup_command.proofs.Breaks.{started-more, started-none}
use Rattle.cup_command.proofs.Chains.{closes-append, starts-append}
use Rattle.tournament_core.specs.declared.plan.Plan.{Plan}
use Rattle.tournament_games.specs.Games.{AreNext, IsNext, Job}
use Rattle.tournament_games.specs.Links.{AreStarted, CountsFaults, IsFreshJob, Shuts, absences, all_links, is_absent, job_words, links_of}

-- Causes

pub counts-none : (a : ℕ) → CountsFaults 0 a a
counts-none a = record { later = omega arith; rose = inl (omega arith); same = λ e. refl; below = λ some. absurd (omega (arith, some)) }

rises-then : (n m a b c : ℕ) → b ≤ c → c < 2 ^ 64 → RoseBy n a b → RoseBy m b c → RoseBy (n + m) a c
rises-then n m a b c later below (inl more) (inl other) = inl (omega (arith, more, other))
rises-then n m a b c later below (inl more) (inr most) = inr most
rises-then n m a b c later below (inr most) k = inr (omega (arith, most, later, below))

-- the failures of some calls after those of others
pub counts-then : (n m a b c : ℕ) → CountsFaults n a b → CountsFaults m b c → CountsFaults (n + m) a c
counts-then n m a b c h k = elim (cases_lt 0 m) [
  | inl some ↦ record {
    later = omega (arith, h.later, k.later);
    rose = rises-then n m a b c k.later (k.below some) h.rose k.rose;
    same = λ e. absurd (omega (arith, e, some));
    below = λ any. k.below some;
  }
  | inr none ↦
      let nought : m ≡ 0 = omega (arith, none) in
      let still : c ≡ b = k.same nought in
      let number : n + m ≡ n = omega (arith, nought) in
      subst (λ x. CountsFaults x a c) (sym number) (subst (λ x. CountsFaults n a x) (sym still) h)
]

-- The programs of one game

-- One game after others

pub started-append : (engines : List Engine) (xs ys : List Job) (a b c : Engines) → AreStarted engines xs a b → AreStarted engines ys b c → AreStarted engines (xs ++ ys) a c
started-append engines xs ys a b c s u = record {
  fresh = All-append IsFreshJob xs ys s.fresh u.fresh;
  starts = subst (λ ls. StartsAll a.to_come c.to_come ls) (sym (flat_map-append links_of xs ys)) (starts-append a.to_come b.to_come c.to_come (all_links xs) (all_links ys) s.starts u.starts);
  named =
      u.named
      ∙ (ap (λ told. started_after told (flat_map (job_words engines) ys)) s.named
      ∙ (started-more a.started (flat_map (job_words engines) xs) (flat_map (job_words engines) ys)
      ∙ ap (λ ws. started_after a.started ws) (sym (flat_map-append (job_words engines) xs ys))));
  sent = u.sent ∙ s.sent;
  failed = u.failed ∙ s.failed;
  cause = subst (λ n. CountsFaults n a.start_faults c.start_faults) (sym (sum_by-append (λ (j : Job). cond (is_absent j) 1 0) xs ys)) (counts-then (absences xs) (absences ys) a.start_faults b.start_faults c.start_faults s.cause u.cause);
}

pub started-no : (engines : List Engine) (a : Engines) → AreStarted engines [] a a
started-no engines a = record {
  fresh = All-nil IsFreshJob;
  starts = refl;
  named = started-none a.started;
  sent = refl;
  failed = refl;
  cause = counts-none a.start_faults;
}

pub next-append : (plan : Plan) (n : ℕ) (xs ys : List Job) → AreNext plan n xs → AreNext plan (n + length xs) ys → AreNext plan n (xs ++ ys)
next-append plan n [] ys a b = subst (λ k. AreNext plan k ys) (omega arith) b
next-append plan n (x ∷ xs) ys a b = (a.0, next-append plan (n + 1) xs ys a.1 (subst (λ k. AreNext plan k ys) (omega arith) b))

pub next-push : (plan : Plan) (n m : ℕ) (xs : List Job) (x : Job) → m ≡ n + length xs → AreNext plan n xs → IsNext plan m x → AreNext plan n (xs ++ x ∷ [])
next-push plan n m xs x e a b = next-append plan n xs (x ∷ []) a (subst (λ k. IsNext plan k x) e b, tt)

-- What is closed

-- nothing was started, and these links were closed
pub shuts-links : (n : ℕ) (links : List Wire) (a b : Engines) → b.to_come ≡ a.to_come → ClosesLinks a.sent b.sent links → length links ≡ n → Shuts n a b
shuts-links n links a b come closes many = record {
  opened = [];
  closed = links;
  starts = come;
  closes = closes;
  many = omega (arith, many);
}

-- links were opened before
pub shuts-after : (n : ℕ) (links : List Wire) (a b c : Engines) → StartsAll a.to_come b.to_come links → b.sent ≡ a.sent → Shuts (n + length links) b c → Shuts n a c
shuts-after n links a b c starts sent s =
    let more = length-append links s.opened in
    let many = s.many in
    record {
      opened = links ++ s.opened;
      closed = s.closed;
      starts = starts-append a.to_come b.to_come c.to_come links s.opened starts s.starts;
      closes = subst (λ told. ClosesLinks told c.sent s.closed) sent s.closes;
      many = omega (arith, more, many);
    }

-- the links of games and of one more were closed
pub shuts-jobs : (jobs : List Job) (job : Job) (a b c : Engines) → ClosesLinks a.sent b.sent (all_links jobs) → ClosesLinks b.sent c.sent (links_of job) → b.to_come ≡ a.to_come → c.to_come ≡ b.to_come → Shuts (length (all_links (jobs ++ job ∷ []))) a c
shuts-jobs jobs job a b c first last one other =
    let same : all_links (jobs ++ job ∷ []) ≡ all_links jobs ++ links_of job = flat_map-append links_of jobs (job ∷ []) ∙ ap (λ ls. all_links jobs ++ ls) (append-nil (links_of job)) in
    shuts-links (length (all_links (jobs ++ job ∷ []))) (all_links jobs ++ links_of job) a c (other ∙ one)
    (closes-append a.sent b.sent c.sent (all_links jobs) (links_of job) first last)
    (ap (λ (ls : List Wire). length ls) (sym same))

-- the links of games and of one more are left to be closed
pub shuts-more : (engines : List Engine) (jobs : List Job) (job : Job) (a b c : Engines) → AreStarted engines (job ∷ []) a b → Shuts (length (all_links (jobs ++ job ∷ []))) b c → Shuts (length (all_links jobs)) a c
shuts-more engines jobs job a b c s shut =
    let same : all_links (jobs ++ job ∷ []) ≡ all_links jobs ++ all_links (job ∷ []) = flat_map-append links_of jobs (job ∷ []) in
    let long : length (all_links (jobs ++ job ∷ [])) ≡ length (all_links jobs) + length (all_links (job ∷ [])) = ap (λ (ls : List Wire). length ls) same ∙ length-append (all_links jobs) (all_links (job ∷ [])) in
    shuts-after (length (all_links jobs)) (all_links (job ∷ [])) a b c s.starts s.sent (subst (λ n. Shuts n b c) long shut)

-- what was started was closed, and then these links were
pub shuts-behind : (links : List Wire) (a b c : Engines) → Shuts 0 a b → ClosesLinks b.sent c.sent links → c.to_come ≡ b.to_come → Shuts (length links) a c
shuts-behind links a b c s closes come =
    let both = length-append s.closed links in
    let many = s.many in
    record {
      opened = s.opened;
      closed = s.closed ++ links;
      starts = subst (λ told. StartsAll a.to_come told s.opened) (sym come) s.starts;
      closes = closes-append a.sent b.sent c.sent s.closed links s.closes closes;
      many = omega (arith, both, many);
    }

-- one program was started before
pub shuts-start : (link : Option Wire) (w : Wire) (a b c : Engines) → link ≡ Some w → StartsAll a.to_come b.to_come (option_to_list link) → b.sent ≡ a.sent → Shuts 1 b c → Shuts 0 a c
shuts-start link w a b c some starts sent s = shuts-after 0 (w ∷ []) a b c (subst (λ l. StartsAll a.to_come b.to_come (option_to_list l)) some starts) sent s

-- all links that are left to be closed were opened here
pub shuts-all : (links : List Wire) (a b c : Engines) → StartsAll a.to_come b.to_come links → b.sent ≡ a.sent → Shuts (length links) b c → Shuts 0 a c
shuts-all links a b c starts sent s = shuts-after 0 links a b c starts sent (subst (λ n. Shuts n b c) (omega arith) s)
