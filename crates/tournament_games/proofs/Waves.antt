-- Waves, one after another.
use Rattle.std.proofs.Common.{◌≡◌, ◌≢◌, ℕ, ◌+◌, cond, List, [], ◌∷◌, ◌++◌, length, map, Option, Some, None, Result, Ok, Err, IfOk, OnOk, OnErr, refl, ap, sym, ◌∙◌, arith, subst, append_assoc, length-append, inl, inr}
use Rattle.std.specs.Prelude.{is_none}
use Rattle.std.specs.List.{All, AllZip, flat_map}
use Rattle.std.specs.Option.{option_to_list}
use Rattle.std.proofs.lemmas.List.{map-append}
use Rattle.std.proofs.lemmas.List.Concat.{flat_map-append}
use Rattle.std.proofs.lemmas.List.Elements.{All-nil, All-cons, All-append, All-head, All-tail, length_all_zip}
use Rattle.std.proofs.lemmas.List.Sums.{sum_by-append}
use Rattle.io_edge.specs.Starts.{Engines}
use Rattle.match_command.specs.Match.{NoneIsOpen, StartsNone}
use Rattle.match_runner.specs.Wires.{Wire}
use Rattle.cup_command.specs.Cup.{started_after}
use Rattle.cup_command.specs.Links.{ClosesLinks, StartsAll, counted}
use Rattle.cup_command.proofs.Breaks.{started-more, started-none}
use Rattle.cup_command.proofs.Chains.{closes-append, counted-append, none-open, starts-append}
use Rattle.tournament_core.specs.Schedules.{IsFixture}
use Rattle.tournament_core.specs.Ends.{PlayedFixture}
use Rattle.tournament_core.specs.Counts.{Counts, IsTallyOf}
use Rattle.tournament_games.specs.Tournaments.{Terms}
use Rattle.tournament_games.specs.Games.{AreNext, IsSameGame, IsSettled, Job, played_game, told_text}
use Rattle.tournament_games.specs.Links.{AreStarted, CountsFaults, absences, IsFreshJob, Shuts, all_links, is_absent, job_words, links_of}
use Rattle.tournament_games.specs.Waves.{ArePlayed, IsDone, IsWave, Notes, games_text}
use Rattle.tournament_games.proofs.Starts.{counts-none, counts-then, next-append}

-- Two lists

zip-append : {A : Type 0} (R : A → A → Type 0) (xs us ys vs : List A) → AllZip R xs us → AllZip R ys vs → AllZip R (xs ++ ys) (us ++ vs)
zip-append R [] [] ys vs a b = b
zip-append R [] (u ∷ us) ys vs a b = absurd a
zip-append R (x ∷ xs) [] ys vs a b = absurd a
zip-append R (x ∷ xs) (u ∷ us) ys vs a b = (a.0, zip-append R xs us ys vs a.1 b)

-- Games after games

pub played-append : (t : Terms) (n : ℕ) (xs us ys vs : List Job) (a b c : Engines) → ArePlayed t n xs us a b → ArePlayed t (n + length us) ys vs b c → ArePlayed t n (xs ++ ys) (us ++ vs) a c
played-append t n xs us ys vs a b c p q =
    let long : length xs ≡ length us = length_all_zip (IsDone t) xs us p.done in
    record {
      next = next-append t.plan n xs ys p.next (subst (λ k. AreNext t.plan (n + k) ys) (sym long) q.next);
      fresh = All-append IsFreshJob xs ys p.fresh q.fresh;
      done = zip-append (IsDone t) xs us ys vs p.done q.done;
      starts = subst (λ ls. StartsAll a.to_come c.to_come ls) (sym (flat_map-append links_of xs ys)) (starts-append a.to_come b.to_come c.to_come (all_links xs) (all_links ys) p.starts q.starts);
      named =
          q.named
          ∙ (ap (λ told. started_after told (flat_map (job_words t.engines) ys)) p.named
          ∙ (started-more a.started (flat_map (job_words t.engines) xs) (flat_map (job_words t.engines) ys)
          ∙ ap (λ ws. started_after a.started ws) (sym (flat_map-append (job_words t.engines) xs ys))));
      closes = subst (λ ls. ClosesLinks a.sent c.sent ls) (sym (flat_map-append links_of us vs)) (closes-append a.sent b.sent c.sent (all_links us) (all_links vs) p.closes q.closes);
      counts =
          q.counts
          ∙ (ap (counted (all_links vs)) p.counts
          ∙ (sym (counted-append (all_links us) (all_links vs) a.engine_faults)
          ∙ ap (λ ls. counted ls a.engine_faults) (sym (flat_map-append links_of us vs))));
      cause = subst (λ n. CountsFaults n a.start_faults c.start_faults) (sym (sum_by-append (λ (j : Job). cond (is_absent j) 1 0) xs ys)) (counts-then (absences xs) (absences ys) a.start_faults b.start_faults c.start_faults p.cause q.cause);
    }

pub played-none : (t : Terms) (n : ℕ) (a : Engines) → ArePlayed t n [] [] a a
played-none t n a = record {
  next = tt;
  fresh = All-nil IsFreshJob;
  done = tt;
  starts = refl;
  named = started-none a.started;
  closes = refl;
  counts = refl;
  cause = counts-none a.start_faults;
}

pub notes-append : (us vs : List Job) (a b c : Counts) → Notes us a b → Notes vs b c → Notes (us ++ vs) a c
notes-append us vs a b c n m = λ games is.
    subst (λ (gs : List PlayedFixture). IsTallyOf gs c) (append_assoc games (map played_game us) (map played_game vs) ∙ ap (λ gs. games ++ gs) (sym (map-append played_game us vs))) (m (games ++ map played_game us) (n games is))

pub text-append : (us vs : List Job) → games_text (us ++ vs) ≡ games_text us ++ games_text vs
text-append us vs = flat_map-append told_text us vs

-- The results of a wave's games

settled-done : (t : Terms) (old new : Job) → IsSettled t old new → new.outcome ≢ None → IsDone t old new
settled-done t old new s some = record {
  same = s.same;
  played = elim s.settled [ inl none ↦ absurd (some none) | inr played ↦ played ];
}

pub done-all : (t : Terms) (olds news : List Job) → AllZip (IsSettled t) olds news → All (λ (j : Job). j.outcome ≢ None) news → AllZip (IsDone t) olds news
done-all t [] [] all some = tt
done-all t [] (new ∷ news) all some = absurd all
done-all t (old ∷ olds) [] all some = absurd all
done-all t (old ∷ olds) (new ∷ news) all some =
    (settled-done t old new all.0 (All-head (λ (j : Job). j.outcome ≢ None) new news some), done-all t olds news all.1 (All-tail (λ (j : Job). j.outcome ≢ None) new news some))

pub fixtures-all : (t : Terms) (n : ℕ) (olds news : List Job) → AllZip (IsSettled t) olds news → All (λ (j : Job). IsFixture n j.fixture) olds → All (λ (j : Job). IsFixture n j.fixture) news
fixtures-all t n [] [] all fits = fits
fixtures-all t n [] (new ∷ news) all fits = absurd all
fixtures-all t n (old ∷ olds) [] all fits = absurd all
fixtures-all t n (old ∷ olds) (new ∷ news) all fits =
    All-cons (λ (j : Job). IsFixture n j.fixture) new news
    (subst (λ f. IsFixture n f) (sym all.0.same.fixture) (All-head (λ (j : Job). IsFixture n j.fixture) old olds fits))
    (fixtures-all t n olds news all.1 (All-tail (λ (j : Job). IsFixture n j.fixture) old olds fits))

-- How many links there are

as-long : (a b : Option Wire) → is_none b ≡ is_none a → length (option_to_list b) ≡ length (option_to_list a)
as-long None None e = refl
as-long None (Some b) e = cc
as-long (Some a) None e = cc
as-long (Some a) (Some b) e = refl

links-same : (old new : Job) → IsSameGame old new → length (links_of new) ≡ length (links_of old)
links-same old new same =
    let white = as-long old.white new.white same.white in
    let black = as-long old.black new.black same.black in
    let one = length-append (option_to_list new.white) (option_to_list new.black) in
    let other = length-append (option_to_list old.white) (option_to_list old.black) in
    omega (arith, white, black, one, other)

-- each game of one list is the same game as that of the other list at its place
links-each : (R : Job → Job → Type 0) → ((old new : Job) → R old new → IsSameGame old new) → (olds news : List Job) → AllZip R olds news → length (all_links news) ≡ length (all_links olds)
links-each R same [] [] all = refl
links-each R same [] (new ∷ news) all = absurd all
links-each R same (old ∷ olds) [] all = absurd all
links-each R same (old ∷ olds) (new ∷ news) all =
    let first = links-same old new (same old new all.0) in
    let more = links-each R same olds news all.1 in
    let one = length-append (links_of new) (all_links news) in
    let other = length-append (links_of old) (all_links olds) in
    omega (arith, first, more, one, other)

pub links-all : (t : Terms) (olds news : List Job) → AllZip (IsSettled t) olds news → length (all_links news) ≡ length (all_links olds)
links-all t olds news all = links-each (IsSettled t) (λ old new s. s.same) olds news all

links-done : (t : Terms) (olds news : List Job) → AllZip (IsDone t) olds news → length (all_links news) ≡ length (all_links olds)
links-done t olds news all = links-each (IsDone t) (λ old new d. d.same) olds news all

-- A wave

pub wave-played : (t : Terms) (first : ℕ) (olds news : List Job) (a b c : Engines) → AreNext t.plan first olds → AreStarted t.engines olds a b → AllZip (IsSettled t) olds news → All (λ (j : Job). j.outcome ≢ None) news
    → ClosesLinks b.sent c.sent (all_links news) → c.engine_faults ≡ counted (all_links news) b.engine_faults → StartsNone b c → ArePlayed t first olds news a c
wave-played t first olds news a b c next s settled some closes counts still = record {
  next = next;
  fresh = s.fresh;
  done = done-all t olds news settled some;
  starts = subst (λ told. StartsAll a.to_come told (all_links olds)) (sym still.to_come) s.starts;
  named = still.started ∙ s.named;
  closes = subst (λ told. ClosesLinks told c.sent (all_links news)) s.sent closes;
  counts = counts ∙ ap (counted (all_links news)) s.failed;
  cause = subst (λ n. CountsFaults (absences olds) a.start_faults n) (sym still.starts) s.cause;
}

-- if memory ran out after the starts, all links were closed
pub wave-shut : (t : Terms) (olds news : List Job) (a b c : Engines) → AreStarted t.engines olds a b → AllZip (IsSettled t) olds news → ClosesLinks b.sent c.sent (all_links news) → StartsNone b c → Shuts 0 a c
wave-shut t olds news a b c s settled closes still = record {
  opened = all_links olds;
  closed = all_links news;
  starts = subst (λ told. StartsAll a.to_come told (all_links olds)) (sym still.to_come) s.starts;
  closes = subst (λ told. ClosesLinks told c.sent (all_links news)) s.sent closes;
  many = let same = links-all t olds news settled in omega (arith, same);
}

-- None is left open

pub played-open : (t : Terms) (first : ℕ) (olds news : List Job) (a b : Engines) → ArePlayed t first olds news a b → NoneIsOpen a b
played-open t first olds news a b p = none-open a b (all_links olds) (all_links news) p.starts p.closes (links-done t olds news p.done)

pub shut-open : (t : Terms) (first : ℕ) (olds news : List Job) (a b c : Engines) → ArePlayed t first olds news a b → Shuts 0 b c → NoneIsOpen a c
shut-open t first olds news a b c p s =
    let one = length-append (all_links olds) s.opened in
    let other = length-append (all_links news) s.closed in
    let same = links-done t olds news p.done in
    let many = s.many in
    none-open a c (all_links olds ++ s.opened) (all_links news ++ s.closed)
    (starts-append a.to_come b.to_come c.to_come (all_links olds) s.opened p.starts s.starts)
    (closes-append a.sent b.sent c.sent (all_links news) s.closed p.closes s.closes)
    (omega (arith, one, other, same, many))

-- the lines of a wave in which each game has an outcome
pub wave-told : {E : Type 0} (t : Terms) (first count : ℕ) (olds news shown : List Job) (tally0 tally : Counts) (a b c : Engines) (r : Result (List ℕ) E) → shown ≡ news → length olds ≡ count → AreNext t.plan first olds → AreStarted t.engines olds a b → AllZip (IsSettled t) olds news
    → ClosesLinks b.sent c.sent (all_links news) → c.engine_faults ≡ counted (all_links news) b.engine_faults → StartsNone b c → OnOk r (All (λ (j : Job). j.outcome ≢ None) shown) → IfOk r (λ text. text ≡ games_text shown) → OnOk r (Notes shown tally0 tally)
    → IfOk r (λ text. IsWave t first count text tally0 tally a c)
wave-told t first count olds news shown tally0 tally a b c (Err e) same many next started settled closes counts still some told noted = tt
wave-told t first count olds news shown tally0 tally a b c (Ok text) same many next started settled closes counts still some told noted = record {
  olds = olds;
  news = news;
  played = wave-played t first olds news a b c next started settled (subst (λ (js : List Job). All (λ (j : Job). j.outcome ≢ None) js) same some) closes counts still;
  many = sym (length_all_zip (IsSettled t) olds news settled) ∙ many;
  told = told ∙ ap games_text same;
  noted = subst (λ js. Notes js tally0 tally) same noted;
}

pub always-err : {A E P : Type 0} (r : Result A E) → P → OnErr r P
always-err (Ok a) p = tt
always-err (Err e) p = p
