-- The steps of the loops over the games of a wave.
use Rattle.std.proofs.Common.{◌≡◌, ◌≢◌, ℕ, ◌+◌, ◌<◌, ◌≤◌, List, [], ◌∷◌, ◌++◌, length, map, take, take_all, get_or, None, Some, refl, ap, sym, ◌∙◌, arith, subst, length-append, append_assoc}
use Rattle.std.specs.Prelude.{slice_get}
use Rattle.std.specs.List.{All}
use Rattle.std.proofs.lemmas.List.{append-nil, map-append, take_more}
use Rattle.std.proofs.lemmas.List.Concat.{flat_map-append}
use Rattle.std.proofs.lemmas.List.Elements.{All-nil, All-push}
use Rattle.std.proofs.lemmas.Option.{get_or_from_slice_get, slice_get_within}
use Rattle.hive_model.specs.declared.places.Move.{Move}
use Rattle.io_edge.specs.Starts.{Engines}
use Rattle.match_core.specs.declared.setup.Setup.{Setup}
use Rattle.match_core.specs.Setups.{setup_from}
use Rattle.match_core.specs.MatchState.{MatchState}
use Rattle.match_runner.specs.Wires.{Watch, Wire}
use Rattle.match_runner.specs.Runs.{RanOver}
use Rattle.tournament_core.specs.declared.fixtures.Fixture.{Fixture}
use Rattle.tournament_core.specs.declared.plan.Plan.{Plan}
use Rattle.tournament_core.specs.Schedules.{IsFixture, schedule}
use Rattle.tournament_core.specs.Ends.{PlayedFixture}
use Rattle.tournament_core.specs.Counts.{Counts, IsTallyOf}
use Rattle.tournament_games.specs.declared.outcome.ToldGame.{ToldGame}
use Rattle.tournament_games.specs.Tournaments.{Terms, begin_of}
use Rattle.tournament_games.specs.Texts.{match_outcome}
use Rattle.tournament_games.specs.Games.{AreNext, Job, WasRun, played_game, told_text}
use Rattle.tournament_games.specs.Links.{AreStarted}
use Rattle.tournament_games.specs.Waves.{Notes, games_text}
use Rattle.tournament_games.proofs.Starts.{next-push, started-append, started-no}

-- Starts

-- so many games of a wave were started
pub record Begun (t : Terms) (first count : ℕ) (jobs : List Job) (before now : Engines) : Type 0 where
  pub many : length jobs ≡ count
  pub next : AreNext t.plan first jobs
  pub fixtures : All (λ (j : Job). IsFixture t.plan.engines j.fixture) jobs
  pub started : AreStarted t.engines jobs before now

pub begun-none : (t : Terms) (first : ℕ) (jobs : List Job) (a : Engines) → jobs ≡ [] → Begun t first 0 jobs a a
begun-none t first jobs a none = subst (λ js. Begun t first 0 js a a) (sym none) (record {
  many = refl;
  next = tt;
  fixtures = All-nil (λ (j : Job). IsFixture t.plan.engines j.fixture);
  started = started-no t.engines a;
})

pub begun-more : (t : Terms) (plan : Plan) (first place before : ℕ) (f : Fixture) (jobs now : List Job) (job : Job) (a b c : Engines) → plan ≡ t.plan → before ≡ first + place → slice_get (schedule plan) before ≡ Some f → IsFixture plan.engines f
    → job.number ≡ before + 1 → job.fixture ≡ f → now ≡ jobs ++ job ∷ [] → AreStarted t.engines (job ∷ []) b c → Begun t first place jobs a b → Begun t first (place + 1) now a c
begun-more t plan first place before f jobs now job a b c same at there fits number fixture more started so =
    let long = length-append jobs (job ∷ []) in
    let many = so.many in
    subst (λ js. Begun t first (place + 1) js a c) (sym more) (record {
      many = omega (arith, long, many);
      next = next-push t.plan first before jobs job (omega (arith, at, many)) so.next (record {
        number = number;
        fixture = subst (λ p. slice_get (schedule p) before ≡ Some job.fixture) same (there ∙ ap (λ x. Some x) (sym fixture));
      });
      fixtures = All-push (λ (j : Job). IsFixture t.plan.engines j.fixture) jobs job so.fixtures (subst (λ p. IsFixture p.engines job.fixture) same (subst (λ x. IsFixture plan.engines x) (sym fixture) fits));
      started = started-append t.engines jobs (job ∷ []) a b c so.started started;
    })

-- Lines

-- the lines of these games are in the text, and the games were noted
pub record Lined (jobs : List Job) (count : ℕ) (text : List ℕ) (tally0 tally : Counts) : Type 0 where
  pub told : All (λ (j : Job). j.outcome ≢ None) jobs
  pub lines : text ≡ games_text jobs
  pub engines : tally.engines ≡ tally0.engines
  pub games : tally.games ≡ tally0.games + count
  pub noted : Notes jobs tally0 tally

pub lined-none : (jobs : List Job) (text : List ℕ) (tally : Counts) → text ≡ [] → Lined (take 0 jobs) 0 text tally tally
lined-none [] text tally none = record {
  told = All-nil (λ (j : Job). j.outcome ≢ None);
  lines = none;
  engines = refl;
  games = omega arith;
  noted = λ games is. subst (λ (gs : List PlayedFixture). IsTallyOf gs tally) (sym (append-nil games)) is;
}
lined-none (job ∷ jobs) text tally none = record {
  told = All-nil (λ (j : Job). j.outcome ≢ None);
  lines = none;
  engines = refl;
  games = omega arith;
  noted = λ games is. subst (λ (gs : List PlayedFixture). IsTallyOf gs tally) (sym (append-nil games)) is;
}

pub lined-more : (jobs : List Job) (i : ℕ) (job : Job) (text now : List ℕ) (tally0 tally next : Counts) → i < length jobs → job ≡ get_or jobs i job → job.outcome ≢ None → now ≡ text ++ told_text job → next.engines ≡ tally.engines → next.games ≡ tally.games + 1
    → ((games : List PlayedFixture) → IsTallyOf games tally → IsTallyOf (games ++ played_game job ∷ []) next) → Lined (take i jobs) i text tally0 tally → Lined (take (i + 1) jobs) (i + 1) now tally0 next
lined-more jobs i job text now tally0 tally next low is some wrote engines games noted so =
    let more : take (i + 1) jobs ≡ take i jobs ++ job ∷ [] = take_more jobs i job low ∙ ap (λ (j : Job). take i jobs ++ j ∷ []) (sym is) in
    let was = so.games in
    subst (λ js. Lined js (i + 1) now tally0 next) (sym more) (record {
      told = All-push (λ (j : Job). j.outcome ≢ None) (take i jobs) job so.told some;
      lines = wrote ∙ (ap (λ xs. xs ++ told_text job) so.lines ∙ sym (flat_map-append told_text (take i jobs) (job ∷ []) ∙ ap (λ xs. games_text (take i jobs) ++ xs) (append-nil (told_text job))));
      engines = engines ∙ so.engines;
      games = omega (arith, games, was);
      noted = λ gs was.
          subst (λ (xs : List PlayedFixture). IsTallyOf xs next) (append_assoc gs (map played_game (take i jobs)) (played_game job ∷ []) ∙ ap (λ xs. gs ++ xs) (sym (map-append played_game (take i jobs) (job ∷ []))))
          (noted (gs ++ map played_game (take i jobs)) (so.noted gs was));
    })

-- after the last game all of them were written
pub lined-all : (jobs : List Job) (i : ℕ) (text : List ℕ) (tally0 tally : Counts) → length jobs ≤ i → i ≤ length jobs → Lined (take i jobs) i text tally0 tally → Lined jobs (length jobs) text tally0 tally
lined-all jobs i text tally0 tally past low so =
    let same : i ≡ length jobs = omega (arith, past, low) in
    subst (λ js. Lined js (length jobs) text tally0 tally) (take_all i jobs past) (subst (λ n. Lined (take i jobs) n text tally0 tally) same so)

-- the game at a place is a fixture of the tournament
pub fixture-at : (jobs : List Job) (i : ℕ) (job : Job) (text : List ℕ) (tally0 tally : Counts) → All (λ (j : Job). IsFixture tally0.engines j.fixture) jobs → i < length jobs → job ≡ get_or jobs i job → Lined (take i jobs) i text tally0 tally → IsFixture tally.engines job.fixture
fixture-at jobs i job text tally0 tally all low is so =
    subst (λ n. IsFixture n job.fixture) (sym so.engines) (subst (λ (j : Job). IsFixture tally0.engines j.fixture) (sym is) (all i job low))

-- and it can be counted
pub room-at : (jobs : List Job) (i most : ℕ) (text : List ℕ) (tally0 tally : Counts) → tally0.games + length jobs ≤ most → i < length jobs → Lined (take i jobs) i text tally0 tally → tally.games < most
room-at jobs i most text tally0 tally room low so = let was = so.games in omega (arith, room, low, was)

-- Matches

-- the match of a game was run, by the setup and from the moves that are its own
pub was-run : {t : Terms} {number : ℕ} {f : Fixture} {s : Setup} {made : List Move} {r : MatchState} {w0 w b0 b : Wire} {c0 c : Watch} {told : ToldGame} → RanOver (setup_from s made) r w0 w b0 b c0 c → made ≡ begin_of t f → s ≡ t.setup → told ≡ match_outcome s number f r → WasRun t number f w0 w b0 b told
was-run {t} {number} {f} {s} {made} {r} {w0} {w} {b0} {b} {c0} {c} {told} ran begin same tells =
    let over : RanOver (setup_from t.setup (begin_of t f)) r w0 w b0 b c0 c =
    subst (λ x. RanOver (setup_from x (begin_of t f)) r w0 w b0 b c0 c) same (subst (λ ms. RanOver (setup_from s ms) r w0 w b0 b c0 c) begin ran) in
    record {
      stands = r;
      read_before = c0.last;
      read_now = c.last;
      ran = over.links;
      timed = over.history;
      late = over.late;
      tells = tells ∙ ap (λ x. match_outcome x number f r) same;
    }

-- Openings

pub opening-more : (made : List Move) (i : ℕ) (m : Move) (moves now : List Move) → slice_get made i ≡ Some m → moves ≡ take i made → now ≡ moves ++ m ∷ [] → now ≡ take (i + 1) made
opening-more made i m moves now there so more =
    more ∙ (ap (λ ms. ms ++ m ∷ []) so ∙ sym (take_more made i m (slice_get_within made i m there) ∙ ap (λ x. take i made ++ x ∷ []) (get_or_from_slice_get made i m m there)))
