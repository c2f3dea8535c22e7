-- What a run results in, from wave to wave and after the last one.
use Rattle.std.proofs.Common.{◌≡◌, ◌≢◌, ℕ, zero, suc, ◌+◌, ◌*◌, ◌<◌, ◌≤◌, List, [], ◌∷◌, ◌++◌, length, map, take, get_or, Some, refl, ap, sym, ◌∙◌, arith, subst, length-append, inl, inr}
use Rattle.std.specs.Prelude.{slice_get}
use Rattle.std.specs.List.{sum_by, zip}
use Rattle.std.proofs.lemmas.List.{append-nil, length-map, map-append, take_more}
use Rattle.std.proofs.lemmas.Option.{get_or_from_slice_get, slice_get_within}
use Rattle.std.proofs.lemmas.Slice.Zip.{get_or-zip, length-zip}
use Rattle.io_edge.specs.Outside.{Told, behind}
use Rattle.io_edge.specs.Starts.{Engines}
use Rattle.io_edge.proofs.Told.{behind-behind}
use Rattle.command_runs.specs.Answered.{WritesAs}
use Rattle.command_runs.specs.World.{World, sides, world}
use Rattle.command_runs.specs.declared.status.Status.{Status}
use Rattle.command_runs.specs.declared.status.Status.TheVariants.{Done, Refused, Usage, ReadFault, WriteFault, SpawnFault, BadInput, Memory, InputFull}
use Rattle.command_runs.proofs.WrittenLemmas.{on_written}
use Rattle.match_command.specs.Match.{NoneIsOpen}
use Rattle.tournament_core.specs.declared.fixtures.Fixture.{Fixture}
use Rattle.tournament_core.specs.declared.fixtures.GameEnd.{GameEnd}
use Rattle.tournament_core.specs.declared.plan.Plan.{Plan}
use Rattle.tournament_core.specs.declared.standing.Standing.{Standing as Place}
use Rattle.tournament_core.specs.Schedules.{numbers, schedule}
use Rattle.tournament_core.specs.Ends.{PlayedFixture, points}
use Rattle.tournament_core.specs.Counts.{Counts, IsTallyOf}
use Rattle.tournament_games.specs.Tournaments.{Terms}
use Rattle.tournament_core.proofs.Tallies.{points-add-up}
use Rattle.tournament_games.specs.Games.{Job, played_game}
use Rattle.tournament_games.specs.Waves.{AreNoted, ArePlayed, CutInGames, CutWave, GamesRun, IsPlayedOut, NoWave, Starved, StandingsRun, HeadedRun, WaveRun, WroteGames, WroteWave, all_games, games_text, resumed, standings_text}
use Rattle.tournament_games.proofs.Starts.{shuts-links}
use Rattle.tournament_games.proofs.Waves.{notes-append, played-append, played-none, played-open, shut-open, text-append}

-- Games that were played before

zip-take : {A B : Type 0} (xs : List A) (ys : List B) (i : ℕ) → zip xs (take i ys) ≡ take i (zip xs ys)
zip-take [] ys zero = refl
zip-take [] ys (suc i) = refl
zip-take (x ∷ xs) [] zero = refl
zip-take (x ∷ xs) [] (suc i) = refl
zip-take (x ∷ xs) (y ∷ ys) zero = refl
zip-take (x ∷ xs) (y ∷ ys) (suc i) = ap (λ zs. (x, y) ∷ zs) (zip-take xs ys i)

pub resumed-more : (plan : Plan) (ends : List GameEnd) (i : ℕ) (f : Fixture) (e : GameEnd) → slice_get (schedule plan) i ≡ Some f → i < length ends → e ≡ get_or ends i e
    → resumed plan (take (i + 1) ends) ≡ resumed plan (take i ends) ++ record { fixture = f; ended = e } ∷ []
resumed-more plan ends i f e there low is =
    let fs = schedule plan in
    let pair : Fixture × GameEnd → PlayedFixture = λ g. record { fixture = g.0; ended = g.1 } in
    let inside : i < length fs = slice_get_within fs i f there in
    let within : i < length (zip fs ends) = let many = length-zip fs ends in omega (arith, many, low, inside) in
    let both : get_or (zip fs ends) i (f, e) ≡ (f, e) =
    get_or-zip fs ends i (f, e) inside low ∙ (ap (λ x. (x, get_or ends i e)) (get_or_from_slice_get fs i f f there) ∙ ap (λ y. (f, y)) (sym is)) in
    ap (map pair) (zip-take fs ends (i + 1) ∙ (take_more (zip fs ends) i (f, e) within ∙ (ap (λ p. take i (zip fs ends) ++ p ∷ []) both ∙ ap (λ zs. zs ++ (f, e) ∷ []) (sym (zip-take fs ends i)))))
    ∙ map-append pair (zip fs (take i ends)) ((f, e) ∷ [])

pub resumed-noted : (plan : Plan) (ends : List GameEnd) (i : ℕ) (f : Fixture) (now : Counts) {e : GameEnd} → slice_get (schedule plan) i ≡ Some f → i < length ends → IsTallyOf (resumed plan (take i ends) ++ record { fixture = f; ended = e } ∷ []) now → e ≡ get_or ends i e
    → IsTallyOf (resumed plan (take (i + 1) ends)) now
resumed-noted plan ends i f now {e} there low noted is = subst (λ games. IsTallyOf games now) (sym (resumed-more plan ends i f e there low is)) noted

zip-none : {A B : Type 0} (xs : List A) → zip {X = B} xs [] ≡ []
zip-none [] = refl
zip-none (x ∷ xs) = refl

pub resumed-none : (plan : Plan) → resumed plan [] ≡ []
resumed-none plan = ap (λ gs. map (λ (g : Fixture × GameEnd). record { fixture = g.0; ended = g.1 }) gs) (zip-none (schedule plan))

-- One more wave

pub wrote-none : (t : Terms) (first : ℕ) (tally : Counts) (a : World) → a.sides.written ≡ behind a.sides.written [] → WroteGames t first [] [] tally tally a a
wrote-none t first tally a same = record {
  played = played-none t first a.engines;
  noted = λ games is. subst (λ (gs : List PlayedFixture). IsTallyOf gs tally) (sym (append-nil games)) is;
  wrote = same;
}

pub wrote-more : (t : Terms) (first done count : ℕ) (olds news : List Job) (tally0 tally now : Counts) (a b c : World) → done ≡ first + length news → WroteGames t first olds news tally0 tally a b → WroteWave t done count tally now b c
    → (os ns : List Job) × (done + count ≡ first + length ns) × WroteGames t first os ns tally0 now a c
wrote-more t first done count olds news tally0 tally now a b c at so w =
    let v = w.wave in
    let long = length-append news v.news in
    let many = v.many in (
      olds ++ v.olds,
      news ++ v.news,
      omega (arith, at, long, many),
      record {
        played = played-append t first olds news v.olds v.news a.engines b.engines c.engines so.played (subst (λ k. ArePlayed t k v.olds v.news b.engines c.engines) at v.played);
        noted = notes-append news v.news tally0 tally now so.noted v.noted;
        wrote =
            w.wrote
            ∙ (ap (λ told. behind told w.text) so.wrote
            ∙ (behind-behind a.sides.written (games_text news) w.text
            ∙ (ap (λ text. behind a.sides.written (games_text news ++ text)) v.told
            ∙ ap (behind a.sides.written) (sym (text-append news v.news)))));
      },
    )

-- the last wave was cut off
cut-more : (t : Terms) (first done count : ℕ) (olds news : List Job) (tally0 tally now : Counts) (a b c : World) → done ≡ first + length news → count ≤ t.at_once → WroteGames t first olds news tally0 tally a b → CutWave t done count tally now b c
    → (os whole cut : List Job) × (n : ℕ) × CutInGames t first os whole cut n a c
cut-more t first done count olds news tally0 tally now a b c at few so w =
    let v = w.wave in
    let many = v.many in (
      olds ++ v.olds,
      news,
      v.news,
      w.n,
      record {
        played = played-append t first olds news v.olds v.news a.engines b.engines c.engines so.played (subst (λ k. ArePlayed t k v.olds v.news b.engines c.engines) at v.played);
        wave = omega (arith, many, few);
        part = subst (λ text. w.n < length text) v.told w.part;
        wrote =
            w.wrote
            ∙ (ap (λ told. behind told (take w.n w.text)) so.wrote
            ∙ (behind-behind a.sides.written (games_text news) (take w.n w.text)
            ∙ ap (λ text. behind a.sides.written (games_text news ++ take w.n text)) v.told));
      },
    )

-- memory ran out for the last wave
none-more : (t : Terms) (first : ℕ) (olds news : List Job) (tally0 tally : Counts) (a b c : World) → WroteGames t first olds news tally0 tally a b → NoWave b c → (os ns : List Job) × (between : Engines) × Starved t first os ns between a c
none-more t first olds news tally0 tally a b c so w = (
  olds,
  news,
  b.engines,
  record { played = so.played; shut = w.shut; wrote = w.wrote ∙ so.wrote },
)

-- a wave that ends the run
pub ends-games : (t : Terms) (first done count : ℕ) (olds news : List Job) (tally0 tally now : Counts) (status : Status) (a b c : World) → done ≡ first + length news → count ≤ t.at_once → status ≢ Done → WroteGames t first olds news tally0 tally a b → WaveRun t done count tally now status b c
    → GamesRun t first tally0 now status a c
ends-games t first done count olds news tally0 tally now Done a b c at few other so w = absurd (other refl)
ends-games t first done count olds news tally0 tally now WriteFault a b c at few other so w = cut-more t first done count olds news tally0 tally now a b c at few so w
ends-games t first done count olds news tally0 tally now Memory a b c at few other so w = none-more t first olds news tally0 tally a b c so w
ends-games t first done count olds news tally0 tally now Refused a b c at few other so w = absurd w
ends-games t first done count olds news tally0 tally now Usage a b c at few other so w = absurd w
ends-games t first done count olds news tally0 tally now ReadFault a b c at few other so w = absurd w
ends-games t first done count olds news tally0 tally now SpawnFault a b c at few other so w = absurd w
ends-games t first done count olds news tally0 tally now BadInput a b c at few other so w = absurd w
ends-games t first done count olds news tally0 tally now InputFull a b c at few other so w = absurd w

-- After the last game

-- the games were not all played
pub ends-run : (t : Terms) (ends : List GameEnd) (tally0 tally : Counts) (status : Status) (a b : World) → status ≢ Done → GamesRun t (length ends) tally0 tally status a b → HeadedRun t ends status a b
ends-run t ends tally0 tally Done a b other g = absurd (other refl)
ends-run t ends tally0 tally WriteFault a b other g = inl g
ends-run t ends tally0 tally Memory a b other g = g
ends-run t ends tally0 tally Refused a b other g = absurd g
ends-run t ends tally0 tally Usage a b other g = absurd g
ends-run t ends tally0 tally ReadFault a b other g = absurd g
ends-run t ends tally0 tally SpawnFault a b other g = absurd g
ends-run t ends tally0 tally BadInput a b other g = absurd g
ends-run t ends tally0 tally InputFull a b other g = absurd g

-- all points add up
all-points : (t : Terms) (ends : List GameEnd) (news : List Job) (tally : Counts) → length ends + length news ≡ length (schedule t.plan) → tally.engines ≡ t.plan.engines → IsTallyOf (all_games t ends news) tally
    → sum_by (points (all_games t ends news)) (numbers t.plan.engines) ≡ 2 * length (schedule t.plan)
all-points t ends news tally all engines noted =
    let games = all_games t ends news in
    let pair : Fixture × GameEnd → PlayedFixture = λ g. record { fixture = g.0; ended = g.1 } in
    let both = length-append (resumed t.plan ends) (map played_game news) in
    let before = length-map (zip (schedule t.plan) ends) pair in
    let few = length-zip (schedule t.plan) ends in
    let behind = length-map news played_game in
    let long : length games ≡ length (schedule t.plan) = omega (arith, both, before, few, behind, all) in
    subst (λ n. sum_by (points games) (numbers n) ≡ 2 * length (schedule t.plan)) engines (points-add-up tally.engines games noted.fixtures ∙ ap (λ k. 2 * k) long)

played-out : (t : Terms) (ends : List GameEnd) (olds news : List Job) (places : List Place) (tally0 tally : Counts) (a b : World) → length ends + length news ≡ length (schedule t.plan) → tally.engines ≡ t.plan.engines → IsTallyOf (resumed t.plan ends) tally0 → WroteGames t (length ends) olds news tally0 tally a b
    → AreNoted t tally places → IsPlayedOut t ends olds news places a.engines b.engines
played-out t ends olds news places tally0 tally a b all engines before so noted = record {
  played = so.played;
  all = all;
  standings = noted (all_games t ends news) (so.noted (resumed t.plan ends) before);
  sums = all-points t ends news tally all engines (so.noted (resumed t.plan ends) before);
}

-- the games were all played, and the standings were to be written
pub tells-run : (t : Terms) (ends : List GameEnd) (tally0 tally : Counts) (status : Status) (a b : World) (written : Told) → tally.engines ≡ t.plan.engines → IsTallyOf (resumed t.plan ends) tally0 → GamesRun t (length ends) tally0 tally Done a b → StandingsRun t tally status b.sides.written written
    → HeadedRun t ends status a (world (sides b.sides.rest written) b.times b.engines)
tells-run t ends tally0 tally Done a b written engines before (olds, news, all, so) w = (
  olds,
  news,
  w.places,
  record {
    out = played-out t ends olds news w.places tally0 tally a b all engines before so w.noted;
    wrote = on_written a.sides.written b.sides.written written (games_text news) (standings_text t w.places) so.wrote w.wrote;
  },
)
tells-run t ends tally0 tally WriteFault a b written engines before (olds, news, all, so) w = inr (
  olds,
  news,
  w.places,
  w.n,
  record {
    out = played-out t ends olds news w.places tally0 tally a b all engines before so w.noted;
    part = w.part;
    wrote = on_written a.sides.written b.sides.written written (games_text news) (take w.n (standings_text t w.places)) so.wrote w.wrote;
  },
)
tells-run t ends tally0 tally Memory a b written engines before (olds, news, all, so) w = (
  olds,
  news,
  b.engines,
  record {
    played = so.played;
    shut = shuts-links 0 [] b.engines b.engines refl refl refl;
    wrote = w ∙ so.wrote;
  },
)
tells-run t ends tally0 tally Refused a b written engines before g w = absurd w
tells-run t ends tally0 tally Usage a b written engines before g w = absurd w
tells-run t ends tally0 tally ReadFault a b written engines before g w = absurd w
tells-run t ends tally0 tally SpawnFault a b written engines before g w = absurd w
tells-run t ends tally0 tally BadInput a b written engines before g w = absurd w
tells-run t ends tally0 tally InputFull a b written engines before g w = absurd w

-- nothing was played
pub starved-first : (t : Terms) (ends : List GameEnd) (a : World) → a.sides.written ≡ behind a.sides.written [] → HeadedRun t ends Memory a a
starved-first t ends a same = (
  [],
  [],
  a.engines,
  record {
    played = played-none t (length ends) a.engines;
    shut = shuts-links 0 [] a.engines a.engines refl refl refl;
    wrote = same;
  },
)

-- however the games end, no program is left open
pub games-open : (t : Terms) (first : ℕ) (tally0 tally : Counts) (status : Status) (a b : World) → GamesRun t first tally0 tally status a b → NoneIsOpen a.engines b.engines
games-open t first tally0 tally Done a b (olds, news, all, so) = played-open t first olds news a.engines b.engines so.played
games-open t first tally0 tally WriteFault a b (olds, whole, cut, n, w) = played-open t first olds (whole ++ cut) a.engines b.engines w.played
games-open t first tally0 tally Memory a b (olds, news, between, w) = shut-open t first olds news a.engines between b.engines w.played w.shut
games-open t first tally0 tally Refused a b g = absurd g
games-open t first tally0 tally Usage a b g = absurd g
games-open t first tally0 tally ReadFault a b g = absurd g
games-open t first tally0 tally SpawnFault a b g = absurd g
games-open t first tally0 tally BadInput a b g = absurd g
games-open t first tally0 tally InputFull a b g = absurd g

-- What was written
