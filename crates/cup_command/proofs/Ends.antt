-- The states of the games of a cup at their ends.
use Rattle.std.proofs.Common.{◌≡◌, ℕ, ◌<◌, ◌≤◌, ◌*◌, ◌-◌, List, [], ◌∷◌, ◌++◌, length, map, take, Option, Some, None, IsSomeAnd, refl, ap, sym, ◌∙◌, arith, subst, inl, inr}
use Rattle.std.specs.List.{All, AllZip, flat_map, zip}
use Rattle.std.proofs.lemmas.List.{length-map}
use Rattle.std.proofs.lemmas.List.Elements.{All-nil, All-cons, All-head, All-tail}
use Rattle.io_edge.specs.Outside.{behind}
use Rattle.io_edge.specs.Starts.{Engines}
use Rattle.command_runs.specs.Answered.{WritesAs}
use Rattle.command_runs.specs.World.{World}
use Rattle.command_runs.specs.declared.status.Status.{Status}
use Rattle.command_runs.specs.declared.status.Status.TheVariants.{Done}
use Rattle.match_core.specs.declared.setup.Setup.{Setup}
use Rattle.match_core.specs.Setups.{setup_plain}
use Rattle.match_core.specs.MatchState.{MatchState}
use Rattle.cup.specs.declared.pairing.Pairing.{Pairing}
use Rattle.cup.specs.declared.standing.Standing.{Standing as Place}
use Rattle.cup.specs.Cup.{pairings}
use Rattle.cup.proofs.Totals.{few-games, length-pairings}
use Rattle.cup.specs.Played.{AreStandingsOf, IsPlayed, IsRefereed, Job, pairing, verdict_of}
use Rattle.cup.specs.Engines.{Engine}
use Rattle.cup_command.specs.Texts.{cup_text, games_text, standing_text}
use Rattle.cup_command.specs.Cup.{AreCupStandings, CupRun, PlayedGames, cup_words, started_after}
use Rattle.cup_command.specs.Links.{ClosesLinks, IsOf, IsReady, StartsAll, all_links, counted, ended_text, jobs_text}
use Rattle.cup_command.proofs.Ended.{broke-rose, ended-all}
use Rattle.cup_command.proofs.Heard.{Ran, played-by}

-- How many games there are

pub few-jobs : (n : ℕ) (games : List Pairing) (jobs : List Job) → n ≤ 8 → games ≡ pairings n → map pairing jobs ≡ games → length jobs ≤ 56
few-jobs n games jobs few e f =
    let long : length jobs ≡ n * (n - 1) = sym (length-map jobs pairing) ∙ ap length f ∙ ap length e ∙ length-pairings n in
    let most = few-games n few in
    omega (arith, long, most)

-- Each game is at an end

abbrev pub cons-end : Option MatchState → List MatchState → List MatchState
cons-end None ends = ends
cons-end (Some t) ends = t ∷ ends

abbrev pub ends_of : List Job → List MatchState
ends_of [] = []
ends_of (job ∷ jobs) = cons-end job.referee (ends_of jobs)

ran-one : (setup : Setup) (old new : Job) (olds news : List Job) (o : Option MatchState) → new.referee ≡ o → IsReady setup old → IsSomeAnd o (λ r. IsRefereed old.setup r old.white_link new.white_link old.black_link new.black_link) → Ran setup olds news (ends_of news) → Ran setup (old ∷ olds) (new ∷ news) (cons-end o (ends_of news))
ran-one setup old new olds news None e ready played more = absurd played
ran-one setup old new olds news (Some t) e ready played more = (ready, subst (λ s. IsRefereed s t old.white_link new.white_link old.black_link new.black_link) ready.same played, e, more)

pub ran-all : (setup : Setup) (olds news : List Job) → AllZip IsPlayed olds news → All (IsReady setup) olds → Ran setup olds news (ends_of news)
ran-all setup [] [] all ready = tt
ran-all setup [] (new ∷ news) all ready = absurd all
ran-all setup (old ∷ olds) [] all ready = absurd all
ran-all setup (old ∷ olds) (new ∷ news) all ready =
    ran-one setup old new olds news new.referee refl (All-head (IsReady setup) old olds ready) all.0 (ran-all setup olds news all.1 (All-tail (IsReady setup) old olds ready))

-- the referees are of this setup
of-setup : (setup : Setup) (olds news : List Job) (ends : List MatchState) → Ran setup olds news ends → All (IsOf setup) news
of-setup setup [] [] ends ran = All-nil (IsOf setup)
of-setup setup [] (new ∷ news) ends ran = absurd ran
of-setup setup (old ∷ olds) [] ends ran = absurd ran
of-setup setup (old ∷ olds) (new ∷ news) [] ran = absurd ran
of-setup setup (old ∷ olds) (new ∷ news) (t ∷ ends) ran =
    All-cons (IsOf setup) new news (λ u e. let same : t ≡ u = cc in subst (λ x. x.setup ≡ setup_plain setup) same ran.1.links.same) (of-setup setup olds news ends ran.3)

pub of-setup-all : (setup : Setup) (olds news : List Job) → AllZip IsPlayed olds news → All (IsReady setup) olds → All (IsOf setup) news
of-setup-all setup olds news all ready = of-setup setup olds news (ends_of news) (ran-all setup olds news all ready)

long-ends : (setup : Setup) (olds news : List Job) (ends : List MatchState) → Ran setup olds news ends → length ends ≡ length olds
long-ends setup [] [] [] ran = refl
long-ends setup [] [] (t ∷ ends) ran = absurd ran
long-ends setup [] (new ∷ news) ends ran = absurd ran
long-ends setup (old ∷ olds) [] ends ran = absurd ran
long-ends setup (old ∷ olds) (new ∷ news) [] ran = absurd ran
long-ends setup (old ∷ olds) (new ∷ news) (t ∷ ends) ran = let more = long-ends setup olds news ends ran.3 in omega (arith, more)

verdicts-same : (setup : Setup) (olds news : List Job) (ends : List MatchState) → Ran setup olds news ends → map (λ t. t.verdict) ends ≡ map (λ j. verdict_of j.referee) news
verdicts-same setup [] [] [] ran = refl
verdicts-same setup [] [] (t ∷ ends) ran = absurd ran
verdicts-same setup [] (new ∷ news) ends ran = absurd ran
verdicts-same setup (old ∷ olds) [] ends ran = absurd ran
verdicts-same setup (old ∷ olds) (new ∷ news) [] ran = absurd ran
verdicts-same setup (old ∷ olds) (new ∷ news) (t ∷ ends) ran =
    ap (λ v. v ∷ map (λ (s : MatchState). s.verdict) ends) (sym (ap verdict_of ran.2)) ∙ ap (λ vs. verdict_of new.referee ∷ vs) (verdicts-same setup olds news ends ran.3)

texts-same : (setup : Setup) (games : List Pairing) (olds news : List Job) (ends : List MatchState) → Ran setup olds news ends → jobs_text setup (zip games news) ≡ games_text setup games ends
texts-same setup [] olds news ends ran = refl
texts-same setup (g ∷ games) [] [] [] ran = refl
texts-same setup (g ∷ games) [] [] (t ∷ ends) ran = absurd ran
texts-same setup (g ∷ games) [] (new ∷ news) ends ran = absurd ran
texts-same setup (g ∷ games) (old ∷ olds) [] ends ran = absurd ran
texts-same setup (g ∷ games) (old ∷ olds) (new ∷ news) [] ran = absurd ran
texts-same setup (g ∷ games) (old ∷ olds) (new ∷ news) (t ∷ ends) ran =
    ap (λ o. ended_text setup g o ++ jobs_text setup (zip games news)) ran.2 ∙ ap (λ text. ended_text setup g (Some t) ++ text) (texts-same setup games olds news ends ran.3)

-- The whole cup

-- what is known of a cup that was played
abbrev pub IsToldCup : List Engine → Setup → Engines → Engines → List ℕ → Type 0
IsToldCup engines setup before after text =
    (ends : List MatchState) × (places : List Place) × PlayedGames engines setup ends before after × AreCupStandings (length engines) ends places × (text ≡ cup_text setup engines ends places)

pub told-cup : (engines : List Engine) (setup : Setup) (games : List Pairing) (olds news : List Job) (text : List ℕ) (before after : Engines)
    → games ≡ pairings (length engines) → map pairing olds ≡ games → All (IsReady setup) olds → AllZip IsPlayed olds news
    → StartsAll before.to_come after.to_come (all_links olds) → ClosesLinks before.sent after.sent (all_links news) → after.engine_faults ≡ counted (all_links news) before.engine_faults → after.started ≡ started_after before.started (cup_words engines)
    → ((places : List Place) × AreStandingsOf (length engines) news places × (text ≡ jobs_text setup (zip games news) ++ flat_map (standing_text engines) places)) → IsToldCup engines setup before after text
told-cup engines setup games olds news text before after whole pairs ready played starts closes counts named (places, (verdicts, judged, standings), told) =
    let ran = ran-all setup olds news played ready in
    let ends = ends_of news in (
      ends,
      places,
      record {
        all_games = long-ends setup olds news ends ran ∙ (sym (length-map olds pairing) ∙ (ap length pairs ∙ ap length whole));
        started = named;
        ended = ended-all setup olds news ends ran;
        broke = broke-rose setup olds news ends before.engine_faults after.engine_faults ran counts;
        programs = λ all e. played-by setup olds news ends all before after ran (subst (λ a. StartsAll a after.to_come (all_links olds)) e starts) closes counts;
      },
      (verdicts, verdicts-same setup olds news ends ran ∙ judged, standings),
      told ∙ (ap (λ t. t ++ flat_map (standing_text engines) places) (texts-same setup games olds news ends ran) ∙ ap (λ gs. games_text setup gs ends ++ flat_map (standing_text engines) places) whole),
    )

-- the same, by way of the states between the starts and the closes
pub told-from : (engines : List Engine) (setup : Setup) (games : List Pairing) (olds mid news shut : List Job) (text : List ℕ) (before between after : Engines)
    → games ≡ pairings (length engines) → map pairing olds ≡ games → All (IsReady setup) olds → mid ≡ olds → AllZip IsPlayed mid news → shut ≡ news
    → StartsAll before.to_come between.to_come (all_links olds) → between.sent ≡ before.sent → between.engine_faults ≡ before.engine_faults → between.started ≡ started_after before.started (cup_words engines)
    → ClosesLinks between.sent after.sent (all_links shut) → after.engine_faults ≡ counted (all_links shut) between.engine_faults → after.to_come ≡ between.to_come → after.started ≡ between.started
    → ((places : List Place) × AreStandingsOf (length engines) news places × (text ≡ jobs_text setup (zip games news) ++ flat_map (standing_text engines) places)) → IsToldCup engines setup before after text
told-from engines setup games olds mid news shut text before between after whole pairs ready same played shuts starts sent faults named closes counts come began told =
    told-cup engines setup games olds news text before after whole pairs ready
    (subst (λ js. AllZip IsPlayed js news) same played)
    (subst (λ t. StartsAll before.to_come t (all_links olds)) (sym come) starts)
    (subst (λ s. ClosesLinks s after.sent (all_links news)) sent (subst (λ (js : List Job). ClosesLinks between.sent after.sent (all_links js)) shuts closes))
    (counts ∙ (ap (λ (js : List Job). counted (all_links js) between.engine_faults) shuts ∙ ap (λ n. counted (all_links news) n) faults))
    (began ∙ named)
    told

-- the text of a cup that was played was written, or an initial part of it and not all
pub told-as : (engines : List Engine) (setup : Setup) (text : List ℕ) (status : Status) (before after : World) → IsToldCup engines setup before.engines after.engines text → WritesAs text Done status before.sides.written after.sides.written → CupRun engines setup status before after
told-as engines setup text status before after (ends, places, played, standings, told) (inl (e, wrote)) =
    subst (λ s. CupRun engines setup s before after) (sym e) (ends, places, record { played = played; standings = standings; wrote = wrote ∙ ap (λ x. behind before.sides.written x) told })
told-as engines setup text status before after (ends, places, played, standings, told) (inr (e, (n, low, wrote))) =
    subst (λ s. CupRun engines setup s before after) (sym e) (ends, places, n, record { played = played; standings = standings; cut = subst (λ x. n < length x) told low; wrote = wrote ∙ ap (λ x. behind before.sides.written (take n x)) told })
