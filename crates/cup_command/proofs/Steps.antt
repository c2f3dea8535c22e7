-- The steps of the loops over games.
use Rattle.std.proofs.Common.{◌≡◌, ℕ, zero, suc, ◌+◌, ◌<◌, ◌≤◌, List, [], ◌∷◌, ◌++◌, length, map, take, drop, get_or, refl, ap, sym, ◌∙◌, arith, subst, append_assoc}
use Rattle.std.specs.List.{All, flat_map, zip}
use Rattle.std.proofs.lemmas.List.{append-nil, drop_more, length-map, map-append, take_all, take_more, take-append-drop}
use Rattle.std.proofs.Math.ListN.{drop_of_length-le}
use Rattle.std.proofs.lemmas.List.Concat.{flat_map-append}
use Rattle.std.proofs.lemmas.List.Elements.{All-nil, All-push}
use Rattle.std.proofs.lemmas.Slice.Zip.{get_or-zip, length-zip}
use Rattle.io_edge.specs.Outside.{ToldLists, ToldPrograms}
use Rattle.io_edge.specs.Starts.{Engines}
use Rattle.match_core.specs.declared.setup.Setup.{Setup}
use Rattle.cup.specs.declared.pairing.Pairing.{Pairing}
use Rattle.cup.specs.declared.standing.Standing.{Standing as Place}
use Rattle.match_command.specs.Match.{NoneIsOpen}
use Rattle.match_runner.specs.Wires.{IsFresh, Wire}
use Rattle.cup.specs.Played.{Job, pairing, ready}
use Rattle.cup.specs.Engines.{Engine}
use Rattle.cup.specs.Cup.{pairings}
use Rattle.cup_command.specs.Cup.{cup_words, game_words, started_after}
use Rattle.cup_command.specs.Links.{ClosesLinks, GivesUp, IsReady, StartsAll, all_links, ended_text, jobs_text}
use Rattle.cup_command.specs.Texts.{standing_text}
use Rattle.cup_command.proofs.Chains.{none-kept, starts-append, two-each}
use Rattle.cup_command.proofs.Breaks.{all-before, started-more, two-words}

-- Texts

pub text-step : (setup : Setup) (games : List Pairing) (jobs : List Job) (i : ℕ) (game : Pairing) (job : Job) (out out_now all : List ℕ) → i < length games → i < length jobs → game ≡ get_or games i game → job ≡ get_or jobs i job
    → out ++ jobs_text setup (drop i (zip games jobs)) ≡ all → out_now ≡ out ++ ended_text setup game job.referee → out_now ++ jobs_text setup (drop (i + 1) (zip games jobs)) ≡ all
text-step setup games jobs i game job out out_now all low high g j so now =
    let both : get_or (zip games jobs) i (game, job) ≡ (game, job) = get_or-zip games jobs i (game, job) low high ∙ (ap (λ x. (x, get_or jobs i job)) (sym g) ∙ ap (λ y. (game, y)) (sym j)) in
    let within : i < length (zip games jobs) = let many = length-zip games jobs in omega (arith, many, low, high) in
    let left : drop i (zip games jobs) ≡ (game, job) ∷ drop (i + 1) (zip games jobs) = drop_more (zip games jobs) i (game, job) within ∙ ap (λ p. p ∷ drop (i + 1) (zip games jobs)) both in
    ap (λ o. o ++ jobs_text setup (drop (i + 1) (zip games jobs))) now
    ∙ (append_assoc out (ended_text setup game job.referee) (jobs_text setup (drop (i + 1) (zip games jobs)))
    ∙ (ap (λ ps. out ++ jobs_text setup ps) (sym left) ∙ so))

pub text-end : (setup : Setup) (games : List Pairing) (jobs : List Job) (i : ℕ) (out all : List ℕ) → length jobs ≤ i → out ++ jobs_text setup (drop i (zip games jobs)) ≡ all → out ≡ all
text-end setup games jobs i out all past so =
    let within : length (zip games jobs) ≤ i = let many = length-zip games jobs in omega (arith, many, past) in
    sym (append-nil out) ∙ (ap (λ ps. out ++ jobs_text setup ps) (sym (drop_of_length-le (zip games jobs) within)) ∙ so)

-- there are as many games as pairs of engines
pub same-many : (games : List Pairing) (jobs : List Job) → map pairing jobs ≡ games → length games ≡ length jobs
same-many games jobs pairs = sym (ap (λ (gs : List Pairing). length gs) pairs) ∙ length-map jobs pairing

-- the lines of the games, written first, and after them those of the standings
pub both-written : (engines : List Engine) (lines start mid out : List ℕ) (listed places : List Place) → start ≡ [] → mid ≡ start ++ lines → listed ≡ places
    → out ≡ mid ++ flat_map (standing_text engines) listed → out ≡ lines ++ flat_map (standing_text engines) places
both-written engines lines start mid out listed places empty first same then =
    then ∙ (ap (λ xs. xs ++ flat_map (standing_text engines) listed) (first ∙ ap (λ xs. xs ++ lines) empty) ∙ ap (λ ps. lines ++ flat_map (standing_text engines) ps) same)

-- Starts

pub kept-step : (games : List Pairing) (jobs jobs_now : List Job) (i : ℕ) (game : Pairing) (setup : Setup) (w b : Wire) → i < length games → game ≡ get_or games i game → map pairing jobs ≡ take i games → jobs_now ≡ jobs ++ ready setup game w b ∷ [] → map pairing jobs_now ≡ take (i + 1) games
kept-step games jobs jobs_now i game setup w b low g so now =
    ap (map pairing) now ∙ (map-append pairing jobs (ready setup game w b ∷ []) ∙ (ap (λ gs. gs ++ game ∷ []) so ∙ (ap (λ x. take i games ++ x ∷ []) g ∙ sym (take_more games i game low))))

pub ready-step : (setup : Setup) (jobs jobs_now : List Job) (game : Pairing) (w b : Wire) → IsFresh w.reads w.writes → IsFresh b.reads b.writes → All (IsReady setup) jobs → jobs_now ≡ jobs ++ ready setup game w b ∷ [] → All (IsReady setup) jobs_now
ready-step setup jobs jobs_now game w b wf bf so now =
    subst (λ js. All (IsReady setup) js) (sym now) (All-push (IsReady setup) jobs (ready setup game w b) so (record { same = refl; white = wf; black = bf }))

pub next-step : (setup : Setup) (jobs jobs_now : List Job) (game : Pairing) (w b : Wire) (before mid now : ToldLists) → StartsAll before mid (all_links jobs) → StartsAll mid now (w ∷ (b ∷ [])) → jobs_now ≡ jobs ++ ready setup game w b ∷ [] → StartsAll before now (all_links jobs_now)
next-step setup jobs jobs_now game w b before mid now one other same =
    subst (λ ls. StartsAll before now ls) (sym (ap all_links same ∙ flat_map-append (λ j. j.white_link ∷ (j.black_link ∷ [])) jobs (ready setup game w b ∷ []))) (starts-append before mid now (all_links jobs) (w ∷ (b ∷ [])) one other)

pub named-step : (engines : List Engine) (games : List Pairing) (i : ℕ) (game : Pairing) (before mid now : ToldPrograms) → i < length games → game ≡ get_or games i game
    → mid ≡ started_after before (flat_map (game_words engines) (take i games)) → now ≡ started_after mid (game_words engines game) → now ≡ started_after before (flat_map (game_words engines) (take (i + 1) games))
named-step engines games i game before mid now low g one other =
    let words : flat_map (game_words engines) (take (i + 1) games) ≡ flat_map (game_words engines) (take i games) ++ game_words engines game =
    ap (flat_map (game_words engines)) (take_more games i game low ∙ ap (λ x. take i games ++ x ∷ []) (sym g)) ∙ flat_map-append (game_words engines) (take i games) (game ∷ []) in
    other ∙ (ap (λ m. started_after m (game_words engines game)) one ∙ (started-more before (flat_map (game_words engines) (take i games)) (game_words engines game) ∙ ap (λ ws. started_after before ws) (sym words)))

-- if a start of the game at a place gives up
gives-at : (failed : Type 0) (engines : List Engine) (games : List Pairing) (jobs : List Job) (i : ℕ) (game : Pairing) (before between after : Engines) → i < length games → game ≡ get_or games i game
    → map pairing jobs ≡ take i games → StartsAll before.to_come between.to_come (all_links jobs) → between.sent ≡ before.sent → between.started ≡ started_after before.started (flat_map (game_words engines) (take i games)) → GivesUp failed (game_words engines game) (all_links jobs) between after
    → GivesUp failed (flat_map (game_words engines) games) [] before after
gives-at failed engines games jobs i game before between after low g kept starts sent named gives =
    let xs = flat_map (game_words engines) (take i games) in
    let zs = flat_map (game_words engines) (drop (i + 1) games) in
    let whole : games ≡ take i games ++ game ∷ drop (i + 1) games = sym (take-append-drop i games) ∙ ap (λ ds. take i games ++ ds) (drop_more games i game low ∙ ap (λ x. x ∷ drop (i + 1) games) (sym g)) in
    let words : flat_map (game_words engines) games ≡ xs ++ (game_words engines game ++ zs) = ap (flat_map (game_words engines)) whole ∙ flat_map-append (game_words engines) (take i games) (game ∷ drop (i + 1) games) in
    let many : length (all_links jobs) ≡ length xs =
    let one = two-each jobs in
    let other = two-words engines (take i games) in
    let same : length jobs ≡ length (take i games) = sym (length-map jobs pairing) ∙ ap length kept in
    omega (arith, one, other, same) in
    subst (λ ws. GivesUp failed ws [] before after) (sym words) (all-before failed xs (game_words engines game) zs (all_links jobs) before between after many starts sent named gives)

-- the same, in the words of the cup
pub gives-up : (failed : Type 0) (engines : List Engine) (games : List Pairing) (jobs : List Job) (i : ℕ) (game : Pairing) (before between after : Engines) → games ≡ pairings (length engines) → i < length games → game ≡ get_or games i game
    → map pairing jobs ≡ take i games → StartsAll before.to_come between.to_come (all_links jobs) → between.sent ≡ before.sent → between.started ≡ started_after before.started (flat_map (game_words engines) (take i games)) → GivesUp failed (game_words engines game) (all_links jobs) between after
    → GivesUp failed (cup_words engines) [] before after
gives-up failed engines games jobs i game before between after whole low g kept starts sent named gives =
    subst (λ gs. GivesUp failed (flat_map (game_words engines) gs) [] before after) whole (gives-at failed engines games jobs i game before between after low g kept starts sent named gives)

-- after the last game

pub take-none : {A : Type 0} (xs : List A) → take 0 xs ≡ []
take-none [] = refl
take-none (x ∷ xs) = refl

-- the front of this length
pub take-front : {A : Type 0} (n : ℕ) (xs ys : List A) → length xs ≡ n → take n (xs ++ ys) ≡ xs
take-front zero [] ys e = take-none ys
take-front zero (x ∷ xs) ys e = absurd (omega (arith, e))
take-front (suc n) [] ys e = absurd (omega (arith, e))
take-front (suc n) (x ∷ xs) ys e = ap (λ zs. x ∷ zs) (take-front n xs ys (omega (arith, e)))

-- after play there are as many games as were started
pub as-many-after : (n : ℕ) (olds lent news behind : List Job) → length news ≡ length lent → length lent ≡ n → lent ≡ olds → length (take n (news ++ behind)) ≡ length olds
as-many-after n olds lent news behind long many same = ap (λ (js : List Job). length js) (take-front n news behind (long ∙ many)) ∙ (long ∙ ap (λ (js : List Job). length js) same)

-- none of their links is left open, once these were closed
pub none-kept-after : (n : ℕ) (olds lent news behind : List Job) (before between after : Engines) → StartsAll before.to_come between.to_come (all_links olds) → between.sent ≡ before.sent
    → ClosesLinks between.sent after.sent (all_links (take n (news ++ behind))) → after.to_come ≡ between.to_come → length news ≡ length lent → length lent ≡ n → lent ≡ olds → NoneIsOpen before after
none-kept-after n olds lent news behind before between after starts sent closes come long many same =
    none-kept before between after olds (take n (news ++ behind)) starts sent closes come (as-many-after n olds lent news behind long many same)

pub named-end : (engines : List Engine) (games : List Pairing) (i : ℕ) (before now : ToldPrograms) → games ≡ pairings (length engines) → length games ≤ i → now ≡ started_after before (flat_map (game_words engines) (take i games)) → now ≡ started_after before (cup_words engines)
named-end engines games i before now whole past named =
    named ∙ ap (λ gs. started_after before (flat_map (game_words engines) gs)) (take_all i games past ∙ whole)

-- after the last game all are kept
pub kept-end : (games : List Pairing) (jobs : List Job) (i : ℕ) → length games ≤ i → map pairing jobs ≡ take i games → map pairing jobs ≡ games
kept-end games jobs i past so = so ∙ take_all i games past

-- before the first game

pub ready-none : (setup : Setup) (jobs : List Job) → jobs ≡ [] → All (IsReady setup) jobs
ready-none setup jobs e = subst (λ js. All (IsReady setup) js) (sym e) (All-nil (IsReady setup))

-- the games that were lent are those that were started
pub pairs-lent : (lent olds : List Job) (games : List Pairing) → lent ≡ olds → map pairing olds ≡ games → map pairing lent ≡ games
pairs-lent lent olds games same pairs = ap (λ (js : List Job). map pairing js) same ∙ pairs

-- and none of them was played
pub ready-lent : (setup : Setup) (lent olds : List Job) → lent ≡ olds → All (IsReady setup) olds → All (IsReady setup) lent
ready-lent setup lent olds same all = subst (λ (js : List Job). All (IsReady setup) js) (sym same) all

pub next-none : (before : ToldLists) (jobs : List Job) → jobs ≡ [] → StartsAll before before (all_links jobs)
next-none before jobs e = subst (λ (js : List Job). StartsAll before before (all_links js)) (sym e) refl
