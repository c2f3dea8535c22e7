-- The games of a schedule by their places.
use Rattle.std.proofs.Common.{◌≡◌, ℕ, ◌+◌, ◌*◌, ◌/◌, ◌%◌, ◌<◌, length, Some, refl, sym, ap, subst, arith, ◌∙◌}
use Rattle.std.specs.Prelude.{slice_get}
use Rattle.std.proofs.lemmas.Nat.{div-add-mod', div_below}
use Rattle.hive_model.specs.Lists.{count_from}
use Rattle.hive_model.proofs.GetLemmas.{get-count_from, length-count_from}
use Rattle.tournament_core.specs.declared.fixtures.Fixture.{Fixture}
use Rattle.tournament_core.specs.declared.pairs.Pair.{Pair}
use Rattle.tournament_core.specs.declared.plan.Plan.{Plan}
use Rattle.tournament_core.specs.Schedules.{pairs, two_games, games_from, round_of, schedule}
use Rattle.tournament_core.proofs.Flats.{length-flat, get-flat}

pub length-from : (p : Plan) (o : ℕ) → length (games_from p o) ≡ length (pairs p) * 2
length-from p o = length-flat (two_games o) 2 (λ q. refl) (pairs p)

pub length-round : (p : Plan) → length (round_of p) ≡ p.openings * (length (pairs p) * 2)
length-round p =
    length-flat (games_from p) (length (pairs p) * 2) (length-from p) (count_from 0 p.openings)
    ∙ ap (λ k. k * (length (pairs p) * 2)) (length-count_from p.openings 0)

pub length-schedule : (p : Plan) → length (schedule p) ≡ p.rounds * (p.openings * (length (pairs p) * 2))
unfolding schedule
length-schedule p =
    length-flat (λ round. round_of p) (p.openings * (length (pairs p) * 2)) (λ round. length-round p) (count_from 1 p.rounds)
    ∙ ap (λ k. k * (p.openings * (length (pairs p) * 2))) (length-count_from p.rounds 1)

-- this number of rounds, openings, pairs and games come before it
schedule-at : (p : Plan) (r o q c : ℕ) (pair : Pair) (f : Fixture) → r < p.rounds → o < p.openings →
    slice_get (pairs p) q ≡ Some pair → slice_get (two_games o pair) c ≡ Some f →
    slice_get (schedule p) (r * (p.openings * (length (pairs p) * 2)) + (o * (length (pairs p) * 2) + (q * 2 + c))) ≡ Some f
unfolding schedule
schedule-at p r o q c pair f round opening there game =
    get-flat (λ k. round_of p) (p.openings * (length (pairs p) * 2)) (λ k. length-round p) (count_from 1 p.rounds) r (o * (length (pairs p) * 2) + (q * 2 + c)) (1 + r) f
    (get-count_from p.rounds 1 r round)
    (get-flat (games_from p) (length (pairs p) * 2) (length-from p) (count_from 0 p.openings) o (q * 2 + c) (0 + o) f
    (get-count_from p.openings 0 o opening)
    (get-flat (two_games (0 + o)) 2 (λ k. refl) (pairs p) q c pair f there (subst (λ k. slice_get (two_games k pair) c ≡ Some f) (plain o) game)))
  where
    plain : (k : ℕ) → k ≡ 0 + k
    plain k = omega arith

regroup : (r o q c openings many : ℕ) → ((r * openings + o) * many + q) * 2 + c ≡ r * (openings * (many * 2)) + (o * (many * 2) + (q * 2 + c))
regroup r o q c openings many = omega arith

-- a number by its remainders
parts : (n many openings : ℕ) →
    n ≡ n / 2 / many / openings * (openings * (many * 2)) + (n / 2 / many % openings * (many * 2) + (n / 2 % many * 2 + n % 2))
parts n many openings =
    sym (div-add-mod' n 2)
    ∙ ap (λ k. k * 2 + n % 2) (sym (div-add-mod' (n / 2) many) ∙ ap (λ k. k * many + n / 2 % many) (sym (div-add-mod' (n / 2 / many) openings)))
    ∙ regroup (n / 2 / many / openings) (n / 2 / many % openings) (n / 2 % many) (n % 2) openings many

pub turned : (rounds openings many : ℕ) → rounds * (openings * (many * 2)) ≡ rounds * openings * many * 2
turned rounds openings many = omega arith

round-below : (n rounds openings many : ℕ) → 0 < openings → 0 < many → n < rounds * (openings * (many * 2)) → n / 2 / many / openings < rounds
round-below n rounds openings many some_openings some within =
    let all : n < rounds * openings * many * 2 = subst (λ k. n < k) (turned rounds openings many) within in
    let two : 0 < 2 = omega arith in
    div_below (n / 2 / many) openings rounds some_openings
    (div_below (n / 2) many (rounds * openings) some (div_below n 2 (rounds * openings * many) two all))

-- the game that is played after n games
pub schedule-nth : (p : Plan) (n many : ℕ) (pair : Pair) (f : Fixture) → many ≡ length (pairs p) → 0 < many → 0 < p.openings → n < length (schedule p) →
    n / 2 / many % p.openings < p.openings →
    slice_get (pairs p) (n / 2 % many) ≡ Some pair → slice_get (two_games (n / 2 / many % p.openings) pair) (n % 2) ≡ Some f →
    slice_get (schedule p) n ≡ Some f
schedule-nth p n many pair f all some some_openings within opening there game =
    let long : length (schedule p) ≡ p.rounds * (p.openings * (many * 2)) = length-schedule p ∙ ap (λ k. p.rounds * (p.openings * (k * 2))) (sym all) in
    let round = round-below n p.rounds p.openings many some_openings some (subst (λ k. n < k) long within) in
    ap (slice_get (schedule p)) (parts n many p.openings)
    ∙ ap (λ k. slice_get (schedule p) (n / 2 / many / p.openings * (p.openings * (k * 2)) + (n / 2 / many % p.openings * (k * 2) + (n / 2 % many * 2 + n % 2)))) all
    ∙ schedule-at p (n / 2 / many / p.openings) (n / 2 / many % p.openings) (n / 2 % many) (n % 2) pair f round opening there game
