-- The numbers that words ask for are in their ranges.
use Rattle.std.proofs.Common.{◌≡◌, ◌≤◌, ◌%◌, sym, subst, arith, ℕ, Bool, true, false, List, Option, None, Some, String, Global}
use Rattle.std.specs.Prelude.{if◌then◌else◌}
use Rattle.hive_model.specs.Fields.{IsTimeText}
use Rattle.match_core.specs.Keeps.{IsLevel, IsSetup}
use Rattle.match_core.specs.declared.setup.Level.{Level}
use Rattle.match_core.specs.declared.setup.Setup.{Setup}
use Rattle.command_words.specs.Audits.{IsMostOf}
use Rattle.command_words.specs.Matches.{Choices, IsLevelOf, IsNumberOr, IsSetupOf}
use Rattle.command_words.specs.Words.{IsInRange, Words}
use Rattle.command_words.specs.declared.asked.Asked.{Asked}
use Rattle.command_words.specs.declared.asked.Asked.TheVariants.{Session, Replay, Count, Grow, Certify, Check, Solve, Verify, Match, Cup, Book, Migrate, Audit, Tournament}

number_in : (text : Option (List ℕ)) (least most default n : ℕ) → least ≤ default → default ≤ most → IsNumberOr text least most default n → (least ≤ n) × (n ≤ most)
number_in None least most default n low high is = (subst (λ m. least ≤ m) (sym is) low, subst (λ m. m ≤ most) (sym is) high)
number_in (Some text) least most default n low high is = (is.low, is.high)

time_in : (text : List ℕ) (budget margin : ℕ) → IsTimeText text budget → margin ≤ 3600000 → (budget % 1000 ≡ 0) × (budget ≤ 359999000) × (margin ≤ 3600000)
time_in text budget margin is fits =
    let e = is.budget_is in
    let hours = is.hours_fit in
    let minutes = is.minutes_fit in
    let seconds = is.seconds_fit in
    (omega (arith, e), omega (arith, e, hours, minutes, seconds), fits)

level_in : (depth time : Option (List ℕ)) (margin : ℕ) (level : Level) → margin ≤ 3600000 → IsLevelOf depth time margin level → IsLevel level
level_in depth None margin level fits (n, is, e) = subst IsLevel (sym e) (number_in depth 1 64 2 n (omega arith) (omega arith) is)
level_in None (Some time) margin level fits (budget, is, e) = subst IsLevel (sym e) (time_in time budget margin is fits)
level_in (Some depth) (Some time) margin level fits is = absurd is

setup_in : (choices : Choices) (setup : Setup) → IsSetupOf choices setup → IsSetup setup
setup_in choices setup is =
    let limit = number_in choices.plies 1 1000 400 setup.limit (omega arith) (omega arith) is.limit in
    let margin = number_in choices.margin 0 3600000 1000 is.margin (omega arith) (omega arith) is.margin_is in
    record { some = limit.0; few = limit.1; level = level_in choices.depth choices.time is.margin setup.level margin.1 is.level }

most_at : (stops : Bool) (m n : ℕ) → (1 ≤ m) × (m ≤ 1000000) → n ≡ (if stops then 1 else m) → (1 ≤ n) × (n ≤ 1000000)
most_at true m n fits e = (omega (arith, e), omega (arith, e))
most_at false m n fits e = subst (λ k. (1 ≤ k) × (k ≤ 1000000)) (sym e) fits

most_in : (stop most : Option (List ℕ)) (n : ℕ) → IsMostOf stop most n → (1 ≤ n) × (n ≤ 1000000)
most_in stop most n (stops, m, rule, is, e) =
    most_at stops m n (number_in most 1 1000000 1000000 m (omega arith) (omega arith) is) e

pub in_range : (words : List (String Global)) (asked : Asked) → Words words asked → IsInRange asked
in_range words Session w = tt
in_range words (Replay repetition) w = tt
in_range words (Count plies workers split) w =
    let many = number_in w.workers_text 1 16 1 workers (omega arith) (omega arith) w.counts.workers_are in
    (w.counts.plies_are.low, w.counts.plies_are.high, many.0, many.1)
in_range words (Grow seed plies) w = (w.growth.plies_is.low, w.growth.plies_is.high)
in_range words (Certify depth) w = (w.number.low, w.number.high)
in_range words Check w = tt
in_range words (Solve plies) w = (w.number.low, w.number.high)
in_range words Verify w = tt
in_range words (Match setup from) w = setup_in w.choices setup w.match_is.setup_is
in_range words (Cup setup) w = setup_in _ setup w.setup_is
in_range words Book w = tt
in_range words Migrate w = tt
in_range words (Audit audit) w =
    let first = number_in _ 1 1000000000 1 audit.first (omega arith) (omega arith) w.choose.first_is in
    let each = number_in _ 1 1000 80 audit.plies (omega arith) (omega arith) w.choose.plies_are in
    let most = most_in _ _ audit.most w.choose.most_is in
    (w.choose.games_are.low, w.choose.games_are.high, first.0, first.1, each.0, each.1, most.0, most.1)
in_range words (Tournament setup rounds gauntlet at_once resume) w =
    let some = number_in w.options.rounds 1 10000 1 rounds (omega arith) (omega arith) w.rounds_is in
    let once = number_in w.options.at_once 1 64 1 at_once (omega arith) (omega arith) w.at_once_is in
    (setup_in w.options.choices setup w.setup_is, some.0, some.1, once.0, once.1)
