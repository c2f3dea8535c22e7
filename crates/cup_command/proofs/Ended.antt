-- What holds of the ends of the games of a cup, whatever is known of its programs.
use Rattle.std.proofs.Common.{◌≡◌, inl, inr, ℕ, ◌+◌, ◌^◌, ◌<◌, ◌≤◌, true, false, List, [], ◌∷◌, refl, sym, arith, subst}
use Rattle.std.specs.Prelude.{if◌then◌else◌}
use Rattle.std.specs.List.{All}
use Rattle.std.proofs.lemmas.List.Elements.{All-nil, All-cons}
use Rattle.std.proofs.lemmas.List.Sums.{sum_by-cons}
use Rattle.hive_model.specs.declared.pieces.Colour.TheVariants.{White, Black}
use Rattle.hive_model.specs.Lists.{IsOn}
use Rattle.io_edge.specs.Outside.{Rose, one_more}
use Rattle.match_core.specs.declared.setup.Setup.{Setup}
use Rattle.match_core.specs.MatchState.{MatchState}
use Rattle.match_runner.specs.Runs.{BrokeOnly}
use Rattle.match_command.specs.Match.{IsBroke}
use Rattle.match_runner.specs.Wires.{HasFailed, Wire}
use Rattle.cup.specs.Played.{Job}
use Rattle.cup_command.specs.Cup.{IsEnded}
use Rattle.cup_command.specs.Links.{all_links, counted, failures, has_failed}
use Rattle.cup_command.proofs.Chains.{rises}
use Rattle.cup_command.proofs.Heard.{Ran, sound}

-- Each end

pub ended-all : (setup : Setup) (olds news : List Job) (ends : List MatchState) → Ran setup olds news ends → All (IsEnded setup) ends
ended-all setup [] [] [] ran = All-nil (IsEnded setup)
ended-all setup [] [] (t ∷ ends) ran = absurd ran
ended-all setup [] (new ∷ news) ends ran = absurd ran
ended-all setup (old ∷ olds) [] ends ran = absurd ran
ended-all setup (old ∷ olds) (new ∷ news) [] ran = absurd ran
ended-all setup (old ∷ olds) (new ∷ news) (t ∷ ends) ran = All-cons (IsEnded setup) t ends (record { same = ran.1.links.same; judged = ran.1.links.judged; in_time = ran.1.in_time; history = ran.1.links.history }) (ended-all setup olds news ends ran.3)

-- What was counted

below-counted : (xs : List Wire) (n : ℕ) → n < 2 ^ 64 → counted xs n < 2 ^ 64
below-counted [] n low = low
below-counted (x ∷ xs) n low = elim (has_failed x) as (λ t. counted xs (if t then one_more n else n) < 2 ^ 64) [
  | true ↦ below-counted xs (one_more n) (omega arith)
  | false ↦ below-counted xs n low
]

some-below : (xs : List Wire) (n : ℕ) → 0 < failures xs → counted xs n < 2 ^ 64
some-below [] n some = absurd (omega (arith, some))
some-below (x ∷ xs) n some =
    let whole = sum_by-cons (λ (link : Wire). if has_failed link then 1 else 0) x xs in
    elim (has_failed x) as (λ t. 0 < (if t then 1 else 0) + failures xs → counted xs (if t then one_more n else n) < 2 ^ 64) [
      | true ↦ λ h. below-counted xs (one_more n) (omega arith)
      | false ↦ λ h. some-below xs n (omega (arith, h))
    ] (subst (λ k. 0 < k) whole some)

-- if a link has failed, the count rose
rose-counted : (xs : List Wire) (n : ℕ) → 0 < failures xs → Rose n (counted xs n)
rose-counted xs n some = record {
  higher = elim (rises xs n) [ inl more ↦ inl (omega (arith, more, some)) | inr most ↦ inr most ];
  below = some-below xs n some;
}

-- a link with a failed call has failed
failing-link : (old new : Wire) → HasFailed old new → 1 ≤ (if has_failed new then 1 else 0)
failing-link old new rose = elim (has_failed new) as (λ t. has_failed new ≡ t → 1 ≤ (if t then 1 else 0)) [
  | true ↦ λ e. omega arith
  | false ↦ λ e. absurd (sound old new e rose)
] refl

failing-game : (old new : Job) (t : MatchState) → BrokeOnly t old.white_link new.white_link old.black_link new.black_link → IsBroke t.verdict → 1 ≤ (if has_failed new.white_link then 1 else 0) + (if has_failed new.black_link then 1 else 0)
failing-game old new t b (White, e) = let one = failing-link old.white_link new.white_link (b.white e) in omega (arith, one)
failing-game old new t b (Black, e) = let one = failing-link old.black_link new.black_link (b.black e) in omega (arith, one)

-- if a side broke, a link has failed
some-failed : (setup : Setup) (olds news : List Job) (ends : List MatchState) (t : MatchState) → Ran setup olds news ends → IsOn ends t → IsBroke t.verdict → 0 < failures (all_links news)
some-failed setup [] [] [] t ran on broke = absurd on
some-failed setup [] [] (e ∷ ends) t ran on broke = absurd ran
some-failed setup [] (new ∷ news) ends t ran on broke = absurd ran
some-failed setup (old ∷ olds) [] ends t ran on broke = absurd ran
some-failed setup (old ∷ olds) (new ∷ news) [] t ran on broke = absurd ran
some-failed setup (old ∷ olds) (new ∷ news) (e ∷ ends) t ran (inl same) broke =
    let failing : Wire → ℕ = λ link. if has_failed link then 1 else 0 in
    let white = sum_by-cons failing new.white_link (new.black_link ∷ all_links news) in
    let black = sum_by-cons failing new.black_link (all_links news) in
    let one = failing-game old new e ran.1.links.broke (subst (λ s. IsBroke s.verdict) (sym same) broke) in
    omega (arith, white, black, one)
some-failed setup (old ∷ olds) (new ∷ news) (e ∷ ends) t ran (inr more) broke =
    let failing : Wire → ℕ = λ link. if has_failed link then 1 else 0 in
    let white = sum_by-cons failing new.white_link (new.black_link ∷ all_links news) in
    let black = sum_by-cons failing new.black_link (all_links news) in
    let one = some-failed setup olds news ends t ran.3 more broke in
    omega (arith, white, black, one)

pub broke-rose : (setup : Setup) (olds news : List Job) (ends : List MatchState) (before after : ℕ) → Ran setup olds news ends → after ≡ counted (all_links news) before → (t : MatchState) → IsOn ends t → IsBroke t.verdict → Rose before after
broke-rose setup olds news ends before after ran counts t on broke = subst (λ n. Rose before n) (sym counts) (rose-counted (all_links news) before (some-failed setup olds news ends t ran on broke))
