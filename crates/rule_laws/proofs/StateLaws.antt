-- When a game has begun.
use Rattle.std.proofs.Common.{◌≡◌, ℕ, zero, suc, ◌+◌, ◌/◌, Bool, true, false, ◌&&◌, List, [], ◌∷◌, length, refl, sym, ◌∙◌, ap, subst, arith, nat_eq}
use Rattle.std.proofs.lemmas.Bool.{eqb-true, and_parts}
use Rattle.hive_model.specs.declared.pieces.Colour.TheVariants.{White, Black}
use Rattle.hive_model.specs.declared.pieces.GameType.{GameType}
use Rattle.hive_model.specs.declared.places.Move.{Move}
use Rattle.hive_model.specs.declared.places.State.TheVariants.{NotStarted, InProgress, Draw, WhiteWins, BlackWins}
use Rattle.hive_model.specs.Pieces.{is_colour}
use Rattle.hive_model.specs.Positions.{opening}
use Rattle.hive_model.specs.Legal.{is_over, is_surrounded, state, state_from, is_over_state}
use Rattle.hive_model.specs.Games.{replay, outcome}
use Rattle.hive_model.proofs.OverLaws.{over_from, from_over}
use Rattle.rule_laws.specs.Soundness.{side_after}
use Rattle.rule_laws.proofs.Games.{games_count}
use Rattle.rule_laws.specs.Readings.{NothingPlayedIsNotStarted, PlayGoesOn}

-- no ply was played
fresh : GameType → List Move → Bool
fresh t ms = nat_eq (replay (opening t) ms).turn 1 && is_colour (replay (opening t) ms).side White

two_or_more : (n : ℕ) → (suc n / 2 + 1 ≡ 1) → (is_colour (side_after (suc n)) White ≡ true) → ⊥
two_or_more zero turn white = let wrong : false ≡ true = white in absurd (cc)
two_or_more (suc n) turn white = absurd (omega (arith, turn))

-- exactly before the first ply it is white's first turn
fresh_none : (t : GameType) (ms : List Move) → fresh t ms ≡ true → ms ≡ []
unfolding fresh
fresh_none t [] h = refl
fresh_none t (m ∷ ms) h =
    let counts = games_count t (m ∷ ms) in
    let parts = and_parts (nat_eq (replay (opening t) (m ∷ ms)).turn 1) _ h in
    let turn = sym counts.turn ∙ eqb-true _ 1 parts.0 in
    absurd (two_or_more (length ms) turn (ap (λ c. is_colour c White) (sym counts.side) ∙ parts.1))

states : (w b f : Bool) → (state_from w b f ≡ NotStarted → f ≡ true) × (state_from w b f ≡ InProgress → (f ≡ false) × (is_over_state (state_from w b f) ≡ false))
states true true f = (λ h. let wrong : Draw ≡ NotStarted = h in absurd (cc), λ h. let wrong : Draw ≡ InProgress = h in absurd (cc))
states false true f = (λ h. let wrong : WhiteWins ≡ NotStarted = h in absurd (cc), λ h. let wrong : WhiteWins ≡ InProgress = h in absurd (cc))
states true false f = (λ h. let wrong : BlackWins ≡ NotStarted = h in absurd (cc), λ h. let wrong : BlackWins ≡ InProgress = h in absurd (cc))
states false false true = (λ _. refl, λ h. let wrong : NotStarted ≡ InProgress = h in absurd (cc))
states false false false = (λ h. let wrong : InProgress ≡ NotStarted = h in absurd (cc), λ _. (refl, refl))

goes_on : (w b f : Bool) → is_over_state (state_from w b f) ≡ false → f ≡ false → state_from w b f ≡ InProgress
goes_on true true f h g = let wrong : true ≡ false = h in absurd (cc)
goes_on false true f h g = let wrong : true ≡ false = h in absurd (cc)
goes_on true false f h g = let wrong : true ≡ false = h in absurd (cc)
goes_on false false true h g = absurd (cc)
goes_on false false false h g = refl

pub begins : NothingPlayedIsNotStarted
unfolding outcome state fresh
begins t ms = (
  λ h. fresh_none t ms ((states (is_surrounded (replay (opening t) ms).board White) (is_surrounded (replay (opening t) ms).board Black) (fresh t ms)).0 h),
  λ none. subst (λ (ns : List Move). outcome t ns ≡ NotStarted) (sym none) refl,
)

pub goes : PlayGoesOn
unfolding outcome state fresh
goes t ms =
    let p = replay (opening t) ms in
    let white = is_surrounded p.board White in
    let black = is_surrounded p.board Black in (
      λ h.
          let r = (states white black (fresh t ms)).1 h in (
            λ none. let wrong : NotStarted ≡ InProgress = subst (λ (ns : List Move). outcome t ns ≡ InProgress) none h in absurd (cc),
            λ over. let wrong : true ≡ false = sym (from_over p over) ∙ r.1 in absurd (cc),
          ),
      λ h. goes_on white black (fresh t ms)
          (elim (is_over p) as (λ b. is_over p ≡ b → b ≡ false) [ true ↦ λ e. absurd (h.1 (over_from p e)) | false ↦ λ _. refl ] refl)
          (elim (fresh t ms) as (λ b. fresh t ms ≡ b → b ≡ false) [ true ↦ λ e. absurd (h.0 (fresh_none t ms e)) | false ↦ λ _. refl ] refl),
    )
