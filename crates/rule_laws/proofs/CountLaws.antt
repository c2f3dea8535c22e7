-- What no piece outside of the game type adds.
use Rattle.std.proofs.Common.{◌≡◌, ℕ, ◌+◌, Bool, true, false, ◌&&◌, not, cond, List, [], ◌∷◌, refl, sym, ◌∙◌, ap, arith}
use Rattle.std.specs.Prelude.{Some, None, is_some, fold}
use Rattle.std.specs.List.{filter}
use Rattle.hive_model.specs.declared.pieces.Colour.{Colour}
use Rattle.hive_model.specs.Pieces.{all_pieces, has_kind, kind_of, colour_of, is_colour}
use Rattle.hive_model.specs.Boards.{spot_of, is_in_play}
use Rattle.hive_model.specs.Positions.{Position, is_piece}
use Rattle.hive_model.specs.Evaluation.{weight_of, is_uncut_top, counted}
use Rattle.rule_laws.specs.Readings.{TypesAreCounted}

-- a sum is not changed by leaving out what adds nothing
sum_kept : (f : ℕ → ℕ) (t : ℕ → Bool) → ((x : ℕ) → t x ≡ false → f x ≡ 0) → (a : ℕ) (xs : List ℕ) → fold (λ n x. n + f x) a xs ≡ fold (λ n x. n + f x) a (filter t xs)
sum_kept f t none a [] = refl
sum_kept f t none a (x ∷ xs) = elim (t x) as (λ b. t x ≡ b → fold (λ n y. n + f y) (a + f x) xs ≡ fold (λ n y. n + f y) a (cond b (x ∷ filter t xs) (filter t xs))) [
  | true ↦ λ _. sum_kept f t none (a + f x) xs
  | false ↦ λ e.
      let nothing : a + f x ≡ a = (let z = none x e in omega (arith, z)) in
      ap (λ n. fold (λ n y. n + f y) n xs) nothing ∙ sum_kept f t none a xs
] refl

-- a piece that is not in play is not free
not_free : (p : Position) (c : Colour) (x : ℕ) → is_in_play p.board x ≡ false → counted p.board p.rest c x ≡ 0
not_free p c x off = elim (spot_of p.board x) as (λ o. is_some o ≡ false → cond (is_colour (colour_of x) c && (not (is_piece x p.rest) && is_uncut_top p.board o)) (weight_of (kind_of x)) 0 ≡ 0) [
  | None ↦ λ _. elim (is_colour (colour_of x) c) as (λ b. cond (b && (not (is_piece x p.rest) && false)) (weight_of (kind_of x)) 0 ≡ 0) [
    | true ↦ elim (not (is_piece x p.rest)) as (λ b. cond (b && false) (weight_of (kind_of x)) 0 ≡ 0) [ true ↦ refl | false ↦ refl ]
    | false ↦ refl
  ]
  | Some s ↦ λ wrong. let w : true ≡ false = wrong in absurd (cc)
] off

pub types_counted : TypesAreCounted
types_counted p c sound = sum_kept (counted p.board p.rest c) (λ x. has_kind p.game_type (kind_of x)) (λ x other. not_free p c x (off x other)) 0 all_pieces
  where
    off : (x : ℕ) → has_kind p.game_type (kind_of x) ≡ false → is_in_play p.board x ≡ false
    off x other = elim (is_in_play p.board x) as (λ b. is_in_play p.board x ≡ b → b ≡ false) [
      | true ↦ λ e. let wrong : true ≡ false = sym (sound.of_type x e) ∙ other in absurd (cc)
      | false ↦ λ _. refl
    ] refl
