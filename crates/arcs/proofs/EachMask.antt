-- What holds at all 64 masks, tried at each.
use Rattle.std.proofs.Common.{◌≡◌, ◌+◌, ◌<◌, ℕ, ◌∙◌, ap, sym, get_or, map, arith}
use Rattle.std.specs.List.{range_with_len}
use Rattle.std.proofs.lemmas.List.FromFn.{get_or-map-range_with_len}

-- two functions that have the same list of values at the 64 masks agree at each of them
pub same_at : (f g : ℕ → ℕ) → map f (range_with_len 0 64) ≡ map g (range_with_len 0 64) → (mask : ℕ) → mask < 64 → f mask ≡ g mask
same_at f g same mask below =
    let index : 0 + mask ≡ mask = omega arith in
    sym (get_or-map-range_with_len f 0 64 mask mask 0 below index) ∙ ap (λ xs. get_or xs mask 0) same ∙ get_or-map-range_with_len g 0 64 mask mask 0 below index
