-- Steps and moves of every kind on boards on which the same places are as high.
use Rattle.std.proofs.Common.{◌≡◌, ℕ, suc, zero, ◌-◌, max, Bool, true, false, not, ◌&&◌, ◌||◌, [], ◌∷◌, length, refl, ap, if◌then◌else◌}
use Rattle.std.specs.Prelude.{Option, Some, None, nat_eq, nat_le, nat_lt}
use Rattle.std.specs.List.{list_any}
use Rattle.hive_model.specs.declared.pieces.Kind.{Kind}
use Rattle.hive_model.specs.declared.pieces.Kind.TheVariants.{Queen, Spider, Beetle, Grasshopper, Ant, Mosquito, Ladybug, Pillbug}
use Rattle.hive_model.specs.declared.places.Place.{Place}
use Rattle.hive_model.specs.declared.places.Dir.{Dir}
use Rattle.hive_model.specs.Lists.{flood}
use Rattle.hive_model.specs.Pieces.{kind_of, is_kind}
use Rattle.hive_model.specs.Places.{is_place, step, steps, dirs, dir_before, dir_after, neighbours, AreNeighbours}
use Rattle.hive_model.specs.Boards.{Stacks, height_at, is_occupied}
use Rattle.hive_model.specs.Hive.{on_list}
use Rattle.hive_model.specs.Steps.{is_ground_step, is_climbing_step, is_free}
use Rattle.hive_model.specs.Reach.{all_over, line_length, is_hop, is_three_steps, is_over_two, is_ant_way, reaches_by, reaches, copies_one, copies, moves_as}
use Rattle.hive_model.proofs.PieceLaws.{same_kind}
use Rattle.plain_search.proofs.LikeBoards.{AreLike, tops, near_same}

-- What the tests of steps ask, of the heights of places alone

abbrev blocked_by : (Place → ℕ) → Place → Dir → Bool
blocked_by h p d =
    nat_lt (max (h p) (h (step p d))) (h (step p (dir_before d))) && nat_lt (max (h p) (h (step p d))) (h (step p (dir_after d)))

abbrev ground_by : (Place → ℕ) → Place → Place → Bool
ground_by h p q =
    list_any (λ d. is_place (step p d) q
    && (nat_eq (h p) 0 && (nat_eq (h (step p d)) 0
    && (nat_lt 0 (h (step p (dir_before d))) && not (nat_lt 0 (h (step p (dir_after d)))) || not (nat_lt 0 (h (step p (dir_before d)))) && nat_lt 0 (h (step p (dir_after d))))))) dirs

abbrev climbing_by : (Place → ℕ) → Place → Place → Bool
climbing_by h p q = list_any (λ d. is_place (step p d) q && (not (blocked_by h p d) && (nat_lt 0 (h p) || nat_lt 0 (h (step p d))))) dirs

abbrev free_by : (Place → ℕ) → Place → Place → Bool
free_by h p q = list_any (λ d. is_place (step p d) q && not (blocked_by h p d)) dirs

module _ (q : Place) (b c : Stacks) (k : AreLike q b c) where
  heights : height_at b ≡ height_at c
  heights = λ i r. k.heights r i

  all_occupied : is_occupied b ≡ is_occupied c
  all_occupied = λ i r. nat_lt 0 (k.heights r i)

  grounds : is_ground_step b ≡ is_ground_step c
  grounds = ap ground_by heights

  climbs : is_climbing_step b ≡ is_climbing_step c
  climbs = ap climbing_by heights

  pub free_same : (p r : Place) → is_free b p r ≡ is_free c p r
  free_same p r = ap (λ h. free_by h p r) heights

  over_same : (n : ℕ) (p : Place) (d : Dir) → all_over b n p d ≡ all_over c n p d
  over_same zero p d = refl
  over_same (suc n) p d = let rest = over_same n p d in λ i. all_occupied i (steps (suc n) p d) && rest i

  hop_same : (p r : Place) → is_hop b p r ≡ is_hop c p r
  hop_same p r = λ i. nat_le 2 (line_length p r) && (nat_eq (heights i r) 0 && list_any (λ d. is_place (steps (line_length p r) p d) r && over_same (line_length p r - 1) p d i) dirs)

  three_same : (p r : Place) → is_three_steps b p r ≡ is_three_steps c p r
  three_same p r = ap (λ (g : Place → Place → Bool). list_any (λ x. g p x && list_any (λ y. g x y && (g y r && (not (is_place p y) && not (is_place x r)))) (neighbours x)) (neighbours p)) grounds

  two_same : (p r : Place) → is_over_two b p r ≡ is_over_two c p r
  two_same p r = λ i. nat_eq (heights i r) 0 && list_any (λ x. all_occupied i x && (climbs i p x && list_any (λ y. all_occupied i y && (climbs i x y && climbs i y r)) (neighbours x))) (neighbours p)

  ant_same : (p r : Place) → is_ant_way b p r ≡ is_ant_way c p r
  ant_same p r = let n = near_same q b c k in λ i. on_list (flood (grounds i) (length (n i)) (p ∷ []) (n i)) r

  by_same : (kind : Kind) (p r : Place) → reaches_by kind b p r ≡ reaches_by kind c p r
  by_same Queen p r = λ i. grounds i p r
  by_same Pillbug p r = λ i. grounds i p r
  by_same Beetle p r = λ i. grounds i p r || climbs i p r
  by_same Grasshopper p r = hop_same p r
  by_same Ant p r = ant_same p r
  by_same Spider p r = three_same p r
  by_same Ladybug p r = two_same p r
  by_same Mosquito p r = refl

  reach_same : (kind : Kind) (p r : Place) → reaches kind b p r ≡ reaches kind c p r
  reach_same kind p r = ap (λ t. not (is_place p r) && t) (by_same kind p r)

  one_same : (p r : Place) (o : Option ℕ) → copies_one b p r o ≡ copies_one c p r o
  one_same p r None = refl
  one_same p r (Some y) = ap (λ t. not (is_kind (kind_of y) Mosquito) && t) (reach_same (kind_of y) p r)

  -- a mosquito that is not beside the place at which the boards differ
  copies_same : (p r : Place) → (¬ AreNeighbours p q) → copies b p r ≡ copies c p r
  copies_same p r apart =
      let top = λ (d : Dir). tops q b c k (step p d) (λ e. apart (d, e)) in
      λ i. if all_occupied i p then reach_same Beetle p r i else list_any (λ d. one_same p r (top d i) i) dirs

  pub moves_same : (kind : Kind) (p r : Place) → (kind ≡ Mosquito → ¬ AreNeighbours p q) → moves_as kind b p r ≡ moves_as kind c p r
  moves_same kind p r apart = elim (is_kind kind Mosquito) as (λ t. is_kind kind Mosquito ≡ t → (if t then copies b p r else reaches kind b p r) ≡ (if t then copies c p r else reaches kind c p r)) [
    | true ↦ λ e. copies_same p r (apart (same_kind kind Mosquito e))
    | false ↦ λ _. reach_same kind p r
  ] refl
