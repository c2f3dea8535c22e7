-- What a move at the end of the last level leaves.
use Rattle.std.proofs.Common.{◌≡◌, ℕ, ◌+◌, ◌-◌, ◌≤◌, ◌<◌, get_or, List, [], ◌∷◌, ◌++◌, length, take, map, sym, ◌∙◌, ap, arith, length-append, append_assoc}
use Rattle.std.proofs.Math.Seq.{take-append_seam}
use Rattle.std.proofs.lemmas.List.{get_or_push, length-take-le, length-map, map-append, take_more}
use Rattle.hive_model.specs.declared.places.Place.{Place}
use Rattle.hive_model.specs.declared.places.Move.{Move}
use Rattle.hive_model.specs.declared.places.Move.TheVariants.{To}
use Rattle.hive_model.specs.Places.{origin}
use Rattle.hive_model.specs.Stack.{Levels, with_level, without_level, with_move_on_top}
use Rattle.hand_rules.specs.Listing.{last_level}

last-with : (s : Levels) (ms : List Move) → last_level (with_level s ms) ≡ ms
last-with s ms = let e : length s.lists ≡ length (s.lists ++ ms ∷ []) - 1 = (let n = length-append s.lists (ms ∷ []) in omega (arith, n)) in get_or_push s.lists ms [] (length (s.lists ++ ms ∷ []) - 1) e

without-with : (s : Levels) (ms : List Move) → 1 ≤ s.free → without_level (with_level s ms) ≡ s
without-with s ms room =
    let e : length (s.lists ++ ms ∷ []) - 1 ≡ length s.lists = (let n = length-append s.lists (ms ∷ []) in omega (arith, n)) in
    let lists : take (length (s.lists ++ ms ∷ []) - 1) (s.lists ++ ms ∷ []) ≡ s.lists = ap (λ n. take n (s.lists ++ ms ∷ [])) e ∙ take-append_seam s.lists (ms ∷ []) in
    let free : s.free - 1 + 1 ≡ s.free = omega (arith, room) in
    (λ i. record { lists = lists i; free = free i })

module _ (s : Levels) (m : Move) where
  pub last-with_move : last_level (with_move_on_top s m) ≡ last_level s ++ m ∷ []
  last-with_move = last-with (without_level s) (last_level s ++ m ∷ [])

  pub without-with_move : without_level (with_move_on_top s m) ≡ without_level s
  without-with_move = let room : 1 ≤ s.free + 1 = omega arith in without-with (without_level s) (last_level s ++ m ∷ []) room

  pub levels-with_move : 1 ≤ length s.lists → length (with_move_on_top s m).lists ≡ length s.lists
  levels-with_move some =
      let n = length-append (take (length s.lists - 1) s.lists) ((last_level s ++ m ∷ []) ∷ []) in
      let t = length-take-le (length s.lists - 1) s.lists (omega arith) in
      omega (arith, n, t, some)

-- A piece's moves, one after another

pub moves_length : (xs ys : List Move) (x : ℕ) (qs : List Place) (i : ℕ) → ys ≡ xs ++ map (λ q. To x q) (take i qs) → i ≤ length qs → length ys ≡ length xs + i
moves_length xs ys x qs i e low =
    let n = ap length e in
    let a = length-append xs (map (λ q. To x q) (take i qs)) in
    let m = length-map (take i qs) (λ q. To x q) in
    let t = length-take-le i qs low in
    omega (arith, n, a, m, t)

module _ (s s' old : Levels) (x : ℕ) (qs : List Place) (i : ℕ) (pushed : s' ≡ with_move_on_top s (To x (get_or qs i origin))) where
  pub one_more_move : i < length qs → last_level s ≡ last_level old ++ map (λ q. To x q) (take i qs) → last_level s' ≡ last_level old ++ map (λ q. To x q) (take (i + 1) qs)
  one_more_move low h =
      ap last_level pushed
      ∙ last-with_move s (To x (get_or qs i origin))
      ∙ ap (λ ms. ms ++ To x (get_or qs i origin) ∷ []) h
      ∙ append_assoc (last_level old) (map (λ q. To x q) (take i qs)) (To x (get_or qs i origin) ∷ [])
      ∙ ap (λ ms. last_level old ++ ms) (sym (map-append (λ q. To x q) (take i qs) (get_or qs i origin ∷ [])))
      ∙ ap (λ ps. last_level old ++ map (λ q. To x q) ps) (sym (take_more qs i origin low))

  pub same_levels : 1 ≤ length s.lists → length s.lists ≡ length old.lists → length s'.lists ≡ length old.lists
  same_levels some h = ap (λ (v : Levels). length v.lists) pushed ∙ levels-with_move s (To x (get_or qs i origin)) some ∙ h

  pub same_others : without_level s ≡ without_level old → without_level s' ≡ without_level old
  same_others h = ap without_level pushed ∙ without-with_move s (To x (get_or qs i origin)) ∙ h
