-- Moves that are taken from lists.
use Rattle.std.proofs.Common.{◌≡◌, ℕ, ◌%◌, Bool, true, false, List, [], ◌∷◌, length, get_or, ◌<◌, None, Some, refl, sym, ◌∙◌, ap, subst}
use Rattle.std.specs.Prelude.{◌||◌, nat_eq, if◌then◌else◌}
use Rattle.std.specs.declared.option.Option.{Option}
use Rattle.std.specs.Option.{IfSome}
use Rattle.std.specs.List.{filter, slice_get}
use Rattle.std.proofs.lemmas.Option.{slice_get-get_or}
use Rattle.hive_model.specs.declared.places.Move.{Move}
use Rattle.hive_model.specs.Lists.{IsOn}
use Rattle.hive_model.specs.Positions.{Position}
use Rattle.hive_model.specs.Legal.{moves}
use Rattle.hive_model.proofs.GetLemmas.{on-at}
use Rattle.hive_model.proofs.Floods.{on_filter}
use Rattle.grow_game.specs.Growing.{drawn, word, next_state}
use Rattle.audit_core.specs.Drawing.{is_wanted, wanted_moves, picked_from, drawn_of}

picked_at : (b : Bool) (rare all : List Move) (m : Move) → ((m : Move) → IsOn rare m → IsOn all m) → IsOn (if b then rare else all) m → IsOn all m
picked_at true rare all m sub on = sub m on
picked_at false rare all m sub on = on

picked_on : (siege : Bool) (w : ℕ) (wanted all : List Move) (m : Move) → ((m : Move) → IsOn wanted m → IsOn all m) → IsOn (picked_from siege w wanted all) m → IsOn all m
picked_on siege w [] all m sub on = on
picked_on siege w (x ∷ xs) all m sub on = picked_at (siege || nat_eq (w % 2) 0) (x ∷ xs) all m sub on

some_on : (ms : List Move) (i : ℕ) (o : Option Move) → slice_get ms i ≡ o → IfSome o (λ m. IsOn ms m)
some_on ms i None e = tt
some_on ms i (Some m) e = on-at ms i m e

some_map : (o : Option Move) (P Q : Move → Type 0) → ((m : Move) → P m → Q m) → IfSome o P → IfSome o Q
some_map None P Q f h = tt
some_map (Some m) P Q f h = f m h

-- what is drawn is a legal move
pub drawn_legal : (siege : Bool) (state : ℕ) (p : Position) → IfSome (drawn_of siege state p) (λ m. IsOn (moves p) m)
drawn_legal siege state p =
    let pool : List Move = picked_from siege (word state) (wanted_moves siege p) (moves p) in
    some_map (drawn_of siege state p) (λ m. IsOn pool m) (λ m. IsOn (moves p) m)
    (λ m on. picked_on siege (word state) (wanted_moves siege p) (moves p) m (λ k wanted. (on_filter (is_wanted siege p) (moves p) k wanted).0) on)
    (some_on pool (word (next_state state) % length pool) (drawn_of siege state p) refl)

-- the element at an index is on the list
pub item_on : (ms : List Move) (i : ℕ) (m : Move) → i < length ms → m ≡ get_or ms i m → IsOn ms m
item_on ms i m less e = on-at ms i m (slice_get-get_or ms i m less ∙ ap (λ (k : Move). Some k) (sym e))

-- what is drawn from a filtered list was on the list
pub drawn_near : (keeps : Move → Bool) (w : ℕ) (ms : List Move) (P : Move → Type 0) → ((m : Move) → IsOn ms m → P m) → IfSome (drawn w (filter keeps ms)) P
drawn_near keeps w ms P near =
    let pool : List Move = filter keeps ms in
    some_map (drawn w pool) (λ m. IsOn pool m) P (λ m on. near m (on_filter keeps ms m on).0) (some_on pool (w % length pool) (drawn w pool) refl)

-- and it is one that was kept
pub drawn_kept : (keeps : Move → Bool) (w : ℕ) (ms : List Move) → IfSome (drawn w (filter keeps ms)) (λ m. IsOn ms m × (keeps m ≡ true))
drawn_kept keeps w ms =
    let pool : List Move = filter keeps ms in
    some_map (drawn w pool) (λ m. IsOn pool m) (λ m. IsOn ms m × (keeps m ≡ true)) (λ m on. on_filter keeps ms m on) (some_on pool (w % length pool) (drawn w pool) refl)

pub same_drawn : (o : Option Move) (siege : Bool) (state : ℕ) (p : Position) → o ≡ drawn_of siege state p → IfSome o (λ m. IsOn (moves p) m)
same_drawn o siege state p e = subst (λ o. IfSome o (λ m. IsOn (moves p) m)) (sym e) (drawn_legal siege state p)
