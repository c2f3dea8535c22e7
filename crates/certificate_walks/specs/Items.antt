-- Items that a walk takes, if they are observable: each is one that it can take, or a bad item.
use Rattle.std.specs.Prelude.{◌≡◌, ℕ, ◌+◌, ◌-◌, ◌^◌, min, Bool, true, false, List, [], ◌∷◌, map, ⊤, Option, Some, None}
use Rattle.std.specs.Option.{option_map}
use Rattle.certificate_walks.specs.declared.items.ItemAnswer.{ItemAnswer}
use Rattle.certificate_walks.specs.declared.items.ItemAnswer.TheVariants.{Item, End, Bad, Failed, Full}

-- The items to come, with `None` for a bad one. It is `None` itself if they are not observable.
abbrev pub ToldItems : Type 0 → Type 0
ToldItems T = Option (List (Option T))

-- the observable items, with this one in front
abbrev pub in_front : {T : Type 0} → Option T → ToldItems T → ToldItems T
in_front item told = option_map (λ items. item ∷ items) told

-- no observable item is left
abbrev pub IsAtEnd : {T : Type 0} → ToldItems T → Type 0
IsAtEnd None = ⊤
IsAtEnd (Some items) = items ≡ []

-- the list is empty
abbrev pub is_none_left : {T : Type 0} → List T → Bool
is_none_left [] = true
is_none_left (x ∷ xs) = false

-- What a call gave, and what it took. The items are observable after it if and only if they were
-- before.
abbrev pub Takes : {T : Type 0} → ItemAnswer T → ToldItems T → ToldItems T → Type 0
Takes (Item item) old new = old ≡ in_front (Some item) new
Takes End old new = (new ≡ old) × IsAtEnd old
Takes Bad old new = old ≡ in_front None new
Takes Failed old new = new ≡ old
Takes Full old new = new ≡ old

-- the count of items taken, after a call; it stops at the greatest u64
abbrev pub counted : {T : Type 0} → ItemAnswer T → ℕ → ℕ
counted (Item item) n = min (n + 1) (2 ^ 64 - 1)
counted End n = n
counted Bad n = min (n + 1) (2 ^ 64 - 1)
counted Failed n = n
counted Full n = n

-- What no call changes: the references through which items are read, and how many bytes were taken
-- or are to come, if they are observable.
pub record Lent : Type 0 where
  pub references : List ℕ
  pub bytes : Option ℕ

-- what contracts know of the items at one moment
pub record Supply (T : Type 0) : Type 1 where
  -- the items to come, if they are observable: each as it is, or a bad item
  pub left : ToldItems T
  -- how often reading has failed: a u64 that stops at its greatest value
  pub faults : ℕ
  -- whether no more may be read
  pub full : Bool
  -- how many items were taken: a u64 that stops at its greatest value
  pub count : ℕ
  pub lenders : Lent
  -- What is known of the bytes from which the items are read, after this number of other items. It
  -- stays known, whatever is taken.
  pub known : List ℕ → ℕ → Type 0
  -- what holds after a call, by its answer
  pub met : ItemAnswer T → Type 0

-- exactly these items, observable
abbrev pub all_of : {T : Type 0} → List T → ToldItems T
all_of items = Some (map (λ item. Some item) items)
