-- The options that follow a command on the command line, each with its value.
use Rattle.std.specs.Prelude.{◌≡◌, ◌≢◌, ◌⊎◌, ℕ, Bool, List, [], ◌∷◌, ◌++◌, map, find, length, nat_lt, Option, Some, None, option_map, slice_get, unwrap_or, codes}
use Rattle.std.specs.Borrow.{Bor}
use Rattle.std.specs.List.{list_all}
use Rattle.std.specs.Str.{bytes_eq}
use Rattle.hive_model.specs.Lists.{IsOn}

-- the name of an option, and its value
pub record Item : Type 0 where
  pub name : List ℕ
  pub value : List ℕ

-- an item in one word, `--name=value`
abbrev pub in_one_word : Item → List ℕ
in_one_word item = codes "--" ++ (item.name ++ 61 ∷ item.value)

-- the first word of an item in two words, `--name`; the second is the value
abbrev pub name_word : Item → List ℕ
name_word item = codes "--" ++ item.name

-- The words begin with this item, in one word or in two, and the others follow.
abbrev pub BeginWith : List (List ℕ) → Item → List (List ℕ) → Type 0
BeginWith words item others =
    (words ≡ in_one_word item ∷ others) ⊎ (words ≡ name_word item ∷ (item.value ∷ others))

-- no byte is `=` (61)
abbrev pub HasNoEquals : List ℕ → Type 0
HasNoEquals [] = Unit {0}
HasNoEquals (b ∷ bs) = (b ≢ 61) × HasNoEquals bs

-- The text is not empty and does not begin with `-` (45).
abbrev pub IsValue : List ℕ → Type 0
IsValue [] = ⊥
IsValue (b ∷ bs) = b ≢ 45

-- A name and a value of their form. With this form, a word is split at its first `=`.
pub record IsItem (item : Item) : Type 0 where
  pub name : HasNoEquals item.name
  pub value : IsValue item.value

-- the words are these items, one after another
abbrev pub AreItems : List (List ℕ) → List Item → Type 0
AreItems words [] = words ≡ []
AreItems words (item ∷ items) =
    (others : List (List ℕ)) × BeginWith words item others × IsItem item × AreItems others items

-- No two items have the same name.
abbrev pub AreDifferent : List Item → Type 0
AreDifferent [] = Unit {0}
AreDifferent (item ∷ items) =
    ((other : Item) → IsOn items other → other.name ≢ item.name) × AreDifferent items

-- The words are a command and items in any order. The name of each is one of the command's options,
-- and each name occurs at most once.
pub record AskFor (words : List (List ℕ)) (command : List ℕ) (options : List (List ℕ))
    (items : List Item) : Type 0 where
  pub rest : List (List ℕ)
  pub begin : words ≡ command ∷ rest
  pub are_items : AreItems rest items
  pub known : (item : Item) → IsOn items item → IsOn options item.name
  pub once : AreDifferent items

-- the value that items give the option of this name, None if none of them has the name
abbrev pub value_of : List Item → List ℕ → Option (List ℕ)
value_of items name =
    option_map (λ item. item.value) (find (λ item. bytes_eq item.name name) items)

-- The words are a command with items. These are the values of its options, in the order of the
-- options, with None for an option that is not among the items.
pub record Gives (words : List (List ℕ)) (command : List ℕ) (options : List (List ℕ))
    (values : List (Option (List ℕ))) : Type 0 where
  pub items : List Item
  pub ask : AskFor words command options items
  pub values_are : values ≡ map (value_of items) options

-- The words are a command with one option, which is required, and give it this value.
abbrev pub GiveOne : List (List ℕ) → List ℕ → List ℕ → List ℕ → Type 0
GiveOne words command option value = Gives words command (option ∷ []) (Some value ∷ [])

-- No name is empty.
abbrev pub are_names : List (List ℕ) → Bool
are_names = list_all (λ name. nat_lt 0 (length name))

-- the value at a place of the list, None past its end
abbrev pub value_at : List (Option (List ℕ)) → ℕ → Option (List ℕ)
value_at values index = unwrap_or (slice_get values index) None

-- the texts of a program's `&[&str]` of names
abbrev pub names_of : List (Bor (List ℕ)) → List (List ℕ)
names_of options = map (λ option. option.now) options

-- the texts of a program's `Vec<Option<&str>>` of values
abbrev pub values_of : List (Option (Bor (List ℕ))) → List (Option (List ℕ))
values_of values = map (option_map (λ value. value.now)) values
