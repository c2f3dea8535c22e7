-- What the walk of `clap` finds in the words of items is what the items give, and the other way
-- round.
use Rattle.std.proofs.Common.{◌≡◌, ◌≢◌, ◌∙◌, ◌⊎◌, inl, inr, ◌<◌, ◌++◌, ◌||◌, suc, arith, Bool, true, false, refl, sym, ap, ap₂, subst, List, [], ◌∷◌, Some, None, codes, length, map, append-nil, append_assoc}
use Rattle.std.specs.Str.{bytes_eq}
use Rattle.std.proofs.lemmas.Grind.{common_steps}
use Rattle.std.proofs.lemmas.List.Folds.{list_any-append}
use Rattle.std.proofs.lemmas.Slice.Eq.{bytes_eq-Decides}
use Rattle.hive_model.specs.Lists.{IsOn}
use Rattle.clap.specs.Lexer.{long_of}
use Rattle.clap.specs.Walk.{Row, Text, has_row, option}
use Rattle.clap.proofs.CutLemmas.{Lacks}
use Rattle.option_words.specs.Options.{AreDifferent, AreItems, BeginWith, HasNoEquals, IsItem, IsValue, Item, in_one_word, name_word}
use Rattle.option_words.proofs.RuleLaws.{is_known}
use Rattle.option_words.proofs.WalkLaws.{IsStray, WordKind, named, plain_stray, refused, stray, valued, word_kind}
use Rattle.option_words.proofs.PlaceLaws.{HasNoDashes, after, at, end_finds, first_word, name_ends, neither, one_word, outcome, refused_fails, row, second_kind, second_word, stray_fails, uses, uses_again, uses_new}
use Rattle.option_words.proofs.FormLaws.{cut_is, lacks_more, long_is, name_word_long, name_word_whole, one_word_long, one_word_whole, value_long, value_short, value_whole, whole_is}

-- ---- what was found, by the items

abbrev pub row_of : Item → Row
row_of item = row item.name item.value

pub differ_bytes : (a b : Text) → a ≢ b → bytes_eq a b ≡ false
differ_bytes a b differ = go (bytes_eq a b) refl
  where
    go : (t : Bool) → bytes_eq a b ≡ t → bytes_eq a b ≡ false
    go true is = absurd (differ ((bytes_eq-Decides a b).0 is))
    go false is = is

bytes_differ : (a b : Text) → bytes_eq a b ≡ false → a ≢ b
bytes_differ a b apart same = let both : true ≡ false = sym ((bytes_eq-Decides a b).1 same) ∙ apart in cc

-- a name was not used before, and is not the last one used
not_used : (name : Text) (held : List Row) (item : Item) → has_row name (held ++ row_of item ∷ []) ≡ false → (has_row name held ≡ false) × (item.name ≢ name)
not_used name held item none =
    let parts = neither _ _ (sym (list_any-append (λ (r : Row). bytes_eq r.id name) held (row_of item ∷ [])) ∙ none) in
    (parts.0, bytes_differ item.name name (neither _ _ parts.1).0)

still_new : (name : Text) (held : List Row) (item : Item) → has_row name held ≡ false → item.name ≢ name → has_row name (held ++ row_of item ∷ []) ≡ false
still_new name held item none differ =
    list_any-append (λ (r : Row). bytes_eq r.id name) held (row_of item ∷ []) ∙ ap₂ (λ a b. a || (b || false)) none (differ_bytes item.name name differ)

-- ---- the words of an item

-- there is no `=` in the names of the items, nor in those of the lexer
no_equals_lacks : (name : Text) → HasNoEquals name → Lacks 61 name
no_equals_lacks [] h = λ i lt. absurd (omega (arith, lt))
no_equals_lacks (b ∷ bs) h = lacks_more b bs h.0 (no_equals_lacks bs h.1)

lacks_no_equals : (name : Text) → Lacks 61 name → HasNoEquals name
lacks_no_equals [] h = tt
lacks_no_equals (b ∷ bs) h = (h 0 (grind (arith, common_steps)), lacks_no_equals bs (λ i lt. h (suc i) (omega (arith, lt))))

abbrev pub item_of : Text → Text → Item
item_of name v = record { name = name; value = v }

-- words begin with the item, if its value is of its form
abbrev StartsItem : List Text → Item → List Text → Type 0
StartsItem words item others = IsValue item.value → BeginWith words item others × IsItem item

in_one : (word name v : Text) (rest : List Text) → long_of word ≡ Some (name, Some v) → StartsItem (word ∷ rest) (item_of name v) rest
in_one word name v rest long value =
    let cut = long_is word (name, Some v) long in
    let parts = cut_is cut.0 name v cut.2 in
    (inl (ap (λ w. w ∷ rest) (cut.1 ∙ ap (λ t. codes "--" ++ t) parts.0)), record { name = lacks_no_equals name parts.1; value = value })

in_two : (word name v : Text) (rest : List Text) → long_of word ≡ Some (name, None) → StartsItem (word ∷ (v ∷ rest)) (item_of name v) rest
in_two word name v rest long value =
    let cut = long_is word (name, None) long in
    let parts = whole_is cut.0 name cut.2 in
    (inr (ap (λ w. w ∷ (v ∷ rest)) (cut.1 ∙ ap (λ t. codes "--" ++ t) parts.0)), record { name = lacks_no_equals name parts.1; value = value })

-- ---- from what is found to the items

-- The words are items with known names, each new and used once. What is found is what was held
-- before, and then the items.
pub record Reads (names : List Text) (held : List Row) (words : List Text) (found : List Row) : Type 0 where
  pub items : List Item
  pub are_items : ((item : Item) → IsOn items item → IsValue item.value) → AreItems words items
  pub known : (item : Item) → IsOn items item → is_known names item.name ≡ true
  pub new : (item : Item) → IsOn items item → has_row item.name held ≡ false
  pub once : AreDifferent items
  pub found_is : found ≡ held ++ map row_of items

reads_more : (names : List Text) (held : List Row) (item : Item) (words others : List Text) (found : List Row) → StartsItem words item others
    → is_known names item.name ≡ true → has_row item.name held ≡ false → Reads names (held ++ row_of item ∷ []) others found → Reads names held words found
reads_more names held item words others found begins known new r = record {
  items = item ∷ r.items;
  are_items = λ values.
      let form = begins (values item (inl refl)) in
      (others, form.0, form.1, r.are_items (λ other on. values other (inr on)));
  known = λ other on. elim on [ inl is ↦ subst (λ (i : Item). is_known names i.name ≡ true) is known | inr later ↦ r.known other later ];
  new = λ other on. elim on [ inl is ↦ subst (λ (i : Item). has_row i.name held ≡ false) is new | inr later ↦ (not_used other.name held item (r.new other later)).0 ];
  once = (λ other on same. (not_used other.name held item (r.new other on)).1 (sym same), r.once);
  found_is = r.found_is ∙ append_assoc held (row_of item ∷ []) (map row_of r.items);
}

module _ (command : Text) (names : List Text) where
  -- for words at a place where nothing is pending
  abbrev AfterReads : List Text → Type 0
  AfterReads words = (held found : List Row) → HasNoDashes words → outcome command names (after held) words ≡ Some found → Reads names held words found

  -- for words after an option's name
  abbrev NameReads : List Text → Type 0
  NameReads words = (held found : List Row) (name first : Text) → is_known names name ≡ true → long_of first ≡ Some (name, None) → HasNoDashes words
      → outcome command names (at held (Some (name, [])) (option name)) words ≡ Some found → Reads names held (first ∷ words) found

  use_reads : (held found : List Row) (name v : Text) (words rest : List Text) → AfterReads rest → HasNoDashes rest → StartsItem words (item_of name v) rest
      → is_known names name ≡ true → uses command names name v held rest ≡ Some found → Reads names held words found
  use_reads held found name v words rest next h begins known is = go (has_row name held) refl
    where
      go : (b : Bool) → has_row name held ≡ b → Reads names held words found
      go true some = let none : None ≡ Some found = sym (uses_again command names name v held rest some) ∙ is in cc
      go false new = reads_more names held (item_of name v) words rest found begins known new
          (next (held ++ row name v ∷ []) found h (sym (uses_new command names name v held rest new) ∙ is))

  after_reads : (word : Text) (rest : List Text) → AfterReads rest → NameReads rest → AfterReads (word ∷ rest)
  after_reads word rest next behind held found h is = go (word_kind command names word whole)
    where
      whole : bytes_eq word (codes "--") ≡ false
      whole = (neither _ _ h).0

      go : WordKind command names word → Reads names held (word ∷ rest) found
      go (valued name v known long) = use_reads held found name v (word ∷ rest) rest next (neither _ _ h).1 (in_one word name v rest long) known
          (sym (one_word command names held word name v rest whole known long) ∙ is)
      go (named name known long) = behind held found name word known long (neither _ _ h).1 (sym (first_word command names held word name rest whole known long) ∙ is)
      go (refused off) = let none : None ≡ Some found = sym (refused_fails command names held None _ word rest off) ∙ is in cc
      go (stray off) = let none : None ≡ Some found = sym (stray_fails command names held None word rest off) ∙ is in cc

  name_reads : (v : Text) (rest : List Text) → AfterReads rest → NameReads (v ∷ rest)
  name_reads v rest next held found name first known long h is = go (second_kind command names held name v rest known (neither _ _ h).0)
    where
      go : IsStray command names v ⊎ (outcome command names (at held (Some (name, [])) (option name)) (v ∷ rest) ≡ None) → Reads names held (first ∷ (v ∷ rest)) found
      go (inl plain) = use_reads held found name v (first ∷ (v ∷ rest)) rest next (neither _ _ h).1 (in_two first name v rest long) known
          (sym (second_word command names held name v rest known plain (neither _ _ h).1) ∙ is)
      go (inr off) = let none : None ≡ Some found = sym off ∙ is in cc

  both_read : (words : List Text) → AfterReads words × NameReads words
  both_read [] = (
    λ held found h is. record {
      items = [];
      are_items = λ values. refl;
      known = λ item none. absurd none;
      new = λ item none. absurd none;
      once = tt;
      found_is = let same : Some held ≡ Some found = sym (end_finds command names held) ∙ is in (cc) ∙ sym (append-nil held);
    },
    λ held found name first known long h is. let none : None ≡ Some found = sym (name_ends command names held name known) ∙ is in cc,
  )
  both_read (word ∷ rest) =
      let next = both_read rest in
      (after_reads word rest next.0 next.1, name_reads word rest next.0)

  -- what a walk over words finds
  pub walk_reads : (words : List Text) → AfterReads words
  walk_reads words = (both_read words).0

  -- ---- from the items to what is found

  value_stray : (v : Text) → IsValue v → IsStray command names v
  value_stray v is = plain_stray command names v (value_whole v is) (value_long v is) (value_short v is)

  -- what is found in words that begin with an item, by what is found in the others
  item_found : (item : Item) (held all : List Row) (words others : List Text) → BeginWith words item others → IsItem item → is_known names item.name ≡ true
      → 0 < length item.name → HasNoDashes others → uses command names item.name item.value held others ≡ Some all
      → HasNoDashes words × (outcome command names (after held) words ≡ Some all)
  item_found item held all words others (inl one) is known long h used =
      let whole = one_word_whole item.name item.value in
      let finds = one_word command names held (in_one_word item) item.name item.value others whole known (one_word_long item.name item.value (no_equals_lacks item.name is.name)) ∙ used in
      subst (λ w. HasNoDashes w × (outcome command names (after held) w ≡ Some all)) (sym one) (ap₂ (λ a b. a || b) whole h, finds)
  item_found item held all words others (inr two) is known long h used =
      let whole = name_word_whole item.name long in
      let finds = first_word command names held (name_word item) item.name (item.value ∷ others) whole known (name_word_long item.name long (no_equals_lacks item.name is.name))
      ∙ second_word command names held item.name item.value others known (value_stray item.value is.value) h ∙ used in
      subst (λ w. HasNoDashes w × (outcome command names (after held) w ≡ Some all)) (sym two)
      (ap₂ (λ a b. a || b) whole (ap₂ (λ a b. a || b) (value_whole item.value is.value) h), finds)

  -- What a walk finds in the words of items, if their names are known, new and used once.
  pub items_found : (items : List Item) (held : List Row) (words : List Text) → AreItems words items
      → ((item : Item) → IsOn items item → is_known names item.name ≡ true) → ((item : Item) → IsOn items item → 0 < length item.name)
      → AreDifferent items → ((item : Item) → IsOn items item → has_row item.name held ≡ false)
      → HasNoDashes words × (outcome command names (after held) words ≡ Some (held ++ map row_of items))
  items_found [] held words are known long once new =
      subst (λ w. HasNoDashes w × (outcome command names (after held) w ≡ Some (held ++ []))) (sym are) (refl, end_finds command names held ∙ ap Some (sym (append-nil held)))
  items_found (item ∷ items) held words are known long once new =
      let next = items_found items (held ++ row_of item ∷ []) are.0 are.3 (λ other on. known other (inr on)) (λ other on. long other (inr on)) once.1
      (λ other on. still_new other.name held item (new other (inr on)) (λ same. once.0 other on (sym same))) in
      item_found item held (held ++ row_of item ∷ map row_of items) words are.0 are.1 are.2 (known item (inl refl)) (long item (inl refl)) next.0
      (uses_new command names item.name item.value held are.0 (new item (inl refl)) ∙ next.1 ∙ ap Some (append_assoc held (row_of item ∷ []) (map row_of items)))
