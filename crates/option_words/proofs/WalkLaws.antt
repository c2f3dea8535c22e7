-- One word in the walk of `clap`, at the command with its options: why it is refused, and what it
-- does.
use Rattle.std.proofs.Common.{◌≡◌, ◌∙◌, ℕ, Bool, true, false, refl, ap, ap₂, List, [], ◌∷◌, Option, Some, None, codes, drop, if◌then◌else◌}
use Rattle.std.specs.Option.{option_map_or}
use Rattle.std.specs.Str.{bytes_eq, chars}
use Rattle.std.specs.Prelude.{encode_utf8, length, slice_get}
use Rattle.clap.specs.Lexer.{long_of, short_of}
use Rattle.clap.specs.Walk.{Held, Row, Text, Waiting, after_flag, bundle_met, bundle_step, idle, long_met, long_or_other, next, option, plain, plain_word, positional, reacted, settled, short_or_plain, subcommand_met, subcommand_or_other, trailing}
use Rattle.clap.specs.Faults.{bundle_fault, bundle_step_fault, flag_word_fault, flags_fault, long_fault, other_fault, react_fault, settle_fault, short_fault}
use Rattle.clap.specs.declared.error.kind.ErrorKind.TheVariants.{UnknownArgument}
use Rattle.option_words.proofs.RuleLaws.{is_known, long_known, long_unknown, no_short, rule, rules, shape}

abbrev pub holding : List Row → Option (Text × List Text) → Held
holding rows pending = record { rows = rows; pending = pending; skip = 0 }

pub no_subcommand : (waiting : Waiting) (word : Text) → subcommand_met [] waiting word ≡ None
no_subcommand idle word = refl
no_subcommand (option o) word = refl
no_subcommand positional word = refl

module _ (command : Text) (names : List Text) where
  fault_by : (word : Text) (h : Held) (l : Option (Text × Option Text)) → bytes_eq word (codes "--") ≡ false → long_of word ≡ l
      → other_fault (shape command names) None word h ≡ flag_word_fault (rules names) false l word h
  fault_by word h l whole long = ap₂ (λ b o. if b then [] else flag_word_fault (rules names) false o word h) whole long

  met_by : (word : Text) (h : Held) (waiting : Waiting) (l : Option (Text × Option Text)) → bytes_eq word (codes "--") ≡ false → long_of word ≡ l
      → subcommand_or_other (rules names) None waiting 1 word h ≡ long_or_other (rules names) waiting word l h
  met_by word h waiting l whole long = ap₂ (λ b o. if b then (h, trailing 1) else long_or_other (rules names) waiting word o h) whole long

  -- ---- what a word does, from what was held before it

  pub valued_fault : (word name v : Text) (h : Held) → bytes_eq word (codes "--") ≡ false → is_known names name ≡ true → long_of word ≡ Some (name, Some v)
      → other_fault (shape command names) None word h ≡ react_fault (rules names) false (rule name) (v ∷ []) h
  valued_fault word name v h whole known long =
      fault_by word h _ whole long ∙ ap (λ a. long_fault (rules names) false a (Some v) h) (long_known names name known)

  pub valued_met : (word name v : Text) (h : Held) (waiting : Waiting) → bytes_eq word (codes "--") ≡ false → is_known names name ≡ true → long_of word ≡ Some (name, Some v)
      → subcommand_or_other (rules names) None waiting 1 word h ≡ (reacted (rules names) (rule name) (v ∷ []) h, next idle)
  valued_met word name v h waiting whole known long = met_by word h waiting _ whole long
      ∙ ap (λ a. after_flag (rules names) waiting word (long_met (rules names) a (Some v) h).0 (long_met (rules names) a (Some v) h).1) (long_known names name known)

  pub named_fault : (word name : Text) (h : Held) → bytes_eq word (codes "--") ≡ false → is_known names name ≡ true → long_of word ≡ Some (name, None)
      → other_fault (shape command names) None word h ≡ settle_fault (rules names) false h
  named_fault word name h whole known long =
      fault_by word h _ whole long ∙ ap (λ a. long_fault (rules names) false a None h) (long_known names name known)

  pub named_met : (word name : Text) (h : Held) (waiting : Waiting) → bytes_eq word (codes "--") ≡ false → is_known names name ≡ true → long_of word ≡ Some (name, None)
      → subcommand_or_other (rules names) None waiting 1 word h ≡ (record (settled (rules names) h) { pending = Some (name, []) }, next (option name))
  named_met word name h waiting whole known long = met_by word h waiting _ whole long
      ∙ ap (λ a. after_flag (rules names) waiting word (long_met (rules names) a None h).0 (long_met (rules names) a None h).1) (long_known names name known)

  -- ---- the kinds of words

  -- the word is refused as an unknown argument
  abbrev pub IsRefused : Text → Type 0
  IsRefused word = (rows : List Row) (pending : Option (Text × List Text)) → other_fault (shape command names) None word (holding rows pending) ≡ UnknownArgument ∷ []

  -- the word is not a flag
  pub record IsStray (word : Text) : Type 0 where
    pub passes : (rows : List Row) (pending : Option (Text × List Text)) → other_fault (shape command names) None word (holding rows pending) ≡ []
    pub met : (rows : List Row) (pending : Option (Text × List Text)) (waiting : Waiting) → subcommand_or_other (rules names) None waiting 1 word (holding rows pending)
        ≡ plain_word (rules names) waiting word (holding rows pending)

  pub data WordKind (word : Text) : Type 0 where
    valued : (name v : Text) → is_known names name ≡ true → long_of word ≡ Some (name, Some v) → WordKind word
    named : (name : Text) → is_known names name ≡ true → long_of word ≡ Some (name, None) → WordKind word
    refused : IsRefused word → WordKind word
    stray : IsStray word → WordKind word

  pub plain_stray : (word : Text) → bytes_eq word (codes "--") ≡ false → long_of word ≡ None → short_of word ≡ None → IsStray word
  plain_stray word whole long none = record {
    passes = λ rows pending. fault_by word (holding rows pending) _ whole long
        ∙ ap (λ s. option_map_or (λ flags. bundle_fault (rules names) false flags (holding rows pending)) s []) none;
    met = λ rows pending waiting. met_by word (holding rows pending) waiting _ whole long
        ∙ ap (λ s. short_or_plain (rules names) waiting word s (holding rows pending)) none;
  }

  -- a word that is not a long flag is refused: as short flags if it has their form, otherwise as
  -- stray
  short_kind : (word : Text) → bytes_eq word (codes "--") ≡ false → long_of word ≡ None → (s : Option Text) → short_of word ≡ s → WordKind word
  unfolding bundle_met flags_fault
  short_kind word whole long None none = stray (plain_stray word whole long none)
  short_kind word whole long (Some []) some = stray (record {
    passes = λ rows pending. fault_by word (holding rows pending) _ whole long
        ∙ ap (λ s. option_map_or (λ flags. bundle_fault (rules names) false flags (holding rows pending)) s []) some;
    met = λ rows pending waiting. met_by word (holding rows pending) waiting _ whole long
        ∙ ap (λ s. short_or_plain (rules names) waiting word s (holding rows pending)) some;
  })
  short_kind word whole long (Some (b ∷ bs)) some = go (slice_get (chars (b ∷ bs)) 0) refl
    where
      go : (x : Option ℕ) → slice_get (chars (b ∷ bs)) 0 ≡ x → WordKind word
      go None none = stray (record {
        passes = λ rows pending. fault_by word (holding rows pending) _ whole long
            ∙ ap (λ s. option_map_or (λ flags. bundle_fault (rules names) false flags (holding rows pending)) s []) some
            ∙ ap (λ x. bundle_step_fault (rules names) false x (b ∷ bs) 0 (holding rows pending) (flags_fault (rules names) false (length bs))) none;
        met = λ rows pending waiting. met_by word (holding rows pending) waiting _ whole long
            ∙ ap (λ s. short_or_plain (rules names) waiting word s (holding rows pending)) some
            ∙ ap (λ x. after_flag (rules names) waiting word (bundle_step (rules names) x (b ∷ bs) 0 plain (holding rows pending) (bundle_met (rules names) (length bs))).0
            (bundle_step (rules names) x (b ∷ bs) 0 plain (holding rows pending) (bundle_met (rules names) (length bs))).1) none;
      })
      go (Some x) first = refused
          (λ rows pending. fault_by word (holding rows pending) _ whole long
          ∙ ap (λ s. option_map_or (λ flags. bundle_fault (rules names) false flags (holding rows pending)) s []) some
          ∙ ap (λ x. bundle_step_fault (rules names) false x (b ∷ bs) 0 (holding rows pending) (flags_fault (rules names) false (length bs))) first
          ∙ ap (λ a. short_fault (rules names) false a (drop (length (encode_utf8 x)) (b ∷ bs)) (holding rows pending)
          (flags_fault (rules names) false (length bs) (drop (length (encode_utf8 x)) (b ∷ bs)) 0)) (no_short names x))

  long_kind : (word name : Text) (v : Option Text) → bytes_eq word (codes "--") ≡ false → long_of word ≡ Some (name, v)
      → (known : Bool) → is_known names name ≡ known → WordKind word
  long_kind word name v whole long false unknown = refused
      (λ rows pending. fault_by word (holding rows pending) _ whole long
      ∙ ap (λ a. long_fault (rules names) false a v (holding rows pending)) (long_unknown names name unknown))
  long_kind word name (Some v) whole long true known = valued name v known long
  long_kind word name None whole long true known = named name known long

  -- each word except `--` is of one of the kinds
  pub word_kind : (word : Text) → bytes_eq word (codes "--") ≡ false → WordKind word
  word_kind word whole = go (long_of word) refl
    where
      go : (l : Option (Text × Option Text)) → long_of word ≡ l → WordKind word
      go None none = short_kind word whole none (short_of word) refl
      go (Some p) some = long_kind word p.0 p.1 whole some (is_known names p.0) refl
