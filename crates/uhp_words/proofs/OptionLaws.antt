-- What follows `options` is read exactly.
use Rattle.std.proofs.Common.{◌≡◌, ◌≢◌, ℕ, ◌+◌, Bool, true, false, List, [], ◌∷◌, length, refl, sym, ◌∙◌, ap, arith, ◌⊎◌, inl, inr}
use Rattle.std.specs.Prelude.{Some, None, codes, if◌then◌else◌}
use Rattle.std.specs.Str.{bytes_eq}
use Rattle.std.proofs.lemmas.Slice.Eq.{bytes_eq-Decides}
use Rattle.uhp_words.specs.declared.span.Span.{Span}
use Rattle.uhp_words.specs.declared.command.Command.{Command}
use Rattle.uhp_words.specs.declared.command.Command.TheVariants.{Options, OptionGet, OptionSet}
use Rattle.uhp_words.specs.Spaces.{IsBare, IsApart, Split, rest_at, first_word, rest_of, is_word}
use Rattle.uhp_words.specs.Spans.{span_of}
use Rattle.uhp_words.specs.Grammar.{IsGet, IsSet}
use Rattle.uhp_words.specs.Reading.{get_of, set_of, option_of, options_of}
use Rattle.uhp_words.proofs.SpaceLaws.{one_word, word_again}
use Rattle.uhp_words.proofs.SplitLaws.{split_of, reads_bare, first_at}
use Rattle.uhp_words.proofs.SpanLaws.{Lies, lies_rest, lies_word, lies_in, part_of, same_span}

-- the rest of a line, and the line without the spaces at its end
pub record IsRest (line text : List ℕ) (at : ℕ) (rest : List ℕ) : Type 0 where
  pub bare : IsBare rest
  pub lies : Lies line at rest
  pub place : length text ≡ at + length rest

pub record IsGetOf (line : List ℕ) (at : ℕ) (rest : List ℕ) (c : Command) : Type 0 where
  pub name : Span
  pub is : IsGet line at rest name
  pub same : OptionGet name ≡ c

pub record IsSetOf (line : List ℕ) (at : ℕ) (rest : List ℕ) (c : Command) : Type 0 where
  pub name : Span
  pub value : Span
  pub is : IsSet line at rest name value
  pub same : OptionSet name value ≡ c

word_before : (w : List ℕ) (m : ℕ) (r : List ℕ) → IsApart w m r → r ≢ [] → w ≢ []
word_before w m [] apart some = absurd (some refl)
word_before w m (b ∷ bs) apart some = apart.0

get_found : (line text : List ℕ) (at : ℕ) (rest : List ℕ) (c : Command) → IsRest line text at rest → (t : Split rest) → t.word ≡ codes "get" → get_of text t.rest ≡ Some c → IsGetOf line at rest c
get_found line text at rest c r t word = go (is_word t.rest) refl
  where
    name : Span
    name = span_of text t.rest t.rest

    get_word : t.word ≢ []
    get_word f = let wrong : codes "get" ≡ [] = sym word ∙ f in cc

    go : (b : Bool) → is_word t.rest ≡ b → (if b then Some (OptionGet (span_of text t.rest t.rest)) else None) ≡ Some c → IsGetOf line at rest c
    go false e h = absurd (cc)
    go true e h =
        let one = one_word t.rest e in
        let inner = (reads_bare rest t r.bare).place get_word in
        let outer = r.place in
        record {
          name = span_of text t.rest t.rest;
          is = record {
            split = t;
            word = word;
            not_empty = one.0;
            one_word = one.1;
            name_is = part_of line (at + rest_at t) t.rest (span_of text t.rest t.rest) (lies_in line at rest (rest_at t) t.rest r.lies (lies_rest rest t)) (omega (arith, inner, outer)) refl;
          };
          same = cc;
        }

set_found : (line text : List ℕ) (at : ℕ) (rest : List ℕ) (c : Command) → IsRest line text at rest → (t : Split rest) → t.word ≡ codes "set" → set_of text t.rest ≡ Some c → IsSetOf line at rest c
set_found line text at rest c r t word h =
    let b = split_of t.rest in
    let rb = reads_bare t.rest b t.rest_is in
    go b (is_word b.rest) refl ((λ i. if is_word (sym rb.rest_is i) then Some (OptionSet (span_of text t.rest (sym rb.word_is i)) (span_of text (sym rb.rest_is i) (sym rb.rest_is i))) else None) ∙ h)
  where
    set_word : t.word ≢ []
    set_word f = let wrong : codes "set" ≡ [] = sym word ∙ f in cc

    go : (b : Split t.rest) (o : Bool) → is_word b.rest ≡ o → (if o then Some (OptionSet (span_of text t.rest b.word) (span_of text b.rest b.rest)) else None) ≡ Some c → IsSetOf line at rest c
    go b false e k = absurd (cc)
    go b true e k =
        let one = one_word b.rest e in
        let inner = (reads_bare rest t r.bare).place set_word in
        let innermost = (reads_bare t.rest b t.rest_is).place (word_before b.word b.between b.rest b.apart one.0) in
        let outer = r.place in
        let first = first_at t.rest b t.rest_is in
        let both : Lies line (at + rest_at t) t.rest = lies_in line at rest (rest_at t) t.rest r.lies (lies_rest rest t) in
        record {
          name = span_of text t.rest b.word;
          value = span_of text b.rest b.rest;
          is = record {
            split = t;
            word = word;
            both = b;
            not_empty = one.0;
            one_word = one.1;
            name_is = part_of line (at + rest_at t + b.before) b.word (span_of text t.rest b.word)
                (lies_in line (at + rest_at t) t.rest b.before b.word both (lies_word t.rest b)) (omega (arith, inner, outer, first)) refl;
            value_is = part_of line (at + rest_at t + rest_at b) b.rest (span_of text b.rest b.rest)
                (lies_in line (at + rest_at t) t.rest (rest_at b) b.rest both (lies_rest t.rest b)) (omega (arith, inner, outer, innermost)) refl;
          };
          same = cc;
        }

option_cases : (text word more : List ℕ) (c : Command) → option_of text word more ≡ Some c
    → ((word ≡ codes "get") × (get_of text more ≡ Some c)) ⊎ ((word ≡ codes "set") × (set_of text more ≡ Some c))
option_cases text word more c = go (bytes_eq word (codes "get")) refl (bytes_eq word (codes "set")) refl
  where
    go : (s : Bool) → bytes_eq word (codes "get") ≡ s → (t : Bool) → bytes_eq word (codes "set") ≡ t
        → (if s then get_of text more else (if t then set_of text more else None)) ≡ Some c
        → ((word ≡ codes "get") × (get_of text more ≡ Some c)) ⊎ ((word ≡ codes "set") × (set_of text more ≡ Some c))
    go true e t f h = inl ((bytes_eq-Decides word (codes "get")).0 e, h)
    go false e true f h = inr ((bytes_eq-Decides word (codes "set")).0 f, h)
    go false e false f h = absurd (cc)

option_found : (line text : List ℕ) (at : ℕ) (rest : List ℕ) (c : Command) → IsRest line text at rest → option_of text (first_word rest) (rest_of rest) ≡ Some c → IsGetOf line at rest c ⊎ IsSetOf line at rest c
option_found line text at rest c r h =
    let t = split_of rest in
    let read = reads_bare rest t r.bare in
    let e : option_of text t.word t.rest ≡ Some c = (λ i. option_of text (sym read.word_is i) (sym read.rest_is i)) ∙ h in
    elim (option_cases text t.word t.rest c e) [
      | inl k ↦ inl (get_found line text at rest c r t k.0 k.1)
      | inr k ↦ inr (set_found line text at rest c r t k.0 k.1)
    ]

pub options_found : (line text : List ℕ) (at : ℕ) (rest : List ℕ) (c : Command) → IsRest line text at rest → options_of text rest ≡ Some c
    → ((rest ≡ []) × (Options ≡ c)) ⊎ (IsGetOf line at rest c ⊎ IsSetOf line at rest c)
options_found line text at [] c r h = let same : Options ≡ c = cc in inl (refl, same)
options_found line text at (b ∷ bs) c r h = inr (option_found line text at (b ∷ bs) c r h)

options_more : (text rest word : List ℕ) → first_word rest ≡ word → word ≢ [] → options_of text rest ≡ option_of text (first_word rest) (rest_of rest)
options_more text [] word e some = absurd (some (sym e))
options_more text (b ∷ bs) word e some = refl

pub get_again : (line text : List ℕ) (at : ℕ) (rest : List ℕ) (name : Span) → IsRest line text at rest → IsGet line at rest name → options_of text rest ≡ Some (OptionGet name)
get_again line text at rest name r d =
    let t = d.split in
    let read = reads_bare rest t r.bare in
    let word : first_word rest ≡ codes "get" = read.word_is ∙ d.word in
    let some : t.word ≢ [] = get_word in
    let inner = read.place some in
    let outer = r.place in
    let begins = d.name_is.begins in
    let same : span_of text t.rest t.rest ≡ name = same_span (span_of text t.rest t.rest) name (omega (arith, inner, outer, begins)) (sym d.name_is.len) in
    options_more text rest (codes "get") word (λ f. cc) ∙ (λ i. option_of text (word i) (read.rest_is i))
    ∙ ap (λ b. if b then Some (OptionGet (span_of text t.rest t.rest)) else None) (word_again t.rest d.not_empty d.one_word)
    ∙ ap (λ n. Some (OptionGet n)) same
  where
    get_word : d.split.word ≢ []
    get_word f = let wrong : codes "get" ≡ [] = sym d.word ∙ f in cc

pub set_again : (line text : List ℕ) (at : ℕ) (rest : List ℕ) (name value : Span) → IsRest line text at rest → IsSet line at rest name value → options_of text rest ≡ Some (OptionSet name value)
set_again line text at rest name value r d =
    let t = d.split in
    let b = d.both in
    let read = reads_bare rest t r.bare in
    let more = reads_bare t.rest b t.rest_is in
    let word : first_word rest ≡ codes "set" = read.word_is ∙ d.word in
    let some : t.word ≢ [] = set_word in
    let inner = read.place some in
    let innermost = more.place (word_before b.word b.between b.rest b.apart d.not_empty) in
    let outer = r.place in
    let first = first_at t.rest b t.rest_is in
    let name_begins = d.name_is.begins in
    let value_begins = d.value_is.begins in
    let same_name : span_of text t.rest b.word ≡ name = same_span (span_of text t.rest b.word) name (omega (arith, inner, outer, first, name_begins)) (sym d.name_is.len) in
    let same_value : span_of text b.rest b.rest ≡ value = same_span (span_of text b.rest b.rest) value (omega (arith, inner, outer, innermost, value_begins)) (sym d.value_is.len) in
    options_more text rest (codes "set") word (λ f. cc) ∙ (λ i. option_of text (word i) (read.rest_is i))
    ∙ (λ i. if is_word (more.rest_is i) then Some (OptionSet (span_of text t.rest (more.word_is i)) (span_of text (more.rest_is i) (more.rest_is i))) else None)
    ∙ ap (λ k. if k then Some (OptionSet (span_of text t.rest b.word) (span_of text b.rest b.rest)) else None) (word_again b.rest d.not_empty d.one_word)
    ∙ (λ i. Some (OptionSet (same_name i) (same_value i)))
  where
    set_word : d.split.word ≢ []
    set_word f = let wrong : codes "set" ≡ [] = sym d.word ∙ f in cc
