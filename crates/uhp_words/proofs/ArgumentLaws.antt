-- What follows the first word is read exactly.
use Rattle.std.proofs.Common.{◌≡◌, ◌≢◌, ℕ, Bool, true, false, List, [], ◌∷◌, length, refl, sym, ◌∙◌, ap, arith, ◌⊎◌, inl, inr, lit<}
use Rattle.std.specs.Prelude.{Option, Some, None, codes, if◌then◌else◌}
use Rattle.std.specs.Str.{bytes_eq}
use Rattle.std.proofs.lemmas.Fmt.{decimal_nonempty}
use Rattle.std.proofs.lemmas.Slice.Eq.{bytes_eq-Decides}
use Rattle.hive_model.specs.Fields.{IsNumberText}
use Rattle.move_text.specs.Readers.{number_at, time_at}
use Rattle.move_text.proofs.FieldLaws.{time_found}
use Rattle.uhp_words.specs.declared.command.Command.{Command}
use Rattle.uhp_words.specs.declared.command.Command.TheVariants.{Play, BestDepth, BestTime, Undo}
use Rattle.uhp_words.specs.Spaces.{IsBare, first_word, rest_of}
use Rattle.uhp_words.specs.Spans.{span_of}
use Rattle.uhp_words.specs.Grammar.{IsDepth, IsTime, IsPlies}
use Rattle.uhp_words.specs.Reading.{alone, play_of, depth_of, time_of, plies_of, limit_of, undo_of}
use Rattle.move_text.proofs.NumberLaws.{number_found, number_again}
use Rattle.uhp_words.proofs.FieldLaws.{time_again}
use Rattle.uhp_words.proofs.SplitLaws.{split_of, reads_bare}

-- a text that is not the one word can only be the other
not_taken : {X : Type 0} (text word : List ℕ) (x o : X) → text ≡ word → (if bytes_eq text word then x else o) ≡ x
not_taken text word x o e = ap (λ t. if t then x else o) ((bytes_eq-Decides text word).1 e)

-- Commands that take nothing more, and `play`

pub alone_found : (k : Command) (rest : List ℕ) (c : Command) → alone k rest ≡ Some c → (rest ≡ []) × (k ≡ c)
alone_found k [] c e = let same : k ≡ c = cc in (refl, same)
alone_found k (b ∷ bs) c e = absurd (cc)

pub play_found : (text rest : List ℕ) (c : Command) → play_of text rest ≡ Some c → (rest ≢ []) × (Play (span_of text rest rest) ≡ c)
play_found text [] c e = absurd (cc)
play_found text (b ∷ bs) c e = let same : Play (span_of text (b ∷ bs) (b ∷ bs)) ≡ c = cc in ((λ f. cc), same)

pub play_again : (text rest : List ℕ) → rest ≢ [] → play_of text rest ≡ Some (Play (span_of text rest rest))
play_again text [] some = absurd (some refl)
play_again text (b ∷ bs) some = refl

-- `bestmove`

pub record IsDepthOf (rest : List ℕ) (c : Command) : Type 0 where
  pub depth : ℕ
  pub is : IsDepth rest depth
  pub same : BestDepth depth ≡ c

pub record IsTimeOf (rest : List ℕ) (c : Command) : Type 0 where
  pub budget : ℕ
  pub is : IsTime rest budget
  pub same : BestTime budget ≡ c

depth_found : (text : List ℕ) (c : Command) → depth_of (number_at text 1 64) ≡ Some c → (n : ℕ) × (number_at text 1 64 ≡ Some n) × (BestDepth n ≡ c)
depth_found text c e = go (number_at text 1 64) refl e
  where
    go : (o : Option ℕ) → number_at text 1 64 ≡ o → depth_of o ≡ Some c → (n : ℕ) × (number_at text 1 64 ≡ Some n) × (BestDepth n ≡ c)
    go None f k = absurd (cc)
    go (Some n) f k = let same : BestDepth n ≡ c = cc in (n, f, same)

budget_found : (text : List ℕ) (c : Command) → time_of (time_at text) ≡ Some c → (n : ℕ) × (time_at text ≡ Some n) × (BestTime n ≡ c)
budget_found text c e = go (time_at text) refl e
  where
    go : (o : Option ℕ) → time_at text ≡ o → time_of o ≡ Some c → (n : ℕ) × (time_at text ≡ Some n) × (BestTime n ≡ c)
    go None f k = absurd (cc)
    go (Some n) f k = let same : BestTime n ≡ c = cc in (n, f, same)

limit_cases : (word text : List ℕ) (c : Command) → limit_of word text ≡ Some c
    → ((word ≡ codes "depth") × (depth_of (number_at text 1 64) ≡ Some c)) ⊎ ((word ≡ codes "time") × (time_of (time_at text) ≡ Some c))
limit_cases word text c = go (bytes_eq word (codes "depth")) refl (bytes_eq word (codes "time")) refl
  where
    go : (s : Bool) → bytes_eq word (codes "depth") ≡ s → (t : Bool) → bytes_eq word (codes "time") ≡ t
        → (if s then depth_of (number_at text 1 64) else (if t then time_of (time_at text) else None)) ≡ Some c
        → ((word ≡ codes "depth") × (depth_of (number_at text 1 64) ≡ Some c)) ⊎ ((word ≡ codes "time") × (time_of (time_at text) ≡ Some c))
    go true e t f h = inl ((bytes_eq-Decides word (codes "depth")).0 e, h)
    go false e true f h = inr ((bytes_eq-Decides word (codes "time")).0 f, h)
    go false e false f h = absurd (cc)

pub limit_found : (rest : List ℕ) (c : Command) → IsBare rest → limit_of (first_word rest) (rest_of rest) ≡ Some c → IsDepthOf rest c ⊎ IsTimeOf rest c
limit_found rest c bare e =
    let s = split_of rest in
    let r = reads_bare rest s bare in
    let h : limit_of s.word s.rest ≡ Some c = (λ i. limit_of (sym r.word_is i) (sym r.rest_is i)) ∙ e in
    elim (limit_cases s.word s.rest c h) [
      | inl k ↦ let d = depth_found s.rest c k.1 in
          inl (record { depth = d.0; is = record { split = s; word = k.0; number = number_found s.rest 1 64 d.0 d.1 }; same = d.2 })
      | inr k ↦ let d = budget_found s.rest c k.1 in
          inr (record { budget = d.0; is = record { split = s; word = k.0; time = time_found s.rest d.0 d.1 }; same = d.2 })
    ]

pub depth_again : (rest : List ℕ) (depth : ℕ) → IsBare rest → IsDepth rest depth → limit_of (first_word rest) (rest_of rest) ≡ Some (BestDepth depth)
depth_again rest depth bare d =
    let r = reads_bare rest d.split bare in
    (λ i. limit_of ((r.word_is ∙ d.word) i) (r.rest_is i)) ∙ ap depth_of (number_again d.split.rest 1 64 depth (lit< tt) d.number)

pub budget_again : (rest : List ℕ) (budget : ℕ) → IsBare rest → IsTime rest budget → limit_of (first_word rest) (rest_of rest) ≡ Some (BestTime budget)
budget_again rest budget bare d =
    let r = reads_bare rest d.split bare in
    (λ i. limit_of ((r.word_is ∙ d.word) i) (r.rest_is i)) ∙ ap time_of (time_again d.split.rest budget d.time)

-- `undo`

pub record IsUndoOf (rest : List ℕ) (c : Command) : Type 0 where
  pub plies : ℕ
  pub is : IsPlies rest plies
  pub same : Undo plies ≡ c

pub undo_found : (rest : List ℕ) (c : Command) → undo_of rest ≡ Some c → IsUndoOf rest c
undo_found [] c e = record { plies = 1; is = inl (refl, refl); same = cc }
undo_found (b ∷ bs) c e = go (number_at (b ∷ bs) 1 999999999) refl e
  where
    go : (o : Option ℕ) → number_at (b ∷ bs) 1 999999999 ≡ o → plies_of o ≡ Some c → IsUndoOf (b ∷ bs) c
    go None f k = absurd (cc)
    go (Some n) f k = record { plies = n; is = inr (number_found (b ∷ bs) 1 999999999 n f); same = cc }

no_number : (plies : ℕ) → IsNumberText [] 1 999999999 plies → ⊥
no_number plies k =
    let high = k.high in
    let some = decimal_nonempty plies (omega (arith, high)) in
    let none = ap length k.digits in
    omega (arith, some, none)

pub undo_again : (rest : List ℕ) (plies : ℕ) → IsPlies rest plies → undo_of rest ≡ Some (Undo plies)
undo_again rest plies (inl h) = ap undo_of h.0 ∙ ap (λ n. Some (Undo n)) (sym h.1)
undo_again rest plies (inr h) = go rest h (number_again rest 1 999999999 plies (lit< tt) h)
  where
    go : (xs : List ℕ) → IsNumberText xs 1 999999999 plies → number_at xs 1 999999999 ≡ Some plies → undo_of xs ≡ Some (Undo plies)
    go [] k e = absurd (no_number plies k)
    go (b ∷ bs) k e = ap plies_of e
