-- The function that computes the command of a line returns exactly what the grammar says.
use Rattle.std.proofs.Common.{◌≡◌, ◌≢◌, ℕ, ◌+◌, List, length, refl, sym, ◌∙◌, ap, subst, arith, inl, inr}
use Rattle.std.specs.Prelude.{Option, Some, None, Result, Ok, Err, IfOk, IfErr}
use Rattle.uhp_words.specs.declared.span.Span.{Span}
use Rattle.uhp_words.specs.declared.command.Command.{Command}
use Rattle.uhp_words.specs.declared.command.Command.TheVariants.{Info, NewGame, Play, Pass, ValidMoves, BestDepth, BestTime, Undo, Options, OptionGet, OptionSet, Exit}
use Rattle.uhp_words.specs.declared.command.CommandFault.{CommandFault}
use Rattle.uhp_words.specs.declared.command.CommandFault.TheVariants.{Unknown, Arguments}
use Rattle.uhp_words.specs.declared.verb.Verb.{Verb}
use Rattle.uhp_words.specs.declared.verb.Verb.TheVariants.{Info as InfoWord, NewGame as NewGameWord, Play as PlayWord, Pass as PassWord, ValidMoves as ValidMovesWord, BestMove as BestMoveWord, Undo as UndoWord, Options as OptionsWord, Exit as ExitWord}
use Rattle.uhp_words.specs.Spaces.{Split, rest_at, before_spaces}
use Rattle.uhp_words.specs.Spans.{IsPart, span_of}
use Rattle.uhp_words.specs.Verbs.{verb_text, verb_at}
use Rattle.uhp_words.specs.Grammar.{Means, IsCommand, IsFault, AreWithin}
use Rattle.uhp_words.specs.Reading.{alone, options_of, arguments_of, or_wrong, by_verb, command_of}
use Rattle.uhp_words.proofs.SplitLaws.{split_of, reads}
use Rattle.uhp_words.proofs.SpanLaws.{lies_rest, part_of, same_span}
use Rattle.uhp_words.proofs.VerbLaws.{verb_found, verb_again, verb_not_empty}
use Rattle.uhp_words.proofs.ArgumentLaws.{alone_found, play_found, play_again, limit_found, depth_again, budget_again, undo_found, undo_again}
use Rattle.uhp_words.proofs.OptionLaws.{IsRest, options_found, get_again, set_again}

rest_here : (line : List ℕ) (s : Split line) → length (before_spaces line) ≡ rest_at s + length s.rest → IsRest line (before_spaces line) (rest_at s) s.rest
rest_here line s place = record { bare = s.rest_is; lies = lies_rest line s; place = place }

whole_part : (line : List ℕ) (s : Split line) → length (before_spaces line) ≡ rest_at s + length s.rest → IsPart line (span_of (before_spaces line) s.rest s.rest) (rest_at s) s.rest
whole_part line s place = part_of line (rest_at s) s.rest (span_of (before_spaces line) s.rest s.rest) (lies_rest line s) (omega (arith, place)) refl

same_whole : (line : List ℕ) (s : Split line) (text : Span) → length (before_spaces line) ≡ rest_at s + length s.rest → IsPart line text (rest_at s) s.rest → span_of (before_spaces line) s.rest s.rest ≡ text
same_whole line s text place p = let begins = p.begins in same_span (span_of (before_spaces line) s.rest s.rest) text (omega (arith, place, begins)) (sym p.len)

-- what is read is meant
means_found : (line : List ℕ) (s : Split line) (v : Verb) (c : Command) → length (before_spaces line) ≡ rest_at s + length s.rest
    → s.word ≡ verb_text v → arguments_of (before_spaces line) v s.rest ≡ Some c → Means line s c
means_found line s InfoWord c place w e = let r = alone_found Info s.rest c e in subst (Means line s) r.1 (w, r.0)
means_found line s NewGameWord c place w e =
    let same : NewGame (span_of (before_spaces line) s.rest s.rest) ≡ c = cc in
    subst (Means line s) same (w, whole_part line s place)
means_found line s PlayWord c place w e = let r = play_found (before_spaces line) s.rest c e in subst (Means line s) r.1 (w, r.0, whole_part line s place)
means_found line s PassWord c place w e = let r = alone_found Pass s.rest c e in subst (Means line s) r.1 (w, r.0)
means_found line s ValidMovesWord c place w e = let r = alone_found ValidMoves s.rest c e in subst (Means line s) r.1 (w, r.0)
means_found line s BestMoveWord c place w e =
    elim (limit_found s.rest c s.rest_is e) [ inl r ↦ subst (Means line s) r.same (w, r.is) | inr r ↦ subst (Means line s) r.same (w, r.is) ]
means_found line s UndoWord c place w e = let r = undo_found s.rest c e in subst (Means line s) r.same (w, r.is)
means_found line s OptionsWord c place w e =
    elim (options_found line (before_spaces line) (rest_at s) s.rest c (rest_here line s place) e) [
      | inl r ↦ subst (Means line s) r.1 (w, r.0)
      | inr r ↦ elim r [ inl g ↦ subst (Means line s) g.same (w, g.is) | inr g ↦ subst (Means line s) g.same (w, g.is) ]
    ]
means_found line s ExitWord c place w e = let r = alone_found Exit s.rest c e in subst (Means line s) r.1 (w, r.0)

record IsRead (line : List ℕ) (s : Split line) (c : Command) : Type 0 where
  pub verb : Verb
  pub word : s.word ≡ verb_text verb
  pub arguments : length (before_spaces line) ≡ rest_at s + length s.rest → arguments_of (before_spaces line) verb s.rest ≡ Some c

-- what is meant is read
means_again : (line : List ℕ) (s : Split line) (c : Command) → Means line s c → IsRead line s c
means_again line s Info m = record { verb = InfoWord; word = m.0; arguments = λ place. ap (alone Info) m.1 }
means_again line s (NewGame text) m = record { verb = NewGameWord; word = m.0; arguments = λ place. ap (λ n. Some (NewGame n)) (same_whole line s text place m.1) }
means_again line s (Play text) m = record { verb = PlayWord; word = m.0; arguments = λ place. play_again (before_spaces line) s.rest m.1 ∙ ap (λ n. Some (Play n)) (same_whole line s text place m.2) }
means_again line s Pass m = record { verb = PassWord; word = m.0; arguments = λ place. ap (alone Pass) m.1 }
means_again line s ValidMoves m = record { verb = ValidMovesWord; word = m.0; arguments = λ place. ap (alone ValidMoves) m.1 }
means_again line s (BestDepth depth) m = record { verb = BestMoveWord; word = m.0; arguments = λ place. depth_again s.rest depth s.rest_is m.1 }
means_again line s (BestTime budget) m = record { verb = BestMoveWord; word = m.0; arguments = λ place. budget_again s.rest budget s.rest_is m.1 }
means_again line s (Undo plies) m = record { verb = UndoWord; word = m.0; arguments = λ place. undo_again s.rest plies m.1 }
means_again line s Options m = record { verb = OptionsWord; word = m.0; arguments = λ place. ap (options_of (before_spaces line)) m.1 }
means_again line s (OptionGet name) m = record { verb = OptionsWord; word = m.0; arguments = λ place. get_again line (before_spaces line) (rest_at s) s.rest name (rest_here line s place) m.1 }
means_again line s (OptionSet name value) m = record { verb = OptionsWord; word = m.0; arguments = λ place. set_again line (before_spaces line) (rest_at s) s.rest name value (rest_here line s place) m.1 }
means_again line s Exit m = record { verb = ExitWord; word = m.0; arguments = λ place. ap (alone Exit) m.1 }

-- the command of a line by its split
by_split : (line : List ℕ) (s : Split line) → command_of line ≡ by_verb (before_spaces line) (verb_at s.word) s.rest
unfolding command_of
by_split line s = let r = reads line s in λ i. by_verb (before_spaces line) (verb_at (r.word_is i)) (r.rest_is i)

placed : (line : List ℕ) (s : Split line) (v : Verb) → s.word ≡ verb_text v → length (before_spaces line) ≡ rest_at s + length s.rest
placed line s v w = (reads line s).place (λ e. verb_not_empty v (sym w ∙ e))

by_word : (line : List ℕ) (s : Split line) (v : Verb) → s.word ≡ verb_text v → command_of line ≡ or_wrong (arguments_of (before_spaces line) v s.rest)
by_word line s v w = by_split line s ∙ ap (λ o. by_verb (before_spaces line) o s.rest) (ap verb_at w ∙ verb_again v)

pub command_again : (line : List ℕ) (c : Command) → IsCommand line c → command_of line ≡ Ok c
command_again line c h =
    let m = means_again line h.split c h.means in
    by_word line h.split m.verb m.word ∙ ap or_wrong (m.arguments (placed line h.split m.verb m.word))

pub command_found : (line : List ℕ) (c : Command) → command_of line ≡ Ok c → IsCommand line c
command_found line c e = let s = split_of line in go s (verb_at s.word) refl (sym (by_split line s) ∙ e)
  where
    args : (s : Split line) (v : Verb) → s.word ≡ verb_text v → (o : Option Command) → arguments_of (before_spaces line) v s.rest ≡ o → or_wrong o ≡ Ok c → IsCommand line c
    args s v w None f k = absurd (cc)
    args s v w (Some d) f k = let same : d ≡ c = cc in
        subst (IsCommand line) same (record { split = s; means = means_found line s v d (placed line s v w) w f })

    go : (s : Split line) (o : Option Verb) → verb_at s.word ≡ o → by_verb (before_spaces line) o s.rest ≡ Ok c → IsCommand line c
    go s None f k = absurd (cc)
    go s (Some v) f k = args s v (verb_found s.word v f) (arguments_of (before_spaces line) v s.rest) refl k

no_verb : (word : List ℕ) → verb_at word ≡ None → (v : Verb) → word ≢ verb_text v
no_verb word e v w = let f = ap verb_at w ∙ verb_again v in let wrong : ◌≡◌ {A = Option Verb} None (Some v) = sym e ∙ f in cc

pub fault_found : (line : List ℕ) (fault : CommandFault) → command_of line ≡ Err fault → IsFault line fault
fault_found line fault e = let s = split_of line in go s (verb_at s.word) refl (sym (by_split line s) ∙ e)
  where
    wrong : (s : Split line) (v : Verb) → s.word ≡ verb_text v → (o : Option Command) → or_wrong o ≡ Err fault → IsFault line fault
    wrong s v w (Some d) k = absurd (cc)
    wrong s v w None k = let same : Arguments ≡ fault = cc in
        let here : command_of line ≡ Err Arguments = e ∙ ap (λ f. Err f) (sym same) in
        let is : IsFault line Arguments = record {
          split = s;
          verb = v;
          word = w;
          no_command = λ c h. let found = command_again line c h in
              let both : ◌≡◌ {A = Result Command CommandFault} (Ok c) (Err Arguments) = sym found ∙ here in cc;
        } in
        subst (IsFault line) same is

    go : (s : Split line) (o : Option Verb) → verb_at s.word ≡ o → by_verb (before_spaces line) o s.rest ≡ Err fault → IsFault line fault
    go s None f k = let same : Unknown ≡ fault = cc in
        let is : IsFault line Unknown = record { split = s; no_verb = no_verb s.word f } in
        subst (IsFault line) same is
    go s (Some v) f k = wrong s v (verb_found s.word v f) (arguments_of (before_spaces line) v s.rest) k

pub fault_again : (line : List ℕ) (fault : CommandFault) → IsFault line fault → command_of line ≡ Err fault
fault_again line Unknown h = by_split line h.split ∙ ap (λ o. by_verb (before_spaces line) o h.split.rest) (none (verb_at h.split.word) refl)
  where
    none : (o : Option Verb) → verb_at h.split.word ≡ o → verb_at h.split.word ≡ None
    none None e = e
    none (Some v) e = absurd (h.no_verb v (verb_found h.split.word v e))
fault_again line Arguments h = by_word line h.split h.verb h.word ∙ go (arguments_of (before_spaces line) h.verb h.split.rest) refl
  where
    go : (o : Option Command) → arguments_of (before_spaces line) h.verb h.split.rest ≡ o → or_wrong o ≡ Err Arguments
    go None e = refl
    go (Some c) e = absurd (h.no_command c (command_found line c (by_word line h.split h.verb h.word ∙ ap or_wrong e)))

pub within : (line : List ℕ) (c : Command) → IsCommand line c → AreWithin line c
within line Info h = tt
within line (NewGame text) h = h.means.1.within
within line (Play text) h = h.means.2.within
within line Pass h = tt
within line ValidMoves h = tt
within line (BestDepth depth) h = tt
within line (BestTime budget) h = tt
within line (Undo plies) h = tt
within line Options h = tt
within line (OptionGet name) h = h.means.1.name_is.within
within line (OptionSet name value) h = (h.means.1.name_is.within, h.means.1.value_is.within)
within line Exit h = tt

-- The clauses of a reader that returns what the function computes

pub reads_command : (line : List ℕ) (r : Result Command CommandFault) → r ≡ command_of line → IfOk r (λ c. IsCommand line c)
reads_command line (Ok c) e = command_found line c (sym e)
reads_command line (Err fault) e = tt

pub refuses : (line : List ℕ) (r : Result Command CommandFault) → r ≡ command_of line → IfErr r (λ fault. IsFault line fault)
refuses line (Ok c) e = tt
refuses line (Err fault) e = fault_found line fault (sym e)

pub lies_within : (line : List ℕ) (r : Result Command CommandFault) → r ≡ command_of line → IfOk r (λ c. AreWithin line c)
lies_within line (Ok c) e = within line c (command_found line c (sym e))
lies_within line (Err fault) e = tt
