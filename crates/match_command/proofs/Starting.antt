-- The match of two programs that were started, by the programs to come.
use Rattle.std.proofs.Common.{◌≡◌, ◌⊎◌, ℕ, ◌<◌, ◌+◌, List, [], ◌∷◌, length, take, None, Some, refl, ap, sym, ◌∙◌, subst, inl, inr, arith, length-append}
use Rattle.std.proofs.lemmas.Option.{same_Some}
use Rattle.io_edge.specs.Outside.{HasCause, Rose, Told, ToldLists, behind}
use Rattle.io_edge.specs.Starts.{Engines}
use Rattle.command_runs.specs.Answered.{WritesAs}
use Rattle.command_runs.specs.World.{Times, World}
use Rattle.command_runs.specs.declared.status.Status.{Status}
use Rattle.command_runs.specs.declared.status.Status.TheVariants.{Done, SpawnFault}
use Rattle.command_runs.proofs.WrittenLemmas.{ends_so}
use Rattle.match_core.specs.Setups.{FullSetup, setup_of}
use Rattle.match_core.specs.MatchState.{MatchState}
use Rattle.match_runner.specs.Wires.{Wire}
use Rattle.match_runner.specs.Runs.{IsLate}
use Rattle.match_command.specs.Match.{AreFronts, AreSent, AreSentBy, BothStarted, Gains, IsBroke, IsPlayedBy, MatchRun, MatchStarts, NoneIsOpen, PlayedByPrograms, end_of}
use Rattle.match_command.specs.Texts.{match_text}
use Rattle.match_command.specs.Wires.{ClosesTwo, PlayedOver, StartsTwo}

-- what is known of the links of two programs
pub record TwoStarted (all : List (List ℕ)) (now : ToldLists) (w b : Wire) : Type 0 where
  pub white : List ℕ
  pub black : List ℕ
  pub others : List (List ℕ)
  pub first_two : all ≡ white ∷ (black ∷ others)
  pub left : now ≡ Some others
  pub white_says : w.rest ≡ Some white
  pub black_says : b.rest ≡ Some black
  pub white_got : w.written ≡ Some []
  pub black_got : b.written ≡ Some []

two_started : (before now : ToldLists) (w b : Wire) (all : List (List ℕ)) → StartsTwo before now w.rest w.written b.rest b.written → before ≡ Some all → TwoStarted all now w b
two_started None now w b all starts e = absurd (cc)
two_started (Some xs) now w b all (None, p, q) e = absurd p
two_started (Some xs) None w b all (Some ys, p, q) e = absurd q
two_started (Some xs) (Some zs) w b all (Some ys, (white, xe, wr, ww), (black, ye, br, bw)) e = record {
  white = white;
  black = black;
  others = zs;
  first_two = sym (same_Some _ _ e) ∙ (xe ∙ ap (λ ys. white ∷ ys) ye);
  left = refl;
  white_says = wr;
  black_says = br;
  white_got = ww;
  black_got = bw;
}

-- what was played, from before the starts
played_before : (setup : FullSetup) (white black : List ℕ) (t : MatchState) (before between after : Engines) → between.sent ≡ before.sent → between.engine_faults ≡ before.engine_faults
    → IsPlayedBy setup white black t between after → IsPlayedBy setup white black t before after
played_before setup white black t before between after sent faults by = record {
  part = record {
    moves = by.part.moves;
    verdict = subst (λ n. (t.verdict ≡ (end_of setup white black).verdict) ⊎ (IsLate t.verdict ⊎ (IsBroke t.verdict × Rose n after.engine_faults))) faults by.part.verdict;
    gains = subst (λ s. Gains s after.sent (AreFronts setup white black)) sent by.part.gains;
  };
  whole = λ calm in_time.
      let m = by.whole (λ rose. calm (subst (λ n. Rose n after.engine_faults) faults rose)) in_time in record {
        moves = m.moves;
        verdict = m.verdict;
        gains = subst (λ s. Gains s after.sent (AreSent setup white black)) sent m.gains;
      };
  late = λ calm is.
      let m = by.late (λ rose. calm (subst (λ n. Rose n after.engine_faults) faults rose)) is in record {
        hs = m.hs;
        front = m.front;
        replied = m.replied;
        moves = m.moves;
        gains = subst (λ s. Gains s after.sent (AreSentBy setup m.hs)) sent m.gains;
      };
}

-- the match of two programs, from before they were started
played_from : (setup : FullSetup) (t : MatchState) (w b : Wire) (from to : Times) (before between after : Engines) → StartsTwo before.to_come between.to_come w.rest w.written b.rest b.written → after.to_come ≡ between.to_come
    → between.sent ≡ before.sent → between.engine_faults ≡ before.engine_faults → PlayedOver setup t w b from to between after → PlayedByPrograms setup t from to before after
played_from setup t w b from to before between after starts_two stays sent faults p =
    let counted : Rose between.engine_faults after.engine_faults → Rose before.engine_faults after.engine_faults = λ rose. subst (λ n. Rose n after.engine_faults) faults rose in
    record {
      out = record {
        judged = p.out.judged;
        same = p.out.same;
        readings = p.out.readings;
        late = p.out.late;
        lates = p.out.lates;
        history = p.out.history;
        broke = λ broke. counted (p.out.broke broke);
      };
      programs = λ all e.
          let two = two_started before.to_come between.to_come w b all starts_two e in
          let by = p.by_links two.white two.black two.white_says two.black_says two.white_got two.black_got in record {
            white = two.white;
            black = two.black;
            others = two.others;
            first_two = two.first_two;
            left = stays ∙ two.left;
            played = played_before setup two.white two.black t before between after sent faults by;
          };
    }

-- What was written of it

-- what is known of a match that was played
abbrev pub IsTold : FullSetup → List ℕ → Times → Times → Engines → Engines → Type 0
IsTold setup text from to before after = (t : MatchState) × (text ≡ match_text (setup_of setup) t) × PlayedByPrograms setup t from to before after

-- the same, from before the two programs were started
pub told_from : (setup : FullSetup) (text : List ℕ) (w b : Wire) (from to : Times) (before between after : Engines) → ((t : MatchState) × (text ≡ match_text (setup_of setup) t) × PlayedOver setup t w b from to between after) → StartsTwo before.to_come between.to_come w.rest w.written b.rest b.written → after.to_come ≡ between.to_come
    → between.sent ≡ before.sent → between.engine_faults ≡ before.engine_faults → IsTold setup text from to before after
told_from setup text w b from to before between after (t, told, played) starts_two stays sent faults = (t, told, played_from setup t w b from to before between after starts_two stays sent faults played)

-- all of it was written, or an initial part of it and not all
pub told_as : (setup : FullSetup) (text : List ℕ) (status : Status) (before after : World) → IsTold setup text before.times after.times before.engines after.engines → WritesAs text Done status before.sides.written after.sides.written → MatchRun setup status before after
told_as setup text status before after (t, told, played) (inl (e, wrote)) =
    subst (λ s. MatchRun setup s before after) (sym e) (t, record { played = played; wrote = wrote ∙ ap (λ x. behind before.sides.written x) told })
told_as setup text status before after (t, told, played) (inr (e, (n, low, wrote))) =
    subst (λ s. MatchRun setup s before after) (sym e) (t, n, record { played = played; cut = subst (λ x. n < length x) told low; wrote = wrote ∙ ap (λ x. behind before.sides.written (take n x)) told })

-- both programs were started
pub both_as : (text : List ℕ) (status : Status) (w0 w : Told) (white black : List (List ℕ)) (before after : Engines) → WritesAs text Done status w0 w → BothStarted white black before after → MatchStarts status white black before after
both_as text status w0 w white black before after (inl (e, wrote)) both = subst (λ s. MatchStarts s white black before after) (sym e) both
both_as text status w0 w white black before after (inr (e, wrote)) both = subst (λ s. MatchStarts s white black before after) (sym e) both

-- if a text is written, no program failed to start
pub none_failed : (text : List ℕ) (status : Status) (w0 w : Told) (before after : ℕ) → WritesAs text Done status w0 w → after ≡ before → HasCause (status ≡ SpawnFault) before after
none_failed text status w0 w before after told same = record {
  later = omega (arith, same);
  rose = λ e. absurd (ends_so text Done SpawnFault status w0 w told (λ d. cc) (λ d. cc) e);
  same = λ n. same;
}

-- two starts took two of the programs to come
two_taken : (coming later : List (List ℕ)) (ws wg bs bg : Told) → StartsTwo (Some coming) (Some later) ws wg bs bg → length coming ≡ length later + 2
two_taken coming later ws wg bs bg (None, p, q) = absurd p
two_taken coming later ws wg bs bg (Some mid, (white, e, wr, ww), (black, f, br, bw)) = let one = ap length e in let other = ap length f in omega (arith, one, other)

-- two closes add two to what is known
two_closed : (opened closed : List (List ℕ)) (w b : Told) → ClosesTwo (Some opened) (Some closed) w b → length closed ≡ length opened + 2
two_closed opened closed w b (None, p, q) = absurd q
two_closed opened closed w b (Some mid, (white, we, e), (black, be, f)) =
    let one = ap length e ∙ length-append opened (white ∷ []) in
    let other = ap length f ∙ length-append mid (black ∷ []) in
    omega (arith, one, other)

-- two programs were started, and two closed: none is left open
pub none_open : (before between after : Engines) (ws wg bs bg w b : Told) → StartsTwo before.to_come between.to_come ws wg bs bg → after.to_come ≡ between.to_come → between.sent ≡ before.sent → ClosesTwo between.sent after.sent w b → NoneIsOpen before after
none_open before between after ws wg bs bg w b starts stays sent closes coming later opened closed e f g h =
    let one = two_taken coming later ws wg bs bg (subst (λ x. StartsTwo x (Some later) ws wg bs bg) e (subst (λ x. StartsTwo before.to_come x ws wg bs bg) (sym stays ∙ f) starts)) in
    let other = two_closed opened closed w b (subst (λ x. ClosesTwo x (Some closed) w b) (sent ∙ g) (subst (λ x. ClosesTwo between.sent x w b) h closes)) in
    omega (arith, one, other)
