-- What was started if one program did not start, and what the closed links got.
use Rattle.std.proofs.Common.{◌≡◌, ℕ, suc, ◌+◌, ◌<◌, ◌≤◌, List, [], ◌∷◌, ◌++◌, length, take, drop, replicate, Some, None, refl, ap, sym, ◌∙◌, arith, subst, append_assoc, length-append}
use Rattle.std.specs.List.{flat_map}
use Rattle.std.proofs.Math.Seq.{take-append-add}
use Rattle.std.proofs.lemmas.List.{append-nil, take-append-le}
use Rattle.io_edge.specs.Outside.{ToldLists, ToldPrograms, Starts}
use Rattle.io_edge.specs.Starts.{Engines}
use Rattle.cup.specs.declared.pairing.Pairing.{Pairing}
use Rattle.match_runner.specs.Wires.{Wire}
use Rattle.cup.specs.Engines.{Engine}
use Rattle.cup_command.specs.Cup.{BreaksOff, StartsFirst, cup_words, game_words, started_after}
use Rattle.cup_command.specs.Links.{ClosesLinks, GivesUp, StartsAll}
use Rattle.match_command.specs.Match.{NoneIsOpen}
use Rattle.cup_command.proofs.Chains.{none-open, starts-append}
use Rattle.cup_command.proofs.Heard.{AllWrote, gains-all}

-- Words

pub started-more : (told : ToldPrograms) (xs ys : List (List (List ℕ))) → started_after (started_after told xs) ys ≡ started_after told (xs ++ ys)
started-more None xs ys = refl
started-more (Some before) xs ys = ap (λ zs. Some zs) (append_assoc before xs ys)

pub started-none : (told : ToldPrograms) → told ≡ started_after told []
started-none None = refl
started-none (Some before) = ap (λ zs. Some zs) (sym (append-nil before))

pub two-words : (engines : List Engine) (games : List Pairing) → length (flat_map (game_words engines) games) ≡ length games + length games
two-words engines [] = refl
two-words engines (g ∷ games) = let more = two-words engines games in omega (arith, more)

-- Giving up

-- none was started
pub gives-none : (failed : Type 0) (words : List (List (List ℕ))) (there : List Wire) (before after : Engines)
    → 0 < length words → after.to_come ≡ before.to_come → ClosesLinks before.sent after.sent there → after.started ≡ before.started → GivesUp failed words there before after
gives-none failed words there before after some same closes named = record {
  late = [];
  few = omega arith;
  short = λ f. some;
  starts = same;
  closes = subst (λ links. ClosesLinks before.sent after.sent links) (sym (append-nil there)) closes;
  named = named ∙ started-none before.started;
}

-- one was started, and no start failed
pub gives-one : (failed : Type 0) (words : List (List ℕ)) (there : List Wire) (first link : Wire) (before after : Engines)
    → (failed → ⊥) → Starts before.to_come after.to_come link.rest link.written → ClosesLinks before.sent after.sent (there ++ (first ∷ (link ∷ []))) → after.started ≡ started_after before.started (words ∷ []) → GivesUp failed (words ∷ []) (there ++ first ∷ []) before after
gives-one failed words there first link before after none starts closes named = record {
  late = link ∷ [];
  few = omega arith;
  short = λ f. absurd (none f);
  starts = (after.to_come, starts, refl);
  closes = subst (λ links. ClosesLinks before.sent after.sent links) (sym (append_assoc there (first ∷ []) (link ∷ []))) closes;
  named = named;
}

-- the same of equal words
pub gives-same : {failed : Type 0} {one other : List (List ℕ)} {there : List Wire} {before after : Engines} → one ≡ other → GivesUp failed (one ∷ []) there before after → GivesUp failed (other ∷ []) there before after
gives-same {failed} {one} {other} {there} {before} {after} same gives = subst (λ words. GivesUp failed (words ∷ []) there before after) same gives

-- one more program was started before
pub one-before : (failed : Type 0) (words : List (List (List ℕ))) (first : List (List ℕ)) (there : List Wire) (link : Wire) (before between after : Engines)
    → Starts before.to_come between.to_come link.rest link.written → between.sent ≡ before.sent → between.started ≡ started_after before.started (first ∷ []) → GivesUp failed words (there ++ link ∷ []) between after → GivesUp failed (first ∷ words) there before after
one-before failed words first there link before between after starts sent named g = record {
  late = link ∷ g.late;
  few = omega (arith, g.few);
  short = λ f. let more = g.short f in omega (arith, more);
  starts = (between.to_come, starts, g.starts);
  closes = subst (λ links. ClosesLinks before.sent after.sent links) (append_assoc there (link ∷ []) g.late) (subst (λ told. ClosesLinks told after.sent ((there ++ link ∷ []) ++ g.late)) sent g.closes);
  named = g.named ∙ (ap (λ s. started_after s (take (length g.late) words)) named ∙ started-more before.started (first ∷ []) (take (length g.late) words));
}

-- many programs were started before, and others were still to be started
pub all-before : (failed : Type 0) (xs ys zs : List (List (List ℕ))) (links : List Wire) (before between after : Engines)
    → length links ≡ length xs → StartsAll before.to_come between.to_come links → between.sent ≡ before.sent → between.started ≡ started_after before.started xs → GivesUp failed ys links between after → GivesUp failed (xs ++ (ys ++ zs)) [] before after
all-before failed xs ys zs links before between after many starts sent named g =
    let long : length (links ++ g.late) ≡ length xs + length g.late = length-append links g.late ∙ ap (λ n. n + length g.late) many in
    let whole : length (xs ++ (ys ++ zs)) ≡ length xs + (length ys + length zs) = length-append xs (ys ++ zs) ∙ ap (λ n. length xs + n) (length-append ys zs) in
    let front : take (length (links ++ g.late)) (xs ++ (ys ++ zs)) ≡ xs ++ take (length g.late) ys =
    ap (λ n. take n (xs ++ (ys ++ zs))) long ∙ take-append-add xs (ys ++ zs) (length g.late) ∙ ap (λ ws. xs ++ ws) (take-append-le (length g.late) ys zs g.few) in
    let few = g.few in
    record {
      late = links ++ g.late;
      few = omega (arith, long, whole, few);
      short = λ f. let less = g.short f in omega (arith, long, whole, less);
      starts = starts-append before.to_come between.to_come after.to_come links g.late starts g.starts;
      closes = subst (λ told. ClosesLinks told after.sent (links ++ g.late)) sent g.closes;
      named = g.named ∙ (ap (λ s. started_after s (take (length g.late) ys)) named ∙ (started-more before.started xs (take (length g.late) ys) ∙ ap (λ ws. started_after before.started ws) (sym front)));
    }

-- What is known

pub record Late (all : List (List ℕ)) (now : ToldLists) (late : List Wire) : Type 0 where
  pub few : length late ≤ length all
  pub left : now ≡ Some (drop (length late) all)
  pub wrote : AllWrote late (replicate (length late) [])

pub late-told : (late : List Wire) (all : List (List ℕ)) (now : ToldLists) → StartsAll (Some all) now late → Late all now late
late-told [] all now e = record { few = omega arith; left = e; wrote = tt }
late-told (x ∷ xs) all now (None, s, r) = absurd s
late-told (x ∷ xs) all now (Some mid, (bytes, e, f, g), r) =
    let more = late-told xs mid now r in
    let few = more.few in
    let long = ap length e in
    record {
      few = omega (arith, few, long);
      left = more.left ∙ ap (λ ys. Some (drop (suc (length xs)) ys)) (sym e);
      wrote = (g, more.wrote);
    }

-- the same, if the programs to come were observable before the starts
pub told-late : (late : List Wire) (all : List (List ℕ)) (before now : ToldLists) → StartsAll before now late → before ≡ Some all → Late all now late
told-late late all before now starts e = late-told late all now (subst (λ a. StartsAll a now late) e starts)

-- the programs that were started before it was given up
pub starts-first : (failed : Type 0) (engines : List Engine) (before after : Engines) (g : GivesUp failed (cup_words engines) [] before after) → StartsFirst engines (length g.late) before after
starts-first failed engines before after g = record {
  started = g.named;
  taken = λ all e. let told = told-late g.late all before.to_come after.to_come g.starts e in (told.few, told.left);
}

-- the programs that were started if one did not start
pub breaks : (failed : Type 0) (engines : List Engine) (before after : Engines) → failed → GivesUp failed (cup_words engines) [] before after → BreaksOff engines before after
breaks failed engines before after f g = record {
  count = length g.late;
  few = g.short f;
  first = starts-first failed engines before after g;
  gains = λ all e. gains-all g.late (replicate (length g.late) []) before.sent after.sent (told-late g.late all before.to_come after.to_come g.starts e).wrote g.closes;
}

-- all that were started were closed
pub gives-all : (failed : Type 0) (words : List (List (List ℕ))) (before after : Engines) → GivesUp failed words [] before after → NoneIsOpen before after
gives-all failed words before after g = none-open before after g.late g.late g.starts g.closes refl
