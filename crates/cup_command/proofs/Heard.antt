-- What is known of the games of a cup, and of what their programs got.
use Rattle.std.proofs.Common.{◌≡◌, ◌⊎◌, inl, inr, ℕ, ◌+◌, ◌^◌, ◌-◌, ◌<◌, ◌≤◌, true, false, Bool, List, [], ◌∷◌, ◌++◌, Option, Some, None, refl, ap, sym, ◌∙◌, arith, subst, append_assoc}
use Rattle.std.specs.Bool.{⊤}
use Rattle.std.specs.Prelude.{if◌then◌else◌, ◌||◌}
use Rattle.std.specs.List.{AllZip}
use Rattle.std.proofs.lemmas.Bool.Decides.{nat_tests}
use Rattle.std.proofs.lemmas.List.{append-nil}
use Rattle.std.proofs.lemmas.List.Sums.{sum_by-cons}
use Rattle.std.proofs.lemmas.Option.{same_Some}
use Rattle.hive_model.specs.declared.pieces.Colour.TheVariants.{White, Black}
use Rattle.io_edge.specs.Outside.{Told, ToldLists, Rose, behind}
use Rattle.io_edge.specs.Starts.{Engines}
use Rattle.match_core.specs.declared.setup.Setup.{Setup}
use Rattle.match_core.specs.Setups.{setup_plain}
use Rattle.match_core.specs.declared.verdict.Verdict.{Verdict}
use Rattle.match_core.specs.MatchState.{MatchState}
use Rattle.match_core.specs.Feeds.{IsFront}
use Rattle.match_runner.specs.Runs.{IsFrontSent, IsLate, IsVerdict}
use Rattle.match_command.specs.Match.{IsBroke, sent_in}
use Rattle.match_command.proofs.Closing.{from_none}
use Rattle.match_runner.specs.Wires.{HasFailed, Wire}
use Rattle.cup.specs.Played.{IsRefereed, Job}
use Rattle.cup_command.specs.Cup.{Gains, Heard, IsGame, PlayedBy, RoseBy, exceptions, got, said}
use Rattle.cup_command.specs.Links.{ClosesLinks, IsReady, StartsAll, all_links, counted, failures, has_failed}
use Rattle.cup_command.proofs.Chains.{rises}

-- One game

abbrev pub bytes_of : Told → List ℕ
bytes_of None = []
bytes_of (Some bytes) = bytes

abbrev pub heard : Job → Job → Heard
heard old new = record {
  white_says = bytes_of old.white_link.rest;
  black_says = bytes_of old.black_link.rest;
  white_got = bytes_of new.white_link.written;
  black_got = bytes_of new.black_link.written;
  excepted = has_failed new.white_link || has_failed new.black_link;
}

-- what the program of a link will say is known, and nothing was written to it
record IsTold (link : Wire) : Type 0 where
  pub rest : link.rest ≡ Some (bytes_of link.rest)
  pub written : link.written ≡ Some []

record AreTold (job : Job) : Type 0 where
  pub white : IsTold job.white_link
  pub black : IsTold job.black_link

-- what was written after nothing
got-front : (old new : Told) (all : List ℕ) → old ≡ Some [] → IsFrontSent old new all → IsFront (bytes_of new) all
got-front old new all e (bytes, f, front) = subst (λ b. IsFront b all) (sym (ap bytes_of (from_none old new bytes e f))) front

got-told : (old new : Told) (all : List ℕ) → old ≡ Some [] → IsFrontSent old new all → new ≡ Some (bytes_of new)
got-told old new all e (bytes, f, front) = let g = from_none old new bytes e f in g ∙ ap (λ b. Some b) (sym (ap bytes_of g))

got-all : (old new : Told) (all : List ℕ) → old ≡ Some [] → new ≡ behind old all → bytes_of new ≡ all
got-all old new all e f = ap bytes_of (from_none old new all e f)

-- a count that rose is not zero
some : {before now : ℕ} → Rose before now → 0 < now
some rose = go rose.higher
  where
    go : {before now : ℕ} → (before < now) ⊎ (now ≡ 2 ^ 64 - 1) → 0 < now
    go (inl x) = omega (arith, x)
    go (inr x) = omega (arith, x)

-- a link with no failed call
pub sound : (old new : Wire) → has_failed new ≡ false → HasFailed old new → ⊥
sound old new none (inl x) = let no : new.reads + new.writes ≤ 0 = grind (arith, nat_tests) in let more = some x in omega (arith, more, no)
sound old new none (inr x) = let no : new.reads + new.writes ≤ 0 = grind (arith, nat_tests) in let more = some x in omega (arith, more, no)

neither : (a b : Bool) → a || b ≡ false → (a ≡ false) × (b ≡ false)
neither true b e = cc
neither false true e = cc
neither false false e = (refl, refl)

verdict-of : (full v : Option Verdict) (w0 w b0 b : Wire) → (IsLate v → ⊥) → IsVerdict full v w0 w b0 b → (v ≡ full) ⊎ IsBroke v
verdict-of full v w0 w b0 b in_time (inl x) = inl x
verdict-of full v w0 w b0 b in_time (inr (inl x)) = absurd (in_time x)
verdict-of full v w0 w b0 b in_time (inr (inr (inl x))) = inr (White, x.0)
verdict-of full v w0 w b0 b in_time (inr (inr (inr x))) = inr (Black, x.0)

game-played : (setup : Setup) (old new : Job) (t : MatchState) → AreTold old → IsRefereed setup t old.white_link new.white_link old.black_link new.black_link → IsGame setup t (heard old new)
game-played setup old new t told r =
    let white = bytes_of old.white_link.rest in
    let black = bytes_of old.black_link.rest in
    let f = r.links.front white black told.white.rest told.black.rest in
    record {
      moves = f.moves;
      verdict = verdict-of _ t.verdict old.white_link new.white_link old.black_link new.black_link r.in_time (r.links.verdict white black told.white.rest told.black.rest);
      sent = record {
        white_got = got-front old.white_link.written new.white_link.written (sent_in (setup_plain setup) white black White) told.white.written f.to_white;
        black_got = got-front old.black_link.written new.black_link.written (sent_in (setup_plain setup) white black Black) told.black.written f.to_black;
      };
      whole = λ e.
          let none = neither (has_failed new.white_link) (has_failed new.black_link) e in
          let m = r.links.told white black told.white.rest told.black.rest (sound old.white_link new.white_link none.0) (sound old.black_link new.black_link none.1) r.in_time in
          record {
            moves = m.moves;
            verdict = m.verdict;
            sent = record {
              white_got = got-all old.white_link.written new.white_link.written (sent_in (setup_plain setup) white black White) told.white.written m.to_white;
              black_got = got-all old.black_link.written new.black_link.written (sent_in (setup_plain setup) white black Black) told.black.written m.to_black;
            };
          };
    }

-- All games

abbrev pub all_heard : List Job → List Job → List Heard
all_heard [] news = []
all_heard (old ∷ olds) [] = []
all_heard (old ∷ olds) (new ∷ news) = heard old new ∷ all_heard olds news

-- all were played over their links, with this setup, and have these states at their ends
abbrev pub Ran : Setup → List Job → List Job → List MatchState → Type 0
Ran setup [] [] [] = ⊤
Ran setup [] [] (t ∷ ends) = ⊥
Ran setup [] (new ∷ news) ends = ⊥
Ran setup (old ∷ olds) [] ends = ⊥
Ran setup (old ∷ olds) (new ∷ news) [] = ⊥
Ran setup (old ∷ olds) (new ∷ news) (t ∷ ends) =
    IsReady setup old
    × IsRefereed setup t old.white_link new.white_link old.black_link new.black_link
    × (new.referee ≡ Some t)
    × Ran setup olds news ends

abbrev AllTold : List Job → Type 0
AllTold [] = ⊤
AllTold (old ∷ olds) = AreTold old × AllTold olds

-- the texts to come are those that the games' programs say, and others
record Opened (all : List (List ℕ)) (now : ToldLists) (olds news : List Job) : Type 0 where
  pub others : List (List ℕ)
  pub first_ones : all ≡ said (all_heard olds news) ++ others
  pub left : now ≡ Some others
  pub told : AllTold olds

is-told : (link : Wire) (bytes : List ℕ) → link.rest ≡ Some bytes → link.written ≡ Some [] → IsTold link
is-told link bytes e f = record { rest = e ∙ ap (λ b. Some b) (sym (ap bytes_of e)); written = f }

opened : (setup : Setup) (olds news : List Job) (ends : List MatchState) (all : List (List ℕ)) (now : ToldLists) → Ran setup olds news ends → StartsAll (Some all) now (all_links olds) → Opened all now olds news
opened setup [] [] ends all now ran e = record { others = all; first_ones = refl; left = e; told = tt }
opened setup [] (new ∷ news) ends all now ran e = absurd ran
opened setup (old ∷ olds) [] ends all now ran e = absurd ran
opened setup (old ∷ olds) (new ∷ news) [] all now ran e = absurd ran
opened setup (old ∷ olds) (new ∷ news) (t ∷ ends) all now ran (None, s, r) = absurd s
opened setup (old ∷ olds) (new ∷ news) (t ∷ ends) all now ran (Some mid, s, (None, u, r)) = absurd u
opened setup (old ∷ olds) (new ∷ news) (t ∷ ends) all now ran (Some mid, (white, we, wr, ww), (Some low, (black, be, br, bw), r)) =
    let more = opened setup olds news ends low now ran.3 r in
    let w : white ≡ bytes_of old.white_link.rest = sym (ap bytes_of wr) in
    let b : black ≡ bytes_of old.black_link.rest = sym (ap bytes_of br) in
    record {
      others = more.others;
      first_ones = we ∙ ap (λ m. white ∷ m) (be ∙ ap (λ m. black ∷ m) more.first_ones) ∙ ap (λ x. x ∷ (black ∷ (said (all_heard olds news) ++ more.others))) w ∙ ap (λ y. bytes_of old.white_link.rest ∷ (y ∷ (said (all_heard olds news) ++ more.others))) b;
      left = more.left;
      told = (record { white = is-told old.white_link white wr ww; black = is-told old.black_link black br bw }, more.told);
    }

each-game : (setup : Setup) (olds news : List Job) (ends : List MatchState) → Ran setup olds news ends → AllTold olds → AllZip (IsGame setup) ends (all_heard olds news)
each-game setup [] [] [] ran told = tt
each-game setup [] [] (t ∷ ends) ran told = absurd ran
each-game setup [] (new ∷ news) ends ran told = absurd ran
each-game setup (old ∷ olds) [] ends ran told = absurd ran
each-game setup (old ∷ olds) (new ∷ news) [] ran told = absurd ran
each-game setup (old ∷ olds) (new ∷ news) (t ∷ ends) ran told = (game-played setup old new t told.0 ran.1, each-game setup olds news ends ran.3 told.1)

-- What was got

-- each link has written exactly this
abbrev pub AllWrote : List Wire → List (List ℕ) → Type 0
AllWrote links wrote = AllZip (λ l w. l.written ≡ Some w) links wrote

pub gains-all : (links : List Wire) (wrote : List (List ℕ)) (before now : ToldLists) → AllWrote links wrote → ClosesLinks before now links → Gains before now wrote
gains-all [] [] before None all e = tt
gains-all [] [] None (Some after) all e = cc
gains-all [] [] (Some lists) (Some after) all e = let same : after ≡ lists = cc in same ∙ sym (append-nil lists)
gains-all [] (w ∷ ws) before now all e = absurd all
gains-all (l ∷ ls) [] before now all e = absurd all
gains-all (l ∷ ls) (w ∷ ws) before None all e = tt
gains-all (l ∷ ls) (w ∷ ws) None (Some after) all (None, c, r) = gains-all ls ws None (Some after) all.1 r
gains-all (l ∷ ls) (w ∷ ws) None (Some after) all (Some mid, c, r) = c
gains-all (l ∷ ls) (w ∷ ws) (Some lists) (Some after) all (None, c, r) = absurd (gains-all ls ws None (Some after) all.1 r)
gains-all (l ∷ ls) (w ∷ ws) (Some lists) (Some after) all (Some mid, (p, pe, pm), r) =
    let same : p ≡ w = same_Some _ _ (sym pe ∙ all.0) in
    gains-all ls ws (Some mid) (Some after) all.1 r ∙ (ap (λ m. m ++ ws) (pm ∙ ap (λ q. lists ++ q ∷ []) same) ∙ append_assoc lists (w ∷ []) ws)

all-wrote : (setup : Setup) (olds news : List Job) (ends : List MatchState) → Ran setup olds news ends → AllTold olds → AllWrote (all_links news) (got (all_heard olds news))
all-wrote setup [] [] [] ran told = tt
all-wrote setup [] [] (t ∷ ends) ran told = absurd ran
all-wrote setup [] (new ∷ news) ends ran told = absurd ran
all-wrote setup (old ∷ olds) [] ends ran told = absurd ran
all-wrote setup (old ∷ olds) (new ∷ news) [] ran told = absurd ran
all-wrote setup (old ∷ olds) (new ∷ news) (t ∷ ends) ran told =
    let white = bytes_of old.white_link.rest in
    let black = bytes_of old.black_link.rest in
    let f = ran.1.links.front white black told.0.white.rest told.0.black.rest in (
      got-told old.white_link.written new.white_link.written (sent_in (setup_plain setup) white black White) told.0.white.written f.to_white,
      (got-told old.black_link.written new.black_link.written (sent_in (setup_plain setup) white black Black) told.0.black.written f.to_black, all-wrote setup olds news ends ran.3 told.1),
    )

-- What was counted

one-of-two : (a b : Bool) (n m : ℕ) → n ≤ m → (if a || b then 1 else 0) + n ≤ (if a then 1 else 0) + ((if b then 1 else 0) + m)
one-of-two true true n m low = omega (arith, low)
one-of-two true false n m low = omega (arith, low)
one-of-two false true n m low = omega (arith, low)
one-of-two false false n m low = omega (arith, low)

nothing : (n : ℕ) → 0 ≤ n
nothing n = omega arith

few-exceptions : (olds news : List Job) → exceptions (all_heard olds news) ≤ failures (all_links news)
few-exceptions [] news = nothing (failures (all_links news))
few-exceptions (old ∷ olds) [] = nothing 0
few-exceptions (old ∷ olds) (new ∷ news) =
    let failing : Wire → ℕ = λ link. if has_failed link then 1 else 0 in
    let e = sum_by-cons (λ (g : Heard). if g.excepted then 1 else 0) (heard old new) (all_heard olds news) in
    let f = sum_by-cons failing new.white_link (new.black_link ∷ all_links news) in
    let g = sum_by-cons failing new.black_link (all_links news) in
    let h = one-of-two (has_failed new.white_link) (has_failed new.black_link) (exceptions (all_heard olds news)) (failures (all_links news)) (few-exceptions olds news) in
    omega (arith, e, f, g, h)

fewer : (a b n m : ℕ) → a ≤ b → RoseBy b n m → RoseBy a n m
fewer a b n m low (inl h) = inl (omega (arith, low, h))
fewer a b n m low (inr h) = inr h

-- The whole cup

pub played-by : (setup : Setup) (olds news : List Job) (ends : List MatchState) (all : List (List ℕ)) (before after : Engines) → Ran setup olds news ends → StartsAll (Some all) after.to_come (all_links olds) → ClosesLinks before.sent after.sent (all_links news)
    → after.engine_faults ≡ counted (all_links news) before.engine_faults → PlayedBy all setup ends before after
played-by setup olds news ends all before after ran starts closes counts =
    let o = opened setup olds news ends all after.to_come ran starts in
    record {
      games = all_heard olds news;
      others = o.others;
      first_ones = o.first_ones;
      left = o.left;
      each = each-game setup olds news ends ran o.told;
      gains = gains-all (all_links news) (got (all_heard olds news)) before.sent after.sent (all-wrote setup olds news ends ran o.told) closes;
      few = fewer (exceptions (all_heard olds news)) (failures (all_links news)) before.engine_faults after.engine_faults (few-exceptions olds news) (subst (λ n. RoseBy (failures (all_links news)) before.engine_faults n) (sym counts) (rises (all_links news) before.engine_faults));
    }
