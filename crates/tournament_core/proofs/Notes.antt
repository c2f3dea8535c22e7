-- One more game in a tally.
use Rattle.std.proofs.Common.{◌≡◌, ◌≢◌, ℕ, ◌+◌, Bool, true, false, cond, List, [], ◌∷◌, ◌++◌, refl, sym, ap, subst, arith, ◌∙◌, Some, None}
use Rattle.std.specs.Prelude.{nat_eq, ◌&&◌, ◌||◌}
use Rattle.std.specs.List.{All}
use Rattle.std.proofs.lemmas.Bool.Decides.{nat_tests}
use Rattle.std.proofs.lemmas.List.{length-append}
use Rattle.std.proofs.lemmas.List.Elements.{All-push}
use Rattle.std.proofs.lemmas.List.Sums.{sum_by_push}
use Rattle.hive_model.specs.declared.pieces.Colour.{Colour}
use Rattle.hive_model.specs.Pieces.{other_side}
use Rattle.tournament_core.specs.declared.fixtures.Fixture.{Fixture}
use Rattle.tournament_core.specs.Schedules.{IsEngine, IsFixture}
use Rattle.tournament_core.specs.Ends.{PlayedFixture, player}
use Rattle.tournament_core.specs.Counts.{Cells, Counts, Counting, count_at, one_at, has_beaten, have_drawn, has_forfeited, IsTallyOf}
use Rattle.tournament_core.proofs.Results.{one-of-two}

-- a game adds to counts what it must count for
counting-more : (n : ℕ) (games : List PlayedFixture) (g : PlayedFixture) (old new : Cells) (test : ℕ → ℕ → PlayedFixture → Bool) → Counting n games old test →
    ((i j : ℕ) → IsEngine n i → IsEngine n j → count_at new i j ≡ count_at old i j + cond (test i j g) 1 0) → Counting n (games ++ g ∷ []) new test
counting-more n games g old new test was more i j row column =
    more i j row column
    ∙ ap (λ k. k + cond (test i j g) 1 0) (was i j row column)
    ∙ sym (sum_by_push (λ x. cond (test i j x) 1 0) games g)

-- what a game adds to each of the counts
pub record Adds (n : ℕ) (g : PlayedFixture) (old new : Counts) : Type 0 where
  engines : new.engines ≡ old.engines
  games : new.games ≡ old.games + 1
  wins : (i j : ℕ) → IsEngine n i → IsEngine n j → count_at new.wins i j ≡ count_at old.wins i j + cond (has_beaten i j g) 1 0
  draws : (i j : ℕ) → IsEngine n i → IsEngine n j → count_at new.draws i j ≡ count_at old.draws i j + cond (have_drawn i j g) 1 0
  forfeits : (i j : ℕ) → IsEngine n i → IsEngine n j → count_at new.forfeits i j ≡ count_at old.forfeits i j + cond (has_forfeited i j g) 1 0

tally-more : (games : List PlayedFixture) (g : PlayedFixture) (old new : Counts) → IsFixture old.engines g.fixture → Adds old.engines g old new → IsTallyOf games old → IsTallyOf (games ++ g ∷ []) new
tally-more games g old new fixture adds was =
    let engines = sym adds.engines in
    record {
      many = adds.games ∙ ap (λ k. k + 1) was.many ∙ sym (length-append games (g ∷ []));
      fixtures = subst (λ n. All (λ x. IsFixture n x.fixture) (games ++ g ∷ [])) engines (All-push (λ x. IsFixture old.engines x.fixture) games g was.fixtures fixture);
      wins = subst (λ n. Counting n (games ++ g ∷ []) new.wins has_beaten) engines (counting-more old.engines games g old.wins new.wins has_beaten was.wins adds.wins);
      draws = subst (λ n. Counting n (games ++ g ∷ []) new.draws have_drawn) engines (counting-more old.engines games g old.draws new.draws have_drawn was.draws adds.draws);
      forfeits = subst (λ n. Counting n (games ++ g ∷ []) new.forfeits has_forfeited) engines (counting-more old.engines games g old.forfeits new.forfeits has_forfeited was.forfeits adds.forfeits);
    }

none-more : (i j : ℕ) (old new : Cells) → new ≡ old → count_at new i j ≡ count_at old i j + 0
none-more i j old new same = ap (λ grid. count_at grid i j) same ∙ omega arith

and-none : (f : Bool) → ((f && false) && false) ≡ false
and-none true = refl
and-none false = refl

both-drawn : (w b i j : ℕ) → w ≢ b → one_at w b i j + one_at b w i j ≡ cond (nat_eq w i && nat_eq b j || nat_eq b i && nat_eq w j) 1 0
both-drawn w b i j other = sym (one-of-two (nat_eq w i && nat_eq b j) (nat_eq b i && nat_eq w j) (λ first second. other (grind (arith, nat_tests))))

pub noted-draw : (games : List PlayedFixture) (old new : Counts) (fixture : Fixture) (f : Bool) → IsFixture old.engines fixture →
    new.engines ≡ old.engines → new.games ≡ old.games + 1 → new.wins ≡ old.wins → new.forfeits ≡ old.forfeits →
    ((i j : ℕ) → IsEngine old.engines i → IsEngine old.engines j → count_at new.draws i j ≡ count_at old.draws i j + one_at fixture.white fixture.black i j + one_at fixture.black fixture.white i j) →
    IsTallyOf games old → IsTallyOf (games ++ record { fixture = fixture; ended = record { winner = None; forfeited = f } } ∷ []) new
noted-draw games old new fixture f is engines many wins forfeits draws was =
    tally-more games (record { fixture = fixture; ended = record { winner = None; forfeited = f } }) old new is
    (record {
      engines = engines;
      games = many;
      wins = λ i j row column. none-more i j old.wins new.wins wins;
      draws = λ i j row column. draws i j row column ∙ omega (arith, both-drawn fixture.white fixture.black i j is.other);
      forfeits = λ i j row column. none-more i j old.forfeits new.forfeits forfeits ∙ ap (λ t. count_at old.forfeits i j + cond t 1 0) (sym (and-none f));
    }) was

forfeit-more : (f : Bool) (loser winner i j : ℕ) → cond f (one_at loser winner i j) 0 ≡ cond ((f && nat_eq loser i) && nat_eq winner j) 1 0
forfeit-more true loser winner i j = refl
forfeit-more false loser winner i j = refl

pub noted-win : (games : List PlayedFixture) (old new : Counts) (fixture : Fixture) (f : Bool) (side : Colour) → IsFixture old.engines fixture →
    new.engines ≡ old.engines → new.games ≡ old.games + 1 → new.draws ≡ old.draws →
    ((i j : ℕ) → IsEngine old.engines i → IsEngine old.engines j → count_at new.wins i j ≡ count_at old.wins i j + one_at (player fixture side) (player fixture (other_side side)) i j) →
    ((i j : ℕ) → IsEngine old.engines i → IsEngine old.engines j → count_at new.forfeits i j ≡ count_at old.forfeits i j + cond f (one_at (player fixture (other_side side)) (player fixture side) i j) 0) →
    IsTallyOf games old → IsTallyOf (games ++ record { fixture = fixture; ended = record { winner = Some side; forfeited = f } } ∷ []) new
noted-win games old new fixture f side is engines many draws wins forfeits was =
    tally-more games (record { fixture = fixture; ended = record { winner = Some side; forfeited = f } }) old new is
    (record {
      engines = engines;
      games = many;
      wins = wins;
      draws = λ i j row column. none-more i j old.draws new.draws draws;
      forfeits = λ i j row column. forfeits i j row column ∙ ap (λ k. count_at old.forfeits i j + k) (forfeit-more f (player fixture (other_side side)) (player fixture side) i j);
    }) was
