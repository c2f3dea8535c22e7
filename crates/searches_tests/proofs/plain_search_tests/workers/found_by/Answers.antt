use Rattle.std.proofs.Common.{rules, ◌≡◌, ℕ, ◌≤◌, List, [], ◌∷◌, map, length, get_or, false, ap, sym, subst, arith}
use Rattle.std.proofs.lemmas.List.Elements.{All-map}
use Rattle.hive_model.specs.Legal.{is_over}
use Rattle.hive_model.specs.Histories.{History, position}
use Rattle.root_share.specs.Answer.{IsGameOf, root_of}
use Rattle.root_share.proofs.EqualLaws.{equal-games, all-spare}
use Rattle.searches_tests.proofs.plain_search_tests.workers.found_by.Goals as goal

first-root : {A : Type 0} (f : A → History) (xs : List A) (x : A) → 1 ≤ length xs → x ≡ get_or xs 0 x → root_of (map f xs) ≡ position (f x)
first-root f [] x some e = absurd (omega (arith, some))
first-root f (y ∷ ys) x some e = ap (λ w. position (f w)) (sym e)

pub best_shared-requires-clause-workers : goal.best_shared-requires-clause-workers
best_shared-requires-clause-workers g c κs within =
    let t = c.in-Ok.parsed.game_type in
    let ms = c.in-Ok.parsed.moves in
    let ws = c.deref_mut.result.now in
    let images = All-map (IsGameOf t ms c.args.depth) (λ w. w.game.history) ws (rw c.deref_mut.ensures.value c.in_ok-workers.ensures.games) in
    let closed : is_over (position c.index.result.now.game.history) ≡ false = search rules in
    let some : 1 ≤ length ws = search rules in
    let here : c.index.result.now ≡ get_or ws 0 c.index.result.now = rw c.deref_mut.ensures.value c.index.ensures in
    record {
      some = some;
      few = search rules;
      equal = equal-games t ms c.args.depth _ images;
      goes_on = subst (λ p. is_over p ≡ false) (sym (first-root (λ w. w.game.history) ws c.index.result.now some here)) closed;
      spare = all-spare t ms c.args.depth _ images;
      prepared = All-map (λ (n : ℕ). c.args.depth ≤ n) (λ w. w.searcher) ws (rw c.deref_mut.ensures.value c.in_ok-workers.ensures.searchers);
    }
