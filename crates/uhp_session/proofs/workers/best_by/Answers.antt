use Rattle.std.proofs.Common.{◌≡◌, ℕ, ◌≤◌, Some, drop, length, false, subst, sym, ap, ◌∙◌}
use Rattle.std.proofs.lemmas.List.Elements.{All-map}
use Rattle.root_share.specs.Answer.{IsGameOf}
use Rattle.root_share.proofs.EqualLaws.{equal-games, all-spare}
use Rattle.hive_model.specs.Legal.{is_over}
use Rattle.hive_model.specs.Minimax.{best}
use Rattle.uhp_session.specs.Teams.{AreSearchersOf}
use Rattle.uhp_session.proofs.TeamLaws.{all-deep, back-prepared, back-many, root-is}
use Rattle.uhp_session.proofs.workers.best_by.Goals as goal

pub best_shared-requires-clause-workers : goal.best_shared-requires-clause-workers
best_shared-requires-clause-workers g c κs within =
    let t = c.args.game_type in
    let ms = c.args.moves.now in
    let ws = c.deref_mut.result.now in
    let taken = c.in_ok-searchers.ensures.taken in
    let images = All-map (IsGameOf t ms c.args.depth) (λ w. g.G.Game.history w.game) ws (rw c.deref_mut.ensures.value c.in_ok-workers.ensures.games) in
    let some : 1 ≤ length ws = rw c.deref_mut.ensures.value (rw c.in_ok-workers.ensures.count (rw taken.count c.requires.team.workers)) in
    let root = root-is t ms c.args.depth ws (λ w. g.G.Game.history w.game) some (rw c.deref_mut.ensures.value c.in_ok-workers.ensures.games) in
    record {
      some = some;
      few = rw c.deref_mut.ensures.value (rw c.in_ok-workers.ensures.count (rw taken.count c.requires.team.few));
      equal = equal-games t ms c.args.depth _ images;
      goes_on = subst (λ p. is_over p ≡ false) (sym root) c.requires.goes_on;
      spare = all-spare t ms c.args.depth _ images;
      prepared = All-map (λ (n : ℕ). c.args.depth ≤ n) (λ w. w.searcher) ws
          (all-deep ws (λ w. w.searcher) c.args.depth c.requires.deep (rw c.deref_mut.ensures.value c.in_ok-workers.ensures.prepared));
    }

pub give_back-requires-clause-prepared : goal.give_back-requires-clause-prepared
give_back-requires-clause-prepared g c =
    let ws = c.deref_mut.result.now in
    let now = c.best_shared.new.workers in
    back-prepared ws now (drop (length now) c.in_ok-workers.workers.items) (λ w. w.searcher) c.in_ok-workers.workers.len
    c.in_ok-found.ensures.kept.searchers c.deref_mut.ensures.len (rw c.deref_mut.ensures.value c.in_ok-workers.ensures.prepared)

pub returns-clause-best : goal.returns-clause-best
returns-clause-best g c =
    let ws = c.deref_mut.result.now in
    let some : 1 ≤ length ws = rw c.deref_mut.ensures.value (rw c.in_ok-workers.ensures.count (rw c.in_ok-searchers.ensures.taken.count c.requires.team.workers)) in
    let root = root-is c.args.game_type c.args.moves.now c.args.depth ws (λ w. g.G.Game.history w.game) some (rw c.deref_mut.ensures.value c.in_ok-workers.ensures.games) in
    subst (λ p. best p c.args.depth ≡ Some c.in_ok-found.found.best) root c.in_ok-found.ensures.first

pub give_back-requires-clause-none : goal.give_back-requires-clause-none
give_back-requires-clause-none g c = c.in_ok-workers.ensures.none

pub returns-clause-kept : goal.returns-clause-kept
returns-clause-kept g c =
    let ws = c.deref_mut.result.now in
    let now = c.best_shared.new.workers in
    let all : length ws ≡ c.args.team.workers = ap length c.deref_mut.ensures.value ∙ c.in_ok-workers.ensures.count ∙ c.in_ok-searchers.ensures.taken.count in
    let many = back-many ws now (drop (length now) c.in_ok-workers.workers.items) (λ w. w.searcher) c.in_ok-workers.workers.len c.args.team.workers
    c.in_ok-found.ensures.kept.searchers c.deref_mut.ensures.len all in
    subst (λ k. AreSearchersOf k c.give_back.new.searchers.items) many c.in_ok-give_back.ensures
