-- The best move is a legal move, and there is one.
use Rattle.std.proofs.Common.{◌≡◌, ℕ, ap, subst}
use Rattle.std.specs.Prelude.{Some}
use Rattle.hive_model.specs.declared.places.Move.{Move}
use Rattle.hive_model.specs.Legal.{moves}
use Rattle.hive_model.specs.Histories.{History, position}
use Rattle.hive_model.specs.Lists.{IsOn}
use Rattle.hive_model.specs.Minimax.{IsInner, IsBest, best}
use Rattle.hive_model.specs.Positions.{Position}
use Rattle.search_laws.proofs.BestLaws.{best-exists, best-is}
use Rattle.uhp_session.specs.Answers.{CurrentGame, reached, text_of_best}
use Rattle.uhp_session.specs.Laws.{BestMovesAreNamed}
use Rattle.hive_model.proofs.GetLemmas.{on-at}

pub best_on : (p : Position) (depth : ℕ) (m : Move) → best p depth ≡ Some m → IsOn (moves p) m
best_on p depth m e = let is : IsBest p depth m = best-is p depth m e in on-at (moves p) is.place m is.move

pub best_named : BestMovesAreNamed
best_named g depth goes_on some =
    let inner : IsInner (reached g) depth = record { deep = some; open_ = goes_on } in
    let found = best-exists (reached g) depth inner in
    (found.0, best-is (reached g) depth found.0 found.1, ap (text_of_best (reached g).board) found.1)

-- the same for a history with the game's type and moves
pub best_on_history : (c : History) (g : CurrentGame) (depth : ℕ) (m : Move) → position c ≡ reached g → best (position c) depth ≡ Some m → IsOn (moves (reached g)) m
best_on_history c g depth m same e = subst (λ p. IsOn (moves p) m) same (best_on (position c) depth m e)
