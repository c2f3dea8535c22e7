-- Games of one type and of the same moves are equal games.
use Rattle.std.proofs.Common.{ℕ, suc, ◌≤◌, List, [], ◌∷◌, get_or, sym, ◌∙◌, arith}
use Rattle.std.specs.List.{All}
use Rattle.hive_model.specs.declared.pieces.GameType.{GameType}
use Rattle.hive_model.specs.declared.places.Move.{Move}
use Rattle.hive_model.specs.Histories.{History}
use Rattle.root_share.specs.Answer.{AreEqualGames, IsGameOf}

pub equal-games : (t : GameType) (ms : List Move) (room : ℕ) (cs : List History) → All (IsGameOf t ms room) cs → AreEqualGames cs
equal-games t ms room [] all = tt
equal-games t ms room (c ∷ cs) all =
    let one : IsGameOf t ms room c = all 0 c (omega arith) in
    λ k d h. let each : IsGameOf t ms room (get_or cs k d) = all (suc k) d (omega (arith, h)) in
    record { game_type = each.game_type ∙ sym one.game_type; made = each.made ∙ sym one.made }

pub all-spare : (t : GameType) (ms : List Move) (room : ℕ) (cs : List History) → All (IsGameOf t ms room) cs → All (λ c. room ≤ c.spare) cs
all-spare t ms room cs all k d h = let each : IsGameOf t ms room (get_or cs k d) = all k d h in each.spare
