-- Plies that were played, with the keys before them.
use Rattle.std.specs.Prelude.{◌≡◌, List, [], ◌∷◌, map}
use Rattle.hive_model.specs.declared.places.Move.{Move}
use Rattle.hive_model.specs.Positions.{Position}
use Rattle.hive_model.specs.Games.{after}
use Rattle.hive_model.specs.Keys.{key}
use Rattle.grow_game.specs.declared.plies.Ply.{Ply}

-- the moves of the plies
abbrev pub moves_of : List Ply → List Move
moves_of = map (λ t. t.m)

-- played one after another from this position, each ply has the key of the position before it
abbrev pub AreKeyed : Position → List Ply → Type 0
AreKeyed p [] = Unit {0}
AreKeyed p (t ∷ ts) = (t.before ≡ key p) × AreKeyed (after p t.m) ts
