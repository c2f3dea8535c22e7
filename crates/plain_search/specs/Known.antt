-- What is known about the moves of one position.
use Rattle.std.specs.Prelude.{◌≡◌, ℕ, List}
use Rattle.hive_model.specs.Lists.{IsOn}
use Rattle.hive_model.specs.Positions.{Position}
use Rattle.hive_model.specs.Games.{after}
use Rattle.hive_model.specs.Minimax.{lines}
use Rattle.symmetry.specs.declared.own.OwnSymmetry.{OwnSymmetry}
use Rattle.symmetry.specs.Own.{IsOwnBelow}
use Rattle.plain_search.specs.declared.images.Known.{Known}

-- The position is alike to itself by each symmetry on the list, which is one of the twelve.
abbrev pub AreSymmetriesOf : Position → List OwnSymmetry → Type 0
AreSymmetriesOf p own = (o : OwnSymmetry) → IsOn own o → IsOwnBelow 12 p o.symmetry o.shift

-- Each entry has the number of lists of n legal moves that follow its move.
abbrev pub AreKnown : Position → ℕ → List Known → Type 0
AreKnown p n known = (e : Known) → IsOn known e → e.count ≡ lines (after p e.moved) n
