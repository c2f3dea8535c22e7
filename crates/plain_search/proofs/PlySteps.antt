-- What a ply leaves for the plies after it, over plain values.
use Rattle.std.proofs.Common.{◌≡◌, ℕ, ◌-◌, ◌≤◌, ◌<◌, List, ap, arith, ◌∙◌}
use Rattle.hive_model.specs.declared.places.Move.{Move}
use Rattle.hive_model.specs.Games.{after}
use Rattle.hive_model.specs.Stack.{Levels, with_level}
use Rattle.hive_model.specs.Histories.{History, position, with_move}
use Rattle.search_laws.proofs.HistoryLaws.{position-with_move}

pub behind : (start played : History) (m : Move) → played ≡ with_move start m → position played ≡ after (position start) m
behind start played m moved = ap position moved ∙ position-with_move start m

-- levels for the plies after this one
pub levels-left : (s s1 old : Levels) (ms : List Move) (d : ℕ) → s ≡ s1 → s1 ≡ with_level old ms → d ≤ old.free → d - 1 ≤ s.free
levels-left s s1 old ms d same listed room =
    let e : s.free ≡ old.free - 1 = ap (λ (t : Levels). t.free) (same ∙ listed) in
    omega (arith, e, room)

-- plies for which there is room before a move and after it
pub spare-before : (now start : History) (d : ℕ) → now ≡ start → d ≤ start.spare → 0 < d → d - 1 < now.spare
spare-before now start d same room deep = let e : now.spare ≡ start.spare = ap (λ (g : History). g.spare) same in omega (arith, e, room, deep)
