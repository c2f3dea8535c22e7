-- The shares of workers in a count.
use Rattle.std.specs.Prelude.{◌≡◌, ℕ, suc, ◌-◌, ◌^◌, ◌<◌, ◌≤◌, List, [], ◌∷◌, ◌++◌, ◌⊎◌}
use Rattle.std.specs.List.{All, AllZip, sum_by}
use Rattle.hive_model.specs.Lists.{IsOn}
use Rattle.hive_model.specs.Positions.{Position}
use Rattle.hive_model.specs.Legal.{moves}
use Rattle.hive_model.specs.Histories.{History, position}
use Rattle.hive_model.specs.Minimax.{lines}
use Rattle.count_share.specs.Classes.{lines_of}
use Rattle.count_share.specs.declared.classes.MoveClass.{MoveClass}

-- what contracts see of a worker: its game, the levels that its stack has left, its classes, and
-- what it counted last
pub record Share : Type 0 where
  pub history : History
  pub free : ℕ
  pub classes : List MoveClass
  pub total : ℕ

-- a worker without a class
abbrev pub idle : History → ℕ → Share
idle history free = record { history = history; free = free; classes = []; total = 0 }

-- The worker has one more class.
pub record HasTaken (c : MoveClass) (old new : Share) : Type 0 where
  pub history : new.history ≡ old.history
  pub free : new.free ≡ old.free
  pub classes : new.classes ≡ old.classes ++ c ∷ []

-- A worker that can count lists of n moves: it has room for them, its classes have legal moves, and
-- what it counts fits in 128 bits.
pub record CanCount (n : ℕ) (s : Share) : Type 0 where
  pub some : 1 ≤ n
  pub few : n ≤ 8
  pub spare : n ≤ s.history.spare
  pub free : n ≤ s.free
  pub legal : All (λ (c : MoveClass). IsOn (moves (position s.history)) c.moved) s.classes
  pub fits : lines_of (position s.history) (n - 1) s.classes < 2 ^ 128

-- The worker has counted lists of n moves.
pub record HasCounted (n : ℕ) (old new : Share) : Type 0 where
  pub history : new.history ≡ old.history
  pub free : new.free ≡ old.free
  pub classes : new.classes ≡ old.classes
  pub total : new.total ≡ lines_of (position old.history) (n - 1) old.classes

-- A worker of a team: it is at the position, has room for so many plies, and its classes have legal
-- moves.
pub record IsMember (p : Position) (plies : ℕ) (s : Share) : Type 0 where
  pub at : position s.history ≡ p
  pub spare : plies ≤ s.history.spare
  pub free : plies ≤ s.free
  pub legal : All (λ (c : MoveClass). IsOn (moves p) c.moved) s.classes

-- the lists of n + 1 legal moves that begin with a move of a class of these workers
abbrev pub lines_shared : Position → ℕ → List Share → ℕ
lines_shared p n ss = sum_by (λ (s : Share). lines_of p n s.classes) ss

-- Workers to whom all legal moves were dealt out: together their shares are the whole.
pub record AreDealt (p : Position) (plies : ℕ) (ss : List Share) : Type 0 where
  pub members : All (IsMember p plies) ss
  pub whole : (n : ℕ) → n < 8 → lines_shared p n ss ≡ lines p (suc n)

-- Workers without a class, which are at the position and have room for so many plies.
abbrev pub AreIdle : Position → ℕ → List Share → Type 0
AreIdle p plies ss = All (IsMember p plies) ss × All (λ (s : Share). s.classes ≡ []) ss

-- no workers, or workers to whom all legal moves were dealt out
abbrev pub AreHelpers : Position → ℕ → List Share → Type 0
AreHelpers p plies ss = (ss ≡ []) ⊎ AreDealt p plies ss

-- each worker has counted lists of n moves
abbrev pub HaveCounted : ℕ → List Share → List Share → Type 0
HaveCounted n before after = AllZip (HasCounted n) before after

-- the lists of n legal moves that begin with a move of a class of these workers, each at its own
-- position
abbrev pub lines_counted : ℕ → List Share → ℕ
lines_counted n ss =
    sum_by (λ (s : Share). lines_of (position s.history) (n - 1) s.classes) ss

-- what contracts see of a team: the position whose lists it counts, and the most plies
pub record Team : Type 0 where
  pub root : Position
  pub plies : ℕ

-- A team whose first game has this history and whose stack has so many levels left. There is room
-- for 1 to 8 plies, and the workers beside it share the legal moves.
pub record IsTeam (history : History) (levels plies : ℕ) (workers : List Share) : Type 0 where
  pub some : 1 ≤ plies
  pub few : plies ≤ 8
  pub spare : plies ≤ history.spare
  pub free : plies ≤ levels
  pub helpers : AreHelpers (position history) plies workers
