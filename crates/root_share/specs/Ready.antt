-- What a worker needs to search the moves of a root.
use Rattle.std.specs.Prelude.{◌≡◌, ℕ, ◌<◌, ◌≤◌, [], ◌∷◌}
use Rattle.atomic_table.specs.declared.shared.Seat.{Seat}
use Rattle.hive_model.specs.Positions.{Position}
use Rattle.hive_model.specs.Legal.{moves}
use Rattle.hive_model.specs.Minimax.{IsInner}
use Rattle.hive_model.specs.Histories.{History, position}
use Rattle.root_share.specs.declared.work.Child.{Child}
use Rattle.root_share.specs.declared.work.RootWork.{RootWork}
use Rattle.root_share.specs.declared.worker.Worker.{Worker}
use Rattle.root_share.specs.Children.{IsChild}
use Rattle.root_share.specs.Word.{Known, IsSeat}

-- The worker's game has reached the root, and its seat knows the root and the depth. At least one
-- ply is to be searched there. The game and the searcher have room for the plies, 64 at most.
pub record IsReady (root : Position) (known depth : ℕ) (game : History) (prepared : ℕ) : Type 0 where
  pub stands : root ≡ position game
  pub agreed : known ≡ depth
  pub inner : IsInner root depth
  pub deep : depth ≤ 64
  pub spare : depth ≤ game.spare
  pub enough : depth ≤ prepared

-- A worker can take children. Its seat is at the shared word, it is ready at the root that the seat
-- knows, and the list has that root's moves.
pub record MayBegin {G T : Type 0} (history : G → History) (work : RootWork G T)
    (worker : Worker G) (seat : Seat (Unit {0}) Known) : Type 0 where
  pub seated : IsSeat work.word.now.table_id seat
  pub ready : IsReady seat.me.0.root seat.me.0.depth work.depth (history worker.game) worker.searcher
  pub listed : work.root.now.lists ≡ moves seat.me.0.root ∷ []
  pub some : 0 < work.parts

-- It can take this child.
pub record MayTake {G T : Type 0} (history : G → History) (work : RootWork G T) (child : Child)
    (worker : Worker G) (seat : Seat (Unit {0}) Known) : Type 0 where
  pub begin : MayBegin history work worker seat
  pub here : IsChild seat.me.0.root child
