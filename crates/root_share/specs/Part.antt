-- What the workers of some parts require when they run side by side, and what they leave.
use Rattle.std.specs.Prelude.{◌≡◌, ℕ, ◌+◌, ◌<◌, ◌≤◌, List, [], ◌∷◌, length}
use Rattle.std.specs.List.{All}
use Rattle.std.specs.declared.option.Option.{Option}
use Rattle.atomic_table.specs.declared.shared.Seat.{Seat}
use Rattle.hive_model.specs.Legal.{moves}
use Rattle.hive_model.specs.Histories.{History}
use Rattle.root_share.specs.declared.candidate.Candidate.{Candidate}
use Rattle.root_share.specs.declared.work.RootWork.{RootWork}
use Rattle.root_share.specs.declared.worker.Worker.{Worker}
use Rattle.root_share.specs.Answer.{IsAnswer, is_of_parts, PlaysWithin}
use Rattle.root_share.specs.Ready.{IsReady}
use Rattle.root_share.specs.Taken.{KeepsRoot}
use Rattle.root_share.specs.Word.{Known, IsSeat}
use Rattle.root_share.specs.Workers.{AreAsBefore, plays_of}

-- There is at least one worker. There are at least as many parts as workers from this part on, and
-- at most 16. Each worker is ready at the root that the seat knows, and the list has that root's
-- moves.
pub record MayRun {G T : Type 0} (history : G → History) (work : RootWork G T) (from : ℕ)
    (seat : Seat (Unit {0}) Known) (workers : List (Worker G)) : Type 0 where
  pub seated : IsSeat work.word.now.table_id seat
  pub listed : work.root.now.lists ≡ moves seat.me.0.root ∷ []
  pub some : 0 < length workers
  pub enough : from + length workers ≤ work.parts
  pub few : work.parts ≤ 16
  pub ready : All
      (λ w. IsReady seat.me.0.root seat.me.0.depth work.depth (history w.game) w.searcher) workers

-- The seat still knows the root and the depth. The answer is for the children of these parts. Games
-- and searchers have not changed, and no worker has played more than its share.
pub record HaveRun {G T : Type 0} (history : G → History) (played : G → ℕ) (work : RootWork G T)
    (from : ℕ) (seat later : Seat (Unit {0}) Known) (workers after : List (Worker G))
    (found : Option Candidate) : Type 0 where
  pub knows : KeepsRoot work seat later
  pub answer : IsAnswer seat.me.0.root work.depth (is_of_parts from (length workers) work.parts)
      found
  pub kept : AreAsBefore history workers after
  pub plays : PlaysWithin seat.me.0.root work.depth work.parts from (plays_of played workers)
      (plays_of played after)
