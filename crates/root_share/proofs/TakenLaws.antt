-- What a worker has done with a child.
use Rattle.std.proofs.Common.{◌≡◌, ◌∙◌, arith, ℤ, ◌≤ℤ◌, Option}
use Rattle.std.proofs.lemmas.Int.{ints}
use Rattle.atomic_table.specs.declared.shared.Seat.{Seat}
use Rattle.root_share.specs.declared.beside.TriedBeside.TheVariants.{Closed}
use Rattle.root_share.specs.declared.candidate.Candidate.{Candidate}
use Rattle.root_share.specs.declared.work.Child.{Child}
use Rattle.root_share.specs.declared.work.RootWork.{RootWork}
use Rattle.root_share.specs.Children.{IsChild}
use Rattle.root_share.specs.Taken.{IsClosed, HasTried}
use Rattle.root_share.specs.Word.{Known}
use Rattle.root_share.proofs.ReadyLaws.{known-one}

-- a child that is closed since the bound was read is closed since the time before it
pub closed-since : {G T : Type 0} (work : RootWork G T) (child : Child) (low bound : ℤ) (seat read later : Seat (Unit {0}) Known) (found : Option Candidate) → IsClosed work child bound read later found →
    read.me.0.root ≡ seat.me.0.root → low ≤ℤ bound → IsClosed work child low seat later found
closed-since work child low bound seat read later found closed root up =
    let least = closed.least in
    record {
      knows = record { seated = closed.knows.seated; root = closed.knows.root ∙ root; depth = closed.knows.depth };
      answer = rw root at closed.answer;
      least = omega (arith, ints, least, up);
      worth = rw root at closed.worth;
    }

-- a worker that has closed the child which it begins with has tried it
pub tried-closed : {G T : Type 0} (work : RootWork G T) (child : Child) (seat later : Seat (Unit {0}) Known) (found : Option Candidate) → IsChild seat.me.0.root child →
    IsClosed work child seat.me.0.top seat later found → HasTried work child seat later (Closed found)
tried-closed work child seat later found here closed = record {
  knows = closed.knows;
  came = (closed.answer, known-one seat.me.0.root work.depth later.me.0.top child.place child.m here closed.worth);
  grows = closed.least;
}
