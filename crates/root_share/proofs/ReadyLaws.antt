-- What a worker knows of the child that it tried first, and that it is ready for the others.
use Rattle.std.proofs.Common.{◌≡◌, ℕ, length, subst, ◌-◌, ◌≤◌, sym, ap, ◌∙◌, arith, ℤ, ◌≤ℤ◌, Some}
use Rattle.std.proofs.lemmas.Int.{ints}
use Rattle.std.proofs.lemmas.Option.{slice_get_within}
use Rattle.std.specs.List.{slice_get}
use Rattle.hive_model.specs.Lists.{IsOn}
use Rattle.search_laws.proofs.LoopLaws.{on-at}
use Rattle.search_laws.proofs.RootLaws.{small-value}
use Rattle.hive_model.specs.declared.places.Move.{Move}
use Rattle.hive_model.specs.Positions.{Position}
use Rattle.hive_model.specs.Legal.{moves}
use Rattle.hive_model.specs.Minimax.{value, reply_value}
use Rattle.hive_model.specs.Histories.{History, position}
use Rattle.atomic_table.specs.declared.shared.Seat.{Seat}
use Rattle.root_share.specs.Run.{first_bound}
use Rattle.root_share.specs.declared.work.Child.{Child}
use Rattle.root_share.specs.declared.work.RootWork.{RootWork}
use Rattle.root_share.specs.declared.worker.Worker.{Worker}
use Rattle.root_share.specs.Children.{IsBound, IsChild, IsDepth, IsLatest, MaySearch}
use Rattle.root_share.specs.Ready.{IsReady, MayBegin}
use Rattle.root_share.specs.Word.{Known, known, IsSeat}
use Rattle.root_share.specs.Answer.{IsKnown}

pub known-still : (p : Position) (d : ℕ) (g h : ℤ) (first : ℕ) → g ≤ℤ h → IsKnown p d g first → IsKnown p d h first
known-still p d g h first up known m here = let k = known m here in omega (arith, ints, k, up)

pub known-one : (p : Position) (d : ℕ) (g : ℤ) (child : ℕ) (m : Move) → slice_get (moves p) child ≡ Some m → reply_value p (d - 1) m ≤ℤ g → IsKnown p d g child
known-one p d g child m here worth n there = let same : m ≡ n = cc in rw (← same) worth

-- nothing needs to be known of a place after the end of the list
pub known-none : (p : Position) (d : ℕ) (g : ℤ) (behind : ℕ) → length (moves p) ≤ behind → IsKnown p d g behind
known-none p d g behind past m here = absurd (let k = slice_get_within (moves p) behind m here in omega (arith, k, past))

-- game and searcher have not changed, and a seat knows the same
pub ready-still : (p q : Position) (k known depth : ℕ) (game later : History) (n more : ℕ) → IsReady p k depth game n → q ≡ p → known ≡ depth → later ≡ game → more ≡ n → IsReady q known depth later more
ready-still p q k known depth game later n more old at agreed same kept = record {
  stands = at ∙ old.stands ∙ sym (ap position same);
  agreed = agreed;
  inner = rw at old.inner;
  deep = old.deep;
  spare = omega (arith, ap (λ (h : History). h.spare) same, old.spare);
  enough = omega (arith, kept, old.enough);
}

-- the same of a worker that can take children
pub begin-still : {G T : Type 0} (history : G → History) (work : RootWork G T) (worker after : Worker G) (seat next : Seat (Unit {0}) Known) → MayBegin history work worker seat →
    IsSeat work.word.now.table_id next → next.me.0.root ≡ seat.me.0.root → next.me.0.depth ≡ work.depth → history after.game ≡ history worker.game → after.searcher ≡ worker.searcher →
    MayBegin history work after next
begin-still history work worker after seat next may seated root agreed same kept = record {
  seated = seated;
  ready = ready-still seat.me.0.root next.me.0.root seat.me.0.depth next.me.0.depth work.depth (history worker.game) (history after.game) worker.searcher after.searcher may.ready root agreed same kept;
  listed = rw root may.listed;
  some = may.some;
}

-- what a view knows
pub root-of : {v : Known} {p : Position} {d : ℕ} {b : ℤ} {n : ℕ} → v ≡ known p d b n → v.root ≡ p
root-of e = ap (λ (w : Known). w.root) e

pub top-of : {v : Known} {p : Position} {d : ℕ} {b : ℤ} {n : ℕ} → v ≡ known p d b n → v.top ≡ b
top-of e = ap (λ (w : Known). w.top) e

pub depth-of : {v : Known} {p : Position} {d : ℕ} {b : ℤ} {n : ℕ} → v ≡ known p d b n → v.depth ≡ d
depth-of e = ap (λ (w : Known). w.depth) e

-- a move of the list is legal if the game has not changed
pub legal-still : (start now : History) (i : ℕ) (m : Move) → now ≡ start → slice_get (moves (position start)) i ≡ Some m → IsOn (moves (position now)) m
legal-still start now i m same here = subst (λ (h : History). IsOn (moves (position h)) m) (sym same) (on-at (moves (position start)) i m here)

-- the depth to be searched, known to a seat that has read the bound
pub depth-known : (p : Position) (k depth : ℕ) (game : History) (n : ℕ) (v : Known) → IsReady p k depth game n → v.root ≡ p → v.depth ≡ k → IsDepth v.root v.depth depth
depth-known p k depth game n v ready at agreed = record { inner = rw at ready.inner; agreed = agreed ∙ ready.agreed; deep = ready.deep }

-- a worker that is ready can search after a child
pub may-search : (p : Position) (k depth : ℕ) (game : History) (n : ℕ) (child : Child) (m : Move) → IsReady p k depth game n → IsChild p child → m ≡ child.m → MaySearch game n m (depth - 1)
may-search p k depth game n child m ready here same =
    let some = ready.inner.deep in
    record {
      legal = rw same (on-at (moves (position game)) child.place child.m (rw (← ready.stands) here));
      deep = omega (arith, ready.deep, some);
      spare = omega (arith, ready.spare, some);
      enough = omega (arith, ready.enough);
    }

-- the bound that a seat has read is the latest one
pub latest-read : (p : Position) (k depth : ℕ) (b z : ℤ) (n : ℕ) (v : Known) → v ≡ known p k b n → z ≡ b → k ≡ depth → b ≤ℤ value p k → IsLatest v.root depth v.top z
latest-read p k depth b z n v view kept agreed most = record { stands = top-of view ∙ sym kept; most = rw (kept, root-of view) (rw agreed at most) }

-- it is a bound of a search
pub bound-read-is : (p : Position) (k depth : ℕ) (b z : ℤ) → z ≡ b → k ≡ depth → depth ≤ 64 → first_bound ≤ℤ b → b ≤ℤ value p k → IsBound z
bound-read-is p k depth b z kept agreed deep least most =
    let small = small-value p k (omega (arith, agreed, deep)) in
    let high = small.high in
    rw kept (record { low = least; high = omega (arith, ints, most, high) })
