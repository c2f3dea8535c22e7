-- Halves of a list of workers, and what they come to together.
use Rattle.std.proofs.Common.{◌≡◌, ℕ, ◌+◌, ◌%◌, ◌<◌, ◌≤◌, List, [], ◌∷◌, ◌++◌, length, get_or, set, refl, ap, subst, ◌∙◌, arith, Option}
use Rattle.std.proofs.lemmas.List.{get_or_append_left, get_or-append-add, length-append, map-append}
use Rattle.std.specs.List.{All}
use Rattle.atomic_table.specs.declared.shared.Seat.{Seat}
use Rattle.hive_model.specs.Minimax.{IsInner}
use Rattle.hive_model.specs.Costs.{share}
use Rattle.hive_model.specs.Histories.{History}
use Rattle.root_share.specs.declared.candidate.Candidate.{Candidate}
use Rattle.root_share.specs.Answer.{IsAnswer, first_of}
use Rattle.root_share.specs.declared.work.RootWork.{RootWork}
use Rattle.root_share.specs.declared.worker.Worker.{Worker}
use Rattle.root_share.specs.Part.{MayRun, HaveRun}
use Rattle.root_share.specs.Ready.{IsReady, MayBegin}
use Rattle.root_share.specs.Taken.{KeepsRoot}
use Rattle.root_share.specs.Word.{Known, IsSeat}
use Rattle.root_share.specs.Workers.{HasPlayed}
use Rattle.root_share.proofs.AnswerLaws.{answer-both, halves-of}
use Rattle.root_share.proofs.PlaysLaws.{plays-mapped}

pub all-left : {A : Type 0} (P : A → Type 0) (xs ys : List A) → All P (xs ++ ys) → All P xs
all-left P xs ys all k d h = let long = length-append xs ys in subst P (get_or_append_left xs ys d k h) (all k d (omega (arith, long)))

pub all-right : {A : Type 0} (P : A → Type 0) (xs ys : List A) → All P (xs ++ ys) → All P ys
all-right P xs ys all k d h = let long = length-append xs ys in subst P (get_or-append-add xs ys k d) (all (length xs + k) d (omega (arith, long)))

-- a half of the workers may run if the whole may, with a seat that knows the same
pub may-half : {G T : Type 0} (history : G → History) (work : RootWork G T) (from up : ℕ) (seat other : Seat (Unit {0}) Known) (workers half : List (Worker G)) →
    MayRun history work from seat workers → IsSeat work.word.now.table_id other → other.me.0.root ≡ seat.me.0.root → other.me.0.depth ≡ seat.me.0.depth →
    0 < length half → up + length half ≤ work.parts → ((P : Worker G → Type 0) → All P workers → All P half) → MayRun history work up other half
may-half history work from up seat other workers half may seated root known some enough part = record {
  seated = seated;
  listed = rw root may.listed;
  some = some;
  enough = enough;
  few = may.few;
  ready = rw (root, known) (part (λ w. IsReady seat.me.0.root seat.me.0.depth work.depth (history w.game) w.searcher) may.ready);
}

-- the first of the workers may begin if all may run
pub may-begin : {G T : Type 0} (history : G → History) (work : RootWork G T) (from : ℕ) (seat : Seat (Unit {0}) Known) (workers : List (Worker G)) (d : Worker G) →
    MayRun history work from seat workers → MayBegin history work (get_or workers 0 d) seat
may-begin history work from seat workers d may =
    let some = may.some in
    let enough = may.enough in
    record { seated = may.seated; ready = may.ready 0 d some; listed = may.listed; some = omega (arith, some, enough) }

-- a worker alone that has taken the children of its part
pub have-one : {G T : Type 0} (history : G → History) (played : G → ℕ) (work : RootWork G T) (from : ℕ) (seat later : Seat (Unit {0}) Known) (workers : List (Worker G)) (d w : Worker G) (found : Option Candidate) →
    length workers ≡ 1 → KeepsRoot work seat later → IsAnswer seat.me.0.root work.depth (λ i. i % work.parts ≡ from) found →
    HasPlayed history played (get_or workers 0 d) w (share seat.me.0.root work.depth from work.parts) → HaveRun history played work from seat later workers (set workers 0 w) found
have-one history played work from seat later [] d w found one at answer made = absurd (omega (arith, one))
have-one history played work from seat later (x ∷ y ∷ ys) d w found one at answer made = absurd (omega (arith, one))
have-one history played work from seat later (x ∷ []) d w found one at answer made = record {
  knows = at;
  answer = record { exact = answer.exact; first = λ i mine e. let low = mine.0 in let high = mine.1 in answer.first i (omega (arith, low, high)) e };
  kept = record { games = ap (λ (c : History). c ∷ []) made.game; searchers = ap (λ (n : ℕ). n ∷ []) made.searcher };
  plays = (made.plays, refl);
}

inner-of : {G T : Type 0} (history : G → History) (work : RootWork G T) (from : ℕ) (seat : Seat (Unit {0}) Known) (workers : List (Worker G)) → MayRun history work from seat workers → IsInner seat.me.0.root work.depth
inner-of history work from seat [] may = let some = may.some in absurd (omega (arith, some))
inner-of history work from seat (w ∷ ws) may = let first = may.ready 0 w may.some in first.inner

-- two halves that have run make a whole that has
pub have-both : {G T : Type 0} (history : G → History) (played : G → ℕ) (work : RootWork G T) (from up : ℕ) (seat one one2 other other2 later : Seat (Unit {0}) Known)
    (workers front front2 back back2 : List (Worker G)) (a b found : Option Candidate) →
    MayRun history work from seat workers → workers ≡ front ++ back → from + length front ≡ up →
    one.me.0.root ≡ seat.me.0.root → HaveRun history played work from one one2 front front2 a →
    other.me.0.root ≡ seat.me.0.root → HaveRun history played work up other other2 back back2 b →
    IsSeat work.word.now.table_id later → later.me.0.root ≡ one2.me.0.root → later.me.0.depth ≡ one2.me.0.depth → found ≡ first_of a b →
    HaveRun history played work from seat later workers (front2 ++ back2) found
have-both {G = G} history played work from up seat one one2 other other2 later workers front front2 back back2 a b found may cut at same x same2 y seated root agreed better =
    let long : length workers ≡ length front + length back = rw cut (length-append front back) in
    record {
      knows = record { seated = seated; root = root ∙ x.knows.root ∙ same; depth = agreed ∙ x.knows.depth };
      answer = rw better (answer-both seat.me.0.root work.depth _ _ _ _ _ (inner-of history work from seat workers may) (rw same at x.answer) (rw same2 at y.answer)
          (λ i mine. halves-of from up (length front) (length back) work.parts i at (rw long at mine)));
      kept = record {
        games = rw (cut, map-append (λ w. history w.game) front back, map-append (λ w. history w.game) front2 back2, x.kept.games, y.kept.games) refl;
        searchers = rw (cut, map-append (λ (w : Worker G). w.searcher) front back, map-append (λ (w : Worker G). w.searcher) front2 back2, x.kept.searchers, y.kept.searchers) refl;
      };
      plays = plays-mapped (λ (w : Worker G). played w.game) seat.me.0.root work.depth work.parts from up workers front back front2 back2 cut at (rw same at x.plays) (rw same2 at y.plays);
    }
