-- What the parts of a migration write.
use Rattle.std.proofs.Common.{◌≡◌, ℕ, ◌+◌, Bool, true, false, List, map, drop, ◌++◌, refl, sym, ap, subst, arith, ◌∙◌, ℤ, Option, Some, None}
use Rattle.std.specs.Prelude.{◌≢◌, Result, Ok, Err, IsTrue, ◌↔◌, IfSome}
use Rattle.io_edge.specs.Outside.{Told as AnyTold}
use Rattle.hive_model.specs.declared.pieces.GameType.{GameType}
use Rattle.hive_model.specs.declared.places.Move.{Move}
use Rattle.hive_model.specs.Positions.{Position, opening}
use Rattle.hive_model.specs.Histories.{History, position}
use Rattle.hive_model.specs.Legal.{is_over, moves}
use Rattle.hive_model.specs.Lists.{IsOn}
use Rattle.hive_model.specs.Games.{replay}
use Rattle.io_edge.specs.Lines.{Line}
use Rattle.search_laws.proofs.LoopLaws.{on-at}
use Rattle.certificate_walks.specs.declared.claim.Claim.{Claim}
use Rattle.certificate_walks.specs.Walks.{Fault, Halt, place_of}
use Rattle.certificate_walks.specs.Answers.{ReadCauses}
use Rattle.certificate_walks.specs.Ends.{CheckCauses}
use Rattle.certificate_walks.specs.declared.walk_answers.Halt.TheVariants.{Bad, Failed, Full}
use Rattle.certificate_walks.proofs.PlaceLaws.{place-here}
use Rattle.certificate_walks.proofs.FollowLaws.{certificate-none}
use Rattle.certificate_walks.specs.Follows.{held}
use Rattle.strategy_check.specs.declared.why.Why.{Why}
use Rattle.strategy_check.specs.declared.why.Why.TheVariants.{NoSuchMove}
use Rattle.strategy_check.specs.Trace.{steps, checked, index_rules}
use Rattle.strategy_check.specs.Checks.{index_sight}
use Rattle.certificate_citing.specs.declared.migrating.Migrated.{Migrated}
use Rattle.certificate_citing.specs.declared.migrating.Migrated.TheVariants.{Done, Refused, Halted, WriteFault, Memory}
use Rattle.certificate_citing.specs.Migrating.{answered}
use Rattle.certificate_text.specs.declared.head.Head.{Head}
use Rattle.certificate_text.specs.declared.head.HeadFault.{HeadFault}
use Rattle.certificate_text.specs.declared.head.HeadFault.TheVariants.{BadLine as LineFault, BadGame as NoGame, ReadFault as NoRead, InputFull as IsFull, Memory as NoMemory}
use Rattle.certificate_text.specs.Text.{head_of, head_text, index_in}
use Rattle.certificate_verdicts.specs.declared.verdict.TextVerdict.{TextVerdict}
use Rattle.certificate_verdicts.specs.declared.verdict.TextVerdict.TheVariants.{Accepted, BadCite, BadGame, BadLine, GameOver, Refused as VerdictRefused}
use Rattle.certificate_verdicts.specs.declared.verdict.Unread.{Unread}
use Rattle.certificate_verdicts.specs.Verdicts.{of_walk}
use Rattle.certificate_verdicts.specs.Reading.{Judges, of_fault}
use Rattle.certificate_verdicts.proofs.TextLaws.{if-open, verdict-is}
use Rattle.certificate_commands.specs.declared.migrating.Taken.{Taken}
use Rattle.certificate_commands.specs.declared.migrating.Taken.TheVariants.{Written, Cut, Judged, Missed}
use Rattle.certificate_commands.specs.Claims.{Claims}
use Rattle.certificate_commands.specs.Verdicts.{claimed_move, end_of, of_claim, of_items, of_lines, of_move}
use Rattle.certificate_commands.specs.Migrating.{MigratesHead, MigratesTo, OfItems, Writes, WritesLate, first_verdict, taken_as}
use Rattle.certificate_commands.proofs.ClaimLaws.{ends-there}
use Rattle.certificate_commands.proofs.JudgedLaws.{claim-lines}

pub writes-as : (v w : TextVerdict) (Is Also : List ℕ → Type 0) (r : Taken) (a b : AnyTold) → v ≡ w → ((text : List ℕ) → Is text → Also text) → Writes v Is r a b → Writes w Also r a b
writes-as v w Is Also Written a b e f h = (h.0, f h.0 h.1, h.2)
writes-as v w Is Also Cut a b e f h = (h.0, f h.0 h.1, h.2, h.3, h.4)
writes-as v w Is Also (Judged x) a b e f h = sym e ∙ h
writes-as v w Is Also (Missed u) a b e f h = tt

module _ (p : Position) (d : ℕ) (m : Move) (v : ℤ) (items : List (Option ℕ)) where
  pub refused-judged : (place n : ℕ) (why : Why) → checked p d m v items ≡ Fault why n → place ≡ held n → of_items p d m v items ≡ VerdictRefused place why
  refused-judged place n why e at = ap (of_walk 5) e ∙ ap (λ k. VerdictRefused k why) (sym at)

  pub bad-judged : (lines n line : ℕ) → checked p d m v items ≡ Halt n → lines ≡ held (n + 1) → line ≡ held (lines + 5) → of_items p d m v items ≡ BadLine line
  bad-judged lines n line e count at = let same : held (n + 1 + 5) ≡ line = omega (arith, count, at) in ap (of_walk 5) e ∙ ap (λ k. BadLine k) same

-- ---- a head

-- the verdict on a claim of the first version, with its move read
pub claim-items : (head : Head) (rest : List Line) (m : Move) → head.version ≡ 1 → is_over (end_of head) ≡ false → claimed_move head ≡ Ok m → of_claim head rest ≡ of_items (end_of head) head.depth m head.value (map index_in rest)
claim-items head rest m first goes denotes =
    if-open (is_over (end_of head)) (of_move head.version (end_of head) head.depth (claimed_move head) head.value rest) goes
    ∙ ap (λ r. of_move head.version (end_of head) head.depth r head.value rest) denotes
    ∙ ap (λ n. of_lines n (end_of head) head.depth m head.value rest) first

-- the same for the game in progress
pub history-items : (head : Head) (rest : List Line) (c : History) (claim : Claim) → head.version ≡ 1 → Claims head c claim → of_items (position c) claim.depth claim.best claim.value (map index_in rest) ≡ of_claim head rest
history-items head rest c claim first is =
    ap (λ n. of_lines n (position c) claim.depth claim.best claim.value rest) (sym first) ∙ claim-lines head c claim is rest

-- the result for a claim about a game of this type and these moves
abbrev MigratesFrom : List Line → Move → Taken → AnyTold → AnyTold → GameType → List Move → ℕ → ℤ → Type 0
MigratesFrom rest m r a b t ms d v =
    Writes (of_items (replay (opening t) ms) d m v (map index_in rest)) (OfItems (replay (opening t) ms) d m v (map index_in rest) (head_text 2 t ms d m v)) r a b

head-writes : (head : Head) (rest : List Line) (m : Move) (r : Taken) (a b : AnyTold) → head.version ≡ 1 → is_over (end_of head) ≡ false → claimed_move head ≡ Ok m →
    MigratesFrom rest m r a b head.game_type head.moves head.depth head.value → Writes (of_claim head rest) (MigratesHead head rest) r a b
head-writes head rest m r a b first goes denotes h =
    writes-as _ _ (OfItems (end_of head) head.depth m head.value (map index_in rest) (head_text 2 head.game_type head.moves head.depth m head.value)) (MigratesHead head rest) r a b (sym (claim-items head rest m first goes denotes))
    (λ text is. record {
      best = m;
      indices = is.1.indices;
      open_ = goes;
      denotes = denotes;
      are_indices = is.1.are;
      hold = is.1.hold;
      text_is = is.2 ∙ ap (λ (s : List ℕ). head_text 2 head.game_type head.moves head.depth m head.value ++ s) is.1.lines_are;
    }) h

-- for a game in progress that is the head's, and its claim
pub history-writes : (head : Head) (rest : List Line) (c : History) (claim : Claim) (r : Taken) (a b : AnyTold) → head.version ≡ 1 → Claims head c claim → MigratesFrom rest claim.best r a b c.game_type c.made claim.depth claim.value →
    Writes (of_claim head rest) (MigratesHead head rest) r a b
history-writes head rest c claim r a b first is h =
    let goes : is_over (end_of head) ≡ false = sym (ap is_over (ends-there head c is.kind is.made)) ∙ is.may_be.inner.open_ in
    head-writes head rest claim.best r a b first goes is.denotes
    (subst (λ (v : ℤ). MigratesFrom rest claim.best r a b head.game_type head.moves head.depth v) is.value
    (subst (λ (d : ℕ). MigratesFrom rest claim.best r a b head.game_type head.moves d claim.value) is.depth
    (subst (λ (ms : List Move). MigratesFrom rest claim.best r a b head.game_type ms claim.depth claim.value) is.made
    (subst (λ (t : GameType). MigratesFrom rest claim.best r a b t c.made claim.depth claim.value) is.kind h))))

pub all-writes : (ls : List Line) (head : Head) (r : Taken) (a b : AnyTold) → head_of 1 ls ≡ Ok head → Writes (of_claim head (drop 5 ls)) (MigratesHead head (drop 5 ls)) r a b → Writes (first_verdict ls) (MigratesTo ls) r a b
all-writes ls head r a b e h =
    writes-as (of_claim head (drop 5 ls)) (first_verdict ls) (MigratesHead head (drop 5 ls)) (MigratesTo ls) r a b (sym (verdict-is 5 (head_of 1) of_claim ls (Ok head) e)) (λ text is. record { head = head; has_head = e; migrates = is }) h

-- if the move is not legal
no-place : (m : Move) (ms : List Move) (b : Bool) → (IsTrue b ↔ IsOn ms m) → b ≡ false → (o : Option ℕ) → place_of m ms ≡ o → None ≡ o
no-place m ms b legal no_ None e = refl
no-place m ms b legal no_ (Some k) e = let yes_ : b ≡ true = legal.1 (on-at ms k m (place-here m ms k e)) in cc

pub illegal-judged : (p : Position) (d : ℕ) (m : Move) (v : ℤ) (items : List (Option ℕ)) (b : Bool) → (IsTrue b ↔ IsOn (moves p) m) → b ≡ false → of_items p d m v items ≡ VerdictRefused 0 NoSuchMove
illegal-judged p d m v items b legal no_ =
    let none : None ≡ place_of m (moves p) = no-place m (moves p) b legal no_ (place_of m (moves p)) refl in
    ap (of_walk 5) (certificate-none index_rules index_sight p d m v (steps items 0) none)

-- if the text was judged before anything was written
pub judged-writes : (v : TextVerdict) (Is : List ℕ → Type 0) (judged : Result TextVerdict Unread) (r : Taken) (a b : AnyTold) → r ≡ taken_as judged → Judges judged v → Writes v Is r a b
judged-writes v Is judged r a b taken h = subst (λ (t : Taken). Writes v Is t a b) (sym taken) (by judged h)
  where
    by : (j : Result TextVerdict Unread) → Judges j v → Writes v Is (taken_as j) a b
    by (Ok w) h = h
    by (Err unread) h = tt

pub judged-late : (judged : Result TextVerdict Unread) (r : Taken) (a b : AnyTold) → judged ≢ Ok Accepted → r ≡ taken_as judged → b ≡ a → WritesLate r a b
judged-late judged r a b refuses taken same = subst (λ (t : Taken). WritesLate t a b) (sym taken) (by judged refuses)
  where
    by : (j : Result TextVerdict Unread) → j ≢ Ok Accepted → WritesLate (taken_as j) a b
    by (Ok Accepted) refuses = absurd (refuses refl)
    by (Ok (VerdictRefused place why)) refuses = same
    by (Ok (BadCite place)) refuses = same
    by (Ok (BadLine n)) refuses = same
    by (Ok (BadGame fault)) refuses = same
    by (Ok GameOver) refuses = same
    by (Err unread) refuses = same

-- no fault of a head is accepted
pub fault-refuses : (fault : HeadFault) (judged : Result TextVerdict Unread) → judged ≡ of_fault fault → judged ≢ Ok Accepted
fault-refuses (LineFault n) judged is = λ e. cc
fault-refuses (NoGame fault) judged is = λ e. cc
fault-refuses NoRead judged is = λ e. cc
fault-refuses IsFull judged is = λ e. cc
fault-refuses NoMemory judged is = λ e. cc

-- why the indices ended the call
pub read-causes : (migrated : Migrated) (before now : ℕ) (full : Bool) → CheckCauses (answered migrated) before now full → ReadCauses (migrated ≡ Halted Failed) (migrated ≡ Halted Full) before now full
read-causes Done before now full h = record { later = h.later; rose = λ e. cc; same = λ no. h.same (λ f. cc); closed = λ e. cc }
read-causes WriteFault before now full h = record { later = h.later; rose = λ e. cc; same = λ no. h.same (λ f. cc); closed = λ e. cc }
read-causes (Refused place why) before now full h = record { later = h.later; rose = λ e. cc; same = λ no. h.same (λ f. cc); closed = λ e. cc }
read-causes (Halted Bad) before now full h = record { later = h.later; rose = λ e. cc; same = λ no. h.same (λ f. cc); closed = λ e. cc }
read-causes (Halted Failed) before now full h = record { later = h.later; rose = λ e. h.rose refl; same = λ no. absurd (no refl); closed = λ e. cc }
read-causes (Halted Full) before now full h = record { later = h.later; rose = λ e. cc; same = λ no. h.same (λ f. cc); closed = λ e. h.closed refl }
read-causes Memory before now full h = record { later = h.later; rose = λ e. cc; same = λ no. h.same (λ f. f); closed = λ e. cc }

-- what follows from the value, if there is one
pub if-some : {X : Type 0} (o : Option X) (P Q : X → Type 0) → IfSome o P → ((x : X) → P x → Q x) → IfSome o Q
if-some None P Q h f = tt
if-some (Some x) P Q h f = f x h
