-- Laws of certificates that are written and checked.
use Rattle.std.specs.Prelude.{◌≡◌, ◌⊎◌, ◌↔◌, ℕ, ◌≤◌, false, List, length, map, drop, ℤ, Option, Some, Ok}
use Rattle.hive_model.specs.declared.pieces.GameType.{GameType}
use Rattle.hive_model.specs.declared.places.Move.{Move}
use Rattle.hive_model.specs.Positions.{Position, opening}
use Rattle.hive_model.specs.Legal.{is_over}
use Rattle.hive_model.specs.Games.{IsGame, replay}
use Rattle.io_edge.specs.Lines.{Line, lines}
use Rattle.hive_model.specs.Minimax.{best, value}
use Rattle.strategy_check.specs.Trace.{Holds}
use Rattle.strategy_lemmas.specs.Cited.{HoldsCited}
use Rattle.strategy_lemmas.specs.declared.tokens.Token.{Token}
use Rattle.certificate_citing.specs.TokenText.{token_in}
use Rattle.certificate_text.specs.declared.head.Head.{Head}
use Rattle.certificate_text.specs.Text.{head_of, index_in}
use Rattle.strategy_make.specs.Making.{certificate}
use Rattle.command_runs.specs.Input.{Sides, WhereTold}
use Rattle.command_runs.specs.OneGame.{AsksOne}
use Rattle.command_runs.specs.Served.{RunsAreDone}
use Rattle.command_runs.specs.declared.status.Status.TheVariants.{Done}
use Rattle.certificate_verdicts.specs.declared.verdict.TextVerdict.TheVariants.{Accepted}
use Rattle.certificate_verdicts.specs.Laws.{WritesAccepted}
use Rattle.certificate_commands.specs.Certifying.{CertifyRun}
use Rattle.certificate_commands.specs.Verdicts.{CheckRun, claimed_move, end_of, verdict}

-- The lines have a head, and its claim is true. Its text denotes the best move at the end of its
-- game, at its depth, and its value is the value of that position.
pub record IsTrueClaim (ls : List Line) (head : Head) (m : Move) : Type 0 where
  pub has_head : head_of 2 ls ≡ Ok head
  pub denotes : claimed_move head ≡ Ok m
  pub is_best : best (end_of head) head.depth ≡ Some m
  pub is_worth : value (end_of head) head.depth ≡ head.value

-- The claim of a text that is accepted is true.
abbrev pub AcceptedIsTrue : Type 0
AcceptedIsTrue =
    (ls : List Line) → verdict ls ≡ Accepted
    → (head : Head) × (m : Move) × IsTrueClaim ls head m

-- So if a check is done, the claim is true.
abbrev pub CheckedIsTrue : Type 0
CheckedIsTrue =
    (before : Sides) → (after : Sides) → CheckRun Done before after
    → WhereTold before.rest (λ input. (head : Head) × (m : Move) × IsTrueClaim (lines input) head m)

-- The lines have a head of this version, its game is not over, and its text denotes this move
-- there.
pub record ClaimsIn (ls : List Line) (version : ℕ) (head : Head) (m : Move) : Type 0 where
  pub has_head : head_of 2 ls ≡ Ok head
  pub is_of : head.version ≡ version
  pub open_ : is_over (end_of head) ≡ false
  pub denotes : claimed_move head ≡ Ok m

-- The lines are a head of this version with its claim, and items for which this holds.
pub record HoldsAs {T : Type 0} (version : ℕ) (item_in : Line → Option T)
    (Of : Position → ℕ → Move → ℤ → List T → Type 0)
    (ls : List Line) (head : Head) (m : Move) (items : List T) : Type 0 where
  pub claims : ClaimsIn ls version head m
  pub are_items : map item_in (drop 5 ls) ≡ map (λ item. Some item) items
  pub hold : Of (end_of head) head.depth m head.value items

-- Lines that are a head with its claim, and items for which this holds, are accepted.
abbrev pub AreAccepted : {T : Type 0} → (List Line → Head → Move → List T → Type 0) → Type 0
AreAccepted {T} Of =
    (ls : List Line) → (head : Head) → (m : Move) → (items : List T)
    → Of ls head m items → verdict ls ≡ Accepted

-- The lines are a head of the first version with its claim, and indices that hold for it.
abbrev pub HoldsOf : List Line → Head → Move → List ℕ → Type 0
HoldsOf = HoldsAs 1 index_in Holds

-- Such lines are accepted.
abbrev pub HeldIsAccepted : Type 0
HeldIsAccepted = AreAccepted HoldsOf

-- The lines are a head of the second version with its claim, and tokens that hold for it.
abbrev pub HoldsCitedOf : List Line → Head → Move → List Token → Type 0
HoldsCitedOf = HoldsAs 2 token_in HoldsCited

-- Such lines are accepted too.
abbrev pub HeldCitedIsAccepted : Type 0
HeldCitedIsAccepted = AreAccepted HoldsCitedOf

-- The lines are a certificate that holds, of the first version or of the second.
abbrev pub IsHeld : List Line → Type 0
IsHeld ls =
    (head : Head) × (m : Move)
    × (((indices : List ℕ) × HoldsOf ls head m indices)
    ⊎ ((tokens : List Token) × HoldsCitedOf ls head m tokens))

-- Exactly such lines are accepted.
abbrev pub CertificatesAlone : Type 0
CertificatesAlone = (ls : List Line) → (verdict ls ≡ Accepted) ↔ IsHeld ls

-- a game of at most 5,000 moves that is not over, and its best move at a depth from 1 to 64
pub record MayCertify (t : GameType) (ms : List Move) (depth : ℕ) (m : Move) : Type 0 where
  pub game : IsGame t ms
  pub few : length ms ≤ 5000
  pub open_ : is_over (replay (opening t) ms) ≡ false
  pub some : 1 ≤ depth
  pub deep : depth ≤ 64
  pub is_best : best (replay (opening t) ms) depth ≡ Some m

-- The certificate that is written for it is accepted.
abbrev pub CertificatesAreAccepted : Type 0
CertificatesAreAccepted =
    (t : GameType) → (ms : List Move) → (depth : ℕ) → (m : Move) → MayCertify t ms depth m
    → verdict (lines (certificate t ms depth m (value (replay (opening t) ms) depth))) ≡ Accepted

-- So if `certify` is done, what it writes is accepted.
abbrev pub CertifiedIsAccepted : Type 0
CertifiedIsAccepted =
    (depth : ℕ) → 1 ≤ depth → depth ≤ 64 → (before : Sides) → (after : Sides)
    → CertifyRun depth Done before after → WritesAccepted verdict before after

-- Let the input be exactly one line, a game that is not over. If the streams served the run, the
-- answer to it ends with `Done`, or because memory ran out.
abbrev pub CertifiesAreDone : Type 0
CertifiesAreDone = (depth : ℕ) → RunsAreDone (CertifyRun depth) AsksOne

-- The same for a check of an input that is accepted.
abbrev pub ChecksAreDone : Type 0
ChecksAreDone = RunsAreDone CheckRun (λ input. verdict (lines input) ≡ Accepted)
