-- What is answered for a whole certificate whose tokens are written.
use Rattle.std.specs.Prelude.{◌≡◌, ℕ, ◌<◌, ⊤, ℤ, List, map, ◌++◌, length, take, Option, Some, None}
use Rattle.io_edge.specs.Outside.{Told, behind}
use Rattle.hive_model.specs.declared.places.Move.{Move}
use Rattle.hive_model.specs.Positions.{Position}
use Rattle.certificate_walks.specs.Walks.{WalkEnd, Left, Fault, Halt}
use Rattle.certificate_walks.specs.Follows.{held}
use Rattle.strategy_check.specs.declared.why.Why.{Why}
use Rattle.certificate_walks.specs.declared.walk_answers.Halt.TheVariants.{Bad, Failed, Full}
use Rattle.certificate_walks.specs.declared.walk_answers.Checked.{Checked}
use Rattle.certificate_walks.specs.declared.walk_answers.Checked.TheVariants.{Accepted, Refused as CheckRefused, Halted as CheckHalted}
use Rattle.strategy_check.specs.Trace.{Holds, checked}
use Rattle.strategy_lemmas.specs.Short.{ShortSteps, short}
use Rattle.certificate_citing.specs.declared.draft.Draft.{Draft}
use Rattle.certificate_citing.specs.declared.migrating.Migrated.{Migrated}
use Rattle.certificate_citing.specs.declared.migrating.Migrated.TheVariants.{Done, Refused, Halted, WriteFault, Memory}
use Rattle.certificate_citing.specs.TokenText.{token_lines}

-- What the walk of a whole certificate answers, by its outcome, and the lines that it wrote; `None`
-- if memory ran out.
abbrev pub ShortAnswers : WalkEnd ShortSteps Why → Option (Checked Why) → Draft → Type 0
ShortAnswers o None d = ⊤
ShortAnswers o (Some Accepted) d =
    (s : ShortSteps) × (o ≡ Left s) × (d.text ≡ token_lines s.written)
ShortAnswers o (Some (CheckRefused place why)) d = (n : ℕ) × (o ≡ Fault why n) × (place ≡ held n)
ShortAnswers o (Some (CheckHalted Bad)) d = (n : ℕ) × (o ≡ Halt n)
ShortAnswers o (Some (CheckHalted Failed)) d = ⊤
ShortAnswers o (Some (CheckHalted Full)) d = ⊤

-- the items are indices that hold, and the lines are those of the tokens written from them
pub record Shortens (p : Position) (d : ℕ) (m : Move) (v : ℤ) (items : List (Option ℕ))
    (lines : List ℕ) : Type 0 where
  pub indices : List ℕ
  pub are : items ≡ map (λ i. Some i) indices
  pub hold : Holds p d m v indices
  pub lines_are : lines ≡ token_lines (short p d m v indices)

-- What is answered and written if exactly these items were to come: a head and the lines of the
-- tokens, or an initial part of them if a write failed; otherwise what a check answers for the
-- indices.
abbrev pub MigrateAnswers : Position → ℕ → Move → ℤ → List (Option ℕ) → List ℕ → Migrated → Told
    → Told → Type 0
MigrateAnswers p d m v items head Done before after =
    (lines : List ℕ) × Shortens p d m v items lines × (after ≡ behind before (head ++ lines))
MigrateAnswers p d m v items head WriteFault before after =
    (lines : List ℕ) × Shortens p d m v items lines
    × (n : ℕ) × (n < length (head ++ lines)) × (after ≡ behind before (take n (head ++ lines)))
MigrateAnswers p d m v items head (Refused place why) before after =
    (n : ℕ) × (checked p d m v items ≡ Fault why n) × (place ≡ held n)
MigrateAnswers p d m v items head (Halted Bad) before after =
    (n : ℕ) × (checked p d m v items ≡ Halt n)
MigrateAnswers p d m v items head (Halted Failed) before after = ⊤
MigrateAnswers p d m v items head (Halted Full) before after = ⊤
MigrateAnswers p d m v items head Memory before after = ⊤

-- nothing was written unless it is done or a write failed
abbrev pub WritesLate : Migrated → Told → Told → Type 0
WritesLate Done before after = ⊤
WritesLate WriteFault before after = ⊤
WritesLate (Refused place why) before after = after ≡ before
WritesLate (Halted why) before after = after ≡ before
WritesLate Memory before after = after ≡ before

-- what a check answered for the indices; `None` if memory ran out
abbrev pub answered : Migrated → Option (Checked Why)
answered Done = Some Accepted
answered WriteFault = Some Accepted
answered (Refused place why) = Some (CheckRefused place why)
answered (Halted answer) = Some (CheckHalted answer)
answered Memory = None
