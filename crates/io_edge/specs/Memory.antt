-- What sources, sinks and links in memory hold, and what a call on them does.
use Rattle.std.specs.Prelude.{◌≡◌, ℕ, min, List, [], length, ⊤, true, false}
use Rattle.io_edge.specs.Calls.{Calls, new_calls, next_number, next_fails, CountsCall, piece_of}
use Rattle.io_edge.specs.declared.io_answers.ReadAnswer.{ReadAnswer}
use Rattle.io_edge.specs.declared.io_answers.ReadAnswer.TheVariants.{Got, End, Failed as ReadFailed}
use Rattle.io_edge.specs.declared.io_answers.WriteAnswer.{WriteAnswer}
use Rattle.io_edge.specs.declared.io_answers.WriteAnswer.TheVariants.{Took, Failed as WriteFailed}

-- bytes that are left, and the greatest sizes of the pieces in which they come
pub record Supply : Type 0 where
  pub left : List ℕ
  pub sizes : List ℕ

-- a source: the bytes that are left, the greatest sizes of its pieces, and its calls
pub record SourceState : Type 0 where
  pub left : List ℕ
  pub sizes : List ℕ
  pub calls : Calls

-- a source that never fails: only the number of its calls is kept
pub record SureState : Type 0 where
  pub left : List ℕ
  pub sizes : List ℕ
  pub made : ℕ

-- a sink: the bytes that it took, the greatest sizes of its pieces, and its calls
pub record SinkState : Type 0 where
  pub written : List ℕ
  pub sizes : List ℕ
  pub calls : Calls

-- a link: its side that is read, and its side that is written
pub record LinkState : Type 0 where
  pub source : SourceState
  pub sink : SinkState

-- what comes of the bytes left, in the call of this number and in a buffer of this length: the
-- call's piece, or the end where none is left
abbrev pub Gives : ReadAnswer → List ℕ → List ℕ → ℕ → ℕ → Type 0
Gives (Got n) left sizes call room = n ≡ piece_of sizes call (min (length left) room)
Gives End left sizes call room = left ≡ []
Gives ReadFailed left sizes call room = ⊥

-- a read fails exactly where its number is on the list
abbrev pub AnswersRead : ReadAnswer → SourceState → ℕ → Type 0
AnswersRead (Got n) source room =
    (next_fails source.calls ≡ false) × Gives (Got n) source.left source.sizes
    (next_number source.calls) room
AnswersRead End source room =
    (next_fails source.calls ≡ false) × Gives End source.left source.sizes
    (next_number source.calls) room
AnswersRead ReadFailed source room = next_fails source.calls ≡ true

-- a read of a source, into a buffer of this length: what it answers, and how it is counted
pub record ReadsInMemory (answer : ReadAnswer) (room : ℕ) (before now : SourceState) : Type 0 where
  pub answers : AnswersRead answer before room
  pub counted : CountsCall (answer ≡ ReadFailed) before.calls now.calls
  pub sizes : now.sizes ≡ before.sizes

-- a write whose number is on the list takes nothing; a failure of another number is want of memory,
-- of which nothing is said
abbrev pub AnswersWrite : WriteAnswer → SinkState → ℕ → Type 0
AnswersWrite (Took n) sink bytes =
    (next_fails sink.calls ≡ false) × (n ≡ piece_of sink.sizes (next_number sink.calls) bytes)
AnswersWrite WriteFailed sink bytes = ⊤

-- a write of so many bytes to a sink: what it answers, and how it is counted
pub record WritesInMemory (answer : WriteAnswer) (bytes : ℕ) (before now : SinkState) : Type 0 where
  pub answers : AnswersWrite answer before bytes
  pub counted : CountsCall (answer ≡ WriteFailed) before.calls now.calls
  pub sizes : now.sizes ≡ before.sizes

-- a link as it is handed out: no call was made, no call has failed, and nothing is written
abbrev pub as_new : LinkState → LinkState
as_new link = record {
  source = record link.source { calls = new_calls link.source.calls.failing };
  sink = record {
    written = [];
    sizes = link.sink.sizes;
    calls = new_calls link.sink.calls.failing;
  };
}
