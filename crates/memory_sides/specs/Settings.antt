-- How the sides of a run in memory are set up, and the states made from that.
use Rattle.std.specs.Prelude.{ℕ, List, [], ◌∷◌, map, false, Option, None, Some, slice_get, codes}
use Rattle.io_edge.specs.Calls.{new_calls}
use Rattle.io_edge.specs.Memory.{SourceState, SinkState, LinkState, as_new}
use Rattle.io_edge.specs.Starts.{SpawnerState}
use Rattle.memory_sides.specs.declared.settings.MemSetting.{MemSetting}

-- The bytes to read, the greatest sizes of the pieces of both sides, and the numbers of the read
-- and of the write that fail.
pub record Setting : Type 0 where
  pub input : List ℕ
  pub sizes : List ℕ
  pub failing_read : ℕ
  pub failing_write : ℕ

-- what a setting borrows, and its numbers
abbrev pub setting_of : MemSetting → Setting
setting_of setting = record {
  input = setting.input.now;
  sizes = setting.pieces.now;
  failing_read = setting.failing_read;
  failing_write = setting.failing_write;
}

-- this text, in pieces of any size, and no call fails
abbrev pub says : List ℕ → Setting
says text = record { input = text; sizes = []; failing_read = 0; failing_write = 0 }

-- the source before any call
abbrev pub source_of : Setting → SourceState
source_of setting = record {
  left = setting.input;
  sizes = setting.sizes;
  calls = new_calls (setting.failing_read ∷ []);
}

-- the sink before any call, with no byte taken
abbrev pub sink_of : Setting → SinkState
sink_of setting = record {
  written = [];
  sizes = setting.sizes;
  calls = new_calls (setting.failing_write ∷ []);
}

-- both sides of a program
abbrev pub link_of : Setting → LinkState
link_of setting = record { source = source_of setting; sink = sink_of setting }

-- a starter of these links before any start; the start of this number fails
abbrev pub spawner_of : List LinkState → ℕ → SpawnerState
spawner_of links failing = record {
  coming = map as_new links;
  closed = [];
  lost = false;
  started = [];
  calls = new_calls (failing ∷ []);
  failed = 0;
}

-- what was written to a link; if there is none, a text says so
abbrev pub sent_over : Option LinkState → List ℕ
sent_over None = codes "none was closed"
sent_over (Some link) = link.sink.written

-- what was written to the closed link of this number, from 0
abbrev pub sent_to : List LinkState → ℕ → List ℕ
sent_to closed number = sent_over (slice_get closed number)
