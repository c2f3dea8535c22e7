-- What contracts know of the two links of a match, and what was done over them.
use Rattle.std.specs.Prelude.{◌≡◌, ℕ, ◌<◌, List, [], Some}
use Rattle.io_edge.specs.Outside.{Told, ToldLists, Rose, Starts, Collects, with_last}
use Rattle.io_edge.specs.Starts.{Engines}
use Rattle.command_runs.specs.World.{Times}
use Rattle.match_core.specs.Setups.{FullSetup}
use Rattle.match_core.specs.MatchState.{MatchState}
use Rattle.match_runner.specs.Wires.{IsFresh, Wire}
use Rattle.match_command.specs.Match.{BothStarted, FewerStarted, IsPlayedBy, NoneIsOpen, PlayedOut, SendsNothing}

-- two programs were started, one after the other; of each is known what it will say, and what it
-- got
abbrev pub StartsTwo : ToldLists → ToldLists → Told → Told → Told → Told → Type 0
StartsTwo before after white_says white_got black_says black_got =
    (between : ToldLists)
    × Starts before between white_says white_got
    × Starts between after black_says black_got

-- A program was started by these words. This is its link, and no call of it has failed. No program
-- was closed, and no program's failure was counted.
pub record StartsOne (words : List (List ℕ)) (link : Wire) (before after : Engines) : Type 0 where
  pub fresh : IsFresh link.reads link.writes
  pub next : Starts before.to_come after.to_come link.rest link.written
  pub named : after.started ≡ with_last before.started words
  pub sent : after.sent ≡ before.sent
  pub failed : after.engine_faults ≡ before.engine_faults

-- White's program was started by its words, then black's. These are their links, and no call of
-- them has failed. No program was closed, and no program's failure was counted.
pub record StartsBoth
    (white black : List (List ℕ)) (w b : Wire) (before after : Engines) : Type 0 where
  pub white_fresh : IsFresh w.reads w.writes
  pub black_fresh : IsFresh b.reads b.writes
  pub next : StartsTwo before.to_come after.to_come w.rest w.written b.rest b.written
  pub named : BothStarted white black before after
  pub sent : after.sent ≡ before.sent
  pub failed : after.engine_faults ≡ before.engine_faults

-- no program was started, and one was closed that had got this
pub record ClosesOne (got : Told) (before after : Engines) : Type 0 where
  pub to_come : after.to_come ≡ before.to_come
  pub started : after.started ≡ before.started
  pub closed : Collects before.sent after.sent got

-- Of two programs none was started, or only white's, by its words. No byte was sent to it, and it
-- is not left open.
pub record StartsFewer (white : List (List ℕ)) (before after : Engines) : Type 0 where
  pub named : FewerStarted white before after
  pub unsent : SendsNothing before after
  pub closed : NoneIsOpen before after

-- two programs were closed, one after the other; of each is known what it got
abbrev pub ClosesTwo : ToldLists → ToldLists → Told → Told → Type 0
ClosesTwo before after white_got black_got =
    (between : ToldLists) × Collects before between white_got × Collects between after black_got

-- if either of two closed programs had failed, a failure was counted
pub record CountsEither (white_faults black_faults before after : ℕ) : Type 0 where
  pub white : 0 < white_faults → Rose before after
  pub black : 0 < black_faults → Rose before after

-- a match was played to its end over two links with these states at its start, and both were closed
pub record PlayedOver
    (setup : FullSetup) (t : MatchState) (w0 b0 : Wire) (from to : Times) (before after : Engines)
    : Type 0 where
  pub out : PlayedOut setup t from to before after
  pub by_links :
      (white black : List ℕ)
      → w0.rest ≡ Some white
      → b0.rest ≡ Some black
      → w0.written ≡ Some []
      → b0.written ≡ Some []
      → IsPlayedBy setup white black t before after
