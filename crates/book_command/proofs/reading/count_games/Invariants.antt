use Rattle.std.proofs.Common.{◌≡◌, ◌-◌}
use Rattle.line_feed.specs.Feed.{input_limit}
use Rattle.book_command.proofs.CountLaws.{Counting}
use Rattle.book_command.proofs.reading.count_games.Given as goal

abbrev pub invariant-games : goal.invariant-games
invariant-games g l = record {
  counting : Counting l.fn.reader l.reader (g.S.Source.rest l.fn.input) (g.S.Source.rest l.input) l.fn.tally l.tally l.number;
  reads : g.S.Source.read_faults l.input ≡ g.S.Source.read_faults l.fn.input;
}

abbrev pub decreases-games : goal.decreases-games
decreases-games g l = input_limit - l.reader.passed
