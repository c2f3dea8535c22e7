use Rattle.std.proofs.Common.{◌≡◌, ◌<◌, ◌≤◌, ◌-◌, ◌+◌, [], length, vec_len, vec_capacity}
use Rattle.line_feed.specs.Feed.{input_limit, piece}
use Rattle.line_feed.specs.Bytes.{looked}
use Rattle.line_feed.specs.Looks.{Looked, most_kept}
use Rattle.line_feed.proofs.parts.read_short_part.Given as goal

abbrev pub invariant-part : goal.invariant-part
invariant-part g l = record {
  read : Looked (g.S.Source.rest l.initial.source) (g.S.Source.rest l.source) l.initial.feed l.feed l.initial.part.items l.part.items [];
  all : looked l.feed + length l.initial.part.items ≡ looked l.initial.feed + length l.part.items;
  same : g.S.Source.read_faults l.source ≡ g.S.Source.read_faults l.initial.source;
  aside : g.S.Source.source_aside l.source ≡ g.S.Source.source_aside l.initial.source;
  short : vec_len l.part ≤ most_kept;
  room : most_kept ≤ vec_capacity l.part;
  counted : length l.feed.ahead ≤ l.feed.taken;
  bounded : l.feed.taken ≤ input_limit;
  little : length l.feed.ahead < piece;
}

abbrev pub decreases-part : goal.decreases-part
decreases-part g l = input_limit - looked l.feed
