-- The lines to come, as a function of a reader and of the known bytes of its source.
use Rattle.std.specs.Prelude.{◌≡◌, ℕ, List, [], ◌∷◌, ◌++◌, if◌then◌else◌}
use Rattle.std.specs.Option.{option_map}
use Rattle.io_edge.specs.Outside.{Told}
use Rattle.io_edge.specs.Lines.{Line as OneLine, Text, TooLong as LongLine, lines, whole_lines, ToldLines, NoneAhead, LongAhead}
use Rattle.line_feed.specs.Feed.{Reading, pending}
use Rattle.line_feed.specs.declared.line_answers.LineAnswer.{LineAnswer}
use Rattle.line_feed.specs.declared.line_answers.LineAnswer.TheVariants.{Line, TooLong, End, Failed, Full}
use Rattle.line_feed.specs.declared.line_answers.ShortAnswer.{ShortAnswer}
use Rattle.line_feed.specs.declared.line_answers.ShortAnswer.TheVariants.{Line as ShortLine, Long, End as ShortEnd, Failed as ShortFailed, Full as ShortFull}

-- The lines that a reader still gives if exactly these bytes follow. It gives none once it has met
-- the end.
abbrev pub lines_left : Reading → List ℕ → List OneLine
lines_left r bytes = if r.finished then [] else lines (pending r ++ bytes)

-- those of them that end in an LF
abbrev pub whole_left : Reading → List ℕ → List OneLine
whole_left r bytes = if r.finished then [] else whole_lines (pending r ++ bytes)

-- the lines to come
unfoldable pub ahead_of : Reading → Told → ToldLines
ahead_of r rest = option_map (lines_left r) rest

-- the lines to come that end in an LF
unfoldable pub whole_ahead_of : Reading → Told → ToldLines
whole_ahead_of r rest = option_map (whole_left r) rest

-- What an answer does to the lines to come. A line that is given or skipped was the first of them.
-- At the end there is none. A failure or a full reader leaves them as they were.
abbrev pub Advances : LineAnswer → List ℕ → ToldLines → ToldLines → Type 0
Advances Line last old new = old ≡ option_map (λ left. Text last ∷ left) new
Advances TooLong last old new = old ≡ option_map (λ left. LongLine ∷ left) new
Advances End last old new = NoneAhead old × NoneAhead new
Advances Failed last old new = new ≡ old
Advances Full last old new = new ≡ old

-- The same for calls that read no further than a line may go. A line that is too long is the first
-- of the lines to come and stays so.
abbrev pub AdvancesShort : ShortAnswer → List ℕ → ToldLines → ToldLines → Type 0
AdvancesShort ShortLine last old new = old ≡ option_map (λ left. Text last ∷ left) new
AdvancesShort Long last old new = LongAhead old × (new ≡ old)
AdvancesShort ShortEnd last old new = NoneAhead old × NoneAhead new
AdvancesShort ShortFailed last old new = new ≡ old
AdvancesShort ShortFull last old new = new ≡ old
