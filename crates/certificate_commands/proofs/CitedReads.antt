-- What was read of an input when a check of tokens ends.
use Rattle.std.proofs.Common.{◌≡◌, ◌≤◌, ℕ, ◌+◌, true, List, arith}
use Rattle.std.specs.Prelude.{Ok}
use Rattle.io_edge.specs.Outside.{Told}
use Rattle.line_feed.specs.Feed.{Reading}
use Rattle.strategy_check.specs.declared.why.Why.TheVariants.{NoSuchMove, BadIndex, LeafFails, TooShort, Rest}
use Rattle.strategy_lemmas.specs.declared.tokens.WhyCited.{WhyCited}
use Rattle.strategy_lemmas.specs.declared.tokens.WhyCited.TheVariants.{NoSuchMove as CitedNoMove, BadIndex as CitedBadIndex, BadCite as CitedBadCite, LeafFails as CitedLeafFails, TooShort as CitedTooShort, Rest as CitedRest}
use Rattle.strategy_lemmas.specs.CitedChecks.{OnShortCited, cited_looked_at}
use Rattle.certificate_text.specs.Taken.{HasRead}
use Rattle.certificate_text.proofs.TakenLaws.{read-more}
use Rattle.certificate_verdicts.specs.Reading.{WasReadAs}
use Rattle.certificate_verdicts.proofs.JudgeLaws.{most-read, refused-read}
use Rattle.certificate_commands.specs.Verdicts.{of_why}

-- what was read if this is the first fault of the tokens
pub fault-read-as : (head place lines : ℕ) (why : WhyCited) (text : List ℕ) (rest : Told) (reader : Reading) → lines ≤ place + cited_looked_at why → HasRead text rest reader (head + lines) → OnShortCited why (reader.finished ≡ true)
    → WasReadAs head (Ok (of_why place why)) text rest
fault-read-as head place lines CitedNoMove text rest reader few r stops = refused-read head place lines NoSuchMove text rest reader few r stops
fault-read-as head place lines CitedBadIndex text rest reader few r stops = refused-read head place lines BadIndex text rest reader few r stops
fault-read-as head place lines CitedBadCite text rest reader few r stops = most-read (head + place) text rest reader (read-more text rest reader (head + lines) (head + place) (omega (arith, few)) r)
fault-read-as head place lines CitedLeafFails text rest reader few r stops = refused-read head place lines LeafFails text rest reader few r stops
fault-read-as head place lines CitedTooShort text rest reader few r stops = refused-read head place lines TooShort text rest reader few r stops
fault-read-as head place lines CitedRest text rest reader few r stops = refused-read head place lines Rest text rest reader few r stops
