-- The verdict on the lines of a text as a certificate.
use Rattle.std.proofs.Common.{arith}
use Rattle.std.specs.Prelude.{ℕ, ◌+◌, ◌<◌, nat_eq, Bool, true, false, List, map, ℤ, Option, Result, Ok, Err, if◌then◌else◌}
use Rattle.hive_model.specs.declared.places.Move.{Move}
use Rattle.hive_model.specs.Positions.{Position, opening}
use Rattle.hive_model.specs.Legal.{is_over}
use Rattle.hive_model.specs.Games.{replay}
use Rattle.io_edge.specs.Lines.{Line}
use Rattle.move_text.specs.declared.faults.MoveFault.{MoveFault}
use Rattle.move_text.specs.Moves.{move_of}
use Rattle.certificate_walks.specs.Walks.{WalkEnd}
use Rattle.strategy_check.specs.declared.why.Why.TheVariants.{NoSuchMove, BadIndex, LeafFails, TooShort, Rest}
use Rattle.strategy_check.specs.Trace.{Steps, checked}
use Rattle.strategy_check.specs.declared.why.Why.{Why}
use Rattle.strategy_lemmas.specs.declared.tokens.Token.{Token}
use Rattle.strategy_lemmas.specs.declared.tokens.WhyCited.{WhyCited}
use Rattle.strategy_lemmas.specs.declared.tokens.WhyCited.TheVariants.{NoSuchMove as CitedNoMove, BadIndex as CitedBadIndex, BadCite as CitedBadCite, LeafFails as CitedLeafFails, TooShort as CitedTooShort, Rest as CitedRest}
use Rattle.strategy_lemmas.specs.Cited.{CitedSteps, cited_checked}
use Rattle.strategy_lemmas.specs.CitedChecks.{cited_looked_for}
use Rattle.certificate_citing.specs.TokenText.{token_in}
use Rattle.certificate_text.specs.declared.head.Head.{Head}
use Rattle.certificate_text.specs.Text.{head_of, index_in}
use Rattle.command_runs.specs.Input.{Sides}
use Rattle.command_runs.specs.declared.status.Status.{Status}
use Rattle.certificate_verdicts.specs.declared.verdict.TextVerdict.{TextVerdict}
use Rattle.certificate_verdicts.specs.declared.verdict.TextVerdict.TheVariants.{Refused, BadCite, GameOver}
use Rattle.certificate_verdicts.specs.Verdicts.{index_refusal, of_walk, walk_verdict}
use Rattle.certificate_verdicts.specs.Judging.{text_verdict}
use Rattle.certificate_verdicts.specs.Runs.{IsDecidedBehind, VerdictRun, not-yet}

-- the position at the end of the game of a head
abbrev pub end_of : Head → Position
end_of head = replay (opening head.game_type) head.moves

-- the move that is claimed there, legal or not, if its text denotes one
abbrev pub claimed_move : Head → Result Move MoveFault
claimed_move head = move_of head.game_type (end_of head).board head.claim_text

-- the verdict on indices after the head, for the claim that a move of a position is the best one
-- and has this value
abbrev pub of_items : Position → ℕ → Move → ℤ → List (Option ℕ) → TextVerdict
of_items p depth m v items = of_walk 5 (checked p depth m v items)

-- the verdict for a fault of tokens
abbrev pub of_why : ℕ → WhyCited → TextVerdict
of_why place CitedNoMove = Refused place NoSuchMove
of_why place CitedBadIndex = Refused place BadIndex
of_why place CitedBadCite = BadCite place
of_why place CitedLeafFails = Refused place LeafFails
of_why place CitedTooShort = Refused place TooShort
of_why place CitedRest = Refused place Rest

-- the verdict on the walk of tokens
abbrev pub of_cited : ℕ → WalkEnd CitedSteps WhyCited → TextVerdict
of_cited = walk_verdict of_why

-- the verdict on tokens after the head, for such a claim
abbrev pub of_tokens : Position → ℕ → Move → ℤ → List (Option Token) → TextVerdict
of_tokens p depth m v items = of_cited 5 (cited_checked p depth m v items)

-- the verdict on the lines after a head of this version: indices in the first version, and tokens
-- in the second
abbrev pub of_lines : ℕ → Position → ℕ → Move → ℤ → List Line → TextVerdict
of_lines version p depth m v rest =
    if nat_eq version 1 then of_items p depth m v (map index_in rest)
    else of_tokens p depth m v (map token_in rest)

-- The same for the text of a move. One that denotes no move is refused like a move that is not
-- legal.
abbrev pub of_move : ℕ → Position → ℕ → Result Move MoveFault → ℤ → List Line → TextVerdict
of_move version p depth (Ok m) v rest = of_lines version p depth m v rest
of_move version p depth (Err fault) v rest = Refused 0 NoSuchMove

-- The same for a head and the lines after it. A game that is over has no claim.
abbrev pub of_claim : Head → List Line → TextVerdict
of_claim head rest =
    if is_over (end_of head) then GameOver
    else of_move head.version (end_of head) head.depth (claimed_move head) head.value rest

-- the verdict on the lines of a text
abbrev pub verdict : List Line → TextVerdict
verdict = text_verdict 5 (head_of 2) of_claim

-- what was written and read if `check` ends with this status
abbrev pub CheckRun : Status → Sides → Sides → Type 0
CheckRun = VerdictRun 5 verdict

-- if fewer lines were read than were looked for before a fault of tokens, they do not decide
pub why-decides : (head lines place : ℕ) (why : WhyCited)
    → lines < head + place + cited_looked_for why → IsDecidedBehind head (of_why place why) lines
why-decides head lines place CitedNoMove few = few
why-decides head lines place CitedBadIndex few = few
why-decides head lines place CitedBadCite few = omega (arith, few)
why-decides head lines place CitedLeafFails few = few
why-decides head lines place CitedTooShort few = few
why-decides head lines place CitedRest few = few

-- the lines of the head alone never decide the verdict on a claim

why-later : (n place : ℕ) (why : WhyCited) → n < 5 → IsDecidedBehind 5 (of_why place why) n
why-later n place why less = why-decides 5 n place why (omega (arith, less))

lines-later : (n : ℕ) (first : Bool) (o : WalkEnd Steps Why) (c : WalkEnd CitedSteps WhyCited)
    → n < 5 → IsDecidedBehind 5 (if first then of_walk 5 o else of_cited 5 c) n
lines-later n true o c less =
    not-yet index_refusal 5 n o (λ place why. omega (arith, less)) less (omega arith)
lines-later n false o c less =
    not-yet of_why 5 n c (λ place why. why-later n place why less) less (omega arith)

move-later : (n version : ℕ) (p : Position) (depth : ℕ) (m : Result Move MoveFault) (v : ℤ)
    (rest : List Line) → n < 5 → IsDecidedBehind 5 (of_move version p depth m v rest) n
move-later n version p depth (Ok m) v rest less =
    lines-later n (nat_eq version 1) (checked p depth m v (map index_in rest))
    (cited_checked p depth m v (map token_in rest)) less
move-later n version p depth (Err fault) v rest less = omega (arith, less)

claim-later : (n : ℕ) (over : Bool) (v : TextVerdict) → n < 5 → IsDecidedBehind 5 v n
    → IsDecidedBehind 5 (if over then GameOver else v) n
claim-later n true v less later = less
claim-later n false v less later = later

pub claim-not-yet : (head : Head) (rest : List Line) (n : ℕ) → n < 5
    → IsDecidedBehind 5 (of_claim head rest) n
claim-not-yet head rest n less =
    let move = claimed_move head in
    claim-later n (is_over (end_of head))
    (of_move head.version (end_of head) head.depth move head.value rest) less
    (move-later n head.version (end_of head) head.depth move head.value rest less)
