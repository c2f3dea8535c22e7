-- The claim of a head, and what is judged of a text if its head has none.
use Rattle.std.specs.Prelude.{◌≡◌, ◌≢◌, ℕ, List, Result, Ok, Err}
use Rattle.io_edge.specs.Outside.{Told}
use Rattle.hive_model.specs.Histories.{History}
use Rattle.io_edge.specs.Lines.{Line}
use Rattle.line_feed.specs.Feed.{Reading}
use Rattle.certificate_walks.specs.declared.claim.Claim.{Claim}
use Rattle.certificate_text.specs.declared.head.Head.{Head}
use Rattle.certificate_text.specs.Taken.{HasRead}
use Rattle.certificate_verdicts.specs.declared.verdict.TextVerdict.{TextVerdict}
use Rattle.certificate_verdicts.specs.declared.verdict.TextVerdict.TheVariants.{Accepted}
use Rattle.certificate_verdicts.specs.declared.verdict.Unread.{Unread}
use Rattle.certificate_verdicts.specs.declared.verdict.Unread.TheVariants.{ReadFault}
use Rattle.certificate_verdicts.specs.Reading.{Judges, WasReadAs}
use Rattle.certificate_walks.specs.Claims.{IsClaimOf}
use Rattle.certificate_commands.specs.Verdicts.{claimed_move, of_claim}

-- The game in progress is that of the head, and is not over. The claim can be judged of it. It has
-- the depth and the value of the head, and the move that the text of the head denotes.
pub record Claims (head : Head) (history : History) (claim : Claim) : Type 0 where
  pub kind : history.game_type ≡ head.game_type
  pub made : history.made ≡ head.moves
  pub may_be : IsClaimOf history claim.depth claim.value
  pub depth : claim.depth ≡ head.depth
  pub value : claim.value ≡ head.value
  pub denotes : claimed_move head ≡ Ok claim.best

-- This is judged of a text by its head alone, whatever lines are after it. It is not acceptance, no
-- read failed, and no line was read after the head.
pub record NoClaim (head : Head) (judged : Result TextVerdict Unread) : Type 0 where
  pub judges : (rest : List Line) → Judges judged (of_claim head rest)
  pub refuses : judged ≢ Ok Accepted
  pub has_read : judged ≢ Err ReadFault
  pub read : (text : List ℕ) (left : Told) (reader : Reading) → HasRead text left reader 5
      → WasReadAs 5 judged text left
