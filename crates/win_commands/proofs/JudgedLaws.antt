-- The verdict on lines with equal verdicts.
use Rattle.std.proofs.Common.{◌≡◌, ℕ, false, List, map, refl, sym, ap, subst, ◌∙◌}
use Rattle.std.specs.Prelude.{Result}
use Rattle.io_edge.specs.Outside.{Aside}
use Rattle.hive_model.specs.Histories.{History, position}
use Rattle.hive_model.specs.Legal.{is_over}
use Rattle.io_edge.specs.Lines.{Line}
use Rattle.hive_model.specs.Games.{replay}
use Rattle.hive_model.specs.Positions.{opening}
use Rattle.line_feed.specs.Feed.{Reading}
use Rattle.certificate_text.specs.Text.{index_in}
use Rattle.command_runs.specs.OneGame.{last_position}
use Rattle.certificate_verdicts.specs.declared.verdict.TextVerdict.{TextVerdict}
use Rattle.certificate_verdicts.specs.declared.verdict.Unread.{Unread}
use Rattle.certificate_verdicts.specs.Judging.{JudgesAhead}
use Rattle.certificate_verdicts.specs.Reading.{Judges}
use Rattle.certificate_verdicts.specs.Runs.{IsUndecided, Judgement}
use Rattle.certificate_verdicts.proofs.TextLaws.{if-open}
use Rattle.win_commands.specs.declared.head.Head.{Head}
use Rattle.win_commands.specs.Verdicts.{of_claim, of_items}

pub judges-as : (head most : ℕ) (worth other : Judgement) (result : Result TextVerdict Unread) (reader : Reading) (source later : Aside) → ((left : List Line) → worth left ≡ other left) → JudgesAhead head worth most result reader source later → JudgesAhead head other most result reader source later
judges-as head most worth other result reader source later same h = record {
  judged = λ left told. subst (λ (v : TextVerdict). Judges result v) (same left) (h.judged left told);
  cause = h.cause;
  read = h.read;
  unread = λ left told text r e. subst (λ (v : TextVerdict). IsUndecided head v text later.bytes) (same left) (h.unread left told text r e);
}

-- the answer of a head, as one about the game under way
pub claim-lines : (head : Head) (c : History) → c.game_type ≡ head.game.game_type → c.made ≡ head.game.moves → is_over (position c) ≡ false → (left : List Line) → of_items (position c) head.plies head.answer (map index_in left) ≡ of_claim head left
claim-lines head c kind made goes left =
    let there : position c ≡ last_position head.game = λ i. replay (opening (kind i)) (made i) in
    let open_ : is_over (last_position head.game) ≡ false = sym (ap is_over there) ∙ goes in
    (λ i. of_items (there i) head.plies head.answer (map index_in left))
    ∙ sym (if-open (is_over (last_position head.game)) (of_items (last_position head.game) head.plies head.answer (map index_in left)) open_)
