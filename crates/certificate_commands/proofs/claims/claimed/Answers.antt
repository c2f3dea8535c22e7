use Rattle.std.proofs.Common.{◌≡◌, ◌∙◌, rules, sym}
use Rattle.std.specs.Prelude.{Err}
use Rattle.hive_model.specs.Histories.{position}
use Rattle.move_text.specs.Moves.{move_of}
use Rattle.certificate_commands.proofs.ClaimLaws.{denoted, none-of-move, none-of-over}
use Rattle.certificate_commands.proofs.claims.claimed.Goals as goal

pub returns-then-is_over-clause-none : goal.returns-then-is_over-clause-none
returns-then-is_over-clause-none g c =
    none-of-over c.args.head.now (g.G.Game.history c.in-Ok.game) c.in-Ok.ensures.kind (c.in-Ok.ensures.made ∙ c.items.ensures) (sym c.is_over.ensures ∙ c.if-is_over.true)

pub returns-in-Err-clause-none : goal.returns-in-Err-clause-none
returns-in-Err-clause-none g c =
    let head = c.args.head.now in
    let start = g.G.Game.history c.in-Ok.game in
    let kind = c.in-Ok.ensures.kind in
    let made : start.made ≡ head.moves = c.in-Ok.ensures.made ∙ c.items.ensures in
    let board : g.G.Board.stacks c.in-Ok.game ≡ (position start).board = search rules in
    let read : Err c.in-Err.field-0 ≡ move_of head.game_type (position start).board head.claim_text =
    c.in-Err.ensures.computes ∙ (λ i. move_of head.game_type (board i) (c.items-2.ensures i)) in
    none-of-move head start c.in-Err.field-0 kind made (sym c.is_over.ensures ∙ c.if-is_over.false) (denoted head start (Err c.in-Err.field-0) kind made read)
