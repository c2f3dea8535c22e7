use Rattle.std.proofs.Common.{rules, arith, subst, ◌≡◌, sym, ◌∙◌}
use Rattle.std.specs.Prelude.{Result, Err}
use Rattle.line_feed.specs.Ahead.{ahead_of}
use Rattle.certificate_text.specs.declared.head.HeadFault.{HeadFault}
use Rattle.certificate_text.specs.declared.head.HeadFault.TheVariants.{ReadFault}
use Rattle.certificate_text.specs.Heads.{Reads}
use Rattle.certificate_text.specs.Text.{field_in, game_in}
use Rattle.certificate_text.proofs.TextLaws.{goes-on, ends-here, breaks-off}
use Rattle.win_commands.specs.declared.head.Head.{Head}
use Rattle.win_commands.specs.Text.{answer_at, plies_at, version_at}
use Rattle.win_commands.specs.Verdicts.{head_of}
use Rattle.win_commands.proofs.HeadLaws.{after_answer, after_game, after_plies, after_version, begins, behind-answer, behind-none, behind-plies, behind-version}
use Rattle.win_commands.proofs.head.read_head.Goals as goal

pub returns-in_err-read_field-clause-told : goal.returns-in_err-read_field-clause-told
returns-in_err-read_field-clause-told g c = λ lines told.
    let so0 = begins lines _ told in
    let over : c.from_residual.result ≡ Err c.in_err-read_field.field-0.0 = search rules in
    subst (λ (r : Result Head HeadFault). Reads 4 r (head_of lines) lines (ahead_of c.read_field.new.reader (g.S.Source.rest c.read_field.new.source))) (sym over)
    (ends-here (field_in 1 version_at) (after_version lines) (head_of lines) lines 0 4 c.in_err-read_field.field-0.0 _ _ (ahead_of c.read_field.new.reader (g.S.Source.rest c.read_field.new.source)) so0 c.in_err-read_field.ensures.told)

pub returns-in_err-game-clause-told : goal.returns-in_err-game-clause-told
returns-in_err-game-clause-told g c = λ lines told.
    let so0 = begins lines _ told in
    let so1 = goes-on (field_in 1 version_at) (after_version lines) (head_of lines) lines 0 _ _ _ so0 c.in_ok-read_field.ensures.told in
    let over : c.from_residual-in_err-game.result ≡ Err c.in_err-game.field-0.0 = search rules in
    subst (λ (r : Result Head HeadFault). Reads 4 r (head_of lines) lines (ahead_of c.read_game_line.new.reader (g.S.Source.rest c.read_game_line.new.source))) (sym over)
    (ends-here game_in (after_game lines) (head_of lines) lines 1 4 c.in_err-game.field-0.0 _ _ (ahead_of c.read_game_line.new.reader (g.S.Source.rest c.read_game_line.new.source)) so1 c.in_err-game.ensures.told)

pub returns-in_err-plies-clause-told : goal.returns-in_err-plies-clause-told
returns-in_err-plies-clause-told g c = λ lines told.
    let so0 = begins lines _ told in
    let so1 = goes-on (field_in 1 version_at) (after_version lines) (head_of lines) lines 0 _ _ _ so0 c.in_ok-read_field.ensures.told in
    let so2 = goes-on game_in (after_game lines) (head_of lines) lines 1 c.in_ok-game.game _ _ so1 c.in_ok-game.ensures.told in
    let over : c.from_residual-in_err-plies.result ≡ Err c.in_err-plies.field-0.0 = search rules in
    subst (λ (r : Result Head HeadFault). Reads 4 r (head_of lines) lines (ahead_of c.read_field-2.new.reader (g.S.Source.rest c.read_field-2.new.source))) (sym over)
    (ends-here (field_in 3 plies_at) (after_plies lines c.in_ok-game.game) (head_of lines) lines 2 4 c.in_err-plies.field-0.0 _ _ (ahead_of c.read_field-2.new.reader (g.S.Source.rest c.read_field-2.new.source)) so2 c.in_err-plies.ensures.told)

pub returns-in_err-answer-clause-told : goal.returns-in_err-answer-clause-told
returns-in_err-answer-clause-told g c = λ lines told.
    let so0 = begins lines _ told in
    let so1 = goes-on (field_in 1 version_at) (after_version lines) (head_of lines) lines 0 _ _ _ so0 c.in_ok-read_field.ensures.told in
    let so2 = goes-on game_in (after_game lines) (head_of lines) lines 1 c.in_ok-game.game _ _ so1 c.in_ok-game.ensures.told in
    let so3 = goes-on (field_in 3 plies_at) (after_plies lines c.in_ok-game.game) (head_of lines) lines 2 c.in_ok-plies.plies _ _ so2 c.in_ok-plies.ensures.told in
    let over : c.from_residual-in_err-answer.result ≡ Err c.in_err-answer.field-0.0 = search rules in
    subst (λ (r : Result Head HeadFault). Reads 4 r (head_of lines) lines (ahead_of c.read_field-3.new.reader (g.S.Source.rest c.read_field-3.new.source))) (sym over)
    (ends-here (field_in 4 answer_at) (after_answer c.in_ok-game.game c.in_ok-plies.plies) (head_of lines) lines 3 4 c.in_err-answer.field-0.0 _ _ (ahead_of c.read_field-3.new.reader (g.S.Source.rest c.read_field-3.new.source)) so3 c.in_err-answer.ensures.told)

pub returns-clause-told : goal.returns-clause-told
returns-clause-told g c = λ lines told.
    let so0 = begins lines _ told in
    let so1 = goes-on (field_in 1 version_at) (after_version lines) (head_of lines) lines 0 _ _ _ so0 c.in_ok-read_field.ensures.told in
    let so2 = goes-on game_in (after_game lines) (head_of lines) lines 1 c.in_ok-game.game _ _ so1 c.in_ok-game.ensures.told in
    let so3 = goes-on (field_in 3 plies_at) (after_plies lines c.in_ok-game.game) (head_of lines) lines 2 c.in_ok-plies.plies _ _ so2 c.in_ok-plies.ensures.told in
    let so4 = goes-on (field_in 4 answer_at) (after_answer c.in_ok-game.game c.in_ok-plies.plies) (head_of lines) lines 3 c.in_ok-answer.answer _ _ so3 c.in_ok-answer.ensures.told in
    (so4.so, so4.told)

pub returns-in_err-read_field-clause-unread : goal.returns-in_err-read_field-clause-unread
returns-in_err-read_field-clause-unread g c = λ lines told text r e.
    let so0 = begins lines _ told in
    let over : c.from_residual.result ≡ Err c.in_err-read_field.field-0.0 = search rules in
    let failed : c.in_err-read_field.field-0.0 ≡ ReadFault = (let same = sym over ∙ e in cc) in
    breaks-off 0 4 1 (head_of lines) _ lines c.in_err-read_field.field-0.0 text _ _ _ (omega arith) (omega arith) so0 (c.in_err-read_field.ensures.taken.read text 0 (omega arith) r) failed (behind-none lines)

pub returns-in_err-game-clause-unread : goal.returns-in_err-game-clause-unread
returns-in_err-game-clause-unread g c = λ lines told text r e.
    let so0 = begins lines _ told in
    let so1 = goes-on (field_in 1 version_at) (after_version lines) (head_of lines) lines 0 _ _ _ so0 c.in_ok-read_field.ensures.told in
    let r1 = c.in_ok-read_field.ensures.taken.read text 0 (omega arith) r in
    let over : c.from_residual-in_err-game.result ≡ Err c.in_err-game.field-0.0 = search rules in
    let failed : c.in_err-game.field-0.0 ≡ ReadFault = (let same = sym over ∙ e in cc) in
    breaks-off 1 4 2 (head_of lines) _ lines c.in_err-game.field-0.0 text _ _ _ (omega arith) (omega arith) so1 (c.in_err-game.ensures.taken.read text 1 (omega arith) r1) failed (behind-version 1 lines 1 (omega arith))

pub returns-in_err-plies-clause-unread : goal.returns-in_err-plies-clause-unread
returns-in_err-plies-clause-unread g c = λ lines told text r e.
    let so0 = begins lines _ told in
    let so1 = goes-on (field_in 1 version_at) (after_version lines) (head_of lines) lines 0 _ _ _ so0 c.in_ok-read_field.ensures.told in
    let so2 = goes-on game_in (after_game lines) (head_of lines) lines 1 c.in_ok-game.game _ _ so1 c.in_ok-game.ensures.told in
    let r1 = c.in_ok-read_field.ensures.taken.read text 0 (omega arith) r in
    let r2 = c.in_ok-game.ensures.taken.read text 1 (omega arith) r1 in
    let over : c.from_residual-in_err-plies.result ≡ Err c.in_err-plies.field-0.0 = search rules in
    let failed : c.in_err-plies.field-0.0 ≡ ReadFault = (let same = sym over ∙ e in cc) in
    breaks-off 2 4 3 (head_of lines) _ lines c.in_err-plies.field-0.0 text _ _ _ (omega arith) (omega arith) so2 (c.in_err-plies.ensures.taken.read text 2 (omega arith) r2) failed (behind-plies 2 lines c.in_ok-game.game (omega arith))

pub returns-in_err-answer-clause-unread : goal.returns-in_err-answer-clause-unread
returns-in_err-answer-clause-unread g c = λ lines told text r e.
    let so0 = begins lines _ told in
    let so1 = goes-on (field_in 1 version_at) (after_version lines) (head_of lines) lines 0 _ _ _ so0 c.in_ok-read_field.ensures.told in
    let so2 = goes-on game_in (after_game lines) (head_of lines) lines 1 c.in_ok-game.game _ _ so1 c.in_ok-game.ensures.told in
    let so3 = goes-on (field_in 3 plies_at) (after_plies lines c.in_ok-game.game) (head_of lines) lines 2 c.in_ok-plies.plies _ _ so2 c.in_ok-plies.ensures.told in
    let r1 = c.in_ok-read_field.ensures.taken.read text 0 (omega arith) r in
    let r2 = c.in_ok-game.ensures.taken.read text 1 (omega arith) r1 in
    let r3 = c.in_ok-plies.ensures.taken.read text 2 (omega arith) r2 in
    let over : c.from_residual-in_err-answer.result ≡ Err c.in_err-answer.field-0.0 = search rules in
    let failed : c.in_err-answer.field-0.0 ≡ ReadFault = (let same = sym over ∙ e in cc) in
    breaks-off 3 4 4 (head_of lines) _ lines c.in_err-answer.field-0.0 text _ _ _ (omega arith) (omega arith) so3 (c.in_err-answer.ensures.taken.read text 3 (omega arith) r3) failed (behind-answer 3 lines c.in_ok-game.game c.in_ok-plies.plies (omega arith))
