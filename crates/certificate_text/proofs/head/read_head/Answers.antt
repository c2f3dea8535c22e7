use mir.Syntax.{w32}
use mir.Val.{SFits}
use Rattle.std.proofs.lemmas.Int.{to_z-of_z}
use Rattle.std.proofs.Common.{rules, refl, subst, ◌≡◌, sym, ◌∙◌}
use Rattle.std.specs.Prelude.{Ok, Err}
use Rattle.certificate_text.specs.declared.head.HeadFault.TheVariants.{ReadFault}
use Rattle.line_feed.specs.Ahead.{ahead_of}
use Rattle.certificate_text.specs.Heads.{ReadsHead}
use Rattle.certificate_text.specs.Text.{HeadRead, version_at, depth_at, move_at, value_at, field_in, game_in, head_of}
use Rattle.certificate_text.proofs.TextLaws.{after_version, after_game, after_depth, after_text, head_is, begins, after-1, after-2, after-3, after-4, goes-on, ends-here, less, breaks-off, behind-none, behind-version, behind-depth, behind-text, behind-value}
use Rattle.certificate_text.proofs.TakenLaws.{fault-is, taken-ok, taken-short, taken-then}
use Rattle.certificate_text.proofs.head.read_head.Goals as goal

pub returns-in_err-version-clause-told : goal.returns-in_err-version-clause-told
returns-in_err-version-clause-told g c = λ lines told.
    let so0 = begins c.args.newest lines _ told in
    let over : c.from_residual.result ≡ Err c.in_err-version.field-0.0 = search rules in
    subst (λ (r : HeadRead). ReadsHead r (head_of c.args.newest lines) lines (ahead_of c.read_field.new.reader (g.S.Source.rest c.read_field.new.source))) (sym over)
    (ends-here (field_in 1 (version_at c.args.newest)) (after_version lines) (head_of c.args.newest lines) lines 0 5 c.in_err-version.field-0.0 _ _ (ahead_of c.read_field.new.reader (g.S.Source.rest c.read_field.new.source)) so0 c.in_err-version.ensures.told)

pub returns-in_err-game-clause-told : goal.returns-in_err-game-clause-told
returns-in_err-game-clause-told g c = λ lines told.
    let so1 = after-1 c.args.newest lines c.in_ok-version.version _ _ told c.in_ok-version.ensures.told in
    let over : c.from_residual-in_err-game.result ≡ Err c.in_err-game.field-0.0 = search rules in
    subst (λ (r : HeadRead). ReadsHead r (head_of c.args.newest lines) lines (ahead_of c.read_game_line.new.reader (g.S.Source.rest c.read_game_line.new.source))) (sym over)
    (ends-here game_in (after_game lines c.in_ok-version.version) (head_of c.args.newest lines) lines 1 5 c.in_err-game.field-0.0 _ _ (ahead_of c.read_game_line.new.reader (g.S.Source.rest c.read_game_line.new.source)) so1 c.in_err-game.ensures.told)

pub returns-in_err-depth-clause-told : goal.returns-in_err-depth-clause-told
returns-in_err-depth-clause-told g c = λ lines told.
    let so2 = after-2 c.args.newest lines c.in_ok-version.version c.in_ok-game.game _ _ _ told c.in_ok-version.ensures.told c.in_ok-game.ensures.told in
    let over : c.from_residual-in_err-depth.result ≡ Err c.in_err-depth.field-0.0 = search rules in
    subst (λ (r : HeadRead). ReadsHead r (head_of c.args.newest lines) lines (ahead_of c.read_field-2.new.reader (g.S.Source.rest c.read_field-2.new.source))) (sym over)
    (ends-here (field_in 3 depth_at) (after_depth lines c.in_ok-version.version c.in_ok-game.game) (head_of c.args.newest lines) lines 2 5 c.in_err-depth.field-0.0 _ _ (ahead_of c.read_field-2.new.reader (g.S.Source.rest c.read_field-2.new.source)) so2 c.in_err-depth.ensures.told)

pub returns-in_err-claim_text-clause-told : goal.returns-in_err-claim_text-clause-told
returns-in_err-claim_text-clause-told g c = λ lines told.
    let so3 = after-3 c.args.newest lines c.in_ok-version.version c.in_ok-game.game c.in_ok-depth.depth _ _ _ _ told c.in_ok-version.ensures.told c.in_ok-game.ensures.told c.in_ok-depth.ensures.told in
    let over : c.from_residual-in_err-claim_text.result ≡ Err c.in_err-claim_text.field-0.0 = search rules in
    subst (λ (r : HeadRead). ReadsHead r (head_of c.args.newest lines) lines (ahead_of c.read_field-3.new.reader (g.S.Source.rest c.read_field-3.new.source))) (sym over)
    (ends-here (field_in 4 move_at) (after_text lines c.in_ok-version.version c.in_ok-game.game c.in_ok-depth.depth) (head_of c.args.newest lines) lines 3 5 c.in_err-claim_text.field-0.0 _ _ (ahead_of c.read_field-3.new.reader (g.S.Source.rest c.read_field-3.new.source)) so3 c.in_err-claim_text.ensures.told)

pub returns-in_err-value-clause-told : goal.returns-in_err-value-clause-told
returns-in_err-value-clause-told g c = λ lines told.
    let so4 = after-4 c.args.newest lines c.in_ok-version.version c.in_ok-game.game c.in_ok-depth.depth c.in_ok-claim_text.claim_text _ _ _ _ _ told c.in_ok-version.ensures.told c.in_ok-game.ensures.told c.in_ok-depth.ensures.told c.in_ok-claim_text.ensures.told in
    let over : c.from_residual-in_err-value.result ≡ Err c.in_err-value.field-0.0 = search rules in
    subst (λ (r : HeadRead). ReadsHead r (head_of c.args.newest lines) lines (ahead_of c.read_field-4.new.reader (g.S.Source.rest c.read_field-4.new.source))) (sym over)
    (ends-here (field_in 5 value_at) (λ x. Ok (head_is c.in_ok-version.version c.in_ok-game.game c.in_ok-depth.depth c.in_ok-claim_text.claim_text x)) (head_of c.args.newest lines) lines 4 5 c.in_err-value.field-0.0 _ _ (ahead_of c.read_field-4.new.reader (g.S.Source.rest c.read_field-4.new.source)) so4 c.in_err-value.ensures.told)

pub returns-clause-told : goal.returns-clause-told
returns-clause-told g c =
    let fits : SFits w32 c.in_ok-value.value = search rules in
    λ lines told.
    let so4 = after-4 c.args.newest lines c.in_ok-version.version c.in_ok-game.game c.in_ok-depth.depth c.in_ok-claim_text.claim_text _ _ _ _ _ told c.in_ok-version.ensures.told c.in_ok-game.ensures.told c.in_ok-depth.ensures.told c.in_ok-claim_text.ensures.told in
    let so5 = goes-on (field_in 5 value_at) (λ x. Ok (head_is c.in_ok-version.version c.in_ok-game.game c.in_ok-depth.depth c.in_ok-claim_text.claim_text x)) (head_of c.args.newest lines) lines 4 c.in_ok-value.value _ _ so4 c.in_ok-value.ensures.told in
    subst (λ x. ReadsHead (Ok (head_is c.in_ok-version.version c.in_ok-game.game c.in_ok-depth.depth c.in_ok-claim_text.claim_text x)) (head_of c.args.newest lines) lines (ahead_of c.read_field-4.new.reader (g.S.Source.rest c.read_field-4.new.source))) (sym (to_z-of_z w32 c.in_ok-value.value fits)) (so5.so, so5.told)

pub returns-in_err-version-clause-unread : goal.returns-in_err-version-clause-unread
returns-in_err-version-clause-unread g c = λ lines told text r e.
    let so0 = begins c.args.newest lines _ told in
    let over : c.from_residual.result ≡ Err c.in_err-version.field-0.0 = search rules in
    let failed = fault-is c.in_err-version.field-0.0 ReadFault (sym over ∙ e) in
    breaks-off 0 5 1 (head_of c.args.newest lines) _ lines c.in_err-version.field-0.0 text _ _ _ refl (less 0 4) so0 (c.in_err-version.ensures.taken.read text 0 refl r) failed (behind-none c.args.newest lines)

pub returns-in_err-game-clause-unread : goal.returns-in_err-game-clause-unread
returns-in_err-game-clause-unread g c = λ lines told text r e.
    let so1 = after-1 c.args.newest lines c.in_ok-version.version _ _ told c.in_ok-version.ensures.told in
    let r1 = c.in_ok-version.ensures.taken.read text 0 refl r in
    let over : c.from_residual-in_err-game.result ≡ Err c.in_err-game.field-0.0 = search rules in
    let failed = fault-is c.in_err-game.field-0.0 ReadFault (sym over ∙ e) in
    breaks-off 1 5 2 (head_of c.args.newest lines) _ lines c.in_err-game.field-0.0 text _ _ _ refl (less 1 3) so1 (c.in_err-game.ensures.taken.read text 1 refl r1) failed (behind-version 1 lines c.in_ok-version.version (less 1 0))

pub returns-in_err-depth-clause-unread : goal.returns-in_err-depth-clause-unread
returns-in_err-depth-clause-unread g c = λ lines told text r e.
    let so2 = after-2 c.args.newest lines c.in_ok-version.version c.in_ok-game.game _ _ _ told c.in_ok-version.ensures.told c.in_ok-game.ensures.told in
    let r1 = c.in_ok-version.ensures.taken.read text 0 refl r in
    let r2 = c.in_ok-game.ensures.taken.read text 1 refl r1 in
    let over : c.from_residual-in_err-depth.result ≡ Err c.in_err-depth.field-0.0 = search rules in
    let failed = fault-is c.in_err-depth.field-0.0 ReadFault (sym over ∙ e) in
    breaks-off 2 5 3 (head_of c.args.newest lines) _ lines c.in_err-depth.field-0.0 text _ _ _ refl (less 2 2) so2 (c.in_err-depth.ensures.taken.read text 2 refl r2) failed (behind-depth 2 lines c.in_ok-version.version c.in_ok-game.game (less 2 0))

pub returns-in_err-claim_text-clause-unread : goal.returns-in_err-claim_text-clause-unread
returns-in_err-claim_text-clause-unread g c = λ lines told text r e.
    let so3 = after-3 c.args.newest lines c.in_ok-version.version c.in_ok-game.game c.in_ok-depth.depth _ _ _ _ told c.in_ok-version.ensures.told c.in_ok-game.ensures.told c.in_ok-depth.ensures.told in
    let r1 = c.in_ok-version.ensures.taken.read text 0 refl r in
    let r2 = c.in_ok-game.ensures.taken.read text 1 refl r1 in
    let r3 = c.in_ok-depth.ensures.taken.read text 2 refl r2 in
    let over : c.from_residual-in_err-claim_text.result ≡ Err c.in_err-claim_text.field-0.0 = search rules in
    let failed = fault-is c.in_err-claim_text.field-0.0 ReadFault (sym over ∙ e) in
    breaks-off 3 5 4 (head_of c.args.newest lines) _ lines c.in_err-claim_text.field-0.0 text _ _ _ refl (less 3 1) so3 (c.in_err-claim_text.ensures.taken.read text 3 refl r3) failed (behind-text 3 lines c.in_ok-version.version c.in_ok-game.game c.in_ok-depth.depth (less 3 0))

pub returns-in_err-value-clause-unread : goal.returns-in_err-value-clause-unread
returns-in_err-value-clause-unread g c = λ lines told text r e.
    let so4 = after-4 c.args.newest lines c.in_ok-version.version c.in_ok-game.game c.in_ok-depth.depth c.in_ok-claim_text.claim_text _ _ _ _ _ told c.in_ok-version.ensures.told c.in_ok-game.ensures.told c.in_ok-depth.ensures.told c.in_ok-claim_text.ensures.told in
    let r1 = c.in_ok-version.ensures.taken.read text 0 refl r in
    let r2 = c.in_ok-game.ensures.taken.read text 1 refl r1 in
    let r3 = c.in_ok-depth.ensures.taken.read text 2 refl r2 in
    let r4 = c.in_ok-claim_text.ensures.taken.read text 3 refl r3 in
    let over : c.from_residual-in_err-value.result ≡ Err c.in_err-value.field-0.0 = search rules in
    let failed = fault-is c.in_err-value.field-0.0 ReadFault (sym over ∙ e) in
    breaks-off 4 5 5 (head_of c.args.newest lines) _ lines c.in_err-value.field-0.0 text _ _ _ refl (less 4 0) so4 (c.in_err-value.ensures.taken.read text 4 refl r4) failed (behind-value 4 lines c.in_ok-version.version c.in_ok-game.game c.in_ok-depth.depth c.in_ok-claim_text.claim_text (less 4 0))

pub returns-in_err-version-clause-taken : goal.returns-in_err-version-clause-taken
returns-in_err-version-clause-taken g c =
    let over : c.from_residual.result ≡ Err c.in_err-version.field-0.0 = search rules in
    taken-short 1 1 5 5 4 c.in_err-version.field-0.0 _ _ _ _ _ _ _ refl refl over c.in_err-version.ensures.taken

pub returns-in_err-game-clause-taken : goal.returns-in_err-game-clause-taken
returns-in_err-game-clause-taken g c =
    let over : c.from_residual-in_err-game.result ≡ Err c.in_err-game.field-0.0 = search rules in
    taken-short 2 2 5 5 3 c.in_err-game.field-0.0 _ _ _ _ _ _ _ refl refl over
    (taken-then 1 1 1 2 _ _ _ _ _ _ _ _ _ _ _ refl c.in_ok-version.ensures.taken c.in_err-game.ensures.taken)

pub returns-in_err-depth-clause-taken : goal.returns-in_err-depth-clause-taken
returns-in_err-depth-clause-taken g c =
    let over : c.from_residual-in_err-depth.result ≡ Err c.in_err-depth.field-0.0 = search rules in
    taken-short 3 3 5 5 2 c.in_err-depth.field-0.0 _ _ _ _ _ _ _ refl refl over
    (taken-then 2 2 1 3 _ _ _ _ _ _ _ _ _ _ _ refl
    (taken-then 1 1 1 2 _ _ _ _ _ _ _ _ _ _ _ refl c.in_ok-version.ensures.taken c.in_ok-game.ensures.taken)
    c.in_err-depth.ensures.taken)

pub returns-in_err-claim_text-clause-taken : goal.returns-in_err-claim_text-clause-taken
returns-in_err-claim_text-clause-taken g c =
    let over : c.from_residual-in_err-claim_text.result ≡ Err c.in_err-claim_text.field-0.0 = search rules in
    taken-short 4 4 5 5 1 c.in_err-claim_text.field-0.0 _ _ _ _ _ _ _ refl refl over
    (taken-then 3 3 1 4 _ _ _ _ _ _ _ _ _ _ _ refl
    (taken-then 2 2 1 3 _ _ _ _ _ _ _ _ _ _ _ refl
    (taken-then 1 1 1 2 _ _ _ _ _ _ _ _ _ _ _ refl c.in_ok-version.ensures.taken c.in_ok-game.ensures.taken)
    c.in_ok-depth.ensures.taken)
    c.in_err-claim_text.ensures.taken)

pub returns-in_err-value-clause-taken : goal.returns-in_err-value-clause-taken
returns-in_err-value-clause-taken g c =
    let over : c.from_residual-in_err-value.result ≡ Err c.in_err-value.field-0.0 = search rules in
    taken-short 5 5 5 5 0 c.in_err-value.field-0.0 _ _ _ _ _ _ _ refl refl over
    (taken-then 4 4 1 5 _ _ _ _ _ _ _ _ _ _ _ refl
    (taken-then 3 3 1 4 _ _ _ _ _ _ _ _ _ _ _ refl
    (taken-then 2 2 1 3 _ _ _ _ _ _ _ _ _ _ _ refl
    (taken-then 1 1 1 2 _ _ _ _ _ _ _ _ _ _ _ refl c.in_ok-version.ensures.taken c.in_ok-game.ensures.taken)
    c.in_ok-depth.ensures.taken)
    c.in_ok-claim_text.ensures.taken)
    c.in_err-value.ensures.taken)

pub returns-clause-taken : goal.returns-clause-taken
returns-clause-taken g c =
    taken-ok 5 5 _ _ _ _ _ _ _ _
    (taken-then 4 4 1 5 _ _ _ _ _ _ _ _ _ _ _ refl
    (taken-then 3 3 1 4 _ _ _ _ _ _ _ _ _ _ _ refl
    (taken-then 2 2 1 3 _ _ _ _ _ _ _ _ _ _ _ refl
    (taken-then 1 1 1 2 _ _ _ _ _ _ _ _ _ _ _ refl c.in_ok-version.ensures.taken c.in_ok-game.ensures.taken)
    c.in_ok-depth.ensures.taken)
    c.in_ok-claim_text.ensures.taken)
    c.in_ok-value.ensures.taken)
