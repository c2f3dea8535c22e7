use Rattle.std.proofs.Common.{sym, subst, Some, option_map}
use Rattle.std.proofs.lemmas.Option.{none-some, same_Some}
use Rattle.command_words.specs.Matches.{IsLevelOf}
use Rattle.command_words.proofs.setup.setup_of.Goals as goal

pub returns-in_err-repetition-clause-only : goal.returns-in_err-repetition-clause-only
returns-in_err-repetition-clause-only c = λ s w. absurd (none-some _ (c.in_err-repetition.ensures.only s.repetition w.rule))

pub returns-clause-only : goal.returns-clause-only
returns-clause-only c = λ s w.
    let kind = same_Some _ _ (c.in_ok-game_type.ensures.only s.game_type w.kind) in
    let margin = same_Some _ _ (c.in_ok-margin.ensures.only w.margin w.margin_is) in
    let timed = subst (λ m. IsLevelOf (option_map (λ t. t.now) c.args.texts.depth) (option_map (λ t. t.now) c.args.texts.time) m s.level) (sym margin) w.level in
    let level = same_Some _ _ (c.in_ok-level.ensures.only s.level timed) in
    let limit = same_Some _ _ (c.in_ok-limit.ensures.only s.limit w.limit) in
    let rule = same_Some _ _ (c.in_ok-repetition.ensures.only s.repetition w.rule) in
    λ j. Some (record { game_type = kind j; level = level j; limit = limit j; repetition = rule j })
