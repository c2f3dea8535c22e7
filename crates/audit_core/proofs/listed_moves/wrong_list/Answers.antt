use Rattle.std.proofs.Common.{◌≡◌, ◌<◌, List, ℕ, [], ◌∷◌, length, Bor, sym, ◌∙◌, ap, arith}
use Rattle.hive_model.specs.declared.places.Move.{Move}
use Rattle.hive_model.specs.Histories.{position}
use Rattle.hive_model.specs.Strings.{parts}
use Rattle.game_text.proofs.ReadLaws.{match_none, match_some, match_split}
use Rattle.audit_core.specs.Judging.{first_missing, wrong_in, wrong_list}
use Rattle.audit_core.proofs.Judged.{wrong_here, next_here, none_behind, ok_path}
use Rattle.audit_core.proofs.listed_moves.wrong_list.Goals as goal

pub returns-in-Wrong : goal.returns-in-Wrong
returns-in-Wrong g c =
    let now = g.G.Game.history c.args.game.now in
    let split = match_split c.cut.result.1 (parts c.parts.rest.now) c.cut.result.0.now (λ (r : Bor (List ℕ)). parts r.now) c.cut.ensures.parts in
    wrong_here now.game_type (position now).board c.args.legal.now c.parts.listed c.cut.result.0.now split.0 c.in_ok-finding.field-0 c.in-Wrong.finding c.in_ok-finding.ensures c.in-Wrong.is
    ∙ (ap (λ (ps : List (List ℕ)). wrong_in now.game_type (position now).board c.args.legal.now c.parts.listed ps) (sym split.1)
    ∙ (c.parts.invariant.same ∙ ap (λ (ms : List Move). wrong_in now.game_type (position now).board ms [] (parts c.args.line.now)) c.requires.legal))

pub returns-in-None : goal.returns-in-None
returns-in-None g c =
    let now = g.G.Game.history c.args.game.now in
    let split = match_none c.cut.result.1 (parts c.parts.rest.now ≡ c.cut.result.0.now ∷ []) (λ (r : Bor (List ℕ)). parts c.parts.rest.now ≡ c.cut.result.0.now ∷ parts r.now) c.in-None.is c.cut.ensures.parts in
    ok_path c.missing_in.result (first_missing (position now).board c.push.new.self c.args.legal.now) (wrong_list now.game_type (position now) c.args.line.now)
    (none_behind now.game_type (position now).board c.args.legal.now c.push.new.self
    ∙ (ap (λ (ls : List Move). wrong_in now.game_type (position now).board c.args.legal.now ls []) c.in_ok-push-in-Next.ensures.pushed
    ∙ (next_here now.game_type (position now).board c.args.legal.now c.parts.listed c.cut.result.0.now [] c.in_ok-finding.field-0 c.in-Next.m c.in_ok-finding.ensures c.in-Next.is
    ∙ (ap (λ (ps : List (List ℕ)). wrong_in now.game_type (position now).board c.args.legal.now c.parts.listed ps) (sym split)
    ∙ (c.parts.invariant.same ∙ ap (λ (ms : List Move). wrong_in now.game_type (position now).board ms [] (parts c.args.line.now)) c.requires.legal)))))
    c.missing_in.ensures

pub parts-preserved : goal.parts-preserved
parts-preserved g c =
    let now = g.G.Game.history c.args.game.now in
    let next = c.in-Some.next.now in
    let split = match_some c.cut.result.1 _ (λ (r : Bor (List ℕ)). parts c.parts.rest.now ≡ c.cut.result.0.now ∷ parts r.now) c.in-Some.next c.in-Some.is c.cut.ensures.parts in
    let less = match_some c.cut.result.1 _ (λ (r : Bor (List ℕ)). length r.now < length c.parts.rest.now) c.in-Some.next c.in-Some.is c.cut.ensures.less in
    let short = c.parts.invariant.short in
    record {
      same =
          ap (λ (ls : List Move). wrong_in now.game_type (position now).board c.args.legal.now ls (parts next)) c.in_ok-push-in-Next.ensures.pushed
          ∙ (next_here now.game_type (position now).board c.args.legal.now c.parts.listed c.cut.result.0.now (parts next) c.in_ok-finding.field-0 c.in-Next.m c.in_ok-finding.ensures c.in-Next.is
          ∙ (ap (λ (ps : List (List ℕ)). wrong_in now.game_type (position now).board c.args.legal.now c.parts.listed ps) (sym split) ∙ c.parts.invariant.same));
      short = omega (arith, less, short);
    }
