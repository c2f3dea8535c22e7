use Rattle.std.proofs.Common.{rules, ◌≡◌, ◌+◌, ◌^◌, ◌<◌, true, false, List, [], ◌∷◌, ◌++◌, refl, sym, ◌∙◌, ap, subst, arith}
use Rattle.std.specs.Int.{w64, from_le_bytes}
use Rattle.hive_model.specs.Legal.{is_over, is_over_state}
use Rattle.hive_model.specs.Histories.{position}
use Rattle.hive_model.specs.Stack.{Levels}
use Rattle.grow_game.specs.declared.plies.Ply.{Ply}
use Rattle.grow_game.specs.Growing.{seeded, next_state}
use Rattle.grow_game.proofs.TurnLaws.{AreGrowing, growing-none, growing-step, growing-over, growing-all}
use Rattle.grow_game.proofs.growing.play_grown.Goals as goal

pub loop-ply-init : goal.loop-ply-init
loop-ply-init g c =
    let start = g.G.Game.history c.args.game.now in
    let begun : c.from_seed-generator.result ≡ seeded c.args.seed = c.from_seed-generator.ensures ∙ ap (from_le_bytes w64) c.to_le_bytes.ensures in
    let none = growing-none c.args.seed c.args.plies start start c.from_seed-generator.result c.requires.fresh refl begun in
    record {
      growing = subst (λ (ts : List Ply). AreGrowing c.args.seed c.args.plies start start c.from_seed-generator.result 0 ts 0) (sym c.new-made.ensures.items) none;
      small = omega arith;
      stack = refl;
    }

pub returns-then-is_over-clause-made : goal.returns-then-is_over-clause-made
returns-then-is_over-clause-made g c =
    let over : is_over (position (g.G.Game.history c.loop-ply.game)) ≡ true = sym (ap is_over_state c.state.ensures.state) ∙ sym c.is_over.ensures ∙ c.if-is_over.true in
    growing-over _ _ _ _ _ _ _ _ c.loop-ply.invariant.growing over

pub returns-then-is_over-clause-few : goal.returns-then-is_over-clause-few
returns-then-is_over-clause-few g c =
    let count = c.loop-ply.invariant.growing.count in
    omega (arith, count)

pub returns-then-is_over-clause-stack : goal.returns-then-is_over-clause-stack
returns-then-is_over-clause-stack g c = c.loop-ply.invariant.stack

pub play_drawn-drawn-requires-clause-spare : goal.play_drawn-drawn-requires-clause-spare
play_drawn-drawn-requires-clause-spare g c =
    let spare = c.loop-ply.invariant.growing.spare in
    let enough = c.requires.spare in
    omega (arith, spare, enough)

pub play_drawn-drawn-requires-clause-room : goal.play_drawn-drawn-requires-clause-room
play_drawn-drawn-requires-clause-room g c =
    let same = ap (λ (s : Levels). s.free) c.loop-ply.invariant.stack in
    let room = c.requires.room in
    omega (arith, same, room)

pub returns-in_err-push-clause-stack : goal.returns-in_err-push-clause-stack
returns-in_err-push-clause-stack g c = c.play_drawn-drawn.ensures.stack ∙ c.loop-ply.invariant.stack

pub overflow_add-chosen : goal.overflow_add-chosen
overflow_add-chosen g c =
    let small = c.loop-ply.invariant.small in
    let few = c.requires.few in
    let more : c.from-chosen.result < 2 ^ 32 = search rules in
    let sum : c.loop-ply.chosen + c.from-chosen.result < 2 ^ 64 = omega (arith, small, few, more) in
    search rules

pub loop-ply-preserved : goal.loop-ply-preserved
loop-ply-preserved g c =
    let start = g.G.Game.history c.args.game.now in
    let now = g.G.Game.history c.loop-ply.game in
    let next = g.G.Game.history c.play_drawn-drawn.new.game in
    let turn = c.loop-ply.invariant in
    let spare = turn.growing.spare in
    let enough = c.requires.spare in
    let ply : Ply = record { before = c.key-before.result; m = c.play_drawn-drawn.result.m } in
    let goes_on : is_over (position now) ≡ false = sym (ap is_over_state c.state.ensures.state) ∙ sym c.is_over.ensures ∙ c.if-is_over.false in
    let many = c.from-chosen.ensures ∙ c.play_drawn-drawn.ensures.choices in
    let more : c.from-chosen.result < 2 ^ 32 = search rules in
    let small = turn.small in
    let step : AreGrowing c.args.seed c.args.plies start next (next_state c.loop-ply.generator) (c.loop-ply._ply + 1) (c.loop-ply.made.items ++ ply ∷ []) (c.loop-ply.chosen + c.from-chosen.result) =
    growing-step c.args.seed c.args.plies start now next _ c.loop-ply._ply c.loop-ply.made.items c.loop-ply.chosen c.from-chosen.result ply turn.growing
    c.loop-ply-test.true goes_on c.play_drawn-drawn.ensures.drawn c.key-before.ensures.key (omega (arith, spare, enough)) c.play_drawn-drawn.ensures.game many in
    let pushed : AreGrowing c.args.seed c.args.plies start next (next_state c.loop-ply.generator) (c.loop-ply._ply + 1) c.push.new.self.items (c.loop-ply.chosen + c.from-chosen.result) =
    subst (λ (ts : List Ply). AreGrowing c.args.seed c.args.plies start next (next_state c.loop-ply.generator) (c.loop-ply._ply + 1) ts (c.loop-ply.chosen + c.from-chosen.result))
    (sym c.in_ok-push.ensures.items) step in
    record {
      growing = subst (λ s. AreGrowing c.args.seed c.args.plies start next s (c.loop-ply._ply + 1) c.push.new.self.items (c.loop-ply.chosen + c.from-chosen.result))
          (sym c.play_drawn-drawn.ensures.state) pushed;
      small = omega (arith, small, more);
      stack = c.play_drawn-drawn.ensures.stack ∙ turn.stack;
    }

pub returns-clause-made : goal.returns-clause-made
returns-clause-made g c = growing-all _ _ _ _ _ _ _ _ c.loop-ply.invariant.growing c.loop-ply-test.false

pub returns-clause-few : goal.returns-clause-few
returns-clause-few g c =
    let count = c.loop-ply.invariant.growing.count in
    omega (arith, count)

pub returns-clause-stack : goal.returns-clause-stack
returns-clause-stack g c = c.loop-ply.invariant.stack
