use Rattle.std.proofs.Common.{arith, rules, ◌≡◌, ◌+◌, ◌<◌, length, ◌∷◌, ◌++◌, ◌∙◌, [], sym, refl, subst}
use Rattle.hive_model.specs.Boards.{IsBoard}
use Rattle.hive_model.specs.Denotes.{text}
use Rattle.hive_model.specs.Histories.{position}
use Rattle.move_text.specs.Moves.{IsMoveWithin}
use Rattle.game_text.proofs.WriteLaws.{copy_sound, copy_within, copy_legal, copy_on}
use Rattle.game_text.proofs.writing.texts_of.Goals as goal

pub push-requires-clause-sound : goal.push-requires-clause-sound
push-requires-clause-sound g c =
    let board : g.G.Board.stacks c.loop-i.copy ≡ (position (g.G.Game.history c.loop-i.copy)).board = search rules in
    subst IsBoard (sym board) (copy_sound (g.G.Game.history c.args.game.now) (g.G.Game.history c.loop-i.copy) c.loop-i.i c.loop-i.texts c.loop-i.invariant).board

pub push-requires-clause-within : goal.push-requires-clause-within
push-requires-clause-within g c =
    subst IsMoveWithin (sym c.again.ensures) (copy_within (g.G.Game.history c.args.game.now) (g.G.Game.history c.loop-i.copy) c.loop-i.i c.loop-i.texts c.move_at-m.result c.loop-i.invariant c.move_at-m.ensures)

pub play-requires-clause-legal : goal.play-requires-clause-legal
play-requires-clause-legal g c =
    copy_legal (g.G.Game.history c.args.game.now) (g.G.Game.history c.loop-i.copy) c.loop-i.i c.loop-i.texts c.move_at-m.result c.loop-i.invariant c.move_at-m.ensures

pub loop-i-preserved : goal.loop-i-preserved
loop-i-preserved g c =
    let board : g.G.Board.stacks c.loop-i.copy ≡ (position (g.G.Game.history c.loop-i.copy)).board = search rules in
    let made = c.plies-plies.ensures.plies in
    let more = c.loop-i-test.true in
    let less : c.loop-i.i < length (g.G.Game.history c.args.game.now).made = omega (arith, made, more) in
    let pushed : c.push.new.self ≡ c.loop-i.texts ++ text (g.G.Board.stacks c.loop-i.copy) c.again.result ∷ [] = c.in_ok-push.ensures.pushed in
    let more : c.push.new.self ≡ c.loop-i.texts ++ text (position (g.G.Game.history c.loop-i.copy)).board c.move_at-m.result ∷ [] = pushed ∙ (λ j. c.loop-i.texts ++ text (board j) (c.again.ensures j) ∷ []) in
    copy_on (g.G.Game.history c.args.game.now) (g.G.Game.history c.loop-i.copy) (g.G.Game.history c.play.new.self) c.loop-i.i (c.loop-i.i + 1) c.loop-i.texts c.push.new.self c.move_at-m.result c.loop-i.invariant c.move_at-m.ensures
    less c.play.ensures.moved refl more
