use Rattle.std.proofs.Common.{rules, ◌≡◌, ◌≤◌, ◌++◌, ◌∷◌, [], length, sym, subst, arith}
use Rattle.std.specs.Prelude.{if◌then◌else◌}
use Rattle.hive_model.specs.Histories.{position}
use Rattle.hive_model.specs.Denotes.{text}
use Rattle.hive_model.specs.Keys.{key}
use Rattle.game_text.proofs.SeenLaws.{seen_few, sees_on, sees_same}
use Rattle.move_text.specs.Moves.{IsMoveWithin}
use Rattle.uhp_session.proofs.KeptLaws.{kept_within, written_more, few_more}
use Rattle.uhp_session.proofs.current.Current.play.Goals as goal

pub push-requires-clause-within : goal.push-requires-clause-within
push-requires-clause-within g c =
    let kind : (g.G.Game.history c.reserve.new.self).game_type ≡ c.args.self.now.game_type = search rules in
    let made : (g.G.Game.history c.reserve.new.self).made ≡ c.args.self.now.made = search rules in
    subst IsMoveWithin (sym c.again.ensures) (kept_within (g.G.Game.history c.reserve.new.self) c.args.self.now c.args.m kind made c.lemma_sound.ensures.sound c.requires.legal)

pub note-requires : goal.note-requires
note-requires g c =
    let few : length (g.G.Game.history c.self.inside.game).made ≤ 5000 = c.self.invariant.1 in
    seen_few c.self.inside.seen (g.G.Game.history c.self.inside.game) c.self.invariant.2 (omega (arith, few))

pub invariant_of-self-in_default : goal.invariant_of-self-in_default
invariant_of-self-in_default g c =
    let kind : (g.G.Game.history c.reserve.new.self).game_type ≡ (g.G.Game.history c.self.inside.game).game_type = search rules in
    let made : (g.G.Game.history c.reserve.new.self).made ≡ (g.G.Game.history c.self.inside.game).made = search rules in
    let board : g.G.Board.stacks c.reserve.new.self ≡ (position (g.G.Game.history c.reserve.new.self)).board = search rules in
    let noted : c.note.new.self.keys ≡ (if c.self.inside.seen.repetition then c.self.inside.seen.keys ++ key (position (g.G.Game.history c.play.new.self)) ∷ [] else c.self.inside.seen.keys) = search rules in
    let pushed : c.push.new.self ≡ c.self.inside.written ++ text (g.G.Board.stacks c.reserve.new.self) c.again.result ∷ [] = search rules in (
      written_more (g.G.Game.history c.self.inside.game) (g.G.Game.history c.reserve.new.self) (g.G.Game.history c.play.new.self) c.self.inside.written c.push.new.self
          (g.G.Board.stacks c.reserve.new.self) c.args.m c.again.result kind made c.play.ensures.moved c.self.invariant.0 board c.again.ensures pushed,
      few_more (g.G.Game.history c.self.inside.game) (g.G.Game.history c.reserve.new.self) (g.G.Game.history c.play.new.self) c.args.m made c.play.ensures.moved (search rules),
      sees_on c.self.inside.seen.repetition c.note.new.self.repetition c.self.inside.seen.keys c.note.new.self.keys (g.G.Game.history c.reserve.new.self) (g.G.Game.history c.play.new.self) c.args.m
          (sees_same c.self.inside.seen (g.G.Game.history c.self.inside.game) (g.G.Game.history c.reserve.new.self) (sym kind) (sym made) c.self.invariant.2) c.play.ensures.moved c.note.ensures.same noted,
    )
