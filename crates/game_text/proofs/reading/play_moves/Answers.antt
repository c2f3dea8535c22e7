use Rattle.std.proofs.Common.{rules, ◌≡◌, ◌<◌, refl, arith, [], ◌∷◌, ◌++◌, ◌+◌, length, Bor, List, ℕ, subst, ap, ◌∙◌}
use Rattle.std.specs.Prelude.{if◌then◌else◌}
use Rattle.hive_model.specs.Histories.{position, with_move}
use Rattle.hive_model.specs.Keys.{key}
use Rattle.hive_model.specs.Repetition.{keys}
use Rattle.game_text.specs.Reading.{Plays, IsMoveFault}
use Rattle.game_text.proofs.SeenLaws.{seen_few, sees_on}
use Rattle.hive_model.specs.Strings.{parts}
use Rattle.game_text.proofs.ReadLaws.{goes_on, ends, sound_here, fails_here, match_none, match_some, match_split}
use Rattle.game_text.proofs.reading.play_moves.Goals as goal

pub one_move-requires-clause-sound : goal.one_move-requires-clause-sound
one_move-requires-clause-sound g c = (sound_here _ _ _ _ _ _ _ c.parts.invariant.way).board

pub returns-in-Err-clause-moves : goal.returns-in-Err-clause-moves
returns-in-Err-clause-moves g c =
    let split = match_split c.cut.result.1 (parts c.parts.rest.now) c.cut.result.0.now (λ (r : Bor (List ℕ)). parts r.now) c.cut.ensures.parts in
    let now = g.G.Game.history c.parts.game in
    let fault = subst (λ z. IsMoveFault z (keys now.game_type now.made) (position now) c.cut.result.0.now c.parts.number c.in-Err.fault) c.parts.invariant.rule c.in-Err.ensures.err in
    fails_here c.args.seen.now.repetition now _ c.parts.moves c.cut.result.0.now (parts c.parts.rest.now) split.0 c.parts.number c.in-Err.fault _ split.1 fault c.parts.invariant.way

pub returns-in-None-clause-moves : goal.returns-in-None-clause-moves
returns-in-None-clause-moves g c =
    let split = match_none c.cut.result.1 (parts c.parts.rest.now ≡ c.cut.result.0.now ∷ []) (λ (r : Bor (List ℕ)). parts c.parts.rest.now ≡ c.cut.result.0.now ∷ parts r.now) c.in-None.is c.cut.ensures.parts in
    let pushed : c.push.new.self ≡ c.parts.moves ++ c.in-Ok.m ∷ [] = search rules in
    let now = g.G.Game.history c.parts.game in
    let plays = subst (λ z. Plays z (keys now.game_type now.made) (position now) c.cut.result.0.now c.in-Ok.m) c.parts.invariant.rule c.in-Ok.ensures.ok in
    ends c.args.seen.now.repetition (g.G.Game.history c.play.new.self) _ c.push.new.self (c.parts.number + 1) _
    (goes_on c.args.seen.now.repetition (g.G.Game.history c.parts.game) (g.G.Game.history c.one_move.new.game) (g.G.Game.history c.play.new.self) _ c.parts.moves c.push.new.self c.cut.result.0.now (parts c.parts.rest.now) []
    c.parts.number (c.parts.number + 1) c.in-Ok.m c.again.result _ split c.in-Ok.ensures.same c.play.ensures.moved c.again.ensures pushed refl plays c.parts.invariant.way)

pub parts-preserved : goal.parts-preserved
parts-preserved g c =
    let split = match_some c.cut.result.1 _ (λ (r : Bor (List ℕ)). parts c.parts.rest.now ≡ c.cut.result.0.now ∷ parts r.now) c.in-Some.next c.in-Some.is c.cut.ensures.parts in
    let less = match_some c.cut.result.1 _ (λ (r : Bor (List ℕ)). length r.now < length c.parts.rest.now) c.in-Some.next c.in-Some.is c.cut.ensures.less in
    let i = c.parts.invariant in
    let pushed : c.push.new.self ≡ c.parts.moves ++ c.in-Ok.m ∷ [] = search rules in
    let now = g.G.Game.history c.parts.game in
    let plays = subst (λ z. Plays z (keys now.game_type now.made) (position now) c.cut.result.0.now c.in-Ok.m) c.parts.invariant.rule c.in-Ok.ensures.ok in
    let next : g.G.Game.history c.play.new.self ≡ with_move (g.G.Game.history c.parts.game) c.again.result = c.play.ensures.moved ∙ ap (λ z. with_move z c.again.result) c.in-Ok.ensures.same in
    let noted : c.note.new.self.keys ≡ (if c.parts.seen.repetition then c.parts.seen.keys ++ key (position (g.G.Game.history c.play.new.self)) ∷ [] else c.parts.seen.keys) = search rules in
    record {
      way = goes_on c.args.seen.now.repetition (g.G.Game.history c.parts.game) (g.G.Game.history c.one_move.new.game) (g.G.Game.history c.play.new.self) _ c.parts.moves c.push.new.self c.cut.result.0.now (parts c.parts.rest.now) (parts c.in-Some.next.now)
          c.parts.number (c.parts.number + 1) c.in-Ok.m c.again.result _ split c.in-Ok.ensures.same c.play.ensures.moved c.again.ensures pushed refl plays i.way;
      seen = sees_on c.parts.seen.repetition c.note.new.self.repetition c.parts.seen.keys c.note.new.self.keys (g.G.Game.history c.parts.game) (g.G.Game.history c.play.new.self) c.again.result c.parts.invariant.seen next c.note.ensures.same noted;
      rule = c.note.ensures.same ∙ i.rule;
      counted = omega (arith, less, i.counted);
      first = omega arith;
      short = i.short;
    }

pub note-requires : goal.note-requires
note-requires g c =
    let few = c.parts.invariant.way.few in
    seen_few c.parts.seen (g.G.Game.history c.parts.game) c.parts.invariant.seen (omega (arith, few))

pub returns-in-None-clause-seen : goal.returns-in-None-clause-seen
returns-in-None-clause-seen g c =
    let next : g.G.Game.history c.play.new.self ≡ with_move (g.G.Game.history c.parts.game) c.again.result = c.play.ensures.moved ∙ ap (λ z. with_move z c.again.result) c.in-Ok.ensures.same in
    let noted : c.note.new.self.keys ≡ (if c.parts.seen.repetition then c.parts.seen.keys ++ key (position (g.G.Game.history c.play.new.self)) ∷ [] else c.parts.seen.keys) = search rules in
    sees_on c.parts.seen.repetition c.note.new.self.repetition c.parts.seen.keys c.note.new.self.keys (g.G.Game.history c.parts.game) (g.G.Game.history c.play.new.self) c.again.result c.parts.invariant.seen next c.note.ensures.same noted
