use Rattle.std.proofs.Common.{rules, refl, ◌≡◌, ◌∷◌, ◌++◌}
use Rattle.std.specs.Prelude.{map, slice_get, Some}
use Rattle.hive_model.specs.Fields.{type_bytes, state_bytes}
use Rattle.hive_model.specs.Strings.{turn_bytes}
use Rattle.std.proofs.lemmas.Option.{slice_get_read}
use Rattle.game_text.proofs.WriteLaws.{part_on, parts_begin, parts_end}
use Rattle.game_text.proofs.texts.MoveTexts.joined.Goals as goal

pub loop-part-init : goal.loop-part-init
loop-part-init c = parts_begin (λ t. t.bytes) c.deref-part-items.result.now c.in_ok-text.text

pub loop-part-preserved : goal.loop-part-preserved
loop-part-preserved c =
    let at : slice_get c.deref-part-items.result.now c.loop-part.part-index ≡ Some c.part-item.result = slice_get_read c.deref-part-items.result.now _ c.loop-part.part-index c.part-item.result refl c.loop-part-test.true c.part-item.is in
    let more : c.push_part.new.text ≡ c.loop-part.text ++ 59 ∷ c.part-item.result.bytes = search rules in
    part_on (λ t. t.bytes) c.deref-part-items.result.now c.loop-part.part-index c.part-item.result c.loop-part.text c.push_part.new.text _ at more c.loop-part.invariant

pub returns : goal.returns
returns c =
    let start : c.in_ok-text.text ≡ (type_bytes c.args.game_type ++ 59 ∷ state_bytes c.args.state) ++ 59 ∷ turn_bytes c.args.side c.args.turn = search rules in
    let seen : map (λ t. t.bytes) c.deref-part-items.result.now ≡ c.args.self.now = search rules in
    parts_end (λ t. t.bytes) c.deref-part-items.result.now c.loop-part.part-index (type_bytes c.args.game_type) (state_bytes c.args.state) (turn_bytes c.args.side c.args.turn) c.loop-part.text c.in_ok-text.text c.args.self.now
    c.loop-part-test.false c.loop-part.invariant start seen
