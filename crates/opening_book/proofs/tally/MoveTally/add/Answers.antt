use Rattle.std.proofs.Common.{◌≡◌, ◌+◌, ◌++◌, take, drop, ◌∙◌, ap, arith, length}
use Rattle.std.specs.Prelude.{slice_get, slice_index}
use Rattle.hive_model.specs.Positions.{opening}
use Rattle.opening_book.specs.Book.{Counts, line_count}
use Rattle.opening_book.proofs.PlyLaws.{rewritten}
use Rattle.opening_book.proofs.TallyLaws.{added}
use Rattle.opening_book.proofs.tally.MoveTally.add.Goals as goal

pub returns-clause-added : goal.returns-clause-added
returns-clause-added g c = λ p games h.
    let keys : c.self.inside.key ≡ c.args.self.now.key = ap (λ (t : Counts). t.key) c.self.view_is in
    let moves : c.self.inside.moves.items ≡ c.args.self.now.moves = ap (λ (t : Counts). t.moves) c.self.view_is in
    let counts : c.self.inside.counts.items ≡ c.args.self.now.counts = ap (λ (t : Counts). t.counts) c.self.view_is in
    let plies : c.self.inside.plies ≡ c.args.self.now.plies = ap (λ (t : Counts). t.plies) c.self.view_is in
    let new = c.count_plies.new.counts in
    let same_length : length new ≡ length c.as_mut_slice.result.now = c.count_plies.auto.counts in
    let value : c.as_mut_slice.result.now ≡ c.self.inside.counts.items = c.as_mut_slice.ensures.value in
    let long : c.self.inside.counts.len ≡ length new = omega (arith, same_length, ap length value, c.as_mut_slice.ensures.len) in
    let items : take c.self.inside.counts.len (new ++ drop (length new) c.self.inside.counts.items) ≡ new = rewritten new (drop (length new) c.self.inside.counts.items) c.self.inside.counts.len long in
    added p games _ _ _ h keys moves
    (ap length items ∙ same_length ∙ ap length (value ∙ counts))
    (omega (arith, plies, c.from.ensures, c.plies-plies.ensures.plies))
    (λ q is e j m at.
    let up = c.count_plies.ensures.counted q is (keys ∙ e) j m (ap (λ ms. slice_get ms j) (c.as_slice.ensures.value ∙ moves) ∙ at) in
    ap (λ xs. slice_index xs j) items ∙ up ∙ ap (λ xs. slice_index xs j + line_count q m (opening (g.G.Game.history c.args.played.now).game_type) (g.G.Game.history c.args.played.now).made) (value ∙ counts))
