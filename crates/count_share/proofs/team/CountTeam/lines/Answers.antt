use Rattle.std.proofs.Common.{rules, ◌≡◌, ◌≤◌, ◌<◌, length, inr, sym, ◌∙◌, ap, arith}
use Rattle.hive_model.specs.Histories.{position}
use Rattle.hive_model.specs.Minimax.{lines}
use Rattle.count_share.specs.Shares.{Team}
use Rattle.count_share.proofs.ShareLaws.{dealt-can, dealt-fit, dealt-lines, helpers-dealt, lent-dealt}
use Rattle.count_share.proofs.team.CountTeam.lines.Goals as goal

pub lines_shared-requires-clause-can : goal.lines_shared-requires-clause-can
lines_shared-requires-clause-can g c κs outlives =
    let team = c.self.invariant in
    let root = position (g.G.Game.history c.self.inside.game) in
    let some : 0 < length c.as_mut_slice.result.now = search rules in
    let most : c.args.self.now.plies ≡ c.self.inside.plies = sym (ap (λ (t : Team). t.plies) c.self.view_is) in
    let within : c.args.plies ≤ c.self.inside.plies = omega (arith, c.requires.few, most) in
    let few : c.args.plies ≤ 8 = omega (arith, within, team.few) in
    let dealt = helpers-dealt root c.self.inside.plies c.self.inside.workers.items c.as_mut_slice.result.now some c.as_mut_slice.ensures.value team.helpers in
    dealt-can root c.args.plies c.self.inside.plies c.as_mut_slice.result.now c.requires.some few within c.lemma_sound.ensures.sound.board dealt

pub lines_shared-requires-clause-fits : goal.lines_shared-requires-clause-fits
lines_shared-requires-clause-fits g c κs outlives =
    let team = c.self.invariant in
    let root = position (g.G.Game.history c.self.inside.game) in
    let some : 0 < length c.as_mut_slice.result.now = search rules in
    let most : c.args.self.now.plies ≡ c.self.inside.plies = sym (ap (λ (t : Team). t.plies) c.self.view_is) in
    let within : c.args.plies ≤ c.self.inside.plies = omega (arith, c.requires.few, most) in
    let few : c.args.plies ≤ 8 = omega (arith, within, team.few) in
    let dealt = helpers-dealt root c.self.inside.plies c.self.inside.workers.items c.as_mut_slice.result.now some c.as_mut_slice.ensures.value team.helpers in
    dealt-fit root c.args.plies c.self.inside.plies c.as_mut_slice.result.now c.requires.some few c.lemma_sound.ensures.sound.board dealt

pub returns-clause-lines : goal.returns-clause-lines
returns-clause-lines g c =
    let team = c.self.invariant in
    let root = position (g.G.Game.history c.self.inside.game) in
    let some : 0 < length c.as_mut_slice.result.now = search rules in
    let most : c.args.self.now.plies ≡ c.self.inside.plies = sym (ap (λ (t : Team). t.plies) c.self.view_is) in
    let within : c.args.plies ≤ c.self.inside.plies = omega (arith, c.requires.few, most) in
    let few : c.args.plies ≤ 8 = omega (arith, within, team.few) in
    let dealt = helpers-dealt root c.self.inside.plies c.self.inside.workers.items c.as_mut_slice.result.now some c.as_mut_slice.ensures.value team.helpers in
    c.lines_shared.ensures.sum ∙ dealt-lines root c.args.plies c.self.inside.plies c.as_mut_slice.result.now c.requires.some few dealt
    ∙ ap (λ (t : Team). lines t.root c.args.plies) c.self.view_is

pub invariant_of-self-2 : goal.invariant_of-self-2
invariant_of-self-2 g c =
    let team = c.self.invariant in
    let root = position (g.G.Game.history c.self.inside.game) in
    let some : 0 < length c.as_mut_slice.result.now = search rules in
    let most : c.args.self.now.plies ≡ c.self.inside.plies = sym (ap (λ (t : Team). t.plies) c.self.view_is) in
    let within : c.args.plies ≤ c.self.inside.plies = omega (arith, c.requires.few, most) in
    let few : c.args.plies ≤ 8 = omega (arith, within, team.few) in
    let dealt = helpers-dealt root c.self.inside.plies c.self.inside.workers.items c.as_mut_slice.result.now some c.as_mut_slice.ensures.value team.helpers in
    record {
      some = team.some;
      few = team.few;
      spare = team.spare;
      free = team.free;
      helpers = inr (lent-dealt root c.args.plies c.self.inside.plies c.as_mut_slice.result.now c.lines_shared.new.workers _ c.self.inside.workers.len
          c.as_mut_slice.ensures.len c.lines_shared.ensures.counted dealt);
    }
