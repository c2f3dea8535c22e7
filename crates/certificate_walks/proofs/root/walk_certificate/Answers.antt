use Rattle.std.proofs.Common.{◌≡◌, ◌-◌, slice_get, Some, None, refl, sym, ap, subst, arith, ◌∙◌}
use Rattle.hive_model.specs.Legal.{moves}
use Rattle.hive_model.specs.Histories.{History, position}
use Rattle.hive_model.specs.Stack.{level_of}
use Rattle.search_laws.proofs.LoopLaws.{level_of-with_level}
use Rattle.certificate_walks.specs.Walks.{place_of}
use Rattle.certificate_walks.specs.Parts.{ending_of}
use Rattle.search_laws.proofs.NodeLaws.{node-listed}
use Rattle.certificate_walks.specs.Claims.{IsClaimOf, IsTrueOf}
use Rattle.search_laws.proofs.HistoryLaws.{level-dropped}
use Rattle.certificate_walks.proofs.LevelLaws.{node-replies}
use Rattle.certificate_walks.proofs.PlaceLaws.{place-here, place-listed}
use Rattle.certificate_walks.proofs.FollowLaws.{certificate-at, certificate-none, root-as}
use Rattle.certificate_walks.proofs.root.walk_certificate.Goals as goal

pub returns-in_default-clause-told : goal.returns-in_default-clause-told
returns-in_default-clause-told g c =
    let p = position (g.G.Game.history c.args.game.now) in
    let claim = c.args.claim.now in
    let listed : level_of c.list.new.out c.levels-level.result ≡ moves p = level_of-with_level c.list.new.out c.args.stack.now (moves p) c.levels-level.result c.list.ensures.listed c.levels-level.ensures in
    let place : None ≡ place_of claim.best (moves p) = sym c.in_default.is ∙ c.find_move.ensures ∙ ap (place_of claim.best) listed in
    λ s. certificate-none g.W.Walker.rules g.W.Walker.sight p claim.depth claim.best claim.value s place

pub walk_root-walked-requires-clause-place : goal.walk_root-walked-requires-clause-place
walk_root-walked-requires-clause-place g c =
    let p = position (g.G.Game.history c.args.game.now) in
    let best = c.args.claim.now.best in
    let listed : level_of c.list.new.out c.levels-level.result ≡ moves p = level_of-with_level c.list.new.out c.args.stack.now (moves p) c.levels-level.result c.list.ensures.listed c.levels-level.ensures in
    let place : Some c.in-Some.place ≡ place_of best (moves p) = sym c.in-Some.is ∙ c.find_move.ensures ∙ ap (place_of best) listed in
    subst (λ (h : History). slice_get (moves (position h)) c.in-Some.place ≡ Some best) (sym c.list.ensures.same) (place-here best (moves p) c.in-Some.place (sym place))

pub walk_root-walked-requires-clause-claim : goal.walk_root-walked-requires-clause-claim
walk_root-walked-requires-clause-claim g c =
    subst (λ (h : History). IsClaimOf h c.args.claim.now.depth c.args.claim.now.value) (sym c.list.ensures.same) c.requires.claim

pub walk_root-walked-requires-clause-replies : goal.walk_root-walked-requires-clause-replies
walk_root-walked-requires-clause-replies g c =
    let start = g.G.Game.history c.args.game.now in
    let claim = c.requires.claim in
    node-replies _ _ c.args.claim.now.depth c.levels-level.result
    (node-listed start start _ _ _ c.args.claim.now.depth c.levels-level.result (record { deep = claim.deep; spare = claim.spare; free = c.requires.room }) claim.inner refl c.list.ensures.same c.list.ensures.listed c.levels-level.ensures)

pub returns-clause-told : goal.returns-clause-told
returns-clause-told g c =
    let p = position (g.G.Game.history c.args.game.now) in
    let claim = c.args.claim.now in
    let listed : level_of c.list.new.out c.levels-level.result ≡ moves p = level_of-with_level c.list.new.out c.args.stack.now (moves p) c.levels-level.result c.list.ensures.listed c.levels-level.ensures in
    let place : Some c.in-Some.place ≡ place_of claim.best (moves p) = sym c.in-Some.is ∙ c.find_move.ensures ∙ ap (place_of claim.best) listed in
    λ s seen. (
      _,
      certificate-at g.W.Walker.rules g.W.Walker.sight p claim.depth c.in-Some.place claim.best claim.value s place,
      root-as g.W.Walker.rules g.W.Walker.sight (g.G.Game.history c.args.game.now) (g.G.Game.history c.list.new.self) c.list.ensures.same (claim.depth - 1) c.in-Some.place claim.best claim.value (g.W.Walker.seen c.args.walker.now) (g.W.Walker.seen c.walk_root-walked.new.walker) (ending_of g.W.Walker.rules g.W.Walker.ending c.walk_root-walked.result) c.walk_root-walked.ensures.told s seen,
    )

pub returns-in_default-clause-stack : goal.returns-in_default-clause-stack
returns-in_default-clause-stack g c =
    level-dropped c.args.stack.now _ _ _ _ (omega (arith, c.requires.room, c.requires.claim.inner.deep)) c.list.ensures.listed refl c.drop_level.ensures

pub returns-in_default-clause-legal : goal.returns-in_default-clause-legal
returns-in_default-clause-legal g c = λ e.
    sym (place-listed c.args.stack.now c.list.new.out (position (g.G.Game.history c.args.game.now)) c.levels-level.result c.args.claim.now.best _ _ c.list.ensures.listed c.levels-level.ensures c.find_move.ensures c.in_default.is)

pub returns-clause-illegal : goal.returns-clause-illegal
returns-clause-illegal g c = λ none.
    let there = place-listed c.args.stack.now c.list.new.out (position (g.G.Game.history c.args.game.now)) c.levels-level.result c.args.claim.now.best _ _ c.list.ensures.listed c.levels-level.ensures c.find_move.ensures c.in-Some.is in
    cc (there, none)

pub returns-clause-legal : goal.returns-clause-legal
returns-clause-legal g c = λ e. absurd (cc e)

pub returns-clause-shown : goal.returns-clause-shown
returns-clause-shown g c = λ inv done.
    subst (λ (h : History). IsTrueOf (position h) c.args.claim.now) c.list.ensures.same (c.walk_root-walked.ensures.shown inv (cc done))

pub returns-clause-part : goal.returns-clause-part
returns-clause-part g c = c.walk_root-walked.ensures.part

pub returns-clause-game : goal.returns-clause-game
returns-clause-game g c = c.walk_root-walked.ensures.game ∙ c.list.ensures.same

pub returns-clause-stack : goal.returns-clause-stack
returns-clause-stack g c =
    level-dropped c.args.stack.now _ _ _ _ (omega (arith, c.requires.room, c.requires.claim.inner.deep)) c.list.ensures.listed c.walk_root-walked.ensures.stack c.drop_level-2.ensures
