use Rattle.std.proofs.Common.{◌≡◌, ℕ, ◌≤◌, false, List, length, take, ap, sym, ◌∙◌, subst}
use Rattle.std.proofs.Math.Seq.{take-length}
use Rattle.hive_model.specs.declared.pieces.GameType.{GameType}
use Rattle.hive_model.specs.declared.places.Move.{Move}
use Rattle.hive_model.specs.Lists.{IsOn}
use Rattle.hive_model.specs.Legal.{moves, is_over}
use Rattle.hive_model.specs.Games.{IsGame, replay}
use Rattle.hive_model.specs.Positions.{Position, opening}
use Rattle.uhp_session.specs.Answers.{CurrentGame, reached}
use Rattle.uhp_session.proofs.BestLaws.{best_on}
use Rattle.uhp_session.proofs.current.Current.tell_best_by.Goals as goal

-- the moves that were listed are all the moves of the game
listed_all : (items listed whole : List Move) (n : ℕ) → items ≡ listed → listed ≡ take n whole → n ≡ length whole → items ≡ whole
listed_all items listed whole n same taken all = same ∙ taken ∙ ap (λ k. take k whole) all ∙ take-length whole

game_same : (t u : GameType) (ms ns : List Move) → t ≡ u → ms ≡ ns → IsGame u ns → IsGame t ms
game_same t u ms ns kind made is = subst (λ z. IsGame z ms) (sym kind) (subst (IsGame u) (sym made) is)

-- for two games of one type with the same moves
reached_same : (b a : CurrentGame) → b.game_type ≡ a.game_type → b.made ≡ a.made → reached b ≡ reached a
reached_same b a kind made = λ j. replay (opening (kind j)) (made j)

on_same : (b a : CurrentGame) (m : Move) → b.game_type ≡ a.game_type → b.made ≡ a.made → IsOn (moves (reached b)) m → IsOn (moves (reached a)) m
on_same b a m kind made on = subst (λ (p : Position). IsOn (moves p) m) (reached_same b a kind made) on

over_same : (b a : CurrentGame) → b.game_type ≡ a.game_type → b.made ≡ a.made → is_over (reached a) ≡ false → is_over (reached b) ≡ false
over_same b a kind made on = ap is_over (reached_same b a kind made) ∙ on

pub best_by-requires-clause-game : goal.best_by-requires-clause-game
best_by-requires-clause-game g c κs within =
    let history = g.G.Game.history c.self.inside.game in
    let all = listed_all c.items-made.result.now c.in_ok-moves.moves history.made c.plies.result c.items-made.ensures c.in_ok-moves.ensures c.plies.ensures.plies in
    game_same c.game_type-game_type.result history.game_type c.items-made.result.now history.made c.game_type-game_type.ensures all c.lemma_sound.ensures.game

pub best_by-requires-clause-short : goal.best_by-requires-clause-short
best_by-requires-clause-short g c κs within =
    let history = g.G.Game.history c.self.inside.game in
    let all = listed_all c.items-made.result.now c.in_ok-moves.moves history.made c.plies.result c.items-made.ensures c.in_ok-moves.ensures c.plies.ensures.plies in
    subst (λ (ms : List Move). length ms ≤ 5000) (sym all) c.self.invariant.1

pub best_by-requires-clause-goes_on : goal.best_by-requires-clause-goes_on
best_by-requires-clause-goes_on g c κs within =
    let told : CurrentGame = record { game_type = c.game_type-game_type.result; made = c.items-made.result.now; repetition = c.args.self.now.repetition } in
    let history = g.G.Game.history c.self.inside.game in
    let all = listed_all c.items-made.result.now c.in_ok-moves.moves history.made c.plies.result c.items-made.ensures c.in_ok-moves.ensures c.plies.ensures.plies in
    over_same told c.args.self.now (c.game_type-game_type.ensures ∙ ap (λ (x : CurrentGame). x.game_type) c.self.view_is) (all ∙ ap (λ (x : CurrentGame). x.made) c.self.view_is) c.requires.goes_on

pub tell_move-requires : goal.tell_move-requires
tell_move-requires g c =
    let told : CurrentGame = record { game_type = c.game_type-game_type.result; made = c.items-made.result.now; repetition = c.args.self.now.repetition } in
    let history = g.G.Game.history c.self.inside.game in
    let all = listed_all c.items-made.result.now c.in_ok-moves.moves history.made c.plies.result c.items-made.ensures c.in_ok-moves.ensures c.plies.ensures.plies in
    on_same told c.args.self.now c.in_ok-found.found (c.game_type-game_type.ensures ∙ ap (λ (x : CurrentGame). x.game_type) c.self.view_is) (all ∙ ap (λ (x : CurrentGame). x.made) c.self.view_is)
    (best_on (reached told) c.args.depth c.in_ok-found.found c.in_ok-found.ensures.best)
