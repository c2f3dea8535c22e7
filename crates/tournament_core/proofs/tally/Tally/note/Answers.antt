use Rattle.std.proofs.Common.{rules, ◌≡◌, ◌+◌, cond, [], ◌∷◌, ◌++◌, sym, subst, ◌∙◌}
use Rattle.hive_model.specs.Pieces.{other_side}
use Rattle.tournament_core.specs.Ends.{player}
use Rattle.tournament_core.specs.Counts.{IsTallyOf, count_at, one_at}
use Rattle.tournament_core.proofs.Notes.{noted-draw, noted-win}
use Rattle.tournament_core.proofs.tally.Tally.note.Goals as goal

pub returns-in-None-clause-noted : goal.returns-in-None-clause-noted
returns-in-None-clause-noted c = λ games was.
    subst (λ o. IsTallyOf (games ++ record { fixture = c.args.fixture; ended = record { winner = o; forfeited = c.args.ended.forfeited } } ∷ []) c.note_draw.new.self) (sym c.in-None.is)
    (noted-draw games c.args.self.now c.note_draw.new.self c.args.fixture c.args.ended.forfeited c.requires.fixture
    c.note_draw.ensures.engines c.note_draw.ensures.games c.note_draw.ensures.wins c.note_draw.ensures.forfeits c.note_draw.ensures.draws was)

pub returns-in-Some-clause-noted : goal.returns-in-Some-clause-noted
returns-in-Some-clause-noted c = λ games was.
    let winner : c.player-winner.result ≡ player c.args.fixture c.in-Some.side = c.player-winner.ensures in
    let loser : c.player-loser.result ≡ player c.args.fixture (other_side c.in-Some.side) = search rules in
    subst (λ o. IsTallyOf (games ++ record { fixture = c.args.fixture; ended = record { winner = o; forfeited = c.args.ended.forfeited } } ∷ []) c.note_win.new.self) (sym c.in-Some.is)
    (noted-win games c.args.self.now c.note_win.new.self c.args.fixture c.args.ended.forfeited c.in-Some.side c.requires.fixture
    c.note_win.ensures.engines c.note_win.ensures.games c.note_win.ensures.draws
    (λ i j row column. c.note_win.ensures.wins i j row column ∙ (λ x. count_at c.args.self.now.wins i j + one_at (winner x) (loser x) i j))
    (λ i j row column. c.note_win.ensures.forfeits i j row column ∙ (λ x. count_at c.args.self.now.forfeits i j + cond c.args.ended.forfeited (one_at (loser x) (winner x) i j) 0))
    was)
