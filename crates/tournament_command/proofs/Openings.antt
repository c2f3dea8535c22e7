-- The opening that a text is, if it is one.
use Rattle.std.proofs.Common.{◌≡◌, ◌≢◌, ℕ, List, refl, ap, sym, ◌∙◌, Option, None, IfOk, OnOk}
use Rattle.std.specs.Prelude.{Result, Ok, Err}
use Rattle.hive_model.specs.declared.pieces.GameType.{GameType}
use Rattle.hive_model.specs.declared.places.Move.{Move}
use Rattle.io_edge.specs.Lines.{Text}
use Rattle.game_text.specs.Reading.{Fails, game_of}
use Rattle.game_text.specs.declared.faults.GameFault.{GameFault}
use Rattle.game_text.specs.declared.faults.GameFault.TheVariants.{Malformed, TooLong, BadMove, IllegalMove, OtherState, OtherTurn, Memory}
use Rattle.game_text.specs.declared.parsed.Parsed.{Parsed}
use Rattle.command_runs.specs.OneGame.{game_in, if_open, open_game}
use Rattle.tournament_command.specs.Intakes.{opening_in, typed_moves}

moves_of : (t : GameType) (text : List ℕ) (game : Parsed) (o : Option (List Move)) → game_of text ≡ Ok game → o ≡ typed_moves t (if_open game) → o ≡ opening_in t (Text text)
unfolding game_in
moves_of t text game o is e = e ∙ ap (λ r. typed_moves t (open_game r)) (sym is)

-- the text is a game
pub game_moves : {E : Type 0} (t : GameType) (text : List ℕ) (game : Parsed) (r : Result (Option (List Move)) E) → game_of text ≡ Ok game → IfOk r (λ o. o ≡ typed_moves t (if_open game)) → IfOk r (λ o. o ≡ opening_in t (Text text))
game_moves t text game (Ok o) is e = moves_of t text game o is e
game_moves t text game (Err fault) is e = tt

none_of : (t : GameType) (text : List ℕ) (fault : GameFault) → game_of text ≡ Err fault → None ≡ opening_in t (Text text)
unfolding game_in
none_of t text fault is = ap (λ r. typed_moves t (open_game r)) (sym is)

no_moves : (t : GameType) (text : List ℕ) (fault : GameFault) → fault ≢ Memory → Fails fault (game_of text) → None ≡ opening_in t (Text text)
no_moves t text (Malformed part) some fails = none_of t text (Malformed part) fails
no_moves t text TooLong some fails = none_of t text TooLong fails
no_moves t text (BadMove number why) some fails = none_of t text (BadMove number why) fails
no_moves t text (IllegalMove number) some fails = none_of t text (IllegalMove number) fails
no_moves t text OtherState some fails = none_of t text OtherState fails
no_moves t text OtherTurn some fails = none_of t text OtherTurn fails
no_moves t text Memory some fails = absurd (some refl)

-- the text is none
pub fault_moves : {E : Type 0} (t : GameType) (text : List ℕ) (fault : GameFault) (r : Result (Option (List Move)) E) → IfOk r (λ o. o ≡ None) → OnOk r (fault ≢ Memory) → Fails fault (game_of text) → IfOk r (λ o. o ≡ opening_in t (Text text))
fault_moves t text fault (Ok o) none some fails = none ∙ no_moves t text fault some fails
fault_moves t text fault (Err e) none some fails = tt
