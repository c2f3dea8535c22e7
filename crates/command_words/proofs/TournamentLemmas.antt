-- The values of the options of a tournament.
use Rattle.std.proofs.Common.{◌≡◌, ◌∙◌, sym, refl, subst, ℕ, List, [], ◌∷◌, map, Bool, Option, Some, String, Global}
use Rattle.option_words.specs.Options.{Item, value_at, value_of}
use Rattle.command_words.specs.Matches.{Choices}
use Rattle.command_words.specs.Tournaments.{AreTournamentWords, ChooseTournament, TournamentOptions, tournament_choices, tournament_options, tournament_values}
use Rattle.match_core.specs.declared.setup.Setup.{Setup}

-- the values that the words give
abbrev pub asked : {words : List (String Global)} → TournamentOptions words → List (Option (List ℕ))
asked o = tournament_values o.engines o.choices o.rounds o.at_once o.gauntlet o.resume

-- the values of the options, if it is not known that the first is given
abbrev values_of : Option (List ℕ) → Choices → Option (List ℕ) → Option (List ℕ) → Option (List ℕ) → Option (List ℕ) → List (Option (List ℕ))
values_of engines c rounds at_once gauntlet resume =
    engines ∷ (c.game_type ∷ (c.depth ∷ (c.time ∷ (c.margin ∷ (c.plies ∷ (c.repetition ∷ (c.patience ∷ (c.quiet ∷ (rounds ∷ (at_once ∷ (gauntlet ∷ (resume ∷ []))))))))))))

-- the values are those at the thirteen places
thirteen : (given : List (Option (List ℕ))) (items : List Item) → given ≡ map (value_of items) tournament_options
    → given ≡ values_of (value_at given 0) (tournament_choices given) (value_at given 9) (value_at given 10) (value_at given 11) (value_at given 12)
thirteen given items e =
    subst (λ (g : List (Option (List ℕ))). g ≡ values_of (value_at g 0) (tournament_choices g) (value_at g 9) (value_at g 10) (value_at g 11) (value_at g 12)) (sym e) refl

-- so they are these, if the first was read
pub tournament_read : (given : List (Option (List ℕ))) (items : List Item) (engines : List ℕ) → given ≡ map (value_of items) tournament_options → Some engines ≡ value_at given 0
    → given ≡ tournament_values engines (tournament_choices given) (value_at given 9) (value_at given 10) (value_at given 11) (value_at given 12)
tournament_read given items engines e first =
    thirteen given items e ∙ sym (λ j. values_of (first j) (tournament_choices given) (value_at given 9) (value_at given 10) (value_at given 11) (value_at given 12))

-- the values that the words give choose what the words ask for
pub choose : {words : List (String Global)} {s : Setup} {r : ℕ} {g : Bool} {n : ℕ} {p : Bool} (w : AreTournamentWords words s r g n p) → ChooseTournament (asked w.options) s r g n p
choose w = record {
  setup_is = w.setup_is;
  rounds_is = w.rounds_is;
  at_once_is = w.at_once_is;
  gauntlet_is = w.gauntlet_is;
  resume_is = w.resume_is;
}
