-- A cup: every engine plays white once against every other one.
use Rattle.std.specs.Prelude.{ℕ, ◌+◌, Bool, not, ◌&&◌, ◌||◌, nat_eq, nat_lt, List, [], ◌∷◌, map, Option, Some, None, IsTrue, if◌then◌else◌}
use Rattle.std.specs.List.{filter, flat_map, sum_by, zip}
use Rattle.std.specs.List.Sorted.{IsPermutation}
use Rattle.hive_model.specs.declared.pieces.Colour.{Colour}
use Rattle.hive_model.specs.declared.pieces.Colour.TheVariants.{White, Black}
use Rattle.hive_model.specs.declared.places.State.{State}
use Rattle.hive_model.specs.declared.places.State.TheVariants.{NotStarted, InProgress, Draw, WhiteWins, BlackWins}
use Rattle.hive_model.specs.Pieces.{is_colour, other_side}
use Rattle.match_core.specs.declared.verdict.Verdict.{Verdict}
use Rattle.match_core.specs.declared.verdict.Verdict.TheVariants.{Rules, Limit, Forfeit}
use Rattle.tournament_core.specs.Schedules.{numbers}
use Rattle.tournament_core.specs.Ends.{Each}
use Rattle.cup.specs.declared.pairing.Pairing.{Pairing}
use Rattle.cup.specs.declared.standing.Standing.{Standing}

-- Games

-- the games in which one engine plays white
abbrev pub row : ℕ → ℕ → List Pairing
row n i = map (λ j. record { white = i; black = j }) (filter (λ j. not (nat_eq j i)) (numbers n))

-- all games of n engines, by the number of white and then of black
abbrev pub pairings : ℕ → List Pairing
pairings n = flat_map (row n) (numbers n)

-- Points

-- the side that won by the rules
abbrev pub state_winner : State → Option Colour
state_winner NotStarted = None
state_winner InProgress = None
state_winner Draw = None
state_winner WhiteWins = Some White
state_winner BlackWins = Some Black

-- the side that won, by the rules or because the other one forfeited
abbrev pub winner : Verdict → Option Colour
winner (Rules s) = state_winner s
winner Limit = None
winner (Forfeit side cause) = Some (other_side side)

-- 2 points to the winner, or 1 to each side
abbrev pub worth : Option Colour → Colour → ℕ
worth None side = 1
worth (Some w) side = if is_colour w side then 2 else 0

abbrev pub points_of : Verdict → Colour → ℕ
points_of v side = worth (winner v) side

-- the points of an engine for a game with its verdict
abbrev pub gets : ℕ → Pairing × Verdict → ℕ
gets e g =
    (if nat_eq g.0.white e then points_of g.1 White else 0)
    + (if nat_eq g.0.black e then points_of g.1 Black else 0)

-- the points of an engine in a cup of n engines, by the verdicts of its games in their order
abbrev pub points : ℕ → List Verdict → ℕ → ℕ
points n vs e = sum_by (gets e) (zip (pairings n) vs)

-- Standings

-- 1 if the engine plays in the game
abbrev pub plays : ℕ → Pairing → ℕ
plays e g = if nat_eq g.white e || nat_eq g.black e then 1 else 0

-- an engine, its points and the number of its games
abbrev pub standing : ℕ → List Verdict → ℕ → Standing
standing n vs e =
    record { engine = e; points = points n vs e; games = sum_by (plays e) (pairings n) }

-- more points, or equal points and the lower number
abbrev pub is_ahead : Standing → Standing → Bool
is_ahead a b = nat_lt b.points a.points || nat_eq a.points b.points && nat_lt a.engine b.engine

-- each is ahead of all after it
abbrev pub IsInOrder : List Standing → Type 0
IsInOrder [] = Unit {0}
IsInOrder (s ∷ ss) = Each (λ t. IsTrue (is_ahead s t)) ss × IsInOrder ss

-- the standings of all engines, in order
pub record AreStandings (n : ℕ) (vs : List Verdict) (list : List Standing) : Type 0 where
  pub every : IsPermutation (map (standing n vs) (numbers n)) list
  pub order : IsInOrder list
