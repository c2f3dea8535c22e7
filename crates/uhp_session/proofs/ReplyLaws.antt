-- The games of lines, and the commands that only answer.
use Rattle.std.proofs.Common.{◌≡◌, ◌≤◌, ℕ, Bool, true, false, List, length, Result, Ok, Err, inl, inr, refl, sym, subst, arith, if◌then◌else◌}
use Rattle.std.specs.Prelude.{Option, Some, None, codes}
use Rattle.hive_model.specs.declared.pieces.GameType.{GameType}
use Rattle.hive_model.specs.declared.places.Move.{Move}
use Rattle.hive_model.specs.Games.{IsGame}
use Rattle.hive_model.specs.Repetition.{StandsUnder}
use Rattle.hive_model.specs.Strings.{IsGameLineUnder}
use Rattle.uhp_session.proofs.StandLaws.{stands_none}
use Rattle.uhp_session.specs.Answers.{CurrentGame, SessionState, Answer, is_ended, after_of, refuse, in_game, while_on, list, best_line, get, tell, option_of}
use Rattle.uhp_session.specs.declared.options.Setting.{Setting}
use Rattle.uhp_session.specs.declared.options.SettingFault.{SettingFault}

pub line_game : (r : Bool) (line : List ℕ) (t : GameType) (ms : List Move) → IsGameLineUnder r line t ms → IsGame t ms
line_game r line t ms (inl alone) = subst (IsGame t) (sym alone.1) tt
line_game r line t ms (inr full) = full.0.legal

pub line_few : (r : Bool) (line : List ℕ) (t : GameType) (ms : List Move) → IsGameLineUnder r line t ms → length ms ≤ 5000
line_few r line t ms (inl alone) = subst (λ (ms : List Move). length ms ≤ 5000) (sym alone.1) (omega arith)
line_few r line t ms (inr full) = full.0.few

pub line_stands : (r : Bool) (line : List ℕ) (t : GameType) (ms : List Move) → IsGameLineUnder r line t ms → StandsUnder r t ms
line_stands r line t ms (inl alone) = subst (StandsUnder r t) (sym alone.1) (stands_none r t)
line_stands r line t ms (inr full) = full.1

-- A command that only answers does not change the session.

tell_keeps : (s : SessionState) (r : Result Setting SettingFault) → s ≡ after_of s (tell s r)
tell_keeps s (Ok setting) = refl
tell_keeps s (Err fault) = refl

pub get_keeps : (s : SessionState) (name : List ℕ) → s ≡ after_of s (get s name)
get_keeps s name = tell_keeps s (option_of s name)

while_keeps : (s : SessionState) (f : CurrentGame → Answer) → ((g : CurrentGame) → s ≡ after_of s (f g)) → s ≡ after_of s (while_on s f)
while_keeps s f keeps = go s.game
  where
    over : (g : CurrentGame) (b : Bool) → s ≡ after_of s (if b then refuse s (codes "err 8 game over") else f g)
    over g true = refl
    over g false = keeps g

    go : (o : Option CurrentGame) → s ≡ after_of s (in_game s o (λ g. if is_ended g then refuse s (codes "err 8 game over") else f g))
    go None = refl
    go (Some g) = over g (is_ended g)

pub list_keeps : (s : SessionState) → s ≡ after_of s (while_on s (list s))
list_keeps s = while_keeps s (list s) (λ g. refl)

pub best_keeps : (s : SessionState) (depth : ℕ) → s ≡ after_of s (while_on s (best_line s depth))
best_keeps s depth = while_keeps s (best_line s depth) (λ g. refl)
