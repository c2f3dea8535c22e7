-- The lines of parts, and how a run that splits a game ends.
use Rattle.std.proofs.Common.{◌≡◌, ◌<◌, ◌+◌, ℕ, List, [], ◌∷◌, ◌++◌, length, take, get_or, inl, inr, refl, sym, ◌∙◌, ap, subst, append_assoc}
use Rattle.std.proofs.lemmas.List.{append-nil, take_more}
use Rattle.hive_model.specs.declared.pieces.GameType.{GameType}
use Rattle.hive_model.specs.declared.places.Move.{Move}
use Rattle.hive_model.specs.Histories.{History}
use Rattle.game_text.specs.declared.parsed.Parsed.{Parsed}
use Rattle.command_runs.specs.Asking.{IsReplayOf}
use Rattle.command_runs.specs.Input.{Sides, WhereTold}
use Rattle.command_runs.specs.OneGame.{IsAsked}
use Rattle.command_runs.specs.declared.status.Status.{Status}
use Rattle.command_runs.specs.declared.status.Status.TheVariants.{Memory}
use Rattle.command_runs.proofs.GameRunLemmas.{game_run}
use Rattle.count_share.specs.declared.classes.MoveClass.{MoveClass}
use Rattle.count_command.specs.Parts.{IsPartText, PartRun, TellsParts, part_line, part_lines, parts_of}

parts_end : (t : GameType) (made : List Move) (cs : List MoveClass) (c : MoveClass) → part_lines t made (cs ++ c ∷ []) ≡ part_lines t made cs ++ part_line t made c
parts_end t made [] c = append-nil (part_line t made c)
parts_end t made (d ∷ cs) c = ap (λ x. part_line t made d ++ x) (parts_end t made cs c) ∙ sym (append_assoc (part_line t made d) (part_lines t made cs) (part_line t made c))

-- the line of one more class comes behind those before it
pub parts_more : (game now : History) (cs : List MoveClass) (i : ℕ) (c : MoveClass) (before after : List ℕ) → now ≡ game → i < length cs → c ≡ get_or cs i c → before ≡ part_lines game.game_type game.made (take i cs)
    → after ≡ before ++ part_line now.game_type now.made c → after ≡ part_lines game.game_type game.made (take (i + 1) cs)
parts_more game now cs i c before after same low is so wrote =
    let next : take (i + 1) cs ≡ take i cs ++ c ∷ [] = take_more cs i c low ∙ ap (λ d. take i cs ++ d ∷ []) (sym is) in
    wrote ∙ (λ j. so j ++ part_line (same j).game_type (same j).made c) ∙ sym (parts_end game.game_type game.made (take i cs) c)
    ∙ sym (ap (part_lines game.game_type game.made) next)

-- the input was one game, and its parts were written
pub parts_run : (status : Status) (before after : Sides) (c : History) → WhereTold before.rest (λ input. (game : Parsed) × IsAsked input after.rest game × IsReplayOf c game)
    → TellsParts c.game_type c.made status before.written after.written → PartRun status before after
parts_run status before after c given (inl (e, same)) =
    subst (λ s. PartRun s before after) (sym e) (game_run (λ game text. Unit {0}) Memory before after c [] given (λ game end. tt) (inl (refl, same)))
parts_run status before after c given (inr (text, parts, wrote)) =
    game_run parts_of status before after c text given
    (λ game end. subst (λ t. IsPartText t game.moves text) end.kind (subst (λ ms. IsPartText c.game_type ms text) end.made parts)) (inr wrote)
