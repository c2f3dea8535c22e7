-- Lines that were taken, one after another, and how many they are.
use Rattle.std.proofs.Common.{◌≡◌, ◌+◌, Bool, true, false, List, [], ◌∷◌, ◌++◌, refl, ap, sym, ◌∙◌, Option, Some, None}
use Rattle.std.specs.Prelude.{Result, Ok, Err, if◌then◌else◌, nat_lt, length, ◌&&◌}
use Rattle.hive_model.specs.declared.places.Move.{Move}
use Rattle.io_edge.specs.Lines.{Line, Text, TooLong as LongLine}
use Rattle.cup.specs.Engines.{Engine}
use Rattle.tournament_record.specs.declared.parts.HeadPart.{HeadPart}
use Rattle.tournament_core.specs.declared.fixtures.Fixture.{Fixture}
use Rattle.tournament_core.specs.declared.fixtures.GameEnd.{GameEnd}
use Rattle.tournament_command.specs.declared.format.Format.{Format}
use Rattle.tournament_command.specs.declared.phase.Phase.{Phase}
use Rattle.tournament_command.specs.declared.phase.Phase.TheVariants.{Openings, Head, Game, Verdict, Spoiled}
use Rattle.tournament_command.specs.declared.heads.HeadMatch.{HeadMatch}
use Rattle.tournament_command.specs.declared.heads.HeadMatch.TheVariants.{Same, Cut, Other}
use Rattle.tournament_command.specs.declared.refused.LineFault.{LineFault}
use Rattle.tournament_command.specs.declared.refused.LineFault.TheVariants.{Bad}
use Rattle.tournament_command.specs.Intakes.{Intake, before, ended_in, head_after, head_match, is_empty, is_game_line, is_head_line, next_fixture, opening_in, take_as, take_game, take_head, take_line, take_lines, take_verdict, with_end, with_head, with_match, with_opening}

-- One line more

-- what was read, as an answer
abbrev good : Intake → Result Intake LineFault
good i = Ok i

no_more : (engines : List Engine) (f : Format) (r : Result Intake LineFault) → take_lines engines f r [] ≡ r
unfolding take_lines
no_more engines f (Ok i) = refl
no_more engines f (Err fault) = refl

-- a line behind these is taken by what these tell
pub take_more : (engines : List Engine) (f : Format) (ls : List Line) (r : Result Intake LineFault) (i : Intake) (line : Line) → take_lines engines f r ls ≡ Ok i → take_lines engines f r (ls ++ line ∷ []) ≡ take_line engines f i line
unfolding take_lines
take_more engines f [] (Ok j) i line is =
    let same : j ≡ i = cc in
    no_more engines f (take_line engines f j line) ∙ ap (λ k. take_line engines f k line) same
take_more engines f [] (Err fault) i line is = cc
take_more engines f (l ∷ ls) (Ok j) i line is = take_more engines f ls (take_line engines f j l) i line is
take_more engines f (l ∷ ls) (Err fault) i line is = cc

-- Counts

same_lines : (i j : Intake) → good i ≡ good j → j.lines ≡ i.lines
same_lines i j e = let same : i ≡ j = cc in ap (λ (k : Intake). k.lines) (sym same)

opening_counts : (i j : Intake) (o : Option (List Move)) → with_opening i o ≡ Ok j → j.lines ≡ i.lines + 1
opening_counts i j (Some moves) e = same_lines _ j e
opening_counts i j None e = cc

first_counts : (ended room : Bool) (i j : Intake) (parts : List HeadPart) (o : Option (List Move)) → (if ended then Ok (with_head parts i) else if room then with_opening i o else Err (Bad (i.lines + 1))) ≡ Ok j → j.lines ≡ i.lines + 1
first_counts true room i j parts o e = same_lines _ j e
first_counts false true i j parts o e = opening_counts i j o e
first_counts false false i j parts o e = cc

match_counts : (i j : Intake) (m : HeadMatch) → with_match i m ≡ Ok j → j.lines ≡ i.lines + 1
match_counts i j Same e = same_lines _ j e
match_counts i j Cut e = same_lines _ j e
match_counts i j (Other topic) e = cc

head_counts : (i j : Intake) (line : Line) → take_head i line ≡ Ok j → j.lines ≡ i.lines + 1
head_counts i j (Text bytes) e = match_counts i j (head_match i.head bytes) e
head_counts i j LongLine e = cc

either_counts : (is : Bool) (i : Intake) (p q : Phase) → (if is then before p i else before q i).lines ≡ i.lines + 1
either_counts true i p q = refl
either_counts false i p q = refl

game_counts : (i : Intake) (line : Line) (o : Option Fixture) → (take_game i line o).lines ≡ i.lines + 1
game_counts i line None = refl
game_counts i line (Some f) = either_counts (is_game_line (length i.ends + 1) f line) i Verdict Spoiled

told_counts : (is : Bool) (i j : Intake) (line : Line) (o : Option Fixture) → (if is then take_head i line else Ok (take_game i line o)) ≡ Ok j → j.lines ≡ i.lines + 1
told_counts true i j line o e = head_counts i j line e
told_counts false i j line o e = same_lines _ j e ∙ game_counts i line o

end_counts : (i : Intake) (o : Option GameEnd) → (with_end i o).lines ≡ i.lines + 1
end_counts i None = refl
end_counts i (Some ended) = refl

verdict_counts : (i : Intake) (line : Line) (o : Option Fixture) → (take_verdict i line o).lines ≡ i.lines + 1
verdict_counts i line None = refl
verdict_counts i line (Some f) = end_counts i (ended_in (length i.ends + 1) f line)

taken_counts : (p : Phase) (engines : List Engine) (f : Format) (i j : Intake) (line : Line) → take_as p engines f i line ≡ Ok j → j.lines ≡ i.lines + 1
taken_counts Openings engines f i j line e =
    first_counts (f.resume && is_empty line) (nat_lt (length i.openings) 100000) i j (head_after engines f i.openings) (opening_in f.setup.game_type line) e
taken_counts Head engines f i j line e = head_counts i j line e
taken_counts Game engines f i j line e = told_counts (is_head_line line) i j line (next_fixture (length engines) f i) e
taken_counts Verdict engines f i j line e = same_lines _ j e ∙ verdict_counts i line (next_fixture (length engines) f i)
taken_counts Spoiled engines f i j line e = cc

-- a line that was taken is counted
pub line_counts : (engines : List Engine) (f : Format) (i j : Intake) (line : Line) → take_line engines f i line ≡ Ok j → j.lines ≡ i.lines + 1
line_counts engines f i j line e = taken_counts i.phase engines f i j line e
