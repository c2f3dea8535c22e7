use Rattle.std.proofs.Common.{◌≡◌, ◌≤◌, ◌+◌, length}
use Rattle.hive_model.specs.Strings.{parts}
use Rattle.game_text.specs.Reading.{first_empty}
use Rattle.game_text.proofs.parts.empty_part.Given as goal

abbrev pub invariant-parts : goal.invariant-parts
invariant-parts l = record {
  rest : first_empty (parts l.rest) l.number ≡ first_empty (parts l.text) 4;
  counted : l.number + length l.rest ≤ length l.text + 4;
  short : length l.text ≤ 65536;
}

abbrev pub decreases-parts : goal.decreases-parts
decreases-parts l = length l.rest
