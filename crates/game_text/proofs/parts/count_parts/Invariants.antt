use Rattle.std.proofs.Common.{◌≡◌, ◌≤◌, ◌+◌, length}
use Rattle.hive_model.specs.Strings.{parts}
use Rattle.game_text.proofs.parts.count_parts.Given as goal

abbrev pub invariant-parts : goal.invariant-parts
invariant-parts l = record {
  rest : l.count + length (parts l.rest) ≡ length (parts l.text) + 1;
  counted : l.count + length l.rest ≤ length l.text + 1;
  first : 1 ≤ l.count;
  short : length l.text ≤ 65536;
}

abbrev pub decreases-parts : goal.decreases-parts
decreases-parts l = length l.rest
