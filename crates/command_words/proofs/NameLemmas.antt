-- The first word names the command that is asked for.
use Rattle.std.proofs.Common.{◌≡◌, ap, map, Some, inl, inr, List, String, Global}
use Rattle.std.specs.Prelude.{string_bytes}
use Rattle.command_words.specs.declared.asked.Asked.{Asked}
use Rattle.command_words.specs.declared.asked.Asked.TheVariants.{Session, Replay, Count, Grow, Certify, Check, Solve, Verify, Match, Cup, Book, Migrate, Audit, Tournament}
use Rattle.command_words.specs.Names.{named}
use Rattle.command_words.specs.Words.{Words, name_of}

pub named_first : (words : List (String Global)) (asked : Asked) → Words words asked → named (map string_bytes words) ≡ Some (name_of asked)
named_first words Session (inl e) = ap named e
named_first words Session (inr e) = ap named e
named_first words (Replay repetition) w = ap named w.give.ask.begin
named_first words (Count plies workers split) w = ap named w.give.ask.begin
named_first words (Grow seed plies) w = ap named w.give.ask.begin
named_first words (Certify depth) w = ap named w.give.ask.begin
named_first words Check e = ap named e
named_first words (Solve plies) w = ap named w.give.ask.begin
named_first words Verify e = ap named e
named_first words (Match setup from) w = ap named w.give.ask.begin
named_first words (Cup setup) w = ap named w.options.give.ask.begin
named_first words Book e = ap named e
named_first words Migrate e = ap named e
named_first words (Audit audit) w = ap named w.give.ask.begin
named_first words (Tournament setup rounds gauntlet at_once resume) w = ap named w.options.give.ask.begin
