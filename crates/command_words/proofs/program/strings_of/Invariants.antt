use Rattle.std.proofs.Common.{◌≡◌, map, string_bytes, take}
use Rattle.command_words.proofs.program.strings_of.Given as goal

-- the words made so far are those of the pieces passed
abbrev pub invariant-loop-piece : goal.invariant-loop-piece
invariant-loop-piece l = map string_bytes l.words.items ≡ map (λ piece. piece.now) (take l.piece-index l.fn.pieces)
