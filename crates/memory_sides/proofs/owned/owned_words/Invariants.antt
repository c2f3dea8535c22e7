use Rattle.std.proofs.Common.{◌≡◌, map, string_bytes, take}
use Rattle.memory_sides.proofs.owned.owned_words.Given as goal

-- the words made so far are those passed
abbrev pub invariant-loop-word : goal.invariant-loop-word
invariant-loop-word l = map string_bytes l.owned.items ≡ map (λ word. word.now) (take l.word-index l.fn.words)
