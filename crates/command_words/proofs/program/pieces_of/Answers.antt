use Rattle.std.proofs.Common.{◌≡◌, ℕ, List, map, lit<, subst, IfOk}
use Rattle.std.proofs.lemmas.Iterator.Consumers.{map_from_collect}
use Rattle.std.proofs.lemmas.Iterator.Splits.{YieldsList-from_str_split}
use Rattle.command_words.proofs.ProgramLaws.{split-is}
use Rattle.command_words.proofs.program.pieces_of.Goals as goal

pub returns : goal.returns
returns c =
    subst (λ (parts : List (List ℕ)). IfOk c.collect.result (λ pieces. map (λ piece. piece.now) pieces.items ≡ parts)) (split-is c.args.text.now)
    (map_from_collect _ c.collect.ensures.ran (YieldsList-from_str_split 32 c.args.text.now (lit< tt) c.split.ensures.text c.split.ensures.has_more c.split.ensures.pattern))
