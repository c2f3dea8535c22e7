-- Tokens as texts, one a line. An index is a number, and a citation is `@` and a number.
use Rattle.std.specs.Prelude.{ℕ, List, ◌++◌, codes, decimal, Option, Some, None, option_map}
use Rattle.std.specs.List.{flat_map}
use Rattle.io_edge.specs.Lines.{Line, Text, TooLong}
use Rattle.move_text.specs.Readers.{number_at}
use Rattle.game_text.specs.Turns.{behind_word}
use Rattle.certificate_text.specs.Text.{index_at, index_line, written_line}
use Rattle.strategy_lemmas.specs.declared.tokens.Token.{Token}
use Rattle.strategy_lemmas.specs.declared.tokens.Token.TheVariants.{Index, Cite}

-- Reading

-- after the sign the place of a lemma; without the sign an index
abbrev pub signed_token : Option (List ℕ) → List ℕ → Option Token
signed_token (Some digits) line = option_map (λ n. Cite n) (number_at digits 0 65535)
signed_token None line = option_map (λ i. Index i) (index_at line)

abbrev pub token_at : List ℕ → Option Token
token_at line = signed_token (behind_word (codes "@") line) line

abbrev pub token_in : Line → Option Token
token_in (Text line) = token_at line
token_in TooLong = None

-- The written form

abbrev pub cite_line : ℕ → List ℕ
cite_line n = written_line (codes "@" ++ decimal n)

abbrev pub token_line : Token → List ℕ
token_line (Index i) = index_line i
token_line (Cite n) = cite_line n

abbrev pub token_lines : List Token → List ℕ
token_lines tokens = flat_map token_line tokens
