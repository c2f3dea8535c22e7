-- Lines of tokens.
use Rattle.std.proofs.Common.{◌≡◌, List, [], ◌∷◌, ◌++◌, ap, ◌∙◌}
use Rattle.std.proofs.lemmas.Grind.{flat_map-append}
use Rattle.std.proofs.lemmas.List.{append-nil}
use Rattle.strategy_lemmas.specs.declared.tokens.Token.{Token}
use Rattle.certificate_citing.specs.TokenText.{token_line, token_lines}

pub lines-more : (ws : List Token) (w : Token) → token_lines (ws ++ w ∷ []) ≡ token_lines ws ++ token_line w
lines-more ws w = flat_map-append token_line ws (w ∷ []) ∙ ap (λ s. token_lines ws ++ s) (append-nil (token_line w))
