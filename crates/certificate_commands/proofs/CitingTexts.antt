-- A text that is made of a certificate is read as it was written, and is accepted.
use Rattle.std.proofs.Common.{◌≡◌, ℕ, ◌^◌, ◌≤◌, ◌<◌, List, [], ◌∷◌, ◌++◌, drop, map, refl, sym, ◌∙◌, ap, arith, lit<, Some}
use Rattle.std.specs.Prelude.{codes, decimal, option_map}
use Rattle.hive_model.specs.Positions.{Position}
use Rattle.io_edge.specs.Lines.{Line, Text, lines, line_of}
use Rattle.line_feed.proofs.PartLemmas.{line_parts-nil}
use Rattle.certificate_walks.specs.Limits.{Each}
use Rattle.search_laws.proofs.MinimaxLaws.{value-fits}
use Rattle.strategy_check.proofs.TraceLaws.{holds-sound}
use Rattle.strategy_lemmas.specs.declared.tokens.Token.{Token}
use Rattle.strategy_lemmas.specs.declared.tokens.Token.TheVariants.{Index, Cite}
use Rattle.strategy_lemmas.specs.Short.{short}
use Rattle.strategy_lemmas.proofs.ShortLaws.{short-holds}
use Rattle.certificate_text.specs.declared.head.Head.{Head}
use Rattle.certificate_text.specs.Text.{head_of}
use Rattle.certificate_text.proofs.TextLaws.{some-behind}
use Rattle.certificate_citing.specs.TokenText.{token_in, token_lines, signed_token}
use Rattle.strategy_make.specs.Laws.{MayClaim, claimed}
use Rattle.strategy_make.proofs.MakeLaws.{best-on}
use Rattle.strategy_make.proofs.ReadLaws.{head-lines, head-read, no-mark, number-is}
use Rattle.strategy_make.proofs.PlainLaws.{joined, wider-plain, decimal-plain}
use Rattle.strategy_make.proofs.LineLaws.{lines-begin}
use Rattle.certificate_verdicts.specs.declared.verdict.TextVerdict.TheVariants.{Accepted}
use Rattle.certificate_commands.specs.Verdicts.{end_of, verdict}
use Rattle.certificate_commands.specs.Migrating.{MigratesTo}
use Rattle.certificate_commands.proofs.CheckLaws.{held-cited, named}
use Rattle.certificate_commands.proofs.HeadLaws.{head-keeps}
use Rattle.certificate_commands.proofs.LowTokens.{IsLow, short-low}

-- ---- the tokens

no-lines : lines [] ≡ []
unfolding lines
no-lines = ap (map line_of) line_parts-nil

index-is : (i : ℕ) → i ≤ 5487 → token_in (Text (decimal i)) ≡ Some (Index i)
index-is i low =
    let fits : 5487 < 2 ^ 64 = lit< tt in
    ap (λ o. signed_token o (decimal i)) (no-mark 64 (λ k few e. omega (arith, e, few)) i (omega (arith, low, fits))) ∙ ap (option_map (λ k. Index k)) (number-is i 0 5487 fits (omega arith) low)

cite-is : (n : ℕ) → n ≤ 65535 → token_in (Text (codes "@" ++ decimal n)) ≡ Some (Cite n)
cite-is n low =
    let fits : 65535 < 2 ^ 64 = lit< tt in
    ap (λ o. signed_token o (codes "@" ++ decimal n)) (some-behind (codes "@") _ (decimal n) refl) ∙ ap (option_map (λ k. Cite k)) (number-is n 0 65535 fits (omega arith) low)

tokens-read : (tokens : List Token) → Each IsLow tokens → map token_in (lines (token_lines tokens)) ≡ map (λ t. Some t) tokens
tokens-read [] low = ap (map token_in) no-lines
tokens-read (Index i ∷ tokens) low =
    ap (map token_in) (lines-begin (decimal i) (token_lines tokens) (wider-plain 7 65536 (decimal i) (omega arith) (decimal-plain i (omega (arith, low.0)))))
    ∙ ap (λ o. o ∷ map token_in (lines (token_lines tokens))) (index-is i low.0)
    ∙ ap (λ os. Some (Index i) ∷ os) (tokens-read tokens low.1)
tokens-read (Cite n ∷ tokens) low =
    ap (map token_in) (lines-begin (codes "@" ++ decimal n) (token_lines tokens)
    (joined 1 7 65536 (codes "@") (decimal n) (record { plain = refl; short = omega arith }) (decimal-plain n (omega (arith, low.0))) (omega arith)))
    ∙ ap (λ o. o ∷ map token_in (lines (token_lines tokens))) (cite-is n low.0)
    ∙ ap (λ os. Some (Cite n) ∷ os) (tokens-read tokens low.1)

-- ---- what was written is accepted

pub migrated-accepted : (ls : List Line) (written : List ℕ) → MigratesTo ls written → verdict (lines written) ≡ Accepted
migrated-accepted ls written is =
    let head = is.head in
    let to = is.migrates in
    let keeps = head-keeps 1 ls head is.has_head in
    let p : Position = end_of head in
    let d = head.depth in
    let m = to.best in
    let v = head.value in
    let t = head.game_type in
    let ms = head.moves in
    let true_claim = holds-sound p d m v to.indices (record { deep = keeps.some; open_ = to.open_ }) to.hold in
    let may : MayClaim t ms d m v = record {
      game = keeps.game;
      few = keeps.few;
      legal = best-on p d m true_claim.0;
      some = keeps.some;
      deep = keeps.deep;
      small = value-fits p d v keeps.deep (sym true_claim.1);
    } in
    let tokens = short p d m v to.indices in
    let claim : Head = claimed t ms d m v in
    held-cited (lines written) (record claim { version = 2 }) m tokens (record {
      claims = record {
        has_head = ap (λ x. head_of 2 (lines x)) to.text_is ∙ head-read 2 2 t ms d m v (token_lines tokens) (omega arith) (omega arith) (omega arith) may;
        is_of = refl;
        open_ = to.open_;
        denotes = named t ms d m v may;
      };
      are_items = ap (λ x. map token_in (drop 5 (lines x))) to.text_is ∙ ap (λ l. map token_in (drop 5 l)) (head-lines 2 t ms d m v (token_lines tokens) (omega arith) may)
          ∙ tokens-read tokens (short-low p d m v (drop 5 ls) to.indices to.are_indices to.hold);
      hold = short-holds p d m v to.indices to.hold;
    })
