use Rattle.std.proofs.Common.{◌≡◌, ◌↔◌, ◌∙◌, ap, sym, subst, arith, refl, ℕ, List, All, Bor, length, IsTrue}
use Rattle.std.proofs.lemmas.Result.{IfOk-weaker}
use Rattle.std.proofs.lemmas.List.{length-map}
use Rattle.command_words.specs.Engines.{AreDistinct, ArePrograms, program_texts}
use Rattle.command_words.specs.Matches.{IsProgram}
use Rattle.command_words.proofs.EngineLemmas.{lent}
use Rattle.command_words.proofs.engines.are_programs.Goals as goal

pub returns : goal.returns
returns c =
    let first : lent c.as_slice.result.now ≡ program_texts c.args.text.now = ap lent c.as_slice.ensures.value ∙ c.in_ok-texts.ensures in
    let second : lent c.as_slice-2.result.now ≡ program_texts c.args.text.now = ap lent c.as_slice-2.ensures.value ∙ c.in_ok-texts.ensures in
    let count : length c.in_ok-texts.texts.items ≡ length (program_texts c.args.text.now) =
    sym (length-map c.in_ok-texts.texts.items (λ (one : Bor (List ℕ)). one.now)) ∙ ap length c.in_ok-texts.ensures in
    IfOk-weaker c.are_distinct.result (λ b. IsTrue b ↔ AreDistinct (lent c.as_slice-2.result.now)) (λ b. IsTrue b ↔ ArePrograms c.args.most c.args.text.now) (λ b apart. (
      λ t. record {
        some = omega (arith, count);
        few = omega (arith, count);
        each = subst (All IsProgram) first (c.if-not-are_each_program.ensures.0 refl);
        distinct = subst AreDistinct second (apart.0 t);
      },
      λ programs. apart.1 (subst AreDistinct (sym second) programs.distinct),
    )) c.are_distinct.ensures
