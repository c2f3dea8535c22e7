use Rattle.std.proofs.Common.{◌≡◌, ℕ, List, All, Bor, arith, false, true, refl, subst}
use Rattle.std.proofs.lemmas.List.Elements.{All-map, All-more}
use Rattle.std.proofs.Math.Seq.{take_all}
use Rattle.command_words.specs.Matches.{IsProgram}
use Rattle.command_words.proofs.EngineLemmas.{each_at}
use Rattle.command_words.proofs.engines.are_each_program.Goals as goal

false_true : false ≡ true → ⊥
false_true e = cc

pub returns-then-not-is_program : goal.returns-then-not-is_program
returns-then-not-is_program c =
    (λ t. absurd (false_true t), λ all. absurd (false_true (c.if-not-is_program.ensures.1 (each_at c.args.texts.now c.loop-text.text-index _ (omega arith) all))))

pub loop-text-preserved : goal.loop-text-preserved
loop-text-preserved c =
    All-more (λ (one : Bor (List ℕ)). IsProgram one.now) c.args.texts.now c.loop-text.text-index _ (omega arith) c.loop-text.invariant (c.if-not-is_program.ensures.0 refl)

pub returns : goal.returns
returns c =
    let all = take_all c.loop-text.text-index c.args.texts.now (omega arith) in (
      λ t. All-map IsProgram (λ (one : Bor (List ℕ)). one.now) c.args.texts.now (subst (All (λ (one : Bor (List ℕ)). IsProgram one.now)) all c.loop-text.invariant),
      λ h. refl,
    )
