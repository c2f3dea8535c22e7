-- How a command ends that reads its input before it writes.
use Rattle.std.proofs.Common.{ℕ, List, ap, sym, ◌∙◌, subst, inl, inr, refl}
use Rattle.io_edge.specs.Outside.{Told, behind}
use Rattle.line_feed.specs.SoFar.{WasRead}
use Rattle.command_runs.specs.Input.{Sides, WhereTold}
use Rattle.command_runs.specs.Answered.{AnsweredRun, Inquiry, IsUnanswered, InputTexts, TellsNone, WritesAs}
use Rattle.command_runs.specs.Served.{RunsAreDone}
use Rattle.command_runs.specs.declared.status.Status.{Status}
use Rattle.command_runs.specs.declared.status.Status.TheVariants.{Done, Refused, Usage, ReadFault, WriteFault, SpawnFault, BadInput, Memory, InputFull}
use Rattle.command_runs.specs.declared.no_game.NoGame.{NoGame}
use Rattle.command_runs.specs.declared.no_game.NoGame.TheVariants.{Bad, ReadFault as NoRead, InputFull as TooMuch, Memory as NoMemory}
use Rattle.command_runs.proofs.ServedLemmas.{no_failure, not_full}

module _ (inquiry : Inquiry) (texts : InputTexts) where
  -- the input was bad
  bad_run : (status : Status) (before after : Sides) (text : List ℕ) → WhereTold before.rest (λ input. IsUnanswered inquiry (Bad text) input after.rest)
      → WritesAs text BadInput status before.written after.written → AnsweredRun inquiry texts status before after
  bad_run status before after text none (inl (e, wrote)) = subst (λ s. AnsweredRun inquiry texts s before after) (sym e) (λ input told.
      let (why, bad, is) = none input told in (why, record { bad = bad; wrote = wrote ∙ ap (behind before.written) is }))
  bad_run status before after text none (inr (e, (n, less, wrote))) = subst (λ s. AnsweredRun inquiry texts s before after) (sym e) (λ input told.
      let (why, bad, is) = none input told in (text, n, record { is_text = inl (why, bad, is); cut = less; wrote = wrote }))

  -- the input had no answer
  pub none_run : (none : NoGame) (status : Status) (before after : Sides) → WhereTold before.rest (λ input. IsUnanswered inquiry none input after.rest)
      → TellsNone none status before.written after.written → AnsweredRun inquiry texts status before after
  none_run (Bad text) status before after none told = bad_run status before after text none told
  none_run NoRead status before after none (e, same) = subst (λ s. AnsweredRun inquiry texts s before after) (sym e) (same, none)
  none_run TooMuch status before after none (e, same) = subst (λ s. AnsweredRun inquiry texts s before after) (sym e) (same, none)
  none_run NoMemory status before after none (e, same) = subst (λ s. AnsweredRun inquiry texts s before after) (sym e) (same, none)

  -- the input had this answer
  pub written_run : (status : Status) (before after : Sides) (text : List ℕ) → WhereTold before.rest (λ input. texts input after.rest text)
      → WritesAs text Done status before.written after.written → AnsweredRun inquiry texts status before after
  written_run status before after text given (inl (e, wrote)) = subst (λ s. AnsweredRun inquiry texts s before after) (sym e) (λ input told.
      (text, record { answer = given input told; wrote = wrote }))
  written_run status before after text given (inr (e, (n, less, wrote))) = subst (λ s. AnsweredRun inquiry texts s before after) (sym e) (λ input told.
      (text, n, record { is_text = inr (given input told); cut = less; wrote = wrote }))

  -- a run over an input that has an answer is done, unless memory runs out
  pub answered_done : (Asks : List ℕ → Type 0) → ((input : List ℕ) (rest : Told) (why : List ℕ) → Asks input → inquiry.bad input rest why → ⊥)
      → ((input : List ℕ) (rest : Told) (bytes left : List ℕ) → inquiry.undecided input rest bytes left → WasRead input rest bytes left) → RunsAreDone (AnsweredRun inquiry texts) Asks
  answered_done Asks good read Done before after run input served asks = inl refl
  answered_done Asks good read Memory before after run input served asks = inr refl
  answered_done Asks good read BadInput before after run input served asks =
      let (why, wrote) = run input served.told in absurd (good input after.rest why asks wrote.bad)
  answered_done Asks good read ReadFault before after run input served asks = absurd (no_failure served.reads refl)
  answered_done Asks good read WriteFault before after run input served asks = absurd (no_failure served.writes refl)
  answered_done Asks good read InputFull before after (same, run) input served asks =
      let (bytes, left, full, is) = run input served.told in
      absurd (not_full input bytes left after.rest (read input after.rest bytes left is) full served.below)
  answered_done Asks good read Refused before after run input served asks = absurd run
  answered_done Asks good read Usage before after run input served asks = absurd run
  answered_done Asks good read SpawnFault before after run input served asks = absurd run
