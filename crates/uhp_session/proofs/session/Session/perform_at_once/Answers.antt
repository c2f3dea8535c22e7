use Rattle.std.proofs.Common.{◌≡◌, List, [], ◌∷◌, ℕ, sym, subst}
use Rattle.std.specs.Prelude.{Option, Some, codes, IfOk}
use Rattle.uhp_session.specs.Answers.{command_answer, reply_of, text_of, ended, option_line}
use Rattle.uhp_session.specs.declared.options.Setting.TheVariants.{Table, Workers, Repetition}
use Rattle.uhp_session.proofs.session.Session.perform_at_once.Goals as goal

pub returns-in-Options-clause-reply : goal.returns-in-Options-clause-reply
returns-in-Options-clause-reply g c =
    let told : Some (ended (option_line (Table c.self.inside.table) ∷ (option_line (Workers c.self.inside.workers) ∷ (option_line (Repetition c.self.inside.repetition) ∷ (codes "ok" ∷ []))))) ≡ reply_of (command_answer c.args.self.now c.args.line.now 0 c.args.command) =
    (λ j. reply_of (command_answer (c.self.view_is j) c.args.line.now 0 (sym c.in-Options.is j))) in
    subst (λ (lines : Option (List ℕ)). IfOk c.tell_options.result (λ r. text_of r ≡ lines)) told c.tell_options.ensures
