use Rattle.std.proofs.Common.{rules, ◌≡◌, List, [], ◌∷◌, ◌++◌, ℕ, ◌∙◌, ap, subst, append_assoc}
use Rattle.std.specs.Prelude.{Option, Some, codes, IfOk}
use Rattle.uhp_session.specs.Answers.{text_of, option_line}
use Rattle.uhp_session.specs.declared.options.Setting.TheVariants.{Table, Workers, Repetition}
use Rattle.uhp_session.proofs.options.tell_options.Goals as goal

three_lines : (t u v w x y a b c rest : List ℕ) → t ≡ [] → u ≡ t ++ a → v ≡ u ++ 10 ∷ [] → w ≡ v ++ b → x ≡ w ++ 10 ∷ [] → y ≡ x ++ c
    → y ++ 10 ∷ rest ≡ a ++ 10 ∷ (b ++ 10 ∷ (c ++ 10 ∷ rest))
three_lines t u v w x y a b c rest none one end two end2 three =
    let first : v ≡ a ++ 10 ∷ [] = end ∙ ap (λ (z : List ℕ). z ++ 10 ∷ []) (one ∙ ap (λ (z : List ℕ). z ++ a) none) in
    let second : x ≡ ((a ++ 10 ∷ []) ++ b) ++ 10 ∷ [] = end2 ∙ ap (λ (z : List ℕ). z ++ 10 ∷ []) (two ∙ ap (λ (z : List ℕ). z ++ b) first) in
    ap (λ (z : List ℕ). z ++ 10 ∷ rest) (three ∙ ap (λ (z : List ℕ). z ++ c) second)
    ∙ append_assoc (((a ++ 10 ∷ []) ++ b) ++ 10 ∷ []) c (10 ∷ rest)
    ∙ append_assoc ((a ++ 10 ∷ []) ++ b) (10 ∷ []) (c ++ 10 ∷ rest)
    ∙ append_assoc (a ++ 10 ∷ []) b (10 ∷ (c ++ 10 ∷ rest))
    ∙ append_assoc a (10 ∷ []) (b ++ 10 ∷ (c ++ 10 ∷ rest))

pub returns : goal.returns
returns c =
    let table = option_line (Table c.args.table) in
    let workers = option_line (Workers c.args.workers) in
    let repetition = option_line (Repetition c.args.repetition) in
    let none : c.new-text.result ≡ [] = search rules in
    let one : c.push_setting.new.text ≡ c.new-text.result ++ option_line (Table c.args.table) = search rules in
    let end : c.push.new.self ≡ c.push_setting.new.text ++ 10 ∷ [] = search rules in
    let two : c.push_setting-2.new.text ≡ c.push.new.self ++ option_line (Workers c.args.workers) = search rules in
    let end2 : c.push-2.new.self ≡ c.push_setting-2.new.text ++ 10 ∷ [] = search rules in
    let three : c.push_setting-3.new.text ≡ c.push-2.new.self ++ option_line (Repetition c.args.repetition) = search rules in
    let told = three_lines c.new-text.result c.push_setting.new.text c.push.new.self c.push_setting-2.new.text c.push-2.new.self c.push_setting-3.new.text
    table workers repetition (codes "ok" ++ 10 ∷ []) none one end two end2 three in
    subst (λ (lines : Option (List ℕ)). IfOk c.close.result (λ r. text_of r ≡ lines)) (ap Some told) c.close.ensures
