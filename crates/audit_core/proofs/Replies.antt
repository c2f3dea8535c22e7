-- The results of a reply, over plain values.
use Rattle.std.proofs.Common.{◌≡◌, ℕ, List, None, Some, Ok, Err, sym, ◌∙◌, ap}
use Rattle.std.specs.declared.option.Option.{Option}
use Rattle.std.specs.declared.result.Result.{Result}
use Rattle.std.specs.Result.{OnOk}
use Rattle.hive_model.specs.declared.places.Move.{Move}
use Rattle.audit_core.specs.declared.findings.Finding.{Finding}
use Rattle.audit_core.specs.Drawing.{tried_of}
use Rattle.audit_core.specs.Judging.{wrong_list}
use Rattle.audit_core.specs.AuditState.{AuditState, drawn_now, position_before, position_now, advance, count, next_word, play_drawn, try_drawn, go_or_find, found, check_list}

pub on_ok : {X E : Type 0} (r : Result X E) (P Q : Type 0) → (P → Q) → OnOk r P → OnOk r Q
on_ok (Ok x) P Q f h = f h
on_ok (Err e) P Q f h = tt

-- a list was counted, a move drawn, and that move is played
pub drawn_so : (s0 s1 s2 s3 : AuditState) (o : Option Move) → s1 ≡ count s0 → s2 ≡ advance s1 → o ≡ drawn_now s1 → s3 ≡ play_drawn s2 o → s3 ≡ play_drawn (advance (count s0)) (drawn_now s0)
drawn_so s0 s1 s2 s3 o e f d h =
    let F : AuditState → AuditState = λ s. play_drawn (advance s) (drawn_now s) in
    h ∙ (ap (λ (x : AuditState). play_drawn x o) f ∙ (ap (λ (y : Option Move). play_drawn (advance s1) y) d ∙ ap F e))

-- nothing is wrong with a list
pub list_none : (s0 s1 s2 : AuditState) (o : Option Finding) (reply : List ℕ) → s1 ≡ s0 → o ≡ wrong_list s1.game_type (position_now s1) reply → o ≡ None
    → s2 ≡ play_drawn (advance (count s1)) (drawn_now s1) → s2 ≡ check_list s0 reply
list_none s0 s1 s2 o reply e w n h =
    let t : AuditState = play_drawn (advance (count s1)) (drawn_now s1) in
    h ∙ (ap (λ (x : Option Finding). go_or_find s1 x t) (sym n ∙ w) ∙ ap (λ (s : AuditState). check_list s reply) e)

-- something is wrong with it
pub list_some : (s0 s1 s2 : AuditState) (o : Option Finding) (f : Finding) (reply : List ℕ) → s1 ≡ s0 → o ≡ wrong_list s1.game_type (position_now s1) reply → o ≡ Some f
    → s2 ≡ found s1 f → s2 ≡ check_list s0 reply
list_some s0 s1 s2 o f reply e w n h =
    let t : AuditState = play_drawn (advance (count s1)) (drawn_now s1) in
    h ∙ (ap (λ (x : Option Finding). go_or_find s1 x t) (sym n ∙ w) ∙ ap (λ (s : AuditState). check_list s reply) e)

-- nothing is wrong with a list, whatever comes next
pub listed_none : (K : AuditState → AuditState) (s0 s1 s2 : AuditState) (o : Option Finding) (reply : List ℕ) → s1 ≡ s0 → o ≡ wrong_list s1.game_type (position_now s1) reply → o ≡ None
    → s2 ≡ K s1 → s2 ≡ go_or_find s0 (wrong_list s0.game_type (position_now s0) reply) (K s0)
listed_none K s0 s1 s2 o reply e w n h =
    h ∙ (ap (λ (x : Option Finding). go_or_find s1 x (K s1)) (sym n ∙ w) ∙ ap (λ (s : AuditState). go_or_find s (wrong_list s.game_type (position_now s) reply) (K s)) e)

-- something is wrong with it
pub listed_some : (K : AuditState → AuditState) (s0 s1 s2 : AuditState) (o : Option Finding) (f : Finding) (reply : List ℕ) → s1 ≡ s0 → o ≡ wrong_list s1.game_type (position_now s1) reply → o ≡ Some f
    → s2 ≡ found s1 f → s2 ≡ go_or_find s0 (wrong_list s0.game_type (position_now s0) reply) (K s0)
listed_some K s0 s1 s2 o f reply e w n h =
    h ∙ (ap (λ (x : Option Finding). go_or_find s1 x (K s1)) (sym n ∙ w) ∙ ap (λ (s : AuditState). go_or_find s (wrong_list s.game_type (position_now s) reply) (K s)) e)

-- a list was counted, a move drawn, and that move is tried
pub tried_so : (s0 s1 s2 s3 : AuditState) (o : Option Move) → s1 ≡ count s0 → s2 ≡ next_word s1 → o ≡ tried_of s1.state (position_before s1) (position_now s1) → s3 ≡ try_drawn s2 o
    → s3 ≡ try_drawn (next_word (count s0)) (tried_of s0.state (position_before s0) (position_now s0))
tried_so s0 s1 s2 s3 o e f d h =
    let F : AuditState → AuditState = λ s. try_drawn (next_word s) (tried_of s.state (position_before s) (position_now s)) in
    h ∙ (ap (λ (x : AuditState). try_drawn x o) f ∙ (ap (λ (y : Option Move). try_drawn (next_word s1) y) d ∙ ap F e))
