use Rattle.std.specs.declared.option.Option.{Option}
use Rattle.std.specs.Prelude.{nat_le}
use Rattle.hive_model.specs.declared.pieces.Colour.{Colour}
use Rattle.hive_model.specs.declared.pieces.Colour.TheVariants.{White, Black}
use Rattle.hive_model.specs.declared.places.Move.{Move}
use Rattle.hive_model.specs.Legal.{is_over_state}
use Rattle.hive_model.specs.Histories.{is_listed}
use Rattle.move_text.specs.declared.faults.MoveFault.{MoveFault}
use Rattle.match_core.specs.Setups.{FullSetup}
use Rattle.match_core.specs.declared.setup.Level.{Level}
use Rattle.match_core.specs.declared.setup.Level.TheVariants.{Depth, Time}
use Rattle.match_core.specs.declared.stage.Task.{Task}
use Rattle.match_core.specs.declared.stage.Task.TheVariants.{Greet, Begin, Ask, Tell}
use Rattle.match_core.specs.declared.stage.Stage.{Stage}
use Rattle.match_core.specs.declared.stage.Stage.TheVariants.{Send, Read, Before, After, Finished}
use Rattle.match_core.specs.declared.verdict.Cause.TheVariants.{NotAMove, Illegal, ErrLine, Flood, LongLine, Ended as EndedCause, Broke as BrokeCause, Late}
use Rattle.match_core.specs.declared.verdict.Verdict.{Verdict}
use Rattle.match_core.specs.declared.verdict.Verdict.TheVariants.{Rules, Limit, Forfeit}
use Rattle.match_core.specs.Replies.{is_ok, is_error}
use Rattle.match_core.specs.MatchState.{MatchState, Happening, Sent, Line, TooLong, Ended, Broke, Reading, start, next, after_all, act_at, position_now, finish, ask, judge, judge_read, decide, accept, first_line, at_stage, is_late, keep, reply_ends, hear, forfeit, answered, outcome_of}
use Rattle.match_core.specs.Texts.{read_of}
use Rattle.match_core.specs.declared.stage.Act.TheVariants.{Send as SendAct, Read as ReadAct}
use Rattle.std.proofs.Common.{◌≡◌, ◌⊎◌, inl, inr, ℕ, false, cond, List, [], ◌∷◌, length, refl, ap, sym, ◌∙◌, Some, subst, Ok, Err}
use Rattle.std.specs.declared.result.Result.{Result}
use Rattle.std.proofs.lemmas.Option.{same_Some}
use Rattle.match_core.proofs.Fair.{either}
use Rattle.match_core.proofs.Follows.{next_is}
use Rattle.match_runner.specs.Wires.{Watch, Wire}
use Rattle.match_runner.specs.Turns.{Side, is_broke}
use Rattle.match_runner.specs.Runs.{AreSound, FinalRun, Cut, BrokeOnly}

-- no fault of a side ended the match
abbrev IsUnbroken : Option Verdict → Type 0
IsUnbroken v = (side : Colour) → v ≡ Some (Forfeit side BrokeCause) → ⊥

finishes : (s : MatchState) (v : Verdict) → ((side : Colour) → v ≡ Forfeit side BrokeCause → ⊥) → IsUnbroken (finish s v).verdict
finishes s v f = λ side e. f side (same_Some _ _ e)

asks : (s : MatchState) → IsUnbroken s.verdict → IsUnbroken (ask s).verdict
unfolding ask
asks s u = u

decides : (s : MatchState) → IsUnbroken s.verdict → IsUnbroken (decide s).verdict
unfolding decide
decides s u =
    let P : MatchState → Type 0 = λ t. IsUnbroken t.verdict in
    either P (is_over_state (outcome_of s)) (finish s (Rules (outcome_of s))) (cond (nat_le s.setup.limit (length s.moves)) (finish s Limit) (ask s)) (λ e. finishes s (Rules (outcome_of s)) (λ side f. cc))
    (λ e. either P (nat_le s.setup.limit (length s.moves)) (finish s Limit) (ask s) (λ f. finishes s Limit (λ side g. cc)) (λ f. asks s u))

judges_as : (s : MatchState) (line : List ℕ) (o : Result Move MoveFault) → IsUnbroken s.verdict → IsUnbroken (judge_read s line o).verdict
judges_as s line (Err fault) u = finishes s (Forfeit (position_now s).side (NotAMove line)) (λ side f. cc)
judges_as s line (Ok m) u =
    let P : MatchState → Type 0 = λ t. IsUnbroken t.verdict in
    either P (is_listed (position_now s) m) (accept s m) (forfeit s (position_now s).side (Illegal line)) (λ e. u) (λ e. finishes s (Forfeit (position_now s).side (Illegal line)) (λ side f. cc))

judges : (s : MatchState) → IsUnbroken s.verdict → IsUnbroken (judge s).verdict
unfolding judge
judges s u = judges_as s (first_line s) (read_of s.setup.game_type (position_now s).board (first_line s)) u

answers_as : (s : MatchState) (level : Level) → IsUnbroken s.verdict → IsUnbroken (answered s level).verdict
answers_as s (Depth depth) u = judges s u
answers_as s (Time budget margin) u = u

ends_reply : (s : MatchState) (job : Task) (side : Colour) → IsUnbroken s.verdict → IsUnbroken (reply_ends s job side).verdict
ends_reply s Greet White u = u
ends_reply s Greet Black u = u
ends_reply s Begin White u = u
ends_reply s Begin Black u = decides s u
ends_reply s Ask side u = answers_as s s.setup.level u
ends_reply s (Tell m) White u = u
ends_reply s (Tell m) Black u = decides s u

hears : (s : MatchState) (job : Task) (side : Colour) (line : List ℕ) → IsUnbroken s.verdict → IsUnbroken (hear s job side line).verdict
hears s job side line u =
    let P : MatchState → Type 0 = λ t. IsUnbroken t.verdict in
    either P (is_ok line) (reply_ends s job side) (cond (is_error line) (forfeit s side (ErrLine line)) (cond (nat_le 1000 s.count) (forfeit s side (Flood 1001)) (keep s (Read job side) line)))
    (λ e. ends_reply s job side u)
    (λ e. either P (is_error line) (forfeit s side (ErrLine line)) (cond (nat_le 1000 s.count) (forfeit s side (Flood 1001)) (keep s (Read job side) line)) (λ f. finishes s (Forfeit side (ErrLine line)) (λ at g. cc))
    (λ f. either P (nat_le 1000 s.count) (forfeit s side (Flood 1001)) (keep s (Read job side) line) (λ k. finishes s (Forfeit side (Flood 1001)) (λ at g. cc)) (λ k. u)))

goes_at : (stage : Stage) (s : MatchState) (h : Happening) → is_broke h ≡ false → IsUnbroken s.verdict → IsUnbroken (at_stage s stage h).verdict
goes_at (Send job side) s Sent v u = u
goes_at (Send job side) s Broke v u = absurd (cc)
goes_at (Send job side) s (Line bytes) v u = u
goes_at (Send job side) s TooLong v u = u
goes_at (Send job side) s Ended v u = u
goes_at (Send job side) s (Reading at) v u = u
goes_at (Read job side) s (Line bytes) v u = hears s job side bytes u
goes_at (Read job side) s TooLong v u = finishes s (Forfeit side LongLine) (λ at g. cc)
goes_at (Read job side) s Ended v u = finishes s (Forfeit side EndedCause) (λ at g. cc)
goes_at (Read job side) s Broke v u = absurd (cc)
goes_at (Read job side) s Sent v u = u
goes_at (Read job side) s (Reading at) v u = u
goes_at Before s (Reading at) v u = u
goes_at Before s Sent v u = u
goes_at Before s Broke v u = u
goes_at Before s (Line bytes) v u = u
goes_at Before s TooLong v u = u
goes_at Before s Ended v u = u
goes_at After s (Reading at) v u =
    let P : MatchState → Type 0 = λ t. IsUnbroken t.verdict in
    either P (is_late s at) (forfeit s (position_now s).side (Late s.asked at)) (judge s) (λ e. finishes s (Forfeit (position_now s).side (Late s.asked at)) (λ side g. cc)) (λ e. judges s u)
goes_at After s Sent v u = u
goes_at After s Broke v u = u
goes_at After s (Line bytes) v u = u
goes_at After s TooLong v u = u
goes_at After s Ended v u = u
goes_at Finished s h v u = u

unbroken : (hs : List Happening) (s : MatchState) → AreSound hs → IsUnbroken s.verdict → IsUnbroken (after_all s hs).verdict
unbroken [] s v u = u
unbroken (h ∷ hs) s (v, w) u = unbroken hs (next s h) w (subst (λ (x : MatchState). IsUnbroken x.verdict) (sym (next_is s h)) (goes_at s.stage s h v u))

none_yet : (setup : FullSetup) → IsUnbroken (start setup).verdict
none_yet setup = λ side e. cc

verdict_broke : (stage : Stage) (s : MatchState) (side : Colour) → (act_at stage ≡ SendAct side) ⊎ (act_at stage ≡ ReadAct side) → (at_stage s stage Broke).verdict ≡ Some (Forfeit side BrokeCause)
verdict_broke (Send job White) s White (inl e) = refl
verdict_broke (Send job Black) s Black (inl e) = refl
verdict_broke (Send job White) s Black (inl e) = absurd (cc)
verdict_broke (Send job Black) s White (inl e) = absurd (cc)
verdict_broke (Send job at) s side (inr e) = absurd (cc)
verdict_broke (Read job White) s White (inr e) = refl
verdict_broke (Read job Black) s Black (inr e) = refl
verdict_broke (Read job White) s Black (inr e) = absurd (cc)
verdict_broke (Read job Black) s White (inr e) = absurd (cc)
verdict_broke (Read job at) s side (inl e) = absurd (cc)
verdict_broke Before s side (inl e) = absurd (cc)
verdict_broke Before s side (inr e) = absurd (cc)
verdict_broke After s side (inl e) = absurd (cc)
verdict_broke After s side (inr e) = absurd (cc)
verdict_broke Finished s side (inl e) = absurd (cc)
verdict_broke Finished s side (inr e) = absurd (cc)

pub cut_verdict : (side : Colour) (setup : FullSetup) (t : MatchState) (w0 w b0 b : Side) (r0 r : Watch) → Cut side setup t w0 w b0 b r0 r → t.verdict ≡ Some (Forfeit side BrokeCause)
cut_verdict side setup t w0 w b0 b r0 r (s, w1, b1, run, br, act) = ap (λ (x : MatchState). x.verdict) (br.next_is ∙ next_is s Broke) ∙ verdict_broke s.stage s side act

pub broke_final : (setup : FullSetup) (t : MatchState) (w0 w b0 b : Wire) (r0 r : Watch) → FinalRun setup t w0 w b0 b r0 r → BrokeOnly t w0 w b0 b
broke_final setup t w0 w b0 b r0 r final =
    elim final.ran.ended [
      | inl whole ↦
          let (hs, run) = whole.0 in
          let u : IsUnbroken t.verdict = subst (λ (x : MatchState). IsUnbroken x.verdict) (sym run.here) (unbroken hs (start setup) run.sound (none_yet setup)) in
          record { white = λ e. absurd (u White e); black = λ e. absurd (u Black e) }
      | inr cut ↦ elim cut [
        | inl c ↦ let v = cut_verdict White setup t _ _ _ _ _ _ c.0 in record { white = λ e. c.1; black = λ e. absurd (other (sym v ∙ e)) }
        | inr c ↦ let v = cut_verdict Black setup t _ _ _ _ _ _ c.0 in record { white = λ e. absurd (other (sym e ∙ v)); black = λ e. c.1 }
      ]
    ]
  where
    other : Some (Forfeit White BrokeCause) ≡ Some (Forfeit Black BrokeCause) → ⊥
    other e = cc
