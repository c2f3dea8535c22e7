-- Every match ends, with a verdict; and what its moves are.
use Rattle.std.proofs.Common.{◌≡◌, inl, inr, ◌≤◌, ℕ, ◌+◌, zero, suc, true, false, List, [], ◌∷◌, ◌++◌, length, refl, ap, sym, ◌∙◌, IsTrue, arith}
use Rattle.hive_model.specs.declared.pieces.Colour.{Colour}
use Rattle.hive_model.specs.declared.pieces.Colour.TheVariants.{White, Black}
use Rattle.io_edge.specs.Lines.{Line as Mark, Text, TooLong as LongMark}
use Rattle.hive_model.specs.Boards.{IsBoard}
use Rattle.move_text.proofs.MoveLaws.{denotes_of}
use Rattle.rule_laws.proofs.Games.{games_sound}
use Rattle.match_core.specs.Setups.{FullSetup}
use Rattle.match_core.specs.declared.stage.Task.{Task}
use Rattle.match_core.specs.declared.stage.Task.TheVariants.{Greet, Begin, Ask, Tell}
use Rattle.match_core.specs.declared.stage.Stage.{Stage}
use Rattle.match_core.specs.declared.stage.Stage.TheVariants.{Send, Read, Before, After, Finished}
use Rattle.match_core.specs.declared.stage.Act.TheVariants.{Read as ReadAct}
use Rattle.match_core.specs.Keeps.{IsFullSetup, HasNext}
use Rattle.match_core.specs.Texts.{read_of}
use Rattle.match_core.specs.MatchState.{MatchState, Happening, start, match_after, next, after_all, act_at, answers, position_now}
use Rattle.match_core.specs.Fairness.{Answering, Reply, nothing_heard, heard, first_of, MovesOn, MatchesAreFair}
use Rattle.match_core.specs.Plays.{left, IsBounded, IsPliesAt, given, reply_to, left_of_white, left_of_black, is_finished, happens, match_of, MatchesEnd, MatchesAreJudged}
use Rattle.match_core.proofs.Fair.{reads, ReadsOn}
use Rattle.match_core.proofs.Tells.{fair, plain_fair}
use Rattle.match_core.proofs.Falls.{matches_near_their_end}
use Rattle.match_core.proofs.Follows.{open_at, finish_is, happens_none, happens_more, bounded_start}

given_answers : (side : Colour) (marks : List Mark) → IsTrue (answers (ReadAct side) (given marks))
given_answers side [] = refl
given_answers side (Text bytes ∷ marks) = refl
given_answers side (LongMark ∷ marks) = refl

reply_answers : (stage : Stage) (asked : ℕ) (white black : List Mark) → is_finished stage ≡ false → IsTrue (answers (act_at stage) (reply_to stage asked white black))
reply_answers (Send job side) asked white black e = refl
reply_answers (Read job White) asked white black e = given_answers White white
reply_answers (Read job Black) asked white black e = given_answers Black black
reply_answers Before asked white black e = refl
reply_answers After asked white black e = refl
reply_answers Finished asked white black e = absurd (cc)

abbrev EndsSo : MatchState → List Happening → Type 0
EndsSo s hs = Answering s hs × (is_finished (after_all s hs).stage ≡ true)

ends_none : (n : ℕ) (s : MatchState) (white black : List Mark) → is_finished s.stage ≡ true → EndsSo s (happens n s white black)
ends_none n s white black e = rw (happens_none n s white black e) (tt, e)

happens_ends : (n : ℕ) (s : MatchState) (white black : List Mark) → IsBounded s → left s ≤ n → EndsSo s (happens n s white black)
happens_ends zero s white black b less =
    elim (is_finished s.stage) as (λ x. is_finished s.stage ≡ x → EndsSo s (happens zero s white black)) [
      | true ↦ λ e. ends_none zero s white black e
      | false ↦ λ e. let c = (matches_near_their_end s (reply_to s.stage s.asked white black) b (reply_answers s.stage s.asked white black e)).1 in absurd (omega (arith, c, less))
    ] refl
happens_ends (suc n) s white black b less =
    elim (is_finished s.stage) as (λ x. is_finished s.stage ≡ x → EndsSo s (happens (suc n) s white black)) [
      | true ↦ λ e. ends_none (suc n) s white black e
      | false ↦ λ e.
          let reply : Happening = reply_to s.stage s.asked white black in
          let fits : IsTrue (answers (act_at s.stage) reply) = reply_answers s.stage s.asked white black e in
          let c = matches_near_their_end s reply b fits in
          let few : left (next s reply) ≤ n = let d = c.1 in omega (arith, d, less) in
          let r = happens_ends n (next s reply) (left_of_white s.stage white) (left_of_black s.stage black) c.0 few in
          rw (happens_more n s white black e) ((fits, r.0), r.1)
    ] refl

pub matches_end : MatchesEnd
matches_end setup white black is =
    let r = happens_ends (left (start setup)) (start setup) white black (bounded_start setup is) (omega arith) in
    (r.0, (finish_is (match_after setup (match_of setup white black)).stage).1 r.1)

pub bounded_along : (hs : List Happening) (s : MatchState) → IsBounded s → Answering s hs → IsBounded (after_all s hs)
bounded_along [] s b a = b
bounded_along (h ∷ hs) s b (t, a) = bounded_along hs (next s h) (matches_near_their_end s h b t).0 a

pub matches_are_judged : MatchesAreJudged
matches_are_judged setup hs is a =
    let b = bounded_along hs (start setup) (bounded_start setup is) a in
    let over = finish_is (match_after setup hs).stage in (λ e. sym b.judged ∙ over.0 e, λ e. over.1 (b.judged ∙ e))

next_few : (job : Task) (given plies limit : ℕ) → HasNext job given plies limit → plies ≤ given + limit
next_few Greet given plies limit h = omega (arith, h)
next_few Begin given plies limit h = omega (arith, h)
next_few Ask given plies limit h = omega (arith, h)
next_few (Tell m) given plies limit h = omega (arith, h)

open_few : (stage : Stage) (given plies limit : ℕ) → IsPliesAt stage given plies limit → is_finished stage ≡ false → plies ≤ given + limit
open_few (Send job side) given plies limit h e = next_few job given plies limit h
open_few (Read job side) given plies limit h e = next_few job given plies limit h
open_few Before given plies limit h e = omega (arith, h)
open_few After given plies limit h e = omega (arith, h)
open_few Finished given plies limit h e = absurd (cc)

accepts : (s t : MatchState) (reply : Reply) → IsBoard (position_now s).board → ReadsOn s t reply → MovesOn s t reply
unfolding read_of
accepts s t reply board (inl e) = inl e
accepts s t reply board (inr (m, e, r)) = inr (m, e, record { side = r.side; denotes = denotes_of s.setup.game_type (position_now s).board (first_of reply.lines) m board r.denotes; legal = r.legal })

read : (setup : FullSetup) (hs : List Happening) (h : Happening) → IsFullSetup setup → Answering (start setup) (hs ++ h ∷ [])
    → MovesOn (match_after setup hs) (match_after setup (hs ++ h ∷ [])) (heard (start setup) nothing_heard (hs ++ h ∷ [])).last
read setup hs h is a =
    let r = reads setup hs h is.begin.game a in
    let b = bounded_along hs (start setup) (bounded_start setup is) r.fits in
    let few : length (match_after setup hs).moves ≤ length (match_after setup hs).setup.begin + (match_after setup hs).setup.limit = open_few (match_after setup hs).stage _ _ _ b.plies (open_at (match_after setup hs).stage h r.answered) in
    let limit : (match_after setup hs).setup.limit ≡ setup.limit = ap (λ (x : FullSetup). x.limit) r.same in
    let given : length (match_after setup hs).setup.begin ≡ length setup.begin = ap (λ (x : FullSetup). length x.begin) r.same in
    let low : length (match_after setup hs).moves ≤ 9000 = let k = is.plain.few in let j = is.begin.few in omega (arith, few, limit, given, k, j) in
    accepts (match_after setup hs) (match_after setup (hs ++ h ∷ [])) (heard (start setup) nothing_heard (hs ++ h ∷ [])).last (games_sound (match_after setup hs).setup.game_type (match_after setup hs).moves r.legal low).0.board r.moves

pub matches_are_fair : MatchesAreFair
matches_are_fair = record { fair = fair; plain = plain_fair; read = read }
