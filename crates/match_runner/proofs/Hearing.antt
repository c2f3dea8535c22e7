-- What a reader gives of the lines to come.
use Rattle.std.proofs.Common.{◌≡◌, ◌<◌, ◌≤◌, ◌+◌, ℕ, List, true, false, refl, arith}
use Rattle.hive_model.specs.declared.pieces.Colour.{Colour}
use Rattle.io_edge.specs.Outside.{Told}
use Rattle.line_feed.specs.Feed.{Reading as Reader, Takes, FeedsShort, input_limit}
use Rattle.line_feed.specs.declared.line_answers.ShortAnswer.TheVariants.{Full}
use Rattle.match_core.specs.declared.stage.Stage.{Stage}
use Rattle.match_core.specs.declared.stage.Stage.TheVariants.{Send, Read, Before, After, Finished}
use Rattle.match_core.specs.declared.stage.Act.TheVariants.{Read as ReadAct}
use Rattle.match_core.specs.Plays.{is_finished}
use Rattle.match_core.specs.MatchState.{MatchState, TooLong, Ended, next, at_stage, act_at, Happening, Sent, Line, Broke, Reading}

pub little : (before after : ℕ) → after ≤ before + 65537 → after ≤ before + 65538
little before after h = omega arith

-- a reader far from its limit is not full
pub never_full : (old new : Reader) (r0 r1 : Told) → (bytes : List ℕ) × Takes r0 r1 old.taken new.taken bytes × FeedsShort Full old bytes new r1 → input_limit ≤ new.passed + 65536 → old.passed + 65536 < input_limit → ⊥
never_full old new r0 r1 (bytes, t, (h, short, full)) near room = let same = h.same in omega arith

-- another event is no line that is too long
pub not_long : (bytes : List ℕ) {P : Type 0} → Line bytes ≡ TooLong → P
not_long bytes e = absurd (cc)

pub not_ended : {P : Type 0} → Ended ≡ TooLong → P
not_ended e = absurd (cc)

-- an event after which nothing more is read of a side
abbrev IsClosing : Happening → Type 0
IsClosing TooLong = Unit {0}
IsClosing Ended = Unit {0}
IsClosing Sent = ⊥
IsClosing (Line bytes) = ⊥
IsClosing Broke = ⊥
IsClosing (Reading at) = ⊥

after_closing : (stage : Stage) (s : MatchState) (side : Colour) (h : Happening) → IsClosing h → act_at stage ≡ ReadAct side → is_finished (at_stage s stage h).stage ≡ true
after_closing (Read job at) s side TooLong c e = refl
after_closing (Read job at) s side Ended c e = refl
after_closing (Read job at) s side Sent c e = absurd c
after_closing (Read job at) s side (Line bytes) c e = absurd c
after_closing (Read job at) s side Broke c e = absurd c
after_closing (Read job at) s side (Reading x) c e = absurd c
after_closing (Send job at) s side h c e = absurd (cc)
after_closing Before s side h c e = absurd (cc)
after_closing After s side h c e = absurd (cc)
after_closing Finished s side h c e = absurd (cc)

pub long_finishes : (s t : MatchState) (side : Colour) → act_at s.stage ≡ ReadAct side → t ≡ next s TooLong → is_finished t.stage ≡ true
unfolding next
long_finishes s t side e f = rw f (after_closing s.stage s side TooLong tt e)

pub reads_open : (stage : Stage) (side : Colour) → act_at stage ≡ ReadAct side → is_finished stage ≡ false
reads_open (Read job at) side e = refl
reads_open (Send job at) side e = refl
reads_open Before side e = refl
reads_open After side e = refl
reads_open Finished side e = absurd (cc)
