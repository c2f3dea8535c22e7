-- The lines that send a side its moves are those of the moves that it is sent, one after the other.
use Rattle.std.proofs.Common.{◌≡◌, ℕ, ◌-◌, cond, List, [], ◌∷◌, ◌++◌, length, take, refl, ap, sym, ◌∙◌, subst, append_assoc, arith}
use Rattle.std.proofs.lemmas.List.{append-nil, append_cancel_left}
use Rattle.hive_model.specs.declared.pieces.Colour.{Colour}
use Rattle.hive_model.specs.declared.pieces.Colour.TheVariants.{White, Black}
use Rattle.hive_model.specs.declared.places.Move.{Move}
use Rattle.hive_model.specs.Positions.{Position, opening}
use Rattle.hive_model.specs.Games.{after, replay, AreLegal}
use Rattle.match_core.specs.declared.setup.Setup.{Setup}
use Rattle.match_core.specs.Setups.{FullSetup, setup_plain, IsBegin}
use Rattle.match_core.specs.declared.stage.Task.TheVariants.{Greet, Begin, Ask, Tell}
use Rattle.match_core.specs.declared.stage.Stage.{Stage}
use Rattle.match_core.specs.declared.stage.Stage.TheVariants.{Send, Read, Before, After, Finished}
use Rattle.match_core.specs.Texts.{tell_line}
use Rattle.match_core.specs.MatchState.{MatchState, Happening, Sent, Line, TooLong, Ended, Broke, Reading, start, match_after, next}
use Rattle.match_core.specs.Fairness.{Answering, Heard, nothing_heard, heard_at, sent_at, told_at, told, is_telling, telling_lines, tell_lines, StandsFrom, first_position, IsFair, IsPlainFair}
use Rattle.match_core.proofs.Sees.{taken_back}
use Rattle.match_core.proofs.Fair.{Good, ToldAt, steps, goes, good_start, told_some}

lines-snoc : (p : Position) (ms : List Move) (m : Move) → tell_lines p (ms ++ m ∷ []) ≡ tell_lines p ms ++ tell_line (replay p ms) m ∷ []
lines-snoc p [] m = refl
lines-snoc p (x ∷ ms) m = ap (λ (r : List (List ℕ)). tell_line p x ∷ r) (lines-snoc (after p x) ms m)

-- a move was made after those that a side knows, and it is sent now
one_more : (p : Position) (moves before tw : List Move) (m : Move) → moves ≡ before ++ m ∷ [] → tw ≡ before
    → tell_lines p (tw ++ m ∷ []) ≡ tell_lines p tw ++ tell_line (replay p (take (length moves - 1) moves)) m ∷ []
one_more p moves before tw m made known =
    let cut : take (length moves - 1) moves ≡ tw = ap (λ (ms : List Move). take (length ms - 1) ms) made ∙ taken_back before m ∙ sym known in
    lines-snoc p tw m ∙ ap (λ (ms : List Move). tell_lines p tw ++ tell_line (replay p ms) m ∷ []) (sym cut)

none : (p : Position) (tw : List Move) → tell_lines p (tw ++ []) ≡ tell_lines p tw ++ []
none p tw = ap (tell_lines p) (append-nil tw) ∙ sym (append-nil (tell_lines p tw))

abbrev Telling : Stage → MatchState → Happening → Colour → List Move → Type 0
Telling stage s h to known =
    tell_lines (opening s.setup.game_type) (known ++ told_at stage h to) ≡ tell_lines (opening s.setup.game_type) known ++ cond (is_telling stage) (sent_at s stage h to) []

-- of what white and black know, what this side knows
abbrev known_of : Colour → List Move → List Move → List Move
known_of White tw tb = tw
known_of Black tw tb = tb

known_more : (to : Colour) (tw tb : List Move) (more : Colour → List Move) → known_of to (tw ++ more White) (tb ++ more Black) ≡ known_of to tw tb ++ more to
known_more White tw tb more = refl
known_more Black tw tb more = refl

tells_at : (stage : Stage) (s : MatchState) (h : Happening) (to : Colour) (tw tb : List Move) → ToldAt stage s.moves tw tb → Telling stage s h to (known_of to tw tb)
tells_at (Send Greet side) s h to tw tb t = none _ _
tells_at (Send Begin side) s h to tw tb t = none _ _
tells_at (Send Ask side) s h to tw tb t = none _ _
tells_at (Send (Tell m) White) s Sent White tw tb t = one_more (opening s.setup.game_type) s.moves t.before tw m t.made t.white
tells_at (Send (Tell m) White) s Sent Black tw tb t = none _ tb
tells_at (Send (Tell m) Black) s Sent White tw tb t = none _ tw
tells_at (Send (Tell m) Black) s Sent Black tw tb t = one_more (opening s.setup.game_type) s.moves t.before tb m t.made t.black
tells_at (Send (Tell m) side) s (Line bytes) to tw tb t = none _ _
tells_at (Send (Tell m) side) s TooLong to tw tb t = none _ _
tells_at (Send (Tell m) side) s Ended to tw tb t = none _ _
tells_at (Send (Tell m) side) s Broke to tw tb t = none _ _
tells_at (Send (Tell m) side) s (Reading at) to tw tb t = none _ _
tells_at (Read job side) s h to tw tb t = none _ _
tells_at Before s h to tw tb t = none _ _
tells_at After s h to tw tb t = none _ _
tells_at Finished s h to tw tb t = none _ _

-- one event more, in front of those that follow
in_front : (s : MatchState) (h : Happening) (hs : List Happening) (to : Colour) (known : List Move) → (next s h).setup ≡ s.setup → Telling s.stage s h to known
    → tell_lines (opening (next s h).setup.game_type) ((known ++ told_at s.stage h to) ++ told (next s h) hs to)
    ≡ tell_lines (opening (next s h).setup.game_type) (known ++ told_at s.stage h to) ++ telling_lines (next s h) hs to
    → tell_lines (opening s.setup.game_type) (known ++ told s (h ∷ hs) to) ≡ tell_lines (opening s.setup.game_type) known ++ telling_lines s (h ∷ hs) to
in_front s h hs to known same now later =
    let P : FullSetup → Type 0 = λ x. tell_lines (opening x.game_type) ((known ++ told_at s.stage h to) ++ told (next s h) hs to)
    ≡ tell_lines (opening x.game_type) (known ++ told_at s.stage h to) ++ telling_lines (next s h) hs to in
    ap (tell_lines (opening s.setup.game_type)) (sym (append_assoc known (told_at s.stage h to) (told (next s h) hs to)))
    ∙ subst P same later
    ∙ ap (λ (r : List (List ℕ)). r ++ telling_lines (next s h) hs to) now
    ∙ append_assoc (tell_lines (opening s.setup.game_type) known) (cond (is_telling s.stage) (sent_at s s.stage h to) []) (telling_lines (next s h) hs to)

tells : (hs : List Happening) (s : MatchState) (k : Heard) (to : Colour) (tw tb : List Move) → Good s k tw tb → Answering s hs
    → tell_lines (opening s.setup.game_type) (known_of to tw tb ++ told s hs to) ≡ tell_lines (opening s.setup.game_type) (known_of to tw tb) ++ telling_lines s hs to
tells [] s k to tw tb g a = none (opening s.setup.game_type) (known_of to tw tb)
tells (h ∷ hs) s k to tw tb g (w, a) =
    let st = steps s k tw tb h g w in
    let later : (known : List Move) → Type 0 = λ known. tell_lines (opening (next s h).setup.game_type) (known ++ told (next s h) hs to) ≡ tell_lines (opening (next s h).setup.game_type) known ++ telling_lines (next s h) hs to in
    in_front s h hs to (known_of to tw tb) st.same (tells_at s.stage s h to tw tb g.told)
    (subst later (known_more to tw tb (told_at s.stage h)) (tells hs (next s h) (heard_at s.stage k h) to (tw ++ told_at s.stage h White) (tb ++ told_at s.stage h Black) st.good a))

-- the lines of some moves, and those of others after them
lines_behind : (p : Position) (xs ys : List Move) → tell_lines p (xs ++ ys) ≡ tell_lines p xs ++ tell_lines (replay p xs) ys
lines_behind p [] ys = refl
lines_behind p (x ∷ xs) ys = ap (λ (r : List (List ℕ)). tell_line p x ∷ r) (lines_behind (after p x) xs ys)

-- a side that knows the moves with which the match begins is sent those after them
tells_behind : (setup : FullSetup) (lines : List (List ℕ)) (told : List Move) → tell_lines (opening setup.game_type) (setup.begin ++ told) ≡ tell_lines (opening setup.game_type) setup.begin ++ lines
    → lines ≡ tell_lines (first_position setup) told
tells_behind setup lines told e = append_cancel_left (tell_lines (opening setup.game_type) setup.begin) lines (tell_lines (first_position setup) told) (sym e ∙ lines_behind (opening setup.game_type) setup.begin told)

pub fair : (setup : FullSetup) (hs : List Happening) → IsBegin setup → Answering (start setup) hs → IsFair setup hs
fair setup hs is a =
    let good = good_start setup is.game in
    let r = goes hs (start setup) nothing_heard setup.begin setup.begin good a in
    let kind : (match_after setup hs).setup.game_type ≡ setup.game_type = ap (λ (x : FullSetup). x.game_type) r.same in
    let some = told_some (match_after setup hs).stage (match_after setup hs).moves _ _ r.good.told in
    record {
      legal = subst (λ t. AreLegal (opening t) (match_after setup hs).moves) kind r.good.legal.legal;
      stands = subst (λ (x : FullSetup). StandsFrom x (match_after setup hs).moves) r.same r.good.legal.stands;
      white = some.0;
      black = some.1;
      white_lines = tells_behind setup _ _ (tells hs (start setup) nothing_heard White setup.begin setup.begin good a);
      black_lines = tells_behind setup _ _ (tells hs (start setup) nothing_heard Black setup.begin setup.begin good a);
    }

pub plain_fair : (setup : Setup) (hs : List Happening) → Answering (start (setup_plain setup)) hs → IsPlainFair setup hs
plain_fair setup hs a =
    let f = fair (setup_plain setup) hs (record { game = tt; few = omega arith }) a in
    record { legal = f.legal; stands = f.stands; white = f.white; black = f.black; white_lines = f.white_lines; black_lines = f.black_lines }
