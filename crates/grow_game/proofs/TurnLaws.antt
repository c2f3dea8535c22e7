-- One turn of each loop over plies, over plain values.
use Rattle.std.proofs.Common.{◌≡◌, ℕ, ◌+◌, ◌-◌, ◌%◌, ◌<◌, ◌≤◌, false, true, List, [], ◌∷◌, ◌++◌, length, length-append, append_assoc, take, drop, refl, sym, ◌∙◌, ap, subst, arith, Some}
use Rattle.std.specs.List.{slice_get}
use Rattle.std.proofs.lemmas.List.{append-nil, length-map}
use Rattle.std.proofs.Math.Seq.{take-length}
use Rattle.hive_model.specs.declared.places.Move.{Move}
use Rattle.hive_model.specs.Lists.{IsOn}
use Rattle.hive_model.specs.Positions.{Position, opening}
use Rattle.hive_model.specs.Legal.{is_over, moves}
use Rattle.hive_model.specs.Games.{after, replay, AreLegal}
use Rattle.hive_model.specs.Keys.{key}
use Rattle.hive_model.specs.Histories.{History, position, with_move, without_last}
use Rattle.search_laws.proofs.HistoryLaws.{take-all_but_last, position-with_move, replay-append}
use Rattle.hive_model.specs.Stack.{Levels, level_of, with_level}
use Rattle.search_laws.proofs.LoopLaws.{count-of-level, drop-at, drop-all, listed-at}
use Rattle.grow_game.specs.declared.plies.Ply.{Ply}
use Rattle.grow_game.specs.Growing.{full_type, seeded, word, next_state, drawn, grown, grown_moves, choices}
use Rattle.grow_game.specs.Plies.{moves_of, AreKeyed}
use Rattle.grow_game.specs.Made.{AreMade}
use Rattle.grow_game.proofs.GrowLaws.{grown-none, grown-legal, grown-over, grown-drawn, choices-none, choices-append}
use Rattle.grow_game.proofs.PlyLaws.{moves_of-append, taken_next, keyed-append, keyed-at}

-- ---- plies that are undone

-- this number of plies is still played, the others were undone and counted
pub record AreBack (from : History) (ts : List Ply) (i : ℕ) (now : History) (count : ℕ) : Type 0 where
  pub kind : now.game_type ≡ from.game_type
  pub made : now.made ≡ moves_of (take i ts)
  pub undone : count + i ≡ length ts
  pub spare : now.spare + i ≡ from.spare + length ts

pub back-none : (from : History) (ts : List Ply) → from.made ≡ moves_of ts → AreBack from ts (length ts) from 0
back-none from ts made = record {
  kind = refl;
  made = made ∙ ap moves_of (sym (take-length ts));
  undone = omega arith;
  spare = refl;
}

last-made : (from now : History) (ts : List Ply) (i n : ℕ) (t : Ply) → 0 < i → AreBack from ts i now n → slice_get ts (i - 1) ≡ Some t →
    now.made ≡ moves_of (take (i - 1) ts) ++ t.m ∷ []
last-made from now ts i n t some turn here =
    let up : i ≡ i - 1 + 1 = omega (arith, some) in
    turn.made ∙ ap (λ k. moves_of (take k ts)) up ∙ ap moves_of (taken_next ts (i - 1) t here) ∙ moves_of-append (take (i - 1) ts) t

pub back-some : (from now : History) (ts : List Ply) (i n : ℕ) (t : Ply) → 0 < i → AreBack from ts i now n → slice_get ts (i - 1) ≡ Some t → 1 ≤ length now.made
back-some from now ts i n t some turn here =
    omega (arith, ap length (last-made from now ts i n t some turn here), length-append (moves_of (take (i - 1) ts)) (t.m ∷ []))

shorter : (from now next : History) (ts : List Ply) (i n : ℕ) (t : Ply) → 0 < i → AreBack from ts i now n → slice_get ts (i - 1) ≡ Some t →
    next ≡ without_last now → next.made ≡ moves_of (take (i - 1) ts)
shorter from now next ts i n t some turn here back =
    ap (λ (c : History). c.made) back ∙ ap (λ (ms : List Move). take (length ms - 1) ms) (last-made from now ts i n t some turn here)
    ∙ take-all_but_last (moves_of (take (i - 1) ts)) t.m

-- the key from before the ply is there again
pub back-key : (from now next : History) (ts : List Ply) (i n : ℕ) (t : Ply) → AreKeyed (opening from.game_type) ts → 0 < i → AreBack from ts i now n →
    slice_get ts (i - 1) ≡ Some t → next ≡ without_last now → key (position next) ≡ t.before
back-key from now next ts i n t keyed some turn here back =
    let kind : next.game_type ≡ from.game_type = ap (λ (c : History). c.game_type) back ∙ turn.kind in
    ap (λ k. key (replay (opening k) next.made)) kind
    ∙ ap (λ (ms : List Move). key (replay (opening from.game_type) ms)) (shorter from now next ts i n t some turn here back)
    ∙ sym (keyed-at (opening from.game_type) ts (i - 1) t keyed here)

pub back-all : (from now : History) (ts : List Ply) (i n : ℕ) → AreBack from ts i now n → i ≤ 0 → now.made ≡ []
back-all from now ts i n turn past =
    let none : i ≡ 0 = omega (arith, past) in
    turn.made ∙ ap (λ k. moves_of (take k ts)) none ∙ ap moves_of (nothing ts)
  where
    nothing : (ts : List Ply) → take 0 ts ≡ []
    nothing [] = refl
    nothing (t ∷ ts) = refl

-- ---- plies that are played again

-- this number of plies was played again, and the others can be
pub record AreForward (from : History) (ts : List Ply) (i : ℕ) (now : History) : Type 0 where
  pub kind : now.game_type ≡ from.game_type
  pub made : now.made ++ moves_of (drop i ts) ≡ from.made ++ moves_of ts
  pub legal : AreLegal (position now) (moves_of (drop i ts))
  pub spare : now.spare + i ≡ from.spare

pub forward-none : (from : History) (ts : List Ply) → AreLegal (position from) (moves_of ts) → AreForward from ts 0 from
forward-none from ts legal = record {
  kind = refl;
  made = ap (λ (r : List Ply). from.made ++ moves_of r) (all ts);
  legal = subst (λ (r : List Ply). AreLegal (position from) (moves_of r)) (sym (all ts)) legal;
  spare = omega arith;
}
  where
    all : (ts : List Ply) → drop 0 ts ≡ ts
    all [] = refl
    all (k ∷ ts) = refl

pub forward-legal : (from now : History) (ts : List Ply) (i : ℕ) (t : Ply) → AreForward from ts i now → slice_get ts i ≡ Some t → IsOn (moves (position now)) t.m
forward-legal from now ts i t turn here =
    let legal : AreLegal (position now) (t.m ∷ moves_of (drop (i + 1) ts)) =
    subst (λ (r : List Ply). AreLegal (position now) (moves_of r)) (drop-at ts i t here) turn.legal in
    legal.0

pub forward-step : (from now next : History) (ts : List Ply) (i : ℕ) (t : Ply) → AreForward from ts i now → slice_get ts i ≡ Some t → 1 ≤ now.spare →
    next ≡ with_move now t.m → AreForward from ts (i + 1) next
forward-step from now next ts i t turn here room moved =
    let legal : AreLegal (position now) (t.m ∷ moves_of (drop (i + 1) ts)) =
    subst (λ (r : List Ply). AreLegal (position now) (moves_of r)) (drop-at ts i t here) turn.legal in
    let behind : position next ≡ after (position now) t.m = ap position moved ∙ position-with_move now t.m in
    let less : next.spare ≡ now.spare - 1 = ap (λ (c : History). c.spare) moved in
    record {
      kind = ap (λ (c : History). c.game_type) moved ∙ turn.kind;
      made = ap (λ (c : History). c.made ++ moves_of (drop (i + 1) ts)) moved ∙ append_assoc now.made (t.m ∷ []) (moves_of (drop (i + 1) ts))
          ∙ ap (λ (r : List Ply). now.made ++ moves_of r) (sym (drop-at ts i t here)) ∙ turn.made;
      legal = subst (λ (p : Position). AreLegal p (moves_of (drop (i + 1) ts))) (sym behind) legal.1;
      spare = omega (arith, turn.spare, less, room);
    }

pub forward-all : (from now : History) (ts : List Ply) (i : ℕ) → AreForward from ts i now → length ts ≤ i → now.made ≡ from.made ++ moves_of ts
forward-all from now ts i turn past =
    sym (append-nil now.made) ∙ ap (λ (r : List Ply). now.made ++ moves_of r) (sym (drop-all ts i past)) ∙ turn.made

-- ---- plies that are drawn

-- this number of plies of the seed was played, and the generator in this state makes the others
pub record AreGrowing (seed plies : ℕ) (from now : History) (state i : ℕ) (made : List Ply) (sum : ℕ) : Type 0 where
  pub kind : now.game_type ≡ from.game_type
  pub moves : now.made ≡ moves_of made
  pub here : position now ≡ replay (position from) (moves_of made)
  pub rest : moves_of made ++ grown state (plies - i) (position now) ≡ grown (seeded seed) plies (position from)
  pub keyed : AreKeyed (position from) made
  pub chosen : sum ≡ choices (position from) (moves_of made)
  pub count : length made ≡ i
  pub spare : now.spare + i ≡ from.spare

pub growing-none : (seed plies : ℕ) (from now : History) (state : ℕ) → from.made ≡ [] → now ≡ from → state ≡ seeded seed → AreGrowing seed plies from now state 0 [] 0
growing-none seed plies from now state fresh same begun = record {
  kind = ap (λ (c : History). c.game_type) same;
  moves = ap (λ (c : History). c.made) same ∙ fresh;
  here = ap position same;
  rest = ap (λ s. grown s (plies - 0) (position now)) begun ∙ ap (λ n. grown (seeded seed) n (position now)) (whole plies)
      ∙ ap (λ (c : History). grown (seeded seed) plies (position c)) same;
  keyed = tt;
  chosen = sym (choices-none (position from));
  count = refl;
  spare = omega (arith, ap (λ (c : History). c.spare) same);
}
  where
    whole : (n : ℕ) → n - 0 ≡ n
    whole n = omega arith

-- one ply more, drawn by the generator's next word
pub growing-step : (seed plies : ℕ) (from now next : History) (state i : ℕ) (made : List Ply) (sum more : ℕ) (t : Ply) → AreGrowing seed plies from now state i made sum →
    i < plies → is_over (position now) ≡ false → drawn (word state) (moves (position now)) ≡ Some t.m → t.before ≡ key (position now) → 1 ≤ now.spare →
    next ≡ with_move now t.m → more ≡ length (moves (position now)) → AreGrowing seed plies from next (next_state state) (i + 1) (made ++ t ∷ []) (sum + more)
growing-step seed plies from now next state i made sum more t turn left goes_on draws before room moved many =
    let start = position from in
    let behind : position next ≡ after (position now) t.m = ap position moved ∙ position-with_move now t.m in
    let longer : moves_of (made ++ t ∷ []) ≡ moves_of made ++ t.m ∷ [] = moves_of-append made t in
    let less : next.spare ≡ now.spare - 1 = ap (λ (c : History). c.spare) moved in
    let fewer : plies - i - 1 ≡ plies - (i + 1) = omega arith in
    let rest : grown state (plies - i) (position now) ≡ t.m ∷ grown (next_state state) (plies - (i + 1)) (position next) =
    grown-drawn state (plies - i) (position now) t.m (omega (arith, left)) goes_on draws
    ∙ ap (λ n. t.m ∷ grown (next_state state) n (after (position now) t.m)) fewer
    ∙ ap (λ (p : Position). t.m ∷ grown (next_state state) (plies - (i + 1)) p) (sym behind) in
    let all = grown (next_state state) (plies - (i + 1)) (position next) in
    let place : length (moves (position now)) ≡ length (moves (replay start (moves_of made))) = ap (λ (p : Position). length (moves p)) turn.here in
    record {
      kind = ap (λ (c : History). c.game_type) moved ∙ turn.kind;
      moves = ap (λ (c : History). c.made) moved ∙ ap (λ (ms : List Move). ms ++ t.m ∷ []) turn.moves ∙ sym longer;
      here = behind ∙ ap (λ (p : Position). after p t.m) turn.here ∙ sym (replay-append start (moves_of made) t.m) ∙ ap (replay start) (sym longer);
      rest = ap (λ (ms : List Move). ms ++ all) longer ∙ append_assoc (moves_of made) (t.m ∷ []) all ∙ ap (λ (ms : List Move). moves_of made ++ ms) (sym rest) ∙ turn.rest;
      keyed = keyed-append start made t turn.keyed (before ∙ ap key turn.here);
      chosen = omega (arith, turn.chosen, many, place, choices-append start (moves_of made) t.m, ap (choices start) longer);
      count = omega (arith, turn.count, length-append made (t ∷ []));
      spare = omega (arith, turn.spare, less, room);
    }

ended : (seed plies : ℕ) (from now : History) (state i : ℕ) (made : List Ply) (sum : ℕ) → AreGrowing seed plies from now state i made sum →
    grown state (plies - i) (position now) ≡ [] → AreMade seed plies from now made sum
ended seed plies from now state i made sum turn none = record {
  kind = turn.kind;
  moves = turn.moves;
  grown = sym (append-nil (moves_of made)) ∙ ap (λ (ms : List Move). moves_of made ++ ms) (sym none) ∙ turn.rest;
  keyed = turn.keyed;
  chosen = turn.chosen;
  spare = omega (arith, turn.spare, turn.count);
}

-- the game is over
pub growing-over : (seed plies : ℕ) (from now : History) (state i : ℕ) (made : List Ply) (sum : ℕ) → AreGrowing seed plies from now state i made sum →
    is_over (position now) ≡ true → AreMade seed plies from now made sum
growing-over seed plies from now state i made sum turn over =
    ended seed plies from now state i made sum turn (grown-over state (plies - i) (position now) over)

-- no ply is left
pub growing-all : (seed plies : ℕ) (from now : History) (state i : ℕ) (made : List Ply) (sum : ℕ) → AreGrowing seed plies from now state i made sum →
    plies ≤ i → AreMade seed plies from now made sum
growing-all seed plies from now state i made sum turn past =
    let none : plies - i ≡ 0 = omega (arith, past) in
    ended seed plies from now state i made sum turn (ap (λ n. grown state n (position now)) none ∙ grown-none state (position now))

-- ---- all plies

begins : (c : History) → c.made ≡ [] → position c ≡ opening c.game_type
begins c none = ap (λ (ms : List Move). replay (opening c.game_type) ms) none

pub made-legal : (seed plies : ℕ) (from to back : History) (made : List Ply) (sum : ℕ) → AreMade seed plies from to made sum → from.made ≡ [] →
    back.game_type ≡ to.game_type → back.made ≡ [] → AreLegal (position back) (moves_of made)
made-legal seed plies from to back made sum turn fresh kind none =
    let legal : AreLegal (position from) (moves_of made) = subst (AreLegal (position from)) (sym turn.grown) (grown-legal (seeded seed) plies (position from)) in
    let same : position from ≡ position back = begins from fresh ∙ ap opening (sym turn.kind ∙ sym kind) ∙ sym (begins back none) in
    subst (λ (p : Position). AreLegal p (moves_of made)) same legal

-- ---- one ply that is drawn

-- the move at the place that a word picks is the one that it draws
pub drawn-here : (start : History) (old s : Levels) (level n i w : ℕ) (m : Move) → s ≡ with_level old (moves (position start)) → level ≡ length old.lists →
    n ≡ length (level_of s level) → i ≡ w % n → slice_get (level_of s level) i ≡ Some m → drawn w (moves (position start)) ≡ Some m
drawn-here start old s level n i w m put on count index here =
    let ms = moves (position start) in
    let all : n ≡ length ms = count-of-level s old ms level n put on count in
    ap (λ k. slice_get ms (w % k)) (sym all) ∙ ap (λ k. slice_get ms k) (sym index) ∙ listed-at s old ms level i m put on here

-- the move that was drawn is played
pub drawn-played : (start listed played : History) (m again : Move) → listed ≡ start → again ≡ m → played ≡ with_move listed again → played ≡ with_move start m
drawn-played start listed played m again same copied moved = moved ∙ ap (λ (c : History). with_move c again) same ∙ ap (λ (k : Move). with_move start k) copied

-- ---- a game that was undone and played again

-- its moves are those of the seed
pub made-grown : (seed plies : ℕ) (from to forth : History) (made : List Ply) (sum : ℕ) → AreMade seed plies from to made sum → from.made ≡ [] → from.game_type ≡ full_type →
    forth.made ≡ moves_of made → forth.made ≡ grown_moves seed plies
made-grown seed plies from to forth made sum turn fresh kind again =
    again ∙ turn.grown ∙ ap (λ (p : Position). grown (seeded seed) plies p) (begins from fresh ∙ ap opening kind)

-- chosen from this number of moves
pub made-chosen : (seed plies : ℕ) (from to forth : History) (made : List Ply) (sum : ℕ) → AreMade seed plies from to made sum → from.made ≡ [] → from.game_type ≡ full_type →
    forth.made ≡ moves_of made → sum ≡ choices (opening full_type) forth.made
made-chosen seed plies from to forth made sum turn fresh kind again =
    turn.chosen ∙ ap (λ (p : Position). choices p (moves_of made)) (begins from fresh ∙ ap opening kind) ∙ ap (λ (ms : List Move). choices (opening full_type) ms) (sym again)

-- as many as the plies that were undone
pub made-undone : (forth : History) (made plies : List Ply) (undone : ℕ) → undone ≡ length plies → plies ≡ made → forth.made ≡ moves_of made → undone ≡ length forth.made
made-undone forth made plies undone counted same again =
    counted ∙ ap (λ (ts : List Ply). length ts) same ∙ sym (length-map made (λ (t : Ply). t.m)) ∙ ap (λ (ms : List Move). length ms) (sym again)

-- they are in the game that was played again from its opening
pub made-again : (back forth last : History) (made plies : List Ply) → back.made ≡ [] → forth.made ≡ back.made ++ moves_of plies → plies ≡ made → last ≡ forth → last.made ≡ moves_of made
made-again back forth last made plies none played same still =
    ap (λ (c : History). c.made) still ∙ played ∙ ap (λ (ms : List Move). ms ++ moves_of plies) none ∙ ap moves_of same

-- the keys of the plies are those of the opening's game
pub made-keyed : (seed plies : ℕ) (from to : History) (made ts : List Ply) (sum : ℕ) → AreMade seed plies from to made sum → from.made ≡ [] → ts ≡ made → AreKeyed (opening to.game_type) ts
made-keyed seed plies from to made ts sum turn fresh same =
    let here : position from ≡ opening to.game_type = begins from fresh ∙ ap opening (sym turn.kind) in
    subst (λ (k : List Ply). AreKeyed (opening to.game_type) k) (sym same) (subst (λ (p : Position). AreKeyed p made) here turn.keyed)
