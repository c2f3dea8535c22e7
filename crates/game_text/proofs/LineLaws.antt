-- A line is read as a game exactly if it is that game.
use Rattle.std.proofs.Common.{◌≡◌, ℕ, ◌+◌, ◌≤◌, Bool, true, false, List, [], ◌∷◌, length, Result, Ok, Err, refl, sym, ◌∙◌, ap, subst, arith, inl, inr}
use Rattle.std.specs.Prelude.{Option, Some, None, nat_eq, nat_lt, IfOk, IfErr, ◌&&◌, if◌then◌else◌}
use Rattle.std.proofs.lemmas.Bool.{and_parts, eqb-true, eq-eqb, ltb-false, le-ltb}
use Rattle.std.proofs.lemmas.Slice.Eq.{bytes_eq-Decides}
use Rattle.hive_model.specs.declared.pieces.GameType.{GameType}
use Rattle.hive_model.specs.declared.places.State.{State}
use Rattle.hive_model.specs.declared.places.Move.{Move}
use Rattle.hive_model.specs.Pieces.{is_colour}
use Rattle.hive_model.specs.Lists.{onto}
use Rattle.hive_model.specs.Boards.{Stacks}
use Rattle.hive_model.specs.Positions.{Position, opening}
use Rattle.hive_model.specs.Games.{after, replay}
use Rattle.hive_model.specs.Denotes.{Denotes}
use Rattle.hive_model.specs.Fields.{type_bytes, state_bytes}
use Rattle.hive_model.specs.Repetition.{keys, outcome_under}
use Rattle.hive_model.specs.Strings.{parts, turn_bytes, DenoteMoves, IsGameLine, IsGameLineUnder}
use Rattle.move_text.specs.Readers.{type_at, state_at}
use Rattle.move_text.proofs.FieldLaws.{type_found, type_only, state_found, state_only}
use Rattle.hive_model.proofs.PieceLaws.{same_colour, from_same_colour}
use Rattle.rule_laws.proofs.Games.{games_count}
use Rattle.rule_laws.proofs.Openings.{openings}
use Rattle.game_text.specs.declared.faults.GameFault.{GameFault}
use Rattle.game_text.specs.declared.faults.GameFault.TheVariants.{Malformed, TooLong, BadMove, IllegalMove, OtherState, OtherTurn, Memory}
use Rattle.game_text.specs.declared.parsed.Parsed.{Parsed}
use Rattle.game_text.specs.declared.turns.DeclaredTurn.{DeclaredTurn}
use Rattle.game_text.specs.Turns.{turn_at}
use Rattle.game_text.specs.Reading.{moves_from, Fails, Agrees, first_empty, is_state, is_turn_of, confirmed, at_moves, at_turn, after_state, at_state, after_type, at_type, game_at, game_under, game_of}
use Rattle.game_text.specs.Refusals.{HasParts}
use Rattle.game_text.specs.Laws.{OffIsPlain}
use Rattle.hive_model.proofs.StandLaws.{all_stand}
use Rattle.game_text.proofs.PartLaws.{parts-joined, type_part}
use Rattle.game_text.proofs.TurnLaws.{turn_found, turn_again}
use Rattle.game_text.proofs.FieldReads.{first}
use Rattle.game_text.proofs.OpenLaws.{open_stands, stands_open}
use Rattle.game_text.proofs.OrderLaws.{moves_found, moves_again, denoted_size}

-- A line of one part

pub no_parts : (line : List ℕ) → parts line ≡ [] → ⊥
unfolding parts
no_parts [] e = cc
no_parts (b ∷ bs) e = go (nat_eq b 59) (parts bs) e
  where
    go : (t : Bool) (ps : List (List ℕ)) → (if t then [] ∷ ps else onto b ps) ≡ [] → ⊥
    go true ps k = cc
    go false [] k = cc
    go false (p ∷ ps) k = cc

pub whole : (line x : List ℕ) → parts line ≡ x ∷ [] → line ≡ x
unfolding parts
whole [] x e = cc
whole (b ∷ bs) x e = go (nat_eq b 59) (parts bs) refl e (λ p f. whole bs p f) (λ f. no_parts bs f)
  where
    go : (t : Bool) (ps : List (List ℕ)) → parts bs ≡ ps → (if t then [] ∷ ps else onto b ps) ≡ x ∷ [] → ((p : List ℕ) → parts bs ≡ p ∷ [] → bs ≡ p) → (parts bs ≡ [] → ⊥) → b ∷ bs ≡ x
    go true [] f k more none = absurd (none f)
    go true (p ∷ ps) f k more none = absurd (cc)
    go false [] f k more none = absurd (none f)
    go false (p ∷ []) f k more none = let same : b ∷ p ≡ x = cc in ap (λ (r : List ℕ). b ∷ r) (more p f) ∙ same
    go false (p ∷ q ∷ qs) f k more none = absurd (cc)

-- Comparisons

pub same_state : (s u : State) → is_state s u ≡ true → s ≡ u
same_state s u h =
    let e = (bytes_eq-Decides (state_bytes s) (state_bytes u)).0 h in
    let f = state_only (state_bytes s) s refl in
    let g = state_only (state_bytes s) u e in
    let same : Some s ≡ Some u = sym f ∙ g in cc

pub is_state_itself : (s : State) → is_state s s ≡ true
is_state_itself s = (bytes_eq-Decides (state_bytes s) (state_bytes s)).1 refl

pub same_turn : (u : DeclaredTurn) (p : Position) → is_turn_of u p ≡ true → (u.side ≡ p.side) × (u.number ≡ p.turn)
same_turn u p h = let both = and_parts (is_colour u.side p.side) (nat_eq u.number p.turn) h in (same_colour u.side p.side both.0, eqb-true u.number p.turn both.1)

pub is_turn_itself : (u : DeclaredTurn) (p : Position) → u.side ≡ p.side → u.number ≡ p.turn → is_turn_of u p ≡ true
is_turn_itself u p e f = ap (λ c. is_colour c p.side && nat_eq u.number p.turn) e ∙ ap (λ t. t && nat_eq u.number p.turn) (from_same_colour p.side p.side refl) ∙ eq-eqb u.number p.turn f

-- What was read is the line's game

confirmed_found : (r : Bool) (line : List ℕ) (t : GameType) (s : State) (u : DeclaredTurn) (rest : List (List ℕ)) (g : Parsed) → HasParts line t s u rest → length rest ≤ 5000
    → (read : Result (List Move) GameFault) → moves_from r t rest ≡ read → confirmed r t s u read ≡ Ok g → IsGameLineUnder r line g.game_type g.moves
confirmed_found r line t s u rest g head few (Err fault) e k = absurd (cc)
confirmed_found r line t s u rest g head few (Ok ms) e k = states (is_state s (outcome_under r t ms)) refl (is_turn_of u (replay (opening t) ms)) refl k
  where
    states : (a : Bool) → is_state s (outcome_under r t ms) ≡ a → (b : Bool) → is_turn_of u (replay (opening t) ms) ≡ b
        → (if a then (if b then Ok (record { game_type = t; moves = ms }) else Err OtherTurn) else Err OtherState) ≡ Ok g → IsGameLineUnder r line g.game_type g.moves
    states true e1 true f1 k1 =
        let same : ◌≡◌ {A = Parsed} (record { game_type = t; moves = ms }) g = cc in
        let start = openings t in
        let low : 0 + length rest ≤ 9000 = omega (arith, few) in
        let found = moves_found r (keys t []) (opening t) rest 1 0 ms start.0 start.1 low e in
        let size = found.size in
        let stated = same_state s (outcome_under r t ms) e1 in
        let turned = same_turn u (replay (opening t) ms) f1 in
        subst (λ z. IsGameLineUnder r line z.game_type z.moves) same (inr (
          record {
            rest = rest;
            parts_are = head.parts_are ∙ (λ i. type_bytes t ∷ (state_bytes (stated i) ∷ (turn_bytes (turned.0 i) (turned.1 i) ∷ rest)));
            denote = found.denote;
            legal = found.legal;
            few = omega (arith, size, few);
          },
          open_stands r t ms found.legal found.yet,
        ))
    states true e1 false f1 k1 = absurd (cc)
    states false e1 b f1 k1 = absurd (cc)

pub under_found : (r : Bool) (line : List ℕ) (g : Parsed) → game_under r line ≡ Ok g → IsGameLineUnder r line g.game_type g.moves
unfolding game_under
under_found r line g h = go (parts line) refl h
  where
    few : (t : GameType) (s : State) (u : DeclaredTurn) (rest : List (List ℕ)) → HasParts line t s u rest → (b : Bool) → nat_lt 5000 (length rest) ≡ b
        → (if b then Err TooLong else confirmed r t s u (moves_from r t rest)) ≡ Ok g → IsGameLineUnder r line g.game_type g.moves
    few t s u rest head true e k = absurd (cc)
    few t s u rest head false e k = let most = ltb-false 5000 (length rest) e in confirmed_found r line t s u rest g head (omega (arith, most)) (moves_from r t rest) refl k

    empty : (t : GameType) (s : State) (u : DeclaredTurn) (rest : List (List ℕ)) → HasParts line t s u rest → (o : Option ℕ) → at_moves r t s u rest o ≡ Ok g → IsGameLineUnder r line g.game_type g.moves
    empty t s u rest head (Some k) e = absurd (cc)
    empty t s u rest head None e = few t s u rest head (nat_lt 5000 (length rest)) refl e

    turn : (t : GameType) (s : State) (z : List ℕ) (rest : List (List ℕ)) → parts line ≡ type_bytes t ∷ (state_bytes s ∷ (z ∷ rest)) → (o : Option DeclaredTurn) → turn_at z ≡ o → at_turn r t s o rest ≡ Ok g → IsGameLineUnder r line g.game_type g.moves
    turn t s z rest split None e k = absurd (cc)
    turn t s z rest split (Some u) e k =
        let is = turn_found z u e in
        empty t s u rest (record { parts_are = split ∙ ap (λ (x : List ℕ). type_bytes t ∷ (state_bytes s ∷ (x ∷ rest))) is.text_is; low = is.low; high = is.high }) (first_empty rest 4) k

    third : (t : GameType) (s : State) (rest : List (List ℕ)) → parts line ≡ type_bytes t ∷ (state_bytes s ∷ rest) → after_state r t s rest ≡ Ok g → IsGameLineUnder r line g.game_type g.moves
    third t s [] split k = absurd (cc)
    third t s (z ∷ rest) split k = turn t s z rest split (turn_at z) refl k

    stated : (t : GameType) (y : List ℕ) (rest : List (List ℕ)) → parts line ≡ type_bytes t ∷ (y ∷ rest) → (o : Option State) → state_at y ≡ o → at_state r t o rest ≡ Ok g → IsGameLineUnder r line g.game_type g.moves
    stated t y rest split None e k = absurd (cc)
    stated t y rest split (Some s) e k = third t s rest (split ∙ ap (λ (x : List ℕ). type_bytes t ∷ (x ∷ rest)) (state_found y s e)) k

    second : (t : GameType) (rest : List (List ℕ)) → parts line ≡ type_bytes t ∷ rest → after_type r t rest ≡ Ok g → IsGameLineUnder r line g.game_type g.moves
    second t [] split k =
        let same : ◌≡◌ {A = Parsed} (record { game_type = t; moves = [] }) g = cc in
        subst (λ z. IsGameLineUnder r line z.game_type z.moves) same (inl (whole line (type_bytes t) split, refl))
    second t (y ∷ rest) split k = stated t y rest split (state_at y) refl k

    typed : (x : List ℕ) (rest : List (List ℕ)) → parts line ≡ x ∷ rest → (o : Option GameType) → type_at x ≡ o → at_type r o rest ≡ Ok g → IsGameLineUnder r line g.game_type g.moves
    typed x rest split None e k = absurd (cc)
    typed x rest split (Some t) e k = second t rest (split ∙ ap (λ (z : List ℕ). z ∷ rest) (type_found x t e)) k

    go : (ps : List (List ℕ)) → parts line ≡ ps → game_at r ps ≡ Ok g → IsGameLineUnder r line g.game_type g.moves
    go [] split k = absurd (cc)
    go (x ∷ rest) split k = typed x rest split (type_at x) refl k

-- The line's game is read

denotes_some : (t : GameType) (b : Stacks) (m : Move) → Denotes t b [] m → ⊥
denotes_some t b m (inl h) = let e = h.0 in cc
denotes_some t b m (inr (inl d)) = let e = d.text_is in cc
denotes_some t b m (inr (inr d)) = let e = d.text_is in cc

none_empty : (p : Position) (xs : List (List ℕ)) (ms : List Move) (k : ℕ) → DenoteMoves p xs ms → first_empty xs k ≡ None
none_empty p [] ms k d = refl
none_empty p (x ∷ xs) [] k d = absurd d
none_empty p ([] ∷ xs) (m ∷ ms) k d = absurd (denotes_some p.game_type p.board m d.0)
none_empty p ((b ∷ bs) ∷ xs) (m ∷ ms) k d = none_empty (after p m) xs ms (k + 1) d.1

pub head_read : (r : Bool) (line : List ℕ) (t : GameType) (s : State) (u : DeclaredTurn) (rest : List (List ℕ)) → HasParts line t s u rest → game_under r line ≡ at_moves r t s u rest (first_empty rest 4)
head_read r line t s u rest h =
    first r line (type_bytes t) (state_bytes s ∷ (turn_bytes u.side u.number ∷ rest)) (Some t) h.parts_are (type_only (type_bytes t) t refl)
    ∙ ap (λ o. at_state r t o (turn_bytes u.side u.number ∷ rest)) (state_only (state_bytes s) s refl)
    ∙ ap (λ o. at_turn r t s o rest) (turn_again u.side u.number h.low h.high)

pub few_read : (r : Bool) (t : GameType) (s : State) (u : DeclaredTurn) (rest : List (List ℕ)) → first_empty rest 4 ≡ None → length rest ≤ 5000 → at_moves r t s u rest (first_empty rest 4) ≡ confirmed r t s u (moves_from r t rest)
few_read r t s u rest none few =
    ap (at_moves r t s u rest) none ∙ ap (λ (b : Bool). if b then Err TooLong else confirmed r t s u (moves_from r t rest)) (le-ltb 5000 (length rest) few)

pub under_again : (r : Bool) (line : List ℕ) (t : GameType) (ms : List Move) → IsGameLineUnder r line t ms → game_under r line ≡ Ok (record { game_type = t; moves = ms })
under_again r line t ms (inl h) =
    first r line (type_bytes t) [] (Some t) (ap parts h.0 ∙ parts-joined (type_bytes t) [] (type_part t) tt) (type_only (type_bytes t) t refl)
    ∙ ap (λ (ns : List Move). Ok (record { game_type = t; moves = ns })) (sym h.1)
under_again r line t ms (inr (f, stands)) =
    let turn = (games_count t ms).turn in
    let few = f.few in
    let size = denoted_size (opening t) f.rest ms f.denote in
    let short : length f.rest ≤ 5000 = omega (arith, size, few) in
    let low : 1 ≤ (replay (opening t) ms).turn = omega (arith, turn) in
    let high : (replay (opening t) ms).turn ≤ 999999999 = omega (arith, turn, few) in
    head_read r line t (outcome_under r t ms) (record { side = (replay (opening t) ms).side; number = (replay (opening t) ms).turn }) f.rest (record { parts_are = f.parts_are; low = low; high = high })
    ∙ few_read r t (outcome_under r t ms) (record { side = (replay (opening t) ms).side; number = (replay (opening t) ms).turn }) f.rest (none_empty (opening t) f.rest ms 4 f.denote) short
    ∙ ap (confirmed r t (outcome_under r t ms) (record { side = (replay (opening t) ms).side; number = (replay (opening t) ms).turn })) (moves_again r (keys t []) (opening t) f.rest 1 ms f.denote f.legal (stands_open r t ms stands))
    ∙ ap (λ (b : Bool). if b then (if is_turn_of (record { side = (replay (opening t) ms).side; number = (replay (opening t) ms).turn }) (replay (opening t) ms) then Ok (record { game_type = t; moves = ms }) else Err OtherTurn) else Err OtherState) (is_state_itself (outcome_under r t ms))
    ∙ ap (λ (b : Bool). if b then Ok (record { game_type = t; moves = ms }) else Err OtherTurn) (is_turn_itself (record { side = (replay (opening t) ms).side; number = (replay (opening t) ms).turn }) (replay (opening t) ms) refl refl)

-- If the rule is off

pub off_plain : OffIsPlain
off_plain line t ms = (to, from)
  where
    to : IsGameLineUnder false line t ms → IsGameLine line t ms
    to (inl h) = inl h
    to (inr h) = inr h.0

    from : IsGameLine line t ms → IsGameLineUnder false line t ms
    from (inl h) = inl h
    from (inr f) = inr (f, all_stand t ms f.legal)

pub game_found : (line : List ℕ) (g : Parsed) → game_of line ≡ Ok g → IsGameLine line g.game_type g.moves
game_found line g h = (off_plain line g.game_type g.moves).0 (under_found false line g h)

pub game_again : (line : List ℕ) (t : GameType) (ms : List Move) → IsGameLine line t ms → game_of line ≡ Ok (record { game_type = t; moves = ms })
game_again line t ms h = under_again false line t ms ((off_plain line t ms).1 h)

-- For the call

pub agrees_line : (r : Bool) (line : List ℕ) (z : Result Parsed GameFault) → Agrees z (game_under r line) → IfOk z (λ g. IsGameLineUnder r line g.game_type g.moves)
agrees_line r line (Ok g) h = under_found r line g h
agrees_line r line (Err fault) h = tt

pub agrees_ok : (r : Bool) (line : List ℕ) (z : Result Parsed GameFault) → Agrees z (game_under r line) → IfOk z (λ g. game_under r line ≡ Ok g)
agrees_ok r line (Ok g) h = h
agrees_ok r line (Err fault) h = tt

pub agrees_err : (r : Bool) (line : List ℕ) (z : Result Parsed GameFault) → Agrees z (game_under r line) → IfErr z (λ fault. Fails fault (game_under r line))
agrees_err r line (Ok g) h = tt
agrees_err r line (Err fault) h = h

fails_not : (fault : GameFault) (g : Parsed) (read : Result Parsed GameFault) → Fails fault read → read ≡ Ok g → fault ≡ Memory
fails_not Memory g read h e = refl
fails_not (Malformed k) g read h e = let wrong = sym h ∙ e in absurd (cc)
fails_not TooLong g read h e = let wrong = sym h ∙ e in absurd (cc)
fails_not (BadMove n fault) g read h e = let wrong = sym h ∙ e in absurd (cc)
fails_not (IllegalMove n) g read h e = let wrong = sym h ∙ e in absurd (cc)
fails_not OtherState g read h e = let wrong = sym h ∙ e in absurd (cc)
fails_not OtherTurn g read h e = let wrong = sym h ∙ e in absurd (cc)

pub agrees_only : (r : Bool) (line : List ℕ) (z : Result Parsed GameFault) → Agrees z (game_under r line) → (t : GameType) (ms : List Move) → IsGameLineUnder r line t ms → IfErr z (λ fault. fault ≡ Memory)
agrees_only r line (Ok g) h t ms is = tt
agrees_only r line (Err fault) h t ms is = fails_not fault (record { game_type = t; moves = ms }) (game_under r line) h (under_again r line t ms is)

pub plain_line : (line : List ℕ) (z : Result Parsed GameFault) → IfOk z (λ g. IsGameLineUnder false line g.game_type g.moves) → IfOk z (λ g. IsGameLine line g.game_type g.moves)
plain_line line (Ok g) h = (off_plain line g.game_type g.moves).0 h
plain_line line (Err fault) h = tt
