-- A line is refused with a fault exactly if the rule's words of that fault hold.
use Rattle.std.proofs.Common.{◌≡◌, ◌≢◌, ℕ, suc, ◌+◌, ◌≤◌, Bool, true, false, List, [], ◌∷◌, ◌++◌, length, Result, Ok, Err, refl, sym, ◌∙◌, ap, subst, arith, ◌⊎◌, inl, inr}
use Rattle.std.specs.Prelude.{Option, Some, None, IfErr, IsTrue, nat_lt, if◌then◌else◌}
use Rattle.std.proofs.lemmas.Bool.{ltb-true, ltb-false, lt-ltb}
use Rattle.hive_model.specs.declared.pieces.GameType.{GameType}
use Rattle.hive_model.specs.declared.places.State.{State}
use Rattle.hive_model.specs.declared.places.Move.{Move}
use Rattle.hive_model.specs.Positions.{Position, opening}
use Rattle.hive_model.specs.Lists.{IsOn}
use Rattle.hive_model.specs.Legal.{is_over_state, moves}
use Rattle.hive_model.specs.Games.{replay}
use Rattle.hive_model.specs.Histories.{is_listed}
use Rattle.hive_model.specs.Repetition.{keys, outcome_under}
use Rattle.hive_model.proofs.ListedLaws.{listed_on}
use Rattle.hive_model.specs.Fields.{type_bytes, state_bytes}
use Rattle.hive_model.specs.Strings.{parts}
use Rattle.move_text.specs.Readers.{type_at, state_at}
use Rattle.move_text.proofs.FieldLaws.{type_found, type_only, state_found, state_only}
use Rattle.rule_laws.proofs.Games.{games_sound}
use Rattle.rule_laws.proofs.Openings.{openings}
use Rattle.game_text.specs.declared.faults.GameFault.{GameFault}
use Rattle.game_text.specs.declared.faults.GameFault.TheVariants.{Malformed, TooLong, BadMove, IllegalMove, OtherState, OtherTurn, Memory}
use Rattle.game_text.specs.declared.parsed.Parsed.{Parsed}
use Rattle.game_text.specs.declared.turns.DeclaredTurn.{DeclaredTurn}
use Rattle.game_text.specs.Turns.{IsTurn, turn_at}
use Rattle.game_text.specs.Reading.{may_follow, moves_from, Agrees, first_empty, is_state, is_turn_of, confirmed, at_moves, at_turn, after_state, at_state, after_type, at_type, game_at, game_under}
use Rattle.game_text.specs.Refusals.{HasParts, AreNotEmpty, HasForm, IsMalformed, IsReadUpTo, IsReadWhole, IsRefusedUnder}
use Rattle.game_text.proofs.TurnLaws.{turn_found, turn_again}
use Rattle.game_text.proofs.FieldReads.{first, none_read}
use Rattle.game_text.proofs.OpenLaws.{seen_by, reached_all, third_ends, not_listed, over_stops, open_stands, stands_open}
use Rattle.game_text.proofs.OrderLaws.{Reads, moves_found, moves_again, denoted_size}
use Rattle.game_text.proofs.StopLaws.{Stops, StopsAt, moves_stop, bad_again, illegal_again}
use Rattle.game_text.proofs.LineLaws.{no_parts, same_state, is_state_itself, same_turn, is_turn_itself, head_read, few_read}

-- Empty texts

record IsFirstEmpty (xs : List (List ℕ)) (n k : ℕ) : Type 0 where
  front : List (List ℕ)
  behind : List (List ℕ)
  split : xs ≡ front ++ [] ∷ behind
  before : AreNotEmpty front
  counted : k ≡ n + length front

empty_found : (xs : List (List ℕ)) (n k : ℕ) → first_empty xs n ≡ Some k → IsFirstEmpty xs n k
empty_found [] n k e = absurd (cc)
empty_found ([] ∷ xs) n k e = let same : n ≡ k = cc in record { front = []; behind = xs; split = refl; before = λ text on. absurd on; counted = omega (arith, same) }
empty_found ((b ∷ bs) ∷ xs) n k e =
    let r = empty_found xs (n + 1) k e in
    let counted = r.counted in
    record {
      front = (b ∷ bs) ∷ r.front;
      behind = r.behind;
      split = ap (λ (z : List (List ℕ)). (b ∷ bs) ∷ z) r.split;
      before = λ text on. elim on [ inl same ↦ (λ wrong. let bad : b ∷ bs ≡ [] = same ∙ wrong in cc) | inr later ↦ r.before text later ];
      counted = omega (arith, counted);
    }

none_found : (xs : List (List ℕ)) (n : ℕ) → first_empty xs n ≡ None → AreNotEmpty xs
none_found [] n e text on = absurd on
none_found ([] ∷ xs) n e text on = absurd (cc)
none_found ((b ∷ bs) ∷ xs) n e text on = elim on [ inl same ↦ (λ wrong. let bad : b ∷ bs ≡ [] = same ∙ wrong in cc) | inr later ↦ none_found xs (n + 1) e text later ]

none_again : (xs : List (List ℕ)) (n : ℕ) → AreNotEmpty xs → first_empty xs n ≡ None
none_again [] n h = refl
none_again ([] ∷ xs) n h = absurd (h [] (inl refl) refl)
none_again ((b ∷ bs) ∷ xs) n h = none_again xs (n + 1) (λ text on. h text (inr on))

empty_again : (front behind : List (List ℕ)) (n : ℕ) → AreNotEmpty front → first_empty (front ++ [] ∷ behind) n ≡ Some (n + length front)
empty_again [] behind n h = let same : n ≡ n + 0 = omega arith in ap (λ (k : ℕ). Some k) same
empty_again ([] ∷ xs) behind n h = absurd (h [] (inl refl) refl)
empty_again ((b ∷ bs) ∷ xs) behind n h =
    let same : n + 1 + length xs ≡ n + suc (length xs) = omega arith in
    empty_again xs behind (n + 1) (λ text on. h text (inr on)) ∙ ap (λ (k : ℕ). Some k) same

-- The fault that was read is one of the line

-- the line is read up to its stop
read_to_stop : (r : Bool) (line : List ℕ) (t : GameType) (s : State) (u : DeclaredTurn) (texts : List (List ℕ)) (k : ℕ) (text : List ℕ) (made : List Move) → HasForm line t s u texts → length texts ≤ 5000
    → StopsAt r (keys t []) (opening t) texts 1 k text made → IsReadUpTo r line k t made text
read_to_stop r line t s u texts k text made form few at = record {
  declared = s;
  turn = u;
  front = at.front;
  behind = at.behind;
  form = subst (HasForm line t s u) at.split form;
  few = subst (λ (z : List (List ℕ)). length z ≤ 5000) at.split few;
  counted = at.counted;
  denote = at.denote;
  legal = at.legal;
  stands = open_stands r t made at.legal at.yet;
}

stopped : (r : Bool) (line : List ℕ) (t : GameType) (s : State) (u : DeclaredTurn) (texts : List (List ℕ)) (fault : GameFault) → HasForm line t s u texts → length texts ≤ 5000 → Stops r (keys t []) (opening t) texts 1 fault → IsRefusedUnder r line fault
stopped r line t s u texts (BadMove k f) form few w = record {
  game_type = t;
  made = w.made;
  text = w.text;
  read = read_to_stop r line t s u texts k w.text w.made form few w.at;
  refuses = w.refuses;
}
stopped r line t s u texts (IllegalMove k) form few w = record {
  game_type = t;
  made = w.made;
  text = w.text;
  move = w.move;
  read = read_to_stop r line t s u texts k w.text w.made form few w.at;
  denotes = w.denotes;
  illegal = elim w.illegal [
    | inl none ↦ inl none
    | inr third ↦ inr (third_ends r t w.made (seen_by (keys t []) (opening t) w.made) (replay (opening t) w.made) (reached_all t w.made) third)
  ];
}
stopped r line t s u texts (Malformed k) form few w = absurd w
stopped r line t s u texts TooLong form few w = absurd w
stopped r line t s u texts OtherState form few w = absurd w
stopped r line t s u texts OtherTurn form few w = absurd w
stopped r line t s u texts Memory form few w = absurd w

confirmed_refused : (r : Bool) (line : List ℕ) (t : GameType) (s : State) (u : DeclaredTurn) (texts : List (List ℕ)) (fault : GameFault) → HasForm line t s u texts → length texts ≤ 5000
    → (read : Result (List Move) GameFault) → moves_from r t texts ≡ read → confirmed r t s u read ≡ Err fault → IsRefusedUnder r line fault
confirmed_refused r line t s u texts fault form few (Err f) e k =
    let start = openings t in
    let low : 0 + length texts ≤ 9000 = omega (arith, few) in
    let same : f ≡ fault = cc in
    subst (IsRefusedUnder r line) same (stopped r line t s u texts f form few (moves_stop r (keys t []) (opening t) texts 1 0 f start.0 start.1 low e))
confirmed_refused r line t s u texts fault form few (Ok ms) e k = states (is_state s (outcome_under r t ms)) refl (is_turn_of u (replay (opening t) ms)) refl k
  where
    found : Reads r (keys t []) (opening t) texts ms
    found =
        let start = openings t in
        let low : 0 + length texts ≤ 9000 = omega (arith, few) in
        moves_found r (keys t []) (opening t) texts 1 0 ms start.0 start.1 low e

    whole : IsReadWhole r line
    whole = record {
      game_type = t;
      declared = s;
      turn = u;
      texts = texts;
      made = ms;
      form = form;
      few = few;
      denote = found.denote;
      legal = found.legal;
      stands = open_stands r t ms found.legal found.yet;
    }

    other_state : is_state s (outcome_under r t ms) ≡ false → s ≢ outcome_under r t ms
    other_state f same = let wrong = sym f ∙ ap (λ (z : State). is_state z (outcome_under r t ms)) same ∙ is_state_itself (outcome_under r t ms) in cc

    other_turn : is_turn_of u (replay (opening t) ms) ≡ false → ¬ ((u.side ≡ (replay (opening t) ms).side) × (u.number ≡ (replay (opening t) ms).turn))
    other_turn f same = let wrong = sym f ∙ is_turn_itself u (replay (opening t) ms) same.0 same.1 in cc

    states : (a : Bool) → is_state s (outcome_under r t ms) ≡ a → (b : Bool) → is_turn_of u (replay (opening t) ms) ≡ b
        → ◌≡◌ {A = Result Parsed GameFault} (if a then (if b then Ok (record { game_type = t; moves = ms }) else Err OtherTurn) else Err OtherState) (Err fault) → IsRefusedUnder r line fault
    states true e1 true f1 k1 = absurd (cc)
    states true e1 false f1 k1 =
        let same : ◌≡◌ {A = GameFault} OtherTurn fault = cc in
        subst (IsRefusedUnder r line) same (record { read = whole; same = same_state s (outcome_under r t ms) e1; other = other_turn f1 })
    states false e1 b f1 k1 =
        let same : ◌≡◌ {A = GameFault} OtherState fault = cc in
        subst (IsRefusedUnder r line) same (record { read = whole; other = other_state e1 })

pub refused_found : (r : Bool) (line : List ℕ) (fault : GameFault) → game_under r line ≡ Err fault → IsRefusedUnder r line fault
unfolding game_under
refused_found r line fault h = go (parts line) refl h
  where
    few : (t : GameType) (s : State) (u : DeclaredTurn) (rest : List (List ℕ)) → HasForm line t s u rest → (b : Bool) → nat_lt 5000 (length rest) ≡ b
        → (if b then Err TooLong else confirmed r t s u (moves_from r t rest)) ≡ Err fault → IsRefusedUnder r line fault
    few t s u rest form true e k =
        let same : ◌≡◌ {A = GameFault} TooLong fault = cc in
        subst (IsRefusedUnder r line) same (record { game_type = t; declared = s; turn = u; texts = rest; form = form; long = ltb-true 5000 (length rest) e })
    few t s u rest form false e k = confirmed_refused r line t s u rest fault form (ltb-false 5000 (length rest) e) (moves_from r t rest) refl k

    empty : (t : GameType) (s : State) (u : DeclaredTurn) (rest : List (List ℕ)) → HasParts line t s u rest → (o : Option ℕ) → first_empty rest 4 ≡ o → at_moves r t s u rest o ≡ Err fault → IsRefusedUnder r line fault
    empty t s u rest head (Some k) f e =
        let same : ◌≡◌ {A = GameFault} (Malformed k) fault = cc in
        let found = empty_found rest 4 k f in
        subst (IsRefusedUnder r line) same (inr (inr (inr (record { game_type = t; declared = s; turn = u; front = found.front; behind = found.behind; parts_are = subst (HasParts line t s u) found.split head; before = found.before; counted = found.counted }))))
    empty t s u rest head None f e = few t s u rest (record { parts_are = head; none_empty = none_found rest 4 f }) (nat_lt 5000 (length rest)) refl e

    no_turn : (t : GameType) (s : State) (rest : List (List ℕ)) → parts line ≡ type_bytes t ∷ (state_bytes s ∷ rest) → ((x : List ℕ) (xs : List (List ℕ)) → rest ≡ x ∷ xs → (u : DeclaredTurn) → ¬ IsTurn x u) → IsMalformed line 3
    no_turn t s rest split none = inr (inr (inl (refl, record { game_type = t; declared = s; rest = rest; parts_are = split; none = none })))

    not_turn : (z x : List ℕ) (rest xs : List (List ℕ)) (u : DeclaredTurn) → turn_at z ≡ None → z ∷ rest ≡ x ∷ xs → ¬ IsTurn x u
    not_turn z x rest xs u e split is =
        let same : z ≡ x = cc in
        let read = turn_again u.side u.number is.low is.high in
        let wrong : ◌≡◌ {A = Option DeclaredTurn} None (Some (record { side = u.side; number = u.number })) = sym e ∙ ap turn_at (same ∙ is.text_is) ∙ read in
        cc

    turn : (t : GameType) (s : State) (z : List ℕ) (rest : List (List ℕ)) → parts line ≡ type_bytes t ∷ (state_bytes s ∷ (z ∷ rest)) → (o : Option DeclaredTurn) → turn_at z ≡ o → at_turn r t s o rest ≡ Err fault → IsRefusedUnder r line fault
    turn t s z rest split None e k =
        let same : ◌≡◌ {A = GameFault} (Malformed 3) fault = cc in
        subst (IsRefusedUnder r line) same (no_turn t s (z ∷ rest) split (λ x xs cut u. not_turn z x rest xs u e cut))
    turn t s z rest split (Some u) e k =
        let is = turn_found z u e in
        empty t s u rest (record { parts_are = split ∙ ap (λ (x : List ℕ). type_bytes t ∷ (state_bytes s ∷ (x ∷ rest))) is.text_is; low = is.low; high = is.high }) (first_empty rest 4) refl k

    third : (t : GameType) (s : State) (rest : List (List ℕ)) → parts line ≡ type_bytes t ∷ (state_bytes s ∷ rest) → after_state r t s rest ≡ Err fault → IsRefusedUnder r line fault
    third t s [] split k =
        let same : ◌≡◌ {A = GameFault} (Malformed 3) fault = cc in
        subst (IsRefusedUnder r line) same (no_turn t s [] split (λ x xs cut u is. let bad = cut in cc))
    third t s (z ∷ rest) split k = turn t s z rest split (turn_at z) refl k

    not_state : (y : List ℕ) → state_at y ≡ None → (s : State) → y ≢ state_bytes s
    not_state y e s is = let wrong = sym e ∙ state_only y s is in cc

    stated : (t : GameType) (y : List ℕ) (rest : List (List ℕ)) → parts line ≡ type_bytes t ∷ (y ∷ rest) → (o : Option State) → state_at y ≡ o → at_state r t o rest ≡ Err fault → IsRefusedUnder r line fault
    stated t y rest split None e k =
        let same : ◌≡◌ {A = GameFault} (Malformed 2) fault = cc in
        subst (IsRefusedUnder r line) same (inr (inl (refl, record { game_type = t; part = y; rest = rest; parts_are = split; none = not_state y e })))
    stated t y rest split (Some s) e k = third t s rest (split ∙ ap (λ (x : List ℕ). type_bytes t ∷ (x ∷ rest)) (state_found y s e)) k

    second : (t : GameType) (rest : List (List ℕ)) → parts line ≡ type_bytes t ∷ rest → after_type r t rest ≡ Err fault → IsRefusedUnder r line fault
    second t [] split k = absurd (cc)
    second t (y ∷ rest) split k = stated t y rest split (state_at y) refl k

    not_type : (x : List ℕ) → type_at x ≡ None → (t : GameType) → x ≢ type_bytes t
    not_type x e t is = let wrong = sym e ∙ type_only x t is in cc

    typed : (x : List ℕ) (rest : List (List ℕ)) → parts line ≡ x ∷ rest → (o : Option GameType) → type_at x ≡ o → at_type r o rest ≡ Err fault → IsRefusedUnder r line fault
    typed x rest split None e k =
        let same : ◌≡◌ {A = GameFault} (Malformed 1) fault = cc in
        subst (IsRefusedUnder r line) same (inl (refl, record { part = x; rest = rest; parts_are = split; none = not_type x e }))
    typed x rest split (Some t) e k = second t rest (split ∙ ap (λ (z : List ℕ). z ∷ rest) (type_found x t e)) k

    go : (ps : List (List ℕ)) → parts line ≡ ps → game_at r ps ≡ Err fault → IsRefusedUnder r line fault
    go [] split k = absurd (no_parts line split)
    go (x ∷ rest) split k = typed x rest split (type_at x) refl k

-- A fault of the line is read

type_none : (x : List ℕ) → ((t : GameType) → x ≢ type_bytes t) → type_at x ≡ None
type_none = none_read type_at (λ x t. x ≡ type_bytes t) type_found

state_none : (x : List ℕ) → ((s : State) → x ≢ state_bytes s) → state_at x ≡ None
state_none = none_read state_at (λ x s. x ≡ state_bytes s) state_found

turn_none : (x : List ℕ) → ((u : DeclaredTurn) → ¬ IsTurn x u) → turn_at x ≡ None
turn_none = none_read turn_at IsTurn turn_found

malformed_again : (r : Bool) (line : List ℕ) (k : ℕ) → IsMalformed line k → game_under r line ≡ Err (Malformed k)
malformed_again r line k (inl (e, h)) = first r line h.part h.rest None h.parts_are (type_none h.part h.none) ∙ ap (λ (n : ℕ). Err (Malformed n)) (sym e)
malformed_again r line k (inr (inl (e, h))) =
    first r line (type_bytes h.game_type) (h.part ∷ h.rest) (Some h.game_type) h.parts_are (type_only (type_bytes h.game_type) h.game_type refl)
    ∙ ap (λ o. at_state r h.game_type o h.rest) (state_none h.part h.none) ∙ ap (λ (n : ℕ). Err (Malformed n)) (sym e)
malformed_again r line k (inr (inr (inl (e, h)))) =
    first r line (type_bytes h.game_type) (state_bytes h.declared ∷ h.rest) (Some h.game_type) h.parts_are (type_only (type_bytes h.game_type) h.game_type refl)
    ∙ ap (λ o. at_state r h.game_type o h.rest) (state_only (state_bytes h.declared) h.declared refl) ∙ third h.rest h.none ∙ ap (λ (n : ℕ). Err (Malformed n)) (sym e)
  where
    third : (rest : List (List ℕ)) → ((x : List ℕ) (xs : List (List ℕ)) → rest ≡ x ∷ xs → (u : DeclaredTurn) → ¬ IsTurn x u) → after_state r h.game_type h.declared rest ≡ Err (Malformed 3)
    third [] none = refl
    third (x ∷ xs) none = ap (λ o. at_turn r h.game_type h.declared o xs) (turn_none x (none x xs refl))
malformed_again r line k (inr (inr (inr h))) =
    head_read r line h.game_type h.declared h.turn (h.front ++ [] ∷ h.behind) h.parts_are
    ∙ ap (at_moves r h.game_type h.declared h.turn (h.front ++ [] ∷ h.behind)) (empty_again h.front h.behind 4 h.before) ∙ ap (λ (n : ℕ). Err (Malformed n)) (sym h.counted)

formed : (r : Bool) (line : List ℕ) (t : GameType) (s : State) (u : DeclaredTurn) (texts : List (List ℕ)) → HasForm line t s u texts → length texts ≤ 5000 → game_under r line ≡ confirmed r t s u (moves_from r t texts)
formed r line t s u texts form few = head_read r line t s u texts form.parts_are ∙ few_read r t s u texts (none_again texts 4 form.none_empty) few

front_fits : (front behind : List (List ℕ)) (text : List ℕ) → length front ≤ length (front ++ text ∷ behind)
front_fits [] behind text = omega arith
front_fits (x ∷ xs) behind text = let rest = front_fits xs behind text in omega (arith, rest)

whole_again : (r : Bool) (line : List ℕ) (h : IsReadWhole r line) → game_under r line ≡ confirmed r h.game_type h.declared h.turn (Ok h.made)
whole_again r line h =
    formed r line h.game_type h.declared h.turn h.texts h.form h.few
    ∙ ap (confirmed r h.game_type h.declared h.turn)
    (moves_again r (keys h.game_type []) (opening h.game_type) h.texts 1 h.made h.denote h.legal (stands_open r h.game_type h.made h.stands))

-- what holds of a line that was read whole, by whether its turn is that of the game
by_turn : {r : Bool} {line : List ℕ} → IsReadWhole r line → Bool → Result Parsed GameFault
by_turn h b = if b then Ok (record { game_type = h.game_type; moves = h.made }) else Err OtherTurn

-- the same, by whether its state is the outcome of the game
by_state : {r : Bool} {line : List ℕ} → IsReadWhole r line → Bool → Result Parsed GameFault
by_state h b = if b then by_turn h (is_turn_of h.turn (replay (opening h.game_type) h.made)) else Err OtherState

not_state : (s e : State) → s ≢ e → is_state s e ≡ false
not_state s e h = go (is_state s e) refl
  where
    go : (b : Bool) → is_state s e ≡ b → is_state s e ≡ false
    go true f = absurd (h (same_state s e f))
    go false f = f

not_turn_of : (u : DeclaredTurn) (p : Position) → ¬ ((u.side ≡ p.side) × (u.number ≡ p.turn)) → is_turn_of u p ≡ false
not_turn_of u p h = go (is_turn_of u p) refl
  where
    go : (b : Bool) → is_turn_of u p ≡ b → is_turn_of u p ≡ false
    go true f = absurd (h (same_turn u p f))
    go false f = f

no_move : (r : Bool) (t : GameType) (ms : List Move) (m : Move) → (¬ IsOn (moves (replay (opening t) ms)) m) ⊎ IsTrue (is_over_state (outcome_under r t ms)) → may_follow r (seen_by (keys t []) (opening t) ms) (replay (opening t) ms) m ≡ false
no_move r t ms m (inl none) = not_listed r (seen_by (keys t []) (opening t) ms) (replay (opening t) ms) m (go (is_listed (replay (opening t) ms) m) refl)
  where
    go : (b : Bool) → is_listed (replay (opening t) ms) m ≡ b → is_listed (replay (opening t) ms) m ≡ false
    go true e = absurd (none (listed_on (replay (opening t) ms) m e))
    go false e = e
no_move r t ms m (inr over) = over_stops r t ms (seen_by (keys t []) (opening t) ms) (replay (opening t) ms) m (reached_all t ms) over

pub refused_again : (r : Bool) (line : List ℕ) (fault : GameFault) → IsRefusedUnder r line fault → game_under r line ≡ Err fault
unfolding by_state by_turn
refused_again r line (Malformed k) h = malformed_again r line k h
refused_again r line TooLong h =
    head_read r line h.game_type h.declared h.turn h.texts h.form.parts_are
    ∙ ap (at_moves r h.game_type h.declared h.turn h.texts) (none_again h.texts 4 h.form.none_empty)
    ∙ ap (λ (b : Bool). if b then Err TooLong else confirmed r h.game_type h.declared h.turn (moves_from r h.game_type h.texts)) (lt-ltb 5000 (length h.texts) h.long)
refused_again r line (BadMove n f) h =
    let w = h.read in
    let few = w.few in
    let size = denoted_size (opening h.game_type) w.front h.made w.denote in
    let fits = front_fits w.front w.behind h.text in
    let low : length h.made ≤ 9000 = omega (arith, few, size, fits) in
    let sound = (games_sound h.game_type h.made w.legal low).0 in
    formed r line h.game_type w.declared w.turn (w.front ++ h.text ∷ w.behind) w.form w.few
    ∙ ap (confirmed r h.game_type w.declared w.turn)
    (bad_again r (keys h.game_type []) (opening h.game_type) w.front h.made h.text w.behind 1 n f w.denote w.legal (stands_open r h.game_type h.made w.stands) w.counted sound.board h.refuses)
refused_again r line (IllegalMove n) h =
    let w = h.read in
    formed r line h.game_type w.declared w.turn (w.front ++ h.text ∷ w.behind) w.form w.few
    ∙ ap (confirmed r h.game_type w.declared w.turn)
    (illegal_again r (keys h.game_type []) (opening h.game_type) w.front h.made h.text w.behind 1 n h.move w.denote w.legal (stands_open r h.game_type h.made w.stands) w.counted h.denotes
    (no_move r h.game_type h.made h.move h.illegal))
refused_again r line OtherState h = whole_again r line h.read ∙ ap (by_state h.read) (not_state h.read.declared (outcome_under r h.read.game_type h.read.made) h.other)
refused_again r line OtherTurn h =
    let w = h.read in
    whole_again r line w
    ∙ ap (by_state w) (ap (λ (z : State). is_state z (outcome_under r w.game_type w.made)) h.same ∙ is_state_itself (outcome_under r w.game_type w.made))
    ∙ ap (by_turn w) (not_turn_of w.turn (replay (opening w.game_type) w.made) h.other)
refused_again r line Memory h = absurd h

-- For the call

pub agrees_refused : (r : Bool) (line : List ℕ) (z : Result Parsed GameFault) → Agrees z (game_under r line) → IfErr z (λ fault. (fault ≡ Memory) ⊎ IsRefusedUnder r line fault)
agrees_refused r line (Ok g) h = tt
agrees_refused r line (Err Memory) h = inl refl
agrees_refused r line (Err (Malformed k)) h = inr (refused_found r line (Malformed k) h)
agrees_refused r line (Err TooLong) h = inr (refused_found r line TooLong h)
agrees_refused r line (Err (BadMove n f)) h = inr (refused_found r line (BadMove n f) h)
agrees_refused r line (Err (IllegalMove n)) h = inr (refused_found r line (IllegalMove n) h)
agrees_refused r line (Err OtherState) h = inr (refused_found r line OtherState h)
agrees_refused r line (Err OtherTurn) h = inr (refused_found r line OtherTurn h)
