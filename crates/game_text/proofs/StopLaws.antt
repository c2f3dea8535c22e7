-- At which move the reading stops, and with which fault.
use Rattle.std.proofs.Common.{◌≡◌, ℕ, suc, ◌+◌, ◌≤◌, ◌<◌, Bool, true, false, List, [], ◌∷◌, ◌++◌, length, Result, Ok, Err, refl, sym, ◌∙◌, ap, subst, arith, ◌⊎◌, inl, inr}
use Rattle.hive_model.specs.declared.places.Move.{Move}
use Rattle.hive_model.specs.Lists.{IsOn}
use Rattle.hive_model.specs.Boards.{StandsWithin, IsBoard}
use Rattle.hive_model.specs.Positions.{Position, IsSound}
use Rattle.hive_model.specs.Legal.{moves}
use Rattle.hive_model.specs.Games.{after, replay, AreLegal}
use Rattle.hive_model.specs.Denotes.{Denotes}
use Rattle.hive_model.specs.Histories.{is_listed}
use Rattle.hive_model.specs.Keys.{KeyParts, key}
use Rattle.hive_model.specs.Strings.{DenoteMoves}
use Rattle.move_text.specs.Faults.{Refuses}
use Rattle.move_text.specs.Moves.{move_of}
use Rattle.move_text.specs.declared.faults.MoveFault.{MoveFault}
use Rattle.move_text.proofs.MoveLaws.{denotes_of, of_denotes, refuses_of, of_refuses}
use Rattle.rule_laws.proofs.Games.{listed_keep}
use Rattle.game_text.specs.declared.faults.GameFault.{GameFault}
use Rattle.game_text.specs.declared.faults.GameFault.TheVariants.{Malformed, TooLong, BadMove, IllegalMove, OtherState, OtherTurn, Memory}
use Rattle.game_text.specs.Reading.{prefixed, if_legal, on_move, is_third, may_follow, moves_of}
use Rattle.hive_model.proofs.ListedLaws.{listed_on, on_listed}
use Rattle.game_text.proofs.OpenLaws.{follows, follows_again, not_follows, seen_by, AreOpen}

-- the moves before this text are legal, none follows a draw by repetition, and the texts in front
-- of it denote them
pub record StopsAt (r : Bool) (seen : List KeyParts) (p : Position) (xs : List (List ℕ)) (n k : ℕ) (text : List ℕ) (ms : List Move) : Type 0 where
  pub front : List (List ℕ)
  pub behind : List (List ℕ)
  pub split : xs ≡ front ++ text ∷ behind
  pub counted : k ≡ n + length front
  pub denote : DenoteMoves p front ms
  pub legal : AreLegal p ms
  pub yet : AreOpen r seen p ms

pub record StopsBad (r : Bool) (seen : List KeyParts) (p : Position) (xs : List (List ℕ)) (n k : ℕ) (fault : MoveFault) : Type 0 where
  pub made : List Move
  pub text : List ℕ
  pub at : StopsAt r seen p xs n k text made
  pub refuses : Refuses (replay p made).game_type (replay p made).board text fault

pub record StopsIllegal (r : Bool) (seen : List KeyParts) (p : Position) (xs : List (List ℕ)) (n k : ℕ) : Type 0 where
  pub made : List Move
  pub text : List ℕ
  pub move : Move
  pub at : StopsAt r seen p xs n k text made
  pub denotes : Denotes (replay p made).game_type (replay p made).board text move
  pub illegal : (¬ IsOn (moves (replay p made)) move) ⊎ (is_third r (seen_by seen p made) ≡ true)

abbrev pub Stops : Bool → List KeyParts → Position → List (List ℕ) → ℕ → GameFault → Type 0
Stops r seen p xs n (BadMove k fault) = StopsBad r seen p xs n k fault
Stops r seen p xs n (IllegalMove k) = StopsIllegal r seen p xs n k
Stops r seen p xs n (Malformed k) = ⊥
Stops r seen p xs n TooLong = ⊥
Stops r seen p xs n OtherState = ⊥
Stops r seen p xs n OtherTurn = ⊥
Stops r seen p xs n Memory = ⊥

stops_next : (r : Bool) (seen : List KeyParts) (p : Position) (x : List ℕ) (xs : List (List ℕ)) (n k : ℕ) (m : Move) (text : List ℕ) (ms : List Move) → Denotes p.game_type p.board x m → is_third r seen ≡ false → IsOn (moves p) m → StopsAt r (seen ++ key (after p m) ∷ []) (after p m) xs (n + 1) k text ms → StopsAt r seen p (x ∷ xs) n k text (m ∷ ms)
stops_next r seen p x xs n k m text ms d yet on s =
    let counted = s.counted in
    record { front = x ∷ s.front; behind = s.behind; split = ap (λ (r : List (List ℕ)). x ∷ r) s.split; counted = omega (arith, counted); denote = (d, s.denote); legal = (on, s.legal); yet = (yet, s.yet) }

stops_later : (r : Bool) (seen : List KeyParts) (p : Position) (x : List ℕ) (xs : List (List ℕ)) (n : ℕ) (m : Move) (fault : GameFault) → Denotes p.game_type p.board x m → is_third r seen ≡ false → IsOn (moves p) m → Stops r (seen ++ key (after p m) ∷ []) (after p m) xs (n + 1) fault → Stops r seen p (x ∷ xs) n fault
stops_later r seen p x xs n m (BadMove k fault) d yet on s = record { made = m ∷ s.made; text = s.text; at = stops_next r seen p x xs n k m s.text s.made d yet on s.at; refuses = s.refuses }
stops_later r seen p x xs n m (IllegalMove k) d yet on s = record { made = m ∷ s.made; text = s.text; move = s.move; at = stops_next r seen p x xs n k m s.text s.made d yet on s.at; denotes = s.denotes; illegal = s.illegal }
stops_later r seen p x xs n m (Malformed k) d yet on s = absurd s
stops_later r seen p x xs n m TooLong d yet on s = absurd s
stops_later r seen p x xs n m OtherState d yet on s = absurd s
stops_later r seen p x xs n m OtherTurn d yet on s = absurd s
stops_later r seen p x xs n m Memory d yet on s = absurd s

stops_here : (r : Bool) (seen : List KeyParts) (p : Position) (x : List ℕ) (xs : List (List ℕ)) (n : ℕ) → StopsAt r seen p (x ∷ xs) n n x []
stops_here r seen p x xs n = record { front = []; behind = xs; split = refl; counted = omega arith; denote = tt; legal = tt; yet = tt }

pub moves_stop : (r : Bool) (seen : List KeyParts) (p : Position) (xs : List (List ℕ)) (n k : ℕ) (fault : GameFault) → IsSound p → StandsWithin k p.board → k + length xs ≤ 9000 → moves_of r seen p xs n ≡ Err fault → Stops r seen p xs n fault
unfolding moves_of
moves_stop r seen p [] n k fault is within low h = absurd (cc)
moves_stop r seen p (x ∷ xs) n k fault is within low h = go (move_of p.game_type p.board x) refl h (λ m sound next ok e. moves_stop r (seen ++ key (after p m) ∷ []) (after p m) xs (n + 1) (k + 1) fault sound next ok e)
  where
    go : (read : Result Move MoveFault) → move_of p.game_type p.board x ≡ read
        → on_move read n (λ m. if_legal (may_follow r seen p m) n (prefixed (m ∷ []) (moves_of r (seen ++ key (after p m) ∷ []) (after p m) xs (n + 1)))) ≡ Err fault
        → ((m : Move) → IsSound (after p m) → StandsWithin (k + 1) (after p m).board → k + 1 + length xs ≤ 9000 → moves_of r (seen ++ key (after p m) ∷ []) (after p m) xs (n + 1) ≡ Err fault → Stops r (seen ++ key (after p m) ∷ []) (after p m) xs (n + 1) fault) → Stops r seen p (x ∷ xs) n fault
    go (Err f) e j more =
        let same : ◌≡◌ {A = GameFault} (BadMove n f) fault = cc in
        subst (Stops r seen p (x ∷ xs) n) same (record { made = []; text = x; at = stops_here r seen p x xs n; refuses = refuses_of p.game_type p.board x f e })
    go (Ok m) e j more = legal (may_follow r seen p m) refl j
      where
        denoted : Denotes p.game_type p.board x m
        denoted = denotes_of p.game_type p.board x m is.board e

        rest_of : is_third r seen ≡ false → IsOn (moves p) m → (read : Result (List Move) GameFault) → moves_of r (seen ++ key (after p m) ∷ []) (after p m) xs (n + 1) ≡ read → prefixed (m ∷ []) read ≡ Err fault → Stops r seen p (x ∷ xs) n fault
        rest_of yet on (Ok rest) f i = absurd (cc)
        rest_of yet on (Err other) f i =
            let same : other ≡ fault = cc in
            let less : k < 9000 = omega (arith, low) in
            let fits : k + 1 + length xs ≤ 9000 = omega (arith, low) in
            let kept = listed_keep p k m is within less on in
            stops_later r seen p x xs n m fault denoted yet on (more m kept.0 kept.1 fits (f ∙ ap (λ (z : GameFault). Err z) same))

        not_on : is_listed p m ≡ false → ¬ IsOn (moves p) m
        not_on f on = let wrong = sym (on_listed p m on) ∙ f in cc

        stopped : (is_third r seen ≡ true) ⊎ (is_listed p m ≡ false) → (¬ IsOn (moves p) m) ⊎ (is_third r seen ≡ true)
        stopped (inl drawn) = inr drawn
        stopped (inr none) = inl (not_on none)

        legal : (t : Bool) → may_follow r seen p m ≡ t → if_legal t n (prefixed (m ∷ []) (moves_of r (seen ++ key (after p m) ∷ []) (after p m) xs (n + 1))) ≡ Err fault → Stops r seen p (x ∷ xs) n fault
        legal true f i = let both = follows r seen p m f in rest_of both.0 (listed_on p m both.1) (moves_of r (seen ++ key (after p m) ∷ []) (after p m) xs (n + 1)) refl i
        legal false f i =
            let same : ◌≡◌ {A = GameFault} (IllegalMove n) fault = cc in
            subst (Stops r seen p (x ∷ xs) n) same (record { made = []; text = x; move = m; at = stops_here r seen p x xs n; denotes = denoted; illegal = stopped (not_follows r seen p m f) })

-- And back

skips : (r : Bool) (seen : List KeyParts) (p : Position) (front : List (List ℕ)) (ms : List Move) (rest : List (List ℕ)) (n : ℕ) → DenoteMoves p front ms → AreLegal p ms → AreOpen r seen p ms
    → moves_of r seen p (front ++ rest) n ≡ prefixed ms (moves_of r (seen_by seen p ms) (replay p ms) rest (n + length front))
unfolding moves_of
skips r seen p [] [] rest n d l o = let same : n ≡ n + 0 = omega arith in ap (moves_of r seen p rest) same ∙ none (moves_of r seen p rest (n + 0))
  where
    none : (z : Result (List Move) GameFault) → z ≡ prefixed [] z
    none (Ok ms) = refl
    none (Err fault) = refl
skips r seen p [] (m ∷ ms) rest n d l o = absurd d
skips r seen p (x ∷ xs) [] rest n d l o = absurd d
skips r seen p (x ∷ xs) (m ∷ ms) rest n d l o =
    let same : n + 1 + length xs ≡ n + suc (length xs) = omega arith in
    let next = seen_by (seen ++ key (after p m) ∷ []) (after p m) ms in
    ap (λ z. on_move z n (λ m. if_legal (may_follow r seen p m) n (prefixed (m ∷ []) (moves_of r (seen ++ key (after p m) ∷ []) (after p m) (xs ++ rest) (n + 1))))) (of_denotes p.game_type p.board x m d.0)
    ∙ ap (λ t. if_legal t n (prefixed (m ∷ []) (moves_of r (seen ++ key (after p m) ∷ []) (after p m) (xs ++ rest) (n + 1)))) (follows_again r seen p m o.0 (on_listed p m l.0))
    ∙ ap (prefixed (m ∷ [])) (skips r (seen ++ key (after p m) ∷ []) (after p m) xs ms rest (n + 1) d.1 l.1 o.1)
    ∙ twice (moves_of r next (replay (after p m) ms) rest (n + 1 + length xs))
    ∙ ap (λ k. prefixed (m ∷ ms) (moves_of r next (replay (after p m) ms) rest k)) same
  where
    twice : (z : Result (List Move) GameFault) → prefixed (m ∷ []) (prefixed ms z) ≡ prefixed (m ∷ ms) z
    twice (Ok ns) = refl
    twice (Err fault) = refl

-- what the reading of the next text does
abbrev next_is : Bool → List KeyParts → Position → List (List ℕ) → ℕ → Result Move MoveFault → Result (List Move) GameFault
next_is r seen p behind n z = on_move z n (λ m. if_legal (may_follow r seen p m) n (prefixed (m ∷ []) (moves_of r (seen ++ key (after p m) ∷ []) (after p m) behind (n + 1))))

pub bad_again : (r : Bool) (seen : List KeyParts) (p : Position) (front : List (List ℕ)) (ms : List Move) (text : List ℕ) (behind : List (List ℕ)) (n k : ℕ) (fault : MoveFault) → DenoteMoves p front ms → AreLegal p ms → AreOpen r seen p ms
    → k ≡ n + length front → IsBoard (replay p ms).board → Refuses (replay p ms).game_type (replay p ms).board text fault → moves_of r seen p (front ++ text ∷ behind) n ≡ Err (BadMove k fault)
unfolding moves_of
bad_again r seen p front ms text behind n k fault d l o counted is refused =
    skips r seen p front ms (text ∷ behind) n d l o
    ∙ ap (λ z. prefixed ms (next_is r (seen_by seen p ms) (replay p ms) behind (n + length front) z)) (of_refuses (replay p ms).game_type (replay p ms).board text fault is refused)
    ∙ ap (λ (j : ℕ). Err (BadMove j fault)) (sym counted)

pub illegal_again : (r : Bool) (seen : List KeyParts) (p : Position) (front : List (List ℕ)) (ms : List Move) (text : List ℕ) (behind : List (List ℕ)) (n k : ℕ) (move : Move) → DenoteMoves p front ms → AreLegal p ms → AreOpen r seen p ms
    → k ≡ n + length front → Denotes (replay p ms).game_type (replay p ms).board text move → may_follow r (seen_by seen p ms) (replay p ms) move ≡ false → moves_of r seen p (front ++ text ∷ behind) n ≡ Err (IllegalMove k)
unfolding moves_of
illegal_again r seen p front ms text behind n k move d l o counted denoted stops =
    skips r seen p front ms (text ∷ behind) n d l o
    ∙ ap (λ z. prefixed ms (next_is r (seen_by seen p ms) (replay p ms) behind (n + length front) z)) (of_denotes (replay p ms).game_type (replay p ms).board text move denoted)
    ∙ ap (λ t. prefixed ms (if_legal t (n + length front) (prefixed (move ∷ []) (moves_of r (seen_by seen p ms ++ key (after (replay p ms) move) ∷ []) (after (replay p ms) move) behind (n + length front + 1))))) stops
    ∙ ap (λ (j : ℕ). Err (IllegalMove j)) (sym counted)
