-- Reading the moves one after the other.
use Rattle.std.proofs.Common.{◌≡◌, ℕ, ◌+◌, ◌≤◌, Bool, true, false, List, [], ◌∷◌, ◌++◌, length, Result, Ok, Err, refl, sym, ◌∙◌, ap, subst, arith, append_assoc}
use Rattle.std.specs.Prelude.{Option, Some, None, MatchOption}
use Rattle.hive_model.specs.declared.pieces.GameType.{GameType}
use Rattle.hive_model.specs.declared.places.Move.{Move}
use Rattle.hive_model.specs.Lists.{IsOn}
use Rattle.hive_model.specs.Boards.{Stacks, IsBoard}
use Rattle.hive_model.specs.Positions.{Position, IsSound, opening}
use Rattle.hive_model.specs.Legal.{moves}
use Rattle.hive_model.specs.Games.{after, replay, AreLegal, IsGame}
use Rattle.hive_model.specs.Denotes.{Denotes}
use Rattle.hive_model.specs.Keys.{KeyParts, key}
use Rattle.hive_model.specs.Repetition.{keys}
use Rattle.hive_model.specs.Histories.{History, position, with_move, is_listed}
use Rattle.move_text.specs.Faults.{Refuses}
use Rattle.move_text.specs.Moves.{move_of}
use Rattle.move_text.specs.declared.faults.MoveFault.{MoveFault}
use Rattle.move_text.proofs.MoveLaws.{of_denotes, of_refuses}
use Rattle.rule_laws.proofs.Games.{games_sound, games_count}
use Rattle.game_text.specs.declared.faults.GameFault.{GameFault}
use Rattle.game_text.specs.declared.faults.GameFault.TheVariants.{Malformed, TooLong, BadMove, IllegalMove, OtherState, OtherTurn, Memory}
use Rattle.game_text.specs.Reading.{prefixed, if_legal, on_move, is_third, may_follow, moves_of, moves_from, Fails, Agrees, Plays, IsMoveFault}
use Rattle.hive_model.proofs.ListedLaws.{on_listed}
use Rattle.hive_model.proofs.SameBoards.{keys_grow}
use Rattle.game_text.proofs.OpenLaws.{replay_more, follows_again, drawn_first, not_listed}

-- One move

-- the moves leave the game type as it is
pub kind_here : (c : History) → (position c).game_type ≡ c.game_type
kind_here c = (games_count c.game_type c.made).game_type

move_here : (p : Position) (t : GameType) (b : Stacks) (x : List ℕ) → t ≡ p.game_type → b ≡ p.board → move_of t b x ≡ move_of p.game_type p.board x
move_here p t b x e f = ap (λ u. move_of u b x) e ∙ ap (λ c. move_of p.game_type c x) f

pub plays_made : (r : Bool) (seen : List KeyParts) (p : Position) (t : GameType) (b : Stacks) (x : List ℕ) (m n : Move) → t ≡ p.game_type → b ≡ p.board → Denotes t b x m → n ≡ m → is_third r seen ≡ false → IsOn (moves p) n → Plays r seen p x m
plays_made r seen p t b x m n e f d same yet on = record {
  denoted = sym (move_here p t b x e f) ∙ of_denotes t b x m d;
  undrawn = yet;
  legal = subst (IsOn (moves p)) same on;
}

pub illegal_made : (r : Bool) (seen : List KeyParts) (p : Position) (t : GameType) (b : Stacks) (x : List ℕ) (m n : Move) (listed : Bool) (k : ℕ) → t ≡ p.game_type → b ≡ p.board → Denotes t b x m → n ≡ m → listed ≡ is_listed p n → listed ≡ false → IsMoveFault r seen p x k (IllegalMove k)
illegal_made r seen p t b x m n listed k e f d same told no_ = (refl, (m, sym (move_here p t b x e f) ∙ of_denotes t b x m d, not_listed r seen p m (ap (is_listed p) (sym same) ∙ sym told ∙ no_)))

pub drawn_made : (r : Bool) (seen : List KeyParts) (p : Position) (t : GameType) (b : Stacks) (x : List ℕ) (m : Move) (k : ℕ) → t ≡ p.game_type → b ≡ p.board → Denotes t b x m → is_third r seen ≡ true → IsMoveFault r seen p x k (IllegalMove k)
drawn_made r seen p t b x m k e f d third = (refl, (m, sym (move_here p t b x e f) ∙ of_denotes t b x m d, drawn_first r seen p m third))

pub refused_made : (r : Bool) (seen : List KeyParts) (p : Position) (t : GameType) (b : Stacks) (x : List ℕ) (fault : MoveFault) (k : ℕ) → t ≡ p.game_type → b ≡ p.board → IsBoard b → Refuses t b x fault → IsMoveFault r seen p x k (BadMove k fault)
refused_made r seen p t b x fault k e f is d = (refl, sym (move_here p t b x e f) ∙ of_refuses t b x fault is d)

-- One move more

legal_more : (p : Position) (ms : List Move) (m : Move) → AreLegal p ms → IsOn (moves (replay p ms)) m → AreLegal p (ms ++ m ∷ [])
legal_more p [] m legal on = (on, tt)
legal_more p (k ∷ ms) m legal on = (legal.0, legal_more (after p k) ms m legal.1 on)

length_more : (ms : List Move) (m : Move) → length (ms ++ m ∷ []) ≡ length ms + 1
length_more [] m = refl
length_more (k ∷ ms) m = let rest = length_more ms m in omega (arith, rest)

step_ok : (r : Bool) (seen : List KeyParts) (front : List Move) (p : Position) (x : List ℕ) (xs : List (List ℕ)) (n : ℕ) (m : Move) → Plays r seen p x m → prefixed front (moves_of r seen p (x ∷ xs) n) ≡ prefixed (front ++ m ∷ []) (moves_of r (seen ++ key (after p m) ∷ []) (after p m) xs (n + 1))
unfolding moves_of
step_ok r seen front p x xs n m h =
    ap (λ z. prefixed front (on_move z n (λ m. if_legal (may_follow r seen p m) n (prefixed (m ∷ []) (moves_of r (seen ++ key (after p m) ∷ []) (after p m) xs (n + 1)))))) h.denoted
    ∙ ap (λ t. prefixed front (if_legal t n (prefixed (m ∷ []) (moves_of r (seen ++ key (after p m) ∷ []) (after p m) xs (n + 1))))) (follows_again r seen p m h.undrawn (on_listed p m h.legal))
    ∙ twice (moves_of r (seen ++ key (after p m) ∷ []) (after p m) xs (n + 1))
  where
    twice : (z : Result (List Move) GameFault) → prefixed front (prefixed (m ∷ []) z) ≡ prefixed (front ++ m ∷ []) z
    twice (Ok ms) = ap (λ l. Ok l) (sym (append_assoc front (m ∷ []) ms))
    twice (Err fault) = refl

-- the moves in front were played, and those of the parts are yet to be read
pub record IsUnderWay (r : Bool) (c : History) (t : GameType) (front : List Move) (ps : List (List ℕ)) (n : ℕ) (read : Result (List Move) GameFault) : Type 0 where
  pub rest : prefixed front (moves_of r (keys c.game_type c.made) (position c) ps n) ≡ read
  pub kind : c.game_type ≡ t
  pub made : c.made ≡ front
  pub legal : IsGame c.game_type c.made
  pub few : length c.made + length ps ≤ 5000
  pub room : length ps ≤ c.spare

pub begins : (r : Bool) (c : History) (front : List Move) (ps : List (List ℕ)) → front ≡ [] → c.made ≡ [] → length ps ≤ 5000 → length ps ≤ c.spare → IsUnderWay r c c.game_type front ps 1 (moves_from r c.game_type ps)
begins r c front ps none fresh few room =
    let empty : length c.made ≡ 0 = ap length fresh in
    record {
      rest = ap (λ f. prefixed f (moves_of r (keys c.game_type c.made) (position c) ps 1)) none ∙ same (moves_of r (keys c.game_type c.made) (position c) ps 1)
          ∙ ap (λ ms. moves_of r (keys c.game_type ms) (replay (opening c.game_type) ms) ps 1) fresh;
      kind = refl;
      made = fresh ∙ sym none;
      legal = subst (IsGame c.game_type) (sym fresh) tt;
      few = omega (arith, empty, few);
      room = room;
    }
  where
    same : (z : Result (List Move) GameFault) → prefixed [] z ≡ z
    same (Ok ms) = refl
    same (Err fault) = refl

pub goes_on : (r : Bool) (c d e : History) (t : GameType) (front front2 : List Move) (x : List ℕ) (ps rest : List (List ℕ)) (n n2 : ℕ) (m k : Move) (read : Result (List Move) GameFault)
    → ps ≡ x ∷ rest → d ≡ c → e ≡ with_move d k → k ≡ m → front2 ≡ front ++ m ∷ [] → n2 ≡ n + 1 → Plays r (keys c.game_type c.made) (position c) x m → IsUnderWay r c t front ps n read → IsUnderWay r e t front2 rest n2 read
goes_on r c d e t front front2 x ps rest n n2 m k read split same next one longer more plays h =
    let history : e ≡ with_move c m = next ∙ ap (λ z. with_move z k) same ∙ ap (with_move c) one in
    let place : position (with_move c m) ≡ after (position c) m = replay_more (opening c.game_type) c.made m in
    let known : keys c.game_type (c.made ++ m ∷ []) ≡ keys c.game_type c.made ++ key (after (position c) m) ∷ [] = keys_grow c.game_type c.made m ∙ ap (λ z. keys c.game_type c.made ++ key z ∷ []) place in
    let whole = ap length split in
    let size : length ps ≡ length rest + 1 = omega (arith, whole) in
    let made = length_more c.made m in
    let few = h.few in
    let room = h.room in
    subst (λ z. IsUnderWay r z t front2 rest n2 read) (sym history) (record {
      rest = ap (λ f. prefixed f (moves_of r (keys c.game_type (c.made ++ m ∷ [])) (position (with_move c m)) rest n2)) longer
          ∙ (λ i. prefixed (front ++ m ∷ []) (moves_of r (known i) (place i) rest (more i)))
          ∙ sym (step_ok r (keys c.game_type c.made) front (position c) x rest n m plays) ∙ ap (λ z. prefixed front (moves_of r (keys c.game_type c.made) (position c) z n)) (sym split) ∙ h.rest;
      kind = h.kind;
      made = ap (λ ms. ms ++ m ∷ []) h.made ∙ sym longer;
      legal = legal_more (opening c.game_type) c.made m h.legal plays.legal;
      few = omega (arith, size, made, few);
      room = omega (arith, size, room);
    })

pub sound_here : (r : Bool) (c : History) (t : GameType) (front : List Move) (ps : List (List ℕ)) (n : ℕ) (read : Result (List Move) GameFault) → IsUnderWay r c t front ps n read → IsSound (position c)
sound_here r c t front ps n read h = let few = h.few in (games_sound c.game_type c.made h.legal (omega (arith, few))).0

pub ends : (r : Bool) (c : History) (t : GameType) (front : List Move) (n : ℕ) (read : Result (List Move) GameFault) → IsUnderWay r c t front [] n read → read ≡ Ok front
unfolding moves_of
ends r c t front n read h = sym h.rest ∙ ap (λ l. Ok l) (sym (none front))
  where
    none : (xs : List Move) → xs ≡ xs ++ []
    none [] = refl
    none (x ∷ xs) = ap (λ (ys : List Move). x ∷ ys) (none xs)

-- The first fault

fault_is : (r : Bool) (seen : List KeyParts) (p : Position) (x : List ℕ) (xs : List (List ℕ)) (n : ℕ) (fault : GameFault) → IsMoveFault r seen p x n fault → moves_of r seen p (x ∷ xs) n ≡ Err fault
unfolding moves_of
fault_is r seen p x xs n (BadMove k fault) h =
    ap (λ z. on_move z n (λ m. if_legal (may_follow r seen p m) n (prefixed (m ∷ []) (moves_of r (seen ++ key (after p m) ∷ []) (after p m) xs (n + 1))))) h.1 ∙ ap (λ j. Err (BadMove j fault)) (sym h.0)
fault_is r seen p x xs n (IllegalMove k) h =
    ap (λ z. on_move z n (λ m. if_legal (may_follow r seen p m) n (prefixed (m ∷ []) (moves_of r (seen ++ key (after p m) ∷ []) (after p m) xs (n + 1))))) h.1.1
    ∙ ap (λ t. if_legal t n (prefixed (h.1.0 ∷ []) (moves_of r (seen ++ key (after p h.1.0) ∷ []) (after p h.1.0) xs (n + 1)))) h.1.2 ∙ ap (λ j. Err (IllegalMove j)) (sym h.0)
fault_is r seen p x xs n Memory h = absurd h
fault_is r seen p x xs n (Malformed k) h = absurd h
fault_is r seen p x xs n TooLong h = absurd h
fault_is r seen p x xs n OtherState h = absurd h
fault_is r seen p x xs n OtherTurn h = absurd h

pub fails_made : {X : Type 0} (fault : GameFault) (read : Result X GameFault) → read ≡ Err fault → Fails fault read
fails_made Memory read e = tt
fails_made (Malformed k) read e = e
fails_made TooLong read e = e
fails_made (BadMove n fault) read e = e
fails_made (IllegalMove n) read e = e
fails_made OtherState read e = e
fails_made OtherTurn read e = e

pub agrees_same : {X : Type 0} (z read : Result X GameFault) → z ≡ read → Agrees z read
agrees_same (Ok g) read e = sym e
agrees_same (Err fault) read e = fails_made fault read (sym e)

pub fails_here : (r : Bool) (c : History) (t : GameType) (front : List Move) (x : List ℕ) (ps rest : List (List ℕ)) (n : ℕ) (fault : GameFault) (read : Result (List Move) GameFault)
    → ps ≡ x ∷ rest → IsMoveFault r (keys c.game_type c.made) (position c) x n fault → IsUnderWay r c t front ps n read → Fails fault read
fails_here r c t front x ps rest n fault read split h way =
    fails_made fault read (sym way.rest ∙ ap (prefixed front) (ap (λ z. moves_of r (keys c.game_type c.made) (position c) z n) split ∙ fault_is r (keys c.game_type c.made) (position c) x rest n fault h))

-- The cases of an option

pub match_none : {T : Type 0} (o : Option T) (P : Type 0) (Q : T → Type 0) → o ≡ None → MatchOption o P Q → P
match_none o P Q e h = subst (λ r. MatchOption r P Q) e h

pub match_some : {T : Type 0} (o : Option T) (P : Type 0) (Q : T → Type 0) (x : T) → o ≡ Some x → MatchOption o P Q → Q x
match_some o P Q x e h = subst (λ r. MatchOption r P Q) e h

pub match_split : {T : Type 0} (o : Option T) (ps : List (List ℕ)) (x : List ℕ) (f : T → List (List ℕ)) → MatchOption o (ps ≡ x ∷ []) (λ r. ps ≡ x ∷ f r) → (rest : List (List ℕ)) × (ps ≡ x ∷ rest)
match_split None ps x f h = ([], h)
match_split (Some r) ps x f h = (f r, h)
