-- The moves of a game, played again and written one after the other.
use Rattle.std.proofs.Common.{◌≡◌, ℕ, zero, suc, ◌+◌, ◌≤◌, ◌<◌, List, [], ◌∷◌, ◌++◌, length, take, drop, refl, sym, ◌∙◌, ap, subst, arith, append_assoc}
use Rattle.std.specs.Prelude.{Some, slice_get, map}
use Rattle.std.proofs.lemmas.List.{take_more, drop_all}
use Rattle.std.proofs.lemmas.Option.{get_or_from_slice_get}
use Rattle.hive_model.specs.declared.places.Move.{Move}
use Rattle.hive_model.specs.Lists.{IsOn}
use Rattle.hive_model.specs.Positions.{Position, IsSound, opening}
use Rattle.hive_model.specs.Legal.{moves}
use Rattle.hive_model.specs.Games.{after, replay, AreLegal, IsGame}
use Rattle.hive_model.specs.Denotes.{text}
use Rattle.hive_model.specs.Histories.{History, position, with_move}
use Rattle.hive_model.specs.Strings.{joined_on, texts}
use Rattle.hive_model.proofs.GetLemmas.{get_within, drop-at}
use Rattle.move_text.specs.Moves.{IsMoveWithin}
use Rattle.move_text.proofs.LegalSpell.{listed_within}
use Rattle.rule_laws.proofs.Games.{games_sound}
use Rattle.game_text.proofs.OpenLaws.{replay_more}

-- Parts after others

-- each part with a semicolon before it
abbrev pub behind : List (List ℕ) → List ℕ
behind [] = []
behind (q ∷ qs) = (59 ∷ q) ++ behind qs

pub joined_behind : (p : List ℕ) (ps : List (List ℕ)) → joined_on p ps ≡ p ++ behind ps
joined_behind p [] = none p
  where
    none : (xs : List ℕ) → xs ≡ xs ++ []
    none [] = refl
    none (x ∷ xs) = ap (λ (ys : List ℕ). x ∷ ys) (none xs)
joined_behind p (q ∷ qs) = ap (λ (r : List ℕ). p ++ 59 ∷ r) (joined_behind q qs)

-- Lists of moves, cut in two

pub taken_next : (ms : List Move) (i : ℕ) (m : Move) → slice_get ms i ≡ Some m → take (i + 1) ms ≡ take i ms ++ m ∷ []
taken_next ms i m e = take_more ms i m (get_within ms i m e) ∙ ap (λ (k : Move). take i ms ++ k ∷ []) (get_or_from_slice_get ms i m m e)

pub legal_next : (p : Position) (ms : List Move) (i : ℕ) (m : Move) → AreLegal p ms → slice_get ms i ≡ Some m → IsOn (moves (replay p (take i ms))) m
legal_next p [] i m legal e = absurd (cc)
legal_next p (k ∷ ms) zero m legal e = let same : k ≡ m = cc in subst (IsOn (moves p)) same legal.0
legal_next p (k ∷ ms) (suc i) m legal e = legal_next (after p k) ms i m legal.1 e

pub legal_part : (p : Position) (ms : List Move) (i : ℕ) → AreLegal p ms → AreLegal p (take i ms)
legal_part p [] zero legal = tt
legal_part p [] (suc i) legal = tt
legal_part p (k ∷ ms) zero legal = tt
legal_part p (k ∷ ms) (suc i) legal = (legal.0, legal_part (after p k) ms i legal.1)

pub taken_size : (ms : List Move) (i : ℕ) → length (take i ms) ≤ length ms
taken_size [] zero = omega arith
taken_size [] (suc i) = omega arith
taken_size (k ∷ ms) zero = omega arith
taken_size (k ∷ ms) (suc i) = let rest = taken_size ms i in omega (arith, rest)

-- The parts that were stored

-- what was written, and the parts from this one on, are the string
pub part_on : {X : Type 0} (bytes : X → List ℕ) (items : List X) (i : ℕ) (item : X) (front front2 all : List ℕ) → slice_get items i ≡ Some item → front2 ≡ front ++ 59 ∷ bytes item
    → front ++ behind (map bytes (drop i items)) ≡ all → front2 ++ behind (map bytes (drop (i + 1) items)) ≡ all
part_on {X} bytes items i item front front2 all at more before =
    ap (λ (r : List ℕ). r ++ behind (map bytes (drop (i + 1) items))) more
    ∙ append_assoc front (59 ∷ bytes item) (behind (map bytes (drop (i + 1) items)))
    ∙ ap (λ (r : List X). front ++ behind (map bytes r)) (sym (drop-at items i item at)) ∙ before

pub parts_begin : {X : Type 0} (bytes : X → List ℕ) (items : List X) (front : List ℕ) → front ++ behind (map bytes (drop 0 items)) ≡ front ++ behind (map bytes items)
parts_begin {X} bytes items front = ap (λ (r : List X). front ++ behind (map bytes r)) (whole items)
  where
    whole : (xs : List X) → drop 0 xs ≡ xs
    whole [] = refl
    whole (x ∷ xs) = refl

pub parts_end : {X : Type 0} (bytes : X → List ℕ) (items : List X) (i : ℕ) (p q r front start : List ℕ) (ps : List (List ℕ)) → length items ≤ i → front ++ behind (map bytes (drop i items)) ≡ start ++ behind (map bytes items)
    → start ≡ (p ++ 59 ∷ q) ++ 59 ∷ r → map bytes items ≡ ps → front ≡ joined_on p (q ∷ (r ∷ ps))
parts_end {X} bytes items i p q r front start ps done before head seen =
    none front ∙ ap (λ (r : List X). front ++ behind (map bytes r)) (sym (drop_all i items done)) ∙ before ∙ (λ j. head j ++ behind (seen j))
    ∙ append_assoc (p ++ 59 ∷ q) (59 ∷ r) (behind ps) ∙ append_assoc p (59 ∷ q) (59 ∷ r ++ behind ps)
    ∙ ap (λ (z : List ℕ). p ++ 59 ∷ (q ++ 59 ∷ z)) (sym (joined_behind r ps))
  where
    none : (xs : List ℕ) → xs ≡ xs ++ []
    none [] = refl
    none (x ∷ xs) = ap (λ (ys : List ℕ). x ∷ ys) (none xs)

-- The copy

-- this many of the game's moves were played on the copy, and written
pub record IsCopying (g c : History) (i : ℕ) (done : List (List ℕ)) : Type 0 where
  pub kind : c.game_type ≡ g.game_type
  pub made : c.made ≡ take i g.made
  pub room : length g.made ≤ i + c.spare
  pub legal : IsGame g.game_type g.made
  pub few : length g.made ≤ 5064
  pub written : done ++ texts (position c) (drop i g.made) ≡ texts (opening g.game_type) g.made

here : (g c : History) (i : ℕ) (done : List (List ℕ)) → IsCopying g c i done → position c ≡ replay (opening g.game_type) (take i g.made)
here g c i done h = λ j. replay (opening (h.kind j)) (h.made j)

pub copy_sound : (g c : History) (i : ℕ) (done : List (List ℕ)) → IsCopying g c i done → IsSound (position c)
copy_sound g c i done h =
    let few = h.few in
    let size = taken_size g.made i in
    let low : length (take i g.made) ≤ 9000 = omega (arith, few, size) in
    subst IsSound (sym (here g c i done h)) (games_sound g.game_type (take i g.made) (legal_part (opening g.game_type) g.made i h.legal) low).0

pub copy_legal : (g c : History) (i : ℕ) (done : List (List ℕ)) (m : Move) → IsCopying g c i done → slice_get g.made i ≡ Some m → IsOn (moves (position c)) m
copy_legal g c i done m h at = subst (λ p. IsOn (moves p) m) (sym (here g c i done h)) (legal_next (opening g.game_type) g.made i m h.legal at)

pub copy_within : (g c : History) (i : ℕ) (done : List (List ℕ)) (m : Move) → IsCopying g c i done → slice_get g.made i ≡ Some m → IsMoveWithin m
copy_within g c i done m h at =
    let sound = copy_sound g c i done h in
    listed_within (position c) m sound (copy_legal g c i done m h at)

pub copy_on : (g c d : History) (i j : ℕ) (done done2 : List (List ℕ)) (m : Move) → IsCopying g c i done → slice_get g.made i ≡ Some m → i < length g.made
    → d ≡ with_move c m → j ≡ i + 1 → done2 ≡ done ++ text (position c).board m ∷ [] → IsCopying g d j done2
copy_on g c d i j done done2 m h at less next up more =
    let room = h.room in
    let place : position (with_move c m) ≡ after (position c) m = replay_more (opening c.game_type) c.made m in
    subst (λ z. IsCopying g z j done2) (sym next) (record {
      kind = h.kind;
      made = ap (λ ms. ms ++ m ∷ []) h.made ∙ sym (taken_next g.made i m at) ∙ ap (λ n. take n g.made) (sym up);
      room = omega (arith, room, up, less);
      legal = h.legal;
      few = h.few;
      written = (λ k. more k ++ texts (place k) (drop (up k) g.made))
          ∙ append_assoc done (text (position c).board m ∷ []) (texts (after (position c) m) (drop (i + 1) g.made))
          ∙ ap (λ ms. done ++ texts (position c) ms) (sym (drop-at g.made i m at)) ∙ h.written;
    })
