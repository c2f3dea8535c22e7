-- The positions of a game, the keys of these and the written texts of its moves, when a move is
-- made or taken back.
use Rattle.std.proofs.Common.{◌≡◌, ℕ, zero, suc, ◌-◌, ◌<◌, ◌≤◌, Bool, true, false, List, [], ◌∷◌, ◌++◌, length, take, map, refl, sym, ◌∙◌, ap, subst, arith, length-append}
use Rattle.std.specs.Prelude.{if◌then◌else◌}
use Rattle.hive_model.specs.declared.pieces.GameType.{GameType}
use Rattle.hive_model.specs.declared.places.Move.{Move}
use Rattle.hive_model.specs.Lists.{IsOn}
use Rattle.hive_model.specs.Boards.{Stacks}
use Rattle.hive_model.specs.Positions.{Position, IsSound, opening}
use Rattle.hive_model.specs.Legal.{moves}
use Rattle.hive_model.specs.Games.{after, replay}
use Rattle.hive_model.specs.Denotes.{text}
use Rattle.hive_model.specs.Keys.{KeyParts, key}
use Rattle.hive_model.specs.Repetition.{positions, keys}
use Rattle.hive_model.specs.Histories.{History, position, with_move, without_last}
use Rattle.hive_model.specs.Strings.{texts}
use Rattle.game_text.specs.Seen.{keys_kept}
use Rattle.game_text.proofs.OpenLaws.{keys_size}
use Rattle.game_text.proofs.WriteLaws.{taken_size}
use Rattle.move_text.specs.Moves.{IsMoveWithin}
use Rattle.move_text.proofs.LegalSpell.{listed_within}
use Rattle.search_laws.proofs.HistoryLaws.{take-all_but_last}
use Rattle.uhp_session.specs.Answers.{CurrentGame, reached}

-- The position of a history with the game's type and moves

pub same_place : (c : History) (g : CurrentGame) → c.game_type ≡ g.game_type → c.made ≡ g.made → position c ≡ reached g
same_place c g kind made = λ j. replay (opening (kind j)) (made j)

pub kept_within : (c : History) (g : CurrentGame) (m : Move) → c.game_type ≡ g.game_type → c.made ≡ g.made → IsSound (position c) → IsOn (moves (reached g)) m → IsMoveWithin m
kept_within c g m kind made sound on =
    let here : IsOn (moves (position c)) m = subst (λ p. IsOn (moves p) m) (sym (same_place c g kind made)) on in
    listed_within (position c) m sound here

-- Texts

texts_more : (p : Position) (ms : List Move) (m : Move) → texts p (ms ++ m ∷ []) ≡ texts p ms ++ text (replay p ms).board m ∷ []
texts_more p [] m = refl
texts_more p (k ∷ ms) m = ap (λ (r : List (List ℕ)). text p.board k ∷ r) (texts_more (after p k) ms m)

texts_size : (p : Position) (ms : List Move) → length (texts p ms) ≡ length ms
texts_size p [] = refl
texts_size p (k ∷ ms) = ap suc (texts_size (after p k) ms)

texts_part : (p : Position) (ms : List Move) (n : ℕ) → texts p (take n ms) ≡ take n (texts p ms)
texts_part p [] zero = refl
texts_part p [] (suc n) = refl
texts_part p (k ∷ ms) zero = refl
texts_part p (k ∷ ms) (suc n) = ap (λ (r : List (List ℕ)). text p.board k ∷ r) (texts_part (after p k) ms n)

-- a move is made, and its text on the board before it is kept
pub written_more : (c d e : History) (old new : List (List ℕ)) (b : Stacks) (m k : Move) → d.game_type ≡ c.game_type → d.made ≡ c.made → e ≡ with_move d m
    → old ≡ texts (opening c.game_type) c.made → b ≡ (position d).board → k ≡ m → new ≡ old ++ text b k ∷ [] → new ≡ texts (opening e.game_type) e.made
written_more c d e old new b m k kind made moved before board same pushed =
    let board2 : b ≡ (position c).board = board ∙ (λ i. (replay (opening (kind i)) (made i)).board) in
    let kind2 : e.game_type ≡ c.game_type = ap (λ (z : History). z.game_type) moved ∙ kind in
    let made2 : e.made ≡ c.made ++ m ∷ [] = ap (λ (z : History). z.made) moved ∙ ap (λ (r : List Move). r ++ m ∷ []) made in
    pushed ∙ (λ i. before i ++ text (board2 i) (same i) ∷ []) ∙ sym (texts_more (opening c.game_type) c.made m)
    ∙ sym (λ i. texts (opening (kind2 i)) (made2 i))

-- the last move is taken back, and its text is dropped
pub written_less : (c e : History) (old new : List (List ℕ)) → e ≡ without_last c → old ≡ texts (opening c.game_type) c.made → new ≡ take (length old - 1) old
    → new ≡ texts (opening e.game_type) e.made
written_less c e old new back before popped =
    let whole = texts (opening c.game_type) c.made in
    popped ∙ (λ i. take (length (before i) - 1) (before i)) ∙ ap (λ n. take (n - 1) whole) (texts_size (opening c.game_type) c.made)
    ∙ sym (texts_part (opening c.game_type) c.made (length c.made - 1))
    ∙ sym (λ i. texts (opening (back i).game_type) (back i).made)

-- Keys

none_taken : {X : Type 0} (xs : List X) → take 0 xs ≡ []
none_taken [] = refl
none_taken (x ∷ xs) = refl

keys_part : (p : Position) (ms : List Move) (n : ℕ) → n ≤ length ms → take (suc n) (map key (positions p ms)) ≡ map key (positions p (take n ms))
keys_part p [] zero few = refl
keys_part p [] (suc n) few = absurd (omega (arith, few))
keys_part p (k ∷ ms) zero few = ap (λ (r : List KeyParts). key p ∷ r) (none_taken (map key (positions (after p k) ms)))
keys_part p (k ∷ ms) (suc n) few = ap (λ (r : List KeyParts). key p ∷ r) (keys_part (after p k) ms n (omega (arith, few)))

keys_less : (t : GameType) (ms : List Move) → 1 ≤ length ms → take (length (keys t ms) - 1) (keys t ms) ≡ keys t (take (length ms - 1) ms)
unfolding keys
keys_less t ms some =
    let size = keys_size t ms in
    let last : length (map key (positions (opening t) ms)) - 1 ≡ suc (length ms - 1) = omega (arith, size, some) in
    ap (λ n. take n (map key (positions (opening t) ms))) last ∙ keys_part (opening t) ms (length ms - 1) (omega arith)

-- the last move is taken back, and the key of its position is dropped
pub sees_back : (r s : Bool) (ks less : List KeyParts) (c d : History) → 1 ≤ length c.made → ks ≡ keys_kept r c → d ≡ without_last c → s ≡ r
    → less ≡ (if r then take (length ks - 1) ks else ks) → less ≡ keys_kept s d
sees_back r s ks less c d some h back same popped = subst (λ z. less ≡ keys_kept z d) (sym same) (go r h popped)
  where
    go : (r : Bool) → ks ≡ keys_kept r c → less ≡ (if r then take (length ks - 1) ks else ks) → less ≡ keys_kept r d
    go true e f =
        f ∙ ap (λ (z : List KeyParts). take (length z - 1) z) e ∙ keys_less c.game_type c.made some
        ∙ ap (λ (z : History). keys z.game_type z.made) (sym back)
    go false e f = f ∙ e

-- The number of moves

pub few_more : (c d e : History) (m : Move) → d.made ≡ c.made → e ≡ with_move d m → length c.made < 5000 → length e.made ≤ 5000
few_more c d e m made moved less =
    let size : length e.made ≡ length (c.made ++ m ∷ []) = ap (λ (z : History). length z.made) moved ∙ ap (λ (r : List Move). length (r ++ m ∷ [])) made in
    omega (arith, size, length-append c.made (m ∷ []), less)

pub few_less : (c e : History) → e ≡ without_last c → length c.made ≤ 5000 → length e.made ≤ 5000
few_less c e back few =
    let size : length e.made ≡ length (take (length c.made - 1) c.made) = ap (λ (z : History). length z.made) back in
    let part = taken_size c.made (length c.made - 1) in
    omega (arith, size, part, few)

-- a move was made and taken back
pub taken_back : (ms : List Move) (m : Move) → take (length (ms ++ m ∷ []) - 1) (ms ++ m ∷ []) ≡ ms
taken_back ms m = take-all_but_last ms m
