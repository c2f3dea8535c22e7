-- A move that was legal before, and is not legal now, has a text that denotes no legal move.
use Rattle.std.proofs.Common.{◌≡◌, ◌⊎◌, ℕ, ◌-◌, ◌<◌, ◌≤◌, Bool, true, false, cond, List, [], ◌∷◌, ◌++◌, length, take, None, inl, inr, refl, sym, ◌∙◌, ap, subst, arith}
use Rattle.std.specs.Prelude.{IsTrue, nat_lt}
use Rattle.std.specs.List.{list_any}
use Rattle.std.proofs.lemmas.Bool.{lt-ltb}
use Rattle.std.proofs.lemmas.List.{length-take}
use Rattle.hive_model.specs.declared.pieces.GameType.{GameType}
use Rattle.hive_model.specs.declared.places.Place.{Place}
use Rattle.hive_model.specs.declared.places.Dir.TheVariants.{E, NE, NW, W, SW, SE}
use Rattle.hive_model.specs.declared.places.Move.{Move}
use Rattle.hive_model.specs.declared.places.Move.TheVariants.{Pass, To}
use Rattle.hive_model.specs.declared.forms.Form.TheVariants.{Alone, Beside, Passes}
use Rattle.hive_model.specs.Lists.{IsOn}
use Rattle.hive_model.specs.Pieces.{OfType}
use Rattle.hive_model.specs.Boards.{Stacks, IsBoard, is_occupied, put, stack_at, top_at, top_of, without}
use Rattle.hive_model.specs.Positions.{Position, opening}
use Rattle.hive_model.specs.Histories.{is_move}
use Rattle.hive_model.specs.Legal.{moves, pairs, state}
use Rattle.hive_model.specs.Games.{IsGame, after, replay}
use Rattle.hive_model.specs.Texts.{form_text}
use Rattle.hive_model.specs.Denotes.{Candidate, Denotes, by_top, candidates, first_named, text}
use Rattle.hive_model.proofs.BoardLemmas.{stack_at-put}
use Rattle.hive_model.proofs.ListedLaws.{is_move_itself}
use Rattle.hive_model.proofs.MoveLaws.{moves_legal}
use Rattle.hive_model.proofs.PlaceLemmas.{from_same_place}
use Rattle.hive_model.proofs.RuleLaws.{has_any}
use Rattle.hive_model.proofs.TouchLaws.{Touched}
use Rattle.move_text.proofs.FormLaws.{read_form}
use Rattle.move_text.proofs.LegalSpell.{legal_denotes}
use Rattle.move_text.proofs.MoveLaws.{of_denotes}
use Rattle.move_text.proofs.SpellLaws.{pass_denotes, text_denotes}
use Rattle.game_text.proofs.WriteLaws.{legal_part}
use Rattle.rule_laws.proofs.Games.{games_sound}

-- Boards

not_none : (xs : List ℕ) (x : ℕ) → [] ≡ xs ++ x ∷ [] → ⊥
not_none [] x e = cc
not_none (y ∷ ys) x e = cc

put_filled : (b : Stacks) (x : ℕ) (q : Place) → put b x q ≡ [] → ⊥
put_filled b x q e =
    not_none (stack_at b q) x
    (sym (ap (λ (c : Stacks). stack_at c q) e)
    ∙ stack_at-put b x q q
    ∙ ap (λ h. cond h (stack_at b q ++ x ∷ []) (stack_at b q)) (from_same_place q q refl))

after_filled : (p : Position) (m : Move) → (p.board ≡ [] → ⊥) → (after p m).board ≡ [] → ⊥
unfolding after
after_filled p Pass filled e = filled e
after_filled p (To x q) filled e = put_filled (without p.board x) x q e

replay_filled : (p : Position) (ms : List Move) → (p.board ≡ [] → ⊥) → (replay p ms).board ≡ [] → ⊥
replay_filled p [] filled e = filled e
replay_filled p (m ∷ ms) filled e = replay_filled (after p m) ms (after_filled p m filled) e

-- in no opening the pass is legal
no_pass : (m l p : Bool) → list_any (is_move Pass) (moves (opening (record { mosquito = m; ladybug = l; pillbug = p }))) ≡ false
unfolding moves pairs state
no_pass false false false = refl
no_pass false false true = refl
no_pass false true false = refl
no_pass false true true = refl
no_pass true false false = refl
no_pass true false true = refl
no_pass true true false = refl
no_pass true true true = refl

first_filled : (t : GameType) (m : Move) → IsOn (moves (opening t)) m → (after (opening t) m).board ≡ [] → ⊥
unfolding after
first_filled t Pass on e =
    let there : list_any (is_move Pass) (moves (opening t)) ≡ true = has_any (is_move Pass) (moves (opening t)) Pass on (is_move_itself Pass) in
    let none : list_any (is_move Pass) (moves (opening t)) ≡ false = no_pass t.mosquito t.ladybug t.pillbug in
    cc
first_filled t (To x q) on e = put_filled (without [] x) x q e

-- if the board is empty, no move was made
none_made : (t : GameType) (ms : List Move) → IsGame t ms → (replay (opening t) ms).board ≡ [] → ms ≡ []
none_made t [] game e = refl
none_made t (m ∷ ms) game e = absurd (replay_filled (after (opening t) m) ms (first_filled t m game.0) e)

after_type : (p : Position) (m : Move) → (after p m).game_type ≡ p.game_type
unfolding after
after_type p m = refl

replay_type : (p : Position) (ms : List Move) → (replay p ms).game_type ≡ p.game_type
replay_type p [] = refl
replay_type p (m ∷ ms) = replay_type (after p m) ms ∙ after_type p m

-- Texts

no_top : (xs : List ℕ) (c : Stacks) (q : Place) → stack_at c q ≡ xs → is_occupied c q ≡ false → top_at c q ≡ None
no_top [] c q e free = ap top_of e
no_top (y ∷ ys) c q e free =
    let some : is_occupied c q ≡ true = ap (λ (zs : List ℕ). nat_lt 0 (length zs)) e ∙ lt-ltb 0 (length (y ∷ ys)) (omega arith) in
    absurd (cc)

-- some way to name a place is on the board, or the piece is named alone
named : (c : Stacks) (x : ℕ) (ps : List Candidate) → ((p : Candidate) × IsOn ps p × IsTrue (is_occupied c p.place)) ⊎ (first_named c x ps ≡ Alone x)
named c x [] = inr refl
named c x (p ∷ ps) =
    elim (is_occupied c p.place) as (λ o. is_occupied c p.place ≡ o → ((r : Candidate) × IsOn (p ∷ ps) r × IsTrue (is_occupied c r.place)) ⊎ (first_named c x (p ∷ ps) ≡ Alone x)) [
      | true ↦ λ e. inl (p, inl refl, e)
      | false ↦ λ e. elim (named c x ps) [
        | inl f ↦ inl (f.0, inr f.1, f.2)
        | inr none ↦ inr (ap (λ o. by_top x p.mark o (first_named c x ps)) (no_top (stack_at c p.place) c p.place refl e) ∙ none)
      ]
    ] refl

touched : (c : Stacks) (q : Place) (p : Candidate) → IsOn (candidates q) p → IsTrue (is_occupied c p.place) → Touched c q
touched c q p (inl e) there = inl (subst (λ (r : Candidate). IsTrue (is_occupied c r.place)) (sym e) there)
touched c q p (inr (inl e)) there = inr (W, subst (λ (r : Candidate). IsTrue (is_occupied c r.place)) (sym e) there)
touched c q p (inr (inr (inl e))) there = inr (E, subst (λ (r : Candidate). IsTrue (is_occupied c r.place)) (sym e) there)
touched c q p (inr (inr (inr (inl e)))) there = inr (SW, subst (λ (r : Candidate). IsTrue (is_occupied c r.place)) (sym e) there)
touched c q p (inr (inr (inr (inr (inl e))))) there = inr (NE, subst (λ (r : Candidate). IsTrue (is_occupied c r.place)) (sym e) there)
touched c q p (inr (inr (inr (inr (inr (inl e)))))) there = inr (NW, subst (λ (r : Candidate). IsTrue (is_occupied c r.place)) (sym e) there)
touched c q p (inr (inr (inr (inr (inr (inr (inl e))))))) there = inr (SE, subst (λ (r : Candidate). IsTrue (is_occupied c r.place)) (sym e) there)
touched c q p (inr (inr (inr (inr (inr (inr (inr wrong))))))) there = absurd wrong

-- a piece that is named alone denotes a move on an empty board
alone_empty : (t : GameType) (b : Stacks) (x : ℕ) (line : List ℕ) (n : Move) → x < 28 → line ≡ form_text (Alone x) → Denotes t b line n → b ≡ []
alone_empty t b x line n small is (inl d) =
    let one = read_form line (Alone x) small is in let other = read_form line Passes tt d.0 in absurd (cc)
alone_empty t b x line n small is (inr (inl d)) = d.empty
alone_empty t b x line n small is (inr (inr d)) =
    let one = read_form line (Alone x) small is in
    let other = read_form line (Beside d.piece d.mark d.reference) (d.is_piece, d.is_reference) d.text_is in
    absurd (cc)

one_denoted : (t : GameType) (b : Stacks) (line : List ℕ) (m n : Move) → Denotes t b line m → Denotes t b line n → n ≡ m
one_denoted t b line m n d e = let one = of_denotes t b line m d in let other = of_denotes t b line n e in cc

denoted : (t : GameType) (b : Stacks) (x : ℕ) (q : Place) (n : Move) → IsBoard b → x < 28 → OfType t x → Denotes t b (text b (To x q)) n → (n ≡ To x q) ⊎ (b ≡ [])
denoted t b x q n is small of_type d = elim (named (without b x) x (candidates q)) [
  | inl f ↦ inl (one_denoted t b (text b (To x q)) (To x q) n (text_denotes t b is x q small of_type (touched (without b x) q f.0 f.1 f.2)) d)
  | inr none ↦ inr (alone_empty t b x (text b (To x q)) n small (ap form_text none) d)
]

-- the piece of a move that is denoted by some text
piece_is : (t : GameType) (b : Stacks) (line : List ℕ) (x : ℕ) (q : Place) → Denotes t b line (To x q) → (x < 28) × OfType t x
piece_is t b line x q (inl d) = let wrong = d.1 in absurd (cc)
piece_is t b line x q (inr (inl d)) = let e = d.goes in let same : d.piece ≡ x = cc in (subst (λ k. k < 28) same d.is_piece, subst (OfType t) same d.of_type)
piece_is t b line x q (inr (inr d)) = let e = d.goes in let same : d.piece ≡ x = cc in (subst (λ k. k < 28) same d.is_piece, subst (OfType t) same d.of_type)

-- the position of a game two plies before, or the opening
abbrev pub two_before : GameType → List Move → Position
two_before t ms = replay (opening t) (take (length ms - 2) ms)

pub none_denoted : (t : GameType) (ms : List Move) (m n : Move) → IsGame t ms → length ms ≤ 1000 → IsOn (moves (two_before t ms)) m → (IsOn (moves (replay (opening t) ms)) m → ⊥)
    → (let p = replay (opening t) ms in Denotes t p.board (text p.board m) n) → IsOn (moves (replay (opening t) ms)) n → ⊥
none_denoted t ms Pass n game few was now d on =
    let p = replay (opening t) ms in
    now (subst (IsOn (moves p)) (one_denoted t p.board (text p.board Pass) Pass n (pass_denotes t p.board) d) on)
none_denoted t ms (To x q) n game few was now d on =
    let p = replay (opening t) ms in
    let k = length ms - 2 in
    let past = take k ms in
    let fewer : length past ≤ 9000 = omega (arith, few, length-take k ms) in
    let few_now : length ms ≤ 9000 = omega (arith, few) in
    let sound = (games_sound t past (legal_part (opening t) ms k game) fewer).0 in
    let sound_now = (games_sound t ms game few_now).0 in
    let legal = moves_legal (two_before t ms) sound.board (To x q) was in
    let there = legal_denotes (two_before t ms) (To x q) sound legal in
    let piece = piece_is (two_before t ms).game_type (two_before t ms).board (text (two_before t ms).board (To x q)) x q there in
    elim (denoted t p.board x q n sound_now.board piece.0 (subst (λ (u : GameType). OfType u x) (replay_type (opening t) past) piece.1) d) [
      | inl same ↦ now (subst (IsOn (moves p)) same on)
      | inr empty ↦
          let none = none_made t ms game empty in
          subst (λ (xs : List Move). IsOn (moves (replay (opening t) xs)) (To x q) → ⊥) none now
          (subst (λ (xs : List Move). IsOn (moves (two_before t xs)) (To x q)) none was)
    ]
