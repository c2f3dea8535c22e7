-- What each game keeps.
use Rattle.std.proofs.Common.{◌≡◌, ℕ, suc, ◌+◌, ◌/◌, ◌%◌, ◌≤◌, ◌<◌, List, [], ◌∷◌, length, refl, sym, ◌∙◌, ap, subst, arith, ◌⊎◌, inl, inr, if◌then◌else◌}
use Rattle.std.proofs.lemmas.Bool.{ne_eqb, eq-eqb, cases_eq}
use Rattle.hive_model.specs.declared.pieces.Colour.TheVariants.{White, Black}
use Rattle.hive_model.specs.declared.pieces.GameType.{GameType}
use Rattle.hive_model.specs.declared.places.Move.{Move}
use Rattle.hive_model.specs.Pieces.{is_colour, other_side}
use Rattle.hive_model.specs.Boards.{StandsWithin}
use Rattle.hive_model.specs.Positions.{Position, IsSound, opening}
use Rattle.hive_model.specs.Games.{after, replay, AreLegal}
use Rattle.hive_model.proofs.MoveLaws.{moves_legal}
use Rattle.rule_laws.specs.Soundness.{ListedMovesKeepSoundness, GamesAreSound, side_after, GamesCountPlies}
use Rattle.rule_laws.proofs.Moves.{moves_keep}
use Rattle.rule_laws.proofs.Openings.{openings}

pub listed_keep : ListedMovesKeepSoundness
listed_keep p n m sound w low on = moves_keep p n m sound w low (moves_legal p sound.board m on)

replay_keeps : (p : Position) (ms : List Move) (n : ℕ) → IsSound p → StandsWithin n p.board → n + length ms ≤ 9000 → AreLegal p ms
    → IsSound (replay p ms) × StandsWithin (n + length ms) (replay p ms).board
replay_keeps p [] n sound w low legal = let same : n ≡ n + 0 = omega arith in (sound, subst (λ k. StandsWithin k p.board) same w)
replay_keeps p (m ∷ ms) n sound w low legal =
    let board : n < 9000 = omega (arith, low) in
    let next = listed_keep p n m sound w board legal.0 in
    let less : n + 1 + length ms ≤ 9000 = omega (arith, low) in
    let rest = replay_keeps (after p m) ms (n + 1) next.0 next.1 less legal.1 in
    let same : n + 1 + length ms ≡ n + suc (length ms) = omega arith in
    (rest.0, subst (λ k. StandsWithin k (replay (after p m) ms).board) same rest.1)

pub games_sound : GamesAreSound
games_sound t ms legal low =
    let start = openings t in
    let short : 0 + length ms ≤ 9000 = omega (arith, low) in
    let r = replay_keeps (opening t) ms 0 start.0 start.1 short legal in
    let same : 0 + length ms ≡ length ms = omega arith in
    (r.0, subst (λ k. StandsWithin k (replay (opening t) ms).board) same r.1)

-- Turns

-- after an even number of plies comes white, and after an odd one black
abbrev Even : ℕ → Type 0
Even n = (n % 2 ≡ 0) ⊎ (n % 2 ≡ 1)

even_or_odd : (n : ℕ) → Even n
even_or_odd n = elim (cases_eq (n % 2) 0) [ inl even ↦ inl even | inr odd ↦ inr (omega (arith, odd)) ]

white_after : (n : ℕ) → n % 2 ≡ 0 → side_after n ≡ White
white_after n e = ap (λ t. if t then White else Black) (eq-eqb (n % 2) 0 e)

black_after : (n : ℕ) → n % 2 ≡ 1 → side_after n ≡ Black
black_after n e = let odd : n % 2 ≡ 0 → ⊥ = (λ z. omega (arith, e, z)) in ap (λ t. if t then White else Black) (ne_eqb (n % 2) 0 odd)

side_next : (n : ℕ) → other_side (side_after n) ≡ side_after (n + 1)
side_next n = elim (even_or_odd n) [
  | inl even ↦ ap other_side (white_after n even) ∙ sym (black_after (n + 1) (omega (arith, even)))
  | inr odd ↦ ap other_side (black_after n odd) ∙ sym (white_after (n + 1) (omega (arith, odd)))
]

turn_next : (n : ℕ) → n / 2 + 1 + (if is_colour (side_after n) Black then 1 else 0) ≡ (n + 1) / 2 + 1
turn_next n = elim (even_or_odd n) [
  | inl even ↦ ap (λ c. n / 2 + 1 + (if is_colour c Black then 1 else 0)) (white_after n even) ∙ (let same : n / 2 + 1 + 0 ≡ (n + 1) / 2 + 1 = omega (arith, even) in same)
  | inr odd ↦ ap (λ c. n / 2 + 1 + (if is_colour c Black then 1 else 0)) (black_after n odd) ∙ (let same : n / 2 + 1 + 1 ≡ (n + 1) / 2 + 1 = omega (arith, odd) in same)
]

-- what the number of plies determines of a position
record Counted (t : GameType) (n : ℕ) (p : Position) : Type 0 where
  game_type : p.game_type ≡ t
  side : p.side ≡ side_after n
  turn : p.turn ≡ n / 2 + 1

counted_next : (t : GameType) (n : ℕ) (p : Position) (m : Move) → Counted t n p → Counted t (n + 1) (after p m)
unfolding after
counted_next t n p m h = record {
  game_type = h.game_type;
  side = ap other_side h.side ∙ side_next n;
  turn = (λ i. h.turn i + (if is_colour (h.side i) Black then 1 else 0)) ∙ turn_next n;
}

counted : (t : GameType) (n : ℕ) (p : Position) (ms : List Move) → Counted t n p → Counted t (n + length ms) (replay p ms)
counted t n p [] h = let same : n ≡ n + 0 = omega arith in subst (λ k. Counted t k p) same h
counted t n p (m ∷ ms) h =
    let same : n + 1 + length ms ≡ n + suc (length ms) = omega arith in
    subst (λ k. Counted t k (replay (after p m) ms)) same (counted t (n + 1) (after p m) ms (counted_next t n p m h))

pub games_count : GamesCountPlies
games_count t ms =
    let same : 0 + length ms ≡ length ms = omega arith in
    let r = subst (λ k. Counted t k (replay (opening t) ms)) same (counted t 0 (opening t) ms (record { game_type = refl; side = refl; turn = refl })) in
    record { game_type = r.game_type; side = r.side; turn = r.turn }
