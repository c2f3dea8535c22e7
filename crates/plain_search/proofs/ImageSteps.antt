-- What is known after the image of a move, over plain values.
use Rattle.std.proofs.Common.{◌≡◌, ℕ, ◌≤◌, ◌<◌, List, [], ◌∷◌, ◌++◌, length, get_or, inl, inr, refl, sym, ◌∙◌, ap, subst, arith}
use Rattle.std.specs.Prelude.{Some}
use Rattle.std.proofs.lemmas.Option.{slice_get-get_or}
use Rattle.hive_model.specs.declared.places.Move.{Move}
use Rattle.hive_model.specs.Lists.{IsOn}
use Rattle.hive_model.specs.Positions.{Position}
use Rattle.hive_model.specs.Boards.{IsBoard}
use Rattle.hive_model.specs.Legal.{moves}
use Rattle.hive_model.specs.Games.{IsGame, after}
use Rattle.hive_model.specs.Minimax.{lines}
use Rattle.hive_model.specs.Keys.{KeyParts, key}
use Rattle.hive_model.specs.Histories.{History, position}
use Rattle.hive_model.proofs.Floods.{on_append}
use Rattle.hive_model.proofs.GetLemmas.{on-at}
use Rattle.rule_laws.proofs.Games.{games_sound}
use Rattle.symmetry.specs.declared.own.OwnSymmetry.{OwnSymmetry}
use Rattle.symmetry.specs.Alike.{move_by}
use Rattle.symmetry.specs.Own.{AreOwn}
use Rattle.symmetry.specs.Takes.{TakesMove}
use Rattle.symmetry.proofs.LineLaws.{lines_taken}
use Rattle.plain_search.specs.declared.images.Known.{Known}
use Rattle.plain_search.specs.Known.{AreKnown, AreSymmetriesOf}

-- as many lists follow a legal move as follow an image that is known
pub image-count : (game : History) (own : List OwnSymmetry) (known slice : List Known) (m : Move) (n count plies : ℕ) → IsGame game.game_type game.made → plies ≡ length game.made
    → plies ≤ 5064 → n < 8 → AreSymmetriesOf (position game) own → AreKnown (position game) n known → IsOn (moves (position game)) m → slice ≡ known
    → (o : OwnSymmetry) × IsOn own o × IsOn slice (record { moved = move_by o.symmetry o.shift m; count = count }) → count ≡ lines (after (position game) m) n
image-count game own known slice m n count plies is all_plies short low are all legal same (o, on, there) =
    let sound = games_sound game.game_type game.made is (omega (arith, all_plies, short)) in
    let p = position game in
    let b = are o on in
    let e : Known = record { moved = move_by o.symmetry o.shift m; count = count } in
    let takes : TakesMove p m p (move_by o.symmetry o.shift m) = record { symmetry = o.symmetry; is_symmetry = b.below; shift = o.shift; alike = b.alike; takes = refl } in
    all e (subst (λ (es : List Known). IsOn es e) same there)
    ∙ sym (lines_taken p m p _ sound.0.board sound.0.board takes legal (length game.made) n sound.1 sound.1 (omega (arith, all_plies, short, low)))

-- an item of a list is on it
item-on : {X : Type 0} (xs : List X) (i : ℕ) (x : X) → i < length xs → x ≡ get_or xs i x → IsOn xs x
item-on xs i x low is = on-at xs i x (slice_get-get_or xs i x low ∙ ap Some (sym is))

-- an entry of the move says what is known of it
pub known-at : (known : List Known) (i : ℕ) (e : Known) (m : Move) → i < length known → e ≡ get_or known i e → e.moved ≡ m → IsOn known (record { moved = m; count = e.count })
known-at known i e m low is same = subst (λ (z : Move). IsOn known (record { moved = z; count = e.count })) same (item-on known i e low is)

-- an image that is known
pub image-known : (own : List OwnSymmetry) (known : List Known) (i : ℕ) (o : OwnSymmetry) (m again image : Move) (n : ℕ) → i < length own → o ≡ get_or own i o → again ≡ m
    → image ≡ move_by o.symmetry o.shift again → IsOn known (record { moved = image; count = n })
    → (x : OwnSymmetry) × IsOn own x × IsOn known (record { moved = move_by x.symmetry x.shift m; count = n })
image-known own known i o m again image n low is same moved there = (
  o,
  item-on own i o low is,
  subst (λ (z : Move). IsOn known (record { moved = z; count = n })) (moved ∙ ap (move_by o.symmetry o.shift) same) there,
)

-- nothing is known at first
pub known-none : (p : Position) (n : ℕ) (known : List Known) → known ≡ [] → AreKnown p n known
known-none p n known none e on = absurd (subst (λ es. IsOn es e) none on)

pub known-more : (p : Position) (n : ℕ) (known new : List Known) (e : Known) → AreKnown p n known → e.count ≡ lines (after p e.moved) n → new ≡ known ++ e ∷ [] → AreKnown p n new
known-more p n known new e all here is f on = elim (on_append known (e ∷ []) f (subst (λ es. IsOn es f) is on)) [
  | inl old ↦ all f old
  | inr last ↦ elim last [ inl same ↦ subst (λ (z : Known). z.count ≡ lines (after p z.moved) n) same here | inr none ↦ absurd none ]
]

-- the move once more
pub again-count : (p : Position) (m again : Move) (n count : ℕ) → again ≡ m → count ≡ lines (after p again) n → count ≡ lines (after p m) n
again-count p m again n count same is = subst (λ (z : Move). count ≡ lines (after p z) n) same is

-- from the game now to the game at the start
pub known-now : (start now : History) (n : ℕ) (known : List Known) → now ≡ start → AreKnown (position now) n known → AreKnown (position start) n known
known-now start now n known same all = subst (λ (g : History). AreKnown (position g) n known) same all

-- and back
pub known-then : (start now : History) (n : ℕ) (known : List Known) → now ≡ start → AreKnown (position start) n known → AreKnown (position now) n known
known-then start now n known same all = known-now now start n known (sym same) all

-- the symmetries that the key of a position has are its own
pub own-here : (p : Position) (k : KeyParts) (own : List OwnSymmetry) → IsBoard p.board → k ≡ key p → AreOwn k own → AreSymmetriesOf p own
own-here p k own is keyed are o on = (are p is keyed o.symmetry o.shift).0 (record { item = o; listed = on; symmetry = refl; shift = refl })

pub own-none : (p : Position) (own : List OwnSymmetry) → own ≡ [] → AreSymmetriesOf p own
own-none p own none o on = absurd (subst (λ es. IsOn es o) none on)

-- the position is that at the start
pub own-then : (start now : History) (own items : List OwnSymmetry) → now ≡ start → items ≡ own → AreSymmetriesOf (position start) own → AreSymmetriesOf (position now) items
own-then start now own items same is all =
    subst (λ (es : List OwnSymmetry). AreSymmetriesOf (position now) es) (sym is) (subst (λ (g : History). AreSymmetriesOf (position g) own) (sym same) all)
