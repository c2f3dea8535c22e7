-- Lists of plies, over plain values.
use Rattle.std.proofs.Common.{◌≡◌, ℕ, zero, suc, ◌+◌, List, [], ◌∷◌, ◌++◌, take, sym, ◌∙◌, ap, add-one, Some}
use Rattle.std.specs.List.{slice_get}
use Rattle.std.proofs.lemmas.List.{map-append}
use Rattle.std.proofs.lemmas.Option.{slice_get_within, get_or_from_slice_get}
use Rattle.std.proofs.Math.Seq.{take-suc}
use Rattle.hive_model.specs.Positions.{Position}
use Rattle.hive_model.specs.Games.{after, replay}
use Rattle.hive_model.specs.Keys.{key}
use Rattle.grow_game.specs.declared.plies.Ply.{Ply}
use Rattle.grow_game.specs.Plies.{moves_of, AreKeyed}

pub moves_of-append : (ts : List Ply) (t : Ply) → moves_of (ts ++ t ∷ []) ≡ moves_of ts ++ t.m ∷ []
moves_of-append ts t = map-append (λ (k : Ply). k.m) ts (t ∷ [])

-- the plies before one place, and that one
pub taken_next : (ts : List Ply) (i : ℕ) (t : Ply) → slice_get ts i ≡ Some t → take (i + 1) ts ≡ take i ts ++ t ∷ []
taken_next ts i t here =
    rw add-one (take-suc ts i t (slice_get_within ts i t here) ∙ ap (λ (k : Ply). take i ts ++ k ∷ []) (get_or_from_slice_get ts i t t here))

pub keyed-append : (p : Position) (ts : List Ply) (t : Ply) → AreKeyed p ts → t.before ≡ key (replay p (moves_of ts)) → AreKeyed p (ts ++ t ∷ [])
keyed-append p [] t keyed here = (here, tt)
keyed-append p (k ∷ ts) t keyed here = (keyed.0, keyed-append (after p k.m) ts t keyed.1 here)

pub keyed-at : (p : Position) (ts : List Ply) (i : ℕ) (t : Ply) → AreKeyed p ts → slice_get ts i ≡ Some t → t.before ≡ key (replay p (moves_of (take i ts)))
keyed-at p [] i t keyed e = absurd (cc)
keyed-at p (k ∷ ts) zero t keyed e = let same : k ≡ t = cc in ap (λ (n : Ply). n.before) (sym same) ∙ keyed.0
keyed-at p (k ∷ ts) (suc i) t keyed e = keyed-at (after p k.m) ts i t keyed.1 e
