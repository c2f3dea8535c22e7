-- The keys that are stored are those of the game's positions.
use Rattle.std.proofs.Common.{◌≡◌, ◌≤◌, ◌<◌, Bool, true, false, List, [], ◌∷◌, ◌++◌, length, map, refl, sym, ◌∙◌, ap, subst, arith}
use Rattle.std.specs.Prelude.{IsTrue, if◌then◌else◌}
use Rattle.hive_model.specs.declared.places.Move.{Move}
use Rattle.hive_model.specs.Positions.{opening}
use Rattle.hive_model.specs.Legal.{state}
use Rattle.hive_model.specs.Games.{replay}
use Rattle.hive_model.specs.Keys.{KeyParts, key}
use Rattle.hive_model.specs.Histories.{History, position, with_move}
use Rattle.hive_model.specs.Repetition.{positions, keys, ends_as, outcome_under}
use Rattle.hive_model.proofs.SameBoards.{keys_grow}
use Rattle.game_text.specs.declared.seen.Seen.{Seen}
use Rattle.game_text.specs.Reading.{is_third}
use Rattle.game_text.specs.Seen.{keys_kept, Sees}
use Rattle.game_text.proofs.OpenLaws.{keys_size, outcome_is}

pub third_seen : (s : Seen) (c : History) → Sees s c → is_third s.repetition s.keys ≡ is_third s.repetition (keys c.game_type c.made)
third_seen s c h = ap (is_third s.repetition) h ∙ go s.repetition
  where
    go : (r : Bool) → is_third r (keys_kept r c) ≡ is_third r (keys c.game_type c.made)
    go true = refl
    go false = refl

pub seen_some : (s : Seen) (c : History) → Sees s c → IsTrue s.repetition → 1 ≤ length s.keys
seen_some s c h t = go s.repetition s.keys h t
  where
    go : (r : Bool) (ks : List KeyParts) → ks ≡ keys_kept r c → IsTrue r → 1 ≤ length ks
    go true ks e t = let same = ap length e in let size = keys_size c.game_type c.made in omega (arith, same, size)
    go false ks e t = let wrong : false ≡ true = t in absurd (cc)

pub seen_few : (s : Seen) (c : History) → Sees s c → length c.made ≤ 5064 → length s.keys < 10000
seen_few s c h few = go s.repetition s.keys h
  where
    go : (r : Bool) (ks : List KeyParts) → ks ≡ keys_kept r c → length ks < 10000
    go true ks e = let same = ap length e in let size = keys_size c.game_type c.made in omega (arith, same, size, few)
    go false ks e = let same : length ks ≡ 0 = ap length e in omega (arith, same)

pub sees_on : (r s : Bool) (ks more : List KeyParts) (c d : History) (m : Move) → ks ≡ keys_kept r c → d ≡ with_move c m → s ≡ r → more ≡ (if r then ks ++ key (position d) ∷ [] else ks) → more ≡ keys_kept s d
sees_on r s ks more c d m h next same pushed = subst (λ z. more ≡ keys_kept z d) (sym same) (go r h pushed)
  where
    go : (r : Bool) → ks ≡ keys_kept r c → more ≡ (if r then ks ++ key (position d) ∷ [] else ks) → more ≡ keys_kept r d
    go true e f =
        f ∙ ap (λ (z : List KeyParts). z ++ key (position d) ∷ []) e ∙ ap (λ z. keys c.game_type c.made ++ key (position z) ∷ []) next
        ∙ sym (keys_grow c.game_type c.made m) ∙ ap (λ (z : History). keys z.game_type z.made) (sym next)
    go false e f = f ∙ e

pub sees_first : (r s : Bool) (ks more : List KeyParts) (c : History) → c.made ≡ [] → ks ≡ [] → s ≡ r → more ≡ (if r then ks ++ key (position c) ∷ [] else ks) → more ≡ keys_kept s c
unfolding keys
sees_first r s ks more c fresh none same pushed = subst (λ z. more ≡ keys_kept z c) (sym same) (go r pushed)
  where
    first : keys c.game_type c.made ≡ key (position c) ∷ []
    first = ap (λ ms. map key (positions (opening c.game_type) ms)) fresh ∙ ap (λ ms. key (replay (opening c.game_type) ms) ∷ []) (sym fresh)

    go : (r : Bool) → more ≡ (if r then ks ++ key (position c) ∷ [] else ks) → more ≡ keys_kept r c
    go true f = f ∙ ap (λ (z : List KeyParts). z ++ key (position c) ∷ []) none ∙ sym first
    go false f = f ∙ none

pub outcome_seen : (s : Seen) (c : History) → Sees s c → ends_as (is_third s.repetition s.keys) (state (position c)) ≡ outcome_under s.repetition c.game_type c.made
outcome_seen s c h =
    ap (λ b. ends_as b (state (position c))) (third_seen s c h)
    ∙ outcome_is s.repetition c.game_type c.made (keys c.game_type c.made) (position c) (record { seen_is = refl; place = refl })

-- histories of the same moves
pub sees_same : (s : Seen) (c d : History) → c.game_type ≡ d.game_type → c.made ≡ d.made → Sees s c → Sees s d
sees_same s c d kind made h = h ∙ (λ i. if s.repetition then keys (kind i) (made i) else [])
