-- A walk through a place beside one arc goes along the arc in its stead.
use Rattle.std.proofs.Common.{◌≡◌, Bool, true, false, List, [], ◌∷◌, ◌++◌, ◌⊎◌, inl, inr, refl, sym, ◌∙◌, ap, subst}
use Rattle.std.specs.Prelude.{IsTrue}
use Rattle.hive_model.specs.declared.places.Place.{Place}
use Rattle.hive_model.specs.declared.places.Dir.{Dir}
use Rattle.hive_model.specs.declared.places.Dir.TheVariants.{E, NE, NW, W, SW, SE}
use Rattle.hive_model.specs.Lists.{IsPath}
use Rattle.hive_model.specs.Places.{step, dir_after, dir_before, AreNeighbours}
use Rattle.hive_model.proofs.LegalLaws.{neighbour_back}
use Rattle.hive_model.proofs.RuleLaws.{over_last, before_after}
use Rattle.hive_model.specs.Hive.{StepOn, WalkOn, OneHiveOn}
use Rattle.arcs.specs.Arcs.{OneArc}

-- the neighbours in two directions that follow one another are neighbours
along_next : (p : Place) (d : Dir) → AreNeighbours (step p d) (step p (dir_after d))
along_next p d = (dir_after (dir_after d), ap (λ e. step (step p e) (dir_after (dir_after d))) (sym (before_after d)) ∙ over_last p (dir_after d))

-- what is true of one direction, and of the next one of each, is true of all
around : (P : Dir → Type 0) → ((d : Dir) → P d → P (dir_after d)) → (e : Dir) → P e → (d : Dir) → P d
around P s e h d = out d (to_east e h)
  where
    to_east : (e : Dir) → P e → P E
    to_east E h = h
    to_east NE h = s SE (s SW (s W (s NW (s NE h))))
    to_east NW h = s SE (s SW (s W (s NW h)))
    to_east W h = s SE (s SW (s W h))
    to_east SW h = s SE (s SW h)
    to_east SE h = s SE h

    out : (d : Dir) → P E → P d
    out E h = h
    out NE h = s E h
    out NW h = s NE (s E h)
    out W h = s NW (s NE (s E h))
    out SW h = s W (s NW (s NE (s E h)))
    out SE h = s SW (s W (s NW (s NE (s E h))))

-- Paths over a set

abbrev pub Joined : (Place → Bool) → Place → Place → Type 0
Joined o p q = (walk : List Place) × IsPath (StepOn o) p walk q

pub path_append : {X : Type 0} (S : X → X → Type 0) (a : X) (ps : List X) (b : X) (qs : List X) (c : X) → IsPath S a ps b → IsPath S b qs c → IsPath S a (ps ++ qs) c
path_append S a [] b qs c h k = subst (λ z. IsPath S z qs c) (sym h) k
path_append S a (p ∷ ps) b qs c h k = (h.0, path_append S p ps b qs c h.1 k)

pub joined_then : (o : Place → Bool) (a b c : Place) → Joined o a b → Joined o b c → Joined o a c
joined_then o a b c x y = (x.0 ++ y.0, path_append (StepOn o) a x.0 b y.0 c x.1 y.1)

joined_step : (o : Place → Bool) (a b : Place) → StepOn o a b → Joined o a b
joined_step o a b s = (b ∷ [], (s, refl))

-- from a place of the set, the way back
pub joined_back : (o : Place → Bool) (a : Place) (ps : List Place) (b : Place) → IsTrue (o a) → IsPath (StepOn o) a ps b → Joined o b a
joined_back o a [] b on h = ([], sym h)
joined_back o a (p ∷ ps) b on h = joined_then o b p a (joined_back o p ps b h.0.1 h.1) (joined_step o p a (neighbour_back a p h.0.0, on))

module _ (o : Place → Bool) (p : Place) (arc : OneArc o p) where
  -- along the arc, from its first place
  from_first : (d : Dir) → IsTrue (o (step p d)) → Joined o (step p arc.first) (step p d)
  from_first = around (λ d. IsTrue (o (step p d)) → Joined o (step p arc.first) (step p d)) next arc.first (λ _. ([], refl))
    where
      next : (d : Dir) → (IsTrue (o (step p d)) → Joined o (step p arc.first) (step p d)) → IsTrue (o (step p (dir_after d))) → Joined o (step p arc.first) (step p (dir_after d))
      next d h on = elim (o (step p d)) as (λ t. o (step p d) ≡ t → Joined o (step p arc.first) (step p (dir_after d))) [
        | true ↦ λ e. joined_then o _ (step p d) _ (h e) (joined_step o _ _ (along_next p d, on))
        | false ↦ λ e.
            let empty : o (step p (dir_before (dir_after d))) ≡ false = ap (λ f. o (step p f)) (before_after d) ∙ e in
            let same = arc.only (dir_after d) on empty in
            ([], ap (step p) (sym same))
      ] refl

  pub along_arc : (a b : Place) → AreNeighbours p a → IsTrue (o a) → AreNeighbours p b → IsTrue (o b) → Joined o a b
  along_arc a b na oa nb ob =
      let there = from_first na.0 (ap o na.1 ∙ oa) in
      let on = from_first nb.0 (ap o nb.1 ∙ ob) in
      let way = joined_then o _ _ _ (joined_back o _ there.0 _ arc.here there.1) on in
      subst (λ z. Joined o z b) na.1 (subst (λ z. Joined o (step p na.0) z) nb.1 way)

  module _ (more : Place → Bool) (was_or_new : (q : Place) → IsTrue (more q) → IsTrue (o q) ⊎ (q ≡ p)) (absent : o p ≡ false) where
    -- a walk that may go through p, from a place of the set or from p itself, then entered from a
    -- place beside it
    rewrite : (a : Place) (ps : List Place) (b : Place) → IsPath (StepOn more) a ps b → IsTrue (o b)
        → (IsTrue (o a) → Joined o a b) × (a ≡ p → (n : Place) → AreNeighbours p n → IsTrue (o n) → Joined o n b)
    rewrite a [] b h ob = (λ _. ([], h), λ is n _ _. let wrong : false ≡ true = sym absent ∙ ap o (sym is ∙ h) ∙ ob in absurd (cc))
    rewrite a (q ∷ ps) b h ob =
        let rest = rewrite q ps b h.1 ob in
        elim (was_or_new q h.0.1) [
          | inl on ↦ (
            λ oa. joined_then o a q b (joined_step o a q (h.0.0, on)) (rest.0 on),
            λ is n beside on_n. joined_then o n q b (along_arc n q beside on_n (subst (λ z. AreNeighbours z q) is h.0.0) on) (rest.0 on),
          )
          | inr new ↦ (
            λ oa. rest.1 new a (subst (λ z. AreNeighbours z a) new (neighbour_back a q h.0.0)) oa,
            λ is n beside on_n. rest.1 new n beside on_n,
          )
        ]

    -- the set is one hive if it is with the place
    pub one_without : OneHiveOn more → ((q : Place) → IsTrue (o q) → IsTrue (more q)) → OneHiveOn o
    one_without one still a b oa ob =
        let w = one a b (still a oa) (still b ob) in
        let r = (rewrite a w.0 b w.1.1 ob).0 oa in
        (r.0, (oa, r.1))

-- A place that comes to the set beside one of its places

module _ (o more : Place → Bool) (p : Place) (was_or_new : (q : Place) → IsTrue (more q) → IsTrue (o q) ⊎ (q ≡ p)) (still : (q : Place) → IsTrue (o q) → IsTrue (more q)) (d : Dir) (here : IsTrue (o (step p d))) where
  path_more : (a : Place) (ps : List Place) (b : Place) → IsPath (StepOn o) a ps b → IsPath (StepOn more) a ps b
  path_more a [] b h = h
  path_more a (q ∷ ps) b h = ((h.0.0, still q h.0.1), path_more q ps b h.1)

  -- leaves one hive
  pub one_with : OneHiveOn o → OneHiveOn more
  one_with one a b ma mb =
      let n = step p d in
      elim (was_or_new a ma) as (λ _. (walk : List Place) × WalkOn more a walk b) [
        | inl oa ↦ elim (was_or_new b mb) as (λ _. (walk : List Place) × WalkOn more a walk b) [
          | inl ob ↦ let w = one a b oa ob in (w.0, (ma, path_more a w.0 b w.1.1))
          | inr new ↦
              let w = one a n oa here in
              let last = joined_step more n b (subst (λ z. AreNeighbours n z) (sym new) (neighbour_back p n (d, refl)), mb) in
              let all = joined_then more a n b (w.0, path_more a w.0 n w.1.1) last in
              (all.0, (ma, all.1))
        ]
        | inr new ↦
            let first = joined_step more a n (subst (λ z. AreNeighbours z n) (sym new) (d, refl), still n here) in
            elim (was_or_new b mb) as (λ _. (walk : List Place) × WalkOn more a walk b) [
              | inl ob ↦
                  let w = one n b here ob in
                  let all = joined_then more a n b first (w.0, path_more n w.0 b w.1.1) in
                  (all.0, (ma, all.1))
              | inr newer ↦ ([], (ma, new ∙ sym newer))
            ]
      ]
