-- Where a piece goes by its kind's rule.
use Rattle.std.proofs.Common.{◌≡◌, ◌≢◌, ◌↔◌, ℕ, ◌+◌, ◌-◌, ◌<◌, Bool, true, false, not, List, ◌⊎◌, inl, inr, refl, sym, ◌∙◌, subst, arith, rules}
use Rattle.std.specs.Prelude.{Option, Some, None, IsTrue}
use Rattle.std.proofs.lemmas.Bool.{not-true, not_from_false, false_from_ne_true}
use Rattle.hive_model.specs.declared.pieces.Kind.{Kind}
use Rattle.hive_model.specs.declared.pieces.Kind.TheVariants.{Queen, Spider, Beetle, Grasshopper, Ant, Mosquito, Ladybug, Pillbug}
use Rattle.hive_model.specs.declared.places.Place.{Place}
use Rattle.hive_model.specs.declared.places.Spot.{Spot}
use Rattle.hive_model.specs.PlaceLists.{AreAll}
use Rattle.hive_model.specs.Pieces.{kind_of, colour_of}
use Rattle.hive_model.specs.Places.{IsOnTheMap}
use Rattle.hive_model.specs.Boards.{Stacks, IsBoard, stack_at, height_at, is_occupied, is_on_top, is_top_spot, spot_of, lift}
use Rattle.hive_model.specs.Hive.{IsCut}
use Rattle.hive_model.specs.Reach.{Reach, Copies, MovesAs}
use Rattle.hive_model.specs.Evaluation.{IsFreePiece}
use Rattle.hive_model.specs.Legal.{Walk}
use Rattle.hive_model.specs.Positions.{Position}
use Rattle.hive_model.proofs.GetLemmas.{get_within}
use Rattle.hive_model.proofs.BoardLemmas.{spot_of_stands, spot_within, stands_occupied}
use Rattle.hive_model.proofs.PlaceListLaws.{all_same}
use Rattle.bug_moves.specs.Counts.{AreMany}
use Rattle.legal_moves.specs.Going.{Goes}

pub same_spot : (o : Option Spot) (s t : Spot) → o ≡ Some s → o ≡ Some t → s ≡ t
same_spot o s t one two = let e : Some s ≡ Some t = sym one ∙ two in cc

pub no_spot : (o : Option Spot) (s : Spot) → o ≡ None → o ≡ Some s → {P : Type 0} → P
no_spot o s none some = let wrong : None ≡ Some s = sym none ∙ some in absurd (cc)

pub level_low : (b : Stacks) (x : ℕ) (s : Spot) → spot_of b x ≡ Some s → s.level < height_at b s.place
level_low b x s e = get_within (stack_at b s.place) s.level x (spot_of_stands b x s e)

pub stands_there : (b : Stacks) (x : ℕ) (s : Spot) → spot_of b x ≡ Some s → IsTrue (is_occupied b s.place)
stands_there b x s e = stands_occupied b x s.place s.level (spot_of_stands b x s e)

-- a piece that is on top stands somewhere
pub top_stands : (b : Stacks) (x : ℕ) (o : Option Spot) → o ≡ spot_of b x → IsTrue (is_on_top b x) → ((s : Spot) → o ≢ Some s) → {P : Type 0} → P
top_stands b x None e top none = let wrong : false ≡ true = subst (λ p. IsTrue (is_top_spot b p)) (sym e) top in absurd (cc)
top_stands b x (Some s) e top none = absurd (none s refl)

-- and where it stands the plane goes on
pub spot_mapped : (b : Stacks) (x : ℕ) (s : Spot) → IsBoard b → spot_of b x ≡ Some s → IsOnTheMap s.place
spot_mapped b x s is e = let near = spot_within b is x s e in search rules

-- Who may walk

module _ (b : Stacks) (rest : Option ℕ) (x : ℕ) where
  pub none_walks : spot_of b x ≡ None → ¬ IsFreePiece b rest x
  none_walks none h = no_spot (spot_of b x) h.spot none h.stands

  module _ (s : Spot) (stands : spot_of b x ≡ Some s) where
    walk_top : IsFreePiece b rest x → height_at b s.place - s.level ≡ 1
    walk_top h =
        let same = same_spot (spot_of b x) h.spot s h.stands stands in
        let top : s.level + 1 ≡ height_at b s.place = subst (λ (t : Spot). t.level + 1 ≡ height_at b t.place) same h.on_top in
        omega (arith, top)

    pub not_walks : (rest ≡ Some x) ⊎ (height_at b s.place - s.level ≢ 1) → ¬ IsFreePiece b rest x
    not_walks why h = elim why [ inl asleep ↦ h.awake asleep | inr covered ↦ covered (walk_top h) ]

    pub walks_unless : (cut : Bool) → rest ≢ Some x → height_at b s.place - s.level ≡ 1 → (IsTrue cut → IsCut b s.place) × (IsCut b s.place → IsTrue cut) → IsTrue (not cut) ↔ IsFreePiece b rest x
    walks_unless cut awake top is = (
      λ e. record {
        spot = s;
        stands = stands;
        on_top = (let low = level_low b x s stands in omega (arith, top, low));
        awake = awake;
        not_cut = λ h. let wrong : true ≡ false = sym (is.1 h) ∙ not-true _ e in cc;
      },
      λ h.
          let same = same_spot (spot_of b x) h.spot s h.stands stands in
          not_from_false _ (false_from_ne_true _ (λ e. subst (λ (t : Spot). ¬ IsCut b t.place) same h.not_cut (is.0 e))),
    )

-- How it goes

pub as_mosquito : (k : Kind) (b : Stacks) (p q : Place) → k ≡ Mosquito → MovesAs k b p q ↔ Copies b p q
as_mosquito k b p q e = subst (λ j. MovesAs j b p q ↔ Copies b p q) (sym e) (λ h. h, λ h. h)

pub as_itself : (k : Kind) (b : Stacks) (p q : Place) → k ≢ Mosquito → MovesAs k b p q ↔ Reach k b p q
as_itself Queen b p q h = (λ r. r, λ r. r)
as_itself Spider b p q h = (λ r. r, λ r. r)
as_itself Beetle b p q h = (λ r. r, λ r. r)
as_itself Grasshopper b p q h = (λ r. r, λ r. r)
as_itself Ant b p q h = (λ r. r, λ r. r)
as_itself Mosquito b p q h = absurd (h refl)
as_itself Ladybug b p q h = (λ r. r, λ r. r)
as_itself Pillbug b p q h = (λ r. r, λ r. r)

module _ (b c : Stacks) (x : ℕ) (s : Spot) (stands : spot_of b x ≡ Some s) (lifted : c ≡ lift b x) (ys : List Place) where
  goes_as : AreAll (MovesAs (kind_of x) c s.place) ys → AreAll (Goes b x) ys
  goes_as = all_same (MovesAs (kind_of x) c s.place) (Goes b x) ys (λ q. (
    λ moves. (s, stands, subst (λ d. MovesAs (kind_of x) d s.place q) lifted moves),
    λ h.
        let same = same_spot (spot_of b x) h.0 s h.1 stands in
        subst (λ (t : Spot). MovesAs (kind_of x) c t.place q) same (subst (λ d. MovesAs (kind_of x) d h.0.place q) (sym lifted) h.2),
  ))

  pub goes_mosquito : kind_of x ≡ Mosquito → AreAll (Copies c s.place) ys → AreAll (Goes b x) ys
  goes_mosquito e h = goes_as (all_same (Copies c s.place) (MovesAs (kind_of x) c s.place) ys
      (λ q. let law = as_mosquito (kind_of x) c s.place q e in (law.1, law.0)) h)

  pub goes_itself : (k : Kind) → k ≡ kind_of x → k ≢ Mosquito → AreAll (Reach k c s.place) ys → AreAll (Goes b x) ys
  goes_itself k e other h = goes_as (subst (λ j. AreAll (MovesAs j c s.place) ys) e
      (all_same (Reach k c s.place) (MovesAs k c s.place) ys (λ q. let law = as_itself k c s.place q other in (law.1, law.0)) h))

-- one place
module _ (b c : Stacks) (x : ℕ) (s : Spot) (stands : spot_of b x ≡ Some s) (lifted : c ≡ lift b x) (q : Place) where
  goes_one : MovesAs (kind_of x) c s.place q ↔ Goes b x q
  goes_one = (
    λ moves. (s, stands, subst (λ d. MovesAs (kind_of x) d s.place q) lifted moves),
    λ h.
        let same = same_spot (spot_of b x) h.0 s h.1 stands in
        subst (λ (t : Spot). MovesAs (kind_of x) c t.place q) same (subst (λ d. MovesAs (kind_of x) d h.0.place q) (sym lifted) h.2),
  )

  pub mosquito_goes : kind_of x ≡ Mosquito → (answer : Bool) → IsTrue answer ↔ Copies c s.place q → IsTrue answer ↔ Goes b x q
  mosquito_goes e answer h = let law = as_mosquito (kind_of x) c s.place q e in ((λ w. goes_one.0 (law.1 (h.0 w))), (λ r. h.1 (law.0 (goes_one.1 r))))

  pub itself_goes : (k : Kind) → k ≡ kind_of x → k ≢ Mosquito → (answer : Bool) → IsTrue answer ↔ Reach k c s.place q → IsTrue answer ↔ Goes b x q
  itself_goes k e other answer h =
      let law = as_itself k c s.place q other in
      let moves = subst (λ j. MovesAs j c s.place q ↔ Goes b x q) (sym e) goes_one in
      ((λ w. moves.0 (law.1 (h.0 w))), (λ r. h.1 (law.0 (moves.1 r))))

-- so many places are as many
module _ (b c : Stacks) (x : ℕ) (s : Spot) (stands : spot_of b x ≡ Some s) (lifted : c ≡ lift b x) (n : ℕ) where
  pub mosquito_many : kind_of x ≡ Mosquito → AreMany (Copies c s.place) n → AreMany (Goes b x) n
  mosquito_many e h = record { places = h.places; all = goes_mosquito b c x s stands lifted h.places e h.all; few = h.few; many = h.many }

  pub itself_many : (k : Kind) → k ≡ kind_of x → k ≢ Mosquito → AreMany (Reach k c s.place) n → AreMany (Goes b x) n
  itself_many k e other h = record { places = h.places; all = goes_itself b c x s stands lifted h.places k e other h.all; few = h.few; many = h.many }

-- Walks

module _ (p : Position) (x : ℕ) (q : Place) where
  pub walk_goes : Walk p x q → Goes p.board x q
  walk_goes h = (h.from, h.stands, h.moves)

  pub walk_may : Walk p x q → IsFreePiece p.board p.rest x
  walk_may h = record { spot = h.from; stands = h.stands; on_top = h.on_top; awake = h.awake; not_cut = h.not_cut }

  pub goes_walk : colour_of x ≡ p.side → IsFreePiece p.board p.rest x → Goes p.board x q → Walk p x q
  goes_walk own may h =
      let same = same_spot (spot_of p.board x) h.0 may.spot h.1 may.stands in
      record {
        from = may.spot;
        own = own;
        stands = may.stands;
        on_top = may.on_top;
        awake = may.awake;
        not_cut = may.not_cut;
        moves = subst (λ (t : Spot). MovesAs (kind_of x) (lift p.board x) t.place q) same h.2;
      }

-- a piece moves to another place
copies_apart : (b : Stacks) (p q : Place) → Copies b p q → p ≢ q
copies_apart b p q h = elim h [ inl stack ↦ stack.1.0 | inr ground ↦ ground.1.reach.0 ]

pub moves_apart : (k : Kind) (b : Stacks) (p q : Place) → MovesAs k b p q → p ≢ q
moves_apart Queen b p q h = h.0
moves_apart Spider b p q h = h.0
moves_apart Beetle b p q h = h.0
moves_apart Grasshopper b p q h = h.0
moves_apart Ant b p q h = h.0
moves_apart Mosquito b p q h = copies_apart b p q h
moves_apart Ladybug b p q h = h.0
moves_apart Pillbug b p q h = h.0
