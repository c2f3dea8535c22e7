-- What is known of the replies to placements once one of them was counted, over plain values.
use Rattle.std.proofs.Common.{◌≡◌, ℕ, List, ◌⊎◌, inl, inr, length, sym, ◌∙◌, ap, subst, refl, [], None, Some}
use Rattle.std.specs.List.{slice_get}
use Rattle.hive_model.specs.declared.places.Place.{Place}
use Rattle.hive_model.specs.declared.places.Move.{Move}
use Rattle.hive_model.specs.declared.places.Move.TheVariants.{To}
use Rattle.hive_model.specs.Boards.{IsBoard}
use Rattle.hive_model.specs.Games.{after}
use Rattle.hive_model.specs.Legal.{moves}
use Rattle.hive_model.specs.Lists.{IsOn}
use Rattle.hive_model.specs.Positions.{Position}
use Rattle.plain_search.specs.declared.replies.Counted.{Counted}
use Rattle.plain_search.specs.Replies.{IsPlainPlacement, HasReplies, AreCounted}
use Rattle.hive_model.specs.Minimax.{lines}
use Rattle.hive_model.specs.Histories.{History, position}
use Rattle.plain_search.proofs.CountSteps.{count-one}
use Rattle.plain_search.proofs.PlacedLaws.{same_replies}

-- what was counted for one piece holds for each
pub placed-once : (p : Position) → IsBoard p.board → (x : ℕ) (q : Place) (n : ℕ) → IsOn (moves p) (To x q) → IsPlainPlacement p x q → n ≡ length (moves (after p (To x q))) →
    HasReplies p q n
placed-once p is x q n on plain counted = λ y also other. ap length (same_replies p is y x q also on other plain) ∙ sym counted

pub counted-none : (p : Position) (es : List Counted) → es ≡ [] → AreCounted p es
counted-none p es none i e at = let wrong : None ≡ Some e = ap (λ fs. slice_get fs i) (sym none) ∙ at in absurd (cc)

-- one entry more
pub counted-more : (p : Position) (old new : List Counted) (q : Place) (n : ℕ) → AreCounted p old → HasReplies p q n →
    ((i : ℕ) (e : Counted) → slice_get new i ≡ Some e → (slice_get old i ≡ Some e) ⊎ (e ≡ record { place = q; replies = n })) → AreCounted p new
counted-more p old new q n known one more i e at = elim (more i e at) [
  | inl here ↦ known i e here
  | inr last ↦ subst (λ (f : Counted). HasReplies p f.place f.replies) (sym last) one
]

-- from the game now to the game at the start

pub counted-now : (start now : History) (es : List Counted) → now ≡ start → AreCounted (position now) es → AreCounted (position start) es
counted-now start now es same known = subst (λ (h : History). AreCounted (position h) es) same known

pub replies-now : (start now : History) (m : Move) (n : ℕ) → now ≡ start → n ≡ length (moves (after (position now) m)) → n ≡ lines (after (position start) m) 1
replies-now start now m n same is = count-one (after (position start) m) 1 n refl (is ∙ ap (λ (h : History). length (moves (after (position h) m))) same)
