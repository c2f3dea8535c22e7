-- What the tests of the code establish.
use Rattle.std.proofs.Common.{◌≡◌, Bool, true, false, int_lt, refl, ap, ◌∙◌}
use Rattle.std.specs.Prelude.{Option, Some, None, is_some, IfSome}
use Rattle.hive_model.specs.declared.places.Place.{Place}
use Rattle.hive_model.specs.Positions.{Position}
use Rattle.hive_model.specs.declared.pieces.Kind.TheVariants.{Queen}
use Rattle.hive_model.specs.Pieces.{kind_of}
use Rattle.std.proofs.Common.{◌≢◌, ℕ, arith, ℤ, pos, negsuc, ◌-ℤ◌, ◌<ℤ◌, ◌≤ℤ◌, FitsSigned, to_z, of_z, w32}
use Rattle.std.proofs.lemmas.Int.{ints, by_lt_z, to_z-of_z}
use Rattle.hive_model.specs.declared.pieces.Colour.TheVariants.{White, Black}
use Rattle.hive_model.specs.Legal.{state, state_from, is_over, is_over_state, is_surrounded}
use Rattle.hand_rules.specs.Bringing.{MayBring}
use Rattle.quiet_reply.specs.Quiet.{IsQuiet, HasQuietReply}

pub no_option : {X : Type 0} (o : Option X) → is_some o ≡ false → o ≡ None
no_option None e = refl
no_option (Some x) e = absurd (cc)

pub some_then : {X : Type 0} (P : X → Type 0) (Q : Type 0) (o : Option X) → ((x : X) → P x → Q) → IfSome o P → IfSome o (λ _. Q)
some_then P Q None f h = tt
some_then P Q (Some x) f h = f x h

-- a piece that may be brought, and a quiet place for it
pub reply_of : (p : Position) (x : ℕ) (q : Place) → MayBring p.game_type p.board p.side p.turn x → kind_of x ≢ Queen → IsQuiet p.board p.side q → HasQuietReply p
reply_of p x q may no_queen quiet = record {
  piece = x;
  place = q;
  brought = record { is_piece = may.is_piece; own = may.own; next = may.next; place = quiet.may; no_first_queen = may.no_first_queen; queen_by_fourth = may.queen_by_fourth };
  no_queen = no_queen;
  quiet = quiet;
}

-- Sums of the code

abbrev difference : ℤ → ℤ → ℤ
difference r v = to_z w32 (of_z w32 r) -ℤ to_z w32 (of_z w32 v)

not_less : (a b : ℤ) → int_lt a b ≡ false → b ≤ℤ a
not_less a b same = by_lt_z a b (λ less. less_wrong a b same less) (λ most. most)
  where
    less_wrong : (c d : ℤ) → int_lt c d ≡ false → c <ℤ d → d ≤ℤ c
    less_wrong c d e less = omega (arith, ints)

module _ (r v : ℤ) (n : ℕ) (is : r ≡ pos n) (few : r ≤ℤ pos 10) (fits : FitsSigned w32 v) (some : int_lt (to_z w32 (of_z w32 v)) (negsuc 999999999) ≡ false) where
  low : negsuc 999999999 ≤ℤ to_z w32 (of_z w32 v)
  low = not_less _ _ some

  pub bound-fits : FitsSigned w32 (difference r v)
  bound-fits = let least = low in omega (arith, ints, least, is, few)

  pub bound-is : to_z w32 (of_z w32 (difference r v)) ≡ pos n -ℤ v
  bound-is =
      let least = low in
      let sum : to_z w32 (of_z w32 (difference r v)) ≡ pos n -ℤ to_z w32 (of_z w32 v) = omega (arith, ints, least, is, few) in
      sum ∙ ap (λ z. pos n -ℤ z) (to_z-of_z w32 v fits)

-- If no queen is surrounded, the game goes on

open_state : (w k fresh : Bool) → w ≡ false → k ≡ false → is_over_state (state_from w k fresh) ≡ false
open_state true k fresh white black = absurd (cc)
open_state false true fresh white black = absurd (cc)
open_state false false true white black = refl
open_state false false false white black = refl

pub going_on : (p : Position) → is_surrounded p.board White ≡ false → is_surrounded p.board Black ≡ false → is_over p ≡ false
unfolding state
going_on p white black = open_state _ _ _ white black
