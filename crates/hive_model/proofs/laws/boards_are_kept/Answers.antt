use Rattle.std.proofs.Common.{◌≡◌, ◌+◌, false, true, sym, ◌∙◌, refl}
use Rattle.std.specs.Prelude.{Some, None}
use Rattle.std.proofs.lemmas.Bool.{eqb-true}
use Rattle.hive_model.specs.Boards.{spot_of, is_top_spot, height_at, lift, IsBoard}
use Rattle.hive_model.proofs.BoardLemmas.{spot_of_stands, stands_spot_of}
use Rattle.hive_model.proofs.LiftLemmas.{lift_is_board}
use Rattle.hive_model.proofs.KeepLaws.{board_put}
use Rattle.hive_model.proofs.laws.boards_are_kept.Goals as goal

pub returns-clause-put : goal.returns-clause-put
returns-clause-put c = λ b x p is small off within. board_put b x p is small within (λ q i stands. let wrong : None ≡ Some (record { place = q; level = i }) = sym off ∙ stands_spot_of b is x q i stands in cc)

pub returns-clause-lift : goal.returns-clause-lift
returns-clause-lift c = λ b x is top. elim (spot_of b x) as (λ o. spot_of b x ≡ o → is_top_spot b o ≡ true → IsBoard (lift b x)) [
  | None ↦ λ _ k. let wrong : false ≡ true = k in absurd (cc)
  | Some s ↦ λ e k. lift_is_board b is x s.place s.level (spot_of_stands b x s e) (sym (eqb-true (s.level + 1) (height_at b s.place) k))
] refl top
