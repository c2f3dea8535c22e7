use Rattle.std.proofs.Common.{◌≡◌, ◌∙◌, ap, Bool, true, false, ◌||◌}
use Rattle.hand_rules.proofs.colours.touches.Goals as goal

or_two : (s s' t t' : Bool) → s ≡ s' → t ≡ t' → (s || t) ≡ (s' || t')
or_two s s' t t' one two = ap (λ (x : Bool). x || t) one ∙ ap (λ (x : Bool). s' || x) two

or_last : (s s' : Bool) → s ≡ s' → s ≡ (s' || false)
or_last s true one = one
or_last s false one = one

pub returns : goal.returns
returns g c =
    or_two _ _ _ _ c.shows_toward-east.ensures (or_two _ _ _ _ c.shows_toward-north_east.ensures (or_two _ _ _ _ c.shows_toward-north_west.ensures
    (or_two _ _ _ _ c.shows_toward-west.ensures (or_two _ _ _ _ c.shows_toward-south_west.ensures (or_last _ _ c.shows_toward-south_east.ensures)))))
