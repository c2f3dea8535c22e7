-- The written text denotes the move.
use Rattle.std.proofs.Common.{◌≡◌, ℕ, ◌<◌, ◌-◌, List, [], ◌∷◌, refl, sym, ◌∙◌, ap, subst, arith, ◌⊎◌, inl, inr}
use Rattle.std.specs.Prelude.{Option, Some, None, option_map, IsTrue, ℤ}
use Rattle.std.proofs.lemmas.Int.{ints}
use Rattle.std.proofs.lemmas.Bool.{ltb-true}
use Rattle.hive_model.specs.declared.pieces.GameType.{GameType}
use Rattle.hive_model.specs.declared.places.Place.{Place}
use Rattle.hive_model.specs.declared.places.Spot.{Spot}
use Rattle.hive_model.specs.declared.places.Dir.{Dir}
use Rattle.hive_model.specs.declared.places.Dir.TheVariants.{E, NE, NW, W, SW, SE}
use Rattle.hive_model.specs.declared.places.Move.TheVariants.{Pass, To}
use Rattle.hive_model.specs.Lists.{IsOn}
use Rattle.hive_model.specs.Places.{step, origin}
use Rattle.hive_model.specs.Boards.{Stacks, stack_at, height_at, is_occupied, top_at, spot_of, IsBoard, without}
use Rattle.hive_model.proofs.TouchLaws.{Touched}
use Rattle.hive_model.proofs.BoardLemmas.{spot_of_stands, stands_spot_of}
use Rattle.hive_model.proofs.GetLemmas.{get_exists}
use Rattle.hive_model.specs.declared.forms.Stroke.TheVariants.{Dash, Slash, Backslash}
use Rattle.hive_model.specs.declared.forms.Mark.TheVariants.{On, Before, After}
use Rattle.hive_model.specs.declared.forms.Form.TheVariants.{Beside}
use Rattle.hive_model.specs.Texts.{form_text}
use Rattle.hive_model.specs.Denotes.{place_by, Denotes, Candidate, candidates, by_top, first_named, text}
use Rattle.hive_model.specs.Pieces.{OfType}
use Rattle.move_text.proofs.WithoutLaws.{not_there, without_is_board}

-- The reference that is found

record Found (c : Stacks) (x : ℕ) (ps : List Candidate) : Type 0 where
  at : Candidate
  on : IsOn ps at
  piece : ℕ
  top : top_at c at.place ≡ Some piece
  form : first_named c x ps ≡ Beside x at.mark piece

first_found : (c : Stacks) (x : ℕ) (ps : List Candidate) (p : Candidate) (y : ℕ) → IsOn ps p → top_at c p.place ≡ Some y → Found c x ps
first_found c x [] p y on top = absurd on
first_found c x (r ∷ rs) p y on top = go (λ h. first_found c x rs p y h top) (top_at c r.place) refl on
  where
    go : (IsOn rs p → Found c x rs) → (o : Option ℕ) → top_at c r.place ≡ o → (r ≡ p) ⊎ IsOn rs p → Found c x (r ∷ rs)
    go more (Some z) e h = record { at = r; on = inl refl; piece = z; top = e; form = ap (λ o. by_top x r.mark o (first_named c x rs)) e }
    go more None e (inl same) = absurd (let wrong : ◌≡◌ {A = Option ℕ} None (Some y) = sym e ∙ ap (λ (s : Candidate). top_at c s.place) same ∙ top in cc)
    go more None e (inr later) = let f = more later in
        record { at = f.at; on = inr f.on; piece = f.piece; top = f.top; form = ap (λ o. by_top x r.mark o (first_named c x rs)) e ∙ f.form }

same_ints : (q r q2 r2 : ℤ) → q ≡ q2 → r ≡ r2 → ◌≡◌ {A = Place} (record { q = q; r = r }) (record { q = q2; r = r2 })
same_ints q r q2 r2 e f = λ i. record { q = e i; r = f i }

leads : (q : Place) (p : Candidate) → IsOn (candidates q) p → place_by p.place p.mark ≡ q
leads q p (inl e) = ap (λ (s : Candidate). place_by s.place s.mark) (sym e)
leads q p (inr (inl e)) = ap (λ (s : Candidate). place_by s.place s.mark) (sym e) ∙ same_ints _ _ q.q q.r (omega (arith, ints)) (omega (arith, ints))
leads q p (inr (inr (inl e))) = ap (λ (s : Candidate). place_by s.place s.mark) (sym e) ∙ same_ints _ _ q.q q.r (omega (arith, ints)) (omega (arith, ints))
leads q p (inr (inr (inr (inl e)))) = ap (λ (s : Candidate). place_by s.place s.mark) (sym e) ∙ same_ints _ _ q.q q.r (omega (arith, ints)) (omega (arith, ints))
leads q p (inr (inr (inr (inr (inl e))))) = ap (λ (s : Candidate). place_by s.place s.mark) (sym e) ∙ same_ints _ _ q.q q.r (omega (arith, ints)) (omega (arith, ints))
leads q p (inr (inr (inr (inr (inr (inl e)))))) = ap (λ (s : Candidate). place_by s.place s.mark) (sym e) ∙ same_ints _ _ q.q q.r (omega (arith, ints)) (omega (arith, ints))
leads q p (inr (inr (inr (inr (inr (inr (inl e))))))) = ap (λ (s : Candidate). place_by s.place s.mark) (sym e) ∙ same_ints _ _ q.q q.r (omega (arith, ints)) (omega (arith, ints))
leads q p (inr (inr (inr (inr (inr (inr (inr wrong))))))) = absurd wrong

left_is_board : (b : Stacks) → IsBoard b → (x : ℕ) → IsBoard (without b x)
left_is_board b is x = elim (spot_of b x) as (λ o. spot_of b x ≡ o → IsBoard (without b x)) [
  | None ↦ λ e. subst IsBoard (sym (not_there b x e)) is
  | Some s ↦ λ e. without_is_board b is x s.place s.level (spot_of_stands b x s e)
] refl

beside_denotes : (t : GameType) (b : Stacks) → IsBoard b → (x : ℕ) (q : Place) → x < 28 → OfType t x → Found (without b x) x (candidates q) → Denotes t b (text b (To x q)) (To x q)
beside_denotes t b is x q small of_type f =
    let c = left_is_board b is x in
    let stands = stands_spot_of (without b x) c f.piece f.at.place (height_at (without b x) f.at.place - 1) f.top in
    inr (inr (record {
      piece = x;
      mark = f.at.mark;
      reference = f.piece;
      place = f.at.place;
      is_piece = small;
      is_reference = c.pieces f.at.place (height_at (without b x) f.at.place - 1) f.piece f.top;
      of_type = of_type;
      text_is = ap form_text f.form;
      in_play = ap (option_map (λ (s : Spot). s.place)) stands;
      goes = ap (To x) (sym (leads q f.at f.on));
    }))

top_of : (c : Stacks) (q : Place) → IsTrue (is_occupied c q) → (y : ℕ) × (top_at c q ≡ Some y)
top_of c q h = let some = ltb-true 0 (height_at c q) h in get_exists (stack_at c q) (height_at c q - 1) (omega (arith, some))

found_at : (c : Stacks) (x : ℕ) (q : Place) (p : Candidate) → IsOn (candidates q) p → IsTrue (is_occupied c p.place) → Found c x (candidates q)
found_at c x q p on h = let top = top_of c p.place h in first_found c x (candidates q) p top.0 on top.1

found_there : (c : Stacks) (x : ℕ) (q : Place) (d : Dir) → IsTrue (is_occupied c (step q d)) → Found c x (candidates q)
found_there c x q W h = found_at c x q (record { mark = After Dash; place = step q W }) (inr (inl refl)) h
found_there c x q E h = found_at c x q (record { mark = Before Dash; place = step q E }) (inr (inr (inl refl))) h
found_there c x q SW h = found_at c x q (record { mark = After Slash; place = step q SW }) (inr (inr (inr (inl refl)))) h
found_there c x q NE h = found_at c x q (record { mark = Before Slash; place = step q NE }) (inr (inr (inr (inr (inl refl))))) h
found_there c x q NW h = found_at c x q (record { mark = After Backslash; place = step q NW }) (inr (inr (inr (inr (inr (inl refl)))))) h
found_there c x q SE h = found_at c x q (record { mark = Before Backslash; place = step q SE }) (inr (inr (inr (inr (inr (inr (inl refl))))))) h

pub text_denotes : (t : GameType) (b : Stacks) → IsBoard b → (x : ℕ) (q : Place) → x < 28 → OfType t x → Touched (without b x) q → Denotes t b (text b (To x q)) (To x q)
text_denotes t b is x q small of_type (inl h) = beside_denotes t b is x q small of_type (found_at (without b x) x q (record { mark = On; place = q }) (inl refl) h)
text_denotes t b is x q small of_type (inr (d, h)) = beside_denotes t b is x q small of_type (found_there (without b x) x q d h)

pub first_denotes : (t : GameType) (x : ℕ) → x < 28 → OfType t x → Denotes t [] (text [] (To x origin)) (To x origin)
first_denotes t x small of_type = inr (inl (record { piece = x; is_piece = small; of_type = of_type; text_is = refl; empty = refl; goes = refl }))

pub pass_denotes : (t : GameType) (b : Stacks) → Denotes t b (text b Pass) Pass
pass_denotes t b = inl (refl, refl)
