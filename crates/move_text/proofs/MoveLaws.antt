-- What is read is what the text denotes, and each fault holds exactly if no earlier one does.
use Rattle.std.proofs.Common.{◌≡◌, ◌≢◌, ℕ, Bool, true, false, List, [], ◌∷◌, length, Result, Ok, Err, refl, sym, ◌∙◌, ap, subst, ◌⊎◌, inl, inr}
use Rattle.std.specs.Prelude.{Option, Some, None, is_some, IfOk, IfErr, not, if◌then◌else◌}
use Rattle.hive_model.specs.declared.pieces.GameType.{GameType}
use Rattle.hive_model.specs.declared.places.Place.{Place}
use Rattle.hive_model.specs.declared.places.Move.{Move}
use Rattle.hive_model.specs.declared.places.Move.TheVariants.{Pass, To}
use Rattle.hive_model.specs.Pieces.{kind_of, has_kind, all_pieces, OfType}
use Rattle.hive_model.specs.Places.{origin}
use Rattle.hive_model.specs.Boards.{Stacks, IsBoard, is_in_play, without, place_in}
use Rattle.hive_model.proofs.BoardLemmas.{stands_spot_of}
use Rattle.hive_model.proofs.NearLaws.{place_standing}
use Rattle.hive_model.proofs.RuleLaws.{has_any}
use Rattle.hive_model.proofs.PieceLaws.{on_pieces}
use Rattle.hive_model.specs.declared.forms.Mark.{Mark}
use Rattle.hive_model.specs.declared.forms.Form.{Form}
use Rattle.hive_model.specs.declared.forms.Form.TheVariants.{Passes, Alone, Beside}
use Rattle.move_text.specs.declared.faults.MoveFault.{MoveFault}
use Rattle.move_text.specs.declared.faults.MoveFault.TheVariants.{NotAMove, NoSuchPiece, NotInPlay}
use Rattle.move_text.specs.declared.progress.Naming.TheVariants.{Empty}
use Rattle.move_text.specs.declared.progress.Progress.TheVariants.{First}
use Rattle.move_text.specs.Scan.{scan}
use Rattle.hive_model.specs.Denotes.{place_by, Denotes}
use Rattle.move_text.specs.Faults.{mover, Refuses}
use Rattle.move_text.specs.Moves.{is_empty_board, moved_beside, judge, judged, move_of}
use Rattle.move_text.proofs.FormLaws.{form_read, read_form, no_text, text_no}

-- A board is empty if no piece is in play

pub empty_from : (b : Stacks) → IsBoard b → is_empty_board b ≡ true → b ≡ []
empty_from [] is h = refl
empty_from ((p, xs) ∷ es) is h =
    let z = place_standing ((p, xs) ∷ es) is.stacks p (inl refl) in
    let small = is.pieces p 0 z.0 z.1 in
    let there = ap is_some (stands_spot_of ((p, xs) ∷ es) is z.0 p 0 z.1) in
    let any = has_any (is_in_play ((p, xs) ∷ es)) all_pieces z.0 (on_pieces z.0 small) there in
    let wrong : false ≡ true = ap not (sym any) ∙ h in
    absurd (cc)

pub from_empty : (b : Stacks) → b ≡ [] → is_empty_board b ≡ true
from_empty b e = ap is_empty_board e

some_from : (b : Stacks) → is_empty_board b ≡ false → b ≢ []
some_from b h e = let wrong : true ≡ false = sym (from_empty b e) ∙ h in absurd (cc)

-- Forms, judged

record AloneOk (t : GameType) (b : Stacks) (x : ℕ) (m : Move) : Type 0 where
  of_type : OfType t x
  empty : b ≡ []
  goes : m ≡ To x origin

alone_ok : (t : GameType) (b : Stacks) (len x : ℕ) (m : Move) → IsBoard b → judge t b len (Alone x) ≡ Ok m → AloneOk t b x m
alone_ok t b len x m is h = go (has_kind t (kind_of x)) (is_empty_board b) refl refl h
  where
    go : (u v : Bool) → has_kind t (kind_of x) ≡ u → is_empty_board b ≡ v → (if u then (if v then Ok (To x origin) else Err (NotAMove len)) else Err NoSuchPiece) ≡ Ok m → AloneOk t b x m
    go true true e f k = let same : To x origin ≡ m = cc in record { of_type = e; empty = empty_from b is f; goes = sym same }
    go true false e f k = absurd (cc)
    go false true e f k = absurd (cc)
    go false false e f k = absurd (cc)

record BesideOk (t : GameType) (b : Stacks) (x : ℕ) (mark : Mark) (y : ℕ) (m : Move) : Type 0 where
  of_type : OfType t x
  place : Place
  in_play : place_in (without b x) y ≡ Some place
  goes : m ≡ To x (place_by place mark)

beside_ok : (t : GameType) (b : Stacks) (len x : ℕ) (mark : Mark) (y : ℕ) (m : Move) → judge t b len (Beside x mark y) ≡ Ok m → BesideOk t b x mark y m
beside_ok t b len x mark y m h = go (has_kind t (kind_of x)) (place_in (without b x) y) refl refl h
  where
    go : (u : Bool) (o : Option Place) → has_kind t (kind_of x) ≡ u → place_in (without b x) y ≡ o → (if u then moved_beside x mark y o else Err NoSuchPiece) ≡ Ok m → BesideOk t b x mark y m
    go true None e f k = absurd (cc)
    go true (Some p) e f k = let same : To x (place_by p mark) ≡ m = cc in record { of_type = e; place = p; in_play = f; goes = sym same }
    go false o e f k = absurd (cc)

alone_err : (t : GameType) (b : Stacks) (len x : ℕ) (fault : MoveFault) → judge t b len (Alone x) ≡ Err fault
    → ((has_kind t (kind_of x) ≡ false) × (NoSuchPiece ≡ fault)) ⊎ (OfType t x × (b ≢ []) × (NotAMove len ≡ fault))
alone_err t b len x fault h = go (has_kind t (kind_of x)) (is_empty_board b) refl refl h
  where
    go : (u v : Bool) → has_kind t (kind_of x) ≡ u → is_empty_board b ≡ v → (if u then (if v then Ok (To x origin) else Err (NotAMove len)) else Err NoSuchPiece) ≡ Err fault
        → ((has_kind t (kind_of x) ≡ false) × (NoSuchPiece ≡ fault)) ⊎ (OfType t x × (b ≢ []) × (NotAMove len ≡ fault))
    go true true e f k = absurd (cc)
    go true false e f k = let same : NotAMove len ≡ fault = cc in inr (e, some_from b f, same)
    go false true e f k = let same : NoSuchPiece ≡ fault = cc in inl (e, same)
    go false false e f k = let same : NoSuchPiece ≡ fault = cc in inl (e, same)

beside_err : (t : GameType) (b : Stacks) (len x : ℕ) (mark : Mark) (y : ℕ) (fault : MoveFault) → judge t b len (Beside x mark y) ≡ Err fault
    → ((has_kind t (kind_of x) ≡ false) × (NoSuchPiece ≡ fault)) ⊎ (OfType t x × (place_in (without b x) y ≡ None) × (NotInPlay y ≡ fault))
beside_err t b len x mark y fault h = go (has_kind t (kind_of x)) (place_in (without b x) y) refl refl h
  where
    go : (u : Bool) (o : Option Place) → has_kind t (kind_of x) ≡ u → place_in (without b x) y ≡ o → (if u then moved_beside x mark y o else Err NoSuchPiece) ≡ Err fault
        → ((has_kind t (kind_of x) ≡ false) × (NoSuchPiece ≡ fault)) ⊎ (OfType t x × (place_in (without b x) y ≡ None) × (NotInPlay y ≡ fault))
    go true None e f k = let same : NotInPlay y ≡ fault = cc in inr (e, f, same)
    go true (Some p) e f k = absurd (cc)
    go false o e f k = let same : NoSuchPiece ≡ fault = cc in inl (e, same)

-- The laws

pub denotes_of : (t : GameType) (b : Stacks) (text : List ℕ) (m : Move) → IsBoard b → move_of t b text ≡ Ok m → Denotes t b text m
denotes_of t b text m is h = go (scan (First Empty) text 0) refl h
  where
    go : (r : Result Form ℕ) → scan (First Empty) text 0 ≡ r → judged t b (length text) r ≡ Ok m → Denotes t b text m
    go (Err k) e j = absurd (cc)
    go (Ok Passes) e j = let q = form_read text Passes e in let same : Pass ≡ m = cc in inl (q.1, sym same)
    go (Ok (Alone x)) e j =
        let q = form_read text (Alone x) e in
        let ok = alone_ok t b (length text) x m is j in
        inr (inl (record { piece = x; is_piece = q.0; of_type = ok.of_type; text_is = q.1; empty = ok.empty; goes = ok.goes }))
    go (Ok (Beside x mark y)) e j =
        let q = form_read text (Beside x mark y) e in
        let ok = beside_ok t b (length text) x mark y m j in
        inr (inr (record { piece = x; mark = mark; reference = y; place = ok.place; is_piece = q.0.0; is_reference = q.0.1; of_type = ok.of_type; text_is = q.1; in_play = ok.in_play; goes = ok.goes }))

pub of_denotes : (t : GameType) (b : Stacks) (text : List ℕ) (m : Move) → Denotes t b text m → move_of t b text ≡ Ok m
of_denotes t b text m (inl (e, goes)) = ap (judged t b (length text)) (read_form text Passes tt e) ∙ ap (λ m. Ok m) (sym goes)
of_denotes t b text m (inr (inl d)) =
    ap (judged t b (length text)) (read_form text (Alone d.piece) d.is_piece d.text_is)
    ∙ ap (λ c. if c then (if is_empty_board b then Ok (To d.piece origin) else Err (NotAMove (length text))) else Err NoSuchPiece) d.of_type
    ∙ ap (λ c. if c then Ok (To d.piece origin) else Err (NotAMove (length text))) (from_empty b d.empty)
    ∙ ap (λ m. Ok m) (sym d.goes)
of_denotes t b text m (inr (inr d)) =
    ap (judged t b (length text)) (read_form text (Beside d.piece d.mark d.reference) (d.is_piece, d.is_reference) d.text_is)
    ∙ ap (λ c. if c then moved_beside d.piece d.mark d.reference (place_in (without b d.piece) d.reference) else Err NoSuchPiece) d.of_type
    ∙ ap (moved_beside d.piece d.mark d.reference) d.in_play
    ∙ ap (λ m. Ok m) (sym d.goes)

pub refuses_of : (t : GameType) (b : Stacks) (text : List ℕ) (fault : MoveFault) → move_of t b text ≡ Err fault → Refuses t b text fault
refuses_of t b text fault h = go (scan (First Empty) text 0) refl h
  where
    go : (r : Result Form ℕ) → scan (First Empty) text 0 ≡ r → judged t b (length text) r ≡ Err fault → Refuses t b text fault
    go (Err k) e j = let same : NotAMove k ≡ fault = cc in subst (Refuses t b text) same (inl (no_text text k e))
    go (Ok Passes) e j = absurd (cc)
    go (Ok (Alone x)) e j =
        let q = form_read text (Alone x) e in
        elim (alone_err t b (length text) x fault j) [
          | inl r ↦ subst (Refuses t b text) r.1 (record { form = Alone x; piece = x; is = q.0; text_is = q.1; moves = refl; not_of_type = r.0 })
          | inr r ↦ subst (Refuses t b text) r.2 (inr (record { piece = x; is_piece = q.0; of_type = r.0; text_is = q.1; not_empty = r.1 }, refl))
        ]
    go (Ok (Beside x mark y)) e j =
        let q = form_read text (Beside x mark y) e in
        elim (beside_err t b (length text) x mark y fault j) [
          | inl r ↦ subst (Refuses t b text) r.1 (record { form = Beside x mark y; piece = x; is = q.0; text_is = q.1; moves = refl; not_of_type = r.0 })
          | inr r ↦ subst (Refuses t b text) r.2 (record { piece = x; mark = mark; is_piece = q.0.0; is_reference = q.0.1; of_type = r.0; text_is = q.1; not_in_play = r.1 })
        ]

no_piece : (t : GameType) (b : Stacks) (len : ℕ) (f : Form) (x : ℕ) → mover f ≡ Some x → has_kind t (kind_of x) ≡ false → judge t b len f ≡ Err NoSuchPiece
no_piece t b len Passes x moves e = absurd (cc)
no_piece t b len (Alone z) x moves e = let same : z ≡ x = cc in
    ap (λ c. if c then (if is_empty_board b then Ok (To z origin) else Err (NotAMove len)) else Err NoSuchPiece) (ap (λ y. has_kind t (kind_of y)) same ∙ e)
no_piece t b len (Beside z mark y) x moves e = let same : z ≡ x = cc in
    ap (λ c. if c then moved_beside z mark y (place_in (without b z) y) else Err NoSuchPiece) (ap (λ y. has_kind t (kind_of y)) same ∙ e)

from_some : (b : Stacks) → IsBoard b → b ≢ [] → is_empty_board b ≡ false
from_some b is h = go (is_empty_board b) refl
  where
    go : (t : Bool) → is_empty_board b ≡ t → t ≡ false
    go true e = absurd (h (empty_from b is e))
    go false e = refl

pub of_refuses : (t : GameType) (b : Stacks) (text : List ℕ) (fault : MoveFault) → IsBoard b → Refuses t b text fault → move_of t b text ≡ Err fault
of_refuses t b text (NotAMove k) is (inl d) = ap (judged t b (length text)) (text_no text k d)
of_refuses t b text (NotAMove k) is (inr (d, len)) =
    ap (judged t b (length text)) (read_form text (Alone d.piece) d.is_piece d.text_is)
    ∙ ap (λ c. if c then (if is_empty_board b then Ok (To d.piece origin) else Err (NotAMove (length text))) else Err NoSuchPiece) d.of_type
    ∙ ap (λ c. if c then Ok (To d.piece origin) else Err (NotAMove (length text))) (from_some b is d.not_empty)
    ∙ ap (λ n. Err (NotAMove n)) (sym len)
of_refuses t b text NoSuchPiece is d = ap (judged t b (length text)) (read_form text d.form d.is d.text_is) ∙ no_piece t b (length text) d.form d.piece d.moves d.not_of_type
of_refuses t b text (NotInPlay y) is d =
    ap (judged t b (length text)) (read_form text (Beside d.piece d.mark y) (d.is_piece, d.is_reference) d.text_is)
    ∙ ap (λ c. if c then moved_beside d.piece d.mark y (place_in (without b d.piece) y) else Err NoSuchPiece) d.of_type
    ∙ ap (moved_beside d.piece d.mark y) d.not_in_play

-- For the call

pub read_denotes : (t : GameType) (b : Stacks) (text : List ℕ) (r : Result Move MoveFault) → IsBoard b → r ≡ move_of t b text → IfOk r (λ m. Denotes t b text m)
read_denotes t b text (Ok m) is e = denotes_of t b text m is (sym e)
read_denotes t b text (Err fault) is e = tt

pub read_refuses : (t : GameType) (b : Stacks) (text : List ℕ) (r : Result Move MoveFault) → r ≡ move_of t b text → IfErr r (λ fault. Refuses t b text fault)
read_refuses t b text (Ok m) e = tt
read_refuses t b text (Err fault) e = refuses_of t b text fault (sym e)
