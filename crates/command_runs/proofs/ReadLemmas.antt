-- What was read of the input, and the lines that it gave.
use Rattle.std.proofs.Common.{arith, ◌≡◌, ◌≤◌, ℕ, Bool, true, false, List, [], ◌∷◌, ◌++◌, refl, ap, sym, ◌∙◌, None, Some, subst}
use Rattle.io_edge.specs.Outside.{Told, in_front, IsAtEnd}
use Rattle.io_edge.proofs.Told.{in_front-nil}
use Rattle.io_edge.specs.Lines.{Line, lines}
use Rattle.line_feed.specs.Feed.{Reading, Ends, HoldsLittle, Takes, pending, input_limit, fresh}
use Rattle.line_feed.specs.SoFar.{Covers, Fed, WasRead}
use Rattle.line_feed.proofs.FedLemmas.{fed_end, fed_prefix}
use Rattle.line_feed.proofs.AheadLemmas.{lines-nil}
use Rattle.std.proofs.lemmas.List.{append-nil}
use Rattle.std.proofs.lemmas.Option.{same_Some}
use Rattle.command_runs.specs.Input.{IsAllRead, WereRead}

-- the input is the bytes read and those that are left
was_read : (rest old : Told) (bytes input : List ℕ) → old ≡ in_front bytes rest → old ≡ Some input → (left : List ℕ) × WasRead input rest bytes left
was_read None old bytes input e f = cc
was_read (Some left) old bytes input e f = (left, record { split = same_Some _ _ (sym f ∙ e); told = refl })

-- of the bytes read the lines given are the first, and the others are those of what is held
held_of : (finished : Bool) (bytes held : List ℕ) (given : List Line) (rest : Told) → Covers finished bytes held given rest → lines bytes ≡ given ++ lines held
held_of true bytes held given rest (all, none, at_end) = all ∙ (sym (append-nil given) ∙ ap (λ h. given ++ h) (sym lines-nil ∙ ap lines (sym none)))
held_of false bytes held given rest s = ap lines (sym (append-nil bytes)) ∙ (s.all [] ∙ ap (λ h. given ++ lines h) (append-nil held))

-- the lines given are lines that were read
pub given_were_read : {r0 rest : Told} {reading : Reading} {bytes : List ℕ} {given : List Line} (input : List ℕ) → Fed r0 rest reading bytes given → r0 ≡ Some input → reading.taken ≤ input_limit → HoldsLittle reading
    → WereRead input rest given
given_were_read {r0} {rest} {reading} {bytes} {given} input f e within little =
    let (left, read) = was_read rest r0 bytes input f.left e in
    let (others, p) = fed_prefix input f e in (
      bytes,
      left,
      reading,
      others,
      record {
        was_read = read;
        within = subst (λ n. n ≤ input_limit) f.counted within;
        of_bytes = held_of reading.finished bytes (pending reading) given rest f.covers;
        little = little;
        of_input = p;
      },
    )

-- a reader that has taken nothing holds little
pub fresh_holds_little : HoldsLittle fresh
fresh_holds_little = record { no_lf = tt; front = omega arith; ahead = omega arith }

-- before the first read no line was read
pub none_were_read : (input : List ℕ) (rest : Told) → rest ≡ Some input → WereRead input rest []
none_were_read input rest e = (
  [],
  input,
  fresh,
  lines input,
  record {
    was_read = record { split = refl; told = e };
    within = omega arith;
    of_bytes = refl;
    little = fresh_holds_little;
    of_input = refl;
  },
)

at_end_is : (rest : Told) (left : List ℕ) → IsAtEnd rest → rest ≡ Some left → rest ≡ Some []
at_end_is None left h e = absurd (cc)
at_end_is (Some x) left h e = ap Some h

told_after : (rest old : Told) (bytes input : List ℕ) → old ≡ in_front bytes rest → old ≡ Some input → (left : List ℕ) × (rest ≡ Some left)
told_after rest old bytes input e f = let (left, r) = was_read rest old bytes input e f in (left, r.told)

no_bytes : (xs ys : List ℕ) → xs ++ ys ≡ [] → ys ≡ []
no_bytes [] ys e = e
no_bytes (x ∷ xs) ys e = cc

end_of : (finished : Bool) (bytes held : List ℕ) (given : List Line) (r1 r2 : Told) → Covers finished bytes held given r1 → r1 ≡ r2 → (finished ≡ false → IsAtEnd r2) → IsAtEnd r2
end_of true bytes held given r1 r2 (all, none, at_end) same go = subst IsAtEnd same at_end
end_of false bytes held given r1 r2 s same go = go refl

-- if the source has ended, nothing of the input is left
pub all_is_read : {r0 r1 r2 : Told} {old new : Reading} {bytes b1 : List ℕ} {given : List Line} (input : List ℕ) → Fed r0 r1 old bytes given → Takes r1 r2 old.taken new.taken b1 → Ends old b1 new r2 → r0 ≡ Some input → IsAllRead input r2
all_is_read {r0} {r1} {r2} {old} {new} {bytes} {b1} {given} input f t d e =
    let (left1, told1) = told_after r1 r0 bytes input f.left e in
    let (left2, told2) = told_after r2 r1 b1 left1 t.left told1 in
    let same : r1 ≡ r2 = t.left ∙ (ap (λ b. in_front b r2) (no_bytes (pending old) b1 d.nothing) ∙ sym (in_front-nil r2)) in
    let at_end : IsAtEnd r2 = end_of old.finished bytes (pending old) given r1 r2 f.covers same d.at_end in
    record { at_end = at_end_is r2 left2 at_end told2; below = (fed_end input f t d e).1 }
