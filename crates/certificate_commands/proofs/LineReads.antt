-- What was read of a text when a walk over the lines after its head ends.
use Rattle.std.proofs.Common.{◌≡◌, ℕ, ◌+◌, List, sym, subst}
use Rattle.std.specs.Prelude.{Result}
use Rattle.io_edge.specs.Outside.{Told}
use Rattle.line_feed.specs.Feed.{Reading}
use Rattle.certificate_text.specs.Taken.{HasRead}
use Rattle.certificate_verdicts.specs.declared.verdict.TextVerdict.{TextVerdict}
use Rattle.certificate_verdicts.specs.declared.verdict.Unread.{Unread}
use Rattle.certificate_verdicts.specs.Reading.{WasReadAs}
use Rattle.certificate_verdicts.proofs.TextLaws.{read-begins}

-- The walk begins once the head was read, with no line after it. It takes this number of lines, and
-- the reading is then given back.
pub walk-ends : (P : Told → Type 0) (text : List ℕ) (rest0 rest1 rest2 rest3 : Told) (reader0 reader1 reader2 : Reading) (none taken lines : ℕ) → reader1 ≡ reader0 → rest1 ≡ rest0 → none ≡ 0 → lines ≡ taken
    → rest2 ≡ rest3 → (HasRead text rest1 reader1 (5 + none) → HasRead text rest2 reader2 (5 + taken)) → (HasRead text rest2 reader2 (5 + lines) → P rest2)
    → HasRead text rest0 reader0 5 → P rest3
walk-ends P text rest0 rest1 rest2 rest3 reader0 reader1 reader2 none taken lines same_reader same_rest no_lines counted back walks so r =
    let from = read-begins 5 text rest0 rest1 reader0 reader1 none same_reader same_rest no_lines r in
    let known : HasRead text rest2 reader2 (5 + lines) = subst (λ (n : ℕ). HasRead text rest2 reader2 (5 + n)) (sym counted) (walks from) in
    subst P back (so known)

-- the same if it takes few enough lines for what is judged
pub walk-read : (Few : ℕ → Type 0) (judged : Result TextVerdict Unread) (text : List ℕ) (rest0 rest1 rest2 rest3 : Told) (reader0 reader1 reader2 : Reading) (none taken lines : ℕ) → reader1 ≡ reader0 → rest1 ≡ rest0 → none ≡ 0 → lines ≡ taken
    → rest2 ≡ rest3 → (HasRead text rest1 reader1 (5 + none) → HasRead text rest2 reader2 (5 + taken)) → Few taken → (HasRead text rest2 reader2 (5 + lines) → Few lines → WasReadAs 5 judged text rest2)
    → HasRead text rest0 reader0 5 → WasReadAs 5 judged text rest3
walk-read Few judged text rest0 rest1 rest2 rest3 reader0 reader1 reader2 none taken lines same_reader same_rest no_lines counted back walks few judges r =
    let from = read-begins 5 text rest0 rest1 reader0 reader1 none same_reader same_rest no_lines r in
    let known : HasRead text rest2 reader2 (5 + lines) = subst (λ (n : ℕ). HasRead text rest2 reader2 (5 + n)) (sym counted) (walks from) in
    subst (λ (t : Told). WasReadAs 5 judged text t) back (judges known (subst Few (sym counted) few))
