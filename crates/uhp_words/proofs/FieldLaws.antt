-- Times are read exactly.
use Rattle.std.proofs.Common.{◌≡◌, ℕ, ◌+◌, ◌*◌, ◌-◌, ◌/◌, ◌%◌, ◌≤◌, true, List, sym, ◌∙◌, ap, arith}
use Rattle.std.specs.Prelude.{Some, None, ◌&&◌, nat_le, nat_lt, if◌then◌else◌}
use Rattle.std.proofs.lemmas.Bool.{le-leb, lt-ltb}
use Rattle.hive_model.specs.Fields.{IsTimeText}
use Rattle.move_text.specs.Readers.{two_digit_number, budget_of, time_at}

part_again : (most n : ℕ) → most ≤ 99 → n ≤ most → two_digit_number most (48 + n / 10) (48 + n % 10) ≡ Some n
part_again most n small fits =
    let a1 : nat_le 48 (48 + n / 10) ≡ true = le-leb _ _ (omega arith) in
    let a2 : nat_lt (48 + n / 10) 58 ≡ true = lt-ltb _ _ (omega arith) in
    let b1 : nat_le 48 (48 + n % 10) ≡ true = le-leb _ _ (omega arith) in
    let b2 : nat_lt (48 + n % 10) 58 ≡ true = lt-ltb _ _ (omega arith) in
    let value : ((48 + n / 10) - 48) * 10 + ((48 + n % 10) - 48) ≡ n = omega arith in
    let m : nat_le n most ≡ true = le-leb _ _ fits in
    ap (λ v. if (nat_le 48 (48 + n / 10) && nat_lt (48 + n / 10) 58) && ((nat_le 48 (48 + n % 10) && nat_lt (48 + n % 10) 58) && nat_le v most) then Some v else None) value
    ∙ ap (λ t. if (t && nat_lt (48 + n / 10) 58) && ((nat_le 48 (48 + n % 10) && nat_lt (48 + n % 10) 58) && nat_le n most) then Some n else None) a1
    ∙ ap (λ t. if t && ((nat_le 48 (48 + n % 10) && nat_lt (48 + n % 10) 58) && nat_le n most) then Some n else None) a2
    ∙ ap (λ t. if (t && nat_lt (48 + n % 10) 58) && nat_le n most then Some n else None) b1
    ∙ ap (λ t. if t && nat_le n most then Some n else None) b2
    ∙ ap (λ t. if t then Some n else None) m

pub time_again : (text : List ℕ) (n : ℕ) → IsTimeText text n → time_at text ≡ Some n
time_again text n h =
    ap time_at h.text_is
    ∙ (λ i. budget_of (part_again 99 h.hours (omega arith) h.hours_fit i) (part_again 59 h.minutes (omega arith) h.minutes_fit i) (part_again 59 h.seconds (omega arith) h.seconds_fit i))
    ∙ ap (λ m. Some m) (sym h.budget_is)
