-- Nothing is wrong with a reply exactly if it is right.
use Rattle.std.proofs.Common.{◌≡◌, ℕ, Bool, true, false, List, [], ◌∷◌, ◌++◌, None, Some, Ok, Err, refl, sym, ◌∙◌, ap, subst, inl, inr}
use Rattle.std.specs.Prelude.{◌&&◌, not, if◌then◌else◌}
use Rattle.std.specs.declared.option.Option.{Option}
use Rattle.std.specs.declared.result.Result.{Result}
use Rattle.std.specs.Str.{bytes_eq}
use Rattle.std.specs.Result.{IfOk}
use Rattle.hive_model.specs.declared.pieces.GameType.{GameType}
use Rattle.hive_model.specs.declared.places.Move.{Move}
use Rattle.hive_model.specs.Lists.{IsOn}
use Rattle.hive_model.specs.Boards.{Stacks}
use Rattle.hive_model.specs.Positions.{Position}
use Rattle.hive_model.specs.Legal.{moves}
use Rattle.hive_model.specs.Histories.{is_move}
use Rattle.hive_model.specs.Denotes.{text}
use Rattle.hive_model.specs.Fields.{type_bytes}
use Rattle.hive_model.specs.Strings.{parts}
use Rattle.hive_model.proofs.ListedLaws.{is_move_same, is_move_itself}
use Rattle.hive_model.proofs.RuleLaws.{any_has, has_any}
use Rattle.move_text.specs.declared.faults.MoveFault.{MoveFault}
use Rattle.move_text.specs.Moves.{move_of}
use Rattle.game_text.specs.Reading.{game_of}
use Rattle.audit_core.specs.declared.findings.Fault.TheVariants.{Missing, Extra, Twice, NotTheGame, Accepted}
use Rattle.audit_core.specs.declared.findings.Finding.{Finding}
use Rattle.audit_core.specs.declared.findings.Judged.{Judged}
use Rattle.audit_core.specs.declared.findings.Judged.TheVariants.{Wrong, Next}
use Rattle.audit_core.specs.Judging.{finding, has_move, first_missing, part_of, on_part, wrong_in, is_game, ListsNext, ListsRest}
use Rattle.audit_core.specs.Laws.{RepliesAreJudged}
use Rattle.audit_core.specs.Texts.{answered_text, is_refusal}

pub has_on : (ms : List Move) (m : Move) → has_move ms m ≡ true → IsOn ms m
has_on ms m h = let r = any_has (is_move m) ms h in subst (IsOn ms) (is_move_same m r.0 r.2) r.1

pub on_has : (ms : List Move) (m : Move) → IsOn ms m → has_move ms m ≡ true
on_has ms m on = has_any (is_move m) ms m on (is_move_itself m)

-- Missing moves

missing_at : (b : Stacks) (listed xs : List Move) (x : Move) (h : Bool) → has_move listed x ≡ h → ((m : Move) → first_missing b listed xs ≡ None → IsOn xs m → IsOn listed m)
    → (if h then first_missing b listed xs else Some (finding Missing (text b x))) ≡ None → (m : Move) → IsOn (x ∷ xs) m → IsOn listed m
missing_at b listed xs x false k next e m on = absurd (cc)
missing_at b listed xs x true k next e m (inl same) = subst (IsOn listed) same (has_on listed x k)
missing_at b listed xs x true k next e m (inr later) = next m e later

all_there : (b : Stacks) (listed legal : List Move) (m : Move) → first_missing b listed legal ≡ None → IsOn legal m → IsOn listed m
all_there b listed [] m e on = absurd on
all_there b listed (x ∷ xs) m e on = missing_at b listed xs x (has_move listed x) refl (all_there b listed xs) e m on

none_missing : (b : Stacks) (listed legal : List Move) → ((m : Move) → IsOn legal m → IsOn listed m) → first_missing b listed legal ≡ None
none_missing b listed [] all = refl
none_missing b listed (x ∷ xs) all =
    ap (λ h. if h then first_missing b listed xs else Some (finding Missing (text b x))) (on_has listed x (all x (inl refl)))
    ∙ none_missing b listed xs (λ m on. all m (inr on))

-- The parts

twice_at : (part : List ℕ) (h : Bool) (m : Move) (rest : Move → Option Finding) → on_part (if h then Wrong (finding Twice part) else Next m) rest ≡ None → (h ≡ false) × (rest m ≡ None)
twice_at part true m rest e = absurd (cc)
twice_at part false m rest e = (refl, e)

legal_at : (part : List ℕ) (h : Bool) (inner : Judged) (rest : Move → Option Finding) → on_part (if h then inner else Wrong (finding Extra part)) rest ≡ None → (h ≡ true) × (on_part inner rest ≡ None)
legal_at part true inner rest e = (refl, e)
legal_at part false inner rest e = absurd (cc)

clash : (b : Bool) → b ≡ true → b ≡ false → ⊥
clash true e f = cc
clash false e f = cc

part_none : (t : GameType) (p : Position) (listed : List Move) (part : List ℕ) (read : Result Move MoveFault) (rest : Move → Option Finding) → move_of t p.board part ≡ read
    → on_part (part_of (moves p) listed part read) rest ≡ None → (m : Move) × ListsNext t p listed part m × (rest m ≡ None)
part_none t p listed part (Err f) rest k e = absurd (cc)
part_none t p listed part (Ok m) rest k e =
    let a = legal_at part (has_move (moves p) m) (if has_move listed m then Wrong (finding Twice part) else Next m) rest e in
    let b = twice_at part (has_move listed m) m rest a.1 in
    (m, record { reads = k; legal = has_on (moves p) m a.0; first = λ on. clash (has_move listed m) (on_has listed m on) b.0 }, b.1)

rest_right : (t : GameType) (p : Position) (listed : List Move) (ps : List (List ℕ)) → wrong_in t p.board (moves p) listed ps ≡ None → ListsRest t p listed ps
unfolding wrong_in
rest_right t p listed [] e = λ m on. all_there p.board listed (moves p) m e on
rest_right t p listed (part ∷ others) e =
    let a = part_none t p listed part (move_of t p.board part) (λ m. wrong_in t p.board (moves p) (listed ++ m ∷ []) others) refl e in
    (a.0, a.1, rest_right t p (listed ++ a.0 ∷ []) others a.2)

not_on : (listed : List Move) (m : Move) (h : Bool) → has_move listed m ≡ h → (IsOn listed m → ⊥) → h ≡ false
not_on listed m true k f = absurd (f (has_on listed m k))
not_on listed m false k f = refl

right_rest : (t : GameType) (p : Position) (listed : List Move) (ps : List (List ℕ)) → ListsRest t p listed ps → wrong_in t p.board (moves p) listed ps ≡ None
unfolding wrong_in
right_rest t p listed [] all = none_missing p.board listed (moves p) all
right_rest t p listed (part ∷ others) (m, next, more) =
    let rest : Move → Option Finding = λ m. wrong_in t p.board (moves p) (listed ++ m ∷ []) others in
    ap (λ r. on_part (part_of (moves p) listed part r) rest) next.reads
    ∙ (ap (λ h. on_part (if h then (if has_move listed m then Wrong (finding Twice part) else Next m) else Wrong (finding Extra part)) rest) (on_has (moves p) m next.legal)
    ∙ (ap (λ h. on_part (if h then Wrong (finding Twice part) else Next m) rest) (not_on listed m (has_move listed m) refl next.first)
    ∙ right_rest t p (listed ++ m ∷ []) others more))

-- Strings

string_none : (told : List ℕ) (a b : Bool) → (if a && not b then None else Some (finding NotTheGame told)) ≡ None → (a ≡ true) × (b ≡ false)
string_none told true false e = (refl, refl)
string_none told true true e = absurd (cc)
string_none told false b e = absurd (cc)

string_right : (told : List ℕ) (a b : Bool) → a ≡ true → b ≡ false → (if a && not b then None else Some (finding NotTheGame told)) ≡ None
string_right told true false e f = refl
string_right told true true e f = absurd (cc)
string_right told false b e f = absurd (cc)

refused_none : (b : Stacks) (m : Move) (r : Bool) → (if r then None else Some (finding Accepted (text b m))) ≡ None → r ≡ true
refused_none b m true e = refl
refused_none b m false e = absurd (cc)

refused_right : (b : Stacks) (m : Move) (r : Bool) → r ≡ true → (if r then None else Some (finding Accepted (text b m))) ≡ None
refused_right b m true e = refl
refused_right b m false e = absurd (cc)

pub replies_are_judged : RepliesAreJudged
replies_are_judged = record {
  lists = λ t p line. (rest_right t p [] (parts line), right_rest t p [] (parts line));
  strings = λ t ms asked line. (
    λ e. let r = string_none (answered_text asked line) (is_game t ms (game_of line)) (bytes_eq line (type_bytes t)) e in record { reads = r.0; whole = r.1 },
    λ g. string_right (answered_text asked line) (is_game t ms (game_of line)) (bytes_eq line (type_bytes t)) g.reads g.whole,
  );
  refusals = λ b m line. (refused_none b m (is_refusal line), refused_right b m (is_refusal line));
}

-- For the loop over the parts

pub wrong_here : (t : GameType) (b : Stacks) (legal listed : List Move) (part : List ℕ) (others : List (List ℕ)) (j : Judged) (f : Finding) → j ≡ part_of legal listed part (move_of t b part) → j ≡ Wrong f → Some f ≡ wrong_in t b legal listed (part ∷ others)
unfolding wrong_in
wrong_here t b legal listed part others j f e w =
    let rest : Move → Option Finding = λ m. wrong_in t b legal (listed ++ m ∷ []) others in
    ap (λ x. on_part x rest) (sym w ∙ e)

pub next_here : (t : GameType) (b : Stacks) (legal listed : List Move) (part : List ℕ) (others : List (List ℕ)) (j : Judged) (m : Move) → j ≡ part_of legal listed part (move_of t b part) → j ≡ Next m → wrong_in t b legal (listed ++ m ∷ []) others ≡ wrong_in t b legal listed (part ∷ others)
unfolding wrong_in
next_here t b legal listed part others j m e n =
    let rest : Move → Option Finding = λ m. wrong_in t b legal (listed ++ m ∷ []) others in
    ap (λ x. on_part x rest) (sym n ∙ e)

pub none_behind : (t : GameType) (b : Stacks) (legal listed : List Move) → first_missing b listed legal ≡ wrong_in t b legal listed []
unfolding wrong_in
none_behind t b legal listed = refl

pub ok_path : {X E : Type 0} (r : Result X E) (x y : X) → x ≡ y → IfOk r (λ o. o ≡ x) → IfOk r (λ o. o ≡ y)
ok_path (Ok z) x y e h = h ∙ e
ok_path (Err z) x y e h = tt
