-- What the walk of a whole certificate that writes tokens says of the indices.
use Rattle.std.proofs.Common.{◌≡◌, ◌++◌, ℕ, Bool, List, sym, ap, subst, ◌∙◌, ℤ, Option, None, Some}
use Rattle.std.specs.Prelude.{IfSome}
use Rattle.hive_model.specs.declared.places.Move.{Move}
use Rattle.hive_model.specs.Positions.{Position}
use Rattle.certificate_walks.specs.Walks.{WalkEnd, Left, Fault, Halt}
use Rattle.strategy_check.specs.declared.why.Why.{Why}
use Rattle.certificate_walks.specs.declared.walk_answers.Halt.{Halt as AnyHalt}
use Rattle.certificate_walks.specs.declared.walk_answers.Halt.TheVariants.{Bad, Failed, Full}
use Rattle.certificate_walks.specs.declared.walk_answers.Checked.{Checked}
use Rattle.certificate_walks.specs.declared.walk_answers.Checked.TheVariants.{Accepted, Refused as CheckRefused, Halted as CheckHalted}
use Rattle.certificate_walks.specs.Answers.{CountsBad, CountsUnread, StopsUnread}
use Rattle.certificate_walks.specs.Ends.{ChecksItems, EndsUnread}
use Rattle.certificate_walks.specs.Items.{Supply}
use Rattle.strategy_check.specs.Checks.{index_faults}
use Rattle.strategy_check.specs.Trace.{Steps, checked}
use Rattle.strategy_check.proofs.TakenLaws.{accepted-indices}
use Rattle.strategy_lemmas.specs.Short.{ShortSteps, short, shortened, of_indices, written_by}
use Rattle.strategy_lemmas.proofs.OutcomeLaws.{ends-as}
use Rattle.io_edge.specs.Outside.{Told}
use Rattle.certificate_indices.specs.Writing.{Wrote}
use Rattle.certificate_indices.proofs.WriteLaws.{wrote-as, wrote-is}
use Rattle.certificate_citing.specs.declared.draft.Draft.{Draft}
use Rattle.certificate_citing.specs.declared.migrating.Migrated.TheVariants.{Halted}
use Rattle.certificate_citing.specs.TokenText.{token_lines}
use Rattle.certificate_citing.specs.Migrating.{ShortAnswers, Shortens, MigrateAnswers}

pub answers-as : (o q : WalkEnd ShortSteps Why) (answer : Option (Checked Why)) (d : Draft) → o ≡ q → ShortAnswers q answer d → ShortAnswers o answer d
answers-as o q answer d e h = subst (λ (x : WalkEnd ShortSteps Why). ShortAnswers x answer d) (sym e) h

module _ (p : Position) (d : ℕ) (m : Move) (v : ℤ) (items : List (Option ℕ)) where
  checked-is : (o : WalkEnd ShortSteps Why) → shortened p d m v items ≡ o → checked p d m v items ≡ of_indices o
  checked-is o e = sym (ends-as p d m v items) ∙ ap of_indices e

  pub refused-is : (why : Why) (n : ℕ) → shortened p d m v items ≡ Fault why n → checked p d m v items ≡ Fault why n
  refused-is why n e = checked-is (Fault why n) e

  pub halted-is : (n : ℕ) → shortened p d m v items ≡ Halt n → checked p d m v items ≡ Halt n
  halted-is n e = checked-is (Halt n) e

  pub shortens-is : (s : ShortSteps) (text : List ℕ) → shortened p d m v items ≡ Left s → text ≡ token_lines s.written → Shortens p d m v items text
  shortens-is s text e lines =
      let f = accepted-indices p d m v items s.items (checked-is (Left s) e) in
      let written : s.written ≡ short p d m v f.0 = sym (ap written_by e) ∙ ap (λ (is : List (Option ℕ)). written_by (shortened p d m v is)) f.1 in
      record { indices = f.0; are = f.1; hold = f.2; lines_are = lines ∙ ap token_lines written }

  -- the indices hold, and the draft has the lines of their tokens
  pub accepted-is : (answer : Checked Why) (draft : Draft) → answer ≡ Accepted → ShortAnswers (shortened p d m v items) (Some answer) draft → Shortens p d m v items draft.text
  accepted-is answer draft is told =
      let h : ShortAnswers (shortened p d m v items) (Some Accepted) draft = subst (λ (x : Checked Why). ShortAnswers (shortened p d m v items) (Some x) draft) is told in
      shortens-is h.0 draft.text h.1 h.2

  pub halted-told : (head : List ℕ) (a b : Told) (why : AnyHalt) (draft : Draft) → ShortAnswers (shortened p d m v items) (Some (CheckHalted why)) draft → MigrateAnswers p d m v items head (Halted why) a b
  halted-told head a b Bad draft h = (h.0, halted-is h.0 h.1)
  halted-told head a b Failed draft h = tt
  halted-told head a b Full draft h = tt

-- a head and these lines were written one after the other, or an initial part of them
pub wrote-both : (r flag : Bool) (head lines text : List ℕ) (a b : Told) → r ≡ flag → lines ≡ text → Wrote r (head ++ lines) a b → Wrote flag (head ++ text) a b
wrote-both r flag head lines text a b is same h = wrote-as flag _ _ a b (ap (λ (l : List ℕ). head ++ l) same) (wrote-is r flag _ a b is h)

module _ (p : Position) (d : ℕ) (m : Move) (v : ℤ) where
  bad-is : (items : List (Option ℕ)) (answer : Option (Checked Why)) (count : ℕ) → IfSome answer (λ c. CountsBad (shortened p d m v items) c count) → IfSome answer (λ c. CountsBad (checked p d m v items) c count)
  bad-is items None count h = h
  bad-is items (Some Accepted) count h = tt
  bad-is items (Some (CheckRefused place why)) count h = tt
  bad-is items (Some (CheckHalted Bad)) count h = (h.0, halted-is p d m v items h.0 h.1, h.2)
  bad-is items (Some (CheckHalted Failed)) count h = tt
  bad-is items (Some (CheckHalted Full)) count h = tt

  -- the walk of the indices alone determines what happened to them
  pub items-are : (answer other : Option (Checked Why)) (a b : Supply ℕ) → other ≡ answer → ChecksItems index_faults (shortened p d m v) answer a b → ChecksItems index_faults (checked p d m v) other a b
  items-are answer other a b is h =
      subst (λ (x : Option (Checked Why)). ChecksItems index_faults (checked p d m v) x a b) (sym is)
      (record {
        bad = λ items e none. bad-is items answer b.count (h.bad items e none);
        refused = h.refused;
        cause = h.cause;
        lenders = h.lenders;
        known = h.known;
        met = h.met;
      })

  counts-is : (o : WalkEnd ShortSteps Why) (count : ℕ) → CountsUnread index_faults o count → CountsUnread index_faults (of_indices o) count
  counts-is (Left s) count h = tt
  counts-is (Fault why n) count h = h
  counts-is (Halt n) count h = h

  looks-is : (items : List (Option ℕ)) (count : ℕ) → CountsUnread index_faults (shortened p d m v items) count → CountsUnread index_faults (checked p d m v items) count
  looks-is items count h = subst (λ (o : WalkEnd Steps Why). CountsUnread index_faults o count) (ends-as p d m v items) (counts-is (shortened p d m v items) count h)

  unread-is : (items : List (Option ℕ)) (answer : Checked Why) (count : ℕ) → StopsUnread index_faults (shortened p d m v items) answer count → StopsUnread index_faults (checked p d m v items) answer count
  unread-is items Accepted count h = tt
  unread-is items (CheckRefused place why) count h = tt
  unread-is items (CheckHalted Bad) count h = tt
  unread-is items (CheckHalted Failed) count h = looks-is items count h
  unread-is items (CheckHalted Full) count h = looks-is items count h

  unread-told : (answer : Option (Checked Why)) (a b : Supply ℕ) → IfSome answer (λ c. EndsUnread index_faults (shortened p d m v) c a b) → IfSome answer (λ c. EndsUnread index_faults (checked p d m v) c a b)
  unread-told None a b h = h
  unread-told (Some answer) a b h = λ items e none. unread-is items answer b.count (h items e none)

  -- if they could not be read on, those taken do not end the check
  pub unread-are : (answer other : Option (Checked Why)) (a b : Supply ℕ) → other ≡ answer → IfSome answer (λ c. EndsUnread index_faults (shortened p d m v) c a b) → IfSome other (λ c. EndsUnread index_faults (checked p d m v) c a b)
  unread-are answer other a b is h = subst (λ (x : Option (Checked Why)). IfSome x (λ c. EndsUnread index_faults (checked p d m v) c a b)) (sym is) (unread-told answer a b h)
