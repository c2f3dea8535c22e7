-- The replies to the lines so far, as the first of the replies to all lines.
use Rattle.std.proofs.Common.{◌≡◌, ◌↔◌, ℕ, List, [], ◌∷◌, ◌++◌, refl, ap, sym, ◌∙◌, append_assoc, None, Some, subst}
use Rattle.std.specs.declared.option.Option.{Option}
use Rattle.std.proofs.lemmas.List.{append-nil}
use Rattle.io_edge.specs.Lines.{Line}
use Rattle.uhp_session.specs.Searches.{Search}
use Rattle.line_services.specs.Service.{HasExit, Service, depths_after, ends_at, ends_or, joined, last_of, replies, reply_at, searches, with_reply}
use Rattle.line_services.proofs.TimeLemmas.{Uses}

-- Texts

pub joined-append : (xs ys : List (List ℕ)) → joined (xs ++ ys) ≡ joined xs ++ joined ys
joined-append [] ys = refl
joined-append (x ∷ xs) ys = ap (λ z. x ++ z) (joined-append xs ys) ∙ sym (append_assoc x (joined xs) (joined ys))

-- Lines

-- These texts are the replies to these lines at these depths, and none of the lines ends the run.
-- These are the searches that they ask for, and the service goes on from here.
pub record Replied {S : Type 0} (v : Service S) (start now : S) (given : List Line) (written : List (List ℕ)) (told : List ℕ) (asked : List Search) : Type 0 where
  pub goes_on : (later : List ℕ) (more : List Line) → replies v start (told ++ later) (given ++ more) ≡ written ++ replies v now later more
  pub exits : (later : List ℕ) (more : List Line) → HasExit v start (told ++ later) (given ++ more) ↔ HasExit v now later more
  pub stands : (later : List ℕ) (more : List Line) → last_of v start (told ++ later) (given ++ more) ≡ last_of v now later more
  pub asks : (later : List ℕ) (more : List Line) → searches v start (told ++ later) (given ++ more) ≡ asked ++ searches v now later more

-- no line was given yet
pub replied_begin : {S : Type 0} (v : Service S) (s : S) → Replied v s s [] [] [] []
replied_begin v s = record {
  goes_on = λ later more. refl;
  exits = λ later more. (λ h. h, λ h. h);
  stands = λ later more. refl;
  asks = λ later more. refl;
}

-- One line

-- the line is the next one given, it takes this depth, and this is the reply at that depth
pub record Next {S : Type 0} (v : Service S) (now : S) (line : Line) (answer : Option (List ℕ)) (mine : List Search) (own : List ℕ) (depth : ℕ) : Type 0 where
  pub uses : Uses (v.asks now line) mine own depth
  pub is : v.reply now line depth ≡ answer

-- this is its reply, whatever depths are left
reply_is : {S : Type 0} {v : Service S} {now : S} {line : Line} {answer : Option (List ℕ)} {mine : List Search} {own : List ℕ} {depth : ℕ} → Next v now line answer mine own depth → (later : List ℕ)
    → reply_at v now (own ++ later) line ≡ answer
reply_is {S} {v} {now} {line} n later = ap (v.reply now line) (n.uses.takes later) ∙ n.is

with_next : {S : Type 0} {v : Service S} {now : S} {line : Line} {answer : Option (List ℕ)} {mine : List Search} {own : List ℕ} {depth : ℕ} → Next v now line answer mine own depth → (later : List ℕ) (more : List Line)
    → replies v now (own ++ later) (line ∷ more) ≡ with_reply answer (replies v (v.next now line) later more)
with_next {S} {v} {now} {line} {answer} {mine} {own} n later more =
    ap (λ o. with_reply o (replies v (v.next now line) (depths_after (v.asks now line) (own ++ later)) more)) (reply_is n later)
    ∙ ap (λ left. with_reply answer (replies v (v.next now line) left more)) (n.uses.leaves later)

last_at : {S : Type 0} {v : Service S} {now : S} {line : Line} {answer : Option (List ℕ)} {mine : List Search} {own : List ℕ} {depth : ℕ} → Next v now line answer mine own depth → (later : List ℕ) (more : List Line)
    → last_of v now (own ++ later) (line ∷ more) ≡ ends_at answer (v.next now line) (last_of v (v.next now line) later more)
last_at {S} {v} {now} {line} {answer} {mine} {own} n later more =
    ap (λ o. ends_at o (v.next now line) (last_of v (v.next now line) (depths_after (v.asks now line) (own ++ later)) more)) (reply_is n later)
    ∙ ap (λ left. ends_at answer (v.next now line) (last_of v (v.next now line) left more)) (n.uses.leaves later)

asks_at : {S : Type 0} {v : Service S} {now : S} {line : Line} {answer : Option (List ℕ)} {mine : List Search} {own : List ℕ} {depth : ℕ} → Next v now line answer mine own depth → (later : List ℕ) (more : List Line)
    → searches v now (own ++ later) (line ∷ more) ≡ mine ++ ends_at answer [] (searches v (v.next now line) later more)
asks_at {S} {v} {now} {line} {answer} {mine} {own} n later more =
    n.uses.asks _
    ∙ (ap (λ o. mine ++ ends_at o [] (searches v (v.next now line) (depths_after (v.asks now line) (own ++ later)) more)) (reply_is n later)
    ∙ ap (λ left. mine ++ ends_at answer [] (searches v (v.next now line) left more)) (n.uses.leaves later))

exit_at : {S : Type 0} {v : Service S} {now : S} {line : Line} {answer : Option (List ℕ)} {mine : List Search} {own : List ℕ} {depth : ℕ} → Next v now line answer mine own depth → (later : List ℕ) (more : List Line)
    → HasExit v now (own ++ later) (line ∷ more) ↔ ends_or answer (HasExit v (v.next now line) later more)
exit_at {S} {v} {now} {line} {answer} {mine} {own} n later more = (
  λ h. subst (λ left. ends_or answer (HasExit v (v.next now line) left more)) (n.uses.leaves later)
      (subst (λ o. ends_or o (HasExit v (v.next now line) (depths_after (v.asks now line) (own ++ later)) more)) (reply_is n later) h),
  λ h. subst (λ o. ends_or o (HasExit v (v.next now line) (depths_after (v.asks now line) (own ++ later)) more)) (sym (reply_is n later))
      (subst (λ left. ends_or answer (HasExit v (v.next now line) left more)) (sym (n.uses.leaves later)) h),
)

-- After one more line

-- one more line was answered
pub replied_on : {S : Type 0} (v : Service S) (start now : S) (given : List Line) (written : List (List ℕ)) (told : List ℕ) (asked : List Search) (line : Line) (text : List ℕ) (mine : List Search) (own : List ℕ) (depth : ℕ)
    → Replied v start now given written told asked → Next v now line (Some text) mine own depth → Replied v start (v.next now line) (given ++ line ∷ []) (written ++ text ∷ []) (told ++ own) (asked ++ mine)
replied_on v start now given written told asked line text mine own depth r n = record {
  goes_on = λ later more.
      along (replies v start) later more
      ∙ (r.goes_on (own ++ later) (line ∷ more) ∙ (ap (λ ts. written ++ ts) (with_next n later more) ∙ sym (append_assoc written (text ∷ []) (replies v (v.next now line) later more))));
  exits = λ later more.
      let here = exit_at n later more in
      let all = r.exits (own ++ later) (line ∷ more) in (
        λ h. here.0 (all.0 (subst (λ ls. HasExit v start (told ++ (own ++ later)) ls) (append_assoc given (line ∷ []) more) (subst (λ ds. HasExit v start ds ((given ++ line ∷ []) ++ more)) (append_assoc told own later) h))),
        λ h. subst (λ ds. HasExit v start ds ((given ++ line ∷ []) ++ more)) (sym (append_assoc told own later)) (subst (λ ls. HasExit v start (told ++ (own ++ later)) ls) (sym (append_assoc given (line ∷ []) more)) (all.1 (here.1 h))),
      );
  stands = λ later more. along (last_of v start) later more ∙ (r.stands (own ++ later) (line ∷ more) ∙ last_at n later more);
  asks = λ later more.
      along (searches v start) later more
      ∙ (r.asks (own ++ later) (line ∷ more) ∙ (ap (λ ss. asked ++ ss) (asks_at n later more) ∙ sym (append_assoc asked mine (searches v (v.next now line) later more))));
}
  where
    along : {A : Type 0} (f : List ℕ → List Line → A) (later : List ℕ) (more : List Line) → f ((told ++ own) ++ later) ((given ++ line ∷ []) ++ more) ≡ f (told ++ (own ++ later)) (given ++ (line ∷ more))
    along f later more = ap (λ ds. f ds ((given ++ line ∷ []) ++ more)) (append_assoc told own later) ∙ ap (f (told ++ (own ++ later))) (append_assoc given (line ∷ []) more)

-- The lines so far

-- with no further depths or lines
no_more : {A : Type 0} (f : List ℕ → List Line → A) (told : List ℕ) (given : List Line) → f told given ≡ f (told ++ []) (given ++ [])
no_more f told given = ap (λ ds. f ds given) (sym (append-nil told)) ∙ ap (f (told ++ [])) (sym (append-nil given))

-- the replies to the lines so far
pub replied_texts : {S : Type 0} {v : Service S} {start now : S} {given : List Line} {written : List (List ℕ)} {told : List ℕ} {asked : List Search} → Replied v start now given written told asked → replies v start told given ≡ written
replied_texts {S} {v} {start} {now} {given} {written} {told} r = no_more (replies v start) told given ∙ (r.goes_on [] [] ∙ append-nil written)

-- none of the lines so far ends the run
pub replied_open : {S : Type 0} {v : Service S} {start now : S} {given : List Line} {written : List (List ℕ)} {told : List ℕ} {asked : List Search} → Replied v start now given written told asked → ¬ HasExit v start told given
replied_open {S} {v} {start} {now} {given} {written} {told} r =
    λ h. (r.exits [] []).0 (subst (λ ls. HasExit v start (told ++ []) ls) (sym (append-nil given)) (subst (λ ds. HasExit v start ds given) (sym (append-nil told)) h))

-- this is the state of the service after the lines so far
pub replied_last : {S : Type 0} {v : Service S} {start now : S} {given : List Line} {written : List (List ℕ)} {told : List ℕ} {asked : List Search} → Replied v start now given written told asked → last_of v start told given ≡ now
replied_last {S} {v} {start} {now} {given} {written} {told} r = no_more (last_of v start) told given ∙ r.stands [] []

-- the searches that the lines so far ask for
pub replied_asks : {S : Type 0} {v : Service S} {start now : S} {given : List Line} {written : List (List ℕ)} {told : List ℕ} {asked : List Search} → Replied v start now given written told asked → searches v start told given ≡ asked
replied_asks {S} {v} {start} {now} {given} {written} {told} {asked} r = no_more (searches v start) told given ∙ (r.asks [] [] ∙ append-nil asked)

-- The line that ends the run

-- with no depths besides its own
its_own : {A : Type 0} (f : List ℕ → A) (told own : List ℕ) → f (told ++ own) ≡ f (told ++ (own ++ []))
its_own f told own = ap (λ ds. f (told ++ ds)) (sym (append-nil own))

-- the next line ends the run
pub replied_exit : {S : Type 0} {v : Service S} {start now : S} {given : List Line} {written : List (List ℕ)} {told : List ℕ} {asked : List Search} (line : Line) {mine : List Search} {own : List ℕ} {depth : ℕ}
    → Replied v start now given written told asked → Next v now line None mine own depth → HasExit v start (told ++ own) (given ++ line ∷ [])
replied_exit {S} {v} {start} {now} {given} {written} {told} {asked} line {mine} {own} r n =
    subst (λ ds. HasExit v start (told ++ ds) (given ++ line ∷ [])) (append-nil own) ((r.exits (own ++ []) (line ∷ [])).1 ((exit_at n [] []).1 tt))

-- and no line after it is answered
pub replied_exit_all : {S : Type 0} {v : Service S} {start now : S} {given : List Line} {written : List (List ℕ)} {told : List ℕ} {asked : List Search} (line : Line) (others : List Line) {mine : List Search} {own : List ℕ} {depth : ℕ}
    → Replied v start now given written told asked → Next v now line None mine own depth → replies v start (told ++ own) (given ++ (line ∷ others)) ≡ written
replied_exit_all {S} {v} {start} {now} {given} {written} {told} {asked} line others {mine} {own} r n =
    its_own (λ ds. replies v start ds (given ++ (line ∷ others))) told own
    ∙ (r.goes_on (own ++ []) (line ∷ others) ∙ (ap (λ ts. written ++ ts) (with_next n [] others) ∙ append-nil written))

-- this is the state of the service when that line was answered
pub replied_exit_last : {S : Type 0} {v : Service S} {start now : S} {given : List Line} {written : List (List ℕ)} {told : List ℕ} {asked : List Search} (line : Line) (others : List Line) {mine : List Search} {own : List ℕ} {depth : ℕ}
    → Replied v start now given written told asked → Next v now line None mine own depth → last_of v start (told ++ own) (given ++ (line ∷ others)) ≡ v.next now line
replied_exit_last {S} {v} {start} {now} {given} {written} {told} {asked} line others {mine} {own} r n =
    its_own (λ ds. last_of v start ds (given ++ (line ∷ others))) told own ∙ (r.stands (own ++ []) (line ∷ others) ∙ last_at n [] others)

-- and it may have asked for a search, the last one
pub replied_exit_asks : {S : Type 0} {v : Service S} {start now : S} {given : List Line} {written : List (List ℕ)} {told : List ℕ} {asked : List Search} (line : Line) (others : List Line) {mine : List Search} {own : List ℕ} {depth : ℕ}
    → Replied v start now given written told asked → Next v now line None mine own depth → searches v start (told ++ own) (given ++ (line ∷ others)) ≡ asked ++ mine
replied_exit_asks {S} {v} {start} {now} {given} {written} {told} {asked} line others {mine} {own} r n =
    its_own (λ ds. searches v start ds (given ++ (line ∷ others))) told own
    ∙ (r.asks (own ++ []) (line ∷ others) ∙ ap (λ ss. asked ++ ss) (asks_at n [] others ∙ append-nil mine))
