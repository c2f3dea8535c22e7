-- A service: a command that answers the lines of its input, one after another. What it writes for
-- them.
use Rattle.std.specs.Prelude.{ℕ, Bool, List, [], ◌∷◌, ◌++◌, Option, None, Some}
use Rattle.io_edge.specs.Lines.{Line}
use Rattle.uhp_session.specs.Searches.{Search}

-- A service has a first state and the text that it writes before the first line is read. For a line
-- it has the timed search that the line asks for, if any. It has the reply at the depth that this
-- search has completed, or none if the run ends there. It has the state after the line, and whether
-- a line was refused so far. A line that asks for no search does not use the depth.
pub record Service (S : Type 0) : Type 0 where
  pub begins : S
  pub preface : List ℕ
  pub asks : S → Line → Option Search
  pub reply : S → Line → ℕ → Option (List ℕ)
  pub next : S → Line → S
  pub has_refused : S → Bool

-- Depths

-- The depth for a line. A line that asks for a search takes the first of the depths that are left,
-- or 0 if none is. Any other line gets 0.
abbrev pub depth_for : Option Search → List ℕ → ℕ
depth_for None left = 0
depth_for (Some asked) [] = 0
depth_for (Some asked) (depth ∷ left) = depth

-- the depths that are left for the lines after it
abbrev pub depths_after : Option Search → List ℕ → List ℕ
depths_after None left = left
depths_after (Some asked) [] = []
depths_after (Some asked) (depth ∷ left) = left

-- the depths that are left after a line, for a service in this state
abbrev pub left_after : {S : Type 0} → Service S → S → List ℕ → Line → List ℕ
left_after v s left line = depths_after (v.asks s line) left

-- the reply to a line if these depths are left
abbrev pub reply_at : {S : Type 0} → Service S → S → List ℕ → Line → Option (List ℕ)
reply_at v s left line = v.reply s line (depth_for (v.asks s line) left)

-- Replies

-- texts, one after another
abbrev pub joined : List (List ℕ) → List ℕ
joined [] = []
joined (text ∷ texts) = text ++ joined texts

-- a reply, and then the others; no others if the run ends
abbrev pub with_reply : Option (List ℕ) → List (List ℕ) → List (List ℕ)
with_reply None others = []
with_reply (Some text) others = text ∷ others

-- the replies to lines in order, up to the line that ends the run, if these depths are left
abbrev pub replies : {S : Type 0} → Service S → S → List ℕ → List Line → List (List ℕ)
replies v s left [] = []
replies v s left (line ∷ ls) =
    with_reply (reply_at v s left line) (replies v (v.next s line) (left_after v s left line) ls)

-- what is written before the first line is read, and then the replies
abbrev pub texts : {S : Type 0} → Service S → List ℕ → List Line → List (List ℕ)
texts v left ls = v.preface ∷ replies v v.begins left ls

-- all that is written for these lines
abbrev pub output : {S : Type 0} → Service S → List ℕ → List Line → List ℕ
output v left ls = joined (texts v left ls)

-- The end

-- The run ends here, or else it ends later.
abbrev pub ends_or : Option (List ℕ) → Type 0 → Type 0
ends_or None later = Unit {0}
ends_or (Some text) later = later

-- One of these lines ends the run.
abbrev pub HasExit : {S : Type 0} → Service S → S → List ℕ → List Line → Type 0
HasExit v s left [] = ⊥
HasExit v s left (line ∷ ls) =
    ends_or (reply_at v s left line) (HasExit v (v.next s line) (left_after v s left line) ls)

-- the first value if the run ends here, otherwise the one for later
abbrev pub ends_at : {A : Type 0} → Option (List ℕ) → A → A → A
ends_at None here later = here
ends_at (Some text) here later = later

-- the state of the service after these lines, or after the first of them that ends the run
abbrev pub last_of : {S : Type 0} → Service S → S → List ℕ → List Line → S
last_of v s left [] = s
last_of v s left (line ∷ ls) =
    ends_at (reply_at v s left line) (v.next s line)
    (last_of v (v.next s line) (left_after v s left line) ls)

-- Searches

-- a search, if one is asked for, and then the others
abbrev pub with_search : Option Search → List Search → List Search
with_search None others = others
with_search (Some asked) others = asked ∷ others

-- the searches that these lines ask for, up to the line that ends the run
abbrev pub searches : {S : Type 0} → Service S → S → List ℕ → List Line → List Search
searches v s left [] = []
searches v s left (line ∷ ls) =
    with_search (v.asks s line)
    (ends_at (reply_at v s left line) [] (searches v (v.next s line) (left_after v s left line) ls))
