-- Searches that were answered one after another, and the depths that a line takes.
use Rattle.std.proofs.Common.{◌≡◌, ◌≤◌, ◌+◌, ℕ, List, [], ◌∷◌, ◌++◌, refl, ap, sym, ◌∙◌, append_assoc, arith, None, Some}
use Rattle.std.specs.declared.option.Option.{Option}
use Rattle.std.proofs.lemmas.List.{append-nil, map-append}
use Rattle.hive_model.specs.declared.best.Timed.{Timed}
use Rattle.hive_model.specs.Minimax.{reads}
use Rattle.command_runs.specs.World.{TakesNoTime, Times}
use Rattle.uhp_session.specs.Searches.{IsAnswered, Search, Searched}
use Rattle.line_services.specs.Times.{AreTold, TellsOf, depths, reads_of}
use Rattle.line_services.specs.Service.{depth_for, depths_after, with_search}

-- Entries

pub depths-append : (xs ys : List Timed) → depths (xs ++ ys) ≡ depths xs ++ depths ys
depths-append xs ys = map-append (λ entry. entry.depth) xs ys

-- searches that lie after a reading also lie after any earlier reading
told_from : (searches : List Search) (entries : List Timed) (low from to : ℕ) → low ≤ from → AreTold searches from entries to → AreTold searches low entries to
told_from [] [] low from to less told = omega (arith, less, told)
told_from [] (entry ∷ entries) low from to less told = absurd told
told_from (asked ∷ others) [] low from to less told = absurd told
told_from (asked ∷ others) (entry ∷ entries) low from to less (told, began, rest) = (told, omega (arith, less, began), rest)

-- some searches, and then others
told_append : (searches mine : List Search) (entries own : List Timed) (from mid to : ℕ) → AreTold searches from entries mid → AreTold mine mid own to → AreTold (searches ++ mine) from (entries ++ own) to
told_append [] mine [] own from mid to told later = told_from mine own from mid to told later
told_append [] mine (entry ∷ entries) own from mid to told later = absurd told
told_append (asked ∷ others) mine [] own from mid to told later = absurd told
told_append (asked ∷ others) mine (entry ∷ entries) own from mid to (told, began, rest) later =
    (told, began, told_append others mine entries own entry.stopped mid to rest later)

-- searches that lie before a reading also lie before any later one
pub told_until : (searches : List Search) (entries : List Timed) (from mid to : ℕ) → AreTold searches from entries mid → mid ≤ to → AreTold searches from entries to
told_until [] [] from mid to told less = omega (arith, less, told)
told_until [] (entry ∷ entries) from mid to told less = absurd told
told_until (asked ∷ others) [] from mid to told less = absurd told
told_until (asked ∷ others) (entry ∷ entries) from mid to (told, began, rest) less = (told, began, told_until others entries entry.stopped mid to rest less)

-- the clock does not fall during searches
pub told_later : (searches : List Search) (entries : List Timed) (from to : ℕ) → AreTold searches from entries to → from ≤ to
told_later [] [] from to told = told
told_later [] (entry ∷ entries) from to told = absurd told
told_later (asked ∷ others) [] from to told = absurd told
told_later (asked ∷ others) (entry ∷ entries) from to (told, began, rest) =
    let order = told.order in
    let later = told_later others entries entry.stopped to rest in omega (arith, began, order, later)

-- the readings of some searches and of others after them
reads-append : (searches mine : List Search) (entries own : List Timed) (from to : ℕ) → AreTold searches from entries to → reads_of (searches ++ mine) (entries ++ own) ≡ reads_of searches entries + reads_of mine own
reads-append [] mine [] own from to told = sum_of_none (reads_of mine own)
  where
    sum_of_none : (n : ℕ) → n ≡ 0 + n
    sum_of_none n = omega arith
reads-append [] mine (entry ∷ entries) own from to told = absurd told
reads-append (asked ∷ others) mine [] own from to told = absurd told
reads-append (asked ∷ others) mine (entry ∷ entries) own from to (told, began, rest) =
    sum_of_three (reads asked.position entry.depth) (reads_of others entries) (reads_of mine own) _ (reads-append others mine entries own entry.stopped to rest)
  where
    sum_of_three : (a b c n : ℕ) → n ≡ b + c → a + n ≡ (a + b) + c
    sum_of_three a b c n e = omega (arith, e)

-- What the entries describe

pub tells_none : {before after : Times} → TakesNoTime before after → TellsOf [] [] before after
tells_none {before} {after} time = record {
  appended = time.timed ∙ sym (append-nil before.timed);
  told = same_or_later before.last after.last time.last;
  few = no_more before.readings after.readings time.readings;
}
  where
    same_or_later : (a b : ℕ) → b ≡ a → a ≤ b
    same_or_later a b e = omega (arith, e)

    no_more : (a b : ℕ) → b ≡ a → b ≤ a + 0
    no_more a b e = omega (arith, e)

tells_one : (asked : Search) (entry : Timed) {before after : Times} → Searched asked entry before after → TellsOf (asked ∷ []) (entry ∷ []) before after
tells_one asked entry {before} {after} h = record {
  appended = h.appended;
  told = (h.told, h.began, up_to entry.stopped after.last h.stopped);
  few = alone before.readings after.readings (reads asked.position entry.depth) h.few;
}
  where
    up_to : (a b : ℕ) → a ≡ b → a ≤ b
    up_to a b e = omega (arith, e)

    alone : (a b n : ℕ) → b ≤ a + n → b ≤ a + (n + 0)
    alone a b n less = omega (arith, less)

-- some searches, and then others
pub tells_on : {searches mine : List Search} {entries own : List Timed} {first mid last : Times} → TellsOf searches entries first mid → TellsOf mine own mid last → TellsOf (searches ++ mine) (entries ++ own) first last
tells_on {searches} {mine} {entries} {own} {first} {mid} {last} a b = record {
  appended = b.appended ∙ (ap (λ es. es ++ own) a.appended ∙ append_assoc first.timed entries own);
  told = told_append searches mine entries own first.last mid.last last.last a.told b.told;
  few = sum_up first.readings mid.readings last.readings (reads_of searches entries) (reads_of mine own) _ (reads-append searches mine entries own first.last mid.last a.told) a.few b.few;
}
  where
    sum_up : (x y z n m s : ℕ) → s ≡ n + m → y ≤ x + n → z ≤ y + m → z ≤ x + s
    sum_up x y z n m s e f g = omega (arith, e, f, g)

-- the clock does not fall, whether a line is answered or not
pub tells_later : {searches : List Search} {entries : List Timed} {before after : Times} → TellsOf searches entries before after → before.last ≤ after.last
tells_later {searches} {entries} {before} {after} h = told_later searches entries before.last after.last h.told

pub no_time_later : {before after : Times} → TakesNoTime before after → before.last ≤ after.last
no_time_later h = tells_later (tells_none h)

-- Lines

-- A line may ask for a search or for none. These are the searches that it asks for, the depths that
-- it takes, and its own depth.
pub record Uses (o : Option Search) (mine : List Search) (own : List ℕ) (depth : ℕ) : Type 0 where
  pub takes : (left : List ℕ) → depth_for o (own ++ left) ≡ depth
  pub leaves : (left : List ℕ) → depths_after o (own ++ left) ≡ left
  pub asks : (others : List Search) → with_search o others ≡ mine ++ others

-- what an answered line has used
pub record Took (o : Option Search) (reply : ℕ → Option (List ℕ)) (answer : Option (List ℕ)) (before after : Times) (mine : List Search) (entries : List Timed) (depth : ℕ) : Type 0 where
  pub uses : Uses o mine (depths entries) depth
  pub is : reply depth ≡ answer
  pub tells : TellsOf mine entries before after

pub took : (o : Option Search) (reply : ℕ → Option (List ℕ)) (answer : Option (List ℕ)) (before after : Times) → IsAnswered o reply answer before after
    → (mine : List Search) × (entries : List Timed) × (depth : ℕ) × Took o reply answer before after mine entries depth
took None reply answer before after (is, time) = (
  [],
  [],
  0,
  record { uses = record { takes = λ left. refl; leaves = λ left. refl; asks = λ others. refl }; is = sym is; tells = tells_none time },
)
took (Some asked) reply answer before after (entry, is, searched) = (
  asked ∷ [],
  entry ∷ [],
  entry.depth,
  record {
    uses = record { takes = λ left. refl; leaves = λ left. refl; asks = λ others. refl };
    is = sym is;
    tells = tells_one asked entry searched;
  },
)
