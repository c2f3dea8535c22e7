-- What the lines that were given so far tell, and the end of the input.
use Rattle.std.proofs.Common.{◌≡◌, ◌<◌, ◌≤◌, ℕ, Bool, true, false, List, [], ◌∷◌, ◌++◌, refl, ap, sym, ◌∙◌, subst, arith}
use Rattle.std.specs.Prelude.{Ok}
use Rattle.std.proofs.lemmas.List.Elements.{All-nil}
use Rattle.io_edge.specs.Outside.{Told}
use Rattle.io_edge.specs.Lines.{Line, Text}
use Rattle.line_feed.specs.Feed.{Reading, Gives, Holds, fresh, input_limit, settled}
use Rattle.line_feed.specs.SoFar.{Fed}
use Rattle.line_feed.proofs.FedLemmas.{fed_begin, fed_end, fed_held, fed_line}
use Rattle.command_runs.specs.Answered.{IsUnanswered, ReadsWhile}
use Rattle.command_runs.specs.Asking.{WereTaken}
use Rattle.command_runs.specs.Input.{WhereTold}
use Rattle.command_runs.specs.declared.no_game.NoGame.{NoGame}
use Rattle.command_runs.specs.declared.no_game.NoGame.TheVariants.{Bad, ReadFault, InputFull, Memory}
use Rattle.command_runs.proofs.ReadLemmas.{all_is_read, given_were_read, none_were_read}
use Rattle.tournament_record.specs.Openings.{IsOpening}
use Rattle.cup.specs.Engines.{Engine}
use Rattle.tournament_command.specs.declared.format.Format.{Format}
use Rattle.tournament_command.specs.Intakes.{Intake, intake, nothing_read, take_line, take_lines}
use Rattle.tournament_command.specs.Reads.{IsTold, about_tournament, refusal}
use Rattle.tournament_command.specs.Taking.{Closes, IsIntake, TakesLine, TakesNext, TakesNone}
use Rattle.tournament_command.proofs.Counts.{line_counts, take_more}

-- Since the source stood at the first rest, these lines were given and taken, and this is what they
-- tell. Each of them took a byte.
pub record Gathered (engines : List Engine) (f : Format) (begin now : Told) (reader : Reading) (i : Intake) : Type 0 where
  pub bytes : List ℕ
  pub given : List Line
  pub fed : Fed begin now reader bytes given
  pub tells : intake engines f given ≡ Ok i
  pub within : reader.taken ≤ input_limit
  pub counted : i.lines ≤ settled reader

-- no line tells nothing
pub nothing_tells : (engines : List Engine) (f : Format) → intake engines f [] ≡ Ok nothing_read
unfolding take_lines
nothing_tells engines f = refl

-- nothing was given yet
pub none_gathered : (engines : List Engine) (f : Format) (begin : Told) (reader : Reading) (i : Intake) → reader ≡ fresh → i ≡ nothing_read → Gathered engines f begin begin reader i
none_gathered engines f begin reader i new none = record {
  bytes = [];
  given = [];
  fed = fed_begin begin reader new;
  tells = nothing_tells engines f ∙ ap Ok (sym none);
  within = subst (λ (r : Reading). r.taken ≤ input_limit) (sym new) (omega arith);
  counted = subst (λ (k : Intake). k.lines ≤ settled reader) (sym none) (omega arith);
}

-- what holds of all that is read holds of nothing
pub nothing_kept : (engines : ℕ) (f : Format) (i : Intake) → i ≡ nothing_read → IsIntake engines f i
nothing_kept engines f i e = subst (IsIntake engines f) (sym e) (record {
  each = All-nil (IsOpening f.setup.game_type);
  few = omega arith;
  within = omega arith;
  none = λ open_. refl;
})

-- a line that was given was taken
pub line_taken : (engines : List Engine) (f : Format) (i next : Intake) {bytes : List ℕ} {old new : Reading} {rest : Told} (text last : List ℕ) → text ≡ last → Gives old bytes (Text last) new rest → take_line engines f i (Text text) ≡ Ok next
    → (line : Line) × TakesLine engines f i next bytes old new rest line
line_taken engines f i next text last is gives takes = (
  Text last,
  record { gives = gives; takes = subst (λ t. take_line engines f i (Text t) ≡ Ok next) is takes },
)

-- one line more
pub line_gathered : {engines : List Engine} {f : Format} {begin now rest : Told} {reader new : Reading} {i next : Intake} {bytes : List ℕ} {line : Line} → Gathered engines f begin now reader i → WereTaken bytes reader new now rest
    → TakesLine engines f i next bytes reader new rest line → Gathered engines f begin rest new next
line_gathered {engines} {f} {begin} {now} {rest} {reader} {new} {i} {next} {bytes} {line} g taken t = record {
  bytes = g.bytes ++ bytes;
  given = g.given ++ line ∷ [];
  fed = fed_line g.fed taken.takes t.gives;
  tells = take_more engines f g.given (Ok nothing_read) i line g.tells ∙ t.takes;
  within = taken.within;
  counted =
      let more = line_counts engines f i next line t.takes in
      let on : settled reader < settled new = t.gives.moves_on in
      let before = g.counted in
      omega (arith, more, on, before);
}

-- there was a line
pub went_on : (engines : List Engine) (f : Format) (i next : Intake) (more : Bool) (bytes : List ℕ) (old new : Reading) (rest : Told) → more ≡ true → TakesNext engines f i next more bytes old new rest → (line : Line) × TakesLine engines f i next bytes old new rest line
went_on engines f i next true bytes old new rest on is = is
went_on engines f i next false bytes old new rest on is = absurd (cc)

-- there was none
pub ended : (engines : List Engine) (f : Format) (i next : Intake) (more : Bool) (bytes : List ℕ) (old new : Reading) (rest : Told) → more ≡ false → TakesNext engines f i next more bytes old new rest → Closes i next bytes old new rest
ended engines f i next true bytes old new rest off is = absurd (cc)
ended engines f i next false bytes old new rest off is = is

-- no more lines were given than bytes were taken
pub few_gathered : {engines : List Engine} {f : Format} {begin now : Told} {reader : Reading} {i : Intake} → Gathered engines f begin now reader i → i.lines ≤ input_limit
few_gathered g = let a = g.counted in let b = g.within in omega (arith, a, b)

-- The end of the reading

-- the input has ended
pub all_gathered : {engines : List Engine} {f : Format} {begin now rest : Told} {reader new : Reading} {i next : Intake} {bytes : List ℕ} → Gathered engines f begin now reader i → WereTaken bytes reader new now rest → Closes i next bytes reader new rest
    → WhereTold begin (λ input. IsTold engines f input rest next)
all_gathered {engines} {f} {next = next} g taken c = λ input told.
    let (all, below) = fed_end input g.fed taken.takes c.ends told in
    record {
      tells = subst (λ ls. intake engines f ls ≡ Ok next) (sym all) (g.tells ∙ ap Ok (sym c.same));
      over = all_is_read input g.fed taken.takes c.ends told;
    }

held_after : {engines : List Engine} {f : Format} {begin now rest : Told} {reader new : Reading} {i : Intake} {bytes : List ℕ} (many : ℕ → Type 0) → Gathered engines f begin now reader i → WereTaken bytes reader new now rest → Holds reader bytes new
    → many new.taken → WhereTold begin (λ input. ReadsWhile (about_tournament engines f) many input rest)
held_after {engines} {f} {i = i} {bytes = bytes} many g taken holds so_many = λ input told.
    let (left, read, all, count) = fed_held input g.fed taken.takes holds told in (
      g.bytes ++ bytes,
      left,
      subst many count so_many,
      (i, read, subst (λ ls. intake engines f ls ≡ Ok i) (sym all) g.tells),
    )

-- no further line was taken
pub none_after : {engines : List Engine} {f : Format} {begin now rest : Told} {reader new : Reading} {i : Intake} {bytes : List ℕ} (none : NoGame) → Gathered engines f begin now reader i → WereTaken bytes reader new now rest
    → TakesNone engines f i none bytes reader new rest → WhereTold begin (λ input. IsUnanswered (about_tournament engines f) none input rest)
none_after {i = i} (Bad text) g taken (line, fault, r) = λ input told. (
  refusal fault,
  (
    g.given,
    line,
    i,
    fault,
    record {
      were_read = given_were_read input (fed_line g.fed taken.takes r.gives) told taken.within taken.little;
      good = g.tells;
      refused = r.refused;
    },
    refl,
  ),
  r.told,
)
none_after ReadFault g taken (holds, below) = held_after (λ many. many < input_limit) g taken holds below
none_after InputFull g taken (holds, full) = held_after (λ many. many ≡ input_limit) g taken holds full
none_after {i = i} Memory g taken (line, gives) = λ input told. (
  g.given,
  line ∷ [],
  i,
  given_were_read input (fed_line g.fed taken.takes gives) told taken.within taken.little,
  g.tells,
  omega arith,
)

-- memory was wanting before the first read
pub none_before : (engines : List Engine) (f : Format) (begin : Told) → WhereTold begin (λ input. IsUnanswered (about_tournament engines f) Memory input begin)
none_before engines f begin = λ input told. ([], [], nothing_read, none_were_read input begin told, nothing_tells engines f, omega arith)
