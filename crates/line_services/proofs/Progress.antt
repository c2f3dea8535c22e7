-- What a service wrote for the lines given so far, and how its run ends.
use Rattle.std.proofs.Common.{◌≡◌, ◌<◌, ◌≤◌, ◌-◌, ℕ, Bool, true, false, List, [], ◌∷◌, ◌++◌, length, take, refl, ap, sym, ◌∙◌, append_assoc, arith, None, Some, inl, inr, subst}
use Rattle.std.specs.declared.option.Option.{Option}
use Rattle.std.proofs.lemmas.List.{append-nil}
use Rattle.io_edge.specs.Outside.{behind}
use Rattle.hive_model.specs.declared.best.Timed.{Timed}
use Rattle.io_edge.specs.Lines.{Line, lines, whole_lines}
use Rattle.line_feed.specs.Feed.{Holds, Takes, input_limit, fresh as new_reading}
use Rattle.line_feed.specs.SoFar.{Fed}
use Rattle.line_feed.proofs.FedLemmas.{fed_begin, fed_end, fed_held, fed_line, fed_prefix}
use Rattle.command_runs.specs.World.{TakesNoTime, Times, World, world}
use Rattle.uhp_session.specs.Searches.{Search}
use Rattle.line_services.specs.Times.{AreTold, TellsOf, depths}
use Rattle.line_services.specs.Service.{HasExit, Service, joined, last_of, replies, searches, texts}
use Rattle.line_services.specs.ServiceRun.{EndsAs, RunsToEnd, ServiceRun, TellsOfLines, WroteAll, WroteFront, WroteTexts, WroteWhole}
use Rattle.line_services.specs.Rounds.{Replies, Rounds, ServiceState, status_of}
use Rattle.command_runs.specs.declared.status.Status.{Status}
use Rattle.command_runs.specs.declared.status.Status.TheVariants.{WriteFault, Memory}
use Rattle.line_services.specs.declared.service.Stop.{Stop}
use Rattle.line_services.specs.declared.service.Stop.TheVariants.{Over, ReadFailed, Full, WriteFailed, NoMemory}
use Rattle.command_runs.proofs.ReadLemmas.{all_is_read, given_were_read, none_were_read}
use Rattle.command_runs.proofs.WrittenLemmas.{behind_none, on_written}
use Rattle.line_services.proofs.TimeLemmas.{Took, depths-append, no_time_later, tells_later, tells_none, tells_on, told_until, took}
use Rattle.line_services.proofs.ReplyLemmas.{Next, Replied, joined-append, replied_asks, replied_begin, replied_exit, replied_exit_all, replied_exit_asks, replied_exit_last, replied_last, replied_on, replied_open, replied_texts}

-- Since the run began, these bytes were read, which gave these lines. The preface and these replies
-- to the lines were written. The lines asked for these searches, and these entries describe them.
pub record Runs {S : Type 0} (v : Service S) (before : World) (now : ServiceState S) (bytes : List ℕ) (given : List Line) (written : List (List ℕ)) (entries : List Timed) (asked : List Search) : Type 0 where
  pub fed : Fed before.sides.rest now.sides.rest now.reader bytes given
  pub replied : Replied v v.begins now.state given written (depths entries) asked
  pub wrote : now.sides.written ≡ behind before.sides.written (joined (v.preface ∷ written))
  pub tells : TellsOf asked entries before.times now.times

-- the world after a service, which starts no program
abbrev pub left_in : {S : Type 0} → World → ServiceState S → World
left_in before now = world now.sides now.times before.engines

abbrev pub Run : {S : Type 0} → Service S → World → ServiceState S → Type 0
Run v before now =
    (bytes : List ℕ) × (given : List Line) × (written : List (List ℕ)) × (entries : List Timed) × (asked : List Search) × Runs v before now bytes given written entries asked

-- the preface was written, and nothing was read
pub run_begin : {S : Type 0} (v : Service S) (before : World) (now : ServiceState S) (text : List ℕ) → now.sides.rest ≡ before.sides.rest → now.reader ≡ new_reading → now.state ≡ v.begins → text ≡ v.preface
    → now.sides.written ≡ behind before.sides.written text → TakesNoTime before.times now.times → Run v before now
run_begin v before now text rest reader state is wrote time = (
  [],
  [],
  [],
  [],
  [],
  record {
    fed = rw rest (fed_begin before.sides.rest now.reader reader);
    replied = rw state (replied_begin v v.begins);
    wrote = wrote ∙ ap (behind before.sides.written) (is ∙ sym (append-nil v.preface));
    tells = tells_none time;
  },
)

-- the line that was given takes its depth
next_line : {S : Type 0} {v : Service S} {line : Line} {answer : Option (List ℕ)} {old : S} {before after : Times} {mine : List Search} {own : List Timed} {depth : ℕ} → Took (v.asks old line) (v.reply old line) answer before after mine own depth
    → Next v old line answer mine (depths own) depth
next_line t = record { uses = t.uses; is = t.is }

-- a line was answered with a text
answered_on : {S : Type 0} {v : Service S} {old new : S} {given : List Line} {written : List (List ℕ)} (entries own : List Timed) {asked mine : List Search} {line : Line} {text : List ℕ} {depth : ℕ}
    → Replied v v.begins old given written (depths entries) asked → Next v old line (Some text) mine (depths own) depth → new ≡ v.next old line
    → Replied v v.begins new (given ++ line ∷ []) (written ++ text ∷ []) (depths (entries ++ own)) (asked ++ mine)
answered_on {S} {v} {old} {new} {given} {written} entries own {asked} {mine} {line} {text} {depth} replied next moves =
    subst (λ s. Replied v v.begins s (given ++ line ∷ []) (written ++ text ∷ []) (depths (entries ++ own)) (asked ++ mine)) (sym moves)
    (subst (λ ds. Replied v v.begins (v.next old line) (given ++ line ∷ []) (written ++ text ∷ []) ds (asked ++ mine)) (sym (depths-append entries own))
    (replied_on v v.begins old given written (depths entries) asked line text mine (depths own) depth replied next))

-- a line was answered
pub run_on : {S : Type 0} {v : Service S} {before : World} {old new : ServiceState S} → Run v before old → Rounds v None old new → Run v before new
run_on {S} {v} {before} {old} {new} (bytes, given, written, entries, asked, run) (b1, round) = elim round.does [
  | inl (line, gives, (text, answers, appends)) ↦
      let (mine, own, depth, t) = took (v.asks old.state line) (v.reply old.state line) (Some text) old.times new.times answers.answered in (
        bytes ++ b1,
        given ++ line ∷ [],
        written ++ text ∷ [],
        entries ++ own,
        asked ++ mine,
        record {
          fed = fed_line run.fed round.takes gives;
          replied = answered_on entries own run.replied (next_line t) answers.next;
          wrote =
              on_written before.sides.written old.sides.written new.sides.written (joined (v.preface ∷ written)) text run.wrote appends
              ∙ ap (behind before.sides.written) (sym (joined-append (v.preface ∷ written) (text ∷ []) ∙ ap (λ x. joined (v.preface ∷ written) ++ x) (append-nil text)));
          tells = tells_on run.tells t.tells;
        },
      )
  | inr rests ↦ absurd rests.stops
]

-- The end

-- entries that describe the searches of some lines describe those of equal lines
tells_lines : {S : Type 0} (v : Service S) (ls : List Line) (entries : List Timed) (asked : List Search) (before after : World) → searches v v.begins (depths entries) ls ≡ asked → TellsOf asked entries before.times after.times → TellsOfLines v ls entries before after
tells_lines v ls entries asked before after same tells = subst (λ ss. TellsOf ss entries before.times after.times) (sym same) tells

-- no further line was answered
tells_rest : {asked : List Search} {entries : List Timed} {first old new : Times} → TellsOf asked entries first old → TakesNoTime old new → TellsOf asked entries first new
tells_rest {asked} {entries} {first} {old} {new} tells time =
    subst (λ es. TellsOf asked es first new) (append-nil entries) (subst (λ ss. TellsOf ss (entries ++ []) first new) (append-nil asked) (tells_on tells (tells_none time)))

-- the line that was given ends the run
exits_at : {S : Type 0} {v : Service S} {before : World} {old new : ServiceState S} → Run v before old → Rounds v (Some Over) old new → (input : List ℕ) → before.sides.rest ≡ Some input → (entries : List Timed) × WroteAll v input entries before (left_in before new) new.state
exits_at {S} {v} {before} {old} {new} (bytes, given, written, entries, asked, run) (b1, round) input e = elim round.does [
  | inl (line, gives, (answers, same)) ↦
      let (mine, own, depth, t) = took (v.asks old.state line) (v.reply old.state line) None old.times new.times answers.answered in
      let n = next_line t in
      let fed = fed_line run.fed round.takes gives in
      let (others, p) = fed_prefix input fed e in
      let is : lines input ≡ given ++ (line ∷ others) = p ∙ append_assoc given (line ∷ []) others in
      let ds : depths (entries ++ own) ≡ depths entries ++ depths own = depths-append entries own in
      let all : replies v v.begins (depths (entries ++ own)) (lines input) ≡ written =
      at_both (replies v v.begins) ds is ∙ replied_exit_all line others run.replied n in
      let asks : searches v v.begins (depths (entries ++ own)) (lines input) ≡ asked ++ mine =
      at_both (searches v v.begins) ds is ∙ replied_exit_asks line others run.replied n in (
        entries ++ own,
        record {
          wrote = same ∙ (run.wrote ∙ ap (λ ts. behind before.sides.written (joined (v.preface ∷ ts))) (sym all));
          tells = tells_lines v (lines input) (entries ++ own) (asked ++ mine) before (left_in before new) asks (tells_on run.tells t.tells);
          stands = at_both (last_of v v.begins) ds is ∙ (replied_exit_last line others run.replied n ∙ sym answers.next);
          over =
              inr (
                given ++ line ∷ [],
                given_were_read input fed e round.within round.little,
                subst (λ left. HasExit v v.begins left (given ++ line ∷ [])) (sym ds) (replied_exit line run.replied n),
              );
        },
      )
  | inr rests ↦
      let (all, below) = fed_end input run.fed round.takes rests.stops e in
      let told : replies v v.begins (depths entries) (lines input) ≡ written = ap (replies v v.begins (depths entries)) all ∙ replied_texts run.replied in
      let asks : searches v v.begins (depths entries) (lines input) ≡ asked = ap (searches v v.begins (depths entries)) all ∙ replied_asks run.replied in (
        entries,
        record {
          wrote = rests.same ∙ (run.wrote ∙ ap (λ ts. behind before.sides.written (joined (v.preface ∷ ts))) (sym told));
          tells = tells_lines v (lines input) entries asked before (left_in before new) asks (tells_rest run.tells rests.time);
          stands = ap (last_of v v.begins (depths entries)) all ∙ (replied_last run.replied ∙ sym rests.stands);
          over = inl (all_is_read input run.fed round.takes rests.stops e);
        },
      )
]
  where
    at_both : {A : Type 0} (f : List ℕ → List Line → A) {ds es : List ℕ} {ls ms : List Line} → ds ≡ es → ls ≡ ms → f ds ls ≡ f es ms
    at_both f {ds} {es} {ls} {ms} d l = ap (λ x. f x ls) d ∙ ap (f es) l

held : {S : Type 0} {v : Service S} {before : World} {old : ServiceState S} (new : ServiceState S) {bytes b1 : List ℕ} {given : List Line} {written : List (List ℕ)} {entries : List Timed} {asked : List Search} (input : List ℕ)
    → Runs v before old bytes given written entries asked → Takes old.sides.rest new.sides.rest old.reader.taken new.reader.taken b1 → Holds old.reader b1 new.reader → new.sides.written ≡ old.sides.written
    → TakesNoTime old.times new.times → before.sides.rest ≡ Some input → (read : List ℕ) × (left : List ℕ) × (new.reader.taken ≡ length read) × WroteWhole v input entries before (left_in before new) read left
held {S} {v} {before} {old} new {bytes} {b1} {given} {written} {entries} {asked} input run takes holds same time e =
    let (left, read, all, count) = fed_held input run.fed takes holds e in
    let told : replies v v.begins (depths entries) (whole_lines (bytes ++ b1)) ≡ written = ap (replies v v.begins (depths entries)) all ∙ replied_texts run.replied in
    let asks : searches v v.begins (depths entries) (whole_lines (bytes ++ b1)) ≡ asked = ap (searches v v.begins (depths entries)) all ∙ replied_asks run.replied in (
      bytes ++ b1,
      left,
      count,
      record {
        was_read = read;
        goes_on = subst (λ ls. ¬ HasExit v v.begins (depths entries) ls) (sym all) (replied_open run.replied);
        wrote = same ∙ (run.wrote ∙ ap (λ ts. behind before.sides.written (joined (v.preface ∷ ts))) (sym told));
        tells = tells_lines v (whole_lines (bytes ++ b1)) entries asked before (left_in before new) asks (tells_rest run.tells time);
      },
    )

ends_read_fault : {S : Type 0} {v : Service S} {before : World} {old new : ServiceState S} → Run v before old → Rounds v (Some ReadFailed) old new → (input : List ℕ) → before.sides.rest ≡ Some input
    → (entries : List Timed) × (bytes : List ℕ) × (left : List ℕ) × (length bytes < input_limit) × WroteWhole v input entries before (left_in before new) bytes left
ends_read_fault {S} {v} {before} {old} {new} (bytes, given, written, entries, asked, run) (b1, round) input e = elim round.does [
  | inl (line, gives, never) ↦ absurd never
  | inr rests ↦
      let (holds, below) = rests.stops in
      let (read, left, count, wrote) = held new input run round.takes holds rests.same rests.time e in (entries, read, left, subst (λ n. n < input_limit) count below, wrote)
]

ends_full : {S : Type 0} {v : Service S} {before : World} {old new : ServiceState S} → Run v before old → Rounds v (Some Full) old new → (input : List ℕ) → before.sides.rest ≡ Some input
    → (entries : List Timed) × (bytes : List ℕ) × (left : List ℕ) × (length bytes ≡ input_limit) × WroteWhole v input entries before (left_in before new) bytes left
ends_full {S} {v} {before} {old} {new} (bytes, given, written, entries, asked, run) (b1, round) input e = elim round.does [
  | inl (line, gives, never) ↦ absurd never
  | inr rests ↦
      let (holds, full) = rests.stops in
      let (read, left, count, wrote) = held new input run round.takes holds rests.same rests.time e in (entries, read, left, sym count ∙ full, wrote)
]

ends_write_fault : {S : Type 0} {v : Service S} {before : World} {old new : ServiceState S} → Run v before old → Rounds v (Some WriteFailed) old new → (input : List ℕ) → before.sides.rest ≡ Some input
    → (entries : List Timed) × (read : List Line) × (whole : List (List ℕ)) × (last : List ℕ) × (n : ℕ) × WroteFront v input entries before (left_in before new) read whole last n
ends_write_fault {S} {v} {before} {old} {new} (bytes, given, written, entries, asked, run) (b1, round) input e = elim round.does [
  | inl (line, gives, (text, n, answers, short, wrote)) ↦
      let (mine, own, depth, t) = took (v.asks old.state line) (v.reply old.state line) (Some text) old.times new.times answers.answered in
      let fed = fed_line run.fed round.takes gives in
      let after = answered_on entries own run.replied (next_line t) answers.next in (
        entries ++ own,
        given ++ line ∷ [],
        v.preface ∷ written,
        text,
        n,
        record {
          were_read = given_were_read input fed e round.within round.little;
          goes_on = replied_open after;
          are_texts = ap (λ ts. v.preface ∷ ts) (replied_texts after);
          cut = short;
          wrote = on_written before.sides.written old.sides.written new.sides.written (joined (v.preface ∷ written)) (take n text) run.wrote wrote;
          tells = tells_lines v (given ++ line ∷ []) (entries ++ own) (asked ++ mine) before (left_in before new) (replied_asks after) (tells_on run.tells t.tells);
        },
      )
  | inr rests ↦ absurd rests.stops
]

ends_memory : {S : Type 0} {v : Service S} {before : World} {old new : ServiceState S} → Run v before old → Rounds v (Some NoMemory) old new → (input : List ℕ) → before.sides.rest ≡ Some input
    → (entries : List Timed) × (answered : List Line) × (others : List Line) × (n : ℕ) × WroteTexts v input entries before (left_in before new) answered others n
ends_memory {S} {v} {before} {old} {new} (bytes, given, written, entries, asked, run) (b1, round) input e = elim round.does [
  | inl (line, gives, (unanswered, same)) ↦
      let fed = fed_line run.fed round.takes gives in
      let front : take (length (v.preface ∷ written)) (texts v (depths entries) given) ≡ v.preface ∷ written =
      ap (λ ts. take (length (v.preface ∷ written)) (v.preface ∷ ts)) (replied_texts run.replied) ∙ whole (v.preface ∷ written) in (
        entries,
        given,
        line ∷ [],
        length (v.preface ∷ written),
        record {
          were_read = given_were_read input fed e round.within round.little;
          wrote = same ∙ (run.wrote ∙ ap (λ ts. behind before.sides.written (joined ts)) (sym front));
          appended = unanswered.timed ∙ run.tells.appended;
          told = subst (λ ss. AreTold ss before.times.last entries new.times.last) (sym (replied_asks run.replied))
              (told_until asked entries before.times.last old.times.last new.times.last run.tells.told unanswered.later);
        },
      )
  | inr rests ↦ absurd rests.stops
]
  where
    whole : (ts : List (List ℕ)) → take (length ts) ts ≡ ts
    whole [] = refl
    whole (x ∷ xs) = ap (λ z. x ∷ z) (whole xs)

-- at its end a run is done or refused
over_ends : {S : Type 0} {v : Service S} {before after : World} (refused : Bool) → RunsToEnd v refused before after → EndsAs v (status_of refused Over) before after
over_ends true run = run
over_ends false run = run

-- the run ends like its last round
ends_as : {S : Type 0} {v : Service S} {before : World} {old new : ServiceState S} (stop : Stop) → Run v before old → Rounds v (Some stop) old new → EndsAs v (status_of (v.has_refused new.state) stop) before (left_in before new)
ends_as {S} {v} {before} {old} {new} Over run round = over_ends (v.has_refused new.state) (new.state, refl, λ input e. exits_at run round input e)
ends_as ReadFailed run round = λ input e. ends_read_fault run round input e
ends_as Full run round = λ input e. ends_full run round input e
ends_as WriteFailed run round = λ input e. ends_write_fault run round input e
ends_as NoMemory run round = λ input e. ends_memory run round input e

-- the clock does not fall in the answer to a line
answer_later : {S : Type 0} {v : Service S} {line : Line} {answer : Option (List ℕ)} {old new : S} {before after : Times} → Replies v line answer old new before after → before.last ≤ after.last
answer_later {S} {v} {line} {answer} {old} {new} {before} {after} answers =
    let (mine, own, depth, t) = took (v.asks old line) (v.reply old line) answer before after answers.answered in tells_later t.tells

-- it does not fall in the last round either
ends_later : {S : Type 0} {v : Service S} {old new : ServiceState S} (stop : Stop) → Rounds v (Some stop) old new → old.times.last ≤ new.times.last
ends_later Over (b1, round) = elim round.does [ inl (line, gives, (answers, same)) ↦ answer_later answers | inr rests ↦ no_time_later rests.time ]
ends_later ReadFailed (b1, round) = elim round.does [ inl (line, gives, never) ↦ absurd never | inr rests ↦ no_time_later rests.time ]
ends_later Full (b1, round) = elim round.does [ inl (line, gives, never) ↦ absurd never | inr rests ↦ no_time_later rests.time ]
ends_later WriteFailed (b1, round) = elim round.does [ inl (line, gives, (text, n, answers, short, wrote)) ↦ answer_later answers | inr rests ↦ no_time_later rests.time ]
ends_later NoMemory (b1, round) = elim round.does [ inl (line, gives, (unanswered, same)) ↦ unanswered.later | inr rests ↦ no_time_later rests.time ]

later_on : (a b c : ℕ) → a ≤ b → b ≤ c → a ≤ c
later_on a b c e f = omega (arith, e, f)

ends : {S : Type 0} {v : Service S} {before : World} {old new : ServiceState S} (stop : Stop) → Run v before old → Rounds v (Some stop) old new → ServiceRun v (status_of (v.has_refused new.state) stop) before (left_in before new)
ends {S} {v} {before} {old} {new} stop (bytes, given, written, entries, asked, run) round = record {
  ends = ends_as stop (bytes, given, written, entries, asked, run) round;
  later = later_on before.times.last old.times.last new.times.last (tells_later run.tells) (ends_later stop round);
}

-- and so the run ends with its status
pub run_ends : {S : Type 0} {v : Service S} {before : World} {old new : ServiceState S} (stop : Stop) (refused : Bool) (status : Status) → Run v before old → Rounds v (Some stop) old new → refused ≡ v.has_refused new.state → status ≡ status_of refused stop
    → ServiceRun v status before (left_in before new)
run_ends {S} {v} {before} {old} {new} stop refused status run round is same =
    subst (λ s. ServiceRun v s before (left_in before new)) (sym (same ∙ ap (λ b. status_of b stop) is)) (ends stop run round)

-- memory ran out for the reader
pub no_memory : {S : Type 0} (v : Service S) (before after : World) → after.sides ≡ before.sides → TakesNoTime before.times after.times → ServiceRun v Memory before after
no_memory v before after same time = record {
  ends = λ input e. (
    [],
    [],
    [],
    0,
    record {
      were_read = none_were_read input after.sides.rest (ap (λ s. s.rest) same ∙ e);
      wrote = ap (λ s. s.written) same ∙ behind_none before.sides.written;
      appended = time.timed ∙ sym (append-nil before.times.timed);
      told = no_time_later time;
    },
  );
  later = no_time_later time;
}

-- the preface was not written whole
pub preface_cut : {S : Type 0} (v : Service S) (before after : World) (text : List ℕ) → after.sides.rest ≡ before.sides.rest → text ≡ v.preface → (n : ℕ) × (n < length text) × (after.sides.written ≡ behind before.sides.written (take n text))
    → TakesNoTime before.times after.times → ServiceRun v WriteFault before after
preface_cut v before after text rest is (n, short, wrote) time = record {
  ends = λ input e. (
    [],
    [],
    [],
    v.preface,
    n,
    record {
      were_read = none_were_read input after.sides.rest (rest ∙ e);
      goes_on = λ h. h;
      are_texts = refl;
      cut = subst (λ t. n < length t) is short;
      wrote = wrote ∙ ap (λ t. behind before.sides.written (take n t)) is;
      tells = tells_none time;
    },
  );
  later = no_time_later time;
}
