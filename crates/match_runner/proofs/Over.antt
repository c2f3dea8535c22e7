-- The match that a run answers, by both links and the clock.
use Rattle.std.proofs.Common.{◌≡◌, ◌≤◌, ℕ, ◌+◌, inl, inr, ap, sym, ◌∙◌, subst}
use Rattle.io_edge.specs.Outside.{Rose}
use Rattle.hive_model.specs.declared.pieces.Colour.TheVariants.{White, Black}
use Rattle.line_feed.specs.Feed.{Reading as Reader, HoldsLittle, fresh}
use Rattle.match_core.specs.Setups.{FullSetup}
use Rattle.match_core.specs.Keeps.{IsFullSetup}
use Rattle.match_core.specs.MatchState.{MatchState, start}
use Rattle.match_runner.specs.declared.turns.Acted.{Acted}
use Rattle.match_runner.specs.declared.turns.Acted.TheVariants.{GoOn, Finished, ReadFault, WriteFault, Memory}
use Rattle.match_runner.specs.Wires.{HasFailed, Watch, Wire}
use Rattle.match_runner.specs.Turns.{Side, HasCauses, LeavesClock, Turns, looks_at, side_of}
use Rattle.match_runner.specs.Runs.{FinalRun, Ran, RanOver, Run}
use Rattle.match_runner.proofs.Causes.{broke_final}
use Rattle.match_runner.proofs.Histories.{history_final, late_run_final, lates_final, timed_final}
use Rattle.match_runner.proofs.Fronting.{front_final}
use Rattle.match_runner.proofs.Judged.{final_judged}
use Rattle.match_runner.proofs.Lates.{late_final}
use Rattle.match_runner.proofs.Looks.{read_final}
use Rattle.match_runner.proofs.Progress.{cut_at, ran_whole, rose_from}
use Rattle.match_runner.proofs.SameSetup.{final_same}
use Rattle.match_runner.proofs.Telling.{told_run}
use Rattle.match_runner.proofs.Verdicts.{verdict_run}

-- a match that begins is the start of its own setup
pub begins_own : (setup : FullSetup) (s : MatchState) → s ≡ start setup → s ≡ start s.setup
begins_own setup s e = e ∙ ap start (ap (λ (x : MatchState). x.setup) (sym e))

pub full_own : (setup : FullSetup) (s : MatchState) → s ≡ start setup → IsFullSetup setup → IsFullSetup s.setup
full_own setup s e is = subst IsFullSetup (ap (λ (x : MatchState). x.setup) (sym e)) is

pub ran_by : (own setup : FullSetup) (t : MatchState) (w0 w b0 b : Wire) (r0 r : Watch) → own ≡ setup → RanOver own t w0 w b0 b r0 r → RanOver setup t w0 w b0 b r0 r
ran_by own setup t w0 w b0 b r0 r e ran = subst (λ x. RanOver x t w0 w b0 b r0 r) e ran

-- all that is known of the match that a run answers
ran_over : (setup : FullSetup) (t : MatchState) (w0 w b0 b : Wire) (r0 r : Watch) → IsFullSetup setup → FinalRun setup t w0 w b0 b r0 r → RanOver setup t w0 w b0 b r0 r
ran_over setup t w0 w b0 b r0 r is final = record {
  events = final;
  links = record {
    same = final_same setup t w0 w b0 b r0 r is final;
    judged = final_judged setup t w0 w b0 b r0 r final;
    broke = broke_final setup t w0 w b0 b r0 r final;
    front = front_final setup t w0 w b0 b r0 r is final;
    verdict = verdict_run setup t w0 w b0 b r0 r is final;
    told = told_run setup t w0 w b0 b r0 r is final;
    history = history_final setup t w0 w b0 b r0 r final;
    lates = lates_final setup t w0 w b0 b r0 r final;
    late = late_run_final setup t w0 w b0 b r0 r is final;
  };
  late = late_final setup t w0 w b0 b r0 r is final;
  history = timed_final setup t w0 w b0 b r0 r final;
  readings = read_final setup t w0 w b0 b r0 r final;
}

-- an act after which the run is over
abbrev pub IsLast : Acted → Type 0
IsLast GoOn = ⊥
IsLast Finished = Unit {0}
IsLast (ReadFault side) = Unit {0}
IsLast (WriteFault side) = Unit {0}
IsLast Memory = ⊥

-- which counts rose by an act that failed
pub record Rises (turn : Acted) (w0 w b0 b : Wire) : Type 0 where
  pub white_reads : turn ≡ ReadFault White → Rose w0.reads w.reads
  pub white_writes : turn ≡ WriteFault White → Rose w0.writes w.writes
  pub black_reads : turn ≡ ReadFault Black → Rose b0.reads b.reads
  pub black_writes : turn ≡ WriteFault Black → Rose b0.writes b.writes

pub rises : (turn : Acted) (w0 w b0 b : Wire) (w_reads w_writes b_reads b_writes : ℕ) → w0.reads ≤ w_reads → w0.writes ≤ w_writes → b0.reads ≤ b_reads → b0.writes ≤ b_writes
    → HasCauses turn White w_reads w.reads w_writes w.writes → HasCauses turn Black b_reads b.reads b_writes b.writes → Rises turn w0 w b0 b
rises turn w0 w b0 b w_reads w_writes b_reads b_writes wr ww br bw white black = record {
  white_reads = λ e. rose_from _ _ _ wr (white.reads.rose e);
  white_writes = λ e. rose_from _ _ _ ww (white.writes.rose e);
  black_reads = λ e. rose_from _ _ _ br (black.reads.rose e);
  black_writes = λ e. rose_from _ _ _ bw (black.writes.rose e);
}

last_act : (turn : Acted) (setup : FullSetup) (s t : MatchState) (w0 w2 b0 b2 : Wire) (x0 x x2 y0 y y2 : Side) (r0 r r2 : Watch) → IsLast turn → Run setup s x0 x y0 y r0 r → Turns turn s t x x2 y y2 r.last r2.last → r2.readings ≤ r.readings + looks_at s.stage
    → Rises turn w0 w2 b0 b2 → Ran setup t x0 x2 y0 y2 r0 r2 (HasFailed w0 w2) (HasFailed b0 b2)
last_act GoOn setup s t w0 w2 b0 b2 x0 x x2 y0 y y2 r0 r r2 over run turned c rises = absurd over
last_act Memory setup s t w0 w2 b0 b2 x0 x x2 y0 y y2 r0 r r2 over run turned c rises = absurd over
last_act Finished setup s t w0 w2 b0 b2 x0 x x2 y0 y y2 r0 r r2 over run turned c rises = ran_whole setup s t x0 x x2 y0 y y2 r0 r r2 _ _ run turned c
last_act (ReadFault side) setup s t w0 w2 b0 b2 x0 x x2 y0 y y2 r0 r r2 over run turned c rises = cut_at side setup s t x0 x x2 y0 y y2 r0 r r2 _ _ run (inr turned.0) turned.1 turned.2 c (λ e. inl (rises.white_reads (ap ReadFault e))) (λ e. inl (rises.black_reads (ap ReadFault e)))
last_act (WriteFault side) setup s t w0 w2 b0 b2 x0 x x2 y0 y y2 r0 r r2 over run turned c rises = cut_at side setup s t x0 x x2 y0 y y2 r0 r r2 _ _ run (inl turned.0) turned.1 turned.2 c (λ e. inr (rises.white_writes (ap WriteFault e))) (λ e. inr (rises.black_writes (ap WriteFault e)))

-- the run is over after this act
pub ends_over : (turn : Acted) (setup : FullSetup) (s t : MatchState) (w_reader b_reader : Reader) (w0 w2 b0 b2 : Wire) (w b : Side) (r0 r r2 : Watch) → IsFullSetup setup → IsLast turn
    → Run setup s (side_of fresh w0.rest w0.written) w (side_of fresh b0.rest b0.written) b r0 r
    → Turns turn s t w (side_of w_reader w2.rest w2.written) b (side_of b_reader b2.rest b2.written) r.last r2.last → LeavesClock s.stage r r2
    → HoldsLittle w_reader → HoldsLittle b_reader → Rises turn w0 w2 b0 b2 → RanOver setup t w0 w2 b0 b2 r0 r2
ends_over turn setup s t w_reader b_reader w0 w2 b0 b2 w b r0 r r2 is over run turned clock wl bl rises =
    ran_over setup t w0 w2 b0 b2 r0 r2 is (record {
      white_reader = w_reader;
      black_reader = b_reader;
      white_little = wl;
      black_little = bl;
      ran = last_act turn setup s t w0 w2 b0 b2 _ w _ _ b _ r0 r r2 over run turned clock.no_more rises;
    })
