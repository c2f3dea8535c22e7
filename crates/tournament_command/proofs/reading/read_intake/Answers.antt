use Rattle.std.proofs.Common.{◌≡◌, true, false, refl, ◌∙◌, arith, length, rules}
use Rattle.tournament_command.proofs.Gathering.{all_gathered, ended, few_gathered, line_gathered, none_after, none_before, none_gathered, nothing_kept, went_on}
use Rattle.tournament_command.proofs.reading.read_intake.Goals as goal

pub returns-in_default-clause-none : goal.returns-in_default-clause-none
returns-in_default-clause-none g c = none_before c.args.programs.now c.args.format (g.S.Source.rest c.args.input.now)

pub lines-init : goal.lines-init
lines-init g c = record {
  gathered = none_gathered c.args.programs.now c.args.format _ c.in-Ok.reader c.new-intake.result c.in-Ok.ensures c.new-intake.ensures;
  valid = nothing_kept (length c.args.programs.now) c.args.format c.new-intake.result c.new-intake.ensures;
  reads = refl;
}

pub take_next-requires-clause-room : goal.take_next-requires-clause-room
take_next-requires-clause-room g c = let few = few_gathered c.lines.invariant.gathered in omega (arith, few)

pub lines-preserved : goal.lines-preserved
lines-preserved g c =
    let (bytes, taken, next) = c.in-Ok-take_next.ensures.given in
    let on : c.in-Ok-take_next.more ≡ true = search rules in
    let (line, takes) = went_on c.args.programs.now c.args.format c.lines.intake c.take_next.new.intake c.in-Ok-take_next.more bytes c.lines.reader c.take_next.new.reader _ on next in record {
      gathered = line_gathered c.lines.invariant.gathered taken takes;
      valid = c.in-Ok-take_next.ensures.valid;
      reads = c.in-Ok-take_next.ensures.cause.same (λ e. cc) ∙ c.lines.invariant.reads;
    }

pub returns-then-not-more-clause-told : goal.returns-then-not-more-clause-told
returns-then-not-more-clause-told g c =
    let (bytes, taken, next) = c.in-Ok-take_next.ensures.given in
    let off : c.in-Ok-take_next.more ≡ false = search rules in
    all_gathered c.lines.invariant.gathered taken (ended c.args.programs.now c.args.format c.lines.intake c.take_next.new.intake c.in-Ok-take_next.more bytes c.lines.reader c.take_next.new.reader _ off next)

pub returns-in-Err-clause-none : goal.returns-in-Err-clause-none
returns-in-Err-clause-none g c =
    let (bytes, taken, none) = c.in-Err.ensures.given in
    none_after c.in-Err.none c.lines.invariant.gathered taken none
