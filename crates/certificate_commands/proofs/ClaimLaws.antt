-- What a head claims, and what is judged if it claims nothing.
use Rattle.std.proofs.Common.{◌≡◌, ℕ, true, false, refl, sym, ap, ◌∙◌, arith}
use Rattle.std.specs.Prelude.{Result, Ok, Err}
use Rattle.io_edge.specs.Outside.{HasCause}
use Rattle.hive_model.specs.declared.places.Move.{Move}
use Rattle.hive_model.specs.Positions.{Position, opening}
use Rattle.hive_model.specs.Histories.{History, position}
use Rattle.hive_model.specs.Legal.{is_over}
use Rattle.hive_model.specs.Games.{replay}
use Rattle.move_text.specs.declared.faults.MoveFault.{MoveFault}
use Rattle.move_text.specs.Moves.{move_of}
use Rattle.strategy_check.specs.declared.why.Why.TheVariants.{NoSuchMove}
use Rattle.certificate_text.specs.declared.head.Head.{Head}
use Rattle.certificate_verdicts.specs.declared.verdict.TextVerdict.TheVariants.{Refused, GameOver}
use Rattle.certificate_verdicts.proofs.JudgeLaws.{most-read}
use Rattle.certificate_verdicts.proofs.TextLaws.{if-open}
use Rattle.certificate_commands.specs.Claims.{NoClaim}
use Rattle.certificate_commands.specs.Verdicts.{claimed_move, end_of, of_claim, of_move}

-- the game in progress is at the end of the game of the head
pub ends-there : (head : Head) (c : History) → c.game_type ≡ head.game_type → c.made ≡ head.moves → position c ≡ end_of head
ends-there head c kind made = λ i. replay (opening (kind i)) (made i)

-- nothing is claimed if the game is over,
pub none-of-over : (head : Head) (c : History) → c.game_type ≡ head.game_type → c.made ≡ head.moves → is_over (position c) ≡ true → NoClaim head (Ok GameOver)
none-of-over head c kind made over =
    let ended : is_over (end_of head) ≡ true = sym (ap is_over (ends-there head c kind made)) ∙ over in record {
      judges = λ rest. let same : of_claim head rest ≡ GameOver = rw ended refl in same;
      refuses = λ e. cc;
      has_read = λ e. cc;
      read = λ text left reader r. most-read 5 text left reader r;
    }

-- or if the text of the move denotes none
pub none-of-move : (head : Head) (c : History) (fault : MoveFault) → c.game_type ≡ head.game_type → c.made ≡ head.moves → is_over (position c) ≡ false → claimed_move head ≡ Err fault → NoClaim head (Ok (Refused 0 NoSuchMove))
none-of-move head c fault kind made goes none =
    let open_ : is_over (end_of head) ≡ false = sym (ap is_over (ends-there head c kind made)) ∙ goes in record {
      judges = λ rest.
          if-open (is_over (end_of head)) (of_move head.version (end_of head) head.depth (claimed_move head) head.value rest) open_
          ∙ ap (λ r. of_move head.version (end_of head) head.depth r head.value rest) none;
      refuses = λ e. cc;
      has_read = λ e. cc;
      read = λ text left reader r. most-read 5 text left reader r;
    }

-- the move that a text denotes on the board of the game in progress
pub denoted : (head : Head) (c : History) (read : Result Move MoveFault) → c.game_type ≡ head.game_type → c.made ≡ head.moves → read ≡ move_of head.game_type (position c).board head.claim_text → claimed_move head ≡ read
denoted head c read kind made is = ap (λ (p : Position). move_of head.game_type p.board head.claim_text) (sym (ends-there head c kind made)) ∙ sym is

-- a failure that is impossible does not change the count of faults
pub no-cause : {A : Type 0} (faults : ℕ) → (A → ⊥) → HasCause A faults faults
no-cause faults never = record { later = omega arith; rose = λ e. absurd (never e); same = λ fine. refl }
