use Rattle.line_services.proofs.DoneLaws.{replay_of_lines}
use Rattle.line_services.proofs.laws.replays_answer_each_line.Goals as goal

pub returns : goal.returns
returns c = replay_of_lines
