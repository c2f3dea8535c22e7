use Rattle.std.proofs.Common.{◌∙◌}
use Rattle.uhp_words.proofs.CommandLaws.{reads_command, refuses, lies_within, command_again, fault_again}
use Rattle.uhp_words.proofs.read.read_command.Goals as goal

pub returns-clause-reads : goal.returns-clause-reads
returns-clause-reads c = reads_command _ _ c.command_of.ensures

pub returns-clause-only : goal.returns-clause-only
returns-clause-only c = λ k h. c.command_of.ensures ∙ command_again _ k h

pub returns-clause-refused : goal.returns-clause-refused
returns-clause-refused c = refuses _ _ c.command_of.ensures

pub returns-clause-each : goal.returns-clause-each
returns-clause-each c = λ fault h. c.command_of.ensures ∙ fault_again _ fault h

pub returns-clause-within : goal.returns-clause-within
returns-clause-within c = lies_within _ _ c.command_of.ensures
