use Rattle.rules_tests.proofs.hives.is_cut.Given as goal

abbrev pub ghosts-is_cut_by : goal.ghosts-is_cut_by
ghosts-is_cut_by a = record { name = a.blank.name; parts = a.blank.parts }
