use Rattle.search_tests.proofs.tests.forbidden.forbidden.Given as goal

abbrev pub ghosts-forbid_with : goal.ghosts-forbid_with
ghosts-forbid_with a = record { name = a.blank.name; parts = a.blank.parts }
