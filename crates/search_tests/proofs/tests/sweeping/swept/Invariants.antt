use Rattle.search_tests.proofs.tests.sweeping.swept.Given as goal

abbrev pub ghosts-swept_with : goal.ghosts-swept_with
ghosts-swept_with a = record { name = a.blank.name; parts = a.blank.parts }
