use Rattle.search_tests.proofs.tests.first_points.swept.Given as goal

abbrev pub ghosts-sweep_with : goal.ghosts-sweep_with
ghosts-sweep_with g a = record { name = a.blank.name; parts = a.blank.parts }
