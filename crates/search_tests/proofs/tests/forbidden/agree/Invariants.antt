use Rattle.search_tests.proofs.tests.forbidden.agree.Given as goal

abbrev pub ghosts-agree_with : goal.ghosts-agree_with
ghosts-agree_with a = record { name = a.blank.name; parts = a.blank.parts }
