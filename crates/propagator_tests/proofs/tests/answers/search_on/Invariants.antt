use Rattle.std.proofs.Common.{◌≡◌, length}
use Rattle.propagator_tests.proofs.tests.answers.search_on.Given as goal

-- the search goes over the same objects
abbrev pub invariant-answers : goal.invariant-answers
invariant-answers g l = l.objects ≡ length l.search.walk.first
