use Rattle.std.proofs.Common.{◌≡◌, map}
use Rattle.search_tests.proofs.tests.indexicals.indexicals.Given as goal

-- each condition so far is that of its indexical
abbrev pub invariant-loop-c : goal.invariant-loop-c
invariant-loop-c g l = map (λ x. x.cond) l.list.items ≡ l.yielded
