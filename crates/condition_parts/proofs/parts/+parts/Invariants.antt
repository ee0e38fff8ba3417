use Rattle.condition_parts.proofs.Under.{PutsFirst}
use Rattle.condition_parts.proofs.parts.+parts.Given as goal

abbrev pub invariant-put_each-loop-c : goal.invariant-put_each-loop-c
invariant-put_each-loop-c l = PutsFirst l.before l.c-items l.c-index l.fn.parts.items l.parts.items
