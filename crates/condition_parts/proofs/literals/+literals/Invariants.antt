use Rattle.condition_parts.proofs.Either.{AddsFirst}
use Rattle.condition_parts.proofs.literals.+literals.Given as goal

abbrev pub invariant-put_all-loop-c : goal.invariant-put_all-loop-c
invariant-put_all-loop-c l = AddsFirst l.conditions l.c-index l.fn.literals.items l.literals.items
