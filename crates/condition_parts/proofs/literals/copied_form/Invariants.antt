use Rattle.std.proofs.Common.{◌≡◌, map, take}
use Rattle.geo_conditions.specs.Terms.{term_of}
use Rattle.condition_parts.proofs.literals.copied_form.Given as goal

abbrev pub invariant-loop-term : goal.invariant-loop-term
invariant-loop-term l = map term_of l.terms.items ≡ take l.term-index l.term-items
