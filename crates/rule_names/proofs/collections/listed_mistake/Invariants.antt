use Rattle.rule_names.proofs.Listed.{ListedSoFar}
use Rattle.rule_names.proofs.collections.listed_mistake.Given as goal

abbrev pub invariant-names : goal.invariant-names
invariant-names l = ListedSoFar l.problem l.names l.name-index l.seen.value l.found
