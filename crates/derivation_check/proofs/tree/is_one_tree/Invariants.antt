use Rattle.std.proofs.Common.{◌≡◌, [], ◌∷◌, reverse, drop}
use Rattle.derivation_check.specs.declared.tree.Wanted.TheVariants as wants
use Rattle.derivation_check.specs.Wanted.{spells}
use Rattle.derivation_check.proofs.tree.is_one_tree.Given as goal

abbrev pub invariant-loop-e : goal.invariant-loop-e
invariant-loop-e l = spells (drop l.e-index l.events) (reverse l.stack.items) ≡ spells l.events (wants.Node ∷ [])
