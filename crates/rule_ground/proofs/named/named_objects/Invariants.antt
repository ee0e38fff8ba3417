use Rattle.std.proofs.Common.{◌≡◌}
use Rattle.std.specs.List.{filter, range_with_len}
use Rattle.rule_expand.specs.PlainView.{plain_formula_view}
use Rattle.rule_expand.specs.declared.plain.Subject.TheVariants as subjects
use Rattle.rule_ground.specs.Grounding.{needs}
use Rattle.rule_ground.proofs.named.named_objects.Given as goal

abbrev pub invariant-loop-o : goal.invariant-loop-o
invariant-loop-o l = l.names.items ≡ filter (λ u. needs (subjects.Object u) (plain_formula_view l.f)) (range_with_len 0 l.o)
