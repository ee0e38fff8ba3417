use Rattle.std.proofs.Common.{pos, refl, rules}
use Rattle.std.specs.Prelude.{flat_map}
use Rattle.problem_text.specs.Canonical.{int_spelling}
use Rattle.problem_text.proofs.PrintingLists.{joined_at}
use Rattle.problem_text.proofs.print.part.spell_ints.Goals as goal

pub values-preserved : goal.values-preserved
values-preserved c = joined_at (λ xs. flat_map int_spelling xs) int_spelling (λ x xs. refl) c.args.values.now c.values.value-index (pos 0) _ _ _ _ c.values-test.true (search rules) (c.in_ok-spell_int.ensures {u = tt}) c.values.invariant
