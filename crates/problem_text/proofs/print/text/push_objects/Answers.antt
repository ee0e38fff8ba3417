use Rattle.std.proofs.Common.{refl, map}
use Rattle.std.specs.Prelude.{flat_map}
use Rattle.problem_text.specs.Canonical.{line_text, object_spelling}
use Rattle.problem_text.proofs.PrintingLists.{joined}
use Rattle.problem_text.proofs.print.text.push_objects.Goals as goal

pub objects-preserved : goal.objects-preserved
objects-preserved c = joined (λ xs. flat_map (λ o. line_text (object_spelling (map (λ s. s.name) c.args.shapes.now) o)) xs) (λ o. line_text (object_spelling (map (λ s. s.name) c.args.shapes.now) o)) (λ x xs. refl) c.args.objects.now c.objects.object-index c.object-item.result _ _ _ c.objects-test.true c.object-item.is (c.in_ok-push_object.ensures {u = tt}) c.objects.invariant
