use Rattle.std.proofs.Common.{refl, map}
use Rattle.problem_text.specs.Canonical.{line_text}
use Rattle.problem_text.proofs.PrintingLists.{joined}
use Rattle.json_sheets.specs.Sheet.{object_sheet}
use Rattle.json_sheets.specs.SheetText.{object_line, lines}
use Rattle.json_sheets.proofs.text.push_objects.Goals as goal

pub objects-preserved : goal.objects-preserved
objects-preserved c =
    joined (λ xs. lines object_line (map object_sheet xs)) (λ x. line_text (object_line (object_sheet x))) (λ x xs. refl) c.args.objects.now c.objects.object-index c.object-item.result _ _ _ c.objects-test.true c.object-item.is (c.in_ok-push_object.ensures {u = tt}) c.objects.invariant
