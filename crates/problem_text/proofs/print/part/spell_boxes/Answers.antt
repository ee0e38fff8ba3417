use Rattle.std.proofs.Common.{refl}
use Rattle.std.specs.Prelude.{flat_map}
use Rattle.problem_text.specs.Canonical.{box_spelling}
use Rattle.problem_text.proofs.PrintingLists.{joined}
use Rattle.problem_text.proofs.print.part.spell_boxes.Goals as goal

pub boxes-preserved : goal.boxes-preserved
boxes-preserved c = joined (λ xs. flat_map box_spelling xs) box_spelling (λ x xs. refl) c.args.boxes.now c.boxes.own-index c.own-item.result _ _ _ c.boxes-test.true c.own-item.is (c.in_ok-spell_box.ensures {u = tt}) c.boxes.invariant
