use Rattle.std.proofs.Common.{refl, ap, ◌∙◌, ◌++◌, List, map}
use Rattle.std.specs.Prelude.{flat_map}
use Rattle.rule_print.specs.Canonical.{written}
use Rattle.problem_data.specs.Problem.{RangeData}
use Rattle.problem_text.specs.Canonical.{pieces_spelling}
use Rattle.problem_text.proofs.PrintingLists.{joined}
use Rattle.problem_text.proofs.print.part.spell_each_pieces.Goals as goal

pub each-preserved : goal.each-preserved
each-preserved c = joined (λ xs. flat_map pieces_spelling xs) pieces_spelling (λ x xs. refl) c.args.ranges.now c.each.pieces-index c.pieces-item.result _ _ _ c.each-test.true c.pieces-item.is
    (c.in_ok-spell_pieces.ensures {u = tt} ∙ ap (λ (rs : List RangeData). map written c.each.into.items ++ pieces_spelling rs) c.ranges-in-each.ensures) c.each.invariant
