use Rattle.std.proofs.Common.{◌<◌, set, length, sym, ap, ◌∙◌, arith, Option}
use Rattle.std.proofs.lemmas.List.Edits.{map_over_more}
use Rattle.object_pruning.specs.declared.kept.Placed.{Placed}
use Rattle.fixpoint.specs.Kept.{at_most_0}
use Rattle.fixpoint.proofs.kept.retry_sole.Goals as goal

pub loop-slot-preserved : goal.loop-slot-preserved
loop-slot-preserved g c =
    let xs = c.args.kept.now in
    let i = c.loop-slot.slot-index in
    let inside : i < length xs = omega arith in
    let f = λ (y : Option (Placed g.row.K)). at_most_0 c.args.sole.now y in
    ap (set c.loop-slot.kept i) (c.retry_point.ensures ∙ ap f (sym c.slot-item.is)) ∙ map_over_more f xs c.loop-slot.kept i c.slot-item.result inside c.loop-slot.invariant c.slot-item.is
