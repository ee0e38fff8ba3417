use Rattle.std.proofs.Common.{◌<◌, set, length, sym, ap, ◌∙◌, arith, Option}
use Rattle.std.proofs.lemmas.List.Edits.{map_over_more}
use Rattle.object_pruning.specs.declared.kept.Placed.{Placed}
use Rattle.object_pruning.specs.Kept.{retried}
use Rattle.object_pruning.proofs.kept.retry.Goals as goal

pub loop-slot-preserved : goal.loop-slot-preserved
loop-slot-preserved g c =
    let xs = c.args.kept.now in
    let i = c.loop-slot.slot-index in
    let inside : i < length xs = omega arith in
    let f = λ (y : Option (Placed g.row.K)). retried (g.I.Indexical.cond c.args.x.now) c.args.s.now c.args.o.0 y in
    record {
      kept = ap (set c.loop-slot.kept i) (c.retry_one.ensures.kept ∙ ap f (sym c.slot-item.is)) ∙ map_over_more f xs c.loop-slot.kept i c.slot-item.result inside c.loop-slot.invariant.kept c.slot-item.is;
      last = c.retry_one.ensures.last;
    }
