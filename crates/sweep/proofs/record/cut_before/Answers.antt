use Rattle.std.proofs.Common.{pos, ◌+ℤ◌, ◌-ℤ◌, ap, sym, ◌∙◌, arith, to_z, of_z, w64}
use Rattle.std.proofs.lemmas.Int.{ints}
use Rattle.geo_base.specs.Boxes.{coordinate}
use Rattle.geo_base.specs.Ways.{dimension}
use Rattle.sweep.proofs.RecordSteps.{cut_up, cut_down}
use Rattle.sweep.proofs.record.cut_before.Goals as goal

pub returns-then-up : goal.returns-then-up
returns-then-up g c =
    let way = c.args.way.now in
    let n = c.args.n.now.coordinates in
    let b = c.requires.small c.dimension-d.result c.dimension-d.ensures.within in
    rw c.cut.ensures (cut_up g.row.K way.up c.dimension-d.result (dimension g.row.K way.lead c.args.j) (to_z w64 (of_z w64 (to_z w64 (of_z w64 c.get-jump.result) -ℤ pos 1))) (coordinate n (dimension g.row.K way.lead c.args.j)) (sym c.up.ensures ∙ c.if-up.true) c.dimension-d.ensures.is c.dimension-d.ensures.within
    (omega (arith, ints, c.get-jump.ensures, b.0, b.1), omega (arith, ints, c.get-jump.ensures, b.0, b.1))
    (omega (arith, ints, c.get-jump.ensures, ap (coordinate n) c.dimension-d.ensures.is, b.0, b.1)))

pub returns-else-up : goal.returns-else-up
returns-else-up g c =
    let way = c.args.way.now in
    let n = c.args.n.now.coordinates in
    let b = c.requires.small c.dimension-d.result c.dimension-d.ensures.within in
    rw c.cut-else-up.ensures (cut_down g.row.K way.up c.dimension-d.result (dimension g.row.K way.lead c.args.j) (to_z w64 (of_z w64 (to_z w64 (of_z w64 c.get-jump.result) +ℤ pos 1))) (coordinate n (dimension g.row.K way.lead c.args.j)) (sym c.up.ensures ∙ c.if-up.false) c.dimension-d.ensures.is c.dimension-d.ensures.within
    (omega (arith, ints, c.get-jump.ensures, b.0, b.1), omega (arith, ints, c.get-jump.ensures, b.0, b.1))
    (omega (arith, ints, c.get-jump.ensures, ap (coordinate n) c.dimension-d.ensures.is, b.0, b.1)))
