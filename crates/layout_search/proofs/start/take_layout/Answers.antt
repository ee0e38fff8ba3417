use Rattle.std.proofs.Common.{◌<◌, ap, length, subst, sym, arith, ◌∙◌}
use Rattle.layout_search.proofs.Spots.{none-taken, one-taken, all-taken}
use Rattle.trail_search.specs.Next.{HasFound}
use Rattle.problem_data.specs.Cells.{IsWideTuple}
use Rattle.layout_search.proofs.start.take_layout.Goals as goal

pub loop-i-init : goal.loop-i-init
loop-i-init g c = λ t found is. none-taken c.args.problem.now t is c.args.layout.now c.requires.room

pub loop-i-preserved : goal.loop-i-preserved
loop-i-preserved g c = λ t found is.
    let n = ap length c.objects-i-end.ensures in
    let h : c.loop-i.i < length c.args.problem.now.objects = omega (arith, c.loop-i-test.true, n) in
    one-taken c.args.problem.now t is c.loop-i.layout c.put_spot.new.layout c.loop-i.i h (c.loop-i.invariant t found is) (c.put_spot.ensures t found ((is.each c.loop-i.i h).form.dimensions ∙ c.requires.dims))

pub returns-clause-found : goal.returns-clause-found
returns-clause-found g c =
    let n = ap length c.objects-i-end.ensures in
    let (t, is, found) = c.requires.found in
    subst (HasFound c.args.search.now) (sym (all-taken c.args.problem.now t is c.loop-i.layout c.loop-i.i (omega (arith, c.loop-i-test.false, n)) (c.loop-i.invariant t found is))) found

pub returns-clause-tuple : goal.returns-clause-tuple
returns-clause-tuple g c =
    let n = ap length c.objects-i-end.ensures in
    let (t, is, found) = c.requires.found in
    subst (IsWideTuple c.args.problem.now) (sym (all-taken c.args.problem.now t is c.loop-i.layout c.loop-i.i (omega (arith, c.loop-i-test.false, n)) (c.loop-i.invariant t found is))) is
