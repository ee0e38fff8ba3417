use Rattle.std.proofs.Common.{List, subst, sym, pos, ◌≤ℤ◌, rules}
use Rattle.std.specs.List.{All}
use Rattle.geo_conditions.specs.declared.cond.Cond.{Cond}
use Rattle.geo_conditions.specs.Conditions.{FitsIn}
use Rattle.geo_conditions.proofs.Children.{fit_out}
use Rattle.indexical.proofs.Unnamed.{spare_there_by_one}
use Rattle.indexical.proofs.spared_by.+tree_spares_by.Goals as goal

pub loop-child-init : goal.loop-child-init
loop-child-init g t c = subst (λ (ys : List Cond). All (λ e. FitsIn e c.args.s.now) ys) (sym c.as_slice-child-items.ensures) (fit_out c.in-AtLeast.n c.in-AtLeast.children c.args.s.now (subst (λ (e : Cond). FitsIn e c.args.s.now) c.in-AtLeast.is c.requires.fits))

pub returns-then-tree_spares_by : goal.returns-then-tree_spares_by
returns-then-tree_spares_by g t c = λ h.
    let one : c.in-AtLeast.n ≤ℤ pos 1 = search rules in
    spare_there_by_one c.args.c.now c.in-AtLeast.n c.in-AtLeast.children c.as_slice-child-items.result.now c.args.s.now c.args.o.0 c.args.place c.loop-child.child-index c.child-item.result c.in-AtLeast.is c.as_slice-child-items.ensures one c.loop-child-test.true c.child-item.is (c.tree_spares_by.ensures c.if-tree_spares_by.true)
