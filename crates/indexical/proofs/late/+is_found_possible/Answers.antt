use Rattle.std.proofs.Common.{List, subst, sym, pos, ◌≤ℤ◌, rules}
use Rattle.std.specs.List.{All}
use Rattle.geo_conditions.specs.declared.cond.Cond.{Cond}
use Rattle.geo_conditions.specs.Conditions.{FitsIn}
use Rattle.geo_conditions.specs.Reach.{with_at}
use Rattle.geo_conditions.specs.Regions.{region_of}
use Rattle.geo_conditions.proofs.Children.{fit_out}
use Rattle.indexical.proofs.Children.{possible_by_one}
use Rattle.indexical.proofs.late.+is_found_possible.Goals as goal

pub loop-child-init : goal.loop-child-init
loop-child-init g t c = subst (λ (ys : List Cond). All (λ e. FitsIn e c.args.s.now) ys) (sym c.as_slice-child-items.ensures) (fit_out c.in-AtLeast.n c.in-AtLeast.children c.args.s.now (subst (λ (e : Cond). FitsIn e c.args.s.now) c.in-AtLeast.is c.requires.fits))

pub returns-then-is_found_possible : goal.returns-then-is_found_possible
returns-then-is_found_possible g t c = λ h.
    let one : c.in-AtLeast.n ≤ℤ pos 1 = search rules in
    let T = with_at c.args.s.now c.args.o.0 c.args.place (region_of c.args.b.now) in
    possible_by_one c.args.cond.now c.in-AtLeast.n c.in-AtLeast.children c.as_slice-child-items.result.now T c.loop-child.child-index c.child-item.result c.in-AtLeast.is c.as_slice-child-items.ensures one c.loop-child-test.true c.child-item.is (c.is_found_possible.ensures c.if-is_found_possible.true)
