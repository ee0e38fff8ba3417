use Rattle.std.proofs.Common.{List, subst, sym, refl, rules}
use Rattle.std.specs.List.{All}
use Rattle.geo_conditions.specs.declared.cond.Cond.{Cond, AtLeast}
use Rattle.geo_conditions.specs.Conditions.{FitsIn}
use Rattle.geo_conditions.proofs.Children.{fit_out}
use Rattle.indexical.proofs.Unnamed.{spare_there_by_one}
use Rattle.indexical.proofs.spared_by.part_spares_at.Goals as goal

pub tree_spares-requires : goal.tree_spares-requires
tree_spares-requires g c =
    let xs = c.as_slice-parts.result.now in
    let S = c.args.s.now in
    let x = c.index-parts-i.result in
    let fits : All (λ e. FitsIn e S) xs = subst (λ (ys : List Cond). All (λ e. FitsIn e S) ys) (sym c.as_slice-parts.ensures) (fit_out c.args.n c.args.children.now S c.requires.fits) in
    let here : FitsIn x S = subst (λ (y : Cond). FitsIn y S) (sym c.index-parts-i.is) (fits c.args.i x c.if-i-parts.true) in
    search rules

pub returns-then-i-parts : goal.returns-then-i-parts
returns-then-i-parts g c = λ h.
    let n = c.args.n in
    let children = c.args.children.now in
    spare_there_by_one (AtLeast n children) n children c.as_slice-parts.result.now c.args.s.now c.args.o.0 c.args.place c.args.i c.index-parts-i.result refl c.as_slice-parts.ensures c.requires.one c.if-i-parts.true c.index-parts-i.is (c.tree_spares.ensures h)
