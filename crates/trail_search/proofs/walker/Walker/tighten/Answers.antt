use Rattle.std.proofs.Common.{◌≡◌, length, ap, subst, arith, ℤ}
use Rattle.geo_conditions.specs.Reach.{State}
use Rattle.trail_search.specs.Walker.{Position, depth}
use Rattle.trail_search.specs.Variables.{variable_of}
use Rattle.trail_search.specs.Cursor.{HasDimension, Narrows, IsFrom}
use Rattle.trail_search.proofs.Walking.{object_at, fact_at}
use Rattle.geo_state.proofs.Numbers.{kept64}
use Rattle.trail_search.proofs.walker.Walker.tighten.Goals as goal

pub bound-requires : goal.bound-requires
bound-requires g c =
    let p = c.args.self.now in
    let w = c.requires.well in
    let e = c.variable-x.ensures in
    let o = object_at p.first p.variables (depth p) (variable_of c.variable-x.result) w.objects c.requires.number e in
    let s : c.self.inside.trail.state ≡ p.trail.state = ap (λ (q : Position). q.trail.state) c.self.view_is in
    (omega arith, (c.requires.k, (omega (arith, o, w.inside.objects, ap length s), fact_at (HasDimension g.row.K) p.variables (depth p) (variable_of c.variable-x.result) w.dimensions c.requires.number e)))

pub returns-clause-tight : goal.returns-clause-tight
returns-clause-tight g c =
    let p = c.args.self.now in
    let s : c.self.inside.trail.state ≡ p.trail.state = ap (λ (q : Position). q.trail.state) c.self.view_is in (
      variable_of c.variable-x.result,
      c.variable-x.ensures,
      subst (λ (S : State). Narrows S c.bound.new.t.state (λ T. IsFrom T (variable_of c.variable-x.result) c.args.v)) s
          (subst (λ (z : ℤ). Narrows c.self.inside.trail.state c.bound.new.t.state (λ T. IsFrom T (variable_of c.variable-x.result) z)) (kept64 c.args.v c.ranges.v.sfits) c.bound.ensures.narrows),
    )
