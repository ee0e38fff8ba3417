use Rattle.std.proofs.Common.{Some, ap, sym, ◌∙◌, subst, ℤ, pos, negsuc, ◌≤ℤ◌}
use Rattle.geo_conditions.specs.Reach.{State}
use Rattle.geo_state.specs.Trail.{Trail}
use Rattle.trail_search.specs.Cursor.{Narrows, IsFrom}
use Rattle.trail_search.specs.Walker.{FirstBound, IsToken}
use Rattle.geo_state.proofs.Numbers.{kept64}
use Rattle.trail_search.proofs.Walking.{same_trans, bound_small, bound_fits}
use Rattle.trail_search.proofs.Loop.{set_off_free, set_off_after}
use Rattle.trail_search.proofs.walker.Walker.set_off.Goals as goal

pub returns-in-Some-clause-searches : goal.returns-in-Some-clause-searches
returns-in-Some-clause-searches g c = λ cs.
    let p = c.args.self.now in
    let e = c.tighten.new.self in
    let r = c.follow.new.self in
    let q = c.follow.ensures.trail in
    let b : FirstBound p (Some c.in-Some.v) = subst (FirstBound p) c.in-Some.is c.first_bound.ensures in
    let small = (subst (IsToken p.variables) b.1 c.requires.well.token).1 in
    let f = subst (λ (z : ℤ). (negsuc 2000000 ≤ℤ z) × (z ≤ℤ pos 2000001)) (sym b.2) (bound_small p.variables b.0 0 small) in
    let y = c.tighten.ensures.tight.0 in
    let j : Narrows p.trail.state e.trail.state (λ T. IsFrom T y c.in-Some.v) = subst (λ (z : ℤ). Narrows p.trail.state e.trail.state (λ T. IsFrom T y z)) (kept64 c.in-Some.v (bound_fits c.in-Some.v f)) c.tighten.ensures.tight.2 in
    set_off_after g.row.K cs p r c.in-Some.v y c.requires.well c.requires.some c.requires.fresh b (same_trans p e r c.tighten.ensures.same c.follow.ensures.same) (ap (λ (t : Trail). t.restores) q ∙ c.tighten.ensures.restores) c.follow.ensures.along (c.follow.ensures.walked ∙ c.tighten.ensures.walked) c.tighten.ensures.tight.1
    (subst (λ (S : State). Narrows p.trail.state S (λ T. IsFrom T y c.in-Some.v)) (sym (ap (λ (t : Trail). t.state) q)) j)

pub returns-in_default-clause-searches : goal.returns-in_default-clause-searches
returns-in_default-clause-searches g c = λ cs.
    let p = c.args.self.now in
    set_off_free g.row.K cs p c.requires.well c.requires.some c.requires.fresh (subst (FirstBound p) c.in_default.is c.first_bound.ensures)
