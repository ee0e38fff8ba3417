use Rattle.std.proofs.Common.{◌≡◌, ap, sym, ◌∙◌, subst, arith}
use Rattle.geo_conditions.specs.Reach.{State, Inside}
use Rattle.trail_search.specs.Walker.{Position}
use Rattle.geo_state.specs.Settle.{SettlesOr}
use Rattle.geo_state.proofs.Fits.{all_fit}
use Rattle.trail_search.proofs.Standing.{settled_in, settles_inside, well_settled}
use Rattle.trail_search.proofs.Recording.{settled_if}
use Rattle.trail_search.proofs.walker.Walker.settle.Goals as goal

pub settle-requires : goal.settle-requires
settle-requires g c =
    let p = c.args.self.now in
    let w = c.requires.well in
    let s : p.trail.state ≡ c.self.inside.trail.state = sym (ap (λ (q : Position). q.trail.state) c.self.view_is) in
    let i : Inside c.self.inside.trail.state p.first = subst (λ (S : State). Inside S p.first) s w.inside in
    (omega arith, (c.requires.k, (i.objects ∙ c.requires.objects, all_fit (g.P.Propagate.conditions c.args.prop.now) p.first c.self.inside.trail.state i c.requires.fits)))

pub returns-clause-settled : goal.returns-clause-settled
returns-clause-settled g c =
    let p = c.args.self.now in
    let cs = g.P.Propagate.conditions c.args.prop.now in
    let h : SettlesOr cs p.trail.state c.settle.result c.settle.new.t.state = subst (λ (S : State). SettlesOr cs S c.settle.result c.settle.new.t.state) (ap (λ (q : Position). q.trail.state) c.self.view_is) c.settle.ensures.settles in
    settled_in cs p _ c.settle.result
    (record { first = ap (λ (q : Position). q.first) c.self.view_is; variables = ap (λ (q : Position). q.variables) c.self.view_is; token = ap (λ (q : Position). q.token) c.self.view_is })
    h
    (c.settle.ensures.levels.1 ∙ ap (λ (q : Position). q.trail.restores) c.self.view_is)
    (ap (λ (q : Position). q.values) c.self.view_is)
    (ap (λ (q : Position). q.along) c.self.view_is)
    (ap (λ (q : Position). q.walked) c.self.view_is)

pub returns-clause-well : goal.returns-clause-well
returns-clause-well g c =
    let p = c.args.self.now in
    let cs = g.P.Propagate.conditions c.args.prop.now in
    let h : SettlesOr cs p.trail.state c.settle.result c.settle.new.t.state = subst (λ (S : State). SettlesOr cs S c.settle.result c.settle.new.t.state) (ap (λ (q : Position). q.trail.state) c.self.view_is) c.settle.ensures.settles in
    well_settled g.row.K p _ c.requires.well
    (record { first = ap (λ (q : Position). q.first) c.self.view_is; variables = ap (λ (q : Position). q.variables) c.self.view_is; token = ap (λ (q : Position). q.token) c.self.view_is })
    (c.settle.ensures.levels.0 ∙ ap (λ (q : Position). q.trail.levels) c.self.view_is)
    (c.settle.ensures.levels.1 ∙ ap (λ (q : Position). q.trail.restores) c.self.view_is)
    (ap (λ (q : Position). q.values) c.self.view_is)
    (settles_inside cs p.trail.state c.settle.new.t.state c.settle.result h)

pub returns-clause-grows : goal.returns-clause-grows
returns-clause-grows g c = c.settle.ensures.grows

pub returns-clause-record : goal.returns-clause-record
returns-clause-record g c =
    let p = c.args.self.now in
    let cs = g.P.Propagate.conditions c.args.prop.now in
    settled_if cs g.R.Recorder.keeps p _ c.self.inside.trail.state (g.R.Recorder.list c.args.rec.now) (g.R.Recorder.list c.settle.new.rec) c.settle.result
    (record { first = ap (λ (q : Position). q.first) c.self.view_is; variables = ap (λ (q : Position). q.variables) c.self.view_is; values = ap (λ (q : Position). q.values) c.self.view_is; restores = c.settle.ensures.levels.1 ∙ ap (λ (q : Position). q.trail.restores) c.self.view_is })
    (ap (λ (q : Position). q.trail.state) c.self.view_is) c.settle.ensures.record
