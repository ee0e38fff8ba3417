use Rattle.std.proofs.Common.{◌≡◌, ◌+◌, ℕ, refl, ap, sym, ◌∙◌, subst, arith}
use Rattle.std.proofs.lemmas.Bool.{false≢true}
use Rattle.geo_conditions.specs.Reach.{State, Inside}
use Rattle.geo_conditions.proofs.Points.{inside_self}
use Rattle.geo_state.specs.Trail.{Trail}
use Rattle.trail_search.specs.Walker.{IsReady}
use Rattle.trail_search.proofs.Walking.{same_trans}
use Rattle.trail_search.proofs.Standing.{well_settled}
use Rattle.trail_search.proofs.Bare.{settled_dead, settled_kept, no_token, bare_after_found, bare_after_token, bare_dead, bare_kept, bare_budget, bare_found}
use Rattle.derivation.proofs.Continuing.{growth_none}
use Rattle.std.proofs.Common.{length}
use Rattle.trail_search.proofs.Recording.{dead_record, kept_record, record_as, record_start, record_end}
use Rattle.trail_search.proofs.walk.walk_empty.Goals as goal

pub returns-then-found-clause-walks : goal.returns-then-found-clause-walks
returns-then-found-clause-walks g c = λ r.
    let cs = g.P.Propagate.conditions c.args.prop.now in
    bare_after_found cs c.args.budget c.args.walker.now c.requires.bare c.requires.count (subst (IsReady cs c.args.walker.now) c.if-found.true r)

pub returns-then-has_token-clause-walks : goal.returns-then-has_token-clause-walks
returns-then-has_token-clause-walks g c = λ r.
    let cs = g.P.Propagate.conditions c.args.prop.now in
    bare_after_token g.row.K cs c.args.budget c.args.walker.now c.requires.well c.requires.bare c.requires.count (c.has_token.ensures.0 c.if-has_token.true) (subst (IsReady cs c.args.walker.now) c.if-found.false r)

pub returns-in-Ok-Dead-clause-walks : goal.returns-in-Ok-Dead-clause-walks
returns-in-Ok-Dead-clause-walks g c = λ r.
    let cs = g.P.Propagate.conditions c.args.prop.now in
    let p = c.args.walker.now in
    bare_dead cs c.args.budget p c.settle.new.self c.requires.bare c.requires.count c.settle.ensures.walked (subst (IsReady cs p) c.if-found.false r)
    (settled_dead cs p.trail.state c.settle.new.self.trail.state c.settle.result c.in-Ok-Dead.field-0 c.settle.ensures.state c.in-Ok-Dead.is c.in-Ok-Dead.field-0-is)

pub returns-then-count-budget-clause-walks : goal.returns-then-count-budget-clause-walks
returns-then-count-budget-clause-walks g c = λ r.
    let cs = g.P.Propagate.conditions c.args.prop.now in
    let p = c.args.walker.now in
    let y = subst (IsReady cs p) c.if-found.false r in
    let s = settled_kept cs p.trail.state c.settle.new.self.trail.state c.settle.result c.in-Ok-Kept.field-0 c.settle.ensures.state c.in-Ok-Kept.is c.in-Ok-Kept.field-0-is in
    bare_budget cs c.args.budget p c.settle.new.self c.requires.bare (no_token p.token (λ n. false≢true (sym c.if-has_token.false ∙ c.has_token.ensures.1 n))) y
    (bare_kept cs p c.settle.new.self.trail.state c.requires.bare c.requires.none y s) c.settle.ensures.walked (sym c.count.ensures ∙ c.if-count-budget.true)

pub returns-else-count-budget-clause-walks : goal.returns-else-count-budget-clause-walks
returns-else-count-budget-clause-walks g c = λ r.
    let cs = g.P.Propagate.conditions c.args.prop.now in
    let p = c.args.walker.now in
    let q = c.visit_empty.new.self in
    let e : q.trail ≡ c.settle.new.self.trail = c.visit_empty.ensures.trail in
    let y = subst (IsReady cs p) c.if-found.false r in
    let s = settled_kept cs p.trail.state c.settle.new.self.trail.state c.settle.result c.in-Ok-Kept.field-0 c.settle.ensures.state c.in-Ok-Kept.is c.in-Ok-Kept.field-0-is in
    bare_found g.row.K cs c.args.budget p c.visit_empty.new.self c.requires.bare (no_token p.token (λ n. false≢true (sym c.if-has_token.false ∙ c.has_token.ensures.1 n))) y
    (bare_kept cs p c.settle.new.self.trail.state c.requires.bare c.requires.none y s) (same_trans p c.settle.new.self q c.settle.ensures.same c.visit_empty.ensures.same)
    (well_settled g.row.K c.settle.new.self q c.settle.ensures.well c.visit_empty.ensures.same (ap (λ (t : Trail). t.levels) e) (ap (λ (t : Trail). t.restores) e) c.visit_empty.ensures.values (subst (λ (S : State). Inside S c.settle.new.self.trail.state) (sym (ap (λ (t : Trail). t.state) e)) (inside_self c.settle.new.self.trail.state)))
    (c.visit_empty.ensures.walked ∙ ap (λ (m : ℕ). m + 1) c.settle.ensures.walked)
    (omega (arith, c.requires.count, c.count.ensures, c.settle.ensures.walked, c.if-count-budget.false))

pub returns-then-found-clause-grows : goal.returns-then-found-clause-grows
returns-then-found-clause-grows g c = growth_none _ _ _

pub returns-then-has_token-clause-grows : goal.returns-then-has_token-clause-grows
returns-then-has_token-clause-grows g c = growth_none _ _ _

pub returns-in-Err-clause-grows : goal.returns-in-Err-clause-grows
returns-in-Err-clause-grows g c = c.in-Err.ensures.grows

pub returns-in-Ok-Dead-clause-grows : goal.returns-in-Ok-Dead-clause-grows
returns-in-Ok-Dead-clause-grows g c = c.in-Ok-Dead.ensures.grows

pub returns-then-count-budget-clause-grows : goal.returns-then-count-budget-clause-grows
returns-then-count-budget-clause-grows g c = c.in-Ok-Kept.ensures.grows

pub returns-else-count-budget-clause-grows : goal.returns-else-count-budget-clause-grows
returns-else-count-budget-clause-grows g c = c.in-Ok-Kept.ensures.grows

pub returns-then-found-clause-recorded : goal.returns-then-found-clause-recorded
returns-then-found-clause-recorded g c = λ k f. absurd (false≢true (sym f ∙ c.if-found.true))

pub returns-then-has_token-clause-recorded : goal.returns-then-has_token-clause-recorded
returns-then-has_token-clause-recorded g c = λ k f t. absurd (c.has_token.ensures.0 c.if-has_token.true t)

pub returns-in-Ok-Dead-clause-recorded : goal.returns-in-Ok-Dead-clause-recorded
returns-in-Ok-Dead-clause-recorded g c = λ k f t u n.
    let cs = g.P.Propagate.conditions c.args.prop.now in
    let p = c.args.walker.now in
    let closed = dead_record cs cs c.in-Ok-Dead.field-0 p c.settle.new.self (g.R.Recorder.list c.args.rec.now) (g.R.Recorder.list c.settle.new.rec) refl c.in-Ok-Dead.field-0-is (c.in-Ok-Dead.ensures.record k) (record_start cs p (g.R.Recorder.list c.args.rec.now) u n) in
    record_end cs c.settle.new.self (g.R.Recorder.list c.settle.new.rec) (c.settle.ensures.depth ∙ ap length u.restores) closed

pub returns-then-count-budget-clause-recorded : goal.returns-then-count-budget-clause-recorded
returns-then-count-budget-clause-recorded g c = λ k f t u n.
    let cs = g.P.Propagate.conditions c.args.prop.now in
    let p = c.args.walker.now in
    kept_record cs cs c.in-Ok-Kept.field-0 p c.settle.new.self (g.R.Recorder.list c.args.rec.now) (g.R.Recorder.list c.settle.new.rec) refl c.in-Ok-Kept.field-0-is (c.in-Ok-Kept.ensures.record k) (record_start cs p (g.R.Recorder.list c.args.rec.now) u n)

pub returns-else-count-budget-clause-recorded : goal.returns-else-count-budget-clause-recorded
returns-else-count-budget-clause-recorded g c = λ k f t u n.
    let cs = g.P.Propagate.conditions c.args.prop.now in
    let p = c.args.walker.now in
    let s = c.settle.new.self in
    let q = c.visit_empty.new.self in
    let kept = kept_record cs cs c.in-Ok-Kept.field-0 p s (g.R.Recorder.list c.args.rec.now) (g.R.Recorder.list c.settle.new.rec) refl c.in-Ok-Kept.field-0-is (c.in-Ok-Kept.ensures.record k) (record_start cs p (g.R.Recorder.list c.args.rec.now) u n) in
    let e : q.trail ≡ s.trail = c.visit_empty.ensures.trail in
    record_as cs s q (g.R.Recorder.list c.settle.new.rec)
    (record { first = c.visit_empty.ensures.same.first; variables = c.visit_empty.ensures.same.variables; values = c.visit_empty.ensures.values; restores = ap (λ (r : Trail). r.restores) e })
    (ap (λ (r : Trail). r.state) e) kept
