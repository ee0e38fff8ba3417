use Rattle.std.proofs.Common.{◌≡◌, ◌≤◌, ℕ, ℤ, ◌-◌, Bool, true, List, arith, rules}
use Rattle.geo_base.specs.Ways.{key}
use Rattle.derivation.specs.declared.event.Event.{Event}
use Rattle.sweep.specs.Chains.{IsOpen, IsOpenAtJump, SomeOpenAtJump}
use Rattle.derivation.proofs.Continuing.{growth_done, growth_on, growth_later, growth_failed}
use Rattle.sweep.proofs.RecordSteps.{Continues-open, found_box}
use Rattle.sweep.proofs.record.record_turn.Goals as goal
use Rattle.sweep.proofs.record.record_turn.Goals.{In_ok-record_found}

-- after the box was recorded
at_jump : (g : _) (c : In_ok-record_found g) → g.R.Recorder.keeps ≡ true → (T : ℕ → List ℤ → List ℤ → Bool) (base : List Event) → T c.args.number c.args.b.now.lo.coordinates c.args.b.now.hi.coordinates ≡ true
    → IsOpen g.row.K c.args.way.now.lead c.args.way.now.up T (key g.row.K c.args.way.now.lead c.args.way.now.up c.args.first.now.coordinates) (key g.row.K c.args.way.now.lead c.args.way.now.up c.args.past.now.coordinates) (g.row.K - 1) (key g.row.K c.args.way.now.lead c.args.way.now.up c.args.c.now.coordinates) (key g.row.K c.args.way.now.lead c.args.way.now.up c.args.n.now.coordinates) c.args.marks.now.places base (g.R.Recorder.list c.args.rec.now)
    → IsOpenAtJump g.row.K c.args.way.now.lead c.args.way.now.up T (key g.row.K c.args.way.now.lead c.args.way.now.up c.args.first.now.coordinates) (key g.row.K c.args.way.now.lead c.args.way.now.up c.args.past.now.coordinates) (g.row.K - 1) (key g.row.K c.args.way.now.lead c.args.way.now.up c.args.c.now.coordinates) (key g.row.K c.args.way.now.lead c.args.way.now.up c.args.n.now.coordinates) c.args.marks.now.places base (g.R.Recorder.list c.record_found.new.rec)
at_jump g c kept T base r o =
    let way = c.args.way.now in
    let k = key g.row.K way.lead way.up in
    let w = c.in_ok-record_found.ensures.ok kept in
    found_box g.row.K way.lead way.up T (k c.args.first.now.coordinates) (k c.args.past.now.coordinates) base c.args.b.now.lo.coordinates c.args.b.now.hi.coordinates c.args.c.now.coordinates (k c.args.n.now.coordinates) c.args.marks.now.places (g.R.Recorder.list c.args.rec.now) (g.R.Recorder.list c.record_found.new.rec) c.args.number
    way.lead_in r c.requires.has c.requires.drawn w.0 w.1 w.2 o

pub close_chains-requires : goal.close_chains-requires
close_chains-requires g c =
    let way = c.args.way.now in
    let k = key g.row.K way.lead way.up in
    let open_now : g.R.Recorder.keeps ≡ true → SomeOpenAtJump g.row.K way.lead way.up (k c.args.first.now.coordinates) (k c.args.past.now.coordinates) (k c.args.n.now.coordinates) c.args.marks.now.places (g.R.Recorder.list c.record_found.new.rec) =
    λ kept. (let w = c.requires.recorded kept in (w.test, w.base, k c.args.c.now.coordinates, at_jump g (goal.at.close_chains-requires g c).In_ok-record_found kept w.test w.base w.known w.is_open)) in
    search rules

pub returns-in_err-record_found-clause-grows : goal.returns-in_err-record_found-clause-grows
returns-in_err-record_found-clause-grows g c = λ T base h.
    let way = c.args.way.now in
    let k = key g.row.K way.lead way.up in
    let was = λ (kept : g.R.Recorder.keeps ≡ true). Continues-open g.row.K way.lead way.up T (k c.args.first.now.coordinates) (k c.args.past.now.coordinates) base (k c.args.c.now.coordinates) (k c.args.n.now.coordinates) c.args.marks.now.places (g.R.Recorder.list c.args.rec.now) (g.row.K - 1) (h kept).1 in
    let none : g.R.Recorder.refusals c.args.rec.now ≤ g.R.Recorder.refusals c.args.rec.now = omega arith in
    growth_failed (growth_on (growth_done was none) c.in_err-record_found.ensures.grows) _ c.from_residual.ensures.0

pub returns-in-Err-clause-few : goal.returns-in-Err-clause-few
returns-in-Err-clause-few g c = λ kept. omega (arith, c.in_ok-record_found.ensures.few kept, c.in-Err.ensures.few kept, c.args.way.now.lead_in)

pub returns-in-Err-clause-grows : goal.returns-in-Err-clause-grows
returns-in-Err-clause-grows g c = λ T base h.
    growth_later c.in_ok-record_found.ensures.grows.refusals (c.in-Err.ensures.grows T base (key g.row.K c.args.way.now.lead c.args.way.now.up c.args.c.now.coordinates) (λ kept. at_jump g (goal.at.returns-in-Err-clause-grows g c).In_ok-record_found kept T base (h kept).0 (h kept).1))

pub returns-in-Ok-clause-grows : goal.returns-in-Ok-clause-grows
returns-in-Ok-clause-grows g c = λ T base h.
    growth_later c.in_ok-record_found.ensures.grows.refusals (c.in-Ok.ensures.grows T base (key g.row.K c.args.way.now.lead c.args.way.now.up c.args.c.now.coordinates) (λ kept. at_jump g (goal.at.returns-in-Ok-clause-grows g c).In_ok-record_found kept T base (h kept).0 (h kept).1))

pub returns-in-Ok-clause-recorded : goal.returns-in-Ok-clause-recorded
returns-in-Ok-clause-recorded g c = λ kept T base r o.
    c.in-Ok.ensures.recorded kept T base (key g.row.K c.args.way.now.lead c.args.way.now.up c.args.c.now.coordinates) (at_jump g (goal.at.returns-in-Ok-clause-recorded g c).In_ok-record_found kept T base r o)
