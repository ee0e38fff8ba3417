use Rattle.std.proofs.Common.{◌≡◌, ℕ, ℤ, Bool, true, List, ◌-◌, ◌<◌, ◌≤ℤ◌, take, slice_index, arith}
use Rattle.std.proofs.lemmas.Int.{ints}
use Rattle.geo_base.specs.Ways.{dimension, key, start, end}
use Rattle.geo_base.proofs.Mirror.{dimension_in}
use Rattle.derivation.specs.declared.event.Event.{Event}
use Rattle.derivation.specs.Events.{Growth}
use Rattle.derivation.proofs.Continuing.{growth_done, growth_added, growth_refused, growth_on}
use Rattle.sweep.specs.Chains.{IsOpen}
use Rattle.sweep.proofs.RecordSteps.{Continues-open, IsOpen-cut, IsOpen-at_0, first_mark, stopped_region}
use Rattle.sweep.proofs.turn.stop.Goals as goal
use Rattle.sweep.proofs.turn.stop.Goals.{Start, After-cut_back}

pub cut_back-requires : goal.cut_back-requires
cut_back-requires g c = λ kept.
    let w = c.requires.recorded kept in
    let h = first_mark g.row.K c.args.way.now.lead c.args.way.now.up w.0 (key g.row.K c.args.way.now.lead c.args.way.now.up (start c.args.way.now.up c.args.region.now.lo.coordinates c.args.region.now.hi.coordinates)) (key g.row.K c.args.way.now.lead c.args.way.now.up c.args.past.now.coordinates) w.1 (key g.row.K c.args.way.now.lead c.args.way.now.up c.args.c.now.coordinates) (key g.row.K c.args.way.now.lead c.args.way.now.up c.args.n.now.coordinates) c.args.marks.now.places (g.R.Recorder.list c.args.rec.now) (g.row.K - 1) (omega arith) w.2 in
    rw c.get.ensures h

pub returns-in-Ok-clause-covered : goal.returns-in-Ok-clause-covered
returns-in-Ok-clause-covered g c = λ kept T base o.
    let cut = IsOpen-cut g.row.K c.args.way.now.lead c.args.way.now.up T (key g.row.K c.args.way.now.lead c.args.way.now.up (start c.args.way.now.up c.args.region.now.lo.coordinates c.args.region.now.hi.coordinates)) (key g.row.K c.args.way.now.lead c.args.way.now.up c.args.past.now.coordinates) base (g.row.K - 1) (key g.row.K c.args.way.now.lead c.args.way.now.up c.args.c.now.coordinates) (key g.row.K c.args.way.now.lead c.args.way.now.up c.args.n.now.coordinates) c.args.marks.now.places (g.R.Recorder.list c.args.rec.now) (omega arith) o in
    let placed = c.requires.placed in
    let z = c.args.way.now.lead_in in
    let u : 0 < g.row.K = omega arith in
    let before : key g.row.K c.args.way.now.lead c.args.way.now.up c.args.c.now.coordinates 0 ≤ℤ key g.row.K c.args.way.now.lead c.args.way.now.up (end c.args.way.now.up c.args.region.now.lo.coordinates c.args.region.now.hi.coordinates) 0 = omega (arith, ints, placed.onward 0 u, placed.to_past 0 u, c.requires.past (dimension g.row.K c.args.way.now.lead 0) (dimension_in g.row.K c.args.way.now.lead 0 z u)) in
    rw (c.in-Ok.ensures.ok kept, c.cut_back.ensures.list kept, c.get.ensures) (stopped_region g.row.K c.args.way.now.lead c.args.way.now.up T c.args.region.now.lo.coordinates c.args.region.now.hi.coordinates c.args.past.now.coordinates c.args.c.now.coordinates base (key g.row.K c.args.way.now.lead c.args.way.now.up c.args.n.now.coordinates) c.args.marks.now.places (take (slice_index c.args.marks.now.places 0) (g.R.Recorder.list c.args.rec.now)) z c.requires.past before cut)

pub returns-in-Ok-add-clause-covered : goal.returns-in-Ok-add-clause-covered
returns-in-Ok-add-clause-covered g c = λ kept T base o.
    let placed = c.requires.placed in
    let z = c.args.way.now.lead_in in
    let u : 0 < g.row.K = omega arith in
    let before : key g.row.K c.args.way.now.lead c.args.way.now.up c.args.c.now.coordinates 0 ≤ℤ key g.row.K c.args.way.now.lead c.args.way.now.up (end c.args.way.now.up c.args.region.now.lo.coordinates c.args.region.now.hi.coordinates) 0 = omega (arith, ints, placed.onward 0 u, placed.to_past 0 u, c.requires.past (dimension g.row.K c.args.way.now.lead 0) (dimension_in g.row.K c.args.way.now.lead 0 z u)) in
    rw (c.in-Ok-add.ensures.ok kept) (stopped_region g.row.K c.args.way.now.lead c.args.way.now.up T c.args.region.now.lo.coordinates c.args.region.now.hi.coordinates c.args.past.now.coordinates c.args.c.now.coordinates base (key g.row.K c.args.way.now.lead c.args.way.now.up c.args.n.now.coordinates) c.args.marks.now.places (g.R.Recorder.list c.args.rec.now) z c.requires.past before (IsOpen-at_0 g.row.K c.args.way.now.lead c.args.way.now.up T (key g.row.K c.args.way.now.lead c.args.way.now.up (start c.args.way.now.up c.args.region.now.lo.coordinates c.args.region.now.hi.coordinates)) (key g.row.K c.args.way.now.lead c.args.way.now.up c.args.past.now.coordinates) base (key g.row.K c.args.way.now.lead c.args.way.now.up c.args.c.now.coordinates) (key g.row.K c.args.way.now.lead c.args.way.now.up c.args.n.now.coordinates) c.args.marks.now.places (g.R.Recorder.list c.args.rec.now) (g.row.K - 1) (omega arith) o))

-- what is kept of the record behind the cut
cut_grown : (g : _) (c : After-cut_back g) (T : ℕ → List ℤ → List ℤ → Bool) (base : List Event)
    → (g.R.Recorder.keeps ≡ true → IsOpen g.row.K c.args.way.now.lead c.args.way.now.up T (key g.row.K c.args.way.now.lead c.args.way.now.up (start c.args.way.now.up c.args.region.now.lo.coordinates c.args.region.now.hi.coordinates)) (key g.row.K c.args.way.now.lead c.args.way.now.up c.args.past.now.coordinates) (g.row.K - 1) (key g.row.K c.args.way.now.lead c.args.way.now.up c.args.c.now.coordinates) (key g.row.K c.args.way.now.lead c.args.way.now.up c.args.n.now.coordinates) c.args.marks.now.places base (g.R.Recorder.list c.args.rec.now))
    → Growth g.R.Recorder.keeps base (g.R.Recorder.list c.cut_back.new.self) (g.R.Recorder.refusals c.args.rec.now) (g.R.Recorder.refusals c.cut_back.new.self) true
cut_grown g c T base h =
    let k = key g.row.K c.args.way.now.lead c.args.way.now.up in
    let first = k (start c.args.way.now.up c.args.region.now.lo.coordinates c.args.region.now.hi.coordinates) in
    let past = k c.args.past.now.coordinates in
    let marks = c.args.marks.now.places in
    let list = g.R.Recorder.list c.args.rec.now in
    growth_done (λ kept.
    let cut = IsOpen-cut g.row.K c.args.way.now.lead c.args.way.now.up T first past base (g.row.K - 1) (k c.args.c.now.coordinates) (k c.args.n.now.coordinates) marks list (omega arith) (h kept) in
    rw (c.cut_back.ensures.list kept, c.get.ensures) (Continues-open g.row.K c.args.way.now.lead c.args.way.now.up T first past base (k c.args.c.now.coordinates) (k c.args.n.now.coordinates) marks (take (slice_index marks 0) list) 0 cut)) (omega (arith, c.cut_back.ensures.refusals))

-- and of the whole record
grown : (g : _) (c : Start g) (T : ℕ → List ℤ → List ℤ → Bool) (base : List Event)
    → (g.R.Recorder.keeps ≡ true → IsOpen g.row.K c.args.way.now.lead c.args.way.now.up T (key g.row.K c.args.way.now.lead c.args.way.now.up (start c.args.way.now.up c.args.region.now.lo.coordinates c.args.region.now.hi.coordinates)) (key g.row.K c.args.way.now.lead c.args.way.now.up c.args.past.now.coordinates) (g.row.K - 1) (key g.row.K c.args.way.now.lead c.args.way.now.up c.args.c.now.coordinates) (key g.row.K c.args.way.now.lead c.args.way.now.up c.args.n.now.coordinates) c.args.marks.now.places base (g.R.Recorder.list c.args.rec.now))
    → Growth g.R.Recorder.keeps base (g.R.Recorder.list c.args.rec.now) (g.R.Recorder.refusals c.args.rec.now) (g.R.Recorder.refusals c.args.rec.now) true
grown g c T base h =
    let k = key g.row.K c.args.way.now.lead c.args.way.now.up in
    growth_done (λ kept. Continues-open g.row.K c.args.way.now.lead c.args.way.now.up T (k (start c.args.way.now.up c.args.region.now.lo.coordinates c.args.region.now.hi.coordinates)) (k c.args.past.now.coordinates) base (k c.args.c.now.coordinates) (k c.args.n.now.coordinates) c.args.marks.now.places (g.R.Recorder.list c.args.rec.now) (g.row.K - 1) (h kept)) (omega arith)

pub returns-in-Err-clause-grows : goal.returns-in-Err-clause-grows
returns-in-Err-clause-grows g c = λ T base h.
    growth_on (cut_grown g (goal.at.returns-in-Err-clause-grows g c).After-cut_back T base h) (growth_refused c.in-Err.ensures.err c.add.ensures.refusals c.in-Err.ensures.refused c.in-Err.ensures.no_record)

pub returns-in-Ok-clause-grows : goal.returns-in-Ok-clause-grows
returns-in-Ok-clause-grows g c = λ T base h.
    growth_on (cut_grown g (goal.at.returns-in-Ok-clause-grows g c).After-cut_back T base h) (growth_added _ c.in-Ok.ensures.ok c.add.ensures.refusals)

pub returns-in-Err-add-clause-grows : goal.returns-in-Err-add-clause-grows
returns-in-Err-add-clause-grows g c = λ T base h.
    growth_on (grown g (goal.at.returns-in-Err-add-clause-grows g c).Start T base h) (growth_refused c.in-Err-add.ensures.err c.add-else-this-gt1.ensures.refusals c.in-Err-add.ensures.refused c.in-Err-add.ensures.no_record)

pub returns-in-Ok-add-clause-grows : goal.returns-in-Ok-add-clause-grows
returns-in-Ok-add-clause-grows g c = λ T base h.
    growth_on (grown g (goal.at.returns-in-Ok-add-clause-grows g c).Start T base h) (growth_added _ c.in-Ok-add.ensures.ok c.add-else-this-gt1.ensures.refusals)
