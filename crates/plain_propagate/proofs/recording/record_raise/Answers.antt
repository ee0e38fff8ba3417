use Rattle.std.proofs.Common.{rules, subst, ◌≡◌, ℕ, true, ap, sym, ◌∙◌, arith, length}
use Rattle.std.proofs.lemmas.Int.{ints}
use Rattle.std.specs.Int.{w64}
use mir.Val.{to_z, of_z}
use Rattle.geo_base.specs.Boxes.{coordinate}
use Rattle.geo_base.specs.declared.point.Point.{Point}
use Rattle.std.proofs.lemmas.Result.{on_ok_weaker}
use Rattle.geo_conditions.specs.Reach.{Region, reach, has, low, high}
use Rattle.geo_conditions.specs.Regions.{region_of}
use Rattle.geo_conditions.specs.Supported.{HasNoPoint}
use Rattle.geo_state.proofs.Numbers.{kept64}
use Rattle.geo_state.specs.Trail.{IsSmallEnd}
use Rattle.plain_propagate.specs.Points.{IsSmallRegion}
use Rattle.plain_propagate.proofs.Recorded.{part_to, part_to_same, low_none, raise_led, small_region, small_hi}
use Rattle.derivation.proofs.Continuing.{growth_on, growth_failed}
use Rattle.plain_propagate.proofs.recording.record_raise.Goals as goal

pub record_places-requires : goal.record_places-requires
record_places-requires g c =
    let v = to_z w64 (of_z w64 c.get-low.result) in
    let at : v ≡ low c.args.s.now c.args.o.0 c.args.d = kept64 c.get-low.result c.get-low.type_inv ∙ c.get-low.ensures ∙ ap (λ (x : Region). coordinate x.lo c.args.d) c.region-region.ensures.value in
    let part : region_of c.new-taken.result ≡ part_to (reach c.args.s.now c.args.o.0).region c.args.d v = part_to_same (region_of c.new-taken.result) (region_of c.region-region.result) (reach c.args.s.now c.args.o.0).region c.args.d v c.region-region.ensures.value
    (ap (λ (p : Point g.row.K). p.coordinates) c.new-taken.ensures.lo) (ap (λ (p : Point g.row.K). p.coordinates) c.new-taken.ensures.hi ∙ c.with.ensures.whole) in
    let l : length c.region-region.result.lo.coordinates ≡ g.row.K = search rules in
    let h : length c.region-region.result.hi.coordinates ≡ g.row.K = search rules in
    let same = ap (λ (x : Region). length x.lo) (sym c.region-region.ensures.value) ∙ l ∙ sym h ∙ ap (λ (x : Region). length x.hi) c.region-region.ensures.value in
    let none : (n : ℕ) → has c.args.s.now c.args.o.0 n ≡ true → HasNoPoint c.args.cs.now c.args.s.now c.args.o.0 n (region_of c.new-taken.result) = low_none c.args.cs.now c.args.s.now c.args.o.0 c.args.d (region_of c.new-taken.result) v same at part c.requires.lacks in
    let region : IsSmallRegion (region_of c.region-region.result) = small_region c.args.s.now c.args.o.0 _ c.requires.small c.region-region.ensures.value in
    let number : IsSmallEnd v = subst IsSmallEnd (sym at) (c.requires.small c.args.o.0 c.args.d).0 in
    let small : IsSmallRegion (region_of c.new-taken.result) = small_hi (region_of c.region-region.result) (region_of c.new-taken.result) c.args.d v number (ap (λ (p : Point g.row.K). p.coordinates) c.new-taken.ensures.lo) (ap (λ (p : Point g.row.K). p.coordinates) c.new-taken.ensures.hi ∙ c.with.ensures.whole) region in
    search rules

pub returns-clause-led : goal.returns-clause-led
returns-clause-led g c = on_ok_weaker c.record_places.result (λ ok kept.
    let S = c.args.s.now in
    let v = to_z w64 (of_z w64 c.get-low.result) in
    let at : v ≡ low S c.args.o.0 c.args.d = kept64 c.get-low.result c.get-low.type_inv ∙ c.get-low.ensures ∙ ap (λ (x : Region). coordinate x.lo c.args.d) c.region-region.ensures.value in
    let top : c.get-high.result ≡ high S c.args.o.0 c.args.d = c.get-high.ensures ∙ ap (λ (x : Region). coordinate x.hi c.args.d) c.region-region.ensures.value in
    let part : region_of c.new-taken.result ≡ part_to (reach S c.args.o.0).region c.args.d v = part_to_same (region_of c.new-taken.result) (region_of c.region-region.result) (reach S c.args.o.0).region c.args.d v c.region-region.ensures.value
    (ap (λ (p : Point g.row.K). p.coordinates) c.new-taken.ensures.lo) (ap (λ (p : Point g.row.K). p.coordinates) c.new-taken.ensures.hi ∙ c.with.ensures.whole) in
    raise_led c.args.cs.now S c.args.o.0 c.args.d (region_of c.new-taken.result) v _ (g.R.Recorder.list c.args.rec.now) (g.R.Recorder.list c.record_event.new.rec) (g.R.Recorder.list c.record_places.new.rec)
    at (omega (arith, ints, at, top, c.requires.lacks.wide)) part c.requires.small c.requires.lacks (c.in_ok-record_event.ensures.added kept) (ok kept)) c.record_places.ensures.covers

pub returns-in_err-record_event-clause-grows : goal.returns-in_err-record_event-clause-grows
returns-in_err-record_event-clause-grows g c = growth_failed c.in_err-record_event.ensures.grows _ c.from_residual.ensures.0

pub returns-clause-grows : goal.returns-clause-grows
returns-clause-grows g c = growth_on c.in_ok-record_event.ensures.grows c.record_places.ensures.grows
