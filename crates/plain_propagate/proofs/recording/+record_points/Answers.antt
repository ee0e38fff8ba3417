use Rattle.std.proofs.Common.{rules, length, ◌≡◌, ◌<◌, ◌+◌, ℕ, refl, sym, subst, ◌∙◌, ℤ, ◌≤ℤ◌}
use Rattle.std.specs.Int.{w64}
use mir.Val.{to_z, of_z}
use Rattle.std.proofs.lemmas.Result.{on_ok_weaker}
use Rattle.geo_base.specs.Boxes.{coordinate}
use Rattle.geo_conditions.specs.Reach.{with_at, dims}
use Rattle.geo_conditions.specs.Regions.{region_of}
use Rattle.geo_conditions.specs.Supported.{NoneRefuted, HasNoPoint}
use Rattle.geo_state.specs.Trail.{IsSmallEnd}
use Rattle.geo_state.proofs.Numbers.{kept64}
use Rattle.geo_state.proofs.Shapes.{lo_long}
use Rattle.plain_propagate.specs.Points.{IsSmallRegion}
use Rattle.plain_propagate.proofs.Numbers.{stands_in, starts_at, starts_below, small_between, cut_between, next_number, is_last}
use Rattle.plain_propagate.proofs.Recorded.{RecordedUpTo, crossed_empty, cover_empty, point_refuted, cut_none, cut_single, upto_start, upto_more, upto_end, small_cut}
use Rattle.derivation.proofs.Continuing.{growth_none, growth_on, growth_failed}
use Rattle.plain_propagate.proofs.recording.+record_points.Goals as goal

pub returns-then-is_empty-clause-cover : goal.returns-then-is_empty-clause-cover
returns-then-is_empty-clause-cover g t c = on_ok_weaker c.record_event.result (λ ok kept.
    cover_empty c.args.cs.now c.args.s.now c.args.o.0 c.args.place (region_of c.args.b.now) (g.R.Recorder.list c.args.rec.now) (g.R.Recorder.list c.record_event.new.rec) (crossed_empty g.row.K (region_of c.args.b.now) c.requires.lows c.requires.highs c.if-is_empty.ensures.ends) (ok kept)) c.record_event.ensures.added

pub record_refuted-requires : goal.record_refuted-requires
record_refuted-requires g t c =
    let b = region_of c.args.b.now in
    let never : NoneRefuted c.args.cs.now (with_at c.args.s.now c.args.o.0 c.args.place b) → ⊥ = point_refuted c.args.cs.now c.args.s.now c.args.o.0 c.args.place b g.row.K c.args.d c.if-d.true c.requires.lows c.requires.highs c.requires.single c.requires.none in
    search rules

pub loop-v-init : goal.loop-v-init
loop-v-init g t c =
    let first : to_z w64 (of_z w64 c.get-v.result) ≡ coordinate c.args.b.now.lo.coordinates c.args.d = kept64 c.get-v.result c.get-v.type_inv ∙ c.get-v.ensures in
    record {
      from = starts_at _ _ first;
      to = starts_below _ _ _ _ first (kept64 c.get-last.result c.get-last.type_inv ∙ c.get-last.ensures) (c.if-is_empty.ensures.ends c.args.d (stands_in g.row.K c.args.d g.row.K refl c.requires.dimension c.if-d.false));
      recorded = λ kept. upto_start c.args.cs.now c.args.s.now c.args.o.0 c.args.place (region_of c.args.b.now) c.args.d _ (g.R.Recorder.list c.args.rec.now) first;
      grows = growth_none _ _ _;
    }

pub record_points-requires : goal.record_points-requires
record_points-requires g t c κs within =
    let b = region_of c.args.b.now in
    let k : c.args.d < length b.lo = stands_in g.row.K c.args.d _ c.requires.lows c.requires.dimension c.if-d.false in
    let l : c.args.d < length b.hi = stands_in g.row.K c.args.d _ c.requires.highs c.requires.dimension c.if-d.false in
    let single : (e : ℕ) → e < c.args.d + 1 → coordinate c.cut_to.result.lo.coordinates e ≡ coordinate c.cut_to.result.hi.coordinates e = cut_single b (region_of c.cut_to.result) c.args.d _ k l c.cut_to.ensures c.requires.single in
    let v = to_z w64 c.loop-v.v-bits in
    let below : v ≤ℤ coordinate b.hi c.args.d = subst (λ (x : ℤ). v ≤ℤ x) (kept64 c.get-last.result c.get-last.type_inv ∙ c.get-last.ensures) c.loop-v.invariant.to in
    let small : IsSmallRegion (region_of c.cut_to.result) = small_cut b (region_of c.cut_to.result) c.args.d _ (small_between _ _ v (c.requires.small c.args.d).0 (c.requires.small c.args.d).1 c.loop-v.invariant.from below) c.cut_to.ensures c.requires.small in
    let none : HasNoPoint c.args.cs.now c.args.s.now c.args.o.0 c.args.place (region_of c.cut_to.result) = cut_none c.args.cs.now c.args.s.now c.args.o.0 c.args.place b (region_of c.cut_to.result) c.args.d _ k l c.loop-v.invariant.from below c.cut_to.ensures c.requires.none in
    search rules

pub loop-v-preserved : goal.loop-v-preserved
loop-v-preserved g t c =
    let b = region_of c.args.b.now in
    let k : c.args.d < length b.lo = stands_in g.row.K c.args.d _ c.requires.lows c.requires.dimension c.if-d.false in
    let dimension : dims c.args.s.now c.args.o.0 ≡ g.row.K = lo_long g.row.K c.args.s.now c.args.o.0 c.objects-objects.ensures.shape c.requires.object in
    let S = c.args.s.now in
    let v = to_z w64 c.loop-v.v-bits in
    let top : to_z w64 (of_z w64 c.get-last.result) ≡ coordinate b.hi c.args.d = kept64 c.get-last.result c.get-last.type_inv ∙ c.get-last.ensures in
    let below : v ≤ℤ coordinate b.hi c.args.d = subst (λ (x : ℤ). v ≤ℤ x) top c.loop-v.invariant.to in
    let ends = c.requires.small c.args.d in
    let next = next_number _ _ v _ ends.0 ends.1 top c.loop-v.invariant.from c.loop-v-test.true in
    let cut = cut_between (dims S c.args.o.0) c.args.d v (stands_in g.row.K c.args.d _ dimension c.requires.dimension c.if-d.false) (small_between _ _ v ends.0 ends.1 c.loop-v.invariant.from below) in
    record {
      from = next.from;
      to = next.to;
      recorded = λ kept. upto_more c.args.cs.now c.args.s.now c.args.o.0 c.args.place b (region_of c.cut_to.result) c.args.d _ _ _ _ _ _
          cut k below c.cut_to.ensures next.one_more (c.in_ok-record_event.ensures.added kept) (c.in_ok-record_points.ensures.cover kept) (c.loop-v.invariant.recorded kept);
      grows = growth_on (growth_on c.loop-v.invariant.grows c.in_ok-record_event.ensures.grows) c.in_ok-record_points.ensures.grows;
    }

pub record_points-requires-2 : goal.record_points-requires-2
record_points-requires-2 g t c κs within =
    let b = region_of c.args.b.now in
    let d : c.args.d < g.row.K = stands_in g.row.K c.args.d g.row.K refl c.requires.dimension c.if-d.false in
    let k : c.args.d < length b.lo = stands_in g.row.K c.args.d _ c.requires.lows c.requires.dimension c.if-d.false in
    let l : c.args.d < length b.hi = stands_in g.row.K c.args.d _ c.requires.highs c.requires.dimension c.if-d.false in
    let top : to_z w64 (of_z w64 c.get-last.result) ≡ coordinate b.hi c.args.d = kept64 c.get-last.result c.get-last.type_inv ∙ c.get-last.ensures in
    let single : (e : ℕ) → e < c.args.d + 1 → coordinate c.cut_to-2.result.lo.coordinates e ≡ coordinate c.cut_to-2.result.hi.coordinates e = cut_single b (region_of c.cut_to-2.result) c.args.d _ k l c.cut_to-2.ensures c.requires.single in
    let small : IsSmallRegion (region_of c.cut_to-2.result) = small_cut b (region_of c.cut_to-2.result) c.args.d _ (subst IsSmallEnd (sym top) (c.requires.small c.args.d).1) c.cut_to-2.ensures c.requires.small in
    let none : HasNoPoint c.args.cs.now c.args.s.now c.args.o.0 c.args.place (region_of c.cut_to-2.result) = cut_none c.args.cs.now c.args.s.now c.args.o.0 c.args.place b (region_of c.cut_to-2.result) c.args.d _ k l (subst (λ (x : ℤ). coordinate b.lo c.args.d ≤ℤ x) (sym top) (c.if-is_empty.ensures.ends c.args.d d)) (subst (λ (x : ℤ). x ≤ℤ coordinate b.hi c.args.d) (sym top) (starts_at _ _ refl)) c.cut_to-2.ensures c.requires.none in
    search rules

pub returns-clause-cover : goal.returns-clause-cover
returns-clause-cover g t c = on_ok_weaker c.record_points-2.result (λ ok kept.
    let b = region_of c.args.b.now in
    let last = to_z w64 (of_z w64 c.get-last.result) in
    let at_end : to_z w64 c.loop-v.v-bits ≡ last = is_last _ _ c.loop-v.invariant.to c.loop-v-test.false in
    upto_end c.args.cs.now c.args.s.now c.args.o.0 c.args.place b (region_of c.cut_to-2.result) c.args.d last _ _ _ (kept64 c.get-last.result c.get-last.type_inv ∙ c.get-last.ensures) c.cut_to-2.ensures (ok kept)
    (subst (λ (v : ℤ). RecordedUpTo c.args.cs.now c.args.s.now c.args.o.0 c.args.place b c.args.d v (g.R.Recorder.list c.args.rec.now) (g.R.Recorder.list c.loop-v.rec)) at_end (c.loop-v.invariant.recorded kept))) c.record_points-2.ensures.cover

pub returns-then-is_empty-clause-grows : goal.returns-then-is_empty-clause-grows
returns-then-is_empty-clause-grows g t c = c.record_event.ensures.grows

pub returns-then-d-clause-grows : goal.returns-then-d-clause-grows
returns-then-d-clause-grows g t c = c.record_refuted.ensures.grows

pub returns-in_err-record_event-clause-grows : goal.returns-in_err-record_event-clause-grows
returns-in_err-record_event-clause-grows g t c = growth_failed (growth_on c.loop-v.invariant.grows c.in_err-record_event.ensures.grows) _ c.from_residual.ensures.0

pub returns-in_err-record_points-clause-grows : goal.returns-in_err-record_points-clause-grows
returns-in_err-record_points-clause-grows g t c = growth_failed (growth_on (growth_on c.loop-v.invariant.grows c.in_ok-record_event.ensures.grows) c.in_err-record_points.ensures.grows) _ c.from_residual-in_err-record_points.ensures.0

pub returns-clause-grows : goal.returns-clause-grows
returns-clause-grows g t c = growth_on c.loop-v.invariant.grows c.record_points-2.ensures.grows
