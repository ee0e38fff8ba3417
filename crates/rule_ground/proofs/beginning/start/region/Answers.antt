use Rattle.std.proofs.Common.{◌≡◌, ℕ, sym, ap, ◌∙◌, refl, arith, rules}
use Rattle.std.specs.Int.{w64}
use mir.Val.{to_z, of_z}
use Rattle.problem_data.specs.declared.problem.RangeDef.{RangeDef}
use Rattle.problem_data.specs.Problem.{RangeData}
use Rattle.problem_data.specs.Pieces.{hulls, range_at}
use Rattle.problem_data.specs.ProblemView.{range_data}
use Rattle.problem_data.proofs.Hulls.{hull_at}
use Rattle.rule_ground.proofs.Ends.{as_long, end_more}
use Rattle.rule_ground.proofs.Starts.{region-whole}
use Rattle.rule_ground.proofs.beginning.start.region.Goals as goal

pub returns : goal.returns
returns g c = region-whole g.row.K c.args.object.now (hulls c.args.object.now) c.loop-d.lo c.loop-d.hi c.new.result c.new.ensures.lo c.new.ensures.hi refl c.loop-d.invariant.lows c.loop-d.invariant.highs c.requires.dimensions
    (λ e h. c.loop-d.invariant.low e (omega arith)) (λ e h. c.loop-d.invariant.high e (omega arith))

pub loop-d-preserved : goal.loop-d-preserved
loop-d-preserved g c =
    let i = c.loop-d.invariant in
    let d = c.loop-d.d in
    let o = c.args.object.now in
    let r : RangeDef = c.hull-range.result in
    let at : range_data r ≡ range_at (hulls o) d = c.hull-range.ensures ∙ sym (hull_at o d) in
    let low : to_z w64 (of_z w64 r.low) ≡ r.low = search rules in
    let high : to_z w64 (of_z w64 r.high) ≡ r.high = search rules in
    record {
      lows = as_long c.loop-d.lo.coordinates c.set.new.self.coordinates d g.row.K _ c.set.ensures.whole i.lows;
      highs = as_long c.loop-d.hi.coordinates c.set-in-loop-d.new.self.coordinates d g.row.K _ c.set-in-loop-d.ensures.whole i.highs;
      low = end_more (λ (e : ℕ). (range_at (hulls o) e).low) c.loop-d.lo.coordinates c.set.new.self.coordinates d _ c.set.ensures.same c.set.ensures.others (low ∙ ap (λ (x : RangeData). x.low) at) i.low;
      high = end_more (λ (e : ℕ). (range_at (hulls o) e).high) c.loop-d.hi.coordinates c.set-in-loop-d.new.self.coordinates d _ c.set-in-loop-d.ensures.same c.set-in-loop-d.ensures.others (high ∙ ap (λ (x : RangeData). x.high) at) i.high;
    }
