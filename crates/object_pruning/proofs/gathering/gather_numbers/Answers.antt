use Rattle.std.proofs.Common.{◌≡◌, ◌<◌, ◌+◌, map, inl, inr, arith}
use Rattle.std.proofs.lemmas.Bool.{cases_eq}
use Rattle.object_pruning.specs.InRows.{IsInGroup}
use Rattle.object_pruning.proofs.LivePicks.{goes_both, goes_as}
use Rattle.geo_conditions.specs.Regions.{region_of}
use Rattle.object_pruning.proofs.gathering.gather_numbers.Goals as goal

pub loop-i-preserved : goal.loop-i-preserved
loop-i-preserved g c =
    let group = c.args.group.now in
    let k = c.loop-i.i in record {
      parts = c.in_ok-gathered.ensures.parts;
      goes =
          goes_both g.row.K (map g.I.Indexical.cond c.args.list.now) c.args.s.now c.args.o.0 c.args.place (region_of c.args.region.now) (λ i. IsInGroup group i × (i < k)) (λ i. i ≡ k) (λ i. IsInGroup group i × (i < k + 1)) c.args.count c.loop-i.gathered c.in_ok-gathered.gathered c.args.live.now c.loop-i.live c.gather_number.new.live
          (λ i p. (p.0, omega (arith, p.1)))
          (λ i e. ((omega (arith, e, c.loop-i.auto.i), omega (arith, e, c.loop-i-test.true)), omega (arith, e)))
          (λ i r. elim (cases_eq i k) [ inl e ↦ inr e | inr ne ↦ inl (r.0, omega (arith, r.1, ne)) ])
          c.loop-i.invariant.goes
          c.in_ok-gathered.ensures.goes;
    }

pub returns-clause-goes : goal.returns-clause-goes
returns-clause-goes g c =
    let group = c.args.group.now in
    let k = c.loop-i.i in
    goes_as g.row.K (map g.I.Indexical.cond c.args.list.now) c.args.s.now c.args.o.0 c.args.place (region_of c.args.region.now) (λ i. IsInGroup group i × (i < k)) (IsInGroup group) c.args.count c.loop-i.gathered c.args.live.now c.loop-i.live
    (λ i p. p.0)
    (λ i q. (q, omega (arith, q.1, c.loop-i-test.false)))
    c.loop-i.invariant.goes
