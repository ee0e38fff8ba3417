use Rattle.std.proofs.Common.{◌∙◌, map, arith}
use Rattle.std.proofs.lemmas.Option.{slice_get_within}
use Rattle.indexical.specs.declared.any.AnyIndexical.{AnyIndexical}
use Rattle.object_pruning.proofs.NearRows.{near_next, near_none}
use Rattle.object_pruning.proofs.near_making.near_groups.Goals as goal

pub loop-k-init : goal.loop-k-init
loop-k-init g c = record {
  dims = c.nowhere-near.ensures;
  numbers = near_none (map (λ (x : AnyIndexical g.row.K). x.cond) c.args.list.now) c.args.o.0 _ c.nowhere-near.result (λ i u p. absurd (omega (arith, p.2)));
}

pub loop-k-preserved : goal.loop-k-preserved
loop-k-preserved g c =
    let cs = map (λ (x : AnyIndexical g.row.K). x.cond) c.args.list.now in
    let i = c.loop-k.invariant in
    let more = c.in_ok-near.ensures in
    record {
      dims = more.wider.dims ∙ i.dims;
      numbers = near_next cs c.args.o.0 c.args.groups.now c.loop-k.k _ c.loop-k.near c.in_ok-near.near c.loop-k-test.true more.wider i.numbers more.group;
    }

pub returns : goal.returns
returns g c = λ i u x p at. c.loop-k.invariant.numbers i u x (p.0, p.1, omega (arith, slice_get_within c.args.groups.now p.0 p.1 p.2, c.loop-k-test.false), p.2, p.3, p.4) at
