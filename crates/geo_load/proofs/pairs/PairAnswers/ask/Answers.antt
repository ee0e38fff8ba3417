use Rattle.std.proofs.Common.{[], ◌∷◌, length, ap, ◌∙◌, length-append, arith}
use Rattle.geo_load.proofs.Rows.{rows_more}
use Rattle.geo_load.proofs.pairs.PairAnswers.ask.Goals as goal

pub loop-i-preserved : goal.loop-i-preserved
loop-i-preserved c = record {
  long =
      let more = ap length c.in_ok-push.ensures.items ∙ length-append c.loop-i.rows.items (c.in_ok-row.row ∷ []) in
      let long = c.loop-i.invariant.long in
      omega (arith, more, long);
  right =
      rows_more c.args.problem.now c.args.layout.now c.args.d c.loop-i.i (length c.args.problem.now.objects) c.loop-i.rows.items c.push.new.self.items c.in_ok-row.row
      c.loop-i.invariant.long c.in_ok-push.ensures.items c.in_ok-row.ensures c.loop-i.invariant.right;
}
