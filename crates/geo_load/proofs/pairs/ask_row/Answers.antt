use Rattle.std.proofs.Common.{[], ◌∷◌, length, ap, ◌∙◌, length-append, arith}
use Rattle.geo_load.proofs.Rows.{row_more}
use Rattle.geo_load.proofs.pairs.ask_row.Goals as goal

pub loop-j-preserved : goal.loop-j-preserved
loop-j-preserved c = record {
  long =
      let more = ap length c.in_ok-push.ensures.items ∙ length-append c.loop-j.row.items (c.blocks-in-loop-j.result ∷ []) in
      let long = c.loop-j.invariant.long in
      omega (arith, more, long);
  right =
      row_more c.args.problem.now c.args.layout.now c.args.d c.args.i.0 c.loop-j.j c.loop-j.row.items c.push.new.self.items c.blocks-in-loop-j.result
      c.loop-j.invariant.long c.in_ok-push.ensures.items c.blocks-in-loop-j.ensures.yes c.blocks-in-loop-j.ensures.no c.loop-j.invariant.right;
}
