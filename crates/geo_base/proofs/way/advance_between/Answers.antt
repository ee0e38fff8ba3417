use Rattle.std.proofs.Common.{◌∙◌, arith}
use Rattle.geo_base.specs.Ways.{key}
use Rattle.geo_base.proofs.Ways.{stays_carry, ran_out_carry}
use Rattle.geo_base.proofs.way.advance_between.Goals as goal

pub loop-j-preserved : goal.loop-j-preserved
loop-j-preserved g c =
    let k = key g.row.K c.args.way.now.lead c.args.way.now.up in
    let first = k c.args.first.now.coordinates in
    let past = k c.args.past.now.coordinates in
    let c0 = k c.args.c.now.coordinates in
    let n0 = k c.args.n.now.coordinates in
    let c1 = k c.loop-j.c.coordinates in
    let n1 = k c.loop-j.n.coordinates in
    let c2 = k c.copy-in-loop-j-2.new.into.coordinates in
    let n2 = k c.copy-in-loop-j.new.into.coordinates in
    record {
      stays = stays_carry g.row.K c.loop-j.j first past c0 n0 c1 n1 c2 n2 (omega arith) (omega arith) c.loop-j.invariant.stays c.loop-j.invariant.ran_out
          c.copy-in-loop-j.ensures.same c.copy-in-loop-j.ensures.others
          (λ i b ne. c.copy-in-loop-j-2.ensures.others i b ne ∙ c.copy.ensures.others i b ne);
      ran_out = ran_out_carry g.row.K c.loop-j.j first past c0 n0 c1 n1 c2 n2 (omega arith) (omega arith) c.loop-j.invariant.stays c.loop-j.invariant.ran_out
          c.copy-in-loop-j.ensures.same c.copy-in-loop-j.ensures.others
          (λ i b ne. c.copy-in-loop-j-2.ensures.others i b ne ∙ c.copy.ensures.others i b ne)
          c.copy-in-loop-j-2.ensures.same (grind arith);
    }
