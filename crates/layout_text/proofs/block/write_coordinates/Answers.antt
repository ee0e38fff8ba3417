use Rattle.std.proofs.Common.{drop, ◌+◌, pos, arith}
use Rattle.std.specs.Prelude.{flat_map}
use Rattle.std.proofs.lemmas.Result.{err_from_is_err_and}
use Rattle.geo_base.specs.Tuple.{spot}
use Rattle.geo_chan.proofs.Appending.{wrote_none, wrote_ok, wrote_err, wrote_all}
use Rattle.geo_chan.proofs.Pieces.{one_more, stopped_at, all_of_them}
use Rattle.layout_text.specs.Block.{behind}
use Rattle.layout_text.proofs.block.write_coordinates.Goals as goal

pub loop-d-init : goal.loop-d-init
loop-d-init g c = wrote_none _ _ _

pub loop-d-preserved : goal.loop-d-preserved
loop-d-preserved g c = wrote_ok _ _ _ _ _ _ _ _ _ _ _ _ _ c.loop-d.invariant c.in_ok-write_coordinate.ensures (one_more (behind c.args.mark.now) (spot c.args.layout.now c.args.o.0).origin c.loop-d.d (pos 0) (omega (arith, c.requires.dimensions)))

pub returns-in_err-write_coordinate : goal.returns-in_err-write_coordinate
returns-in_err-write_coordinate g c = let p = err_from_is_err_and c.from_residual.result c.from_residual.ensures.1 in
    rw (p.1, p.2) (wrote_err _ _ _ _ _ _ _ _ _ _ _ _ (flat_map (behind c.args.mark.now) (drop (c.loop-d.d + 1) (spot c.args.layout.now c.args.o.0).origin)) _ c.loop-d.invariant c.in_err-write_coordinate.ensures (stopped_at (behind c.args.mark.now) (spot c.args.layout.now c.args.o.0).origin c.loop-d.d (pos 0) (omega (arith, c.requires.dimensions))))

pub returns : goal.returns
returns g c = wrote_all _ _ _ _ _ _ _ _ _ c.loop-d.invariant (all_of_them (behind c.args.mark.now) (spot c.args.layout.now c.args.o.0).origin c.loop-d.d (omega (arith, c.requires.dimensions)))
