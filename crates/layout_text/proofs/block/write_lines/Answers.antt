use Rattle.std.proofs.Common.{◌+◌, length, drop, arith}
use Rattle.std.specs.Prelude.{flat_map}
use Rattle.std.specs.List.{range_with_len}
use Rattle.std.proofs.lemmas.Result.{err_from_is_err_and}
use Rattle.geo_chan.proofs.Appending.{wrote_none, wrote_ok, wrote_err, wrote_all}
use Rattle.layout_text.specs.Block.{line_of}
use Rattle.layout_text.proofs.Parts.{lines_more, lines_stopped, lines_done}
use Rattle.layout_text.proofs.block.write_lines.Goals as goal

pub loop-o-init : goal.loop-o-init
loop-o-init g c = wrote_none _ _ _

pub loop-o-preserved : goal.loop-o-preserved
loop-o-preserved g c = wrote_ok _ _ _ _ _ _ _ _ _ _ _ _ _ c.loop-o.invariant c.in_ok-write_line.ensures (lines_more c.args.problem.now c.args.layout.now c.loop-o.o (omega arith))

pub returns-in_err-write_line : goal.returns-in_err-write_line
returns-in_err-write_line g c = let p = err_from_is_err_and c.from_residual.result c.from_residual.ensures.1 in
    rw (p.1, p.2) (wrote_err _ _ _ _ _ _ _ _ _ _ _ _ (flat_map (line_of c.args.problem.now c.args.layout.now) (drop (c.loop-o.o + 1) (range_with_len 0 (length c.args.layout.now)))) _ c.loop-o.invariant c.in_err-write_line.ensures (lines_stopped c.args.problem.now c.args.layout.now c.loop-o.o (omega arith)))

pub returns : goal.returns
returns g c = wrote_all _ _ _ _ _ _ _ _ _ c.loop-o.invariant (lines_done c.args.problem.now c.args.layout.now c.loop-o.o (omega arith))
