use Rattle.std.proofs.Common.{◌+◌, drop, arith}
use Rattle.std.specs.Prelude.{flat_map}
use Rattle.std.proofs.lemmas.List.{length-drop}
use Rattle.std.proofs.lemmas.Result.{err_from_is_err_and}
use Rattle.geo_chan.proofs.Appending.{wrote_none, wrote_ok, wrote_err, wrote_all}
use Rattle.geo_chan.proofs.Pieces.{all_of_them}
use Rattle.layout_text.specs.Block.{later_group}
use Rattle.layout_text.proofs.Parts.{groups_more, groups_stopped}
use Rattle.layout_text.proofs.block.write_later_groups.Goals as goal

pub loop-k-init : goal.loop-k-init
loop-k-init g c = wrote_none _ _ _

pub loop-k-preserved : goal.loop-k-preserved
loop-k-preserved g c = let n = length-drop 1 c.args.layout.now in
    wrote_ok _ _ _ _ _ _ _ _ _ _ _ _ _ c.loop-k.invariant c.in_ok-write_later_group.ensures (groups_more c.args.layout.now c.loop-k.k (omega (arith, n)))

pub returns-in_err-write_later_group : goal.returns-in_err-write_later_group
returns-in_err-write_later_group g c = let p = err_from_is_err_and c.from_residual.result c.from_residual.ensures.1 in let n = length-drop 1 c.args.layout.now in
    rw (p.1, p.2) (wrote_err _ _ _ _ _ _ _ _ _ _ _ _ (flat_map later_group (drop (c.loop-k.k + 1) (drop 1 c.args.layout.now))) _ c.loop-k.invariant c.in_err-write_later_group.ensures (groups_stopped c.args.layout.now c.loop-k.k (omega (arith, n))))

pub returns : goal.returns
returns g c = let n = length-drop 1 c.args.layout.now in wrote_all _ _ _ _ _ _ _ _ _ c.loop-k.invariant (all_of_them later_group (drop 1 c.args.layout.now) c.loop-k.k (omega (arith, n)))
