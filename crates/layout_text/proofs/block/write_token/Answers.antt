use Rattle.std.proofs.Common.{arith, drop}
use Rattle.std.specs.Prelude.{flat_map}
use Rattle.std.proofs.lemmas.Result.{err_from_is_err_and}
use Rattle.geo_chan.proofs.Appending.{wrote_none, wrote_first, wrote_err, wrote_then}
use Rattle.layout_text.specs.Block.{later_group}
use Rattle.layout_text.proofs.Parts.{token_parts}
use Rattle.layout_text.proofs.block.write_token.Goals as goal

pub returns-in_err-write_group : goal.returns-in_err-write_group
returns-in_err-write_group g c = let p = err_from_is_err_and c.from_residual.result c.from_residual.ensures.1 in
    rw (p.1, p.2) (wrote_err _ _ _ _ _ _ _ _ _ _ _ _ (flat_map later_group (drop 1 c.args.layout.now)) _ (wrote_none _ _ _) c.in_err-write_group.ensures (token_parts c.args.layout.now (omega (arith, c.len.ensures))))

pub returns : goal.returns
returns g c = wrote_then _ _ _ _ _ _ _ _ _ _ _ _ _ (wrote_first _ _ _ _ _ _ _ _ c.in_ok-write_group.ensures) c.write_later_groups.ensures (token_parts c.args.layout.now (omega (arith, c.len.ensures)))
