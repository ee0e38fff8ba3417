use Rattle.std.proofs.Common.{◌++◌, refl, sym, append_assoc}
use Rattle.std.specs.Prelude.{codes}
use Rattle.std.proofs.lemmas.Result.{err_from_is_err_and}
use Rattle.geo_base.specs.Tuple.{spot}
use Rattle.geo_chan.proofs.Appending.{wrote_none, wrote_first, wrote_ok, wrote_err, wrote_then}
use Rattle.layout_text.specs.Block.{coordinates, head_of}
use Rattle.layout_text.proofs.block.write_placed.Goals as goal

pub returns-in_err-write_head : goal.returns-in_err-write_head
returns-in_err-write_head g c = let p = err_from_is_err_and c.from_residual.result c.from_residual.ensures.1 in
    rw (p.1, p.2) (wrote_err _ _ _ _ _ _ _ _ _ _ _ _ (coordinates (codes " ") (spot c.args.layout.now c.args.o.0).origin ++ codes "\n") _ (wrote_none _ _ _) c.in_err-write_head.ensures refl)

pub returns-in_err-write_coordinates : goal.returns-in_err-write_coordinates
returns-in_err-write_coordinates g c = let p = err_from_is_err_and c.from_residual-in_err-write_coordinates.result c.from_residual-in_err-write_coordinates.ensures.1 in
    rw (p.1, p.2) (wrote_err _ _ _ _ _ _ _ _ _ _ _ _ (codes "\n") _ (wrote_first _ _ _ _ _ _ _ _ c.in_ok-write_head.ensures) c.in_err-write_coordinates.ensures refl)

pub returns : goal.returns
returns g c = wrote_then _ _ _ _ _ _ _ _ _ _ _ _ _ (wrote_ok _ _ _ _ _ _ _ _ _ _ _ _ _ (wrote_first _ _ _ _ _ _ _ _ c.in_ok-write_head.ensures) c.in_ok-write_coordinates.ensures refl) c.write_all_bytes.ensures (sym (append_assoc (head_of c.args.problem.now c.args.layout.now c.args.o.0) (coordinates (codes " ") (spot c.args.layout.now c.args.o.0).origin) (codes "\n")))
