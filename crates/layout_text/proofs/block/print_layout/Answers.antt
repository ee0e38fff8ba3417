use Rattle.std.proofs.Common.{◌++◌, refl, sym, append_assoc}
use Rattle.std.specs.Prelude.{codes}
use Rattle.std.proofs.lemmas.Result.{err_from_is_err_and}
use Rattle.geo_chan.proofs.Appending.{wrote_none, wrote_first, wrote_ok, wrote_err, wrote_then}
use Rattle.layout_text.specs.Block.{lines_of, token_line}
use Rattle.layout_text.proofs.block.print_layout.Goals as goal

pub returns-in_err-write_all_bytes : goal.returns-in_err-write_all_bytes
returns-in_err-write_all_bytes g c = let p = err_from_is_err_and c.from_residual.result c.from_residual.ensures.1 in
    rw (p.1, p.2) (wrote_err _ _ _ _ _ _ _ _ _ _ _ _ (lines_of c.args.problem.now c.args.layout.now ++ token_line c.args.layout.now) _ (wrote_none _ _ _) c.in_err-write_all_bytes.ensures refl)

pub returns-in_err-write_lines : goal.returns-in_err-write_lines
returns-in_err-write_lines g c = let p = err_from_is_err_and c.from_residual-in_err-write_lines.result c.from_residual-in_err-write_lines.ensures.1 in
    rw (p.1, p.2) (wrote_err _ _ _ _ _ _ _ _ _ _ _ _ (token_line c.args.layout.now) _ (wrote_first _ _ _ _ _ _ _ _ c.in_ok-write_all_bytes.ensures) c.in_err-write_lines.ensures refl)

pub returns : goal.returns
returns g c = wrote_then _ _ _ _ _ _ _ _ _ _ _ _ _ (wrote_ok _ _ _ _ _ _ _ _ _ _ _ _ _ (wrote_first _ _ _ _ _ _ _ _ c.in_ok-write_all_bytes.ensures) c.in_ok-write_lines.ensures refl) c.print_token_line.ensures (sym (append_assoc (codes "layout\n") (lines_of c.args.problem.now c.args.layout.now) (token_line c.args.layout.now)))
