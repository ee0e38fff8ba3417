use Rattle.std.proofs.Common.{◌++◌, refl, sym, append_assoc}
use Rattle.std.specs.Prelude.{codes}
use Rattle.std.proofs.lemmas.Result.{err_from_is_err_and}
use Rattle.geo_chan.proofs.Appending.{wrote_none, wrote_first, wrote_ok, wrote_err, wrote_then}
use Rattle.layout_text.specs.Block.{token_of}
use Rattle.layout_text.proofs.block.print_token_line.Goals as goal

pub returns-in_err-write_all_bytes : goal.returns-in_err-write_all_bytes
returns-in_err-write_all_bytes g c = let p = err_from_is_err_and c.from_residual.result c.from_residual.ensures.1 in
    rw (p.1, p.2) (wrote_err _ _ _ _ _ _ _ _ _ _ _ _ (token_of c.args.layout.now ++ codes "\n") _ (wrote_none _ _ _) c.in_err-write_all_bytes.ensures refl)

pub returns-in_err-write_token : goal.returns-in_err-write_token
returns-in_err-write_token g c = let p = err_from_is_err_and c.from_residual-in_err-write_token.result c.from_residual-in_err-write_token.ensures.1 in
    rw (p.1, p.2) (wrote_err _ _ _ _ _ _ _ _ _ _ _ _ (codes "\n") _ (wrote_first _ _ _ _ _ _ _ _ c.in_ok-write_all_bytes.ensures) c.in_err-write_token.ensures refl)

pub returns : goal.returns
returns g c = wrote_then _ _ _ _ _ _ _ _ _ _ _ _ _ (wrote_ok _ _ _ _ _ _ _ _ _ _ _ _ _ (wrote_first _ _ _ _ _ _ _ _ c.in_ok-write_all_bytes.ensures) c.in_ok-write_token.ensures refl) c.write_all_bytes-2.ensures (sym (append_assoc (codes "token ") (token_of c.args.layout.now) (codes "\n")))
