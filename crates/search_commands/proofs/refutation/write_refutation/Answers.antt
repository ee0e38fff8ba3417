use Rattle.std.proofs.Common.{refl}
use Rattle.std.proofs.lemmas.Result.{err_from_is_err_and}
use Rattle.geo_chan.proofs.Appending.{wrote_none, wrote_first, wrote_err, wrote_then}
use Rattle.derivation_text.specs.Lines.{derivation_text}
use Rattle.search_commands.proofs.refutation.write_refutation.Goals as goal

pub returns-in_err-write_all_bytes : goal.returns-in_err-write_all_bytes
returns-in_err-write_all_bytes g c = let p = err_from_is_err_and c.from_residual.result c.from_residual.ensures.1 in
    rw (p.1, p.2) (wrote_err _ _ _ _ _ _ _ _ _ _ _ _ (derivation_text c.args.refutation.now.names c.args.refutation.now.log.events) _ (wrote_none _ _ _) c.in_err-write_all_bytes.ensures refl)

pub returns : goal.returns
returns g c = wrote_then _ _ _ _ _ _ _ _ _ _ _ _ _ (wrote_first _ _ _ _ _ _ _ _ c.in_ok-write_all_bytes.ensures) c.print_derivation.ensures refl
