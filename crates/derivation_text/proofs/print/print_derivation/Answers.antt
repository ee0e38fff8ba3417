use Rattle.std.proofs.Common.{List, ◌++◌, ap, sym}
use Rattle.std.specs.Prelude.{codes}
use Rattle.std.proofs.lemmas.Result.{err_from_is_err_and}
use Rattle.geo_chan.proofs.Appending.{wrote_none, wrote_first, wrote_err, wrote_then}
use Rattle.derivation.specs.declared.event.Event.{Event}
use Rattle.derivation_text.specs.Lines.{lines_of}
use Rattle.derivation_text.proofs.print.print_derivation.Goals as goal

pub returns-in_err-write_lines : goal.returns-in_err-write_lines
returns-in_err-write_lines g c = let p = err_from_is_err_and c.from_residual.result c.from_residual.ensures.1 in
    rw (p.1, p.2) (wrote_err _ _ _ _ _ _ _ _ _ _ _ _ (codes "qed\n") _ (wrote_none _ _ _) c.in_err-write_lines.ensures (ap (λ (es : List Event). lines_of c.args.names.now 0 es ++ codes "qed\n") (sym c.events.ensures)))

pub returns : goal.returns
returns g c = wrote_then _ _ _ _ _ _ _ _ _ _ _ _ _ (wrote_first _ _ _ _ _ _ _ _ c.in_ok-write_lines.ensures) c.write_all_bytes.ensures (ap (λ (es : List Event). lines_of c.args.names.now 0 es ++ codes "qed\n") (sym c.events.ensures))
