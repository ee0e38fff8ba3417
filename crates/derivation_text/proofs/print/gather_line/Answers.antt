use Rattle.std.proofs.Common.{◌≡◌, ◌∙◌, ◌++◌, ℕ, List, length, take, sym, ap}
use Rattle.std.proofs.lemmas.Result.{err_from_is_err_and}
use Rattle.geo_chan.proofs.Appending.{wrote_none, wrote_first, wrote_err}
use Rattle.derivation_text.specs.Lines.{line_of}
use Rattle.derivation_text.proofs.Gathered.{still_held, all_put}
use Rattle.derivation_text.proofs.print.gather_line.Goals as goal

pub returns-in_err-write_all_bytes : goal.returns-in_err-write_all_bytes
returns-in_err-write_all_bytes g c =
    let held : c.bytes-held.result.now ≡ c.args.page.now = c.bytes-held.ensures in
    let same : take (length c.bytes-held.result.now) c.bytes.result.now ≡ c.args.page.now =
    ap (take (length c.bytes-held.result.now)) c.bytes.ensures ∙ still_held c.write_line.result c.args.page.now c.write_line.new.sink (line_of c.args.names.now c.args.o.0 c.args.e) (length c.bytes-held.result.now) c.write_line.ensures.bytes (ap length held) in
    let p = err_from_is_err_and c.from_residual.result c.from_residual.ensures.1 in
    rw (p.1, p.2) (wrote_err _ _ _ _ _ _ _ _ _ _ _ _ (line_of c.args.names.now c.args.o.0 c.args.e) _ (wrote_none _ _ _) c.in_err-write_all_bytes.ensures (ap (λ (z : List ℕ). z ++ line_of c.args.names.now c.args.o.0 c.args.e) (sym same)))

pub returns : goal.returns
returns g c =
    let held : c.bytes-held.result.now ≡ c.args.page.now = c.bytes-held.ensures in
    let same : take (length c.bytes-held.result.now) c.bytes.result.now ≡ c.args.page.now =
    ap (take (length c.bytes-held.result.now)) c.bytes.ensures ∙ still_held c.write_line.result c.args.page.now c.write_line.new.sink (line_of c.args.names.now c.args.o.0 c.args.e) (length c.bytes-held.result.now) c.write_line.ensures.bytes (ap length held) in
    all_put g.W.Sink.written g.W.Sink.faults g.W.Sink.quiet c.args.sink.now c.write_all_bytes.new.sink c.write_line-2.new.sink c.args.page.now _ c.clear.new.self (line_of c.args.names.now c.args.o.0 c.args.e) c.write_line-2.result same (wrote_first _ _ _ _ _ _ _ _ c.in_ok-write_all_bytes.ensures) c.write_line-2.ensures c.clear.ensures
