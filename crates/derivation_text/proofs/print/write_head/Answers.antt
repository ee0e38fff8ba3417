use Rattle.std.proofs.Common.{sym}
use Rattle.derivation_text.proofs.print.write_head.Goals as goal

pub returns : goal.returns
returns g c = rw (sym c.object_name.ensures) c.write_pieces.ensures
