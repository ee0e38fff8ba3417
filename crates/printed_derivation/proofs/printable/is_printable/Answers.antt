use Rattle.std.proofs.Common.{◌∙◌, sym}
use Rattle.printed_derivation.proofs.printable.is_printable.Goals as goal

pub returns-then-all_named : goal.returns-then-all_named
returns-then-all_named c = ((λ h. record { named = c.all_named.ensures.0 c.if-all_named.true; limited = c.all_limited.ensures.0 h }), (λ h. c.all_limited.ensures.1 h.limited))
