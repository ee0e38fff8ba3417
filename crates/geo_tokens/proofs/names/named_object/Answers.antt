use Rattle.std.proofs.Common.{refl}
use Rattle.geo_tokens.proofs.names.named_object.Goals as goal

pub returns : goal.returns
returns c = rw (c.in_ok-name.ensures {u = tt}, (c.in_ok-from_slice.ensures {u = tt}).items) refl
