use Rattle.std.proofs.Common.{refl}
use Rattle.printed_derivation.proofs.printable.is_limited.Goals as goal

pub returns-in-SplitShape : goal.returns-in-SplitShape
returns-in-SplitShape c = rw c.in-SplitShape.is ((λ h. tt), (λ h. refl))
