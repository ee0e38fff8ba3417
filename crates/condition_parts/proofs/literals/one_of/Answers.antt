use Rattle.std.proofs.Common.{refl}
use Rattle.condition_parts.proofs.Either.{is_one_of}
use Rattle.condition_parts.proofs.literals.one_of.Goals as goal

pub returns : goal.returns
returns c = is_one_of c.args.literals.items c.in_ok-children.children _ refl c.in_ok-children.ensures
