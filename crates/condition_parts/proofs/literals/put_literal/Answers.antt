use Rattle.std.proofs.Common.{subst, sym}
use Rattle.condition_parts.specs.Literals.{AddsTo}
use Rattle.condition_parts.proofs.Either.{adds_inserted}
use Rattle.condition_parts.proofs.literals.put_literal.Goals as goal

pub returns : goal.returns
returns c = subst (AddsTo c.args.c c.args.literals.now.items) (sym c.in_ok-insert.ensures.items) (adds_inserted c.args.c c.args.literals.now.items _)
