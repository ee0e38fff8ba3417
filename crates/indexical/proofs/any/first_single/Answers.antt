use Rattle.std.specs.Prelude.{◌==◌}
use Rattle.indexical.specs.Bound.{SaysBound}
use Rattle.indexical.proofs.Bounds.{first_as}
use Rattle.indexical.specs.Names.{names}
use Rattle.indexical.proofs.any.first_single.Goals as goal

pub returns-in-Some : goal.returns-in-Some
returns-in-Some g c =
    let b = c.in-Some.bound in
    let says : SaysBound b c.args.x.now.cond = c.args.x.now.bounds b c.in-Some.is in
    first_as (λ o. b.object.0 == o) (λ o. names o c.args.x.now.cond) c.args.from c.args.end says.named c.object_within.result c.object_within.ensures
