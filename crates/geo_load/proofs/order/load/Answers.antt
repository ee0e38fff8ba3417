use Rattle.std.proofs.Common.{sym, subst}
use Rattle.geo_load.specs.Order.{IsAscending}
use Rattle.geo_load.proofs.Loaded.{loaded, promised}
use Rattle.geo_load.proofs.Presence.{present_ascends}
use Rattle.geo_load.proofs.order.load.Goals as goal

pub loading_of-requires : goal.loading_of-requires
loading_of-requires c = subst IsAscending (sym c.in_ok-objects.ensures) (present_ascends c.args.problem.now c.args.layout.now)

pub returns-clause-loading : goal.returns-clause-loading
returns-clause-loading c = loaded c.args.problem.now c.args.layout.now c.args.d c.in_ok-answers.answers c.in_ok-objects.objects.items c.loading_of.result c.in_ok-answers.ensures c.in_ok-objects.ensures c.loading_of.ensures

pub returns-clause-promises : goal.returns-clause-promises
returns-clause-promises c =
    promised c.args.problem.now c.args.layout.now c.args.d c.loading_of.result
    (loaded c.args.problem.now c.args.layout.now c.args.d c.in_ok-answers.answers c.in_ok-objects.objects.items c.loading_of.result c.in_ok-answers.ensures c.in_ok-objects.ensures c.loading_of.ensures)
