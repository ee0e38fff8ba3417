use Rattle.std.proofs.Common.{◌++◌, ◌-◌, refl, subst}
use Rattle.std.specs.Prelude.{codes}
use Rattle.geo_load.specs.Blocks.{Blocks, present}
use Rattle.geo_load.specs.Order.{IsLoading, Promises}
use Rattle.geo_load.specs.declared.order.Loading.{Loading}
use Rattle.geo_meaning.proofs.Pairs.{shaped}
use Rattle.command_input.specs.declared.command.Status.TheVariants.{Answered, No}
use Rattle.command_reply.proofs.Ending.{answers_told, replied}
use Rattle.layout_commands.specs.Load.{LoadAnswer, name_lines}
use Rattle.layout_commands.proofs.Givens.{gives_read}
use Rattle.layout_commands.proofs.Named.{order_there, cycle_there}
use Rattle.layout_commands.proofs.load.loaded.Goals as goal

pub load-requires-clause-layout : goal.load-requires-clause-layout
load-requires-clause-layout c = shaped c.args.given.now.accepted.problem c.args.given.now.layout c.requires.given.1.tuple

pub named-requires : goal.named-requires
named-requires c =
    let p = c.args.given.now.accepted.problem in
    let t = c.args.given.now.layout in
    order_there p t (c.args.dimension - 1) c.in-Order.order
    (subst (λ (l : Loading). IsLoading (Blocks p t (c.args.dimension - 1)) (present p t) l) c.in-Order.is c.in_ok-order.ensures.loading)

pub named-requires-in-Cycle : goal.named-requires-in-Cycle
named-requires-in-Cycle c =
    let p = c.args.given.now.accepted.problem in
    let t = c.args.given.now.layout in
    cycle_there p t (c.args.dimension - 1) c.in-Cycle.cycle
    (subst (λ (l : Loading). IsLoading (Blocks p t (c.args.dimension - 1)) (present p t) l) c.in-Cycle.is c.in_ok-order.ensures.loading)

pub returns-in-Order : goal.returns-in-Order
returns-in-Order c =
    let g = c.args.given.now in
    let p = g.accepted.problem in
    let t = g.layout in
    let own = codes "order\n" ++ name_lines p c.in-Order.order in
    replied c.named.result own Answered _ c.named.ensures.text c.named.ensures.status (λ x e s input h.
    answers_told (LoadAnswer c.args.dimension) input own x.text.items Answered x.status e s (record {
      problem = p;
      tuple = t;
      order = c.in-Order.order;
      given = record { gives = gives_read input g h; there = c.requires.there };
      loading = subst (λ (l : Loading). IsLoading (Blocks p t (c.args.dimension - 1)) (present p t) l) c.in-Order.is c.in_ok-order.ensures.loading;
      best = subst (λ (l : Loading). Promises (Blocks p t (c.args.dimension - 1)) (present p t) l) c.in-Order.is c.in_ok-order.ensures.promises;
      says = refl;
    }) tt)

pub returns-in-Cycle : goal.returns-in-Cycle
returns-in-Cycle c =
    let g = c.args.given.now in
    let p = g.accepted.problem in
    let t = g.layout in
    let own = codes "cycle\n" ++ name_lines p c.in-Cycle.cycle in
    let promised = subst (λ (l : Loading). Promises (Blocks p t (c.args.dimension - 1)) (present p t) l) c.in-Cycle.is c.in_ok-order.ensures.promises in
    replied c.named-in-Cycle.result own No _ c.named-in-Cycle.ensures.text c.named-in-Cycle.ensures.status (λ x e s input h.
    answers_told (LoadAnswer c.args.dimension) input own x.text.items No x.status e s (record {
      problem = p;
      tuple = t;
      cycle = c.in-Cycle.cycle;
      given = record { gives = gives_read input g h; there = c.requires.there };
      loading = subst (λ (l : Loading). IsLoading (Blocks p t (c.args.dimension - 1)) (present p t) l) c.in-Cycle.is c.in_ok-order.ensures.loading;
      round = promised.0;
      none = promised.1;
      says = refl;
    }) tt)
