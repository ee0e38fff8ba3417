use Rattle.std.proofs.Common.{ap, sym, ◌∙◌, subst, arith, List, map, length}
use Rattle.std.specs.List.{All}
use Rattle.std.proofs.lemmas.List.{length-map}
use Rattle.geo_conditions.specs.Walk.{Variable as Seen, AreOf, values}
use Rattle.std.specs.Option.{option_map, option_copied}
use Rattle.geo_conditions.proofs.Orders.{order_are_of}
use Rattle.geo_state.specs.Trail.{HasSmallIntervals}
use Rattle.trail_search.specs.Cursor.{HasDimension}
use Rattle.trail_search.specs.Variables.{variable_of}
use Rattle.trail_search.proofs.Starting.{order_few, order_have, started_well}
use Rattle.trail_search.proofs.start.start_walker.Goals as goal

pub token_values-requires : goal.token_values-requires
token_values-requires g c =
    let S = c.args.first in
    let o = c.args.order.now in
    let e = ap (map variable_of) c.deref.ensures.value ∙ c.in_ok-variables.ensures in
    (omega arith, (c.requires.k, (c.requires.token, (subst (AreOf S) (sym e) (order_are_of g.row.K S o c.requires.order), subst (All (HasDimension g.row.K)) (sym e) (order_have g.row.K S o c.requires.order)))))

pub start-requires : goal.start-requires
start-requires g c =
    let S = c.args.first in
    let o = c.args.order.now in
    let f = order_few g.row.K S o c.objects-objects.ensures.shape c.requires.k c.requires.order in
    let n = length-map c.in_ok-variables.variables.items variable_of in
    let m = ap length (c.in_ok-variables.ensures) in
    (omega arith, (omega arith, (c.requires.k, (omega (arith, c.len-2.ensures, f, n, m), subst HasSmallIntervals (sym (c.in_ok-copy.ensures)) c.requires.small))))

pub returns-clause-well : goal.returns-clause-well
returns-clause-well g c =
    let S = c.args.first in
    let n = length-map c.in_ok-variables.variables.items variable_of in
    let t = c.in_ok-trail.ensures in
    let e = ap (map variable_of) c.deref.ensures.value ∙ c.in_ok-variables.ensures in
    started_well g.row.K c.args.order.now _ _ c.objects-objects.ensures.shape c.requires.small c.requires.order c.requires.token c.in_ok-variables.ensures
    (c.in_ok-token.ensures ∙ ap (λ (xs : List Seen). option_map (values xs) (option_copied c.args.after)) e) (t.state ∙ c.in_ok-copy.ensures) (omega (arith, t.levels, c.len-2.ensures, n)) t.restores
    (omega (arith, c.in_ok-values.ensures.length, c.len.ensures, n)) c.in_ok-values.ensures.zero
