use Rattle.std.proofs.Common.{◌≡◌, ◌<◌, ◌∙◌, ◌-◌, ℕ, map, length, ap, sym, subst, arith, Some}
use Rattle.std.specs.Prelude.{slice_get}
use Rattle.indexical.specs.declared.any.AnyIndexical.{AnyIndexical}
use Rattle.indexical.specs.Nearness.{IsRefutedNear}
use Rattle.object_pruning.proofs.LivePicks.{at_number}
use Rattle.object_pruning.proofs.NearRows.{near_found}
use Rattle.object_pruning.proofs.near_making.near_number.Goals as goal

pub returns-clause-number : goal.returns-clause-number
returns-clause-number g c =
    let f = λ (x : AnyIndexical g.row.K). x.cond in
    let list = c.args.list.now in
    let k = c.saturating_sub-k.result in
    let low : k < length list = omega (arith, c.if-k-list.false) in
    let x = c.index-list-k.result in
    let n = c.in_ok-nearness.nearness in
    let at : slice_get (map f list) (c.args.number - 1) ≡ Some x.cond = ap (slice_get (map f list)) (sym c.saturating_sub-k.ensures) ∙ at_number f list k x low c.index-list-k.is in
    let near : IsRefutedNear g.row.K x.cond c.args.o.0 c.args.u.0 n.ahead.coordinates n.behind.coordinates = subst (λ (v : ℕ). IsRefutedNear g.row.K x.cond c.args.o.0 v n.ahead.coordinates n.behind.coordinates) c.if-nearness-u.false c.in_ok-nearness.ensures in
    near_found (map f list) c.args.o.0 c.args.number c.args.u x.cond g.row.K n.ahead.coordinates n.behind.coordinates c.args.near.now c.wider.result at c.requires.dims c.wider.ensures.own c.wider.ensures.ahead c.wider.ensures.behind near
