use Rattle.std.proofs.Common.{◌≡◌, ◌<◌, ◌-◌, ℕ, ap, ◌∙◌, List, length, map, get_or, sym, subst, arith, refl, slice_index}
use Rattle.geo_conditions.specs.declared.cond.Cond.{Cond}
use Rattle.indexical.specs.declared.any.AnyIndexical.{AnyIndexical}
use Rattle.indexical.specs.Faces.{Faces}
use Rattle.sweep.specs.Picks.{PicksAt}
use Rattle.sweep.proofs.PickedConditions.{picks-map, one_pick}
use Rattle.object_pruning.specs.declared.rows.Group.{Group}
use Rattle.object_pruning.specs.InRows.{row, IsGroup, PutsNumber, group_of}
use Rattle.object_pruning.proofs.InRows.{row_get, single_group, rows_more, on_ok}
use Rattle.object_pruning.proofs.row_making.put_pick.Goals as goal

pub returns : goal.returns
returns g c =
    let cs = map (λ (y : AnyIndexical g.row.K). y.cond) c.args.list.now in
    let picks = c.args.picks.now in
    let rows = c.args.rows.now in
    let k = c.args.k in
    let o = c.args.o.0 in
    let r = c.row_of.result in
    let f = c.facing-facing.result in
    let x = c.index-list-number.result in
    let number = slice_index picks k in
    let e : c.number_at-number.result ≡ number = c.number_at-number.ensures.is in
    let v = c.index-rows-row_of.result in
    let now = c.put_number.new.groups in
    let low : r < length rows = omega (arith, c.row_of.ensures.below, c.requires.below.count) in
    let old = (get_or rows r v).items in
    let here : row rows r ≡ old = row_get rows r v low in
    let pick : PicksAt cs picks k x.cond = subst (λ (y : AnyIndexical g.row.K). PicksAt cs picks k y.cond) (sym (c.index-list-number.is ∙ ap (λ (i : ℕ). get_or c.args.list.now (i - 1) x) e)) (picks-map (λ (y : AnyIndexical g.row.K). y.cond) c.args.list.now picks k x c.requires.picks c.requires.pick) in
    let one : IsGroup cs o picks r (group_of f number) = single_group cs o picks r f number k c.requires.pick refl c.row_of.ensures.place (λ y e. subst (λ (z : Cond). Faces z o f) (one_pick cs picks k x.cond y pick (c.requires.pick, e)) c.facing-facing.ensures) in
    on_ok c.put_number.result _ _ (λ (p : PutsNumber f c.number_at-number.result old now.items). rows_more cs o picks f k r rows now c.row_of.ensures.below c.requires.below (subst (λ (gs : List Group). PutsNumber f number gs now.items) (sym here) (subst (λ (i : ℕ). PutsNumber f i old now.items) e p)) one) c.put_number.ensures
