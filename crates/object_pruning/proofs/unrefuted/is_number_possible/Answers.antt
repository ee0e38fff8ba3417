use Rattle.std.proofs.Common.{◌≡◌, ◌-◌, true, map, sym, ◌∙◌, subst, rules, Some}
use Rattle.std.specs.Prelude.{slice_get}
use Rattle.std.proofs.lemmas.Option.{same_Some}
use Rattle.derivation.proofs.Leaves.{all_at}
use Rattle.geo_conditions.specs.declared.cond.Cond.{Cond}
use Rattle.geo_conditions.specs.Conditions.{FitsIn, possible}
use Rattle.object_pruning.specs.Kept.{placed}
use Rattle.object_pruning.proofs.LivePicks.{at_number}
use Rattle.object_pruning.proofs.unrefuted.is_number_possible.Goals as goal

pub is_possible_at-requires : goal.is_possible_at-requires
is_possible_at-requires g c =
    let cs = map g.I.Indexical.cond c.args.list.now in
    let x = g.I.Indexical.cond c.index-list-number.result in
    let i = c.args.number - 1 in
    let here : slice_get cs i ≡ Some x = at_number g.I.Indexical.cond c.args.list.now i c.index-list-number.result c.requires.number.1 c.index-list-number.is in
    let fits : FitsIn x c.args.s.now = all_at (λ y. FitsIn y c.args.s.now) cs i x c.requires.fits here in
    search rules

pub returns : goal.returns
returns g c =
    let cs = map g.I.Indexical.cond c.args.list.now in
    let x = g.I.Indexical.cond c.index-list-number.result in
    let i = c.args.number - 1 in
    let here : slice_get cs i ≡ Some x = at_number g.I.Indexical.cond c.args.list.now i c.index-list-number.result c.requires.number.1 c.index-list-number.is in (
      λ e y p. subst (λ (z : Cond). possible z (placed c.args.s.now c.args.o.0 c.args.q.now) ≡ true) (same_Some _ _ (sym here ∙ p)) (sym c.is_possible_at.ensures ∙ e),
      λ n. c.is_possible_at.ensures ∙ n x here,
    )
