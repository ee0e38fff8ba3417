use Rattle.std.proofs.Common.{refl, sym, ap, ◌∙◌, subst, inl, inr, arith}
use Rattle.std.specs.Prelude.{slice_get}
use Rattle.std.proofs.lemmas.Bool.{false≢true, cases_eq}
use Rattle.std.proofs.lemmas.Option.{same_Some}
use Rattle.object_pruning.specs.declared.rows.Group.{Group}
use Rattle.object_pruning.specs.Runs.{IsInGroup}
use Rattle.object_pruning.proofs.unrefuted.are_groups_possible.Goals as goal

pub loop-k-init : goal.loop-k-init
loop-k-init g c = λ i w. absurd (omega (arith, w.2, w.3))

pub loop-k-preserved : goal.loop-k-preserved
loop-k-preserved g c = λ i w.
    let gs = c.args.groups.now in
    elim (cases_eq w.0 c.loop-k.k) [
      | inl e ↦
          let same = same_Some _ _ (sym w.4 ∙ ap (slice_get gs) e ∙ c.group_at-group.ensures.at) in
          c.is_group_possible.ensures.0 c.if-not-is_group_possible.false i (subst (λ (h : Group). IsInGroup h i) same w.5)
      | inr ne ↦ c.loop-k.invariant i (w.0, w.1, w.2, omega (arith, w.3, ne), w.4, w.5)
    ]

pub returns-then-not-is_group_possible : goal.returns-then-not-is_group_possible
returns-then-not-is_group_possible g c = (
  λ e. absurd (false≢true e),
  λ n. absurd (false≢true (sym c.if-not-is_group_possible.true ∙ c.is_group_possible.ensures.1 (λ i b. n i (c.loop-k.k, c.group_at-group.result.now, c.loop-k.auto.k, c.loop-k-test.true, c.group_at-group.ensures.at, b)))),
)

pub returns : goal.returns
returns g c = (
  λ e i w. c.loop-k.invariant i (w.0, w.1, w.2, omega (arith, w.3, c.loop-k-test.false), w.4, w.5),
  λ n. refl,
)
