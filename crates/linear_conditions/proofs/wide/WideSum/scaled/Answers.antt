use Rattle.std.proofs.Common.{◌≡◌, ◌++◌, ◌∙◌, ◌*ℤ◌, ℤ, FitsSigned, rules, append-nil, to_z, of_z, to_z-of_z, get_or, length, sym, ap, subst, arith, List}
use Rattle.std.specs.Int.{w128}
use Rattle.std.proofs.lemmas.List.{drop_all}
use Rattle.linear_conditions.specs.Sums.{scale_terms}
use Rattle.linear_conditions.specs.Views.{wide_terms}
use Rattle.linear_conditions.specs.declared.wide.WideTerm.{WideTerm}
use Rattle.linear_conditions.proofs.WideSteps.{nothing, all-at, scaled-more}
use Rattle.linear_conditions.proofs.wide.WideSum.scaled.Goals as goal

pub scaled_term-requires : goal.scaled_term-requires
scaled_term-requires c =
    subst (λ (y : ℤ). FitsSigned w128 (y *ℤ (get_or c.as_slice-t-items.result.now c.loop-t.t-index nothing).factor)) (sym (to_z-of_z c.ranges.z))
    (subst (λ (ws : List WideTerm). FitsSigned w128 (c.args.z *ℤ (get_or ws c.loop-t.t-index nothing).factor)) (sym c.as_slice-t-items.ensures)
    (all-at (λ t. FitsSigned w128 (c.args.z *ℤ t.factor)) c.args.self.now.terms.items c.loop-t.t-index nothing c.requires.terms
    (omega (arith, c.loop-t-test.true, ap length c.as_slice-t-items.ensures))))

pub loop-t-preserved : goal.loop-t-preserved
loop-t-preserved c =
    scaled-more _ _ _ c.as_slice-t-items.result.now c.loop-t.t-index _ _ c.loop-t-test.true (c.in_ok-push_unless_zero.ensures {u = tt}) c.scaled_term.ensures c.loop-t.invariant

pub returns : goal.returns
returns c =
    let z = to_z w128 (of_z w128 c.args.z) in
    let made = wide_terms c.loop-t.terms.items in
    let terms : made ≡ scale_terms c.args.z (wide_terms c.args.self.now.terms.items) =
    sym (append-nil made) ∙ sym (ap (λ (vs : List WideTerm). made ++ scale_terms z (wide_terms vs)) (drop_all c.loop-t.t-index c.as_slice-t-items.result.now c.loop-t-test.false))
    ∙ c.loop-t.invariant ∙ ap (λ (vs : List WideTerm). scale_terms z (wide_terms vs)) c.as_slice-t-items.ensures
    ∙ ap (λ (y : ℤ). scale_terms y (wide_terms c.args.self.now.terms.items)) (to_z-of_z c.ranges.z) in
    let constant : to_z w128 (of_z w128 (z *ℤ to_z w128 (of_z w128 c.args.self.now.constant))) ≡ c.args.z *ℤ c.args.self.now.constant = search rules in
    λ i. record { terms = terms i; constant = constant i }
