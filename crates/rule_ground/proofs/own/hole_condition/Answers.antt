use Rattle.std.proofs.Common.{◌≡◌, ◌∙◌, ap, List, [], ◌∷◌, ℤ, pos, negsuc, to_z-of_z, rules}
use Rattle.std.specs.Prelude.{◌-ℤ◌}
use Rattle.std.specs.Int.{w64}
use mir.Val.{SFits, to_z, of_z}
use Rattle.linear_conditions.specs.CondTree.{CondTree, linear, at_least, conds}
use Rattle.linear_conditions.proofs.CondViews.{view-at_least, two-made}
use Rattle.rule_ground.specs.Shapes.{term}
use Rattle.rule_ground.proofs.own.hole_condition.Goals as goal

pub returns : goal.returns
returns c =
    let first : ℤ → CondTree = λ (z : ℤ). linear (record { terms = term c.args.o.0 c.args.d (pos 1) ∷ []; constant = z }) in
    let second : ℤ → CondTree = λ (z : ℤ). linear (record { terms = term c.args.o.0 c.args.d (negsuc 0) ∷ []; constant = z }) in
    let high : SFits w64 c.opposite.result = record { sfits = c.opposite.type_inv } in
    let end : to_z w64 (of_z w64 c.args.before.high) ≡ c.args.before.high = search rules in
    let low : to_z w64 (of_z w64 c.args.behind.low) ≡ c.args.behind.low = search rules in
    view-at_least (pos 1) c.push-2.new.self
    ∙ ap (λ (cs : List CondTree). at_least (pos 1) (conds cs))
    (two-made _ _ _ c.in_ok-first.first c.in_ok-second.second c.new-parts.ensures c.in_ok-push.ensures.ok c.in_ok-push-2.ensures.ok
    ∙ (λ i. (c.in_ok-first.ensures ∙ ap first (to_z-of_z high ∙ c.opposite.ensures.value ∙ ap (λ (z : ℤ). pos 0 -ℤ z) end)) i ∷ ((c.in_ok-second.ensures ∙ ap second low) i ∷ [])))
