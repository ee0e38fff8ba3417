use Rattle.std.proofs.Common.{◌+◌, ◌∙◌, ap, arith}
use Rattle.std.specs.Prelude.{Err}
use Rattle.std.proofs.lemmas.Result.{err_from_is_err_and}
use Rattle.rule_syntax.specs.View.{expr_view}
use Rattle.rule_expand.specs.Plain as plain
use Rattle.rule_expand.specs.Expansion.{expansions_of, expr_expanded}
use Rattle.rule_expand.specs.Counts.{expr_nodes, expr_depth}
use Rattle.rule_expand.specs.ScopeView.{scope_view}
use Rattle.rule_expand.specs.declared.limits.ExpandFault.{ExpandFault}
use Rattle.rule_expand.proofs.OneNode.{no-node, formula-lacks, comparison-made}
use Rattle.rule_expand.proofs.formulas.expand_comparison.Goals as goal

pub returns-then-not-take_node : goal.returns-then-not-take_node
returns-then-not-take_node c = λ next. no-node _ _ _ _ (omega arith) (omega arith) (c.if-not-take_node.ensures {u = tt})

pub returns-in_err-left : goal.returns-in_err-left
returns-in_err-left c = λ next.
    let p = c.args.source.now.problem.now in
    let sub = scope_view p c.args.scope.now in
    let a = expr_expanded (expansions_of p c.args.in_sight) p (expr_view c.args.a.now) sub in
    let b = expr_expanded (expansions_of p c.args.in_sight) p (expr_view c.args.b.now) sub in
    let k = c.if-not-take_node.ensures {u = tt} in
    let r = err_from_is_err_and c.from_residual.result c.from_residual.ensures.1 in
    formula-lacks (plain.comparison a c.args.rel b) (expr_nodes a) (expr_depth a) 1 next c.args.room.now c.take_node.new.room c.args.deep next c.expand_expr.new.room _ c.from_residual.result (r.1 ∙ ap (λ (f : ExpandFault). Err f) r.2) k.0 (omega arith)
    (omega arith) k.1 (c.in_err-left.ensures {u = tt})

pub returns-in_err-right : goal.returns-in_err-right
returns-in_err-right c = λ next.
    let p = c.args.source.now.problem.now in
    let sub = scope_view p c.args.scope.now in
    let a = expr_expanded (expansions_of p c.args.in_sight) p (expr_view c.args.a.now) sub in
    let b = expr_expanded (expansions_of p c.args.in_sight) p (expr_view c.args.b.now) sub in
    let k = c.if-not-take_node.ensures {u = tt} in
    let r = err_from_is_err_and c.from_residual-in_err-right.result c.from_residual-in_err-right.ensures.1 in
    let n = (c.in_ok-left.ensures {u = tt}).taken in
    formula-lacks (plain.comparison a c.args.rel b) (expr_nodes b) (expr_depth b) (1 + expr_nodes a) next c.args.room.now c.expand_expr.new.room c.args.deep next c.expand_expr-2.new.room _ c.from_residual-in_err-right.result
    (r.1 ∙ ap (λ (f : ExpandFault). Err f) r.2) (let z = k.0 in omega arith) (omega arith) (omega arith) k.1 (c.in_err-right.ensures {u = tt})

pub returns : goal.returns
returns c = λ next.
    let p = c.args.source.now.problem.now in
    let sub = scope_view p c.args.scope.now in
    comparison-made (expr_expanded (expansions_of p c.args.in_sight) p (expr_view c.args.a.now) sub) c.args.rel (expr_expanded (expansions_of p c.args.in_sight) p (expr_view c.args.b.now) sub) next c.args.room.now c.take_node.new.room c.expand_expr.new.room
    c.args.deep c.expand_expr-2.new.room c.in_ok-left.left c.in_ok-right.right c.comparison.result (c.if-not-take_node.ensures {u = tt}) (c.in_ok-left.ensures {u = tt}) (c.in_ok-right.ensures {u = tt}) c.comparison.ensures
