use Rattle.std.proofs.Common.{◌≡◌, ◌<◌, ℕ, List, length, refl, sym, ap, subst}
use Rattle.std.specs.Prelude.{nat_lt}
use Rattle.std.specs.List.{Contains}
use Rattle.rule_syntax.specs.declared.tree.PlacedName.{PlacedName}
use Rattle.problem_data.specs.Meaning.{position_of}
use Rattle.problem_data.proofs.Firsts.{tested, unless, unless_back}
use Rattle.layout_text.specs.Faults.{shape_names}
use Rattle.layout_text.proofs.Shapes.{below, below_back, listed, listed_back}
use Rattle.layout_text.proofs.faults.line.shape_fault.Goals as goal

pub returns : goal.returns
returns c =
    let shape : PlacedName = c.args.shape.now in
    let names : List (List ℕ) = shape_names c.args.problem.now c.args.object.now in
    let at : c.shape_position-position.result ≡ position_of names shape = c.shape_position-position.ensures.value in
    let size : length c.shapes.result.now ≡ length c.args.object.now.shapes = ap length c.shapes.ensures in
    tested (Contains names shape.name → ⊥) _ _ _ _ _ c.fault_if.ensures refl
    (unless (Contains names shape.name) (nat_lt c.shape_position-position.result (length c.shapes.result.now))
    (λ h. below_back c.shape_position-position.result (length c.shapes.result.now) (subst (λ (k : ℕ). c.shape_position-position.result < k) (sym size) (subst (λ (k : ℕ). k < length c.args.object.now.shapes) (sym at) (listed_back c.args.problem.now c.args.object.now shape h)))))
    (unless_back (Contains names shape.name) (nat_lt c.shape_position-position.result (length c.shapes.result.now))
    (λ t. listed c.args.problem.now c.args.object.now shape (subst (λ (k : ℕ). k < length c.args.object.now.shapes) at (subst (λ (k : ℕ). c.shape_position-position.result < k) size (below c.shape_position-position.result (length c.shapes.result.now) t)))))
