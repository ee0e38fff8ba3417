use Rattle.std.proofs.Common.{ℕ, ◌++◌, ◌∷◌, [], ◌∙◌, get_or, map, ap, refl}
use Rattle.rule_print.specs.Canonical.{written, name}
use Rattle.problem_text.specs.Canonical.{name_spelling, name_at}
use Rattle.problem_text.proofs.PrintingLists.{left_listed, comma_joined_at, comma_joined_end, none_left}
use Rattle.problem_text.proofs.print.statement.spell_shape_names.Goals as goal

pub positions-preserved : goal.positions-preserved
positions-preserved c =
    let spelled = λ (i : ℕ). name_spelling (name_at (map (λ s. s.name) c.args.shapes.now) i) in
    comma_joined_at (λ b xs. left_listed b spelled xs) spelled (λ x xs. refl) (λ x xs. refl) c.positions.is_first c.args.positions.now c.positions.position-index 0 (get_or c.args.positions.now c.positions.position-index 0) _ _ _ _ c.positions-test.true refl (c.in_ok-push_if.ensures {u = tt})
    (c.in_ok-push.ensures {u = tt} ∙ ap (λ n. map written c.push_if.new.into.items ++ name n ∷ []) c.shape_name.ensures) c.positions.invariant

pub returns : goal.returns
returns c =
    let spelled = λ (i : ℕ). name_spelling (name_at (map (λ s. s.name) c.args.shapes.now) i) in
    comma_joined_end (λ b xs. left_listed b spelled xs) (none_left spelled) c.positions.is_first c.args.positions.now c.positions.position-index _ _ c.positions-test.false c.positions.invariant
