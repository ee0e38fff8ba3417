use Rattle.std.proofs.Common.{◌≡◌, ℕ, List, [], ◌∷◌, ◌++◌, take, map, sym, ap, ◌∙◌, subst}
use Rattle.std.specs.List.{Contains}
use Rattle.geo_tokens.specs.Names.{NameTable, IsPlaceText}
use Rattle.problem_text.specs.NameTable.{shape_name}
use Rattle.problem_data.proofs.InLists.{push_view}
use Rattle.problem_text.proofs.Listed.{holds, is_new}
use Rattle.problem_text.proofs.names.add_shapes.Goals as goal

pub add_shape-requires-clause-text : goal.add_shape-requires-clause-text
add_shape-requires-clause-text c =
    subst IsPlaceText (sym (c.as_bytes.ensures ∙ c.name.ensures))
    (holds shape_name c.args.shapes.now c.shapes.shape-index c.shape-item.result c.shapes-test.true c.shape-item.is IsPlaceText c.requires.table.shape_texts)

pub add_shape-requires-clause-new_name : goal.add_shape-requires-clause-new_name
add_shape-requires-clause-new_name c h =
    let front : List (List ℕ) = take c.shapes.shape-index (map shape_name c.args.shapes.now) in
    let there : Contains front c.as_bytes.result.now = subst (λ (ns : List (List ℕ)). Contains ns c.as_bytes.result.now) (ap (λ (t : NameTable). t.shapes) c.shapes.invariant) h in
    is_new shape_name c.args.shapes.now c.shapes.shape-index c.shape-item.result c.shapes-test.true c.shape-item.is c.requires.table.shapes_differ
    (subst (λ (n : List ℕ). Contains front n) (c.as_bytes.ensures ∙ c.name.ensures) there)

pub shapes-preserved : goal.shapes-preserved
shapes-preserved c =
    let named : c.as_bytes.result.now ≡ c.shape-item.result.name = c.as_bytes.ensures ∙ c.name.ensures in
    let added : NameTable → List ℕ → NameTable = λ t n. record t { shapes = t.shapes ++ n ∷ [] } in
    c.in_ok-add_shape.ensures.ok ∙ (λ i. added (c.shapes.invariant i) (named i))
    ∙ ap (λ (ns : List (List ℕ)). record c.args.names.now { shapes = ns }) (sym (push_view shape_name c.args.shapes.now c.shapes.shape-index c.shape-item.result c.shapes-test.true c.shape-item.is))
