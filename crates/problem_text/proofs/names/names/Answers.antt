use Rattle.std.proofs.Common.{◌≡◌, ℕ, ◌≤◌, List, [], ◌++◌, length, map, inl, sym, ap, ◌∙◌, subst, arith}
use Rattle.geo_tokens.specs.Names.{NameTable, IsNameTable}
use Rattle.problem_text.specs.NameTable.{shape_name, is_optional, absent_names, place_names, named_object}
use Rattle.problem_data.specs.Problem.{ShapeData, ObjectData, ProblemData}
use Rattle.problem_data.specs.Accepted.{IsSaid}
use Rattle.std.specs.List.{Contains, list_any}
use Rattle.geo_tokens.specs.declared.token.Keyword.TheVariants as keywords
use Rattle.geo_tokens.specs.Class.{word_bytes}
use Rattle.problem_text.proofs.Said.{absent_is_new, said_shape_texts, said_shapes_differ, said_few_shapes, said_table}
use Rattle.problem_text.proofs.names.names.Goals as goal

-- the table of the shapes alone
shapes_alone : (p : ProblemData) → IsSaid p → IsNameTable (record { dims = p.dims; shapes = map shape_name p.shapes; objects = [] })
shapes_alone p s = record {
  dims = (said_table p s).dims;
  few = omega arith;
  shape_texts = λ k d l. inl (said_shape_texts p s k d l);
  shapes_differ = said_shapes_differ p s;
  object_texts = λ k d l. absurd (omega arith);
  objects_differ = λ j k d l m e. absurd (omega arith);
  lists = λ k d l. absurd (omega arith);
}

pub new-names-requires : goal.new-names-requires
new-names-requires c = subst (λ (n : ℕ). n ≤ 1000000000) (sym c.dims.ensures) (said_table c.args.problem.now c.is_said.ensures.said).dims

pub add_shapes-requires-clause-table : goal.add_shapes-requires-clause-table
add_shapes-requires-clause-table c =
    let dims : c.args.problem.now.dims ≡ c.new-names.result.dims = sym (ap (λ (t : NameTable). t.dims) c.new-names.ensures ∙ c.dims.ensures) in
    let shapes : c.args.problem.now.shapes ≡ c.shapes-shapes.result.now = sym c.shapes-shapes.ensures in
    let objects : [] ≡ c.new-names.result.objects = sym (ap (λ (t : NameTable). t.objects) c.new-names.ensures) in
    subst IsNameTable (λ i. record { dims = dims i; shapes = map shape_name (shapes i); objects = objects i }) (shapes_alone c.args.problem.now c.is_said.ensures.said)

pub add_absent-requires : goal.add_absent-requires
add_absent-requires c =
    let shapes : c.add_shapes.new.names.shapes ≡ map shape_name c.args.problem.now.shapes = ap (λ (t : NameTable). t.shapes) c.in_ok-add_shapes.ensures ∙ ap (λ (ss : List ShapeData). map shape_name ss) c.shapes-shapes.ensures in
    let new : Contains c.add_shapes.new.names.shapes (word_bytes keywords.Absent) → ⊥ =
    λ h. absent_is_new (map shape_name c.args.problem.now.shapes) (said_shape_texts c.args.problem.now c.is_said.ensures.said) (subst (λ (ns : List (List ℕ)). Contains ns (word_bytes keywords.Absent)) shapes h) in record { new_name = new }

pub add_objects-requires-clause-few : goal.add_objects-requires-clause-few
add_objects-requires-clause-few c = subst (λ (ss : List ShapeData). length ss ≤ 256) (sym c.shapes-shapes.ensures) (said_few_shapes c.args.problem.now c.is_said.ensures.said)

pub add_objects-requires-clause-table : goal.add_objects-requires-clause-table
add_objects-requires-clause-table c =
    let p : ProblemData = c.args.problem.now in
    let dims_of : NameTable → ℕ = λ t. t.dims in
    let shapes_of : NameTable → List (List ℕ) = λ t. t.shapes in
    let dims : p.dims ≡ c.add_absent.new.names.dims = sym (ap dims_of c.in_ok-add_absent.ensures ∙ ap dims_of c.in_ok-add_shapes.ensures ∙ ap dims_of c.new-names.ensures ∙ c.dims.ensures) in
    let named : c.add_shapes.new.names.shapes ≡ map shape_name p.shapes = ap shapes_of c.in_ok-add_shapes.ensures ∙ ap (λ (ss : List ShapeData). map shape_name ss) c.shapes-shapes.ensures in
    let optional : c.any_optional.result ≡ list_any is_optional p.objects = c.any_optional.ensures ∙ ap (λ (os : List ObjectData). list_any is_optional os) c.objects-objects.ensures in
    let places : place_names p ≡ c.add_absent.new.names.shapes = sym (ap shapes_of c.in_ok-add_absent.ensures ∙ (λ i. named i ++ absent_names (optional i))) in
    let shapes : p.shapes ≡ c.shapes-shapes.result.now = sym c.shapes-shapes.ensures in
    let objects : p.objects ≡ c.objects-objects.result.now = sym c.objects-objects.ensures in
    subst IsNameTable (λ i. record { dims = dims i; shapes = places i; objects = map (named_object (length (shapes i))) (objects i) }) (said_table p c.is_said.ensures.said)
