use Rattle.std.proofs.Common.{◌≡◌, ℕ, List, [], ◌∷◌, ◌++◌, take, map, length, sym, ap, ◌∙◌, subst}
use Rattle.std.specs.List.{Contains}
use Rattle.std.proofs.lemmas.List.{take-map}
use Rattle.geo_tokens.specs.Names.{NameTable, IsNameText, IsShapeList}
use Rattle.problem_text.specs.NameTable.{named_object}
use Rattle.problem_data.proofs.InLists.{push_view}
use Rattle.problem_text.proofs.Listed.{holds, inside, stands, is_new}
use Rattle.problem_text.proofs.names.add_objects.Goals as goal

-- what is added, as the table has it
abbrev Named : Type 0
Named = List ℕ × List ℕ

abbrev name_of : Named → List ℕ
name_of o = o.0

pub add_object-requires-clause-text : goal.add_object-requires-clause-text
add_object-requires-clause-text c =
    let os : List Named = map (named_object c.args.shapes) c.args.objects.now in
    let o : Named = named_object c.args.shapes c.object-item.result in
    subst IsNameText (sym (c.as_bytes.ensures ∙ c.name.ensures))
    (holds name_of os c.objects.object-index o (inside (named_object c.args.shapes) c.args.objects.now c.objects.object-index c.object-item.result c.objects-test.true c.object-item.is)
    (stands (named_object c.args.shapes) c.args.objects.now c.objects.object-index c.object-item.result c.objects-test.true c.object-item.is) IsNameText c.requires.table.object_texts)

pub add_object-requires-clause-new_name : goal.add_object-requires-clause-new_name
add_object-requires-clause-new_name c h =
    let os : List Named = map (named_object c.args.shapes) c.args.objects.now in
    let o : Named = named_object c.args.shapes c.object-item.result in
    let bytes : List ℕ = c.as_bytes.result.now in
    let there : Contains (map name_of (take c.objects.object-index os)) bytes = subst (λ (t : NameTable). Contains (map name_of t.objects) bytes) c.objects.invariant h in
    let front : Contains (take c.objects.object-index (map name_of os)) bytes = subst (λ (ns : List (List ℕ)). Contains ns bytes) (sym (take-map name_of c.objects.object-index os)) there in
    is_new name_of os c.objects.object-index o (inside (named_object c.args.shapes) c.args.objects.now c.objects.object-index c.object-item.result c.objects-test.true c.object-item.is)
    (stands (named_object c.args.shapes) c.args.objects.now c.objects.object-index c.object-item.result c.objects-test.true c.object-item.is) c.requires.table.objects_differ
    (subst (λ (n : List ℕ). Contains (take c.objects.object-index (map name_of os)) n) (c.as_bytes.ensures ∙ c.name.ensures) front)

pub add_object-requires-clause-list : goal.add_object-requires-clause-list
add_object-requires-clause-list c =
    let own : List ℕ = (named_object c.args.shapes c.object-item.result).1 in
    let held : IsShapeList (length c.args.names.now.shapes) own =
    holds (named_object c.args.shapes) c.args.objects.now c.objects.object-index c.object-item.result c.objects-test.true c.object-item.is (λ o. IsShapeList (length c.args.names.now.shapes) o.1) c.requires.table.lists in
    subst (λ (t : NameTable). IsShapeList (length t.shapes) c.as_slice.result.now) (sym c.objects.invariant) (subst (λ (js : List ℕ). IsShapeList (length c.args.names.now.shapes) js) (sym (c.as_slice.ensures.value ∙ c.in_ok-places.ensures)) held)

pub objects-preserved : goal.objects-preserved
objects-preserved c =
    let named : c.as_bytes.result.now ≡ c.object-item.result.name = c.as_bytes.ensures ∙ c.name.ensures in
    let added : NameTable → List ℕ → List ℕ → NameTable = λ t n js. record t { objects = t.objects ++ (n, js) ∷ [] } in
    c.in_ok-add_object.ensures.ok ∙ (λ i. added (c.objects.invariant i) (named i) ((c.as_slice.ensures.value ∙ c.in_ok-places.ensures) i))
    ∙ ap (λ (os : List Named). record c.args.names.now { objects = os }) (sym (push_view (named_object c.args.shapes) c.args.objects.now c.objects.object-index c.object-item.result c.objects-test.true c.object-item.is))
