use Rattle.std.proofs.Common.{ℕ, List, ◌∙◌, ap, sym, [], ◌∷◌, ◌++◌, take}
use Rattle.std.specs.List.{cons_option}
use Rattle.std.proofs.lemmas.List.{take_more}
use Rattle.std.proofs.lemmas.List.Elements.{filter_map-append}
use Rattle.problem_data.specs.Value.{object_position}
use Rattle.problem_data.specs.Truth.{listed_objects}
use Rattle.rule_names.specs.Table.{found}
use Rattle.rule_expand.proofs.formulas.positions_listed.Goals as goal

pub loop-name-preserved : goal.loop-name-preserved
loop-name-preserved c =
    let p = c.args.source.now.problem.now in
    let front = take c.loop-name.name-index c.args.names.now in
    c.in_ok-add_found.ensures
    ∙ ap (λ xs. xs ++ cons_option c.position_of.result []) c.loop-name.invariant
    ∙ ap (λ o. listed_objects p front ++ cons_option o []) (c.position_of.ensures ∙ ap (found c.deref.result.now) c.as_bytes.ensures ∙ ap (λ (ns : List (List ℕ)). found ns c.name-item.result.name) c.deref.ensures ∙ c.requires.names.objects c.name-item.result.name)
    ∙ sym (filter_map-append (λ n. object_position p n.name) front (c.name-item.result ∷ []))
    ∙ ap (listed_objects p) (ap (λ x. front ++ x ∷ []) c.name-item.is ∙ sym (take_more c.args.names.now c.loop-name.name-index c.name-item.result c.loop-name-test.true))
