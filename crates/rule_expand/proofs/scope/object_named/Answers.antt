use Rattle.std.proofs.Common.{◌≡◌, ◌∙◌, ℕ, Option, List, ap, sym}
use Rattle.std.specs.Prelude.{Some}
use Rattle.std.specs.Option.{option_map_or}
use Rattle.problem_data.specs.Value.{object_position}
use Rattle.rule_names.specs.Table.{found}
use Rattle.rule_expand.specs.Plain as plain
use Rattle.rule_expand.specs.Expansion.{a_subject, an_expr}
use Rattle.rule_expand.specs.declared.plain.Subject.TheVariants as subjects
use Rattle.rule_expand.proofs.scope.object_named.Goals as goal

pub returns-in-Some-clause-meant : goal.returns-in-Some-clause-meant
returns-in-Some-clause-meant c =
    let name : List ℕ = c.args.name.now in
    let e : object_position c.args.source.now.problem.now name ≡ Some c.in-Some.o = sym (c.requires.names.objects name) ∙ sym (ap (λ (ns : List (List ℕ)). found ns name) c.deref.ensures) ∙ sym (ap (found c.deref.result.now) c.as_bytes.ensures) ∙ sym c.position_of.ensures ∙ c.in-Some.is in
    sym (ap (λ (i : Option ℕ). option_map_or (λ o. a_subject (subjects.Object o)) i (an_expr (plain.number 0))) e)
