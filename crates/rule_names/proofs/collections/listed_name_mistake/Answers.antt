use Rattle.std.proofs.Common.{ℕ, List, ◌∙◌, ap}
use Rattle.std.specs.Prelude.{is_some, not}
use Rattle.problem_data.specs.Value.{object_position}
use Rattle.rule_names.specs.Table.{found}
use Rattle.rule_names.specs.Mistakes.{first_of, mistake_if}
use Rattle.rule_names.specs.declared.mistake.Flaw.TheVariants.{UnknownName, RepeatedName}
use Rattle.rule_names.proofs.collections.listed_name_mistake.Goals as goal

pub returns : goal.returns
returns c =
    let name = c.args.name.now in
    c.earlier.ensures.lists (mistake_if (not (is_some (object_position c.args.problem.now name.name))) name.place UnknownName) (mistake_if (not c.args.is_new) name.place RepeatedName) (c.mistake_if-unknown.ensures ∙ ap (λ b. first_of (mistake_if (not b) name.place UnknownName)) (c.is_some-known.ensures ∙ ap is_some (c.position_of.ensures ∙ ap (found c.deref.result.now) c.as_bytes.ensures ∙ ap (λ (ns : List (List ℕ)). found ns name.name) c.deref.ensures ∙ c.requires.objects name.name)))
    c.mistake_if-repeated.ensures
