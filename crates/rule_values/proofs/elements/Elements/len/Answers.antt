use Rattle.std.proofs.Common.{sym, ◌∙◌, ap, length}
use Rattle.std.proofs.lemmas.List.FromFn.{length-map-range_with_len}
use Rattle.problem_data.specs.Value.{Object}
use Rattle.rule_values.specs.Elements.{elements_view}
use Rattle.rule_values.proofs.elements.Elements.len.Goals as goal

pub returns-in-Objects : goal.returns-in-Objects
returns-in-Objects c = sym (ap (λ e. length (elements_view e)) c.in-Objects.is ∙ length-map-range_with_len Object 0 c.in-Objects.count)
