use Rattle.condition_parts.proofs.Naming.{child_names, form_names, some_terms}
use Rattle.condition_parts.proofs.names.+names.Goals as goal

pub returns-then-names_some : goal.returns-then-names_some
returns-then-names_some t c = λ e. child_names c.in-AtLeast.field-0 c.in-AtLeast.children c.args.c.now c.child-item.result c.as_slice-child-items.result.now c.loop-child.child-index c.in-AtLeast.is c.as_slice-child-items.ensures c.loop-child-test.true c.child-item.is (c.if-names_some.ensures e)

pub returns-in-Lin : goal.returns-in-Lin
returns-in-Lin t c = λ e. form_names c.in-Lin.f c.args.c.now c.in-Lin.is (some_terms c.in-Lin.f.terms c.terms.result.now c.is_empty.result c.terms.ensures.value c.is_empty.ensures e)
