use Rattle.std.proofs.Common.{ℕ, List, ◌∙◌, ap, arith}
use Rattle.std.specs.Prelude.{not}
use Rattle.std.specs.List.{list_any}
use Rattle.std.specs.Str.{bytes_eq}
use Rattle.problem_data.specs.Seen.{meet}
use Rattle.rule_names.proofs.Listed.{listed-init, listed-step, listed-end}
use Rattle.rule_names.proofs.collections.listed_mistake.Goals as goal

pub names-init : goal.names-init
names-init c = listed-init c.args.problem.now c.args.names.now c.in_ok-seen.seen.value (c.in_ok-seen.ensures.ok ∙ c.new.ensures)

pub names-preserved : goal.names-preserved
names-preserved c =
    let bytes : List ℕ = c.as_bytes.result.now in
    listed-step c.args.problem.now c.args.names.now c.names.name-index c.name-item.result _ _ _ _ _ _ _ c.names-test.true c.name-item.is c.names.invariant
    c.as_bytes.ensures (c.in_ok-is_new.ensures.met ∙ ap (λ (ns : List (List ℕ)). meet ns bytes) c.deref_mut.ensures.value)
    (c.in_ok-is_new.ensures.is_new ∙ ap (λ (ns : List (List ℕ)). not (list_any (bytes_eq bytes) ns)) c.deref_mut.ensures.value) c.listed_name_mistake-here.ensures c.earlier-found.ensures.value

pub returns : goal.returns
returns c = listed-end c.args.problem.now c.args.names.now c.names.name-index c.names.seen.value c.names.found (omega arith) c.names.invariant
