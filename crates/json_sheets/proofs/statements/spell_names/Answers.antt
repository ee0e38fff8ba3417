use Rattle.std.proofs.Common.{refl}
use Rattle.problem_text.specs.Canonical.{name_spelling}
use Rattle.problem_text.proofs.PrintingLists.{left_listed, comma_joined, comma_joined_end, none_left}
use Rattle.json_sheets.proofs.statements.spell_names.Goals as goal

pub names-preserved : goal.names-preserved
names-preserved c =
    comma_joined (λ b xs. left_listed b name_spelling xs) name_spelling (λ x xs. refl) (λ x xs. refl) c.names.is_first c.args.names.now c.names.name-index c.name-item.result _ _ _ _ c.names-test.true c.name-item.is (c.in_ok-push_if.ensures {u = tt})
    (c.in_ok-push_name.ensures {u = tt}) c.names.invariant

pub returns : goal.returns
returns c = comma_joined_end (λ b xs. left_listed b name_spelling xs) (none_left name_spelling) c.names.is_first c.args.names.now c.names.name-index _ _ c.names-test.false c.names.invariant
