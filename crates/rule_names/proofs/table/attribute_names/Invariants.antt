use Rattle.std.proofs.Common.{◌≡◌, ℕ, List, take}
use Rattle.std.specs.List.{list_any}
use Rattle.std.specs.Str.{bytes_eq}
use Rattle.rule_names.specs.Sight.{lists_attribute}
use Rattle.rule_names.proofs.table.attribute_names.Given as goal

abbrev pub invariant-loop-object : goal.invariant-loop-object
invariant-loop-object l = (n : List ℕ) → list_any (bytes_eq n) l.names.value ≡ list_any (λ o. lists_attribute o n) (take l.object-index l.objects)
