use Rattle.std.proofs.Common.{◌≡◌, ◌||◌, ℕ, List, take}
use Rattle.std.specs.List.{list_any}
use Rattle.std.specs.Str.{bytes_eq}
use Rattle.rule_names.proofs.table.add_attributes.Given as goal

abbrev pub invariant-loop-attribute : goal.invariant-loop-attribute
invariant-loop-attribute l = (n : List ℕ) → list_any (bytes_eq n) l.names ≡ (list_any (bytes_eq n) l.fn.names || list_any (λ a. bytes_eq n a.name) (take l.attribute-index l.attributes))
