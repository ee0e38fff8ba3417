use Rattle.std.proofs.Common.{◌≡◌, ◌++◌, map, drop}
use Rattle.std.specs.Prelude.{flat_map}
use Rattle.problem_text.specs.Canonical.{line_text, object_spelling}
use Rattle.problem_text.proofs.print.text.push_objects.Given as goal

abbrev pub invariant-objects : goal.invariant-objects
invariant-objects l = l.text.items ++ flat_map (λ o. line_text (object_spelling (map (λ s. s.name) l.shapes) o)) (drop l.object-index l.objects) ≡ l.fn.text.items ++ flat_map (λ o. line_text (object_spelling (map (λ s. s.name) l.fn.shapes) o)) l.fn.objects
