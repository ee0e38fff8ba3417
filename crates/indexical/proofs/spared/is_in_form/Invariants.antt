use Rattle.std.proofs.Common.{◌≡◌, drop}
use Rattle.std.specs.Prelude.{◌==◌}
use Rattle.std.specs.List.{list_any}
use Rattle.indexical.proofs.spared.is_in_form.Given as goal

-- the terms that were passed are of other objects
abbrev pub invariant-loop-term : goal.invariant-loop-term
invariant-loop-term l = list_any (λ t. t.object.0 == l.o.0) l.f.terms ≡ list_any (λ t. t.object.0 == l.o.0) (drop l.term-index l.term-items)
