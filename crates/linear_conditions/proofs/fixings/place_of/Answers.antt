use Rattle.std.proofs.Common.{ℕ, ap, sym, ◌∙◌}
use Rattle.std.specs.Prelude.{◌==◌, if◌then◌else◌}
use Rattle.linear_conditions.proofs.fixings.place_of.Goals as goal

pub returns-then-fixed-eq0 : goal.returns-then-fixed-eq0
returns-then-fixed-eq0 c = ap (λ (n : ℕ). if n == 0 then 1 else n) (sym c.if-fixed-eq0.true ∙ c.fixed_place-fixed.ensures)
