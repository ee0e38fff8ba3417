use Rattle.std.proofs.Common.{◌≡◌, true, false, sym, ◌∙◌}
use Rattle.derivation_check.specs.declared.progress.Checked.TheVariants.{Yes, No}
use Rattle.derivation_check.proofs.judged.is_yes.Goals as goal

pub returns-in-No : goal.returns-in-No
returns-in-No c = (
  λ no. absurd (let e : false ≡ true = no in cc),
  λ yes. absurd (let e : Yes ≡ No c.in-No.field-0 = sym yes ∙ c.in-No.is in cc),
)
