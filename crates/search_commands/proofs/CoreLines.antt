-- Texts of rules and layouts, grown by one.
use Rattle.std.proofs.Common.{◌≡◌, ℕ, List, ◌++◌, ◌∙◌, ap, append_assoc}

-- what was put behind a text stands behind what is in front of it
pub grown : (old front line now new : List ℕ) → now ≡ old ++ front → new ≡ now ++ line → new ≡ old ++ (front ++ line)
grown old front line now new e f = f ∙ ap (λ (xs : List ℕ). xs ++ line) e ∙ append_assoc old front line
