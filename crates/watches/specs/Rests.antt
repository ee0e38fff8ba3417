-- Parts of conditions, the objects that they name, and what a condition rests on.
use Rattle.std.specs.Prelude.{◌≡◌, ◌⊎◌, ℕ, true, ◌==◌}
use Rattle.std.specs.List.{list_any}
use Rattle.geo_conditions.specs.declared.cond.Cond.{Cond}
use Rattle.geo_conditions.specs.Form.{Sum}
use Rattle.geo_conditions.specs.Conditions.{possible, FitsIn}
use Rattle.geo_conditions.specs.Reach.{State, reach}
use Rattle.indexical.specs.Names.{names}

-- the terms of the form are of these two objects
abbrev pub HasOnly : Sum → ℕ → ℕ → Type 0
HasOnly f a b = (u : ℕ) → list_any (λ t. t.object.0 == u) f.terms ≡ true → (u ≡ a) ⊎ (u ≡ b)

-- the condition names no object but these two
abbrev pub NamesOnly : Cond → ℕ → ℕ → Type 0
NamesOnly c a b = (u : ℕ) → names u c ≡ true → (u ≡ a) ⊎ (u ≡ b)

-- where x is possible, so is c; and where c fits, so does x
pub record IsPart (x c : Cond) : Type 0 where
  pub fits : (S : State) → FitsIn c S → FitsIn x S
  pub enough : (S : State) → possible x S ≡ true → possible c S ≡ true

-- the condition is possible on each state that has both objects as S has them
abbrev pub RestsOn : Cond → State → ℕ → ℕ → Type 0
RestsOn c S a b = (T : State) → reach T a ≡ reach S a → reach T b ≡ reach S b → possible c T ≡ true
