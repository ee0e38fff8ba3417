-- Linear forms.
use Rattle.std.specs.Prelude.{◌≡◌, ◌≢◌, ◌^◌, ◌-◌, ◌<◌, ◌≤◌, List, ℤ, pos, negsuc, ◌≤ℤ◌, AllPairs}
use Rattle.std.specs.List.{All}
use Rattle.geo_conditions.specs.declared.form.Term.{Term}

-- a form: terms, each a coordinate with its factor, and a constant
pub record Sum : Type 0 where
  pub terms : List Term
  pub constant : ℤ

-- the limit of a factor and of a constant
abbrev pub IsBounded : ℤ → Type 0
IsBounded z = (negsuc (10 ^ 15 - 1) ≤ℤ z) × (z ≤ℤ pos (10 ^ 15))

-- the term a stands before b: its object has a lesser number, or the same number and it has a lesser dimension
pub record StandsBefore (a b : Term) : Type 0 where
  pub object : a.object.0 ≤ b.object.0
  pub dimension : a.object.0 ≡ b.object.0 → a.dimension < b.dimension

-- terms in order of object and dimension, each pair once, with factors that are not 0, and all numbers within the limit
pub record IsForm (terms : List Term) (apart : ℤ) : Type 0 where
  pub in_order : AllPairs StandsBefore terms
  pub factors : All (λ a. IsBounded a.factor × (a.factor ≢ pos 0)) terms
  pub constant : IsBounded apart
