-- That what is added and multiplied fits in 128 bits.
use Rattle.std.specs.Prelude.{List, [], ◌∷◌, ℤ, ◌+ℤ◌, ◌*ℤ◌, FitsSigned}
use Rattle.std.specs.List.{All}
use Rattle.std.specs.Int.{w128}
use Rattle.geo_conditions.specs.declared.form.Term.{Term}
use Rattle.geo_conditions.specs.Form.{Sum}
use Rattle.linear_conditions.specs.Sums.{add_at}

-- each factor has room for z more
abbrev pub HasRoom : List Term → ℤ → Type 0
HasRoom ts z = All (λ t. FitsSigned w128 (t.factor +ℤ z)) ts

-- terms fit, while others are added to them one after another
abbrev pub HaveRoom : List Term → List Term → Type 0
HaveRoom ts [] = Unit {0}
HaveRoom ts (a ∷ more) = HasRoom ts a.factor × HaveRoom (add_at a ts) more

pub record CanAdd (f g : Sum) : Type 0 where
  pub terms : HaveRoom f.terms g.terms
  pub constant : FitsSigned w128 (f.constant +ℤ g.constant)

pub record CanScale (z : ℤ) (f : Sum) : Type 0 where
  pub terms : All (λ t. FitsSigned w128 (z *ℤ t.factor)) f.terms
  pub constant : FitsSigned w128 (z *ℤ f.constant)
