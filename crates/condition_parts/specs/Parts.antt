-- The parts of a condition: all of them hold where it does.
use Rattle.std.specs.Prelude.{◌≡◌, ◌||◌, ◌++◌, true, List}
use Rattle.std.specs.List.{All}
use Rattle.geo_conditions.specs.declared.cond.Cond.{Cond}
use Rattle.geo_conditions.specs.Reach.{State}
use Rattle.geo_conditions.specs.Conditions.{possible, FitsIn, AllFit}
use Rattle.geo_conditions.specs.Supported.{NoneRefuted}
use Rattle.condition_parts.specs.Literals.{some_possible}

-- one of the literals before is possible, or the condition
abbrev pub IsEither : List Cond → Cond → State → Type 0
IsEither before c S = (some_possible before S || possible c S) ≡ true

-- Where one of the literals before is possible, or c, so are all parts, and the other way round. They name only what those name.
pub record AreUnder (before : List Cond) (c : Cond) (parts : List Cond) : Type 0 where
  pub needed : (S : State) → IsEither before c S → NoneRefuted parts S
  pub enough : (S : State) → NoneRefuted parts S → IsEither before c S
  pub fit : (S : State) → AllFit before S → FitsIn c S → AllFit parts S

-- the same of all of some conditions
pub record AreUnderAll (before : List Cond) (cs : List Cond) (parts : List Cond) : Type 0 where
  pub needed : (S : State) → All (λ c. IsEither before c S) cs → NoneRefuted parts S
  pub enough : (S : State) → NoneRefuted parts S → All (λ c. IsEither before c S) cs
  pub fit : (S : State) → AllFit before S → AllFit cs S → AllFit parts S

-- such parts are put behind the old ones
abbrev pub PutsUnder : List Cond → Cond → List Cond → List Cond → Type 0
PutsUnder before c old new = (parts : List Cond) × (new ≡ old ++ parts) × AreUnder before c parts

abbrev pub PutsUnderAll : List Cond → List Cond → List Cond → List Cond → Type 0
PutsUnderAll before cs old new = (parts : List Cond) × (new ≡ old ++ parts) × AreUnderAll before cs parts

-- the condition is possible exactly where all parts are, and they name only what it names
pub record IsAllOf (c : Cond) (parts : List Cond) : Type 0 where
  pub needed : (S : State) → possible c S ≡ true → NoneRefuted parts S
  pub enough : (S : State) → NoneRefuted parts S → possible c S ≡ true
  pub fit : (S : State) → FitsIn c S → AllFit parts S
