-- What the answers of calls say, by case.
use Rattle.std.proofs.Common.{◌≡◌, Bool, true, false, Option, Some, None, subst}
use Rattle.std.specs.Prelude.{MatchBool, MatchOption}

-- an answer that is not there
pub from_none : {A : Type 0} (P : Type 0) (Q : A → Type 0) (r : Option A) → r ≡ None → MatchOption r P Q → P
from_none {A} P Q r e m = subst (λ (x : Option A). MatchOption x P Q) e m

-- an answer that is there
pub from_some : {A : Type 0} (P : Type 0) (Q : A → Type 0) (r : Option A) (x : A) → r ≡ Some x → MatchOption r P Q → Q x
from_some {A} P Q r x e m = subst (λ (y : Option A). MatchOption y P Q) e m

-- a test that is true
pub from_true : (P Q : Type 0) (b : Bool) → b ≡ true → MatchBool b P Q → P
from_true P Q b e m = subst (λ (x : Bool). MatchBool x P Q) e m

-- a test that is false
pub from_false : (P Q : Type 0) (b : Bool) → b ≡ false → MatchBool b P Q → Q
from_false P Q b e m = subst (λ (x : Bool). MatchBool x P Q) e m
