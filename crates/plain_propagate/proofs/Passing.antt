-- A pass over the objects.
use Rattle.std.proofs.Common.{◌≡◌, ℕ, ◌+◌, Bool, true, false, List, sym, subst}
use Rattle.geo_conditions.specs.declared.cond.Cond.{Cond}
use Rattle.geo_conditions.specs.Reach.{State}
use Rattle.plain_propagate.specs.Defects.{ObjectFine}
use Rattle.plain_propagate.specs.Passes.{IsNarrower}
use Rattle.plain_propagate.proofs.Finding.{one_more}
use Rattle.plain_propagate.proofs.Narrowed.{Going, Unless, FineBelow, going_on, unless_on}

-- what is known after the object before n was narrowed
abbrev pub Along : List Cond → State → State → Bool → ℕ → Type 0
Along cs S R b n = Going cs S R × Unless b cs S R × FineBelow b cs R n

-- one object more with which nothing is wrong
fine_more : (b : Bool) (cs : List Cond) (S : State) (n : ℕ) → FineBelow b cs S n → ObjectFine cs S n → FineBelow b cs S (n + 1)
fine_more true cs S n h f = tt
fine_more false cs S n h f = one_more (ObjectFine cs S) n h f

-- the object was narrowed
pub along_changed : (cs : List Cond) (S R Q : State) (b c : Bool) (n : ℕ) → Along cs S R b n → IsNarrower cs R Q → c ≡ true → Along cs S Q c (n + 1)
along_changed cs S R Q b c n a m e = subst (λ (x : Bool). Along cs S Q x (n + 1)) (sym e)
    (going_on cs S R Q a.0 m.0, unless_on b cs S R Q a.1 m, tt)

-- nothing was wrong with the object
pub along_fine : (cs : List Cond) (S R Q : State) (b c : Bool) (n : ℕ) → Along cs S R b n → Q ≡ R → ObjectFine cs R n → c ≡ b → Along cs S Q c (n + 1)
along_fine cs S R Q b c n a q f e = subst (λ (x : Bool). Along cs S Q x (n + 1)) (sym e)
    (subst (λ (X : State). Along cs S X b (n + 1)) (sym q) (a.0, a.1, fine_more b cs R n a.2 f))
