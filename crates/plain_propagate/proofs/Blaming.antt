-- Which condition is blamed.
use Rattle.std.proofs.Common.{◌≡◌, ◌-◌, ◌⊎◌, ℕ, true, List, [], ◌∷◌, ◌++◌, take, sym, ◌∙◌, subst, inl, inr}
use Rattle.std.specs.List.{All}
use Rattle.std.proofs.lemmas.List.{append_cancel_left}
use Rattle.std.proofs.lemmas.List.Elements.{All-take}
use Rattle.geo_conditions.specs.declared.cond.Cond.{Cond}
use Rattle.geo_conditions.specs.Conditions.{possible}
use Rattle.geo_conditions.specs.Reach.{State}
use Rattle.geo_conditions.specs.Supported.{NoneRefuted}
use Rattle.derivation.specs.declared.event.Event.{Event}
use Rattle.derivation.specs.declared.event.Event.TheVariants.{Dead}
use Rattle.geo_state.specs.Settle.{IsBare, BlamesFirst}

same_number : (old : List Event) (i j : ℕ) → old ++ Dead i ∷ [] ≡ old ++ Dead j ∷ [] → i ≡ j
same_number old i j e = let f : Dead i ∷ [] ≡ Dead j ∷ [] = append_cancel_left old (Dead i ∷ []) (Dead j ∷ []) e in cc

bare_among : (cs : List Cond) (S : State) → NoneRefuted cs S → All (λ c. IsBare c → possible c S ≡ true) cs
bare_among cs S h k d l bare = h k d l

-- the first refuted condition is blamed
pub blames_first : (cs : List Cond) (S : State) (i : ℕ) (old new : List Event) → NoneRefuted (take (i - 1) cs) S → new ≡ old ++ Dead i ∷ [] → BlamesFirst cs S old new
blames_first cs S i old new h e j f =
    subst (λ (n : ℕ). All (λ c. IsBare c → possible c S ≡ true) (take (n - 1) cs)) (same_number old i j (sym e ∙ f)) (bare_among (take (i - 1) cs) S h)

-- where none is refuted, none is blamed wrongly
pub blames_none : (cs : List Cond) (S : State) (old new : List Event) → NoneRefuted cs S → BlamesFirst cs S old new
blames_none cs S old new h j f = bare_among (take (j - 1) cs) S (All-take (λ c. possible c S ≡ true) (j - 1) cs h)

-- nothing was done yet, or no condition is refuted at S
abbrev pub Begins : List Cond → State → State → List Event → List Event → Type 0
Begins cs S T old new = ((T ≡ S) × (new ≡ old)) ⊎ NoneRefuted cs S

pub blames_begun : (cs : List Cond) (S T : State) (old mid new : List Event) → Begins cs S T old mid → BlamesFirst cs T mid new → BlamesFirst cs S old new
blames_begun cs S T old mid new (inl (e, f)) h = subst (λ (l : List Event). BlamesFirst cs S l new) f (subst (λ (X : State). BlamesFirst cs X mid new) e h)
blames_begun cs S T old mid new (inr n) h = blames_none cs S old new n

pub open_begun : (cs : List Cond) (S T : State) (old mid : List Event) → Begins cs S T old mid → NoneRefuted cs T → NoneRefuted cs S
open_begun cs S T old mid (inl (e, f)) h = subst (NoneRefuted cs) e h
open_begun cs S T old mid (inr n) h = n
