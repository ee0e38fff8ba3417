-- What holds of the results of steps that follow each other.
use Rattle.std.proofs.Common.{◌≡◌, Bool, true, false, refl, subst}
use Rattle.geo_tokens.specs.declared.fault.FaultWord.{FaultWord}
use Rattle.linear_conditions.specs.Counts.{Counts, Outcome, Fault, Done, and_then, allowed, either_way, OnDone}

pub on_fault : (A : Type 0) (w : FaultWord) (P : A → Type 0) → OnDone A (Fault w) P
on_fault A w P = record { get = λ a k h. cc }

injected : (A : Type 0) (P : A → Type 0) (a b : A) (k j : Counts) → P a → Done a k ≡ Done b j → P b
injected A P a b k j p h = let e : a ≡ b = cc in subst P e p

pub on_done : (A : Type 0) (a : A) (k : Counts) (P : A → Type 0) → P a → OnDone A (Done a k) P
on_done A a k P p = record { get = λ b j h. injected A P a b k j p h }

pub on_allowed : (A : Type 0) (b : Bool) (w : FaultWord) (o : Outcome A) (P : A → Type 0) → (b ≡ true → OnDone A o P) → OnDone A (allowed A b w o) P
unfolding allowed
on_allowed A true w o P h = h refl
on_allowed A false w o P h = on_fault A w P

pub on_either : (A : Type 0) (b : Bool) (o u : Outcome A) (P : A → Type 0) → (b ≡ true → OnDone A o P) → (b ≡ false → OnDone A u P) → OnDone A (either_way A b o u) P
unfolding either_way
on_either A true o u P h k = h refl
on_either A false o u P h k = k refl

pub on_then : (A B : Type 0) (o : Outcome A) (go : A → Counts → Outcome B) (P : A → Type 0) (Q : B → Type 0) →
    OnDone A o P → ((a : A) (k : Counts) → P a → OnDone B (go a k) Q) → OnDone B (and_then A B o go) Q
unfolding and_then
on_then A B (Fault w) go P Q h f = on_fault B w Q
on_then A B (Done a j) go P Q h f = f a j (h.get a j refl)

-- after a step of which nothing is asked
pub on_any : (A B : Type 0) (o : Outcome A) (go : A → Counts → Outcome B) (Q : B → Type 0) →
    ((a : A) (k : Counts) → OnDone B (go a k) Q) → OnDone B (and_then A B o go) Q
unfolding and_then
on_any A B (Fault w) go Q f = on_fault B w Q
on_any A B (Done a j) go Q f = f a j
