-- Conditions that are known to spare an object are not asked again.
use Rattle.std.proofs.Common.{◌≡◌, ◌≢◌, ℕ, ◌+◌, ◌-◌, ◌<◌, ◌≤◌, Bool, List, [], ◌∷◌, length, get_or, Option, sym, ◌∙◌, subst, inl, inr, arith}
use Rattle.std.specs.List.{All}
use Rattle.std.proofs.lemmas.Bool.{cases_lt}
use Rattle.std.proofs.lemmas.List.{get_or_past}
use Rattle.std.proofs.lemmas.Option.{slice_get-get_or}
use Rattle.geo_conditions.specs.declared.cond.Cond.{Cond}
use Rattle.geo_conditions.specs.declared.object.ObjId.{ObjId}
use Rattle.geo_conditions.specs.Reach.{State, reach, nowhere}
use Rattle.indexical.specs.Free.{SparesAnywhere}
use Rattle.object_pruning.specs.declared.kept.Placed.{Placed}
use Rattle.object_pruning.specs.Same.{SameBut}
use Rattle.fixpoint.specs.Kept.{RetriesMarked, RetriesThose}
use Rattle.fixpoint.specs.Links.{NamedBy}
use Rattle.fixpoint.proofs.Asked.{those_one}
use Rattle.fixpoint.proofs.Standing.{retried_anywhere, retries_asked}
use Rattle.watches.specs.declared.watches.Watches.{Watches}
use Rattle.watches.specs.Watches.{Hold, Later}
use Rattle.watches.proofs.Holding.{hold_later, later_as, later_both, later_start}

-- ---- one condition of a list

-- a condition of the list
some_cond : (cs : List Cond) (i : ℕ) → i < length cs → Cond
some_cond [] i h = absurd (omega arith)
some_cond (c ∷ cs) i h = c

pub named_below : (cs : List Cond) (i n : ℕ) (list : List ObjId) → i < length cs → ((d : Cond) → NamedBy (get_or cs i d) n list) → All (λ u. u.0 < n) list
named_below cs i n list h f = (f (some_cond cs i h)).below

-- the condition of that number was asked
pub those_numbered : {K : ℕ} (cs : List Cond) (S : State) (o : ℕ) (marks : List Bool) (number : ℕ) (old new : List (Option (Placed K))) → number - 1 < length cs → ((d : Cond) → RetriesMarked (get_or cs (number - 1) d) S o marks old new) → RetriesThose cs S o marks (λ i. i ≡ number) old new
those_numbered cs S o marks number old new h f =
    let d = some_cond cs (number - 1) h in
    those_one cs S o marks number (get_or cs (number - 1) d) old new (slice_get-get_or cs (number - 1) d h) (f d)

-- it need not be, where it spares the object
pub those_spared : {K : ℕ} (cs : List Cond) (S : State) (o : ℕ) (marks : List Bool) (number : ℕ) (slots : List (Option (Placed K))) → number - 1 < length cs → ((d : Cond) → SparesAnywhere (get_or cs (number - 1) d) S o) → RetriesThose cs S o marks (λ i. i ≡ number) slots slots
those_spared cs S o marks number slots h f =
    those_numbered cs S o marks number slots slots h (λ d. retries_asked (get_or cs (number - 1) d) S o marks slots slots (sym (retried_anywhere (get_or cs (number - 1) d) S o (f d) slots)))

-- ---- what is watched, after a change

-- one object changed
pub hold_changed : (cs : List Cond) (S T : State) (o : ℕ) (old new : Watches) → SameBut o S T → Hold cs S old → Later (λ u. u ≢ o) old new → Hold cs T new
hold_changed cs S T o old new alone h l = hold_later cs S T old new alone.objects h (later_as (λ u. u ≢ o) (λ u. reach S u ≡ reach T u) old new alone.each l)

-- of the first n objects those that differ changed
abbrev pub LaterBelow : ℕ → State → State → Watches → Watches → Type 0
LaterBelow n S T old new = Later (λ o. o < n → reach S o ≡ reach T o) old new

pub below_start : (S T : State) (w : Watches) → LaterBelow 0 S T w w
below_start S T w = later_start (λ o. o < 0 → reach S o ≡ reach T o) w (λ o h. absurd (omega (arith, h)))

pub below_same : (n : ℕ) (S T : State) (old new : Watches) → LaterBelow n S T old new → reach S n ≡ reach T n → LaterBelow (n + 1) S T old new
below_same n S T old new l e = later_as (λ o. o < n → reach S o ≡ reach T o) (λ o. o < n + 1 → reach S o ≡ reach T o) old new (λ o f h. elim (cases_lt o n) [
  | inl b ↦ f b
  | inr b ↦ let s : n ≡ o = omega (arith, b, h) in subst (λ (k : ℕ). reach S k ≡ reach T k) s e
]) l

pub below_more : (n : ℕ) (S T : State) (old mid new : Watches) → LaterBelow n S T old mid → Later (λ o. o ≢ n) mid new → LaterBelow (n + 1) S T old new
below_more n S T old mid new l m = later_as (λ o. (o < n → reach S o ≡ reach T o) × (o ≢ n)) (λ o. o < n + 1 → reach S o ≡ reach T o) old new (λ o p h. p.0 (omega (arith, h, p.1)))
    (later_both (λ o. o < n → reach S o ≡ reach T o) (λ o. o ≢ n) old mid new l m)

pub below_end : (n : ℕ) (S T : State) (old new : Watches) → length S ≡ length T → length S ≤ n → LaterBelow n S T old new → Later (λ o. reach S o ≡ reach T o) old new
below_end n S T old new same long l = later_as (λ o. o < n → reach S o ≡ reach T o) (λ o. reach S o ≡ reach T o) old new (λ o f. elim (cases_lt o n) [
  | inl b ↦ f b
  | inr b ↦ get_or_past S o nowhere (omega (arith, b, long)) ∙ sym (get_or_past T o nowhere (omega (arith, b, long, same)))
]) l
