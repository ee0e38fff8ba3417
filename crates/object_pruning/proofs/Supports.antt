-- Kept supports: what they say while their object alone changes.
use Rattle.std.proofs.Common.{◌≡◌, ℕ, ◌<◌, true, List, length, set, get_or, sym, ◌∙◌, subst, inl, inr, Option, Some, None}
use Rattle.std.specs.Prelude.{IfSome}
use Rattle.std.proofs.lemmas.Bool.{cases_eq, cases_lt}
use Rattle.std.proofs.Math.ListN.{length-set}
use Rattle.std.proofs.lemmas.List.{ext_get_or, get_or_past, get_or-set_other}
use Rattle.std.proofs.lemmas.List.Elements.{All-set}
use Rattle.geo_conditions.specs.declared.cond.Cond.{Cond}
use Rattle.geo_conditions.specs.Reach.{State, Reach, Region, reach, nowhere, has, just, with_at, InBox}
use Rattle.geo_conditions.specs.Supported.{NoneRefuted}
use Rattle.geo_conditions.proofs.Points.{reach_same, reach_other, with_length}
use Rattle.object_pruning.specs.declared.kept.Placed.{Placed}
use Rattle.object_pruning.specs.Same.{SameBut}
use Rattle.object_pruning.specs.Pruning.{CanBe}
use Rattle.object_pruning.specs.Kept.{AllSupport, placed}

-- where the object is put, its own places and region do not show
pub same_placed : (S T : State) (o s : ℕ) (b : Region) → o < length S → SameBut o S T → with_at S o s b ≡ with_at T o s b
same_placed S T o s b h k = ext_get_or nowhere (with_at S o s b) (with_at T o s b) (with_length S o s b ∙ k.objects ∙ sym (with_length T o s b)) (λ u l. elim (cases_eq u o) [
  | inl e ↦ subst (λ (v : ℕ). reach (with_at S o s b) v ≡ reach (with_at T o s b) v) (sym e) (reach_same S o s b h ∙ sym (reach_same T o s b (subst (λ (n : ℕ). o < n) k.objects h)))
  | inr ne ↦ reach_other S o s u b ne ∙ k.each u ne ∙ sym (reach_other T o s u b ne)
])

some_supports : {K : ℕ} (cs : List Cond) (S T : State) (o : ℕ) (x : Option (Placed K)) → o < length S → SameBut o S T → IfSome x (λ q. NoneRefuted cs (placed S o q)) → IfSome x (λ q. NoneRefuted cs (placed T o q))
some_supports cs S T o None h k y = y
some_supports cs S T o (Some q) h k y = subst (NoneRefuted cs) (same_placed S T o q.place (just q.point.coordinates) h k) y

-- kept supports stay true while only their object changes
pub supports_stay : {K : ℕ} (cs : List Cond) (S T : State) (o : ℕ) (kept : List (Option (Placed K))) → o < length S → SameBut o S T → AllSupport cs S o kept → AllSupport cs T o kept
supports_stay cs S T o kept h k a = λ i d b. some_supports cs S T o (get_or kept i d) h k (a i d b)

-- one more is kept
pub supports_more : {K : ℕ} (cs : List Cond) (S : State) (o : ℕ) (kept : List (Option (Placed K))) (i : ℕ) (q : Placed K) → AllSupport cs S o kept → NoneRefuted cs (placed S o q) → AllSupport cs S o (set kept i (Some q))
supports_more {K} cs S o kept i q a n = All-set (λ (x : Option (Placed K)). IfSome x (λ q. NoneRefuted cs (placed S o q))) kept i (Some q) n a

-- what is kept in a slot
pub supports_at : {K : ℕ} (cs : List Cond) (S : State) (o : ℕ) (kept : List (Option (Placed K))) (i : ℕ) (q : Placed K) → AllSupport cs S o kept → get_or kept i None ≡ Some q → NoneRefuted cs (placed S o q)
supports_at {K} cs S o kept i q a e =
    elim (cases_lt i (length kept)) [
      | inl l ↦ subst (λ (x : Option (Placed K)). IfSome x (λ q. NoneRefuted cs (placed S o q))) e (a i None l)
      | inr l ↦ let past : get_or kept i None ≡ None = get_or_past kept i None l in absurd (cc)
    ]

-- a kept support whose place and point the object still has
pub kept_can_be : {K : ℕ} (cs : List Cond) (S : State) (o : ℕ) (kept : List (Option (Placed K))) (i : ℕ) (q : Placed K) → get_or kept i None ≡ Some q → has S o q.place ≡ true → InBox q.point.coordinates (reach S o).region → AllSupport cs S o kept → CanBe cs S o q.place q.point.coordinates
kept_can_be cs S o kept i q e t b a = record { place = t; point = record { point = b; unrefuted = supports_at cs S o kept i q a e } }

-- its object has another reach
pub set_alone : (S : State) (o : ℕ) (r : Reach) → SameBut o S (set S o r)
set_alone S o r = record { objects = sym (length-set S o r); each = λ u ne. sym (get_or-set_other S o u r nowhere ne) }

pub supports_set : {K : ℕ} (cs : List Cond) (S T : State) (o : ℕ) (r : Reach) (kept : List (Option (Placed K))) → o < length S → T ≡ set S o r → AllSupport cs S o kept → AllSupport cs T o kept
supports_set cs S T o r kept h e a = supports_stay cs S T o kept h (subst (SameBut o S) (sym e) (set_alone S o r)) a

-- a point at which no condition is refuted is kept
pub supports_found : {K : ℕ} (cs : List Cond) (R S : State) (o : ℕ) (kept now : List (Option (Placed K))) (i : ℕ) (q : Placed K) → R ≡ S → NoneRefuted cs (placed R o q) → AllSupport cs R o kept → now ≡ set kept i (Some q) → AllSupport cs S o now
supports_found cs R S o kept now i q e n a f =
    subst (λ (X : State). AllSupport cs X o now) e (subst (AllSupport cs R o) (sym f) (supports_more cs R o kept i q a n))

-- said of the same values
pub supports_as : {K : ℕ} (cs : List Cond) (S T : State) (o : ℕ) (xs ys : List (Option (Placed K))) → T ≡ S → ys ≡ xs → AllSupport cs S o xs → AllSupport cs T o ys
supports_as cs S T o xs ys p q a = subst (AllSupport cs T o) (sym q) (subst (λ (X : State). AllSupport cs X o xs) (sym p) a)
