-- The record of a search, move by move.
use Rattle.std.proofs.Common.{◌≡◌, ℕ, zero, suc, ◌+◌, ◌<◌, true, false, Bool, List, [], ◌∷◌, ◌++◌, length, set, get_or, refl, sym, ap, ◌∙◌, subst, arith, ℤ, pos, append_assoc}
use Rattle.std.specs.Prelude.{Result, Ok, Err, OnOk, IfOk, is_err}
use Rattle.std.proofs.lemmas.Int.{ints}
use Rattle.std.proofs.Math.ListN.{length-append}
use Rattle.std.proofs.lemmas.List.{get_or_append_left, get_or_push, get_or-set_same, get_or-set_other, get_or_default}
use Rattle.geo_conditions.specs.declared.cond.Cond.{Cond}
use Rattle.geo_conditions.specs.Reach.{State, IsState}
use Rattle.geo_conditions.specs.Walk.{Variable, PlaceOf, CoordinateOf, object_of, IsFirstValue}
use Rattle.derivation.specs.declared.event.Event.{Event}
use Rattle.geo_state.specs.Settle.{Records}
use Rattle.geo_state.specs.declared.propagate.Settled.{Settled}
use Rattle.geo_state.specs.declared.propagate.Settled.TheVariants.{Kept, Dead}
use Rattle.geo_state.proofs.Shapes.{lo_long}
use Rattle.whole_derivation.specs.Whole.{HalfFits, IsDerivation}
use Rattle.whole_derivation.proofs.Completing.{completes_led, closes_derives, split_derives}
use Rattle.trail_search.specs.Cursor.{HasAfter, HasDimension, IsValueOf}
use Rattle.trail_search.specs.Variables.{half_of, split_of}
use Rattle.trail_search.specs.Walker.{Position, depth}
use Rattle.trail_search.specs.Record.{with_later, Level, level, levels_below, open_levels, ClosesCase, IsClosedRecord, IsRecord, SettlesRecord, RecordsCases, IsFixedTo, IsUnmoved}

-- only the levels below the number matter
levels_as : (p q : Position) (n : ℕ) → ((i : ℕ) → i < n → level p i ≡ level q i) → levels_below p n ≡ levels_below q n
levels_as p q zero e = refl
levels_as p q (suc n) e =
    ap (λ (l : Level). l ∷ levels_below p n) (e n (omega arith)) ∙ ap (λ (ls : List Level). level q n ∷ ls) (levels_as p q n (λ i b. e i (omega (arith, b))))

abbrev level_of : State → Variable → ℤ → Level
level_of G x v = record { restores = G; variable = x; value = v }

-- levels of the same parts are the same
level_is : {A B : State} {x y : Variable} {u v : ℤ} → A ≡ B → x ≡ y → u ≡ v → level_of A x u ≡ level_of B y v
level_is {A = A} {B = B} {x = x} {y = y} {u = u} {v = v} e f g =
    ap (λ (S : State). level_of S x u) e ∙ ap (λ (z : Variable). level_of B z u) f ∙ ap (λ (z : ℤ). level_of B y z) g

-- what two positions have in common where their levels are the same
pub record SameLevels (p q : Position) : Type 0 where
  pub first : q.first ≡ p.first
  pub variables : q.variables ≡ p.variables
  pub values : q.values ≡ p.values
  pub restores : q.trail.restores ≡ p.trail.restores

same_levels : (p q : Position) → SameLevels p q → (i : ℕ) → level p i ≡ level q i
same_levels p q s i = level_is (ap (λ (r : List State). get_or r i []) (sym s.restores)) (ap (λ (x : List Variable). get_or x i (PlaceOf 0)) (sym s.variables)) (ap (λ (v : List ℤ). get_or v i (pos 0)) (sym s.values))

open_same : (p q : Position) → SameLevels p q → open_levels p ≡ open_levels q
open_same p q s = levels_as p q (depth p) (λ i b. same_levels p q s i) ∙ ap (λ (r : List State). levels_below q (length r)) (sym s.restores)

closed_as : (cs : List Cond) (p q : Position) (es : List Event) → SameLevels p q → IsClosedRecord cs p es → IsClosedRecord cs q es
closed_as cs p q es s h =
    subst (λ (S : State). ClosesCase cs S (open_levels q) es) (sym s.first)
    (subst (λ (ls : List Level). ClosesCase cs p.first ls es) (open_same p q s) h)

-- the same levels and the same state
pub record_as : (cs : List Cond) (p q : Position) (es : List Event) → SameLevels p q → q.trail.state ≡ p.trail.state → IsRecord cs p es → IsRecord cs q es
record_as cs p q es s e h = λ fs d. closed_as cs p q (es ++ fs) s (h fs (subst (λ (S : State). IsDerivation cs S fs) e d))

-- ---- a settle

-- its events behind the old ones
settled_kept : (cs : List Cond) (p q : Position) (old new : List Event) → SameLevels p q → Records cs p.trail.state Kept q.trail.state old new → IsRecord cs p old → IsRecord cs q new
settled_kept cs p q old new s h r = λ fs d.
    subst (IsClosedRecord cs q) (sym (ap (λ (es : List Event). es ++ fs) h.1 ∙ append_assoc old h.0 fs))
    (closed_as cs p q (old ++ (h.0 ++ fs)) s (r (h.0 ++ fs) (completes_led cs p.trail.state q.trail.state h.0 h.2 fs d)))

settled_dead : (cs : List Cond) (p q : Position) (old new : List Event) → SameLevels p q → Records cs p.trail.state Dead q.trail.state old new → IsRecord cs p old → IsClosedRecord cs q new
settled_dead cs p q old new s h r =
    subst (IsClosedRecord cs q) (sym h.1) (closed_as cs p q (old ++ h.0) s (r h.0 (closes_derives cs p.trail.state h.0 h.2)))

pub settled_record : (cs : List Cond) (a : Settled) (p q : Position) (old new : List Event) → SameLevels p q → Records cs p.trail.state a q.trail.state old new → IsRecord cs p old → SettlesRecord cs a q new
settled_record cs Kept p q old new s h r = settled_kept cs p q old new s h r
settled_record cs Dead p q old new s h r = settled_dead cs p q old new s h r

-- the same of the settle's answer, which is from the state S
pub settled_if : {E : Type 0} (cs : List Cond) (keeps : Bool) (p q : Position) (S : State) (old new : List Event) (r : Result Settled E) → SameLevels p q → S ≡ p.trail.state → IfOk r (λ a. keeps ≡ true → Records cs S a q.trail.state old new)
    → IfOk r (λ a. keeps ≡ true → IsRecord cs p old → SettlesRecord cs a q new)
settled_if cs keeps p q S old new (Ok a) s e h = λ k r. settled_record cs a p q old new s (subst (λ (T : State). Records cs T a q.trail.state old new) e (h k)) r
settled_if cs keeps p q S old new (Err a) s e h = tt

-- what it says where that was the answer
pub kept_record : (ds cs : List Cond) (a : Settled) (p q : Position) (old new : List Event) → ds ≡ cs → a ≡ Kept → (IsRecord ds p old → SettlesRecord ds a q new) → IsRecord cs p old → IsRecord cs q new
kept_record ds cs a p q old new e f h = subst (λ (b : Settled). IsRecord cs p old → SettlesRecord cs b q new) f (subst (λ (z : List Cond). IsRecord z p old → SettlesRecord z a q new) e h)

pub dead_record : (ds cs : List Cond) (a : Settled) (p q : Position) (old new : List Event) → ds ≡ cs → a ≡ Dead → (IsRecord ds p old → SettlesRecord ds a q new) → IsRecord cs p old → IsClosedRecord cs q new
dead_record ds cs a p q old new e f h = subst (λ (b : Settled). IsRecord cs p old → SettlesRecord cs b q new) f (subst (λ (z : List Cond). IsRecord z p old → SettlesRecord z a q new) e h)

-- ---- the cases of a variable are recorded

pub cases_added : {T E : Type 0} (k : Bool) (G : State) (x : Variable) (v : ℤ) (e : Event) (old new : List Event) (r : Result T E) → HasAfter G x v → e ≡ split_of x v → OnOk r (k ≡ true → new ≡ old ++ e ∷ []) → OnOk r (k ≡ true → RecordsCases G x v old new)
cases_added k G x v e old new (Ok a) y is h = λ q. (λ later. h q ∙ ap (λ (z : Event). old ++ z ∷ []) is, λ none. absurd (none y))
cases_added k G x v e old new (Err a) y is h = tt

-- the call that records them did not fail
pub cases_of : {T E : Type 0} (P : Type 0) (r : Result T E) → OnOk r P → is_err r ≡ false → P
cases_of P (Ok a) h e = h
cases_of P (Err a) h e = absurd (cc)

pub cases_none : (G : State) (x : Variable) (v : ℤ) (old : List Event) → (HasAfter G x v → ⊥) → RecordsCases G x v old old
cases_none G x v old none = (λ later. absurd (none later), λ y. refl)

-- ---- a level is opened

pub half_fits : (k : ℕ) (G : State) (x : Variable) (v : ℤ) → IsState k G → object_of x < length G → HasDimension k x → IsValueOf x v → IsFirstValue G x v → HalfFits G (object_of x) (half_of x v)
half_fits k G (PlaceOf o) v shape there d fits f = subst (λ (z : ℤ). HalfFits G o (half_of (PlaceOf o) z)) f.1 f.2
half_fits k G (CoordinateOf o d false) v shape there b fits f = (there, (omega (arith, lo_long k G o shape there, b), omega (arith, ints, fits.0), omega (arith, ints, fits.1)))
half_fits k G (CoordinateOf o d true) v shape there b fits f = (there, (omega (arith, lo_long k G o shape there, b), omega (arith, ints, fits.0), omega (arith, ints, fits.1)))

-- what is true where a level is opened
pub record Opens (p q : Position) (x : Variable) (u : ℤ) : Type 0 where
  pub first : q.first ≡ p.first
  pub variables : q.variables ≡ p.variables
  pub values : q.values ≡ set p.values (depth p) u
  pub restores : q.trail.restores ≡ p.trail.restores ++ p.trail.state ∷ []
  pub number : depth p < length p.variables
  pub room : depth p < length p.values
  pub variable : get_or p.variables (depth p) x ≡ x

module _ (p q : Position) (x : Variable) (u : ℤ) (o : Opens p q x u) where
  opened_depth : depth q ≡ suc (depth p)
  opened_depth = ap length o.restores ∙ length-append p.trail.restores (p.trail.state ∷ []) ∙ (let e : depth p + 1 ≡ suc (depth p) = omega arith in e)

  opened_last : level_of p.trail.state x u ≡ level q (depth p)
  opened_last = level_is
      (sym (ap (λ (r : List State). get_or r (depth p) []) o.restores ∙ get_or_push p.trail.restores p.trail.state [] (depth p) refl))
      (sym (ap (λ (ys : List Variable). get_or ys (depth p) (PlaceOf 0)) o.variables ∙ get_or_default p.variables (depth p) (PlaceOf 0) x o.number ∙ o.variable))
      (sym (ap (λ (vs : List ℤ). get_or vs (depth p) (pos 0)) o.values ∙ get_or-set_same p.values (depth p) u (pos 0) o.room))

  opened_below : (i : ℕ) → i < depth p → level p i ≡ level q i
  opened_below i b = level_is
      (sym (ap (λ (r : List State). get_or r i []) o.restores ∙ get_or_append_left p.trail.restores (p.trail.state ∷ []) [] i b))
      (sym (ap (λ (ys : List Variable). get_or ys i (PlaceOf 0)) o.variables))
      (sym (ap (λ (vs : List ℤ). get_or vs i (pos 0)) o.values ∙ get_or-set_other p.values (depth p) i u (pos 0) (omega (arith, b))))

  opened_levels : open_levels q ≡ level_of p.trail.state x u ∷ open_levels p
  opened_levels =
      ap (levels_below q) opened_depth ∙ ap (λ (l : Level). l ∷ levels_below q (depth p)) (sym opened_last)
      ∙ ap (λ (ls : List Level). level_of p.trail.state x u ∷ ls) (sym (levels_as p q (depth p) opened_below))

  -- with the last level's case closed, and the other one open where there is one
  opened_closes : (cs : List Cond) (es : List Event) → IsFirstValue p.trail.state x u → (HasAfter p.trail.state x u → (fs : List Event) → IsDerivation cs (with_later x u p.trail.state) fs → IsClosedRecord cs p (es ++ fs))
      → ((HasAfter p.trail.state x u → ⊥) → IsClosedRecord cs p es) → IsClosedRecord cs q es
  opened_closes cs es f later none =
      subst (λ (S : State). ClosesCase cs S (open_levels q) es) (sym o.first)
      (subst (λ (ls : List Level). ClosesCase cs p.first ls es) (sym opened_levels) (f, later, none))

  pub opened_record : (cs : List Cond) (old new : List Event) → IsFirstValue p.trail.state x u → HalfFits p.trail.state (object_of x) (half_of x u) → IsFixedTo p.trail.state x u q.trail.state → RecordsCases p.trail.state x u old new → IsRecord cs p old → IsRecord cs q new
  opened_record cs old new f fits fixed cases r = λ fs d. opened_closes cs (new ++ fs) f
      (λ later gs e.
      let both = split_derives cs p.trail.state (object_of x) (half_of x u) fs gs fits (subst (λ (S : State). IsDerivation cs S fs) (fixed.0 later) d) e in
      subst (IsClosedRecord cs p)
      (sym (ap (λ (es : List Event). (es ++ fs) ++ gs) (cases.0 later) ∙ ap (λ (es : List Event). es ++ gs) (append_assoc old (split_of x u ∷ []) fs) ∙ append_assoc old (split_of x u ∷ fs) gs))
      (r (split_of x u ∷ (fs ++ gs)) both))
      (λ none. subst (λ (es : List Event). IsClosedRecord cs p (es ++ fs)) (sym (cases.1 none)) (r fs (subst (λ (S : State). IsDerivation cs S fs) (fixed.1 none) d)))

-- ---- a level is closed

-- what is true where the last level of p is closed: q has the others, and G, x and u were its
pub record Shuts (p q : Position) (G : State) (x : Variable) (u : ℤ) : Type 0 where
  pub first : q.first ≡ p.first
  pub variables : q.variables ≡ p.variables
  pub values : q.values ≡ p.values
  pub restores : p.trail.restores ≡ q.trail.restores ++ G ∷ []
  pub number : depth q < length p.variables
  pub variable : get_or p.variables (depth q) x ≡ x
  pub value : u ≡ get_or p.values (depth q) (pos 0)

module _ (p q : Position) (G : State) (x : Variable) (u : ℤ) (s : Shuts p q G x u) (cs : List Cond) (es : List Event) where
  shut_depth : depth p ≡ suc (depth q)
  shut_depth = ap length s.restores ∙ length-append q.trail.restores (G ∷ []) ∙ (let e : depth q + 1 ≡ suc (depth q) = omega arith in e)

  shut_last : level p (depth q) ≡ level_of G x u
  shut_last = level_is
      (ap (λ (r : List State). get_or r (depth q) []) s.restores ∙ get_or_push q.trail.restores G [] (depth q) refl)
      (get_or_default p.variables (depth q) (PlaceOf 0) x s.number ∙ s.variable)
      (sym s.value)

  shut_levels : open_levels p ≡ level_of G x u ∷ open_levels q
  shut_levels =
      ap (levels_below p) shut_depth ∙ ap (λ (l : Level). l ∷ levels_below p (depth q)) shut_last
      ∙ ap (λ (ls : List Level). level_of G x u ∷ ls) (levels_as p q (depth q) (λ i b. level_is
      (ap (λ (r : List State). get_or r i []) s.restores ∙ get_or_append_left q.trail.restores (G ∷ []) [] i b)
      (ap (λ (ys : List Variable). get_or ys i (PlaceOf 0)) (sym s.variables))
      (ap (λ (vs : List ℤ). get_or vs i (pos 0)) (sym s.values))))

  -- the last case is closed, so the rest of its level is open where there is one, and else closed
  shut_parts : IsClosedRecord cs p es → IsFirstValue G x u × (HasAfter G x u → (fs : List Event) → IsDerivation cs (with_later x u G) fs → IsClosedRecord cs q (es ++ fs)) × ((HasAfter G x u → ⊥) → IsClosedRecord cs q es)
  shut_parts h =
      subst (λ (S : State). ClosesCase cs S (level_of G x u ∷ open_levels q) es) (sym s.first)
      (subst (λ (ls : List Level). ClosesCase cs p.first ls es) shut_levels h)

  pub shut_later : HasAfter G x u → (IsFirstValue G x u → q.trail.state ≡ with_later x u G) → IsClosedRecord cs p es → IsRecord cs q es
  shut_later y e h = let t = shut_parts h in λ fs d. t.1 y fs (subst (λ (S : State). IsDerivation cs S fs) (e t.0) d)

  pub shut_none : (HasAfter G x u → ⊥) → IsClosedRecord cs p es → IsClosedRecord cs q es
  shut_none y h = (shut_parts h).2 y

-- ---- the start and the end

pub record_start : (cs : List Cond) (p : Position) (es : List Event) → IsUnmoved p → es ≡ [] → IsRecord cs p es
record_start cs p es u e = λ fs d.
    subst (λ (r : List State). ClosesCase cs p.first (levels_below p (length r)) (es ++ fs)) (sym u.restores)
    (subst (λ (gs : List Event). IsDerivation cs p.first (gs ++ fs)) (sym e) (subst (λ (S : State). IsDerivation cs S fs) u.state d))

pub record_end : (cs : List Cond) (p : Position) (es : List Event) → depth p ≡ 0 → IsClosedRecord cs p es → IsDerivation cs p.first es
record_end cs p es d h = subst (λ (n : ℕ). ClosesCase cs p.first (levels_below p n) es) d h
