-- The terms of sums stand in order, each coordinate once, with factors that are not 0.
use Rattle.std.proofs.Common.{◌≡◌, ◌≢◌, ℕ, ◌<◌, ◌≤◌, ◌-◌, ◌^◌, eqb, ltb, ◌&&◌, ◌||◌, Bool, true, false, cond, List, [], ◌∷◌, ℤ, pos, negsuc, ◌+ℤ◌, ◌*ℤ◌, refl, arith, tests, AllPairs}
use Rattle.std.specs.List.{All, list_all}
use Rattle.std.proofs.lemmas.Bool.Decides.{nat_tests}
use Rattle.std.proofs.lemmas.Int.{ints}
use Rattle.std.proofs.lemmas.List.Elements.{All-nil, All-cons}
use Rattle.std.proofs.lemmas.List.Kept.{AllPairs-cons}
use lib.Signed.{le_z}
use Rattle.geo_conditions.specs.declared.form.Term.{Term}
use Rattle.geo_conditions.specs.Form.{Sum, IsBounded, StandsBefore, IsForm}
pub use Rattle.linear_conditions.specs.Ordered.{IsAhead, IsOrdered}
use Rattle.linear_conditions.specs.Sums.{is_zero, term, unless_zero, same_coordinate, is_before, add_at, add_terms, scale_terms, scale, has_terms, is_bounded, fits_sum, times_sum}

pub before_both : (a b c : Term) → StandsBefore a b → StandsBefore b c → StandsBefore a c
before_both a b c h k = record {
  object = (let x = h.object in let y = k.object in omega arith);
  dimension = λ e.
      let x = h.object in let y = k.object in
      let ab : a.object.0 ≡ b.object.0 = omega arith in let bc : b.object.0 ≡ c.object.0 = omega arith in
      let p = h.dimension ab in let q = k.dimension bc in omega arith;
}

ahead_both : (a b : Term) (ts : List Term) → StandsBefore a b → IsAhead b ts → IsAhead a ts
ahead_both a b [] h k = tt
ahead_both a b (t ∷ ts) h k = before_both a b t h k

-- another factor
before_factor : (a t : Term) (z : ℤ) → StandsBefore a t → StandsBefore a (term t.object.0 t.dimension z)
before_factor a t z h = record { object = h.object; dimension = h.dimension }

ahead_factor : (t : Term) (z : ℤ) (ts : List Term) → IsAhead t ts → IsAhead (term t.object.0 t.dimension z) ts
ahead_factor t z [] h = tt
ahead_factor t z (u ∷ ts) h = record { object = h.object; dimension = h.dimension }

not_zero : (z : ℤ) → is_zero z ≡ false → z ≢ pos 0
not_zero (pos n) h e = let q : n ≡ 0 = cc in let r : n ≢ 0 = grind (arith, tests) in r q
not_zero (negsuc n) h e = cc

tested-before : (o u d k : ℕ) → (ltb o u || (eqb o u && ltb d k)) ≡ true → (o ≤ u) × (o ≡ u → d < k)
tested-before o u d k h = (grind (arith, nat_tests), λ e. grind (arith, nat_tests))

tested-behind : (o u d k : ℕ) → (eqb o u && eqb d k) ≡ false → (ltb o u || (eqb o u && ltb d k)) ≡ false → (u ≤ o) × (u ≡ o → k < d)
tested-behind o u d k h b = (grind (arith, nat_tests), λ e. grind (arith, nat_tests))

is-before : (a t : Term) → is_before a t ≡ true → StandsBefore a t
is-before a t h = let r = tested-before a.object.0 t.object.0 a.dimension t.dimension h in record { object = r.0; dimension = r.1 }

is-behind : (a t : Term) → same_coordinate a t ≡ false → is_before a t ≡ false → StandsBefore t a
is-behind a t h k = let r = tested-behind a.object.0 t.object.0 a.dimension t.dimension h k in record { object = r.0; dimension = r.1 }

unless_ahead : (b a : Term) (ts : List Term) (z : Bool) → StandsBefore b a → IsAhead b ts → IsAhead b (cond z ts (a ∷ ts))
unless_ahead b a ts true h k = k
unless_ahead b a ts false h k = h

unless_ordered : (a : Term) (ts : List Term) (z : Bool) → is_zero a.factor ≡ z → IsAhead a ts → IsOrdered ts → IsOrdered (cond z ts (a ∷ ts))
unless_ordered a ts true e h k = k
unless_ordered a ts false e h k = (not_zero a.factor e, h, k)

add_ahead : (b a t : Term) (ts : List Term) (s c : Bool) → StandsBefore b a → StandsBefore b t → IsAhead b ts →
    IsAhead b (cond s (unless_zero (term t.object.0 t.dimension (t.factor +ℤ a.factor)) ts) (cond c (unless_zero a (t ∷ ts)) (t ∷ add_at a ts)))
add_ahead b a t ts true c h k l = unless_ahead b (term t.object.0 t.dimension (t.factor +ℤ a.factor)) ts (is_zero (t.factor +ℤ a.factor)) (before_factor b t (t.factor +ℤ a.factor) k) l
add_ahead b a t ts false true h k l = unless_ahead b a (t ∷ ts) (is_zero a.factor) h k
add_ahead b a t ts false false h k l = k

add_at-ahead : (b a : Term) (ts : List Term) → IsOrdered ts → StandsBefore b a → IsAhead b ts → IsAhead b (add_at a ts)
add_at-ahead b a [] o h k = unless_ahead b a [] (is_zero a.factor) h tt
add_at-ahead b a (t ∷ ts) o h k = add_ahead b a t ts (same_coordinate a t) (is_before a t) h k (ahead_both b t ts k o.1)

add_ordered : (a t : Term) (ts : List Term) (s c : Bool) → same_coordinate a t ≡ s → is_before a t ≡ c → IsOrdered (t ∷ ts) → IsOrdered (add_at a ts) →
    IsOrdered (cond s (unless_zero (term t.object.0 t.dimension (t.factor +ℤ a.factor)) ts) (cond c (unless_zero a (t ∷ ts)) (t ∷ add_at a ts)))
add_ordered a t ts true c e f o ih =
    unless_ordered (term t.object.0 t.dimension (t.factor +ℤ a.factor)) ts (is_zero (t.factor +ℤ a.factor)) refl (ahead_factor t (t.factor +ℤ a.factor) ts o.1) o.2
add_ordered a t ts false true e f o ih = unless_ordered a (t ∷ ts) (is_zero a.factor) refl (is-before a t f) o
add_ordered a t ts false false e f o ih = (o.0, add_at-ahead t a ts o.2 (is-behind a t e f) o.1, ih)

pub add_at-ordered : (a : Term) (ts : List Term) → IsOrdered ts → IsOrdered (add_at a ts)
add_at-ordered a [] o = unless_ordered a [] (is_zero a.factor) refl tt tt
add_at-ordered a (t ∷ ts) o = add_ordered a t ts (same_coordinate a t) (is_before a t) refl refl o (add_at-ordered a ts o.2)

pub add_terms-ordered : (ts more : List Term) → IsOrdered ts → IsOrdered (add_terms ts more)
add_terms-ordered ts [] o = o
add_terms-ordered ts (a ∷ more) o = add_terms-ordered (add_at a ts) more (add_at-ordered a ts o)

scale_ahead : (b : Term) (z : ℤ) (ts : List Term) → IsOrdered ts → IsAhead b ts → IsAhead b (scale_terms z ts)
scale_ahead b z [] o h = tt
scale_ahead b z (t ∷ ts) o h =
    unless_ahead b (term t.object.0 t.dimension (z *ℤ t.factor)) (scale_terms z ts) (is_zero (z *ℤ t.factor)) (before_factor b t (z *ℤ t.factor) h) (scale_ahead b z ts o.2 (ahead_both b t ts h o.1))

pub scale-ordered : (z : ℤ) (ts : List Term) → IsOrdered ts → IsOrdered (scale_terms z ts)
scale-ordered z [] o = tt
scale-ordered z (t ∷ ts) o =
    unless_ordered (term t.object.0 t.dimension (z *ℤ t.factor)) (scale_terms z ts) (is_zero (z *ℤ t.factor)) refl
    (ahead_factor t (z *ℤ t.factor) (scale_terms z ts) (scale_ahead t z ts o.2 o.1)) (scale-ordered z ts o.2)

times_by : (f g : Sum) (b : Bool) → IsOrdered f.terms → IsOrdered g.terms → IsOrdered (cond b (scale g.constant f) (scale f.constant g)).terms
times_by f g true h k = scale-ordered g.constant f.terms h
times_by f g false h k = scale-ordered f.constant g.terms k

pub times-ordered : (f g : Sum) → IsOrdered f.terms → IsOrdered g.terms → IsOrdered (times_sum f g).terms
times-ordered f g h k = times_by f g (has_terms f) h k

-- what stands before the first stands before each
ahead_all : (a : Term) (ts : List Term) → IsOrdered ts → IsAhead a ts → All (λ t. StandsBefore a t) ts
ahead_all a [] o h = All-nil (λ t. StandsBefore a t)
ahead_all a (t ∷ ts) o h = All-cons (λ u. StandsBefore a u) t ts h (ahead_all a ts o.2 (ahead_both a t ts h o.1))

pairs-of : (ts : List Term) → IsOrdered ts → AllPairs StandsBefore ts
pairs-of [] o = λ i j d lt within. absurd (omega arith)
pairs-of (t ∷ ts) o = AllPairs-cons StandsBefore t ts (ahead_all t ts o.2 o.1) (pairs-of ts o.2)

pub both-true : (a b : Bool) → (a && b) ≡ true → (a ≡ true) × (b ≡ true)
both-true true b h = (refl, h)
both-true false b h = cc

pub bounds-of : (z : ℤ) → is_bounded z ≡ true → IsBounded z
bounds-of z h =
    let b = both-true (le_z (negsuc (10 ^ 15 - 1)) z) (le_z z (pos (10 ^ 15))) h in
    (grind (arith, ints, b.0), grind (arith, ints, b.1))

factors-of : (ts : List Term) → IsOrdered ts → list_all (λ (t : Term). is_bounded t.factor) ts ≡ true → All (λ a. IsBounded a.factor × (a.factor ≢ pos 0)) ts
factors-of [] o h = All-nil (λ a. IsBounded a.factor × (a.factor ≢ pos 0))
factors-of (t ∷ ts) o h =
    let b = both-true (is_bounded t.factor) (list_all (λ (u : Term). is_bounded u.factor) ts) h in
    All-cons (λ a. IsBounded a.factor × (a.factor ≢ pos 0)) t ts (bounds-of t.factor b.0, o.0) (factors-of ts o.2 b.1)

-- a sum within the bounds is a form
pub form-of : (f : Sum) → IsOrdered f.terms → fits_sum f ≡ true → IsForm f.terms f.constant
form-of f o h =
    let b = both-true (list_all (λ (t : Term). is_bounded t.factor) f.terms) (is_bounded f.constant) h in
    record { in_order = pairs-of f.terms o; factors = factors-of f.terms o b.0; constant = bounds-of f.constant b.1 }
