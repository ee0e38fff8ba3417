-- Small facts for the walker's code.
use Rattle.std.proofs.Common.{◌≡◌, ℕ, zero, suc, ◌+◌, ◌<◌, ◌≤◌, List, [], ◌∷◌, ◌++◌, map, length, get_or, sym, ap, ◌∙◌, subst, arith, ℤ, pos, negsuc, ◌≤ℤ◌, ◌^◌, true, false}
use Rattle.std.proofs.lemmas.Int.{ints}
use lib.Signed.{mag}
use Rattle.trail_search.specs.Cursor.{after, bound_at, token_bound}
use Rattle.geo_state.specs.Trail.{IsSmallEnd}
use Rattle.trail_search.specs.Walker.{Position, SameWalk, depth}
use Rattle.geo_conditions.proofs.Defaults.{any_default}
use Rattle.trail_search.proofs.Token.{bound_last}
use Rattle.std.specs.List.{All}
use Rattle.std.proofs.Math.ListN.{get_or-map, length-append}
use Rattle.std.proofs.lemmas.List.{length-map}
use Rattle.geo_conditions.specs.Reach.{State}
use Rattle.geo_conditions.specs.Walk.{Variable as Seen, PlaceOf, CoordinateOf, object_of, AreOf}
use Rattle.trail_search.specs.declared.variable.Variable.{Variable}
use Rattle.trail_search.specs.Variables.{variable_of}

-- a variable of the code, as definitions see it
pub item_is : (xs : List Variable) (m : ℕ) (y : Variable) → y ≡ get_or xs m y → get_or (map variable_of xs) m (variable_of y) ≡ variable_of y
item_is xs m y e = get_or-map variable_of xs m y ∙ ap variable_of (sym e)

-- the same in a list that is equal
pub item_in : (vs : List Seen) (xs : List Variable) (m n : ℕ) (y : Variable) → map variable_of xs ≡ vs → y ≡ get_or xs m y → n ≡ m → get_or vs n (variable_of y) ≡ variable_of y
item_in vs xs m n y q e h = ap (λ (l : List Seen). get_or l n (variable_of y)) (sym q) ∙ ap (λ (i : ℕ). get_or (map variable_of xs) i (variable_of y)) h ∙ item_is xs m y e

-- the object of the variable of a number
pub are_of_at : (S : State) (xs : List Seen) (m : ℕ) (x : Seen) → AreOf S xs → m < length xs → object_of (get_or xs m x) < length S
are_of_at S [] m x a h = absurd (omega arith)
are_of_at S (y ∷ ys) zero x a h = a.0
are_of_at S (y ∷ ys) (suc m) x a h = are_of_at S ys m x a.1 (omega arith)

-- the same of the variable that stands there
pub object_at : (S : State) (vs : List Seen) (m : ℕ) (y : Seen) → AreOf S vs → m < length vs → get_or vs m y ≡ y → object_of y < length S
object_at S vs m y a h e = subst (λ (z : Seen). object_of z < length S) e (are_of_at S vs m y a h)

-- a fact of all variables, at the variable that stands there
pub fact_at : (P : Seen → Type 0) (vs : List Seen) (m : ℕ) (y : Seen) → All P vs → m < length vs → get_or vs m y ≡ y → P y
fact_at P vs m y a h e = subst P e (a m y h)

-- a value of the code, as definitions see it
pub number_is : (vs ws : List ℤ) (m n : ℕ) (y : ℤ) → vs ≡ ws → y ≡ get_or vs m y → n ≡ m → m < length vs → y ≡ get_or ws n (pos 0)
number_is vs ws m n y q e h b = e ∙ any_default vs m y (pos 0) b ∙ ap (λ (l : List ℤ). get_or l m (pos 0)) q ∙ ap (λ (i : ℕ). get_or ws i (pos 0)) (sym h)

-- a list with an element more is longer by 1
pub one_less : (a b : List State) (S : State) → a ≡ b ++ S ∷ [] → length a ≡ suc (length b)
one_less a b S e = ap length e ∙ length-append b (S ∷ []) ∙ (let z : length b + 1 ≡ suc (length b) = omega arith in z)

-- a fact of all elements, at the last one
pub last_of : (P : State → Type 0) (b : List State) (S : State) → All P (b ++ S ∷ []) → P S
last_of P [] S k = k 0 S (omega arith)
last_of P (T ∷ b) S k = last_of P b S (λ i d l. k (suc i) d (omega arith))

-- and at those before it
pub before_last : (P : State → Type 0) (b : List State) (S : State) → All P (b ++ S ∷ []) → (i : ℕ) (d : State) → i < length b → P (get_or b i d)
before_last P [] S k i d l = absurd (omega arith)
before_last P (T ∷ b) S k zero d l = k 0 d (omega arith)
before_last P (T ∷ b) S k (suc i) d l = before_last P b S (λ j e m. k (suc j) e (omega (arith, m))) i d (omega arith)

-- the token's bound at its last value
pub bound_of : (xs : List Variable) (t : List ℤ) (m : ℕ) (D : Variable) (r s : ℤ) → length t ≡ length xs → m < length xs → length xs ≤ m + 1 → r ≡ after (variable_of (get_or xs m D)) s → s ≡ get_or t m (pos 0) → r ≡ bound_at (map variable_of xs) t m
bound_of xs t m D r s l h b e f =
    let n = length-map xs variable_of in
    e ∙ ap (after (variable_of (get_or xs m D))) f ∙ ap (λ (y : Seen). after y (get_or t m (pos 0))) (sym (get_or-map variable_of xs m D)) ∙ sym (bound_last (map variable_of xs) t m (variable_of D) (omega (arith, n, l)) (omega (arith, n, h, b)))

-- a token's bound is small
pub bound_small : (xs : List Seen) (t : List ℤ) (m : ℕ) → All IsSmallEnd t → (negsuc 2000000 ≤ℤ bound_at xs t m) × (bound_at xs t m ≤ℤ pos 2000001)
bound_small [] t m a = (omega (arith, ints), omega (arith, ints))
bound_small (x ∷ xs) [] m a = (omega (arith, ints), omega (arith, ints))
bound_small (x ∷ xs) (t ∷ ts) zero a = base x xs t (a 0 (pos 0) (omega arith))
  where
    base : (x : Seen) (xs : List Seen) (t : ℤ) → IsSmallEnd t → (negsuc 2000000 ≤ℤ token_bound x xs t) × (token_bound x xs t ≤ℤ pos 2000001)
    base (PlaceOf o) [] t h = (omega (arith, ints, h.0), omega (arith, ints, h.1))
    base (CoordinateOf o d false) [] t h = (omega (arith, ints, h.0), omega (arith, ints, h.1))
    base (CoordinateOf o d true) [] t h = (omega (arith, ints, h.0), omega (arith, ints, h.1))
    base x (y ∷ ys) t h = (omega (arith, ints, h.0), omega (arith, ints, h.1))
bound_small (x ∷ xs) (t ∷ ts) (suc m) a = bound_small xs ts m (λ i d l. a (suc i) d (omega (arith, l)))

-- a bound fits 64 bits
pub bound_fits : (v : ℤ) → (negsuc 2000000 ≤ℤ v) × (v ≤ℤ pos 2000001) → mag v < 2 ^ 63
bound_fits (pos n) h = let a : pos n ≤ℤ pos 2000001 = h.1 in omega (arith, ints, a)
bound_fits (negsuc n) h = let a : negsuc 2000000 ≤ℤ negsuc n = h.0 in omega (arith, ints, a)

-- the same walk, by way of a third
pub same_trans : (p e r : Position) → SameWalk p e → SameWalk e r → SameWalk p r
same_trans p e r s t = record { first = t.first ∙ s.first; variables = t.variables ∙ s.variables; token = t.token ∙ s.token }

-- a level more is deeper by 1
pub depth_entered : (p e : Position) → e.trail.restores ≡ p.trail.restores ++ p.trail.state ∷ [] → depth e ≡ suc (depth p)
depth_entered p e o = ap length o ∙ length-append p.trail.restores (p.trail.state ∷ []) ∙ (let z : depth p + 1 ≡ suc (depth p) = omega arith in z)

-- the next variable is the one after
pub next_entered : (p e : Position) (y : Seen) → SameWalk p e → e.trail.restores ≡ p.trail.restores ++ p.trail.state ∷ [] → get_or e.variables (depth e) y ≡ y → get_or p.variables (suc (depth p)) y ≡ y
next_entered p e y s o h = ap (λ (n : ℕ). get_or p.variables n y) (sym (depth_entered p e o)) ∙ ap (λ (l : List Seen). get_or l (depth e) y) (sym s.variables) ∙ h
