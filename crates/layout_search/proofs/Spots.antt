-- The layout that was found, spot by spot.
use Rattle.std.proofs.Common.{◌≡◌, ◌<◌, ◌≤◌, ◌+◌, ℕ, ℤ, zero, suc, pos, List, [], ◌∷◌, length, set, refl, sym, ap, ◌∙◌, subst, inl, inr, arith}
use Rattle.std.proofs.lemmas.List.{ext_get_or, get_or-set_other, get_or-set_same, length-set}
use Rattle.std.proofs.lemmas.Bool.{cases_lt}
use Rattle.geo_base.specs.Boxes.{coordinate}
use Rattle.geo_base.specs.Tuple.{Spot, Tuple, spot, nothing_put}
use Rattle.problem_data.specs.Problem.{ProblemData}
use Rattle.problem_data.specs.Cells.{IsShaped, IsWideTuple}

same-spot : (s t : ℕ) (xs ys : List ℤ) → s ≡ t → xs ≡ ys → (let p : Spot = record { place = s; origin = xs } in let q : Spot = record { place = t; origin = ys } in p ≡ q)
same-spot s t xs ys e f = λ i. record { place = e i; origin = f i }

set-twice : {X : Type 0} (l : List X) (i : ℕ) (a b : X) → set (set l i a) i b ≡ set l i b
set-twice [] i a b = refl
set-twice (x ∷ l) zero a b = refl
set-twice (x ∷ l) (suc i) a b = ap (λ u. x ∷ u) (set-twice l i a b)

-- while the object o is put, the layout is the old one but for its spot, of which the place and the
-- first d coordinates are those of each tuple of a kind
pub record IsPut (Is : Tuple → Type 0) (k : ℕ) (o : ℕ) (old now : Tuple) (d : ℕ) : Type 0 where
  pub place : ℕ
  pub origin : List ℤ
  pub put : now ≡ set old o (record { place = place; origin = origin })
  pub long : length origin ≡ k
  pub placed : (t : Tuple) → Is t → place ≡ (spot t o).place
  pub same : (t : Tuple) → Is t → (e : ℕ) → e < d → coordinate origin e ≡ coordinate (spot t o).origin e

module _ (Is : Tuple → Type 0) (k o : ℕ) (old now : Tuple) (there : o < length old) where
  pub put-place : (place : ℕ) → length (spot old o).origin ≡ k → ((t : Tuple) → Is t → place ≡ (spot t o).place) → now ≡ set old o (record { place = place; origin = (spot old o).origin }) → IsPut Is k o old now 0
  put-place place long placed e = record { place = place; origin = (spot old o).origin; put = e; long = long; placed = placed; same = λ t is d h. absurd (omega arith) }

  pub spot-put : (d : ℕ) (h : IsPut Is k o old now d) → spot now o ≡ record { place = h.place; origin = h.origin }
  spot-put d h = ap (λ (l : Tuple). spot l o) h.put ∙ get_or-set_same old o (record { place = h.place; origin = h.origin }) nothing_put there

  pub long-put : (d : ℕ) → IsPut Is k o old now d → (o < length now) × (length (spot now o).origin ≡ k)
  long-put d h = (omega (arith, there, ap length h.put, length-set old o (record { place = h.place; origin = h.origin })), ap (λ (s : Spot). length s.origin) (spot-put d h) ∙ h.long)

  pub put-value : (d : ℕ) (v : ℤ) (then : Tuple) → d < k → IsPut Is k o old now d → ((t : Tuple) → Is t → v ≡ coordinate (spot t o).origin d)
      → then ≡ set now o (record { place = (spot now o).place; origin = set (spot now o).origin d v }) → IsPut Is k o old then (d + 1)
  put-value d v then low h value e =
      let s : Spot = record { place = h.place; origin = set h.origin d v } in
      let is : spot now o ≡ record { place = h.place; origin = h.origin } = spot-put d h in
      record {
        place = h.place;
        origin = set h.origin d v;
        put = e ∙ ap (λ (z : Spot). set now o (record { place = z.place; origin = set z.origin d v })) is ∙ ap (λ (l : Tuple). set l o s) h.put ∙ set-twice old o (record { place = h.place; origin = h.origin }) s;
        long = length-set h.origin d v ∙ h.long;
        placed = h.placed;
        same = λ t t_is e b. elim (cases_lt e d) [
          | inl c ↦ get_or-set_other h.origin d e v (pos 0) (omega (arith, c)) ∙ h.same t t_is e c
          | inr c ↦
              let at : e ≡ d = omega (arith, b, c) in
              subst (λ (n : ℕ). coordinate (set h.origin d v) n ≡ coordinate (spot t o).origin n) (sym at) (get_or-set_same h.origin d v (pos 0) (omega (arith, low, h.long)) ∙ value t t_is)
        ];
      }

  pub all-put : (d : ℕ) → k ≤ d → IsPut Is k o old now d → (t : Tuple) → Is t → length (spot t o).origin ≡ k → now ≡ set old o (spot t o)
  all-put d all h t is n =
      let same : h.origin ≡ (spot t o).origin = ext_get_or (pos 0) h.origin (spot t o).origin (h.long ∙ sym n) (λ e b. h.same t is e (omega (arith, b, h.long, all))) in
      h.put ∙ ap (set old o) (same-spot h.place (spot t o).place h.origin (spot t o).origin (h.placed t is) same)

-- the first spots are those of the tuple, and the others have the form of one
pub record IsTaken (p : ProblemData) (t : Tuple) (made : Tuple) (i : ℕ) : Type 0 where
  pub objects : length made ≡ length p.objects
  pub first : (o : ℕ) → o < i → spot made o ≡ spot t o
  pub form : (o : ℕ) → o < length p.objects → length (spot made o).origin ≡ p.dims

module _ (p : ProblemData) (t : Tuple) (tuple : IsWideTuple p t) where
  pub none-taken : (made : Tuple) → IsShaped p made → IsTaken p t made 0
  none-taken made h = record { objects = h.objects; first = λ o b. absurd (omega arith); form = λ o b. (h.each o b).dimensions }

  pub one-taken : (old new : Tuple) (i : ℕ) → i < length p.objects → IsTaken p t old i → new ≡ set old i (spot t i) → IsTaken p t new (i + 1)
  one-taken old new i b h e =
      let at : spot new i ≡ spot t i = ap (λ (l : Tuple). spot l i) e ∙ get_or-set_same old i (spot t i) nothing_put (omega (arith, b, h.objects)) in
      let off : (o : ℕ) → (o ≡ i → ⊥) → spot new o ≡ spot old o = λ o other. ap (λ (l : Tuple). spot l o) e ∙ get_or-set_other old i o (spot t i) nothing_put other in
      record {
        objects = ap length e ∙ length-set old i (spot t i) ∙ h.objects;
        first = λ o c. elim (cases_lt o i) [
          | inl l ↦ off o (omega (arith, l)) ∙ h.first o l
          | inr l ↦ let is : o ≡ i = omega (arith, c, l) in subst (λ (n : ℕ). spot new n ≡ spot t n) (sym is) at
        ];
        form = λ o c. elim (cases_lt o i) [
          | inl l ↦ ap (λ (s : Spot). length s.origin) (off o (omega (arith, l))) ∙ h.form o c
          | inr l ↦ elim (cases_lt i o) [
            | inl k ↦ ap (λ (s : Spot). length s.origin) (off o (omega (arith, k))) ∙ h.form o c
            | inr k ↦
                let is : o ≡ i = omega (arith, k, l) in
                subst (λ (n : ℕ). length (spot new n).origin ≡ p.dims) (sym is) (ap (λ (s : Spot). length s.origin) at ∙ (tuple.each i b).form.dimensions)
          ]
        ];
      }

  pub all-taken : (made : Tuple) (i : ℕ) → length p.objects ≤ i → IsTaken p t made i → made ≡ t
  all-taken made i b h = ext_get_or nothing_put made t (h.objects ∙ sym tuple.objects) (λ o c. h.first o (omega (arith, b, c, h.objects)))
