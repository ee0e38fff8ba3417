-- Which shapes are settled where an element is grounded.
use Rattle.std.proofs.Common.{◌≡◌, ◌≢◌, ℕ, ◌-◌, ◌==◌, ◌<◌, ◌≤◌, eqb, ltb, ◌&&◌, ◌+◌, Bool, true, false, not, cond, List, [], ◌∷◌, length, sym, ap, ◌∙◌, refl, arith, subst, tests}
use Rattle.std.specs.Prelude.{slice_get, None, if◌then◌else◌}
use Rattle.std.proofs.Math.Logic.{⊎_elim}
use Rattle.std.proofs.lemmas.Bool.Decides.{nat_tests}
use Rattle.std.proofs.lemmas.Bool.{cases_lt, false≢true}
use Rattle.std.proofs.lemmas.List.{get_or_past}
use Rattle.geo_base.specs.Tuple.{Tuple, spot}
use Rattle.problem_data.specs.Problem.{ObjectData, no_object, ProblemData}
use Rattle.problem_data.specs.Tuple.{object_of, shape_of}
use Rattle.problem_data.specs.Value.{Thing, Number, Object, Part}
use Rattle.problem_data.specs.Cells.{IsTuple}
use Rattle.rule_expand.specs.declared.plain.Subject.{Subject}
use Rattle.rule_expand.specs.declared.plain.Subject.TheVariants as subjects
use Rattle.rule_expand.specs.PlainTruth.{PlainEnv, set_variable, subject_in}
use Rattle.linear_conditions.specs.Fixings.{Fixing, fixed_place, place_of}
use Rattle.rule_values.specs.Shapes.{shape_at}
use Rattle.linear_conditions.specs.Settled.{Agrees, IsSettled, IsCovered}
use Rattle.rule_ground.specs.Shapes.{has_several}
use Rattle.rule_ground.specs.Grounding.{is_open, is_gone, may_go}
use Rattle.problem_data.specs.Places.{place_count}
use Rattle.problem_data.specs.Truth.{is_there}

pub left_or : (a b : Bool) → a ≡ true → (cond a true b) ≡ true
left_or a b h = ap (λ x. cond x true b) h

-- what is asked for by a part is asked for by the whole
pub narrowed : (p : ProblemData) (t : Tuple) (fix : List Fixing) (env : PlainEnv) (asks more : Subject → Bool) → ((s : Subject) → asks s ≡ true → more s ≡ true) → IsCovered p t fix env more → IsCovered p t fix env asks
narrowed p t fix env asks more h c = record { at = λ s e. c.at s (h s e) }

-- the spot of an object of the problem has a place of its list
pub first-place : (p : ProblemData) (t : Tuple) (o : ℕ) → IsTuple p t → o < length p.objects → 1 ≤ (spot t o).place
first-place p t o h l = (h.each o l).form.first

pub last-place : (p : ProblemData) (t : Tuple) (o : ℕ) → IsTuple p t → o < length p.objects → (spot t o).place ≤ place_count (object_of p o)
last-place p t o h l = (h.each o l).form.last

-- an object that is not there has no shape
no-shapes : (p : ProblemData) (o : ℕ) → length p.objects ≤ o → (object_of p o).shapes ≡ []
no-shapes p o h = ap (λ (b : ObjectData). b.shapes) (get_or_past p.objects o no_object h)

none-at : (b : Bool) (xs : List ℕ) (n : ℕ) → xs ≡ [] → (if b then None else slice_get xs n) ≡ None
none-at true xs n e = refl
none-at false xs n e = ap (λ (ys : List ℕ). slice_get ys n) e

pub missing-settled : (p : ProblemData) (t : Tuple) (fix : List Fixing) (o : ℕ) → length p.objects ≤ o → IsSettled p t fix (Object o)
missing-settled p t fix o h =
    none-at ((spot t o).place == 0) (object_of p o).shapes ((spot t o).place - 1) (no-shapes p o h)
    ∙ sym (none-at (place_of fix o == 0) (object_of p o).shapes (place_of fix o - 1) (no-shapes p o h))

-- an object that is not there has no place
pub no-places : (p : ProblemData) (o : ℕ) → length p.objects ≤ o → place_count (object_of p o) ≡ 0
no-places p o h = ap place_count (get_or_past p.objects o no_object h)

-- an object with several places is there
pub several-there : (p : ProblemData) (o : ℕ) → has_several p o ≡ true → o < length p.objects
several-there p o h = ⊎_elim
    (λ l. l)
    (λ l. absurd (let e = no-places p o l in let m : 1 < place_count (object_of p o) = grind (arith, nat_tests) in omega (arith, e, m)))
    (cases_lt o (length p.objects))

-- and so is one that may be absent
pub may-there : (p : ProblemData) (o : ℕ) → (object_of p o).may_be_absent ≡ true → o < length p.objects
may-there p o h = ⊎_elim
    (λ l. l)
    (λ l. absurd (false≢true (sym (ap (λ (b : ObjectData). b.may_be_absent) (get_or_past p.objects o no_object l)) ∙ h)))
    (cases_lt o (length p.objects))

unsplit-place : (place count fixed : ℕ) (b : Bool) → eqb fixed 0 ≡ b → (ltb 1 count && b) ≡ false → 1 ≤ place → place ≤ count → (fixed ≢ 0 → place ≡ fixed) → place ≡ cond b 1 fixed
unsplit-place place count fixed true e h l m a = let c : count ≤ 1 = grind (arith, nat_tests) in omega arith
unsplit-place place count fixed false e h l m a = a (grind (arith, tests))

placed-settled : (p : ProblemData) (t : Tuple) (fix : List Fixing) (o : ℕ) → (spot t o).place ≡ place_of fix o → IsSettled p t fix (Object o)
placed-settled p t fix o e = ap (shape_at p o) e

-- the shape of an object that is not open is settled
pub closed-settled : (p : ProblemData) (t : Tuple) (fix : List Fixing) (o : ℕ) → IsTuple p t → Agrees t fix → is_open p fix o ≡ false → IsSettled p t fix (Object o)
closed-settled p t fix o h a e = ⊎_elim
    (λ l. placed-settled p t fix o (unsplit-place (spot t o).place (place_count (object_of p o)) (fixed_place fix o) (eqb (fixed_place fix o) 0) refl e (first-place p t o h l) (last-place p t o h l) (a.at o)))
    (λ l. missing-settled p t fix o l)
    (cases_lt o (length p.objects))

-- ---- objects that may be absent

absent-by : (may : Bool) (place fixed n : ℕ) → (may && eqb fixed (n + 1)) ≡ true → (fixed ≢ 0 → place ≡ fixed) → not (may && eqb place (n + 1)) ≡ false
absent-by true place fixed n h a =
    let f : fixed ≡ n + 1 = grind (arith, tests) in
    let g : place ≡ n + 1 = a (λ e. absurd (omega (arith, e, f))) ∙ f in
    ap not (let k : eqb place (n + 1) ≡ true = grind (arith, nat_tests) in k)
absent-by false place fixed n h a = cc

-- where an object is fixed as absent, it is absent
pub gone-absent : (p : ProblemData) (t : Tuple) (fix : List Fixing) (o : ℕ) → Agrees t fix → is_gone p fix o ≡ true → is_there p t (Object o) ≡ false
gone-absent p t fix o a h = absent-by (object_of p o).may_be_absent (spot t o).place (fixed_place fix o) (length (object_of p o).shapes) h (a.at o)

there-by : (may : Bool) (place fixed n : ℕ) (b : Bool) → eqb fixed 0 ≡ b → (may && eqb fixed (n + 1)) ≡ false → (may && b) ≡ false → (fixed ≢ 0 → place ≡ fixed) → not (may && eqb place (n + 1)) ≡ true
there-by true place fixed n true e h i a = cc
there-by true place fixed n false e h i a =
    let f : place ≡ fixed = a (grind (arith, tests)) in
    ap not (ap (λ m. eqb m (n + 1)) f ∙ h)
there-by false place fixed n b e h i a = refl

-- where it is not, and cannot be absent any more, it is there
pub whole-there : (p : ProblemData) (t : Tuple) (fix : List Fixing) (o : ℕ) → Agrees t fix → is_gone p fix o ≡ false → may_go p fix o ≡ false → is_there p t (Object o) ≡ true
whole-there p t fix o a h i = there-by (object_of p o).may_be_absent (spot t o).place (fixed_place fix o) (length (object_of p o).shapes) (eqb (fixed_place fix o) 0) refl h i (a.at o)

-- ---- one more shape fixed

abbrev pub fixed : ℕ → ℕ → List Fixing → List Fixing
fixed o s fix = record { object = o; place = s } ∷ fix

above-zero : (s : ℕ) → 1 ≤ s → eqb s 0 ≡ false
above-zero s h = grind (arith, nat_tests)

taken-here : (s old : ℕ) (b : Bool) → b ≡ true → 1 ≤ s → s ≡ cond (eqb (cond b s old) 0) 1 (cond b s old)
taken-here s old b e h = sym (ap (λ x. cond (eqb (cond x s old) 0) 1 (cond x s old)) e ∙ ap (λ c. cond c 1 s) (above-zero s h))

at-itself : (o : ℕ) → eqb o o ≡ true
at-itself o = grind (arith, nat_tests)

-- the fixed object is settled
pub here : (p : ProblemData) (t : Tuple) (fix : List Fixing) (o s : ℕ) → (spot t o).place ≡ s → 1 ≤ s → IsSettled p t (fixed o s fix) (Object o)
here p t fix o s e h = placed-settled p t (fixed o s fix) o (e ∙ taken-here s (fixed_place fix o) (eqb o o) (at-itself o) h)

other-shape : (p : ProblemData) (t : Tuple) (fix : List Fixing) (o s q : ℕ) (b : Bool) → eqb q o ≡ b → (spot t o).place ≡ s → 1 ≤ s → shape_of p t q ≡ shape_at p q (cond (eqb (fixed_place fix q) 0) 1 (fixed_place fix q))
    → shape_of p t q ≡ shape_at p q (cond (eqb (cond b s (fixed_place fix q)) 0) 1 (cond b s (fixed_place fix q)))
other-shape p t fix o s q true k e h i =
    let f : q ≡ o = grind (arith, tests) in
    ap (shape_at p q) (ap (λ j. (spot t j).place) f ∙ e ∙ taken-here s (fixed_place fix q) true refl h)
other-shape p t fix o s q false k e h i = i

pub settled-more : (p : ProblemData) (t : Tuple) (fix : List Fixing) (o s : ℕ) (x : Thing) → (spot t o).place ≡ s → 1 ≤ s → IsSettled p t fix x → IsSettled p t (fixed o s fix) x
settled-more p t fix o s (Number z) e h i = tt
settled-more p t fix o s (Part b) e h i = tt
settled-more p t fix o s (Object q) e h i = other-shape p t fix o s q (eqb q o) refl e h i

agrees-at : (t : Tuple) (fix : List Fixing) (o s q : ℕ) (b : Bool) → eqb q o ≡ b → (spot t o).place ≡ s → Agrees t fix → cond b s (fixed_place fix q) ≢ 0 → (spot t q).place ≡ cond b s (fixed_place fix q)
agrees-at t fix o s q true k e a n = let f : q ≡ o = grind (arith, tests) in ap (λ j. (spot t j).place) f ∙ e
agrees-at t fix o s q false k e a n = a.at q n

pub agrees-more : (t : Tuple) (fix : List Fixing) (o s : ℕ) → (spot t o).place ≡ s → Agrees t fix → Agrees t (fixed o s fix)
agrees-more t fix o s e a = record { at = λ q n. agrees-at t fix o s q (eqb q o) refl e a n }

pub covered-more : (p : ProblemData) (t : Tuple) (fix : List Fixing) (env : PlainEnv) (o s : ℕ) (asks : Subject → Bool) → (spot t o).place ≡ s → 1 ≤ s → IsCovered p t fix env asks → IsCovered p t (fixed o s fix) env asks
covered-more p t fix env o s asks e h c = record { at = λ u a. settled-more p t fix o s (subject_in u env) e h (c.at u a) }

-- ---- one more variable

look-settled : (p : ProblemData) (t : Tuple) (fix : List Fixing) (env : PlainEnv) (v m : ℕ) (x : Thing) (asks : Subject → Bool) (b : Bool) → eqb m v ≡ b →
    (asks (subjects.Variable v) ≡ true → IsSettled p t fix x) → asks (subjects.Variable m) ≡ true → IsSettled p t fix (subject_in (subjects.Variable m) env) → IsSettled p t fix (cond b x (subject_in (subjects.Variable m) env))
look-settled p t fix env v m x asks true e h a k = h (let f : m ≡ v = grind (arith, tests) in subst (λ i. asks (subjects.Variable i) ≡ true) f a)
look-settled p t fix env v m x asks false e h a k = k

bound-settled : (p : ProblemData) (t : Tuple) (fix : List Fixing) (env : PlainEnv) (v : ℕ) (x : Thing) (asks : Subject → Bool) → (asks (subjects.Variable v) ≡ true → IsSettled p t fix x) → IsCovered p t fix env asks →
    (s : Subject) → asks s ≡ true → IsSettled p t fix (subject_in s (set_variable v x env))
bound-settled p t fix env v x asks h c (subjects.Object o) a = c.at (subjects.Object o) a
bound-settled p t fix env v x asks h c (subjects.Variable m) a = look-settled p t fix env v m x asks (eqb m v) refl h a (c.at (subjects.Variable m) a)

pub covered-bound : (p : ProblemData) (t : Tuple) (fix : List Fixing) (env : PlainEnv) (v : ℕ) (x : Thing) (asks : Subject → Bool) → (asks (subjects.Variable v) ≡ true → IsSettled p t fix x) → IsCovered p t fix env asks →
    IsCovered p t fix (set_variable v x env) asks
covered-bound p t fix env v x asks h c = record { at = bound-settled p t fix env v x asks h c }
