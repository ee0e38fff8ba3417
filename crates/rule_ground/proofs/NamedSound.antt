-- A formula that names objects itself: as if a quantifier over each of them stood before it.
use Rattle.std.proofs.Common.{◌≡◌, ◌⊎◌, inl, inr, ℕ, zero, suc, ◌+◌, ◌<◌, ◌≤◌, eqb, leb, Bool, true, false, cond, List, [], ◌∷◌, length, sym, ap, ◌∙◌, refl, arith, subst, tests}
use Rattle.std.specs.List.{filter, range_with_len}
use Rattle.std.proofs.Math.Logic.{⊎_elim}
use Rattle.std.proofs.lemmas.Bool.{cases_lt}
use Rattle.std.proofs.lemmas.Bool.Decides.{nat_tests}
use Rattle.geo_base.specs.Tuple.{Tuple, spot}
use Rattle.problem_data.specs.Problem.{ProblemData}
use Rattle.problem_data.specs.Tuple.{object_of}
use Rattle.problem_data.specs.Value.{Object}
use Rattle.problem_data.specs.Cells.{IsTuple}
use Rattle.rule_expand.specs.declared.plain.Subject.{Subject}
use Rattle.rule_expand.specs.declared.plain.Subject.TheVariants as subjects
use Rattle.rule_expand.specs.Plain.{PlainFormulaTree}
use Rattle.rule_expand.specs.PlainTruth.{subject_in, plain_holds}
use Rattle.rule_expand.specs.Degree.{formula_breaks}
use Rattle.linear_conditions.specs.CondTree.{CondTree, true_on}
use Rattle.linear_conditions.specs.Fixings.{Fixing}
use Rattle.linear_conditions.specs.Settled.{Agrees, IsSettled}
use Rattle.linear_conditions.specs.Folding.{joined}
use Rattle.linear_conditions.specs.Counts.{Counts, Done, OnDone, and_then, visit}
use Rattle.linear_conditions.proofs.Junctions.{joined-true}
use Rattle.linear_conditions.proofs.Outcomes.{on_done, on_then, on_any}
use Rattle.problem_data.specs.Places.{place_count}
use Rattle.rule_ground.specs.Shapes.{places}
use Rattle.rule_ground.specs.Grounding.{needs, is_open, Body, ground_places, named_objects, ground_named}
use Rattle.rule_ground.specs.declared.quantifiers.Manner.TheVariants.{All}
use Rattle.rule_ground.proofs.Settled.{closed-settled, missing-settled, fixed, here, settled-more, agrees-more}
use Rattle.rule_ground.proofs.Sound.{places-at, open-places, junction-all, ground-sound}

-- a subject is one of these objects
abbrev pub IsNamed : Subject → List ℕ → Type 0
IsNamed s [] = ⊥
IsNamed s (o ∷ rest) = (s ≡ subjects.Object o) ⊎ IsNamed s rest

-- each subject that the formula asks for is settled, or still to come among the objects
pub record IsOwed (p : ProblemData) (t : Tuple) (fix : List Fixing) (names : List ℕ) (f : PlainFormulaTree) : Type 0 where
  pub at : (s : Subject) → needs s f ≡ true → IsSettled p t fix (subject_in s []) ⊎ IsNamed s names

settled-now : (p : ProblemData) (t : Tuple) (fix : List Fixing) (o : ℕ) (rest : List ℕ) (s : Subject) → IsSettled p t fix (Object o) → (s ≡ subjects.Object o) ⊎ IsNamed s rest → IsSettled p t fix (subject_in s []) ⊎ IsNamed s rest
settled-now p t fix o rest s h (inl e) = inl (subst (λ u. IsSettled p t fix (subject_in u [])) (sym e) h)
settled-now p t fix o rest s h (inr n) = inr n

owed-on : (p : ProblemData) (t : Tuple) (fix : List Fixing) (o : ℕ) (rest : List ℕ) (s : Subject) → IsSettled p t fix (Object o) → IsSettled p t fix (subject_in s []) ⊎ IsNamed s (o ∷ rest) → IsSettled p t fix (subject_in s []) ⊎ IsNamed s rest
owed-on p t fix o rest s h (inl i) = inl i
owed-on p t fix o rest s h (inr n) = settled-now p t fix o rest s h n

pub owed-whole : (p : ProblemData) (t : Tuple) (fix : List Fixing) (o : ℕ) (rest : List ℕ) (f : PlainFormulaTree) → IsSettled p t fix (Object o) → IsOwed p t fix (o ∷ rest) f → IsOwed p t fix rest f
owed-whole p t fix o rest f h w = record { at = λ s e. owed-on p t fix o rest s h (w.at s e) }

owed-carry : (p : ProblemData) (t : Tuple) (fix : List Fixing) (o place : ℕ) (names : List ℕ) (s : Subject) → (spot t o).place ≡ place → 1 ≤ place → IsSettled p t fix (subject_in s []) ⊎ IsNamed s names → IsSettled p t (fixed o place fix) (subject_in s []) ⊎ IsNamed s names
owed-carry p t fix o place names s e l (inl h) = inl (settled-more p t fix o place (subject_in s []) e l h)
owed-carry p t fix o place names s e l (inr n) = inr n

pub owed-split : (p : ProblemData) (t : Tuple) (fix : List Fixing) (o place : ℕ) (rest : List ℕ) (f : PlainFormulaTree) → (spot t o).place ≡ place → 1 ≤ place → IsOwed p t fix (o ∷ rest) f → IsOwed p t (fixed o place fix) rest f
owed-split p t fix o place rest f e l w = owed-whole p t (fixed o place fix) o rest f (here p t fix o place e l) (record { at = λ s i. owed-carry p t fix o place (o ∷ rest) s e l (w.at s i) })

-- what is known of the grounding behind some of the objects
abbrev Rest : ProblemData → Tuple → List ℕ → PlainFormulaTree → Type 0
Rest p t rest f = (fix : List Fixing) (k : Counts) → Agrees t fix → IsOwed p t fix rest f → OnDone CondTree (ground_named p rest f fix k) (λ c. true_on t c ≡ plain_holds p t f [])

-- one object, with each of its places where its place is open
object-sound : (p : ProblemData) (t : Tuple) (o : ℕ) (rest : List ℕ) (f : PlainFormulaTree) (fix : List Fixing) (k : Counts) (several : Bool) → is_open p fix o ≡ several → IsTuple p t → Agrees t fix → IsOwed p t fix (o ∷ rest) f → Rest p t rest f →
    let body : Body = λ x more j. ground_named p rest f more j in
    OnDone CondTree
    (cond several
    (and_then (List CondTree) CondTree (ground_places body All fix o (places p o) k) (λ cs k'. Done (joined true cs) k'))
    (and_then Counts CondTree (visit k) (λ k' same. and_then CondTree CondTree (body (Object o) fix k') (λ c j. Done (joined true (c ∷ [])) j))))
    (λ c. true_on t c ≡ plain_holds p t f [])
object-sound p t o rest f fix k true e w a i r =
    let body : Body = λ x more j. ground_named p rest f more j in
    let places = open-places p t fix o w e in
    let n = place_count (object_of p o) in
    let q : leb (spot t o).place n ≡ true = (let l = places.1 in grind (arith, nat_tests)) in
    on_then (List CondTree) CondTree _ _ _ _
    (places-at All t fix body o n (plain_holds p t f []) places.0
    (λ s g j. r (fixed o s fix) j (agrees-more t fix o s g a) (owed-split p t fix o s rest f g (subst (λ m. 1 ≤ m) g places.0) i)) k)
    (λ cs j h. on_done CondTree (joined true cs) j _ (joined-true true t cs ∙ h ∙ ap (λ x. cond x (plain_holds p t f []) true) q))
object-sound p t o rest f fix k false e w a i r =
    on_any Counts CondTree _ _ _ (λ k' same.
    on_then CondTree CondTree _ _ _ _ (r fix k' a (owed-whole p t fix o rest f (closed-settled p t fix o w a e) i)) (λ c j h.
    on_done CondTree (joined true (c ∷ [])) j _ (joined-true true t (c ∷ []) ∙ junction-all true (true_on t c) ∙ h)))

pub all-settled : (p : ProblemData) (t : Tuple) (fix : List Fixing) (s : Subject) → IsSettled p t fix (subject_in s []) ⊎ IsNamed s [] → IsSettled p t fix (subject_in s [])
all-settled p t fix s (inl h) = h
all-settled p t fix s (inr n) = absurd n

-- on every tuple the condition is true exactly where the formula holds
pub named-sound : (p : ProblemData) (t : Tuple) (names : List ℕ) (f : PlainFormulaTree) → IsTuple p t → formula_breaks f ≡ false → Rest p t names f
named-sound p t [] f w b fix k a i = ground-sound p t f true [] fix k w b a (record { at = λ s e. all-settled p t fix s (i.at s e) })
named-sound p t (o ∷ rest) f w b fix k a i =
    on_any Counts CondTree _ _ _ (λ k' j. object-sound p t o rest f fix k' (is_open p fix o) refl w a i (named-sound p t rest f w b))

-- ---- all objects that a formula names

kept-on : (s : Subject) (a : ℕ) (xs : List ℕ) (b : Bool) → IsNamed s xs → IsNamed s (cond b (a ∷ xs) xs)
kept-on s a xs true h = inr h
kept-on s a xs false h = h

kept-here : (a o : ℕ) (xs : List ℕ) (b : Bool) → b ≡ true → o ≡ a → IsNamed (subjects.Object o) (cond b (a ∷ xs) xs)
kept-here a o xs true h e = inl (ap subjects.Object e)
kept-here a o xs false h e = cc

named-there : (test : ℕ → Bool) (a n o : ℕ) (b : Bool) → eqb o a ≡ b → a ≤ o → o < a + n → test o ≡ true → IsNamed (subjects.Object o) (filter test (range_with_len a n))
named-there test a zero o b g h l e = absurd (omega arith)
named-there test a (suc n) o true g h l e =
    let f : o ≡ a = grind (arith, tests) in
    kept-here a o (filter test (range_with_len (a + 1) n)) (test a) (ap test (sym f) ∙ e) f
named-there test a (suc n) o false g h l e =
    let f : a < o = (let i : o ≡ a → ⊥ = grind (arith, tests) in omega arith) in
    kept-on (subjects.Object o) a (filter test (range_with_len (a + 1) n)) (test a) (named-there test (a + 1) n o (eqb o (a + 1)) refl (omega arith) (omega arith) e)

pub there : (p : ProblemData) (t : Tuple) (f : PlainFormulaTree) (s : Subject) → needs s f ≡ true → IsSettled p t [] (subject_in s []) ⊎ IsNamed s (named_objects p f)
there p t f (subjects.Variable v) e = inl tt
there p t f (subjects.Object o) e = ⊎_elim
    (λ l. inr (named-there (λ u. needs (subjects.Object u) f) 0 (length p.objects) o (eqb o 0) refl (omega arith) (omega arith) e))
    (λ l. inl (missing-settled p t [] o l))
    (cases_lt o (length p.objects))

pub named-true : (p : ProblemData) (t : Tuple) (f : PlainFormulaTree) (k : Counts) → IsTuple p t → formula_breaks f ≡ false →
    OnDone CondTree (ground_named p (named_objects p f) f [] k) (λ c. true_on t c ≡ plain_holds p t f [])
named-true p t f k w b = named-sound p t (named_objects p f) f w b [] k (record { at = λ o n. absurd (n refl) }) (record { at = λ s e. there p t f s e })
