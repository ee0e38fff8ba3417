-- On every tuple the condition that a formula grounds to is true exactly where the formula holds.
use Rattle.std.proofs.Common.{◌≡◌, ℕ, zero, suc, ◌+◌, ◌==◌, ◌<◌, ◌≤◌, eqb, leb, ◌&&◌, ◌||◌, Bool, true, false, cond, not, List, [], ◌∷◌, ◌++◌, map, length, pos, ◌+ℤ◌, ◌-ℤ◌, sym, ap, ◌∙◌, refl, arith, subst, tests}
use Rattle.std.specs.List.{filter, list_all, list_any, count_by, range_with_len}
use Rattle.std.proofs.lemmas.Bool.Decides.{nat_tests}
use Rattle.std.proofs.lemmas.Int.{ints}
use Rattle.std.specs.Option.{option_map_or}
use lib.Signed.{le_z}
use Rattle.geo_base.specs.Tuple.{Tuple, spot}
use Rattle.geo_conditions.specs.Reach.{count}
use Rattle.rule_syntax.specs.declared.tree.QuantKind.{QuantKind}
use Rattle.rule_syntax.specs.declared.tree.QuantKind.TheVariants.{ForAll, Exists, AtLeast, AtMost}
use Rattle.problem_data.specs.Problem.{ProblemData}
use Rattle.problem_data.specs.Tuple.{object_of, boxes_of_shape}
use Rattle.problem_data.specs.Value.{Thing, Number, Object, Part}
use Rattle.problem_data.specs.Truth.{same_truth, quantify, boxes_of_thing}
use Rattle.problem_data.specs.Cells.{IsTuple}
use Rattle.rule_expand.specs.declared.plain.Subject.{Subject}
use Rattle.rule_expand.specs.declared.plain.Subject.TheVariants as subjects
use Rattle.rule_expand.specs.Plain.{PlainCollTree, all_objects, listed, boxes_of, PlainFormulaTree, truth, falsehood, negation, all_of, any_of, implication, equivalence, comparison, quantified, PlainFormulas, no_formulas, a_formula}
use Rattle.rule_expand.specs.PlainTruth.{PlainEnv, set_variable, subject_in, plain_value, plain_holds, plain_all, plain_some, plain_elements}
use Rattle.rule_expand.specs.Degree.{expr_breaks, formula_breaks, formulas_break}
use Rattle.linear_conditions.specs.CondTree.{CondTree, shape_is, shape_is_not, true_on}
use Rattle.linear_conditions.specs.Fixings.{Fixing, fixed_place, place_of}
use Rattle.linear_conditions.specs.Settled.{Agrees, IsSettled, IsCovered, signed, same_subject, expr_needs}
use Rattle.linear_conditions.specs.Leaves.{under}
use Rattle.linear_conditions.specs.Folding.{certain, fold_count, joined, decides}
use Rattle.linear_conditions.specs.Counts.{Counts, Outcome, Done, OnDone, and_then, within_limits, one_leaf}
use Rattle.linear_conditions.proofs.Counting.{counted, fold-count, certain-true}
use Rattle.linear_conditions.proofs.Junctions.{junction, joint, joined-true, decided, junction-decided, junction-unit, junction_join}
use Rattle.linear_conditions.proofs.Outcomes.{on_done, on_then, on_any, on_either}
use Rattle.linear_conditions.proofs.Compared.{compare-true, under-compare}
use Rattle.problem_data.specs.Places.{place_count, absent_place}
use Rattle.problem_data.specs.Truth.{is_there}
use Rattle.rule_expand.specs.PlainTruth.{plain_candidates}
use Rattle.rule_ground.specs.Shapes.{has_several}
use Rattle.rule_ground.specs.Grounding.{coll_needs, needs, some_needs, Element, whole, split, optional, gone, is_open, is_gone, may_go, things_of, element_of, elements_of, gather, alone, in_turn, manner, body_sign, quantifier_node, Body, absent_truth, shape_child, optional_child, ground_place, ground_places, ground_group, ground_split, ground_element, ground_elements, ground, ground_operands}
use Rattle.rule_ground.specs.declared.quantifiers.Manner.{Manner}
use Rattle.rule_ground.specs.declared.quantifiers.Manner.TheVariants.{All, One, Holding, Failing}
use Rattle.rule_values.specs.Elements.{object_in}
use Rattle.rule_values.specs.Shapes.{boxes_at}
use Rattle.rule_ground.proofs.Settled.{narrowed, first-place, last-place, several-there, closed-settled, gone-absent, whole-there, fixed, here, agrees-more, covered-more, covered-bound}
use Rattle.rule_ground.proofs.Present.{due, count-more, all-present, some-present, holding-present, failing-present}

-- ---- several steps one after another

-- it is so of each item
abbrev pub Each : {A : Type 0} → (A → Type 0) → List A → Type 0
Each P [] = Unit {0}
Each P (x ∷ xs) = P x × Each P xs

pub each-map : {A B : Type 0} (f : A → B) (P : B → Type 0) (xs : List A) → Each (λ x. P (f x)) xs → Each P (map f xs)
each-map f P [] h = tt
each-map f P (x ∷ xs) h = (h.0, each-map f P xs h.1)

pub each-of : {A : Type 0} (P : A → Type 0) (xs : List A) → ((x : A) → P x) → Each P xs
each-of P [] f = tt
each-of P (x ∷ xs) f = (f x, each-of P xs f)

pub gather-on : {A B : Type 0} (go : A → Counts → Outcome (List B)) (P : List A → List B → Type 0) (Q : A → List B → Type 0) → P [] [] →
    ((x : A) (xs : List A) (bs cs : List B) → Q x bs → P xs cs → P (x ∷ xs) (bs ++ cs)) →
    (xs : List A) → Each (λ x. (k : Counts) → OnDone (List B) (go x k) (Q x)) xs → (k : Counts) → OnDone (List B) (gather go xs k) (P xs)
gather-on {A} {B} go P Q z s [] h k = on_done (List B) [] k (P []) z
gather-on {A} {B} go P Q z s (x ∷ xs) h k =
    on_then (List B) (List B) _ _ (Q x) _ (h.0 k) (λ bs j q.
    on_then (List B) (List B) _ _ (P xs) _ (gather-on go P Q z s xs h.1 j) (λ cs i r.
    on_done (List B) (bs ++ cs) i (P (x ∷ xs)) (s x xs bs cs q r)))

junction-assoc : (all a b c : Bool) → junction all (junction all a b) c ≡ junction all a (junction all b c)
junction-assoc true true b c = refl
junction-assoc true false b c = refl
junction-assoc false true b c = refl
junction-assoc false false b c = refl

pub junction-all : (all a : Bool) → junction all a all ≡ a
junction-all true true = refl
junction-all true false = refl
junction-all false true = refl
junction-all false false = refl

pub joint-append : (all : Bool) (t : Tuple) (bs cs : List CondTree) → joint all t (bs ++ cs) ≡ junction all (joint all t bs) (joint all t cs)
joint-append all t [] cs = sym (junction-unit all (joint all t cs))
joint-append all t (b ∷ bs) cs = ap (junction all (true_on t b)) (joint-append all t bs cs) ∙ sym (junction-assoc all (true_on t b) (joint all t bs) (joint all t cs))

counted-append : (t : Tuple) (bs cs : List CondTree) → counted t (bs ++ cs) ≡ counted t bs + counted t cs
counted-append t [] cs = omega arith
counted-append t (b ∷ bs) cs = omega (arith, counted-append t bs cs)

-- ---- a split: the child of the tuple's own place is the body, and the others leave it to that one

-- whether all children of a split must hold, or one
abbrev all_in : Manner → Bool
all_in All = true
all_in One = false
all_in Holding = false
all_in Failing = false

two_some : (b c : Bool) → leb 1 (count b + (count c + 0)) ≡ (b || c)
two_some true true = refl
two_some true false = refl
two_some false true = refl
two_some false false = refl

two_both : (b c : Bool) → leb 2 (count b + (count c + 0)) ≡ (b && c)
two_both true true = refl
two_both true false = refl
two_both false true = refl
two_both false false = refl

unless : (e b : Bool) → (not e || b) ≡ cond e b true
unless true b = refl
unless false b = refl

along : (e b : Bool) → (e && b) ≡ cond e b false
along true b = refl
along false b = refl

both-true : (t : Tuple) (o s : ℕ) (c : CondTree) → true_on t (fold_count (pos 2) (shape_is o s ∷ (c ∷ []))) ≡ cond ((spot t o).place == s) (true_on t c) false
both-true t o s c = fold-count t (pos 2) (shape_is o s ∷ (c ∷ [])) ∙ two_both ((spot t o).place == s) (true_on t c) ∙ along ((spot t o).place == s) (true_on t c)

child-true : (m : Manner) (t : Tuple) (o s : ℕ) (c : CondTree) → true_on t (shape_child m o s c) ≡ cond ((spot t o).place == s) (true_on t c) (all_in m)
child-true All t o s c = fold-count t (pos 1) (shape_is_not o s ∷ (c ∷ [])) ∙ two_some (not ((spot t o).place == s)) (true_on t c) ∙ unless ((spot t o).place == s) (true_on t c)
child-true One t o s c = both-true t o s c
child-true Holding t o s c = both-true t o s c
child-true Failing t o s c = both-true t o s c

-- the children of some places together, where the body's truth is b
abbrev meant_at : Bool → Bool → ℕ → List ℕ → Bool
meant_at all b place [] = all
meant_at all b place (s ∷ ss) = junction all (cond (place == s) b all) (meant_at all b place ss)

place-below : (all b : Bool) (place a n : ℕ) → place < a → meant_at all b place (range_with_len a n) ≡ all
place-below all b place a zero h = refl
place-below all b place a (suc n) h =
    let e : eqb place a ≡ false = grind (arith, nat_tests) in
    junction_join all _ _ _ _ (ap (λ x. cond x b all) e) (place-below all b place (a + 1) n (omega arith)) ∙ junction-all all all

place-past : (all b : Bool) (place a n : ℕ) → a + n ≤ place → meant_at all b place (range_with_len a n) ≡ all
place-past all b place a zero h = refl
place-past all b place a (suc n) h =
    let e : eqb place a ≡ false = grind (arith, nat_tests) in
    junction_join all _ _ _ _ (ap (λ x. cond x b all) e) (place-past all b place (a + 1) n (omega (arith, h))) ∙ junction-all all all

place-among : (all b : Bool) (place a n : ℕ) (e : Bool) → eqb place a ≡ e → a ≤ place → place < a + n → meant_at all b place (range_with_len a n) ≡ b
place-among all b place a zero e k h i = absurd (omega arith)
place-among all b place a (suc n) true k h i =
    let f : place ≡ a = grind (arith, tests) in
    junction_join all _ _ _ _ (ap (λ x. cond x b all) k) (place-below all b place (a + 1) n (omega arith)) ∙ junction-all all b
place-among all b place a (suc n) false k h i =
    let f : a < place = (let g : place ≡ a → ⊥ = grind (arith, tests) in omega arith) in
    junction_join all _ _ _ _ (ap (λ x. cond x b all) k) (place-among all b place (a + 1) n (eqb place (a + 1)) refl (omega arith) (omega arith)) ∙ junction-unit all b

-- the first n places: they are as the body where the tuple's place is one of them
places-meant : (all b : Bool) (place n : ℕ) (e : Bool) → leb place n ≡ e → 1 ≤ place → meant_at all b place (range_with_len 1 n) ≡ cond e b all
places-meant all b place n true e h = place-among all b place 1 n (eqb place 1) refl h (let l : place ≤ n = grind (arith, nat_tests) in omega (arith, l))
places-meant all b place n false e h = place-past all b place 1 n (let l : n < place = grind (arith, nat_tests) in omega (arith, l))

-- ---- elements

abbrev pub thing_of : Element → Thing
thing_of (whole x) = x
thing_of (split o) = Object o
thing_of (optional o) = Object o
thing_of (gone o) = Object o

-- the body at the tuple's own place of an object
abbrev pub GoesAt : Tuple → List Fixing → Body → ℕ → Bool → Type 0
GoesAt t fix body o b = (s : ℕ) → (spot t o).place ≡ s → (k : Counts) → OnDone CondTree (body (Object o) (fixed o s fix) k) (λ c. true_on t c ≡ b)

-- what is known of an element, and of the body at it
abbrev pub Goes : ProblemData → Tuple → (Thing → Bool) → List Fixing → Body → Element → Type 0
Goes p t h fix body (whole x) = (is_there p t x ≡ true) × ((k : Counts) → OnDone CondTree (body x fix k) (λ c. true_on t c ≡ h x))
Goes p t h fix body (split o) = (1 ≤ (spot t o).place) × ((spot t o).place ≤ place_count (object_of p o)) × GoesAt t fix body o (h (Object o))
Goes p t h fix body (optional o) = ((object_of p o).may_be_absent ≡ true) × ((k : Counts) → OnDone CondTree (body (Object o) fix k) (λ c. true_on t c ≡ h (Object o)))
Goes p t h fix body (gone o) = is_there p t (Object o) ≡ false

-- what the children of an element say, where they have to be b
abbrev pub Stands : Manner → Tuple → Bool → List CondTree → Type 0
Stands All t b cs = joint true t cs ≡ b
Stands One t b cs = joint false t cs ≡ b
Stands Holding t b cs = counted t cs ≡ count b
Stands Failing t b cs = counted t cs ≡ count b

-- what the children of all elements say
abbrev pub AllStand : Manner → Tuple → (Thing → Bool) → List Element → List CondTree → Type 0
AllStand All t h xs cs = joint true t cs ≡ list_all h (map thing_of xs)
AllStand One t h xs cs = joint false t cs ≡ list_any h (map thing_of xs)
AllStand Holding t h xs cs = counted t cs ≡ count_by h (map thing_of xs)
AllStand Failing t h xs cs = counted t cs ≡ count_by h (map thing_of xs)

place-at : (m : Manner) (t : Tuple) (fix : List Fixing) (body : Body) (o s : ℕ) (b e : Bool) → eqb (spot t o).place s ≡ e → GoesAt t fix body o b → (k : Counts) →
    OnDone CondTree (ground_place body m fix o s k) (λ c. true_on t c ≡ cond e b (all_in m))
place-at m t fix body o s b true e g k =
    on_any Counts CondTree _ _ _ (λ k' j.
    on_then CondTree CondTree _ _ _ _ (g s (grind (arith, tests)) k') (λ c i q.
    on_done CondTree (shape_child m o s c) _ _ (child-true m t o s c ∙ ap (λ x. cond x (true_on t c) (all_in m)) e ∙ q)))
place-at m t fix body o s b false e g k =
    on_any Counts CondTree _ _ _ (λ k' j.
    on_any CondTree CondTree _ _ _ (λ c i.
    on_done CondTree (shape_child m o s c) _ _ (child-true m t o s c ∙ ap (λ x. cond x (true_on t c) (all_in m)) e)))

place-alone : (m : Manner) (t : Tuple) (fix : List Fixing) (body : Body) (o s : ℕ) (b : Bool) → GoesAt t fix body o b → (k : Counts) →
    OnDone (List CondTree) (alone (ground_place body m fix o s k)) (λ cs. joint (all_in m) t cs ≡ cond ((spot t o).place == s) b (all_in m))
place-alone m t fix body o s b g k =
    on_then CondTree (List CondTree) _ _ _ _ (place-at m t fix body o s b (eqb (spot t o).place s) refl g k) (λ c i q.
    on_done (List CondTree) (c ∷ []) i _ (junction-all (all_in m) (true_on t c) ∙ q))

-- the first n places of an object
pub places-at : (m : Manner) (t : Tuple) (fix : List Fixing) (body : Body) (o n : ℕ) (b : Bool) → 1 ≤ (spot t o).place → GoesAt t fix body o b → (k : Counts) →
    OnDone (List CondTree) (ground_places body m fix o (range_with_len 1 n) k) (λ cs. joint (all_in m) t cs ≡ cond (leb (spot t o).place n) b (all_in m))
places-at m t fix body o n b first g k =
    let place = (spot t o).place in
    let w : OnDone (List CondTree) (ground_places body m fix o (range_with_len 1 n) k) (λ cs. joint (all_in m) t cs ≡ meant_at (all_in m) b place (range_with_len 1 n)) =
    gather-on (λ s j. alone (ground_place body m fix o s j)) (λ ss cs. joint (all_in m) t cs ≡ meant_at (all_in m) b place ss) (λ s cs. joint (all_in m) t cs ≡ cond (place == s) b (all_in m)) refl
    (λ s ss bs cs q r. joint-append (all_in m) t bs cs ∙ junction_join (all_in m) _ _ _ _ q r)
    (range_with_len 1 n) (each-of (λ s. (j : Counts) → OnDone (List CondTree) (alone (ground_place body m fix o s j)) (λ cs. joint (all_in m) t cs ≡ cond (place == s) b (all_in m))) (range_with_len 1 n) (λ s j. place-alone m t fix body o s b g j)) k in
    record { get = λ cs j e. w.get cs j e ∙ places-meant (all_in m) b place n (leb place n) refl first }

one-stands : (m : Manner) (t : Tuple) (b : Bool) (c : CondTree) → true_on t c ≡ b → Stands m t b (c ∷ [])
one-stands All t b c e = junction-all true (true_on t c) ∙ e
one-stands One t b c e = junction-all false (true_on t c) ∙ e
one-stands Holding t b c e = let f = ap count e in omega (arith, f)
one-stands Failing t b c e = let f = ap count e in omega (arith, f)

alone-stands : (m : Manner) (t : Tuple) (b : Bool) (o : Outcome CondTree) → OnDone CondTree o (λ c. true_on t c ≡ b) → OnDone (List CondTree) (alone o) (Stands m t b)
alone-stands m t b o h = on_then CondTree (List CondTree) _ _ _ _ h (λ c i q. on_done (List CondTree) (c ∷ []) i _ (one-stands m t b c q))

weaker : (t : Tuple) (o : Outcome CondTree) (a b : Bool) → a ≡ b → OnDone CondTree o (λ c. true_on t c ≡ a) → OnDone CondTree o (λ c. true_on t c ≡ b)
weaker t o a b e h = record { get = λ c k i. h.get c k i ∙ e }

-- ---- an object that may be absent

optional-true : (m : Manner) (t : Tuple) (o s : ℕ) (c : CondTree) → true_on t (optional_child m o s c) ≡ cond ((spot t o).place == s) (absent_truth m) (true_on t c)
optional-true m t o s c = by_truth (absent_truth m)
  where
    either : (e b : Bool) → (e || b) ≡ cond e true b
    either true b = refl
    either false b = refl

    neither_one : (e b : Bool) → (not e && b) ≡ cond e false b
    neither_one true b = refl
    neither_one false b = refl

    by_truth : (a : Bool) → true_on t (cond a (fold_count (pos 1) (shape_is o s ∷ (c ∷ []))) (fold_count (pos 2) (shape_is_not o s ∷ (c ∷ [])))) ≡ cond ((spot t o).place == s) a (true_on t c)
    by_truth true = fold-count t (pos 1) (shape_is o s ∷ (c ∷ [])) ∙ two_some ((spot t o).place == s) (true_on t c) ∙ either ((spot t o).place == s) (true_on t c)
    by_truth false = fold-count t (pos 2) (shape_is_not o s ∷ (c ∷ [])) ∙ two_both (not ((spot t o).place == s)) (true_on t c) ∙ neither_one ((spot t o).place == s) (true_on t c)

-- what its child has to be, where it may be absent
optional-due : (may e a b : Bool) → may ≡ true → cond e a b ≡ cond (not (may && e)) b a
optional-due true true a b h = refl
optional-due true false a b h = refl
optional-due false e a b h = cc

-- of its shapes one is the tuple's, or it is absent
pub shape-there : (may : Bool) (place n : ℕ) → place ≤ n + cond may 1 0 → leb place n ≡ not (may && eqb place (n + 1))
shape-there true place n h = grind (arith, nat_tests)
shape-there false place n h = grind (arith, nat_tests)

or-false : (x : Bool) → (x || false) ≡ x
or-false true = refl
or-false false = refl

-- the shapes together, and the absence, where that counts
group-due : (may a b : Bool) (place n : ℕ) (e : Bool) → leb place n ≡ e → place ≤ n + cond may 1 0 → (cond e b false || ((a && may) && eqb place (n + 1))) ≡ cond e b a
group-due may a b place n true e h =
    let f : eqb place (n + 1) ≡ false = grind (arith, nat_tests) in
    ap (λ x. b || ((a && may) && x)) f ∙ ap (λ x. b || x) (none (a && may)) ∙ or-false b
  where
    none : (x : Bool) → (x && false) ≡ false
    none true = refl
    none false = refl
group-due true a b place n false e h =
    let f : eqb place (n + 1) ≡ true = grind (arith, nat_tests) in
    ap (λ x. (a && true) && x) f ∙ all (a && true) ∙ all a
  where
    all : (x : Bool) → (x && true) ≡ x
    all true = refl
    all false = refl
group-due false a b place n false e h = absurd (let f : n < place = grind (arith, nat_tests) in omega (arith, f, h))

absence-on : (p : ProblemData) (t : Tuple) (o : ℕ) (cs : List CondTree) (k : Counts) (b : Bool) → let s = absent_place (object_of p o) in
    OnDone (List CondTree) (cond b (and_then Counts (List CondTree) (within_limits (one_leaf k)) (λ k' same. Done (cs ++ (shape_is o s ∷ [])) k')) (Done cs k))
    (λ ds. joint false t ds ≡ (joint false t cs || (b && eqb (spot t o).place s)))
absence-on p t o cs k true =
    let s = absent_place (object_of p o) in
    on_any Counts (List CondTree) _ _ _ (λ k' j. on_done (List CondTree) (cs ++ (shape_is o s ∷ [])) _ _
    (joint-append false t cs (shape_is o s ∷ []) ∙ ap (λ x. joint false t cs || x) (or-false (eqb (spot t o).place s))))
absence-on p t o cs k false = on_done (List CondTree) cs k _ (sym (or-false (joint false t cs)))

module _ (p : ProblemData) (t : Tuple) (h : Thing → Bool) (fix : List Fixing) (body : Body) (o : ℕ) (g : Goes p t h fix body (split o)) where
  -- what the children of an absent object, or of one that is there, have to be
  wanted : Manner → Bool
  wanted m = due (is_there p t) (absent_truth m) h (Object o)

  group-true : (m : Manner) → all_in m ≡ false → (k : Counts) → OnDone CondTree (ground_group p body m fix o k) (λ c. true_on t c ≡ due (is_there p t) (absent_truth m) h (Object o))
  group-true m none k =
      let place = (spot t o).place in
      let n = length (object_of p o).shapes in
      let may = (object_of p o).may_be_absent in
      on_then (List CondTree) CondTree _ _ _ _ (places-at m t fix body o n (h (Object o)) g.0 g.2 k) (λ cs j q.
      on_then (List CondTree) CondTree _ _ _ _ (absence-on p t o cs j (absent_truth m && may)) (λ ds i r.
      on_done CondTree (joined false ds) i _
      (joined-true false t ds ∙ r ∙ ap (λ x. x || ((absent_truth m && may) && eqb place (n + 1))) (subst (λ (a : Bool). joint a t cs ≡ cond (leb place n) (h (Object o)) a) none q)
      ∙ group-due may (absent_truth m) (h (Object o)) place n (leb place n) refl g.1
      ∙ ap (λ x. cond x (h (Object o)) (absent_truth m)) (shape-there may place n g.1))))

  split-stands : (m : Manner) (k : Counts) → OnDone (List CondTree) (ground_split p body m fix o k) (Stands m t (due (is_there p t) (absent_truth m) h (Object o)))
  split-stands All k =
      let w = places-at All t fix body o (length (object_of p o).shapes) (h (Object o)) g.0 g.2 k in
      record { get = λ cs j e. w.get cs j e ∙ ap (λ x. cond x (h (Object o)) true) (shape-there (object_of p o).may_be_absent (spot t o).place (length (object_of p o).shapes) g.1) }
  split-stands One k =
      let w = places-at One t fix body o (length (object_of p o).shapes) (h (Object o)) g.0 g.2 k in
      record { get = λ cs j e. w.get cs j e ∙ ap (λ x. cond x (h (Object o)) false) (shape-there (object_of p o).may_be_absent (spot t o).place (length (object_of p o).shapes) g.1) }
  split-stands Holding k = alone-stands Holding t _ _ (group-true Holding refl k)
  split-stands Failing k = alone-stands Failing t _ _ (group-true Failing refl k)

pub element-stands : (p : ProblemData) (m : Manner) (t : Tuple) (h : Thing → Bool) (fix : List Fixing) (body : Body) (x : Element) → Goes p t h fix body x → (k : Counts) →
    OnDone (List CondTree) (ground_element p body m fix x k) (Stands m t (due (is_there p t) (absent_truth m) h (thing_of x)))
element-stands p m t h fix body (whole x) g k =
    alone-stands m t _ _ (on_any Counts CondTree _ _ _ (λ k' j. weaker t (body x fix k') _ _ (sym (ap (λ b. cond b (h x) (absent_truth m)) g.0)) (g.1 k')))
element-stands p m t h fix body (split o) g k = split-stands p t h fix body o g m k
element-stands p m t h fix body (optional o) g k =
    let s = absent_place (object_of p o) in
    alone-stands m t _ _
    (on_any Counts CondTree _ _ _ (λ k' j.
    on_then CondTree CondTree _ _ _ _ (g.1 k') (λ c i q.
    on_done CondTree (optional_child m o s c) _ _
    (optional-true m t o s c ∙ ap (λ x. cond (eqb (spot t o).place s) (absent_truth m) x) q
    ∙ optional-due (object_of p o).may_be_absent (eqb (spot t o).place s) (absent_truth m) (h (Object o)) g.0))))
element-stands p m t h fix body (gone o) g k =
    alone-stands m t _ _
    (on_any Counts CondTree _ _ _ (λ k' j.
    on_done CondTree (certain (absent_truth m)) _ _ (certain-true t (absent_truth m) ∙ sym (ap (λ b. cond b (h (Object o)) (absent_truth m)) g))))

stands-none : (m : Manner) (t : Tuple) (h : Thing → Bool) → AllStand m t h [] []
stands-none All t h = refl
stands-none One t h = refl
stands-none Holding t h = refl
stands-none Failing t h = refl

counts-more : (t : Tuple) (h : Thing → Bool) (x : Element) (xs : List Element) (bs cs : List CondTree) → counted t bs ≡ count (h (thing_of x)) → counted t cs ≡ count_by h (map thing_of xs) → counted t (bs ++ cs) ≡ count_by h (map thing_of (x ∷ xs))
counts-more t h x xs bs cs q r = counted-append t bs cs ∙ ap (λ n. n + counted t cs) q ∙ ap (λ n. count (h (thing_of x)) + n) r ∙ sym (count-more h (thing_of x) (map thing_of xs))

stands-more : (m : Manner) (t : Tuple) (h : Thing → Bool) (x : Element) (xs : List Element) (bs cs : List CondTree) → Stands m t (h (thing_of x)) bs → AllStand m t h xs cs → AllStand m t h (x ∷ xs) (bs ++ cs)
stands-more All t h x xs bs cs q r = joint-append true t bs cs ∙ junction_join true _ _ _ _ q r
stands-more One t h x xs bs cs q r = joint-append false t bs cs ∙ junction_join false _ _ _ _ q r
stands-more Holding t h x xs bs cs q r = counts-more t h x xs bs cs q r
stands-more Failing t h x xs bs cs q r = counts-more t h x xs bs cs q r

pub elements-stand : (p : ProblemData) (m : Manner) (t : Tuple) (h : Thing → Bool) (fix : List Fixing) (body : Body) (xs : List Element) → Each (Goes p t h fix body) xs → (k : Counts) →
    OnDone (List CondTree) (ground_elements p body m fix xs k) (AllStand m t (due (is_there p t) (absent_truth m) h) xs)
elements-stand p m t h fix body xs g k =
    let d = due (is_there p t) (absent_truth m) h in
    gather-on (ground_element p body m fix) (AllStand m t d) (λ x. Stands m t (d (thing_of x))) (stands-none m t d) (stands-more m t d) xs (each-goes xs g) k
  where
    each-goes : (ys : List Element) → Each (Goes p t h fix body) ys → Each (λ x. (j : Counts) → OnDone (List CondTree) (ground_element p body m fix x j) (Stands m t (due (is_there p t) (absent_truth m) h (thing_of x)))) ys
    each-goes [] d = tt
    each-goes (y ∷ ys) d = ((λ j. element-stands p m t h fix body y d.0 j), each-goes ys d.1)

-- ---- a quantifier from its elements

not-all : (h : Thing → Bool) (xs : List Thing) → list_any (λ x. not (h x)) xs ≡ not (list_all h xs)
not-all h [] = refl
not-all h (x ∷ xs) = ap (λ y. not (h x) || y) (not-all h xs) ∙ or_nots (h x) (list_all h xs)
  where
    or_nots : (a b : Bool) → (not a || not b) ≡ not (a && b)
    or_nots true b = refl
    or_nots false b = refl

not-any : (h : Thing → Bool) (xs : List Thing) → list_all (λ x. not (h x)) xs ≡ not (list_any h xs)
not-any h [] = refl
not-any h (x ∷ xs) = ap (λ y. not (h x) && y) (not-any h xs) ∙ and_nots (h x) (list_any h xs)
  where
    and_nots : (a b : Bool) → (not a && not b) ≡ not (a || b)
    and_nots true b = refl
    and_nots false b = refl

not-at_least : (m n r c : ℕ) → r + c ≡ m → le_z ((pos m -ℤ pos n) +ℤ pos 1) (pos r) ≡ not (leb n c)
not-at_least m n r c e = grind (arith, nat_tests, ints)

at_most : (m n r c : ℕ) → r + c ≡ m → le_z (pos m -ℤ pos n) (pos r) ≡ leb c n
at_most m n r c e = grind (arith, nat_tests, ints)

not-at_most : (n c : ℕ) → leb (n + 1) c ≡ not (leb c n)
not-at_most n c = grind (arith, nat_tests)

map-length : (xs : List Element) → length xs ≡ length (map thing_of xs)
map-length [] = refl
map-length (x ∷ xs) = ap suc (map-length xs)

pub quantifier-true : (kind : QuantKind) (sign : Bool) (p : ProblemData) (t : Tuple) (h : Thing → Bool) (xs : List Element) (cs : List CondTree) →
    AllStand (manner kind sign) t (due (is_there p t) (absent_truth (manner kind sign)) (λ x. signed (body_sign kind sign) (h x))) xs cs →
    true_on t (quantifier_node kind sign (length xs) cs) ≡ signed sign (quantify kind h (filter (is_there p t) (map thing_of xs)))
quantifier-true ForAll true p t h xs cs e = joined-true true t cs ∙ e ∙ all-present (is_there p t) h (map thing_of xs)
quantifier-true ForAll false p t h xs cs e =
    joined-true false t cs ∙ e ∙ some-present (is_there p t) (λ x. not (h x)) (map thing_of xs) ∙ not-all h (filter (is_there p t) (map thing_of xs))
quantifier-true Exists true p t h xs cs e = joined-true false t cs ∙ e ∙ some-present (is_there p t) h (map thing_of xs)
quantifier-true Exists false p t h xs cs e =
    joined-true true t cs ∙ e ∙ all-present (is_there p t) (λ x. not (h x)) (map thing_of xs) ∙ not-any h (filter (is_there p t) (map thing_of xs))
quantifier-true (AtLeast n) true p t h xs cs e = fold-count t (pos n) cs ∙ ap (λ m. leb n m) (e ∙ holding-present (is_there p t) h (map thing_of xs))
quantifier-true (AtLeast n) false p t h xs cs e =
    let failing = count_by (due (is_there p t) true (λ x. not (h x))) (map thing_of xs) in
    fold-count t ((pos (length xs) -ℤ pos n) +ℤ pos 1) cs ∙ ap (λ m. le_z ((pos (length xs) -ℤ pos n) +ℤ pos 1) (pos m)) e
    ∙ not-at_least (length xs) n failing (count_by h (filter (is_there p t) (map thing_of xs))) (failing-present (is_there p t) h (map thing_of xs) ∙ sym (map-length xs))
quantifier-true (AtMost n) true p t h xs cs e =
    let failing = count_by (due (is_there p t) true (λ x. not (h x))) (map thing_of xs) in
    fold-count t (pos (length xs) -ℤ pos n) cs ∙ ap (λ m. le_z (pos (length xs) -ℤ pos n) (pos m)) e
    ∙ at_most (length xs) n failing (count_by h (filter (is_there p t) (map thing_of xs))) (failing-present (is_there p t) h (map thing_of xs) ∙ sym (map-length xs))
quantifier-true (AtMost n) false p t h xs cs e =
    fold-count t (pos (n + 1)) cs ∙ ap (λ m. leb (n + 1) m) (e ∙ holding-present (is_there p t) h (map thing_of xs)) ∙ not-at_most n (count_by h (filter (is_there p t) (map thing_of xs)))

-- ---- the elements of a collection are those of the meaning

object-thing : (o : ℕ) (a b c : Bool) → thing_of (cond a (gone o) (cond b (split o) (cond c (optional o) (whole (Object o))))) ≡ Object o
object-thing o true b c = refl
object-thing o false true c = refl
object-thing o false false true = refl
object-thing o false false false = refl

element-thing : (p : ProblemData) (asked : Bool) (fix : List Fixing) (x : Thing) → thing_of (element_of p asked fix x) ≡ x
element-thing p asked fix (Number z) = refl
element-thing p asked fix (Object o) = object-thing o (is_gone p fix o) (asked && is_open p fix o) (may_go p fix o)
element-thing p asked fix (Part b) = refl

things-same : (p : ProblemData) (asked : Bool) (fix : List Fixing) (xs : List Thing) → map thing_of (map (element_of p asked fix) xs) ≡ xs
things-same p asked fix [] = refl
things-same p asked fix (x ∷ xs) = λ i. element-thing p asked fix x i ∷ things-same p asked fix xs i

boxes-same : (p : ProblemData) (t : Tuple) (fix : List Fixing) (x : Thing) → IsSettled p t fix x →
    option_map_or (λ o. map Part (boxes_at p o (option_map_or (place_of fix) (object_in x) 1))) (object_in x) [] ≡ boxes_of_thing p t x
boxes-same p t fix (Number z) h = refl
boxes-same p t fix (Part b) h = refl
boxes-same p t fix (Object o) h = ap (λ m. map Part (option_map_or (boxes_of_shape p) m [])) (sym h)

same_itself : (s : Subject) → same_subject s s ≡ true
same_itself (subjects.Variable n) = grind (arith, nat_tests)
same_itself (subjects.Object o) = grind (arith, nat_tests)

pub left_of : (a b : Bool) → a ≡ true → (a || b) ≡ true
left_of a b h = ap (λ x. x || b) h

pub right_of : (a b : Bool) → b ≡ true → (a || b) ≡ true
right_of true b h = refl
right_of false b h = h

things-are : (p : ProblemData) (t : Tuple) (coll : PlainCollTree) (env : PlainEnv) (fix : List Fixing) → IsCovered p t fix env (λ s. coll_needs s coll) → things_of p coll env fix ≡ plain_candidates p t coll env
things-are p t all_objects env fix c = refl
things-are p t (listed os) env fix c = refl
things-are p t (boxes_of s) env fix c = boxes-same p t fix (subject_in s env) (c.at s (same_itself s))

pub candidates-same : (p : ProblemData) (t : Tuple) (asked : Bool) (coll : PlainCollTree) (env : PlainEnv) (fix : List Fixing) → IsCovered p t fix env (λ s. coll_needs s coll) →
    map thing_of (elements_of p asked coll env fix) ≡ plain_candidates p t coll env
candidates-same p t asked coll env fix c = things-same p asked fix (things_of p coll env fix) ∙ things-are p t coll env fix c

pub elements-same : (p : ProblemData) (t : Tuple) (asked : Bool) (coll : PlainCollTree) (env : PlainEnv) (fix : List Fixing) → IsCovered p t fix env (λ s. coll_needs s coll) →
    filter (is_there p t) (map thing_of (elements_of p asked coll env fix)) ≡ plain_elements p t coll env
elements-same p t asked coll env fix c = ap (filter (is_there p t)) (candidates-same p t asked coll env fix c)

-- ---- at each element the body may be grounded

-- the body is grounded where it may be
abbrev pub IsSoundBody : ProblemData → Tuple → List Fixing → PlainEnv → ℕ → (Subject → Bool) → (Thing → Bool) → Body → Type 0
IsSoundBody p t fix env v asks h body =
    (x : Thing) (more : List Fixing) (k : Counts) → Agrees t more → IsCovered p t more (set_variable v x env) asks → OnDone CondTree (body x more k) (λ c. true_on t c ≡ h x)

pub both-true-of : (a b : Bool) → (a && b) ≡ true → (a ≡ true) × (b ≡ true)
both-true-of true b h = (refl, h)
both-true-of false b h = cc

-- an object that is open is there, and the tuple has a place of its list
pub open-places : (p : ProblemData) (t : Tuple) (fix : List Fixing) (o : ℕ) → IsTuple p t → is_open p fix o ≡ true → (1 ≤ (spot t o).place) × ((spot t o).place ≤ place_count (object_of p o))
open-places p t fix o w e =
    let l = several-there p o (both-true-of (has_several p o) (eqb (fixed_place fix o) 0) e).0 in
    (first-place p t o w l, last-place p t o w l)

-- the shape of an object is settled, or it is not asked for
pub settled-or-unasked : (p : ProblemData) (t : Tuple) (fix : List Fixing) (o : ℕ) (asked several : Bool) → (asked && several) ≡ false → is_open p fix o ≡ several → IsTuple p t → Agrees t fix → asked ≡ true → IsSettled p t fix (Object o)
settled-or-unasked p t fix o true several n e w g a = closed-settled p t fix o w g (e ∙ n)
settled-or-unasked p t fix o false several n e w g a = cc

object-goes : (p : ProblemData) (t : Tuple) (fix : List Fixing) (env : PlainEnv) (v : ℕ) (asks : Subject → Bool) (h : Thing → Bool) (body : Body) (o : ℕ) (left asked split_it may : Bool) →
    is_gone p fix o ≡ left → asks (subjects.Variable v) ≡ asked → (asked && is_open p fix o) ≡ split_it → may_go p fix o ≡ may →
    IsTuple p t → Agrees t fix → IsCovered p t fix env asks → IsSoundBody p t fix env v asks h body →
    Goes p t h fix body (cond left (gone o) (cond split_it (split o) (cond may (optional o) (whole (Object o)))))
object-goes p t fix env v asks h body o true asked split_it may l a s m w g c b = gone-absent p t fix o g l
object-goes p t fix env v asks h body o false asked true may l a s m w g c b =
    let places = open-places p t fix o w (both-true-of asked (is_open p fix o) s).1 in (
      places.0,
      places.1,
      (λ q f k. b (Object o) (fixed o q fix) k (agrees-more t fix o q f g)
          (covered-bound p t (fixed o q fix) env v (Object o) asks (λ z. here p t fix o q f (subst (λ n. 1 ≤ n) f places.0))
          (covered-more p t fix env o q asks f (subst (λ n. 1 ≤ n) f places.0) c))),
    )
object-goes p t fix env v asks h body o false asked false true l a s m w g c b = (
  (both-true-of (object_of p o).may_be_absent (eqb (fixed_place fix o) 0) m).0,
  (λ k. b (Object o) fix k g (covered-bound p t fix env v (Object o) asks (λ q. settled-or-unasked p t fix o asked (is_open p fix o) s refl w g (sym a ∙ q)) c)),
)
object-goes p t fix env v asks h body o false asked false false l a s m w g c b = (
  whole-there p t fix o g l m,
  (λ k. b (Object o) fix k g (covered-bound p t fix env v (Object o) asks (λ q. settled-or-unasked p t fix o asked (is_open p fix o) s refl w g (sym a ∙ q)) c)),
)

pub elements-go : (p : ProblemData) (t : Tuple) (coll : PlainCollTree) (fix : List Fixing) (env : PlainEnv) (v : ℕ) (asks : Subject → Bool) (h : Thing → Bool) (body : Body) →
    IsTuple p t → Agrees t fix → IsCovered p t fix env asks → IsSoundBody p t fix env v asks h body → Each (Goes p t h fix body) (elements_of p (asks (subjects.Variable v)) coll env fix)
elements-go p t coll fix env v asks h body w g c b = each (things_of p coll env fix)
  where
    one : (x : Thing) → Goes p t h fix body (element_of p (asks (subjects.Variable v)) fix x)
    one (Number z) = (refl, λ k. b (Number z) fix k g (covered-bound p t fix env v (Number z) asks (λ q. tt) c))
    one (Object o) = object-goes p t fix env v asks h body o (is_gone p fix o) (asks (subjects.Variable v)) (asks (subjects.Variable v) && is_open p fix o) (may_go p fix o) refl refl refl refl w g c b
    one (Part x) = (refl, λ k. b (Part x) fix k g (covered-bound p t fix env v (Part x) asks (λ q. tt) c))

    each : (xs : List Thing) → Each (Goes p t h fix body) (map (element_of p (asks (subjects.Variable v)) fix) xs)
    each [] = tt
    each (x ∷ xs) = (one x, each xs)

-- ---- operands

-- what operands mean together, from the left
abbrev meant : Bool → Bool → ProblemData → Tuple → PlainFormulas → PlainEnv → Bool
meant all sign p t no_formulas env = all
meant all sign p t (a_formula f rest) env = junction all (signed sign (plain_holds p t f env)) (meant all sign p t rest env)

meant-and : (sign : Bool) (p : ProblemData) (t : Tuple) (fs : PlainFormulas) (env : PlainEnv) → meant sign sign p t fs env ≡ signed sign (plain_all p t fs env)
meant-and true p t no_formulas env = refl
meant-and false p t no_formulas env = refl
meant-and true p t (a_formula f rest) env = ap (λ x. plain_holds p t f env && x) (meant-and true p t rest env)
meant-and false p t (a_formula f rest) env = ap (λ x. not (plain_holds p t f env) || x) (meant-and false p t rest env) ∙ or_nots (plain_holds p t f env) (plain_all p t rest env)
  where
    or_nots : (a b : Bool) → (not a || not b) ≡ not (a && b)
    or_nots true b = refl
    or_nots false b = refl

meant-or : (sign : Bool) (p : ProblemData) (t : Tuple) (fs : PlainFormulas) (env : PlainEnv) → meant (not sign) sign p t fs env ≡ signed sign (plain_some p t fs env)
meant-or true p t no_formulas env = refl
meant-or false p t no_formulas env = refl
meant-or true p t (a_formula f rest) env = ap (λ x. plain_holds p t f env || x) (meant-or true p t rest env)
meant-or false p t (a_formula f rest) env = ap (λ x. not (plain_holds p t f env) && x) (meant-or false p t rest env) ∙ and_nots (plain_holds p t f env) (plain_some p t rest env)
  where
    and_nots : (a b : Bool) → (not a && not b) ≡ not (a || b)
    and_nots true b = refl
    and_nots false b = refl

signed-not : (sign b : Bool) → signed (not sign) b ≡ signed sign (not b)
signed-not true b = refl
signed-not false true = refl
signed-not false false = refl

truth-signed : (sign : Bool) → sign ≡ signed sign true
truth-signed true = refl
truth-signed false = refl

falsehood-signed : (sign : Bool) → not sign ≡ signed sign false
falsehood-signed true = refl
falsehood-signed false = refl

-- two operands, the second left out where the first decides
pub in_turn-on : (all : Bool) (t : Tuple) (first second : Counts → Outcome CondTree) (a b : Bool) (k : Counts) → OnDone CondTree (first k) (λ c. true_on t c ≡ a) → ((j : Counts) → OnDone CondTree (second j) (λ c. true_on t c ≡ b)) →
    OnDone CondTree (in_turn all first second k) (λ c. true_on t c ≡ junction all a b)
in_turn-on all t first second a b k f g =
    on_then CondTree CondTree _ _ _ _ f (λ c k' e.
    on_either CondTree (decides all c) _ _ _
    (λ h. on_done CondTree (joined all (c ∷ [])) k' _ (joined-true all t (c ∷ []) ∙ junction-decided all (true_on t c) all b (decided all t c h) ∙ ap (λ x. junction all x b) e))
    (λ h. on_then CondTree CondTree _ _ _ _ (g k') (λ d k'' i.
    on_done CondTree (joined all (c ∷ (d ∷ []))) k'' _ (joined-true all t (c ∷ (d ∷ [])) ∙ junction_join all _ _ _ _ e (junction-all all (true_on t d) ∙ i)))))

implied : (sign a b : Bool) → junction (not sign) (signed (not sign) a) (signed sign b) ≡ signed sign (not a || b)
implied true a b = refl
implied false true b = refl
implied false false b = refl

same : (sign a b : Bool) → junction false (junction true (signed true a) (signed sign b)) (junction true (signed false a) (signed (not sign) b)) ≡ signed sign (same_truth a b)
same true true true = refl
same true true false = refl
same true false true = refl
same true false false = refl
same false true true = refl
same false true false = refl
same false false true = refl
same false false false = refl

-- neither of two
pub neither : (a b : Bool) → (a || b) ≡ false → (a ≡ false) × (b ≡ false)
neither true b h = cc
neither false b h = (refl, h)

mutual
  pub ground-sound : (p : ProblemData) (t : Tuple) (f : PlainFormulaTree) (sign : Bool) (env : PlainEnv) (fix : List Fixing) (k : Counts) →
      IsTuple p t → formula_breaks f ≡ false → Agrees t fix → IsCovered p t fix env (λ s. needs s f) →
      OnDone CondTree (ground p f sign env fix k) (λ c. true_on t c ≡ signed sign (plain_holds p t f env))
  ground-sound p t truth sign env fix k w b a c = on_any Counts CondTree _ _ _ (λ k' j. on_done CondTree (certain sign) _ _ (certain-true t sign ∙ truth-signed sign))
  ground-sound p t falsehood sign env fix k w b a c = on_any Counts CondTree _ _ _ (λ k' j. on_done CondTree (certain (not sign)) _ _ (certain-true t (not sign) ∙ falsehood-signed sign))
  ground-sound p t (negation f) sign env fix k w b a c =
      weaker t (ground p f (not sign) env fix k) _ _ (signed-not sign (plain_holds p t f env)) (ground-sound p t f (not sign) env fix k w b a (narrowed p t fix env _ _ (λ s e. e) c))
  ground-sound p t (all_of fs) sign env fix k w b a c =
      on_then (List CondTree) CondTree _ _ _ _ (operands-sound p t fs sign sign env fix k w b a (narrowed p t fix env _ _ (λ s e. e) c)) (λ cs k' e.
      on_done CondTree (joined sign cs) _ _ (joined-true sign t cs ∙ e ∙ meant-and sign p t fs env))
  ground-sound p t (any_of fs) sign env fix k w b a c =
      on_then (List CondTree) CondTree _ _ _ _ (operands-sound p t fs (not sign) sign env fix k w b a (narrowed p t fix env _ _ (λ s e. e) c)) (λ cs k' e.
      on_done CondTree (joined (not sign) cs) _ _ (joined-true (not sign) t cs ∙ e ∙ meant-or sign p t fs env))
  ground-sound p t (implication f g) sign env fix k w b a c =
      let n = neither (formula_breaks f) (formula_breaks g) b in
      weaker t (ground p (implication f g) sign env fix k) _ _ (implied sign (plain_holds p t f env) (plain_holds p t g env))
      (in_turn-on (not sign) t (λ j. ground p f (not sign) env fix j) (λ j. ground p g sign env fix j) (signed (not sign) (plain_holds p t f env)) (signed sign (plain_holds p t g env)) k
      (ground-sound p t f (not sign) env fix k w n.0 a (narrowed p t fix env _ _ (λ s e. left_of (needs s f) (needs s g) e) c))
      (λ j. ground-sound p t g sign env fix j w n.1 a (narrowed p t fix env _ _ (λ s e. right_of (needs s f) (needs s g) e) c)))
  ground-sound p t (equivalence f g) sign env fix k w b a c =
      let n = neither (formula_breaks f) (formula_breaks g) b in
      let cf = narrowed p t fix env (λ s. needs s f) _ (λ s e. left_of (needs s f) (needs s g) e) c in
      let cg = narrowed p t fix env (λ s. needs s g) _ (λ s e. right_of (needs s f) (needs s g) e) c in
      weaker t (ground p (equivalence f g) sign env fix k) _ _ (same sign (plain_holds p t f env) (plain_holds p t g env))
      (in_turn-on false t
      (λ j. in_turn true (λ i. ground p f true env fix i) (λ i. ground p g sign env fix i) j)
      (λ j. in_turn true (λ i. ground p f false env fix i) (λ i. ground p g (not sign) env fix i) j)
      (junction true (signed true (plain_holds p t f env)) (signed sign (plain_holds p t g env)))
      (junction true (signed false (plain_holds p t f env)) (signed (not sign) (plain_holds p t g env))) k
      (in_turn-on true t (λ i. ground p f true env fix i) (λ i. ground p g sign env fix i) (signed true (plain_holds p t f env)) (signed sign (plain_holds p t g env)) k
      (ground-sound p t f true env fix k w n.0 a cf) (λ i. ground-sound p t g sign env fix i w n.1 a cg))
      (λ j. in_turn-on true t (λ i. ground p f false env fix i) (λ i. ground p g (not sign) env fix i) (signed false (plain_holds p t f env)) (signed (not sign) (plain_holds p t g env)) j
      (ground-sound p t f false env fix j w n.0 a cf) (λ i. ground-sound p t g (not sign) env fix i w n.1 a cg)))
  ground-sound p t (comparison x rel y) sign env fix k w b a c =
      let n = neither (expr_breaks x) (expr_breaks y) b in
      weaker t (ground p (comparison x rel y) sign env fix k) _ _ (under-compare sign rel (plain_value p t x env) (plain_value p t y env))
      (compare-true p t fix env w x (under sign rel) y k
      (narrowed p t fix env _ _ (λ s e. left_of (expr_needs s x) (expr_needs s y) e) c)
      (narrowed p t fix env _ _ (λ s e. right_of (expr_needs s x) (expr_needs s y) e) c) n.0 n.1)
  ground-sound p t (quantified kind v coll f) sign env fix k w b a c =
      let h : Thing → Bool = λ x. plain_holds p t f (set_variable v x env) in
      let xs = elements_of p (needs (subjects.Variable v) f) coll env fix in
      let body : Body = λ x more j. ground p f (body_sign kind sign) (set_variable v x env) more j in
      on_any Counts CondTree _ _ _ (λ k' j.
      on_then (List CondTree) CondTree _ _ _ _
      (elements-stand p (manner kind sign) t (λ x. signed (body_sign kind sign) (h x)) fix body xs
      (elements-go p t coll fix env v (λ s. needs s f) (λ x. signed (body_sign kind sign) (h x)) body w a
      (narrowed p t fix env _ _ (λ s e. right_of (coll_needs s coll) (needs s f) e) c)
      (λ x more i g d. ground-sound p t f (body_sign kind sign) (set_variable v x env) more i w b g d))
      k')
      (λ cs k'' e. on_done CondTree (quantifier_node kind sign (length xs) cs) _ _
      (quantifier-true kind sign p t h xs cs e
      ∙ ap (λ l. signed sign (quantify kind h l)) (elements-same p t (needs (subjects.Variable v) f) coll env fix (narrowed p t fix env _ _ (λ s i. left_of (coll_needs s coll) (needs s f) i) c)))))

  operands-sound : (p : ProblemData) (t : Tuple) (fs : PlainFormulas) (all sign : Bool) (env : PlainEnv) (fix : List Fixing) (k : Counts) →
      IsTuple p t → formulas_break fs ≡ false → Agrees t fix → IsCovered p t fix env (λ s. some_needs s fs) →
      OnDone (List CondTree) (ground_operands p fs all sign env fix k) (λ cs. joint all t cs ≡ meant all sign p t fs env)
  operands-sound p t no_formulas all sign env fix k w b a c = on_done (List CondTree) [] _ _ refl
  operands-sound p t (a_formula f rest) all sign env fix k w b a c =
      let n = neither (formula_breaks f) (formulas_break rest) b in
      on_then CondTree (List CondTree) _ _ _ _ (ground-sound p t f sign env fix k w n.0 a (narrowed p t fix env _ _ (λ s e. left_of (needs s f) (some_needs s rest) e) c)) (λ d k' e.
      on_either (List CondTree) (decides all d) _ _ _
      (λ h. on_done (List CondTree) (d ∷ []) _ _
      (junction-decided all (true_on t d) all (meant all sign p t rest env) (decided all t d h) ∙ ap (λ x. junction all x (meant all sign p t rest env)) e))
      (λ h. on_then (List CondTree) (List CondTree) _ _ _ _ (operands-sound p t rest all sign env fix k' w n.1 a (narrowed p t fix env _ _ (λ s e. right_of (needs s f) (some_needs s rest) e) c)) (λ ds k'' i.
      on_done (List CondTree) (d ∷ ds) _ _ (junction_join all _ _ _ _ e i))))
