-- Grounding: from a formula without macros to a condition, with what is counted and the faults.
use Rattle.std.specs.Prelude.{ℕ, ◌+◌, ◌==◌, ◌&&◌, ◌||◌, not, Bool, true, false, if◌then◌else◌, List, [], ◌∷◌, ◌++◌, map, length, pos, ◌+ℤ◌, ◌-ℤ◌}
use Rattle.std.specs.List.{filter, range_with_len}
use Rattle.std.specs.Option.{option_map_or}
use Rattle.rule_syntax.specs.declared.tree.QuantKind.{QuantKind}
use Rattle.rule_syntax.specs.declared.tree.QuantKind.TheVariants.{ForAll, Exists, AtLeast, AtMost}
use Rattle.problem_data.specs.Problem.{ProblemData}
use Rattle.problem_data.specs.Tuple.{object_of}
use Rattle.problem_data.specs.Value.{Thing, Number, Object, Part}
use Rattle.rule_expand.specs.declared.plain.Subject.{Subject}
use Rattle.rule_expand.specs.declared.plain.Subject.TheVariants as subjects
use Rattle.rule_expand.specs.Plain.{PlainCollTree, all_objects, listed, boxes_of, PlainFormulaTree, truth, falsehood, negation, all_of, any_of, implication, equivalence, comparison, quantified, PlainFormulas, no_formulas, a_formula}
use Rattle.rule_expand.specs.PlainTruth.{PlainEnv, set_variable}
use Rattle.linear_conditions.specs.CondTree.{CondTree, shape_is, shape_is_not}
use Rattle.linear_conditions.specs.Fixings.{Fixing, fixed_place, place_of}
use Rattle.linear_conditions.specs.Settled.{same_subject, expr_needs}
use Rattle.linear_conditions.specs.Leaves.{under}
use Rattle.linear_conditions.specs.Folding.{certain, fold_count, joined, decides}
use Rattle.problem_data.specs.Places.{absent_place, is_absent_at}
use Rattle.linear_conditions.specs.Counts.{Counts, Outcome, Done, and_then, either_way, within_limits, one_visit, one_leaf, visit}
use Rattle.linear_conditions.specs.Compare.{ground_compare}
use Rattle.rule_values.specs.Elements.{owner_of, elements_at}
use Rattle.rule_ground.specs.Shapes.{places, shape_places, has_several}
use Rattle.rule_ground.specs.declared.quantifiers.Manner.{Manner}
use Rattle.rule_ground.specs.declared.quantifiers.Manner.TheVariants.{All, One, Holding, Failing}

-- ---- where a formula asks for the shape of an object: by its number, or by its boxes

abbrev pub coll_needs : Subject → PlainCollTree → Bool
coll_needs s all_objects = false
coll_needs s (listed os) = false
coll_needs s (boxes_of u) = same_subject s u

abbrev mutual
  pub needs : Subject → PlainFormulaTree → Bool
  needs s truth = false
  needs s falsehood = false
  needs s (negation f) = needs s f
  needs s (all_of fs) = some_needs s fs
  needs s (any_of fs) = some_needs s fs
  needs s (implication f g) = needs s f || needs s g
  needs s (equivalence f g) = needs s f || needs s g
  needs s (comparison a rel b) = expr_needs s a || expr_needs s b
  needs s (quantified kind v coll f) = coll_needs s coll || needs s f

  pub some_needs : Subject → PlainFormulas → Bool
  some_needs s no_formulas = false
  some_needs s (a_formula f rest) = needs s f || some_needs s rest

-- ---- elements

-- an element of a quantifier: a thing as it is; an object that is looked at with each of its shapes;
-- one that may be absent, and whose shape is not asked for; or one that is fixed as absent
pub data Element : Type 0 where
  whole : Thing → Element
  split : ℕ → Element
  optional : ℕ → Element
  gone : ℕ → Element

-- the place of the object is still open
abbrev pub is_open : ProblemData → List Fixing → ℕ → Bool
is_open p fix o = has_several p o && (fixed_place fix o == 0)

-- it may still be absent
abbrev pub may_go : ProblemData → List Fixing → ℕ → Bool
may_go p fix o = (object_of p o).may_be_absent && (fixed_place fix o == 0)

-- it is fixed as absent
abbrev pub is_gone : ProblemData → List Fixing → ℕ → Bool
is_gone p fix o = is_absent_at (object_of p o) (fixed_place fix o)

-- the things that a variable ranges over, with the shape that is taken for the object whose boxes they are
abbrev pub things_of : ProblemData → PlainCollTree → PlainEnv → List Fixing → List Thing
things_of p coll env fix = elements_at p (option_map_or (place_of fix) (owner_of coll env) 1) coll env

-- an object, where its shape is asked for or not
abbrev pub object_element : ProblemData → Bool → List Fixing → ℕ → Element
object_element p asked fix o =
    if is_gone p fix o then gone o
    else if asked && is_open p fix o then split o
    else if may_go p fix o then optional o
    else whole (Object o)

abbrev pub element_of : ProblemData → Bool → List Fixing → Thing → Element
element_of p asked fix (Number z) = whole (Number z)
element_of p asked fix (Object o) = object_element p asked fix o
element_of p asked fix (Part b) = whole (Part b)

abbrev pub elements_of : ProblemData → Bool → PlainCollTree → PlainEnv → List Fixing → List Element
elements_of p asked coll env fix = map (element_of p asked fix) (things_of p coll env fix)

-- ---- steps one after another

-- what each of several gives, in their order
abbrev pub gather : {A B : Type 0} → (A → Counts → Outcome (List B)) → List A → Counts → Outcome (List B)
gather {A} {B} go [] k = Done [] k
gather {A} {B} go (x ∷ xs) k =
    and_then (List B) (List B) (go x k) (λ bs k'.
    and_then (List B) (List B) (gather go xs k') (λ cs k''. Done (bs ++ cs) k''))

-- one of several
abbrev pub alone : Outcome CondTree → Outcome (List CondTree)
alone o = and_then CondTree (List CondTree) o (λ c k. Done (c ∷ []) k)

-- two operands, all or one of which must hold. The second is left out where the first decides
abbrev pub in_turn : Bool → (Counts → Outcome CondTree) → (Counts → Outcome CondTree) → Counts → Outcome CondTree
in_turn all first second k =
    and_then CondTree CondTree (first k) (λ c k'.
    either_way CondTree (decides all c) (Done (joined all (c ∷ [])) k')
    (and_then CondTree CondTree (second k') (λ d k''. Done (joined all (c ∷ (d ∷ []))) k'')))

-- ---- quantifiers

-- how children come together, under plus (true) or minus: in a count those that hold are counted, or
-- those that fail
abbrev pub manner : QuantKind → Bool → Manner
manner ForAll sign = if sign then All else One
manner Exists sign = if sign then One else All
manner (AtLeast n) sign = if sign then Holding else Failing
manner (AtMost n) sign = if sign then Failing else Holding

abbrev pub is_counted : Manner → Bool
is_counted All = false
is_counted One = false
is_counted Holding = true
is_counted Failing = true

-- whether a child that holds, or does not, is idle: it changes nothing of what the others say
abbrev pub is_idle : Manner → Bool → Bool
is_idle All holds = holds
is_idle One holds = not holds
is_idle Holding holds = not holds
is_idle Failing holds = not holds

-- the sign of the body: that at most so many hold is said of those that do not
abbrev pub body_sign : QuantKind → Bool → Bool
body_sign (AtMost n) sign = not sign
body_sign kind sign = sign

-- the condition of m elements, from its children
abbrev pub quantifier_node : QuantKind → Bool → ℕ → List CondTree → CondTree
quantifier_node ForAll sign m cs = joined sign cs
quantifier_node Exists sign m cs = joined (not sign) cs
quantifier_node (AtLeast n) true m cs = fold_count (pos n) cs
quantifier_node (AtLeast n) false m cs = fold_count ((pos m -ℤ pos n) +ℤ pos 1) cs
quantifier_node (AtMost n) true m cs = fold_count (pos m -ℤ pos n) cs
quantifier_node (AtMost n) false m cs = fold_count (pos (n + 1)) cs

-- grounding of a body at an element, with the shapes that are fixed
abbrev pub Body : Type 0
Body = Thing → List Fixing → Counts → Outcome CondTree

-- what an absent object is to the others: nothing that could decide for them
abbrev pub absent_truth : Manner → Bool
absent_truth All = true
absent_truth One = false
absent_truth Holding = false
absent_truth Failing = true

-- the child of an object with its shape at the place s: the object has another shape, or the body holds; where one child is
-- enough, the object has this shape, and the body holds
abbrev pub shape_child : Manner → ℕ → ℕ → CondTree → CondTree
shape_child All o s c = fold_count (pos 1) (shape_is_not o s ∷ (c ∷ []))
shape_child One o s c = fold_count (pos 2) (shape_is o s ∷ (c ∷ []))
shape_child Holding o s c = fold_count (pos 2) (shape_is o s ∷ (c ∷ []))
shape_child Failing o s c = fold_count (pos 2) (shape_is o s ∷ (c ∷ []))

-- the child of an object that is absent at the place s: it is absent, or the body holds; or, where
-- an absent one is as one that fails, it is not, and the body holds
abbrev pub optional_child : Manner → ℕ → ℕ → CondTree → CondTree
optional_child m o s c =
    if absent_truth m then fold_count (pos 1) (shape_is o s ∷ (c ∷ []))
    else fold_count (pos 2) (shape_is_not o s ∷ (c ∷ []))

-- its visit and the leaf of its shape are counted before its body
abbrev pub ground_place : Body → Manner → List Fixing → ℕ → ℕ → Counts → Outcome CondTree
ground_place body m fix o s k =
    and_then Counts CondTree (within_limits (one_leaf (one_visit k))) (λ k' same.
    and_then CondTree CondTree (body (Object o) (record { object = o; place = s } ∷ fix) k') (λ c k''. Done (shape_child m o s c) k''))

-- at each of the places
abbrev pub ground_places : Body → Manner → List Fixing → ℕ → List ℕ → Counts → Outcome (List CondTree)
ground_places body m fix o ss k = gather (λ s j. alone (ground_place body m fix o s j)) ss k

-- one part more, a leaf: that the object is absent, where that counts
abbrev pub add_absence : ProblemData → Manner → ℕ → List CondTree → Counts → Outcome (List CondTree)
add_absence p m o cs k =
    if absent_truth m && (object_of p o).may_be_absent
    then and_then Counts (List CondTree) (within_limits (one_leaf k))
    (λ k' same. Done (cs ++ (shape_is o (absent_place (object_of p o)) ∷ [])) k')
    else Done cs k

-- in a count the children of an object's shapes are one child together
abbrev pub ground_group : ProblemData → Body → Manner → List Fixing → ℕ → Counts → Outcome CondTree
ground_group p body m fix o k =
    and_then (List CondTree) CondTree (ground_places body m fix o (shape_places p o) k) (λ cs k'.
    and_then (List CondTree) CondTree (add_absence p m o cs k') (λ ds k''. Done (joined false ds) k''))

-- the children of a split
abbrev pub ground_split : ProblemData → Body → Manner → List Fixing → ℕ → Counts → Outcome (List CondTree)
ground_split p body m fix o k =
    if is_counted m then alone (ground_group p body m fix o k)
    else ground_places body m fix o (shape_places p o) k

-- a visit, and then the body
abbrev pub ground_whole : Body → List Fixing → Thing → Counts → Outcome CondTree
ground_whole body fix x k = and_then Counts CondTree (visit k) (λ k' same. body x fix k')

-- the visit and the leaf of its absence are counted before the body
abbrev pub ground_optional : ProblemData → Body → Manner → List Fixing → ℕ → Counts → Outcome CondTree
ground_optional p body m fix o k =
    and_then Counts CondTree (within_limits (one_leaf (one_visit k))) (λ k' same.
    and_then CondTree CondTree (body (Object o) fix k') (λ c k''. Done (optional_child m o (absent_place (object_of p o)) c) k''))

-- a visit, and no body
abbrev pub ground_gone : Manner → Counts → Outcome CondTree
ground_gone m k = and_then Counts CondTree (visit k) (λ k' same. Done (certain (absent_truth m)) k')

abbrev pub ground_element : ProblemData → Body → Manner → List Fixing → Element → Counts → Outcome (List CondTree)
ground_element p body m fix (whole x) k = alone (ground_whole body fix x k)
ground_element p body m fix (split o) k = ground_split p body m fix o k
ground_element p body m fix (optional o) k = alone (ground_optional p body m fix o k)
ground_element p body m fix (gone o) k = alone (ground_gone m k)

-- all of the elements are looked at
abbrev pub ground_elements : ProblemData → Body → Manner → List Fixing → List Element → Counts → Outcome (List CondTree)
ground_elements p body m fix xs k = gather (ground_element p body m fix) xs k

-- ---- formulas

abbrev mutual
  -- the condition of a formula under plus (true) or minus
  pub ground : ProblemData → PlainFormulaTree → Bool → PlainEnv → List Fixing → Counts → Outcome CondTree
  ground p truth sign env fix k = and_then Counts CondTree (visit k) (λ k' same. Done (certain sign) k')
  ground p falsehood sign env fix k = and_then Counts CondTree (visit k) (λ k' same. Done (certain (not sign)) k')
  ground p (negation f) sign env fix k = ground p f (not sign) env fix k
  ground p (all_of fs) sign env fix k =
      and_then (List CondTree) CondTree (ground_operands p fs sign sign env fix k) (λ cs k'. Done (joined sign cs) k')
  ground p (any_of fs) sign env fix k =
      and_then (List CondTree) CondTree (ground_operands p fs (not sign) sign env fix k) (λ cs k'. Done (joined (not sign) cs) k')
  -- [not f] or g
  ground p (implication f g) sign env fix k =
      in_turn (not sign) (λ j. ground p f (not sign) env fix j) (λ j. ground p g sign env fix j) k
  -- [f and g] or [not f and not g]; under minus [f and not g] or [not f and g]
  ground p (equivalence f g) sign env fix k =
      in_turn false
      (λ j. in_turn true (λ i. ground p f true env fix i) (λ i. ground p g sign env fix i) j)
      (λ j. in_turn true (λ i. ground p f false env fix i) (λ i. ground p g (not sign) env fix i) j) k
  ground p (comparison a rel b) sign env fix k = ground_compare p a (under sign rel) b env fix k
  ground p (quantified kind v coll f) sign env fix k =
      and_then Counts CondTree (visit k) (λ k' same.
      let xs = elements_of p (needs (subjects.Variable v) f) coll env fix in
      and_then (List CondTree) CondTree
      (ground_elements p (λ x more j. ground p f (body_sign kind sign) (set_variable v x env) more j) (manner kind sign) fix xs k')
      (λ cs k''. Done (quantifier_node kind sign (length xs) cs) k''))

  -- operands from the left, up to the first that decides
  pub ground_operands : ProblemData → PlainFormulas → Bool → Bool → PlainEnv → List Fixing → Counts → Outcome (List CondTree)
  ground_operands p no_formulas all sign env fix k = Done [] k
  ground_operands p (a_formula f rest) all sign env fix k =
      and_then CondTree (List CondTree) (ground p f sign env fix k) (λ c k'.
      either_way (List CondTree) (decides all c) (Done (c ∷ []) k')
      (and_then (List CondTree) (List CondTree) (ground_operands p rest all sign env fix k') (λ cs k''. Done (c ∷ cs) k'')))

-- operands that come together: all or one of them must hold
abbrev pub joined_operands : ProblemData → PlainFormulas → Bool → Bool → PlainEnv → List Fixing → Counts → Outcome CondTree
joined_operands p fs all sign env fix k =
    and_then (List CondTree) CondTree (ground_operands p fs all sign env fix k) (λ cs j. Done (joined all cs) j)

-- ---- the objects that a formula names itself

-- the objects whose shapes it asks for by their names, in file order
abbrev pub named_objects : ProblemData → PlainFormulaTree → List ℕ
named_objects p f = filter (λ o. needs (subjects.Object o) f) (range_with_len 0 (length p.objects))

-- one of them, with each of its places, where its place is open
abbrev pub ground_object : ProblemData → Body → List Fixing → ℕ → Counts → Outcome CondTree
ground_object p body fix o k =
    if is_open p fix o
    then and_then (List CondTree) CondTree (ground_places body All fix o (places p o) k)
    (λ cs k'. Done (joined true cs) k')
    else and_then Counts CondTree (visit k) (λ k' same.
    and_then CondTree CondTree (body (Object o) fix k') (λ c j. Done (joined true (c ∷ [])) j))

-- as if a `forall` over each of them alone stood before the formula
abbrev pub ground_named : ProblemData → List ℕ → PlainFormulaTree → List Fixing → Counts → Outcome CondTree
ground_named p [] f fix k = ground p f true [] fix k
ground_named p (o ∷ rest) f fix k =
    and_then Counts CondTree (visit k) (λ k' same. ground_object p (λ x more j. ground_named p rest f more j) fix o k')
