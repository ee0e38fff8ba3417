-- Where a formula has a condition, its evaluation is calm on each tuple.
use Rattle.std.proofs.Common.{◌≡◌, ◌⊎◌, inl, inr, ℕ, zero, suc, ◌+◌, ◌<◌, ◌≤◌, eqb, leb, ◌&&◌, Bool, true, false, cond, not, List, [], ◌∷◌, map, length, sym, ap, ◌∙◌, refl, arith, subst, tests}
use Rattle.std.specs.List.{range_with_len, list_all}
use Rattle.std.proofs.Math.Logic.{⊎_elim}
use Rattle.std.proofs.lemmas.Bool.{false≢true}
use Rattle.std.proofs.lemmas.Bool.Decides.{nat_tests}
use Rattle.geo_base.specs.Tuple.{Tuple, spot}
use Rattle.rule_syntax.specs.declared.tree.Rel.{Rel}
use Rattle.problem_data.specs.Problem.{ProblemData}
use Rattle.problem_data.specs.Tuple.{object_of}
use Rattle.problem_data.specs.Value.{Thing, Number, Object, Part}
use Rattle.problem_data.specs.Cells.{IsTuple}
use Rattle.problem_data.specs.WellFormed.{IsWellFormed}
use Rattle.rule_expand.specs.declared.plain.Subject.{Subject}
use Rattle.rule_expand.specs.declared.plain.Subject.TheVariants as subjects
use Rattle.rule_expand.specs.Plain.{PlainExprTree, PlainCollTree, PlainFormulaTree, truth, falsehood, negation, all_of, any_of, implication, equivalence, comparison, quantified, PlainFormulas, no_formulas, a_formula}
use Rattle.rule_expand.specs.PlainTruth.{PlainEnv, set_variable, plain_candidates, plain_holds}
use Rattle.rule_expand.specs.Counts.{expr_nodes, nodes, nodes_in}
use Rattle.rule_expand.specs.Degree.{expr_breaks, formula_breaks, formulas_break}
use Rattle.rule_values.specs.Calm.{IsTame, IsCalm, AllCalm, SomeCalm}
use Rattle.rule_values.specs.Elements.{element_at}
use Rattle.linear_conditions.specs.CondTree.{CondTree, true_on}
use Rattle.linear_conditions.specs.Fixings.{Fixing}
use Rattle.linear_conditions.specs.Settled.{Agrees, IsCovered, signed, expr_needs}
use Rattle.linear_conditions.specs.Leaves.{under, difference, leaves_of, leaf_fits}
use Rattle.linear_conditions.specs.Folding.{joined, decides}
use Rattle.linear_conditions.specs.Forms.{sum_of_expr, fits_expr, fits_sum}
use Rattle.linear_conditions.specs.Counts.{Counts, Outcome, Done, OnDone, and_then, visit}
use Rattle.linear_conditions.specs.Compare.{ground_compare}
use Rattle.linear_conditions.proofs.Junctions.{junction, decided}
use Rattle.linear_conditions.proofs.Outcomes.{on_done, on_then, on_any, on_either, on_allowed}
use Rattle.linear_conditions.proofs.Tame.{both, expr-tame}
use Rattle.problem_data.specs.Places.{place_count}
use Rattle.problem_data.specs.Truth.{is_there}
use Rattle.rule_ground.specs.Shapes.{places, shape_places}
use Rattle.rule_ground.specs.Grounding.{coll_needs, needs, some_needs, Element, whole, split, optional, gone, is_open, is_gone, may_go, things_of, element_of, elements_of, alone, in_turn, manner, is_counted, body_sign, Body, ground_place, ground_places, ground_group, ground_element, ground_elements, ground, ground_operands, named_objects, ground_named}
use Rattle.rule_ground.specs.declared.quantifiers.Manner.{Manner}
use Rattle.rule_ground.specs.declared.quantifiers.Manner.TheVariants.{All}
use Rattle.rule_ground.proofs.Settled.{narrowed, closed-settled, gone-absent, fixed, here, agrees-more, covered-more, covered-bound}
use Rattle.rule_ground.proofs.Sound.{Each, each-map, each-of, gather-on, thing_of, shape-there, both-true-of, open-places, settled-or-unasked, candidates-same, in_turn-on, ground-sound, neither, left_of, right_of}
use Rattle.rule_ground.proofs.NamedSound.{IsOwed, owed-whole, owed-split, all-settled, there}

-- two facts of one result
together : (A : Type 0) (o : Outcome A) (P Q : A → Type 0) → OnDone A o P → OnDone A o Q → OnDone A o (λ a. P a × Q a)
together A o P Q f g = record { get = λ a k e. (f.get a k e, g.get a k e) }

eased : (A : Type 0) (o : Outcome A) (P Q : A → Type 0) → ((a : A) → P a → Q a) → OnDone A o P → OnDone A o Q
eased A o P Q h f = record { get = λ a k e. h a (f.get a k e) }

-- ---- elements

-- what is known of an element, and of the body at it: at a split with the tuple's own place
abbrev CalmAt : ProblemData → Tuple → (Thing → Type 0) → List Fixing → Body → Element → Type 0
CalmAt p t C fix body (whole x) = (k : Counts) → OnDone CondTree (body x fix k) (λ c. C x)
CalmAt p t C fix body (split o) =
    (1 ≤ (spot t o).place) × ((spot t o).place ≤ place_count (object_of p o))
    × ((s : ℕ) → (spot t o).place ≡ s → (k : Counts) → OnDone CondTree (body (Object o) (fixed o s fix) k) (λ c. C (Object o)))
CalmAt p t C fix body (optional o) = (k : Counts) → OnDone CondTree (body (Object o) fix k) (λ c. C (Object o))
CalmAt p t C fix body (gone o) = is_there p t (Object o) ≡ false

abbrev Among : ℕ → List ℕ → Type 0
Among n [] = ⊥
Among n (s ∷ ss) = (n ≡ s) ⊎ Among n ss

among-range : (n a count : ℕ) → a ≤ n → n < a + count → Among n (range_with_len a count)
among-range n a zero h l = absurd (omega arith)
among-range n a (suc count) h l = ⊎_elim (λ e. inl e) (λ d. inr (among-range n (a + 1) count d (omega arith))) (first n a h)
  where
    first : (m b : ℕ) → b ≤ m → (m ≡ b) ⊎ (b + 1 ≤ m)
    first m b i = split_at (eqb m b) refl
      where
        split_at : (e : Bool) → eqb m b ≡ e → (m ≡ b) ⊎ (b + 1 ≤ m)
        split_at true e = inl (grind (arith, tests))
        split_at false e = inr (let d : m ≡ b → ⊥ = grind (arith, tests) in omega arith)

-- a place of the object's shapes, where it is there
shape-place : (p : ProblemData) (t : Tuple) (o : ℕ) → (spot t o).place ≤ place_count (object_of p o) → is_there p t (Object o) ≡ true → (spot t o).place ≤ length (object_of p o).shapes
shape-place p t o h e =
    let may = (object_of p o).may_be_absent in
    let n = length (object_of p o).shapes in
    let l : leb (spot t o).place n ≡ true = shape-there may (spot t o).place n h ∙ e in
    grind (arith, nat_tests)

module _ (p : ProblemData) (t : Tuple) (m : Manner) (C : Thing → Type 0) (fix : List Fixing) (body : Body) where
  place-calm : (o s : ℕ) → CalmAt p t C fix body (split o) → (spot t o).place ≡ s → (k : Counts) → OnDone (List CondTree) (alone (ground_place body m fix o s k)) (λ cs. C (Object o))
  place-calm o s g e k =
      on_then CondTree (List CondTree) _ _ (λ c. C (Object o)) _
      (on_any Counts CondTree _ _ _ (λ k' j. on_then CondTree CondTree _ _ (λ c. C (Object o)) _ (g.2 s e k') (λ c i q. on_done CondTree _ i _ q)))
      (λ c i q. on_done (List CondTree) (c ∷ []) i _ q)

  -- the first n places, of which one is the tuple's
  places-calm : (o n : ℕ) → CalmAt p t C fix body (split o) → (k : Counts) → OnDone (List CondTree) (ground_places body m fix o (range_with_len 1 n) k) (λ cs. (spot t o).place ≤ n → C (Object o))
  places-calm o n g k =
      let place = (spot t o).place in
      let w : OnDone (List CondTree) (ground_places body m fix o (range_with_len 1 n) k) (λ cs. Among place (range_with_len 1 n) → C (Object o)) =
      gather-on (λ s j. alone (ground_place body m fix o s j)) (λ ss cs. Among place ss → C (Object o)) (λ s cs. place ≡ s → C (Object o)) (λ n. absurd n)
      (λ s ss bs cs q r a. ⊎_elim q r a)
      (range_with_len 1 n) (each-of (λ s. (j : Counts) → OnDone (List CondTree) (alone (ground_place body m fix o s j)) (λ cs. place ≡ s → C (Object o))) (range_with_len 1 n)
      (λ s j. record { get = λ cs i h e. (place-calm o s g e j).get cs i h })) k in
      record { get = λ cs j e l. w.get cs j e (among-range place 1 n g.0 (omega (arith, l))) }

  group-calm : (o : ℕ) → CalmAt p t C fix body (split o) → (k : Counts) → OnDone CondTree (ground_group p body m fix o k) (λ c. is_there p t (Object o) ≡ true → C (Object o))
  group-calm o g k =
      on_then (List CondTree) CondTree _ _ (λ cs. (spot t o).place ≤ length (object_of p o).shapes → C (Object o)) _ (places-calm o (length (object_of p o).shapes) g k) (λ cs j q.
      on_any (List CondTree) CondTree _ _ _ (λ ds i. on_done CondTree _ i _ (λ e. q (shape-place p t o g.1 e))))

  split-by : (o : ℕ) (b : Bool) → CalmAt p t C fix body (split o) → (k : Counts) →
      OnDone (List CondTree) (cond b (alone (ground_group p body m fix o k)) (ground_places body m fix o (shape_places p o) k)) (λ cs. is_there p t (Object o) ≡ true → C (Object o))
  split-by o true g k = on_then CondTree (List CondTree) _ _ (λ c. is_there p t (Object o) ≡ true → C (Object o)) _ (group-calm o g k) (λ c i q. on_done (List CondTree) (c ∷ []) i _ q)
  split-by o false g k = eased (List CondTree) _ _ _ (λ cs q e. q (shape-place p t o g.1 e)) (places-calm o (length (object_of p o).shapes) g k)

  element-calm : (x : Element) → CalmAt p t C fix body x → (k : Counts) → OnDone (List CondTree) (ground_element p body m fix x k) (λ cs. is_there p t (thing_of x) ≡ true → C (thing_of x))
  element-calm (whole x) g k =
      on_then CondTree (List CondTree) _ _ (λ c. C x) _ (on_any Counts CondTree _ _ _ (λ k' j. g k')) (λ c i q. on_done (List CondTree) (c ∷ []) i _ (λ e. q))
  element-calm (split o) g k = split-by o (is_counted m) g k
  element-calm (optional o) g k =
      on_then CondTree (List CondTree) _ _ (λ c. C (Object o)) _
      (on_any Counts CondTree _ _ _ (λ k' j. on_then CondTree CondTree _ _ (λ c. C (Object o)) _ (g k') (λ c i q. on_done CondTree _ i _ q)))
      (λ c i q. on_done (List CondTree) (c ∷ []) i _ (λ e. q))
  element-calm (gone o) g k = record { get = λ cs j h e. absurd (false≢true (sym g ∙ e)) }

  elements-calm : (xs : List Element) → Each (CalmAt p t C fix body) xs → (k : Counts) → OnDone (List CondTree) (ground_elements p body m fix xs k) (λ cs. Each (λ x. is_there p t (thing_of x) ≡ true → C (thing_of x)) xs)
  elements-calm xs g k =
      gather-on (ground_element p body m fix) (λ ys cs. Each (λ x. is_there p t (thing_of x) ≡ true → C (thing_of x)) ys) (λ x cs. is_there p t (thing_of x) ≡ true → C (thing_of x)) tt (λ x ys bs cs q r. (q, r)) xs (each-goes xs g) k
    where
      each-goes : (ys : List Element) → Each (CalmAt p t C fix body) ys → Each (λ x. (j : Counts) → OnDone (List CondTree) (ground_element p body m fix x j) (λ cs. is_there p t (thing_of x) ≡ true → C (thing_of x))) ys
      each-goes [] d = tt
      each-goes (y ∷ ys) d = ((λ j. element-calm y d.0 j), each-goes ys d.1)

-- the body is calm where it may be grounded
abbrev IsCalmBody : ProblemData → Tuple → PlainEnv → ℕ → (Subject → Bool) → (Thing → Type 0) → Body → Type 0
IsCalmBody p t env v asks C body = (x : Thing) (more : List Fixing) (k : Counts) → Agrees t more → IsCovered p t more (set_variable v x env) asks → OnDone CondTree (body x more k) (λ c. C x)

object-calm : (p : ProblemData) (t : Tuple) (fix : List Fixing) (env : PlainEnv) (v : ℕ) (asks : Subject → Bool) (C : Thing → Type 0) (body : Body) (o : ℕ) (left asked split_it may : Bool) →
    is_gone p fix o ≡ left → asks (subjects.Variable v) ≡ asked → (asked && is_open p fix o) ≡ split_it →
    IsTuple p t → Agrees t fix → IsCovered p t fix env asks → IsCalmBody p t env v asks C body →
    CalmAt p t C fix body (cond left (gone o) (cond split_it (split o) (cond may (optional o) (whole (Object o)))))
object-calm p t fix env v asks C body o true asked split_it may l a s w g c b = gone-absent p t fix o g l
object-calm p t fix env v asks C body o false asked true may l a s w g c b =
    let places = open-places p t fix o w (both-true-of asked (is_open p fix o) s).1 in (
      places.0,
      places.1,
      (λ q f k. b (Object o) (fixed o q fix) k (agrees-more t fix o q f g)
          (covered-bound p t (fixed o q fix) env v (Object o) asks (λ z. here p t fix o q f (subst (λ n. 1 ≤ n) f places.0))
          (covered-more p t fix env o q asks f (subst (λ n. 1 ≤ n) f places.0) c))),
    )
object-calm p t fix env v asks C body o false asked false true l a s w g c b =
    λ k. b (Object o) fix k g (covered-bound p t fix env v (Object o) asks (λ q. settled-or-unasked p t fix o asked (is_open p fix o) s refl w g (sym a ∙ q)) c)
object-calm p t fix env v asks C body o false asked false false l a s w g c b =
    λ k. b (Object o) fix k g (covered-bound p t fix env v (Object o) asks (λ q. settled-or-unasked p t fix o asked (is_open p fix o) s refl w g (sym a ∙ q)) c)

each-calm : (p : ProblemData) (t : Tuple) (coll : PlainCollTree) (fix : List Fixing) (env : PlainEnv) (v : ℕ) (asks : Subject → Bool) (C : Thing → Type 0) (body : Body) →
    IsTuple p t → Agrees t fix → IsCovered p t fix env asks → IsCalmBody p t env v asks C body → Each (CalmAt p t C fix body) (elements_of p (asks (subjects.Variable v)) coll env fix)
each-calm p t coll fix env v asks C body w g c b = each (things_of p coll env fix)
  where
    one : (x : Thing) → CalmAt p t C fix body (element_of p (asks (subjects.Variable v)) fix x)
    one (Number z) = λ k. b (Number z) fix k g (covered-bound p t fix env v (Number z) asks (λ q. tt) c)
    one (Object o) = object-calm p t fix env v asks C body o (is_gone p fix o) (asks (subjects.Variable v)) (asks (subjects.Variable v) && is_open p fix o) (may_go p fix o) refl refl refl w g c b
    one (Part x) = λ k. b (Part x) fix k g (covered-bound p t fix env v (Part x) asks (λ q. tt) c)

    each : (xs : List Thing) → Each (CalmAt p t C fix body) (map (element_of p (asks (subjects.Variable v)) fix) xs)
    each [] = tt
    each (x ∷ xs) = (one x, each xs)

each-at : (C : Thing → Type 0) (xs : List Thing) → Each C xs → (i : ℕ) → i < length xs → C (element_at xs i)
each-at C [] h i l = absurd (omega arith)
each-at C (x ∷ xs) h zero l = h.0
each-at C (x ∷ xs) h (suc i) l = each-at C xs h.1 i (omega arith)

-- ---- two operands

agreed : (all a b : Bool) → b ≡ not all → b ≡ a → a ≡ all → ⊥
agreed true a b h e k = cc
agreed false a b h e k = cc

-- the second operand is looked at unless the first one decides
in_turn-calm : (all : Bool) (t : Tuple) (first second : Counts → Outcome CondTree) (a : Bool) (P Q : Type 0) (k : Counts) → OnDone CondTree (first k) (λ c. (true_on t c ≡ a) × P) → ((j : Counts) → OnDone CondTree (second j) (λ c. Q)) →
    OnDone CondTree (in_turn all first second k) (λ c. P × (a ≡ all → Q))
in_turn-calm all t first second a P Q k f g =
    on_then CondTree CondTree _ _ (λ c. (true_on t c ≡ a) × P) _ f (λ c k' e.
    on_either CondTree (decides all c) _ _ _
    (λ h. on_done CondTree _ k' _ (e.1, λ d. absurd (agreed all a (true_on t c) (decided all t c h) e.0 d)))
    (λ h. on_then CondTree CondTree _ _ (λ d. Q) _ (g k') (λ d k'' q. on_done CondTree _ k'' _ (e.1, λ i. q))))

signed-true : (sign b : Bool) → b ≡ true → signed (not sign) b ≡ not sign
signed-true true b h = ap not h
signed-true false b h = h

decided-false : (sign b x : Bool) → x ≡ not sign → x ≡ signed sign b → b ≡ true → ⊥
decided-false true b x h e k = cc
decided-false false true x h e k = cc
decided-false false false x h e k = cc

decided-true : (sign b x : Bool) → x ≡ not (not sign) → x ≡ signed sign b → b ≡ false → ⊥
decided-true true b x h e k = cc
decided-true false true x h e k = cc
decided-true false false x h e k = cc

-- both sides of an equivalence are looked at
either-side : (b s : Bool) (P Q : Type 0) → (P × (b ≡ true → Q)) × (junction true b s ≡ false → P × (not b ≡ true → Q)) → P × Q
either-side true s P Q h = (h.0.0, h.0.1 refl)
either-side false s P Q h = (h.0.0, (h.1 refl).1 refl)

-- ---- formulas

module _ (p : ProblemData) (t : Tuple) (well : IsWellFormed p) (w : IsTuple p t) where
  compare-calm : (a : PlainExprTree) (rel : Rel) (b : PlainExprTree) (env : PlainEnv) (fix : List Fixing) (k : Counts) →
      IsCovered p t fix env (λ s. expr_needs s a) → IsCovered p t fix env (λ s. expr_needs s b) → expr_breaks a ≡ false → expr_breaks b ≡ false → expr_nodes a + expr_nodes b ≤ 20000 →
      OnDone CondTree (ground_compare p a rel b env fix k) (λ c. IsTame p t a env × IsTame p t b env)
  compare-calm a rel b env fix k ca cb ba bb l =
      let f = difference (sum_of_expr p a env fix) (sum_of_expr p b env fix) in
      on_allowed CondTree (fits_expr p a env fix && (fits_expr p b env fix && (fits_sum f && list_all leaf_fits (leaves_of rel f).forms))) _ _ _ (λ h.
      let i = both (fits_expr p a env fix) (fits_expr p b env fix && (fits_sum f && list_all leaf_fits (leaves_of rel f).forms)) h in
      let j = both (fits_expr p b env fix) (fits_sum f && list_all leaf_fits (leaves_of rel f).forms) i.1 in
      record { get = λ c k' e. (expr-tame p t fix env well w a ca ba i.0 (omega arith), expr-tame p t fix env well w b cb bb j.0 (omega arith)) })

  mutual
    pub ground-calm : (f : PlainFormulaTree) (sign : Bool) (env : PlainEnv) (fix : List Fixing) (k : Counts) → formula_breaks f ≡ false → Agrees t fix → IsCovered p t fix env (λ s. needs s f) → nodes f ≤ 20000 →
        OnDone CondTree (ground p f sign env fix k) (λ c. IsCalm p t f env)
    ground-calm truth sign env fix k b a c l = record { get = λ d j e. tt }
    ground-calm falsehood sign env fix k b a c l = record { get = λ d j e. tt }
    ground-calm (negation f) sign env fix k b a c l = ground-calm f (not sign) env fix k b a (narrowed p t fix env _ _ (λ s e. e) c) (omega arith)
    ground-calm (all_of fs) sign env fix k b a c l =
        on_then (List CondTree) CondTree _ _ (λ cs. AllCalm p t fs env) _ (all-calm fs sign env fix k b a (narrowed p t fix env _ _ (λ s e. e) c) (omega arith)) (λ cs k' q. on_done CondTree _ k' _ q)
    ground-calm (any_of fs) sign env fix k b a c l =
        on_then (List CondTree) CondTree _ _ (λ cs. SomeCalm p t fs env) _ (some-calm fs sign env fix k b a (narrowed p t fix env _ _ (λ s e. e) c) (omega arith)) (λ cs k' q. on_done CondTree _ k' _ q)
    ground-calm (implication f g) sign env fix k b a c l =
        let n = neither (formula_breaks f) (formula_breaks g) b in
        let cf = narrowed p t fix env (λ s. needs s f) _ (λ s e. left_of (needs s f) (needs s g) e) c in
        let cg = narrowed p t fix env (λ s. needs s g) _ (λ s e. right_of (needs s f) (needs s g) e) c in
        eased CondTree (ground p (implication f g) sign env fix k) _ _ (λ d q. (q.0, λ h. q.1 (signed-true sign (plain_holds p t f env) h)))
        (in_turn-calm (not sign) t (λ j. ground p f (not sign) env fix j) (λ j. ground p g sign env fix j) (signed (not sign) (plain_holds p t f env)) (IsCalm p t f env) (IsCalm p t g env) k
        (together CondTree (ground p f (not sign) env fix k) _ _ (ground-sound p t f (not sign) env fix k w n.0 a cf) (ground-calm f (not sign) env fix k n.0 a cf (omega arith)))
        (λ j. ground-calm g sign env fix j n.1 a cg (omega arith)))
    ground-calm (equivalence f g) sign env fix k b a c l =
        let n = neither (formula_breaks f) (formula_breaks g) b in
        let cf = narrowed p t fix env (λ s. needs s f) _ (λ s e. left_of (needs s f) (needs s g) e) c in
        let cg = narrowed p t fix env (λ s. needs s g) _ (λ s e. right_of (needs s f) (needs s g) e) c in
        let x = plain_holds p t f env in
        let y = plain_holds p t g env in
        let first : Counts → Outcome CondTree = λ j. in_turn true (λ i. ground p f true env fix i) (λ i. ground p g sign env fix i) j in
        let second : Counts → Outcome CondTree = λ j. in_turn true (λ i. ground p f false env fix i) (λ i. ground p g (not sign) env fix i) j in
        eased CondTree (ground p (equivalence f g) sign env fix k) _ _ (λ d q. either-side x (signed sign y) (IsCalm p t f env) (IsCalm p t g env) q)
        (in_turn-calm false t first second (junction true x (signed sign y)) (IsCalm p t f env × (x ≡ true → IsCalm p t g env)) (IsCalm p t f env × (not x ≡ true → IsCalm p t g env)) k
        (together CondTree (first k) _ _
        (in_turn-on true t (λ i. ground p f true env fix i) (λ i. ground p g sign env fix i) x (signed sign y) k (ground-sound p t f true env fix k w n.0 a cf) (λ i. ground-sound p t g sign env fix i w n.1 a cg))
        (in_turn-calm true t (λ i. ground p f true env fix i) (λ i. ground p g sign env fix i) x (IsCalm p t f env) (IsCalm p t g env) k
        (together CondTree (ground p f true env fix k) _ _ (ground-sound p t f true env fix k w n.0 a cf) (ground-calm f true env fix k n.0 a cf (omega arith)))
        (λ j. ground-calm g sign env fix j n.1 a cg (omega arith))))
        (λ j. in_turn-calm true t (λ i. ground p f false env fix i) (λ i. ground p g (not sign) env fix i) (not x) (IsCalm p t f env) (IsCalm p t g env) j
        (together CondTree (ground p f false env fix j) _ _ (ground-sound p t f false env fix j w n.0 a cf) (ground-calm f false env fix j n.0 a cf (omega arith)))
        (λ i. ground-calm g (not sign) env fix i n.1 a cg (omega arith))))
    ground-calm (comparison x rel y) sign env fix k b a c l =
        let n = neither (expr_breaks x) (expr_breaks y) b in
        compare-calm x (under sign rel) y env fix k
        (narrowed p t fix env _ _ (λ s e. left_of (expr_needs s x) (expr_needs s y) e) c)
        (narrowed p t fix env _ _ (λ s e. right_of (expr_needs s x) (expr_needs s y) e) c) n.0 n.1 (omega arith)
    ground-calm (quantified kind v coll f) sign env fix k b a c l =
        let C : Thing → Type 0 = λ x. IsCalm p t f (set_variable v x env) in
        let xs = elements_of p (needs (subjects.Variable v) f) coll env fix in
        let body : Body = λ x more j. ground p f (body_sign kind sign) (set_variable v x env) more j in
        on_any Counts CondTree _ _ _ (λ k' j.
        on_then (List CondTree) CondTree _ _ (λ cs. Each (λ x. is_there p t (thing_of x) ≡ true → C (thing_of x)) xs) _
        (elements-calm p t (manner kind sign) C fix body xs
        (each-calm p t coll fix env v (λ s. needs s f) C body w a
        (narrowed p t fix env _ _ (λ s e. right_of (coll_needs s coll) (needs s f) e) c)
        (λ x more i g d. ground-calm f (body_sign kind sign) (set_variable v x env) more i b g d (omega arith)))
        k')
        (λ cs k'' q. on_done CondTree _ k'' _
        (each-at (λ x. is_there p t x ≡ true → C x) (plain_candidates p t coll env)
        (subst (Each (λ x. is_there p t x ≡ true → C x)) (candidates-same p t (needs (subjects.Variable v) f) coll env fix (narrowed p t fix env _ _ (λ s i. left_of (coll_needs s coll) (needs s f) i) c))
        (each-map thing_of (λ x. is_there p t x ≡ true → C x) xs q)))))

    all-calm : (fs : PlainFormulas) (sign : Bool) (env : PlainEnv) (fix : List Fixing) (k : Counts) → formulas_break fs ≡ false → Agrees t fix → IsCovered p t fix env (λ s. some_needs s fs) → nodes_in fs ≤ 20000 →
        OnDone (List CondTree) (ground_operands p fs sign sign env fix k) (λ cs. AllCalm p t fs env)
    all-calm no_formulas sign env fix k b a c l = record { get = λ d j e. tt }
    all-calm (a_formula f rest) sign env fix k b a c l =
        let n = neither (formula_breaks f) (formulas_break rest) b in
        let cf = narrowed p t fix env (λ s. needs s f) _ (λ s e. left_of (needs s f) (some_needs s rest) e) c in
        on_then CondTree (List CondTree) _ _ (λ d. (true_on t d ≡ signed sign (plain_holds p t f env)) × IsCalm p t f env) _
        (together CondTree (ground p f sign env fix k) _ _ (ground-sound p t f sign env fix k w n.0 a cf) (ground-calm f sign env fix k n.0 a cf (omega arith))) (λ d k' e.
        on_either (List CondTree) (decides sign d) _ _ _
        (λ h. on_done (List CondTree) _ k' _ (e.1, λ i. absurd (decided-false sign (plain_holds p t f env) (true_on t d) (decided sign t d h) e.0 i)))
        (λ h. on_then (List CondTree) (List CondTree) _ _ (λ ds. AllCalm p t rest env) _
        (all-calm rest sign env fix k' n.1 a (narrowed p t fix env _ _ (λ s i. right_of (needs s f) (some_needs s rest) i) c) (omega arith))
        (λ ds k'' q. on_done (List CondTree) _ k'' _ (e.1, λ i. q))))

    some-calm : (fs : PlainFormulas) (sign : Bool) (env : PlainEnv) (fix : List Fixing) (k : Counts) → formulas_break fs ≡ false → Agrees t fix → IsCovered p t fix env (λ s. some_needs s fs) → nodes_in fs ≤ 20000 →
        OnDone (List CondTree) (ground_operands p fs (not sign) sign env fix k) (λ cs. SomeCalm p t fs env)
    some-calm no_formulas sign env fix k b a c l = record { get = λ d j e. tt }
    some-calm (a_formula f rest) sign env fix k b a c l =
        let n = neither (formula_breaks f) (formulas_break rest) b in
        let cf = narrowed p t fix env (λ s. needs s f) _ (λ s e. left_of (needs s f) (some_needs s rest) e) c in
        on_then CondTree (List CondTree) _ _ (λ d. (true_on t d ≡ signed sign (plain_holds p t f env)) × IsCalm p t f env) _
        (together CondTree (ground p f sign env fix k) _ _ (ground-sound p t f sign env fix k w n.0 a cf) (ground-calm f sign env fix k n.0 a cf (omega arith))) (λ d k' e.
        on_either (List CondTree) (decides (not sign) d) _ _ _
        (λ h. on_done (List CondTree) _ k' _ (e.1, λ i. absurd (decided-true sign (plain_holds p t f env) (true_on t d) (decided (not sign) t d h) e.0 i)))
        (λ h. on_then (List CondTree) (List CondTree) _ _ (λ ds. SomeCalm p t rest env) _
        (some-calm rest sign env fix k' n.1 a (narrowed p t fix env _ _ (λ s i. right_of (needs s f) (some_needs s rest) i) c) (omega arith))
        (λ ds k'' q. on_done (List CondTree) _ k'' _ (e.1, λ i. q))))

  -- ---- the objects that a formula names itself

  abbrev Rest : List ℕ → PlainFormulaTree → Type 0
  Rest rest f = (fix : List Fixing) (k : Counts) → Agrees t fix → IsOwed p t fix rest f → OnDone CondTree (ground_named p rest f fix k) (λ c. IsCalm p t f [])

  object-named : (o : ℕ) (rest : List ℕ) (f : PlainFormulaTree) (fix : List Fixing) (k : Counts) (several : Bool) → is_open p fix o ≡ several → Agrees t fix → IsOwed p t fix (o ∷ rest) f → Rest rest f →
      let body : Body = λ x more j. ground_named p rest f more j in
      OnDone CondTree
      (cond several
      (and_then (List CondTree) CondTree (ground_places body All fix o (places p o) k) (λ cs k'. Done (joined true cs) k'))
      (and_then Counts CondTree (visit k) (λ k' same. and_then CondTree CondTree (body (Object o) fix k') (λ c j. Done (joined true (c ∷ [])) j))))
      (λ c. IsCalm p t f [])
  object-named o rest f fix k true e a i r =
      let body : Body = λ x more j. ground_named p rest f more j in
      let own = open-places p t fix o w e in
      on_then (List CondTree) CondTree _ _ (λ cs. (spot t o).place ≤ place_count (object_of p o) → IsCalm p t f []) _
      (places-calm p t All (λ x. IsCalm p t f []) fix body o (place_count (object_of p o))
      (own.0, own.1, (λ s g j. r (fixed o s fix) j (agrees-more t fix o s g a) (owed-split p t fix o s rest f g (subst (λ n. 1 ≤ n) g own.0) i))) k)
      (λ cs j q. on_done CondTree _ j _ (q own.1))
  object-named o rest f fix k false e a i r =
      on_any Counts CondTree _ _ _ (λ k' j.
      on_then CondTree CondTree _ _ (λ c. IsCalm p t f []) _ (r fix k' a (owed-whole p t fix o rest f (closed-settled p t fix o w a e) i)) (λ c i' q. on_done CondTree _ i' _ q))

  named-calm : (names : List ℕ) (f : PlainFormulaTree) → formula_breaks f ≡ false → nodes f ≤ 20000 → Rest names f
  named-calm [] f b l fix k a i = ground-calm f true [] fix k b a (record { at = λ s e. all-settled p t fix s (i.at s e) }) l
  named-calm (o ∷ rest) f b l fix k a i =
      on_any Counts CondTree _ _ _ (λ k' j. object-named o rest f fix k' (is_open p fix o) refl a i (named-calm rest f b l))

  -- on every tuple the evaluation of a formula that has a condition is calm
  pub formula-calm : (f : PlainFormulaTree) (k : Counts) → formula_breaks f ≡ false → nodes f ≤ 20000 → OnDone CondTree (ground_named p (named_objects p f) f [] k) (λ c. IsCalm p t f [])
  formula-calm f k b l = named-calm (named_objects p f) f b l [] k (record { at = λ o n. absurd (n refl) }) (record { at = λ s e. there p t f s e })
