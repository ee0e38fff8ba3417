-- Conditions that name objects and dimensions of a problem; so are all that grounding makes.
use Rattle.std.proofs.Common.{◌<◌, Bool, true, false, cond, List, [], ◌∷◌, ◌++◌, map, length, ℤ, pos, negsuc, ◌-ℤ◌}
use Rattle.std.specs.Prelude.{int_lt}
use lib.Signed.{le_z}
use Rattle.rule_syntax.specs.declared.tree.Rel.{Rel}
use Rattle.rule_syntax.specs.declared.tree.Rel.TheVariants.{Lt, Le, Eq, Ne, Ge, Gt}
use Rattle.geo_conditions.specs.Form.{Sum}
use Rattle.problem_data.specs.Problem.{ProblemData}
use Rattle.rule_expand.specs.Plain.{PlainExprTree}
use Rattle.rule_expand.specs.PlainTruth.{PlainEnv}
use Rattle.linear_conditions.specs.declared.verdict.Verdict.{Verdict}
use Rattle.linear_conditions.specs.declared.verdict.Verdict.TheVariants.{Holds, Fails, Open}
use Rattle.linear_conditions.specs.CondTree.{CondTree, CondTrees, linear, shape_is, shape_is_not, at_least, no_conds, a_cond, conds}
use Rattle.linear_conditions.specs.Fixings.{Fixing}
use Rattle.linear_conditions.specs.Sums.{has_terms}
use Rattle.linear_conditions.specs.Forms.{sum_of_expr}
use Rattle.linear_conditions.specs.Leaves.{negated, difference, plus_one, leaves_of}
use Rattle.linear_conditions.specs.Folding.{always, never, certain, verdict, fold_linear, count_holding, still_open, one_or_node, fold_count, joined}
use Rattle.linear_conditions.specs.Counts.{Counts, OnDone}
use Rattle.linear_conditions.specs.Compare.{ground_compare}
use Rattle.linear_conditions.proofs.Outcomes.{on_done, on_allowed, on_any}
use Rattle.linear_conditions.proofs.Placed.{AreBelow, add_terms-below, scale-below, sum-placed}

abbrev mutual
  pub IsInside : ProblemData → CondTree → Type 0
  IsInside p (linear f) = AreBelow (length p.objects) p.dims f.terms
  IsInside p (shape_is o s) = o < length p.objects
  IsInside p (shape_is_not o s) = o < length p.objects
  IsInside p (at_least n cs) = AreInside p cs

  pub AreInside : ProblemData → CondTrees → Type 0
  AreInside p no_conds = Unit {0}
  AreInside p (a_cond c cs) = IsInside p c × AreInside p cs

-- each of a list
abbrev pub AllInside : ProblemData → List CondTree → Type 0
AllInside p [] = Unit {0}
AllInside p (c ∷ cs) = IsInside p c × AllInside p cs

module _ (p : ProblemData) where
  pub conds-inside : (cs : List CondTree) → AllInside p cs → AreInside p (conds cs)
  conds-inside [] h = tt
  conds-inside (c ∷ cs) h = (h.0, conds-inside cs h.1)

  pub both-inside : (bs cs : List CondTree) → AllInside p bs → AllInside p cs → AllInside p (bs ++ cs)
  both-inside [] cs h l = l
  both-inside (b ∷ bs) cs h l = (h.0, both-inside bs cs h.1 l)

  pub certain-inside : (b : Bool) → IsInside p (certain b)
  certain-inside true = tt
  certain-inside false = tt

  linear-by : (f : Sum) (b : Bool) → AreBelow (length p.objects) p.dims f.terms → IsInside p (cond b (linear f) (certain (le_z f.constant (pos 0))))
  linear-by f true h = h
  linear-by f false h = certain-inside (le_z f.constant (pos 0))

  pub linear-inside : (f : Sum) → AreBelow (length p.objects) p.dims f.terms → IsInside p (fold_linear f)
  linear-inside f h = linear-by f (has_terms f) h

  open-by : (v : Verdict) (c : CondTree) (cs : List CondTree) → IsInside p c → AllInside p (still_open cs) →
      AllInside p (elim v [ Holds ↦ still_open cs | Fails ↦ still_open cs | Open ↦ c ∷ still_open cs ])
  open-by Holds c cs h l = l
  open-by Fails c cs h l = l
  open-by Open c cs h l = (h, l)

  open-inside : (cs : List CondTree) → AllInside p cs → AllInside p (still_open cs)
  open-inside [] h = tt
  open-inside (c ∷ cs) h = open-by (verdict c) c cs h.0 (open-inside cs h.1)

  node-inside : (n : ℤ) (cs : List CondTree) → AllInside p cs → IsInside p (one_or_node n cs)
  node-inside n [] h = tt
  node-inside n (c ∷ []) h = h.0
  node-inside n (c ∷ (d ∷ cs)) h = conds-inside (c ∷ (d ∷ cs)) h

  fold-by : (n : ℤ) (cs : List CondTree) (a b : Bool) → AllInside p cs → IsInside p (cond a always (cond b never (one_or_node n cs)))
  fold-by n cs true b h = tt
  fold-by n cs false true h = tt
  fold-by n cs false false h = node-inside n cs h

  pub count-inside : (n : ℤ) (cs : List CondTree) → AllInside p cs → IsInside p (fold_count n cs)
  count-inside n cs h =
      let m : ℤ = n -ℤ pos (count_holding cs) in
      fold-by m (still_open cs) (le_z m (pos 0)) (int_lt (pos (length (still_open cs))) m) (open-inside cs h)

  pub joined-inside : (all : Bool) (cs : List CondTree) → AllInside p cs → IsInside p (joined all cs)
  joined-inside all cs h = count-inside (cond all (pos (length cs)) (pos 1)) cs h

  abbrev IsBelow : Sum → Type 0
  IsBelow f = AreBelow (length p.objects) p.dims f.terms

  negated-below : (f : Sum) → IsBelow f → IsBelow (negated f)
  negated-below f h = scale-below (length p.objects) p.dims (negsuc 0) f.terms h

  plus-below : (f : Sum) → IsBelow f → IsBelow (plus_one f)
  plus-below f h = add_terms-below (length p.objects) p.dims f.terms [] h tt

  leaves-inside : (rel : Rel) (f : Sum) → IsBelow f → AllInside p (map fold_linear (leaves_of rel f).forms)
  leaves-inside Le f h = (linear-inside f h, tt)
  leaves-inside Lt f h = (linear-inside (plus_one f) (plus-below f h), tt)
  leaves-inside Ge f h = (linear-inside (negated f) (negated-below f h), tt)
  leaves-inside Gt f h = (linear-inside (plus_one (negated f)) (plus-below (negated f) (negated-below f h)), tt)
  leaves-inside Eq f h = (linear-inside f h, (linear-inside (negated f) (negated-below f h), tt))
  leaves-inside Ne f h = (linear-inside (plus_one f) (plus-below f h), (linear-inside (plus_one (negated f)) (plus-below (negated f) (negated-below f h)), tt))

  -- the condition of a comparison
  pub compare-inside : (a : PlainExprTree) (rel : Rel) (b : PlainExprTree) (env : PlainEnv) (fix : List Fixing) (k : Counts) →
      OnDone CondTree (ground_compare p a rel b env fix k) (IsInside p)
  compare-inside a rel b env fix k =
      let f : Sum = sum_of_expr p a env fix in
      let g : Sum = sum_of_expr p b env fix in
      on_allowed CondTree _ _ _ _ (λ fits.
      on_any Counts CondTree _ _ _ (λ k' j. on_done CondTree (joined (leaves_of rel (difference f g)).all (map fold_linear (leaves_of rel (difference f g)).forms)) _ _
      (joined-inside (leaves_of rel (difference f g)).all (map fold_linear (leaves_of rel (difference f g)).forms)
      (leaves-inside rel (difference f g) (add_terms-below (length p.objects) p.dims f.terms (negated g).terms (sum-placed p env fix a).1 (negated-below g (sum-placed p env fix b).1))))))
