-- Steps of the program that grounds comparisons.
use Rattle.std.proofs.Common.{◌≡◌, ◌^◌, ◌&&◌, ◌||◌, Bool, true, false, cond, not, List, [], ◌∷◌, map, negsuc, sym, ap, ◌∙◌, refl, arith, subst}
use Rattle.std.specs.Prelude.{Option, None, Some, Result, Ok, Err, IfOk, IfSome}
use Rattle.std.specs.List.{list_all}
use Rattle.rule_syntax.specs.declared.tree.Rel.{Rel}
use Rattle.rule_syntax.specs.declared.tree.Rel.TheVariants.{Lt, Le, Eq, Ne, Ge, Gt}
use Rattle.geo_tokens.specs.declared.fault.FaultWord.TheVariants as words
use Rattle.geo_conditions.specs.Form.{Sum}
use Rattle.problem_data.specs.Problem.{ProblemData}
use Rattle.rule_expand.specs.Plain.{PlainExprTree}
use Rattle.rule_expand.specs.PlainTruth.{PlainEnv}
use Rattle.linear_conditions.specs.declared.short.Short.{Short}
use Rattle.linear_conditions.specs.declared.wide.WideSum.{WideSum}
use Rattle.linear_conditions.specs.declared.fault.GroundFault.{GroundFault}
use Rattle.linear_conditions.specs.declared.fault.GroundFault.TheVariants.{Overflow, TooMany, Memory}
use Rattle.linear_conditions.specs.CondTree.{CondTree}
use Rattle.linear_conditions.specs.Fixings.{Fixing}
use Rattle.linear_conditions.specs.Ordered.{IsOrdered}
use Rattle.linear_conditions.specs.Room.{CanAdd}
use Rattle.linear_conditions.specs.Sums.{scale, has_terms, fits_sum}
use Rattle.linear_conditions.specs.Forms.{fits_expr, sum_of_expr}
use Rattle.linear_conditions.specs.Leaves.{negated, difference, plus_one, Leaves, leaves_of, leaf_fits, IsLeaf, AreLeaves}
use Rattle.linear_conditions.specs.Folding.{fold_linear, joined}
use Rattle.linear_conditions.specs.Counts.{Counts, Fault, Done, and_then, allowed, within_limits, one_visit, count_sums}
use Rattle.linear_conditions.specs.Certain.{IsCertain}
use Rattle.linear_conditions.specs.Compare.{AreSides, allowed_leaves, ground_compare, ground_difference, ground_leaves}
use Rattle.linear_conditions.specs.Faults.{IsFault, IsMisfit, Gives}
use Rattle.linear_conditions.specs.Views.{short_view, wide_view}
use Rattle.linear_conditions.proofs.Ordered.{add_terms-ordered, scale-ordered, both-true, form-of}
use Rattle.linear_conditions.proofs.Bounds.{can-add, fits-up}
use Rattle.linear_conditions.proofs.FormSteps.{negated-up}
use Rattle.linear_conditions.proofs.Placed.{sum-placed}

pub can-subtract : (f g h : Sum) → fits_sum f ≡ true → fits_sum g ≡ true → IsOrdered g.terms → h ≡ scale (negsuc 0) g → CanAdd f h
can-subtract f g h a b o e = subst (CanAdd f) (sym e) (can-add (10 ^ 15) (10 ^ 15) f (scale (negsuc 0) g) (omega arith) (scale-ordered (negsuc 0) g.terms o) (fits-up f a) (negated-up (10 ^ 15) g (fits-up g b))).0

pub sum-ordered : (p : ProblemData) (e : PlainExprTree) (env : PlainEnv) (fix : List Fixing) (f : Sum) → f ≡ sum_of_expr p e env fix → IsOrdered f.terms
sum-ordered p e env fix f is = subst (λ (g : Sum). IsOrdered g.terms) (sym is) (sum-placed p env fix e).0

pub difference-ordered : (r : Result WideSum GroundFault) (f g : Sum) (b : Bool) → IsOrdered f.terms → Gives r (difference f g) b → IfOk r (λ h. IsOrdered (wide_view h).terms)
difference-ordered (Ok h) f g b o given = subst (λ (s : Sum). IsOrdered s.terms) (sym given.0) (add_terms-ordered f.terms (scale (negsuc 0) g).terms o)
difference-ordered (Err e) f g b o given = tt

-- ---- leaves

leaf-of : (f : Sum) → IsOrdered f.terms → leaf_fits f ≡ true → IsLeaf f
leaf-of f o h t = form-of f o (fits (has_terms f) (fits_sum f) t h)
  where
    fits : (a b : Bool) → a ≡ true → (not a || b) ≡ true → b ≡ true
    fits true b e k = k
    fits false b e k = cc

one-leaf : (f : Sum) → IsOrdered f.terms → list_all leaf_fits (f ∷ []) ≡ true → AreLeaves (f ∷ [])
one-leaf f o h = (leaf-of f o (both-true (leaf_fits f) true h).0, tt)

two-leaves : (f g : Sum) → IsOrdered f.terms → IsOrdered g.terms → list_all leaf_fits (f ∷ (g ∷ [])) ≡ true → AreLeaves (f ∷ (g ∷ []))
two-leaves f g o u h = let b = both-true (leaf_fits f) (list_all leaf_fits (g ∷ [])) h in (leaf-of f o b.0, one-leaf g u b.1)

are-leaves : (rel : Rel) (f : Sum) → IsOrdered f.terms → list_all leaf_fits (leaves_of rel f).forms ≡ true → AreLeaves (leaves_of rel f).forms
are-leaves Le f o h = one-leaf f o h
are-leaves Lt f o h = one-leaf (plus_one f) o h
are-leaves Ge f o h = one-leaf (negated f) (scale-ordered (negsuc 0) f.terms o) h
are-leaves Gt f o h = one-leaf (plus_one (negated f)) (scale-ordered (negsuc 0) f.terms o) h
are-leaves Eq f o h = two-leaves f (negated f) o (scale-ordered (negsuc 0) f.terms o) h
are-leaves Ne f o h = two-leaves (plus_one f) (plus_one (negated f)) o (scale-ordered (negsuc 0) f.terms o) h

pub leaves-of : (rel : Rel) (f : Sum) (l : Leaves) → l ≡ leaves_of rel f → IsOrdered f.terms → list_all leaf_fits l.forms ≡ true → AreLeaves l.forms
leaves-of rel f l e o h = subst (λ (x : Leaves). AreLeaves x.forms) (sym e) (are-leaves rel f o (ap (λ (x : Leaves). list_all leaf_fits x.forms) (sym e) ∙ h))

-- ---- outcomes

pub past-bounds : (l : Leaves) (k : Counts) → list_all leaf_fits l.forms ≡ false → allowed_leaves l k ≡ Fault words.Overflow
unfolding allowed
past-bounds l k h = ap (λ b. cond b (ground_leaves l k) (Fault words.Overflow)) h

grounded : (l : Leaves) (k : Counts) → list_all leaf_fits l.forms ≡ true → allowed_leaves l k ≡ ground_leaves l k
unfolding allowed
grounded l k h = ap (λ b. cond b (ground_leaves l k) (Fault words.Overflow)) h

pub counted-done : (l : Leaves) (k j : Counts) (c : CondTree) → list_all leaf_fits l.forms ≡ true →
    within_limits (count_sums l.forms (one_visit k)) ≡ Done j j → c ≡ joined l.all (map fold_linear l.forms) → allowed_leaves l k ≡ Done c j
unfolding and_then
counted-done l k j c h w v =
    grounded l k h ∙ ap (λ o. and_then Counts CondTree o (λ k' same. Done (joined l.all (map fold_linear l.forms)) k')) w ∙ ap (λ x. Done x j) (sym v)

counted-past : (l : Leaves) (k : Counts) → list_all leaf_fits l.forms ≡ true → (w : _) →
    within_limits (count_sums l.forms (one_visit k)) ≡ Fault w → allowed_leaves l k ≡ Fault w
unfolding and_then
counted-past l k h w q = grounded l k h ∙ ap (λ o. and_then Counts CondTree o (λ k' same. Done (joined l.all (map fold_linear l.forms)) k')) q

pub counted-fault : (l : Leaves) (k : Counts) (e : GroundFault) → list_all leaf_fits l.forms ≡ true →
    IsFault Counts (within_limits (count_sums l.forms (one_visit k))) e → IsFault CondTree (allowed_leaves l k) e
counted-fault l k Overflow h i = counted-past l k h words.Overflow i
counted-fault l k TooMany h i = counted-past l k h words.Ground i
counted-fault l k Memory h i = tt

unfit : (a b c d : Bool) → (a && (b && c)) ≡ false → (a && (b && (c && d))) ≡ false
unfit true true true d h = cc
unfit true true false d h = refl
unfit true false c d h = refl
unfit false b c d h = refl

pub compared-misfit : (rel : Rel) (g : Sum) (a b : Bool) (k : Counts) (e : GroundFault) → IsMisfit (a && (b && fits_sum g)) e →
    IsFault CondTree (allowed CondTree (a && (b && (fits_sum g && list_all leaf_fits (leaves_of rel g).forms))) words.Overflow (ground_leaves (leaves_of rel g) k)) e
unfolding allowed
compared-misfit rel g a b k Overflow h = ap (λ x. cond x (ground_leaves (leaves_of rel g) k) (Fault words.Overflow)) (unfit a b (fits_sum g) (list_all leaf_fits (leaves_of rel g).forms) h)
compared-misfit rel g a b k TooMany h = absurd h
compared-misfit rel g a b k Memory h = tt

short-misfit : (rel : Rel) (g : Sum) (k : Counts) → fits_sum g ≡ false → ground_difference g rel k ≡ Fault words.Overflow
unfolding allowed
short-misfit rel g k h = ap (λ x. cond (x && list_all leaf_fits (leaves_of rel g).forms) (ground_leaves (leaves_of rel g) k) (Fault words.Overflow)) h

pub short-unfit : (rel : Rel) (g : Sum) (k : Counts) (e : GroundFault) → IsMisfit (fits_sum g) e → IsFault CondTree (ground_difference g rel k) e
short-unfit rel g k Overflow h = short-misfit rel g k h
short-unfit rel g k TooMany h = absurd h
short-unfit rel g k Memory h = tt

-- what is said of two short forms is said of the sides of the comparison
pub sides-compared : (p : ProblemData) (a b : PlainExprTree) (env : PlainEnv) (fix : List Fixing) (left right : Short) (rel : Rel) (k : Counts) → AreSides p a b env fix left right →
    ground_difference (difference (short_view left) (short_view right)) rel k ≡ ground_compare p a rel b env fix k
unfolding allowed
sides-compared p a b env fix left right rel k s =
    let f = difference (short_view left) (short_view right) in
    ap (λ (x : Bool). cond x (ground_leaves (leaves_of rel f) k) (Fault words.Overflow)) (sides-fit (fits_expr p a env fix) (fits_expr p b env fix) (fits_sum f && list_all leaf_fits (leaves_of rel f).forms) s.left_fits s.right_fits)
    ∙ ap (λ (g : Sum). cond (fits_expr p a env fix && (fits_expr p b env fix && (fits_sum (difference g (short_view right)) && list_all leaf_fits (leaves_of rel (difference g (short_view right))).forms)))
    (ground_leaves (leaves_of rel (difference g (short_view right))) k) (Fault words.Overflow)) s.left_is
    ∙ ap (λ (g : Sum). cond (fits_expr p a env fix && (fits_expr p b env fix && (fits_sum (difference (sum_of_expr p a env fix) g) && list_all leaf_fits (leaves_of rel (difference (sum_of_expr p a env fix) g)).forms)))
    (ground_leaves (leaves_of rel (difference (sum_of_expr p a env fix) g)) k) (Fault words.Overflow)) s.right_is
  where
    sides-fit : (a b c : Bool) → a ≡ true → b ≡ true → c ≡ (a && (b && c))
    sides-fit true true c g h = refl
    sides-fit true false c g h = cc
    sides-fit false b c g h = cc

-- what is certain of two short forms is certain of the sides of the comparison
pub sides-certain : (p : ProblemData) (a b : PlainExprTree) (env : PlainEnv) (fix : List Fixing) (left right : Short) (rel : Rel) (r : Option Bool) → AreSides p a b env fix left right →
    IfSome r (λ h. IsCertain (ground_difference (difference (short_view left) (short_view right)) rel) 1 h) → IfSome r (λ h. IsCertain (ground_compare p a rel b env fix) 1 h)
sides-certain p a b env fix left right rel (Some h) s c = record { gives = λ k. sym (sides-compared p a b env fix left right rel k s) ∙ c.gives k }
sides-certain p a b env fix left right rel None s c = tt
