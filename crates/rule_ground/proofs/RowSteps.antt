-- What is told whatever a variable stands for.
use Rattle.std.proofs.Common.{◌≡◌, ℕ, ◌&&◌, Bool, true, false, not, List, sym, ap, ◌∙◌, refl, subst}
use Rattle.std.specs.Prelude.{◌==◌, if◌then◌else◌}
use Rattle.std.specs.List.{list_all}
use Rattle.geo_conditions.specs.Form.{Sum}
use Rattle.geo_tokens.specs.declared.fault.FaultWord.TheVariants.{Overflow}
use Rattle.rule_syntax.specs.declared.tree.Rel.{Rel}
use Rattle.problem_data.specs.Problem.{ProblemData}
use Rattle.problem_data.specs.Value.{Thing}
use Rattle.rule_expand.specs.declared.plain.Subject.{Subject}
use Rattle.rule_expand.specs.declared.plain.Subject.TheVariants as subjects
use Rattle.rule_expand.specs.Plain.{PlainExprTree, number, field}
use Rattle.rule_expand.specs.PlainTruth.{PlainEnv, set_variable, subject_in, variable_in}
use Rattle.linear_conditions.specs.Certain.{IsCertain}
use Rattle.linear_conditions.specs.Compare.{ground_compare, ground_leaves}
use Rattle.linear_conditions.specs.CondTree.{CondTree}
use Rattle.linear_conditions.specs.Counts.{Counts, Outcome, allowed}
use Rattle.linear_conditions.specs.Fixings.{Fixing}
use Rattle.linear_conditions.specs.Forms.{field_sum}
use Rattle.linear_conditions.specs.Leaves.{difference, leaf_fits, leaves_of}
use Rattle.linear_conditions.specs.Sums.{fits_sum}
use Rattle.rule_ground.specs.Rows.{IsSteady}

pub steady-number : (v n : ℕ) → IsSteady v (number n)
steady-number v n = record { sum_same = λ p x env fix. refl; fits_same = λ p x env fix. refl }

steady-field : (v : ℕ) (s : Subject) (name : List ℕ) → ((x : Thing) (env : PlainEnv) → subject_in s (set_variable v x env) ≡ subject_in s env) → IsSteady v (field s name)
steady-field v s name h = record {
  sum_same = λ p x env fix. ap (field_sum p fix name) (h x env);
  fits_same = λ p x env fix. ap (λ y. fits_sum (field_sum p fix name y)) (h x env);
}

pub steady-object : (v o : ℕ) (name : List ℕ) → IsSteady v (field (subjects.Object o) name)
steady-object v o name = steady-field v (subjects.Object o) name (λ x env. refl)

pub steady-variable : (v u : ℕ) (name : List ℕ) → (u == v) ≡ false → IsSteady v (field (subjects.Variable u) name)
steady-variable v u name e = steady-field v (subjects.Variable u) name (λ x env. ap (λ b. if b then x else variable_in u env) e)

abbrev compared_by : Rel → Sum → Sum → Bool → Bool → Counts → Outcome CondTree
compared_by rel f g b c k =
    allowed CondTree (b && (c && (fits_sum (difference f g) && list_all leaf_fits (leaves_of rel (difference f g)).forms))) Overflow (ground_leaves (leaves_of rel (difference f g)) k)

-- a comparison of two such
pub steady-compare : (p : ProblemData) (a b : PlainExprTree) (rel : Rel) (v : ℕ) (x : Thing) (env : PlainEnv) (fix : List Fixing) (n : ℕ) (h : Bool) → IsSteady v a → IsSteady v b →
    IsCertain (ground_compare p a rel b env fix) n h → IsCertain (ground_compare p a rel b (set_variable v x env) fix) n h
steady-compare p a b rel v x env fix n h s t c = record {
  gives = λ k. (λ i. compared_by rel (s.sum_same p x env fix i) (t.sum_same p x env fix i) (s.fits_same p x env fix i) (t.fits_same p x env fix i) k) ∙ c.gives k;
}
