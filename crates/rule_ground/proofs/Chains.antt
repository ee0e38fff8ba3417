-- One link more in the chains of variables and of fixed shapes, and views of formulas.
use Rattle.std.proofs.Common.{◌≡◌, ℕ, List, [], ◌∷◌, sym, ap, ◌∙◌}
use Rattle.rule_syntax.specs.declared.tree.Rel.{Rel}
use Rattle.rule_expand.specs.Plain.{PlainFormulaTree, all_of, any_of, comparison, falsehood, implication}
use Rattle.rule_expand.specs.PlainTruth.{PlainEnv, set_variable}
use Rattle.rule_expand.specs.PlainView.{plain_expr_view, plain_formula_view, plain_formula_step, plain_formulas_view}
use Rattle.rule_expand.specs.declared.plain.PlainFormula.TheOpen.{PlainFormula-F}
use Rattle.rule_expand.specs.declared.plain.PlainFormula.TheVariants.{And, Compare, False, Implies, Or, rolls-And, rolls-Compare, rolls-False, rolls-Implies, rolls-Or}
use Rattle.rule_expand.specs.declared.plain.PlainFormula.TheFolds.{fold-roll-PlainFormula}
use Rattle.linear_conditions.specs.Fixings.{Fixing}
use Rattle.linear_conditions.specs.Views.{fixings_view, fixings_step}
use Rattle.linear_conditions.specs.declared.fixings.Fixings.TheOpen.{Fixings-F}
use Rattle.linear_conditions.specs.declared.fixings.Fixings.TheVariants as chain
use Rattle.linear_conditions.specs.declared.fixings.Fixings.TheFolds.{fold-roll-Fixings}
use Rattle.rule_values.specs.View.{env_view, env_layer, thing_view}
use Rattle.rule_values.specs.declared.env.Thing.{Thing}
use Rattle.rule_values.specs.declared.env.Env.TheOpen.{Env-F}
use Rattle.rule_values.specs.declared.env.Env.TheVariants as envs
use Rattle.rule_values.specs.declared.env.Env.TheFolds.{fold-roll-Env}

pub env-more : (outer : _) (v : ℕ) (x : Thing) → env_view (envs.More outer v x) ≡ set_variable v (thing_view x) (env_view outer.now)
env-more outer v x = ap env_view (sym (envs.rolls-More outer v x)) ∙ fold-roll-Env PlainEnv env_layer (Env-F.More outer v x)

pub fixings-more : (outer : _) (o s : ℕ) → fixings_view (chain.More outer o s) ≡ record { object = o; place = s } ∷ fixings_view outer.now
fixings-more outer o s = ap fixings_view (sym (chain.rolls-More outer o s)) ∙ fold-roll-Fixings (List Fixing) fixings_step (Fixings-F.More outer o s)

pub view-implies : (f g : _) → plain_formula_view (Implies f g) ≡ implication (plain_formula_view f.value) (plain_formula_view g.value)
view-implies f g = ap plain_formula_view (sym (rolls-Implies f g)) ∙ fold-roll-PlainFormula PlainFormulaTree plain_formula_step (PlainFormula-F.Implies f g)

pub view-false : plain_formula_view False ≡ falsehood
view-false = ap plain_formula_view (sym rolls-False) ∙ fold-roll-PlainFormula PlainFormulaTree plain_formula_step PlainFormula-F.False

pub view-or : (fs : _) → plain_formula_view (Or fs) ≡ any_of (plain_formulas_view fs.items)
view-or fs = ap plain_formula_view (sym (rolls-Or fs)) ∙ fold-roll-PlainFormula PlainFormulaTree plain_formula_step (PlainFormula-F.Or fs)

pub view-and : (fs : _) → plain_formula_view (And fs) ≡ all_of (plain_formulas_view fs.items)
view-and fs = ap plain_formula_view (sym (rolls-And fs)) ∙ fold-roll-PlainFormula PlainFormulaTree plain_formula_step (PlainFormula-F.And fs)

pub view-compare : (a : _) (rel : Rel) (b : _) → plain_formula_view (Compare a rel b) ≡ comparison (plain_expr_view a.value) rel (plain_expr_view b.value)
view-compare a rel b = ap plain_formula_view (sym (rolls-Compare a rel b)) ∙ fold-roll-PlainFormula PlainFormulaTree plain_formula_step (PlainFormula-F.Compare a rel b)

pub fixings-none : fixings_view chain.Nothing ≡ []
fixings-none = ap fixings_view (sym chain.rolls-Nothing) ∙ fold-roll-Fixings (List Fixing) fixings_step Fixings-F.Nothing
