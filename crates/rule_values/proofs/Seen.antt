-- What variables stand for, and the elements of the shape that an object has on a tuple.
use Rattle.std.proofs.Common.{◌≡◌, ◌==◌, ℕ, true, false, [], map, refl, sym, ap, ◌∙◌, arith}
use Rattle.std.specs.Prelude.{if◌then◌else◌}
use Rattle.std.specs.Option.{option_map_or}
use Rattle.std.proofs.lemmas.Bool.Decides.{nat_tests}
use Rattle.problem_data.specs.Problem.{ProblemData}
use Rattle.problem_data.specs.Tuple.{Tuple}
use Rattle.problem_data.specs.Value as meaning
use Rattle.problem_data.specs.Truth.{boxes_of_thing}
use Rattle.problem_data.specs.Value.{Number, Object, Part}
use Rattle.rule_expand.specs.Plain.{PlainCollTree, all_objects, listed, boxes_of}
use Rattle.rule_expand.specs.PlainTruth.{PlainEnv, plain_candidates, set_variable, subject_in, variable_in}
use Rattle.rule_values.specs.Elements.{IsPlacedIn, elements_at, object_in, owner_of}
use Rattle.rule_values.specs.Shapes.{boxes_at}
use Rattle.rule_values.specs.View.{env_layer, env_view, thing_view}
use Rattle.rule_values.specs.declared.env.Env.{Env}
use Rattle.rule_values.specs.declared.env.Env.TheOpen.{Env-F}
use Rattle.rule_values.specs.declared.env.Env.TheFolds.{fold-roll-Env}
use Rattle.rule_values.specs.declared.env.Env.TheVariants as envs

pub more-seen : {e : Env} (outer : _) (v : ℕ) (thing : _) → e ≡ envs.More outer v thing → env_view e ≡ set_variable v (thing_view thing) (env_view outer.now)
more-seen outer v thing h = rw h (ap env_view (sym (envs.rolls-More outer v thing)) ∙ fold-roll-Env PlainEnv env_layer (Env-F.More outer v thing))

pub own-thing : (v own : ℕ) (x : meaning.Thing) (env : PlainEnv) → v ≡ own → variable_in v (set_variable own x env) ≡ x
own-thing v own x env e =
    let same : (v == own) ≡ true = grind (arith, nat_tests, e) in
    ap (λ b. if b then x else variable_in v env) same

pub outer-thing : (v own : ℕ) (x : meaning.Thing) (env : PlainEnv) → (v ≡ own → ⊥) → variable_in v (set_variable own x env) ≡ variable_in v env
outer-thing v own x env n =
    let other : (v == own) ≡ false = grind (arith, nat_tests, n) in
    ap (λ b. if b then x else variable_in v env) other

-- the candidates at the place that the owner has on a tuple
pub as-placed : (p : ProblemData) (t : Tuple) (place : ℕ) (c : PlainCollTree) (env : PlainEnv) → IsPlacedIn t place (owner_of c env) → elements_at p place c env ≡ plain_candidates p t c env
as-placed p t place all_objects env h = refl
as-placed p t place (listed os) env h = refl
as-placed p t place (boxes_of s) env h = of-thing (subject_in s env) h
  where
    of-thing : (x : meaning.Thing) → IsPlacedIn t place (object_in x) → option_map_or (λ o. map Part (boxes_at p o place)) (object_in x) [] ≡ boxes_of_thing p t x
    of-thing (Number z) h = refl
    of-thing (Object o) h = ap (λ k. map Part (boxes_at p o k)) h
    of-thing (Part b) h = refl
