-- Conditions that name an object.
use Rattle.std.proofs.Common.{◌≡◌, ◌==◌, ◌<◌, ℕ, Bool, true, not, List, [], ◌∷◌, length, get_or, subst, sym, ap, ◌∙◌, arith, ℤ}
use Rattle.std.specs.List.{All}
use Rattle.std.proofs.lemmas.Bool.{false≢true}
use Rattle.std.proofs.lemmas.List.Elements.{All-get_or}
use Rattle.geo_conditions.specs.declared.cond.Cond.{Cond, Lin, AtLeast}
use Rattle.geo_conditions.specs.declared.cond.Conds.{Conds}
use Rattle.geo_conditions.specs.declared.form.Term.{Term}
use Rattle.geo_conditions.specs.Form.{Sum}
use Rattle.geo_conditions.specs.Reach.{Exists}
use Rattle.geo_conditions.specs.Conditions.{FitsIn}
use Rattle.geo_conditions.proofs.Children.{fit_out}
use Rattle.geo_state.specs.Settle.{IsBare}

-- one child names an object
pub child_names : (n : ℤ) (children : Conds) (c x : Cond) (xs : List Cond) (i : ℕ) → c ≡ AtLeast n children → xs ≡ children.items.items → i < length xs → x ≡ get_or xs i x → (IsBare x → ⊥) → IsBare c → ⊥
child_names n children c x xs i e same h is named bare =
    named (subst (λ (d : Cond). FitsIn d []) (sym is) (All-get_or (λ d. FitsIn d []) xs i x h (subst (All (λ d. FitsIn d [])) (sym same) (fit_out n children [] (subst (λ (d : Cond). FitsIn d []) e bare)))))

no_term : (ts : List Term) → 0 < length ts → All (λ a. Exists [] a.object.0 a.dimension) ts → ⊥
no_term [] h all = absurd (omega (arith, h))
no_term (t ∷ ts) h all = let l : t.object.0 < 0 = (all 0 t (omega arith)).0 in absurd (omega (arith, l))

-- a form with a term names its object
pub form_names : (f : Sum) (c : Cond) → c ≡ Lin f → 0 < length f.terms → IsBare c → ⊥
form_names f c e h bare = no_term f.terms h (subst (λ (d : Cond). FitsIn d []) e bare)

-- a list that is not empty has one
pub some_terms : (ts us : List Term) (b : Bool) → us ≡ ts → b ≡ (length us == 0) → not b ≡ true → 0 < length ts
some_terms [] us b e f h = absurd (false≢true (sym (ap not (f ∙ ap (λ (n : ℕ). n == 0) (ap length e))) ∙ h))
some_terms (t ∷ ts) us b e f h = omega arith
