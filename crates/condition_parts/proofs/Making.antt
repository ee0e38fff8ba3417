-- What is made of a list of conditions, one after another.
use Rattle.std.proofs.Common.{◌≡◌, ℕ, ◌+◌, List, [], ◌∷◌, ◌++◌, length, map, replicate, sym, ap, ◌∙◌, subst, Option, Some, None, arith}
use Rattle.std.proofs.lemmas.List.{map-append, length-append, length-map}
use Rattle.geo_conditions.specs.declared.cond.Cond.{Cond}
use Rattle.geo_state.specs.Settle.{IsBare}
use Rattle.indexical.specs.declared.any.AnyIndexical.{AnyIndexical}
use Rattle.condition_parts.specs.Parts.{IsAllOf}
use Rattle.condition_parts.specs.Apart.{IsApart}
use Rattle.condition_parts.proofs.Apart.{apart_nothing, apart_whole, apart_parts}

-- nothing is made at the start
pub nothing_made : {K : ℕ} (fronts rest : List (AnyIndexical K)) (ws : List (Option Cond)) (numbers : List ℕ) → fronts ≡ [] → rest ≡ [] → ws ≡ [] → numbers ≡ []
    → IsApart [] (map (λ (y : AnyIndexical K). y.cond) fronts) (map (λ (y : AnyIndexical K). y.cond) rest) ws numbers
nothing_made fronts rest ws numbers a b c d = rw (a, b, c, d) apart_nothing

module _ {K : ℕ} (cs : List Cond) (fronts rest next : List (AnyIndexical K)) (ws vs : List (Option Cond)) (numbers : List ℕ) (x : AnyIndexical K) where
  -- one more that stands whole
  pub whole_made : next ≡ fronts ++ x ∷ [] → vs ≡ ws ++ None ∷ [] → IsApart cs (map (λ (y : AnyIndexical K). y.cond) fronts) (map (λ (y : AnyIndexical K). y.cond) rest) ws numbers
      → IsApart (cs ++ x.cond ∷ []) (map (λ (y : AnyIndexical K). y.cond) next) (map (λ (y : AnyIndexical K). y.cond) rest) vs numbers
  whole_made e w a =
      let f = λ (y : AnyIndexical K). y.cond in
      let longer : map f next ≡ map f fronts ++ x.cond ∷ [] = ap (map f) e ∙ map-append f fronts (x ∷ []) in
      subst (λ (ds : List Cond). IsApart (cs ++ x.cond ∷ []) ds (map f rest) vs numbers) (sym longer)
      (subst (λ (us : List (Option Cond)). IsApart (cs ++ x.cond ∷ []) (map f fronts ++ x.cond ∷ []) (map f rest) us numbers) (sym w) (apart_whole cs (map f fronts) (map f rest) ws numbers a x.cond))

  -- one more that is taken apart
  pub parts_made : (more : List Cond) (first : AnyIndexical K) (behind : List (AnyIndexical K)) (others : List ℕ) (number : ℕ) → next ≡ fronts ++ first ∷ [] → vs ≡ ws ++ Some x.cond ∷ [] → map (λ (y : AnyIndexical K). y.cond) behind ≡ map (λ (y : AnyIndexical K). y.cond) rest ++ more
      → others ≡ numbers ++ replicate (length more) number → number ≡ length fronts + 1 → IsAllOf x.cond (more ++ first.cond ∷ []) → (IsBare x.cond → ⊥)
      → IsApart cs (map (λ (y : AnyIndexical K). y.cond) fronts) (map (λ (y : AnyIndexical K). y.cond) rest) ws numbers
      → IsApart (cs ++ x.cond ∷ []) (map (λ (y : AnyIndexical K). y.cond) next) (map (λ (y : AnyIndexical K). y.cond) behind) vs others
  parts_made more first behind others number e w r n is all named a =
      let f = λ (y : AnyIndexical K). y.cond in
      let longer : map f next ≡ map f fronts ++ first.cond ∷ [] = ap (map f) e ∙ map-append f fronts (first ∷ []) in
      let at : number ≡ length cs + 1 = let l = a.long in let m = length-map fronts f in omega (arith, is, l, m) in
      subst (λ (ds : List Cond). IsApart (cs ++ x.cond ∷ []) ds (map f behind) vs others) (sym longer)
      (subst (λ (ds : List Cond). IsApart (cs ++ x.cond ∷ []) (map f fronts ++ first.cond ∷ []) ds vs others) (sym r)
      (subst (λ (us : List (Option Cond)). IsApart (cs ++ x.cond ∷ []) (map f fronts ++ first.cond ∷ []) (map f rest ++ more) us others) (sym w)
      (subst (λ (ns : List ℕ). IsApart (cs ++ x.cond ∷ []) (map f fronts ++ first.cond ∷ []) (map f rest ++ more) (ws ++ Some x.cond ∷ []) ns) (sym n)
      (apart_parts cs (map f fronts) (map f rest) ws numbers a x.cond first.cond more number at all named))))

-- more behind others, by their conditions
pub longer_by : {K : ℕ} (rest behind : List (AnyIndexical K)) (more : List Cond) → map (λ (y : AnyIndexical K). y.cond) behind ≡ map (λ (y : AnyIndexical K). y.cond) rest ++ more → length behind ≡ length rest + length more
longer_by {K} rest behind more e =
    let f = λ (y : AnyIndexical K). y.cond in
    let a = length-map behind f in
    let b = length-map rest f in
    let c = length-append (map f rest) more in
    let d : length (map f behind) ≡ length (map f rest ++ more) = ap length e in
    omega (arith, a, b, c, d)
