-- A name is in a list where its position is below the length.
use Rattle.std.proofs.Common.{◌≡◌, ℕ, suc, ◌+◌, ◌<◌, List, [], ◌∷◌, length, true, inl, inr, sym, ap, arith, subst}
use Rattle.std.specs.Prelude.{not, cond, nat_lt}
use Rattle.std.specs.List.{Contains, position_or_len}
use Rattle.std.specs.Str.{bytes_eq}
use Rattle.std.proofs.lemmas.Bool.{cases_Bool}
use Rattle.std.proofs.lemmas.Bool.Decides.{nat_tests}
use Rattle.std.proofs.lemmas.List.{length-map}
use Rattle.std.proofs.lemmas.Slice.Eq.{bytes_eq-Decides}
use Rattle.rule_syntax.specs.declared.tree.PlacedName.{PlacedName}
use Rattle.problem_data.specs.Problem.{ObjectData, ProblemData}
use Rattle.problem_data.specs.Meaning.{position_of}
use Rattle.problem_text.proofs.Positions.{made_or_not}
use Rattle.layout_text.specs.Faults.{name_of_shape, shape_names}

pub below : (a b : ℕ) → nat_lt a b ≡ true → a < b
below a b h = grind (arith, nat_tests)

pub below_back : (a b : ℕ) → a < b → nat_lt a b ≡ true
below_back a b h = grind (arith, nat_tests)

at_position : (x : List ℕ) (names : List (List ℕ)) → position_or_len (bytes_eq x) names < length names → Contains names x
at_position x [] h = absurd (omega arith)
at_position x (n ∷ names) h = elim (cases_Bool (bytes_eq x n)) [
  | inl e ↦ (0, omega arith, sym ((bytes_eq-Decides x n).0 e))
  | inr e ↦ (let z : position_or_len (bytes_eq x) (n ∷ names) ≡ 1 + position_or_len (bytes_eq x) names = ap (λ t. cond (not t) (1 + position_or_len (bytes_eq x) names) 0) e in
      let less : position_or_len (bytes_eq x) names < length names = omega arith in
      let r = at_position x names less in
      (suc r.0, omega arith, r.2))
]

module _ (p : ProblemData) (o : ObjectData) (n : PlacedName) where
  pub listed : position_of (shape_names p o) n < length o.shapes → Contains (shape_names p o) n.name
  listed h = at_position n.name (shape_names p o) (let e = length-map o.shapes (name_of_shape p) in omega arith)

  pub listed_back : Contains (shape_names p o) n.name → position_of (shape_names p o) n < length o.shapes
  listed_back h = elim (made_or_not (shape_names p o) n) [
    | inl m ↦ subst (λ (k : ℕ). position_of (shape_names p o) n < k) (length-map o.shapes (name_of_shape p)) m.inside
    | inr none ↦ absurd (none h)
  ]
