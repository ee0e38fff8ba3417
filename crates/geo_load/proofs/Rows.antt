-- Answers about pairs of objects, one more at a time.
use Rattle.std.proofs.Common.{◌≡◌, ◌<◌, ◌+◌, ◌↔◌, ℕ, zero, suc, Bool, true, false, List, [], ◌∷◌, ◌++◌, length, get_or, slice_get, Option, Some, Vec, Global, refl, sym, subst, ap, ◌∙◌, arith, inl, inr}
use Rattle.std.specs.Bool.{OnTrue, OnFalse}
use Rattle.std.specs.Option.{option_map_or}
use Rattle.std.proofs.lemmas.Bool.{cases_lt, false≢true}
use Rattle.std.proofs.lemmas.List.{get_or_push, get_or_append_left}
use Rattle.geo_base.specs.Tuple.{Tuple}
use Rattle.problem_data.specs.Problem.{ProblemData}
use Rattle.geo_load.specs.Blocks.{Blocks}
use Rattle.geo_load.specs.Pairs.{IsRow}

told : (b : Bool) (P : Type 0) → OnTrue b P → OnFalse b (P → ⊥) → (b ≡ true) ↔ P
told true P is isnt = ((λ e. is), (λ h. refl))
told false P is isnt = ((λ e. absurd (false≢true e)), (λ h. absurd (isnt h)))

get_front : {X : Type 0} (xs ys : List X) (i : ℕ) → i < length xs → slice_get (xs ++ ys) i ≡ slice_get xs i
get_front [] ys i h = absurd (omega (arith, h))
get_front (x ∷ xs) ys zero h = refl
get_front (x ∷ xs) ys (suc i) h = get_front xs ys i (omega (arith, h))

get_last : {X : Type 0} (xs : List X) (x : X) → slice_get (xs ++ x ∷ []) (length xs) ≡ Some x
get_last [] x = refl
get_last (y ∷ xs) x = get_last xs x

-- the row at a position; none, past the end
abbrev pub row_in : List (Vec Bool Global) → ℕ → List Bool
row_in rows i = option_map_or (λ row. row.items) (slice_get rows i) []

module _ (p : ProblemData) (t : Tuple) (d : ℕ) where
  pub row_more : (i n : ℕ) (row more : List Bool) (b : Bool) → length row ≡ n → more ≡ row ++ b ∷ [] → OnTrue b (Blocks p t d i n) → OnFalse b (Blocks p t d i n → ⊥)
      → IsRow p t d i n row → IsRow p t d i (n + 1) more
  row_more i n row more b long is y z right j l = subst (λ (xs : List Bool). (get_or xs j false ≡ true) ↔ Blocks p t d i j) (sym is) (elim (cases_lt j n) [
    | inl before ↦ subst (λ (x : Bool). (x ≡ true) ↔ Blocks p t d i j) (sym (get_or_append_left row (b ∷ []) false j (omega (arith, before, long)))) (right j before)
    | inr ge ↦ (
        let same : n ≡ j = omega (arith, l, ge) in
        subst (λ (m : ℕ). (get_or (row ++ b ∷ []) m false ≡ true) ↔ Blocks p t d i m) same
        (subst (λ (x : Bool). (x ≡ true) ↔ Blocks p t d i n) (sym (get_or_push row b false n long)) (told b (Blocks p t d i n) y z))
        )
  ])

  pub rows_more : (n count : ℕ) (rows more : List (Vec Bool Global)) (row : Vec Bool Global) → length rows ≡ n → more ≡ rows ++ row ∷ [] → IsRow p t d n count row.items
      → ((i : ℕ) → i < n → IsRow p t d i count (row_in rows i)) → (i : ℕ) → i < n + 1 → IsRow p t d i count (row_in more i)
  rows_more n count rows more row long is own right i l = subst (λ (xs : List (Vec Bool Global)). IsRow p t d i count (row_in xs i)) (sym is) (elim (cases_lt i n) [
    | inl before ↦ subst (λ (x : Option (Vec Bool Global)). IsRow p t d i count (option_map_or (λ row. row.items) x [])) (sym (get_front rows (row ∷ []) i (omega (arith, before, long)))) (right i before)
    | inr ge ↦ (
        let same : n ≡ i = omega (arith, l, ge) in
        subst (λ (m : ℕ). IsRow p t d m count (row_in (rows ++ row ∷ []) m)) same
        (subst (λ (x : Option (Vec Bool Global)). IsRow p t d n count (option_map_or (λ row. row.items) x [])) (sym (ap (slice_get (rows ++ row ∷ [])) (sym long) ∙ get_last rows row)) own)
        )
  ])
