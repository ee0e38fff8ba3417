-- The least of the places of several lists.
use Rattle.std.proofs.Common.{◌≡◌, ℕ, ◌+◌, ◌<◌, ◌≤◌, List, [], ◌∷◌, ◌++◌, length, drop, map, get_or, Option, Some, None, refl, sym, ap, ◌∙◌, arith}
use Rattle.std.specs.Prelude.{min}
use Rattle.std.proofs.lemmas.List.{drop_more, drop_all}
use Rattle.problem_data.specs.Divisors.{lesser, least_in}

min_assoc : (a b c : ℕ) → min (min a b) c ≡ min a (min b c)
min_assoc a b c = omega arith

pub lesser_assoc : (a b c : Option ℕ) → lesser (lesser a b) c ≡ lesser a (lesser b c)
lesser_assoc None b c = refl
lesser_assoc (Some a) None c = refl
lesser_assoc (Some a) (Some b) None = refl
lesser_assoc (Some a) (Some b) (Some c) = ap (λ n. Some n) (min_assoc a b c)

pub lesser_none : (a : Option ℕ) → lesser a None ≡ a
lesser_none None = refl
lesser_none (Some a) = refl

pub least_append : (ms ns : List ℕ) → least_in (ms ++ ns) ≡ lesser (least_in ms) (least_in ns)
least_append [] ns = refl
least_append (m ∷ ms) ns = ap (lesser (Some m)) (least_append ms ns) ∙ sym (lesser_assoc (Some m) (least_in ms) (least_in ns))

-- a loop over parts, where `all` has the places of all parts and `zeros` those of one
module _ {X A : Type 0} (view : X → A) (zeros : A → List ℕ) (all : List A → List ℕ) (more : (a : A) (others : List A) → all (a ∷ others) ≡ zeros a ++ all others) (none : all [] ≡ []) where
  pub zero_step : (xs : List X) (i : ℕ) (x : X) (found here o total : Option ℕ) → i < length xs → x ≡ get_or xs i x → o ≡ lesser found here → here ≡ least_in (zeros (view x))
      → lesser found (least_in (all (map view (drop i xs)))) ≡ total → lesser o (least_in (all (map view (drop (i + 1) xs)))) ≡ total
  zero_step xs i x found here o total lt e s h inv =
      let rest : List ℕ = all (map view (drop (i + 1) xs)) in
      let d : drop i xs ≡ x ∷ drop (i + 1) xs = drop_more xs i x lt ∙ ap (λ (y : X). y ∷ drop (i + 1) xs) (sym e) in
      let a : least_in (all (map view (drop i xs))) ≡ lesser here (least_in rest) =
      ap (λ (ys : List X). least_in (all (map view ys))) d ∙ ap least_in (more (view x) (map view (drop (i + 1) xs))) ∙ least_append (zeros (view x)) rest ∙ ap (λ (o : Option ℕ). lesser o (least_in rest)) (sym h) in
      ap (λ (o : Option ℕ). lesser o (least_in rest)) s ∙ lesser_assoc found here (least_in rest) ∙ ap (lesser found) (sym a) ∙ inv

  pub zero_done : (xs : List X) (i : ℕ) (found total : Option ℕ) → length xs ≤ i → lesser found (least_in (all (map view (drop i xs)))) ≡ total → found ≡ total
  zero_done xs i found total le inv =
      sym (lesser_none found) ∙ ap (λ (ns : List ℕ). lesser found (least_in ns)) (sym none ∙ ap (λ (ys : List X). all (map view ys)) (sym (drop_all i xs le))) ∙ inv

-- the least of two lists, each known by its least
pub two_lists : (ms ns : List ℕ) (a b o : Option ℕ) → o ≡ lesser a b → a ≡ least_in ms → b ≡ least_in ns → o ≡ least_in (ms ++ ns)
two_lists ms ns a b o e f g = e ∙ ap (λ (x : Option ℕ). lesser x b) f ∙ ap (lesser (least_in ms)) g ∙ sym (least_append ms ns)
