-- Which condition is blamed.
use Rattle.std.proofs.Common.{◌≡◌, ℕ, suc, ◌-◌, ◌<◌, ◌==◌, ◌||◌, true, false, List, [], ◌∷◌, ◌++◌, length, take, get_or, refl, sym, ap, ◌∙◌, subst, arith, slice_index, Some}
use Rattle.std.specs.Prelude.{slice_get}
use Rattle.std.specs.List.{All, list_any}
use Rattle.std.proofs.lemmas.List.{append_cancel_left, get_or-take, length-take}
use Rattle.std.proofs.lemmas.Option.{slice_get-get_or}
use Rattle.geo_conditions.specs.declared.cond.Cond.{Cond, Lin, Shape, NotShape, AtLeast', Row_of-Cond, end_of-Cond, more_of-Cond}
use Rattle.geo_conditions.specs.declared.form.Term.{Term}
use Rattle.geo_conditions.specs.Conditions.{possible, AllFitIn}
use Rattle.geo_conditions.specs.Reach.{State, Exists}
use Rattle.derivation.specs.declared.event.Event.{Event}
use Rattle.derivation.specs.declared.event.Event.TheVariants.{Dead}
use Rattle.geo_state.specs.Settle.{IsBare, BlamesFirst}
use Rattle.indexical.specs.Names.{names, any_names}
use Rattle.fixpoint.specs.Links.{BareOf, names_none}
use Rattle.fixpoint.specs.Near.{BarePossible}
use Rattle.fixpoint.specs.Record.{NoneLower}
use Rattle.fixpoint.proofs.Linking.{index_of, none_named}

-- ---- a bare condition names no object

terms_none : (o : ℕ) (ts : List Term) → All (λ a. Exists [] a.object.0 a.dimension) ts → list_any (λ t. t.object.0 == o) ts ≡ false
terms_none o [] h = refl
terms_none o (t ∷ ts) h = let l : t.object.0 < 0 = (h 0 t (omega arith)).0 in absurd (omega (arith, l))

mutual
  bare_none : (c : Cond) (o : ℕ) → IsBare c → names o c ≡ false
  bare_none (Lin f) o h = terms_none o f.terms h
  bare_none (Shape u s) o h = absurd (omega (arith, h))
  bare_none (NotShape u s) o h = absurd (omega (arith, h))
  bare_none (AtLeast' n shape cs) o h = bare_row cs o h

  bare_row : {m : _} (cs : Row_of-Cond m) (o : ℕ) → AllFitIn cs [] → any_names o cs ≡ false
  bare_row end_of-Cond o h = refl
  bare_row (more_of-Cond c cs) o h = ap (λ b. b || any_names o cs) (bare_none c o h.0) ∙ bare_row cs o h.1

-- ---- the one that is blamed

same_number : (old : List Event) (i j : ℕ) → old ++ Dead i ∷ [] ≡ old ++ Dead j ∷ [] → i ≡ j
same_number old i j e = let f : Dead i ∷ [] ≡ Dead j ∷ [] = append_cancel_left old (Dead i ∷ []) (Dead j ∷ []) e in cc

-- no bare condition before a number is refuted, where none of them is refuted that is listed
none_before : (cs : List Cond) (S : State) (n i : ℕ) (numbers : List ℕ) → BareOf cs n numbers → NoneLower cs numbers S i → All (λ c. IsBare c → possible c S ≡ true) (take (i - 1) cs)
none_before cs S n i numbers b h k d l bare =
    let e = length-take (i - 1) cs in
    let m : k < i - 1 = omega (arith, l, e) in
    let there : k < length cs = omega (arith, l, e) in
    let same : get_or (take (i - 1) cs) k d ≡ get_or cs k d = get_or-take (i - 1) cs k d m in
    let names : names_none n (get_or cs k d) ≡ true = none_named (get_or cs k d) n (λ o q. bare_none (get_or cs k d) o (subst IsBare same bare)) in
    let w = index_of (suc k) numbers (b.each k d there ∙ names) in
    let number = w.2 in
    let at : slice_index numbers w.0 - 1 ≡ k = omega (arith, number) in
    subst (λ c. possible c S ≡ true) (sym same)
    (h w.0 (get_or cs k d) (w.1, subst (λ j. slice_get cs j ≡ Some (get_or cs k d)) (sym at) (slice_get-get_or cs k d there)) (omega (arith, number, m)))

pub blames_listed : (cs : List Cond) (S : State) (n i : ℕ) (numbers : List ℕ) (old new : List Event) → BareOf cs n numbers → NoneLower cs numbers S i → new ≡ old ++ Dead i ∷ [] → BlamesFirst cs S old new
blames_listed cs S n i numbers old new b h e j f =
    subst (λ m. All (λ c. IsBare c → possible c S ≡ true) (take (m - 1) cs)) (same_number old i j (sym e ∙ f)) (none_before cs S n i numbers b h)

-- where no bare condition is refuted, none is blamed wrongly
pub blames_none : (cs : List Cond) (S : State) (old new : List Event) → BarePossible cs S → BlamesFirst cs S old new
blames_none cs S old new h j f k d l bare =
    let e = length-take (j - 1) cs in
    let same : get_or (take (j - 1) cs) k d ≡ get_or cs k d = get_or-take (j - 1) cs k d (omega (arith, l, e)) in
    subst (λ c. possible c S ≡ true) (sym same) (h k d (omega (arith, l, e)) (λ o q. bare_none (get_or cs k d) o (subst IsBare same bare)))
