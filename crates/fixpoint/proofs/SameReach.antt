-- What is open to an object is the same in two states where its places and its ends are.
use Rattle.std.proofs.Common.{◌≡◌, ◌<◌, ℕ, suc, Bool, true, false, List, length, get_or, sym, ap, ◌∙◌, subst, inl, inr, ℤ, pos}
use Rattle.std.proofs.lemmas.Bool.{cases_Bool, false≢true, false_from_ne_true}
use Rattle.std.proofs.lemmas.List.{ext_get_or}
use Rattle.geo_base.specs.Boxes.{coordinate}
use Rattle.geo_conditions.specs.Reach.{Region, is_only, place_in}
use Rattle.geo_conditions.proofs.Sets.{only_out}

-- sets of as many tests that have the same place alone
pub same_alone : (bs cs : List Bool) (s : ℕ) → length bs ≡ length cs → is_only bs s ≡ true → is_only cs s ≡ true → bs ≡ cs
same_alone bs cs s long b c =
    let x = only_out bs s b in
    let y = only_out cs s c in
    ext_get_or false bs cs long (λ i h. elim (cases_Bool (get_or bs i false)) [
      | inl e ↦ e ∙ sym (subst (λ (u : ℕ). place_in cs u ≡ true) (sym (x.1 (suc i) e)) y.0)
      | inr e ↦ e ∙ sym (false_from_ne_true (get_or cs i false) (λ t. false≢true (sym e ∙ subst (λ (u : ℕ). place_in bs u ≡ true) (sym (y.1 (suc i) t)) x.0)))
    ])

abbrev box : List ℤ → List ℤ → Region
box lo hi = record { lo = lo; hi = hi }

-- regions of k dimensions with the same ends in each
pub same_region : (k : ℕ) (a b : Region) → length a.lo ≡ k → length a.hi ≡ k → length b.lo ≡ k → length b.hi ≡ k → ((d : ℕ) → d < k → (coordinate a.lo d ≡ coordinate b.lo d) × (coordinate a.hi d ≡ coordinate b.hi d)) → a ≡ b
same_region k a b al ah bl bh same =
    let lo : a.lo ≡ b.lo = ext_get_or (pos 0) a.lo b.lo (al ∙ sym bl) (λ d h. (same d (subst (λ (n : ℕ). d < n) al h)).0) in
    let hi : a.hi ≡ b.hi = ext_get_or (pos 0) a.hi b.hi (ah ∙ sym bh) (λ d h. (same d (subst (λ (n : ℕ). d < n) ah h)).1) in
    ap (λ (x : List ℤ). box x a.hi) lo ∙ ap (box b.lo) hi
