-- The owner of each cell can be found, so that each cell has a sign.
use Rattle.std.proofs.Common.{◌≡◌, ◌<◌, ℕ, zero, suc, ℤ, ◌≤ℤ◌, List, [], ◌∷◌, length, get_or, refl, sym, ap, ◌∙◌, subst, inl, inr, ◌⊎◌, arith}
use Rattle.std.specs.List.{Contains}
use Rattle.std.proofs.lemmas.Int.{ints}
use Rattle.geo_base.specs.Boxes.{coordinate, Has}
use Rattle.geo_conditions.proofs.Decide.{Decided, search_below, cases_ℤ}
use Rattle.layout_drawing.specs.declared.blocks.Block.{Block}
use Rattle.layout_drawing.specs.declared.owner.Owner.{Owner}
use Rattle.layout_drawing.specs.declared.owner.Owner.TheVariants.{Nobody}
use Rattle.layout_drawing.specs.Blocks.{lows, highs, BlockHas, Owns}
use Rattle.layout_drawing.specs.Drawing.{AreSigns}
use Rattle.layout_drawing.specs.Painting.{owner_with, owner_sign, IsOwner}
use Rattle.layout_drawing.proofs.Owners.{owner_same, owner_more, owner_shows}

in_or_out : (a x b : ℤ) → Decided ((a ≤ℤ x) × (x ≤ℤ b))
in_or_out a x b = elim (cases_ℤ x a) [
  | inl below ↦ inr (λ h. (let k = h.0 in absurd (omega (arith, ints))))
  | inr from ↦ elim (cases_ℤ b x) [ inl above ↦ inr (λ h. (let k = h.1 in absurd (omega (arith, ints)))) | inr to ↦ inl (from, to) ]
]

opposite : (P : Type 0) → Decided P → Decided (P → ⊥)
opposite P (inl p) = inr (λ n. n p)
opposite P (inr n) = inl n

has_or_not : (k : ℕ) (lo hi c : List ℤ) → Decided (Has k lo hi c)
has_or_not k lo hi c =
    elim (search_below (λ d. (coordinate lo d ≤ℤ coordinate c d) × (coordinate c d ≤ℤ coordinate hi d) → ⊥)
    (λ d. opposite ((coordinate lo d ≤ℤ coordinate c d) × (coordinate c d ≤ℤ coordinate hi d)) (in_or_out (coordinate lo d) (coordinate c d) (coordinate hi d))) k) [
      | inl out ↦ inr (λ h. out.2 (h out.0 out.1))
      | inr none ↦ inl (λ d lt. elim (in_or_out (coordinate lo d) (coordinate c d) (coordinate hi d)) [ inl inside ↦ inside | inr away ↦ absurd (none d lt away) ])
    ]

module _ (b : Block) (bs : List Block) (c : List ℤ) where
  owns_behind : (o : ℕ) → Owns bs o c → Owns (b ∷ bs) o c
  owns_behind o (x, (k, lt, same), object, has) = (x, (suc k, omega arith, same), object, has)

  owns_here : BlockHas b c → Owns (b ∷ bs) b.object.0 c
  owns_here has = (b, (zero, omega arith, refl), refl, has)

  owns_or : (o : ℕ) → Owns (b ∷ bs) o c → Owns bs o c ⊎ ((o ≡ b.object.0) × BlockHas b c)
  owns_or o (x, (zero, lt, same), object, has) = inr (subst (λ (y : Block). (o ≡ y.object.0) × BlockHas y c) (sym same) (sym object, has))
  owns_or o (x, (suc k, lt, same), object, has) = inl (x, (k, omega arith, same), object, has)

owner_found : (bs : List Block) (c : List ℤ) → (w : Owner) × IsOwner (λ o. Owns bs o c) w
owner_found [] c = (Nobody, λ o (x, (k, lt, same), object, has). absurd (omega arith))
owner_found (b ∷ bs) c =
    let r = owner_found bs c in
    elim (has_or_not (length b.spans.items) (lows b.spans.items) (highs b.spans.items) c) [
      | inl has ↦ (
        owner_with r.0 b.object,
        owner_more (λ o. Owns bs o c) (λ o. Owns (b ∷ bs) o c) (owns_behind b bs c) r.0 b.object (owns_here b bs c has)
            (λ u x. elim (owns_or b bs c u x) [ inl behind ↦ inl behind | inr here ↦ inr here.0 ]) r.1,
      )
      | inr away ↦ (
        r.0,
        owner_same (λ o. Owns bs o c) (λ o. Owns (b ∷ bs) o c) (owns_behind b bs c) r.0
            (λ u x. elim (owns_or b bs c u x) [ inl behind ↦ behind | inr here ↦ absurd (away here.1) ]) r.1,
      )
    ]

-- a sign for each cell
pub signs_found : (bs : List Block) → (sign : List ℤ → ℕ) × AreSigns (Owns bs) sign
signs_found bs = (λ c. owner_sign (owner_found bs c).0, λ c. owner_shows (λ o. Owns bs o c) (owner_found bs c).0 (owner_found bs c).1)
