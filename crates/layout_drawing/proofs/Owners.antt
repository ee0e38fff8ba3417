-- What an owner says of a cell, and the sign that it gives.
use Rattle.std.proofs.Common.{◌≡◌, ◌≢◌, ◌==◌, ℕ, Bool, true, false, List, refl, sym, ap, ◌∙◌, subst, inl, inr, ◌⊎◌, if◌then◌else◌, ℤ}
use Rattle.std.proofs.lemmas.Bool.{cases_Bool, false≢true}
use Rattle.std.proofs.lemmas.Bool.Decides.{Decides-eqb}
use Rattle.geo_conditions.specs.declared.object.ObjId.{ObjId}
use Rattle.layout_drawing.specs.declared.owner.Owner.{Owner}
use Rattle.layout_drawing.specs.declared.owner.Owner.TheVariants.{Nobody, One, Several}
use Rattle.layout_drawing.specs.Drawing.{sign_of, IsSign, free, one, several, AreSigns}
use Rattle.layout_drawing.specs.Painting.{owner_with, owner_sign, IsOwner}

module _ (P Q : ℕ → Type 0) (into : (u : ℕ) → P u → Q u) where
  -- the same objects have the cell
  pub owner_same : (w : Owner) → ((u : ℕ) → Q u → P u) → IsOwner P w → IsOwner Q w
  owner_same Nobody back h = λ u q. h u (back u q)
  owner_same (One o) back h = (into o.0 h.0, λ u q. h.1 u (back u q))
  owner_same Several back h = (h.0, h.1, h.2, into h.0 h.3, into h.1 h.4)

  -- the object o has it too
  pub owner_more : (w : Owner) (o : ObjId) → Q o.0 → ((u : ℕ) → Q u → P u ⊎ (u ≡ o.0)) → IsOwner P w → IsOwner Q (owner_with w o)
  owner_more Nobody o has back h = (has, λ u q. elim (back u q) [ inl p ↦ absurd (h u p) | inr e ↦ e ])
  owner_more (One v) o has back h = elim (cases_Bool (v.0 == o.0)) [
    | inl e ↦ subst (λ (b : Bool). IsOwner Q (if b then One v else Several)) (sym e)
        (into v.0 h.0, λ u q. elim (back u q) [ inl p ↦ h.1 u p | inr k ↦ k ∙ sym ((Decides-eqb v.0 o.0).0 e) ])
    | inr e ↦ subst (λ (b : Bool). IsOwner Q (if b then One v else Several)) (sym e)
        (v.0, o.0, (λ k. false≢true (sym e ∙ (Decides-eqb v.0 o.0).1 k)), into v.0 h.0, has)
  ]
  owner_more Several o has back h = (h.0, h.1, h.2, into h.0 h.3, into h.1 h.4)

pub owner_shows : (P : ℕ → Type 0) (w : Owner) → IsOwner P w → IsSign P (owner_sign w)
owner_shows P Nobody h = free h refl
owner_shows P (One o) h = one o.0 h.0 h.1 refl
owner_shows P Several h = several h.0 h.1 h.2 h.3 h.4 refl

-- a cell has one sign
pub one_sign : (P : ℕ → Type 0) (x y : ℕ) → IsSign P x → IsSign P y → x ≡ y
one_sign P x y (free none e) (free also g) = e ∙ sym g
one_sign P x y (free none e) (one o has only g) = absurd (none o has)
one_sign P x y (free none e) (several o u other has also g) = absurd (none o has)
one_sign P x y (one o has only e) (free none g) = absurd (none o has)
one_sign P x y (one o has only e) (one u also alone g) = e ∙ ap sign_of (alone o has) ∙ sym g
one_sign P x y (one v own only e) (several o u other has also g) = absurd (other (only o has ∙ sym (only u also)))
one_sign P x y (several o u other has also e) (free none g) = absurd (none o has)
one_sign P x y (several o u other has also e) (one v own only g) = absurd (other (only o has ∙ sym (only u also)))
one_sign P x y (several o u other has also e) (several v w another own others g) = e ∙ sym g

pub same_signs : (Has : ℕ → List ℤ → Type 0) (f g : List ℤ → ℕ) → AreSigns Has f → AreSigns Has g → f ≡ g
same_signs Has f g h k = λ i c. one_sign (λ o. Has o c) (f c) (g c) (h c) (k c) i

-- signs of cells that the same objects have
pub signs_same : (P Q : ℕ → Type 0) (x : ℕ) → ((u : ℕ) → P u → Q u) → ((u : ℕ) → Q u → P u) → IsSign P x → IsSign Q x
signs_same P Q x into back (free none e) = free (λ o q. none o (back o q)) e
signs_same P Q x into back (one o has only e) = one o (into o has) (λ u q. only u (back u q)) e
signs_same P Q x into back (several o u other has also e) = several o u other (into o has) (into u also) e
