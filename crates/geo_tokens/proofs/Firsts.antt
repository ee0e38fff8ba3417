-- The first of things of two kinds, the earlier of two and of three, and that there is one first alone.
use Rattle.std.proofs.Common.{◌≡◌, Bool, true, false, Option, Some, None, ◌⊎◌, inl, inr, ⊎_elim, refl, sym, ap, ◌∙◌, subst}
use Rattle.std.specs.Prelude.{if◌then◌else◌}
use Rattle.geo_tokens.specs.First.{IsFirstBy, IsLeastBy, earlier_by, IsOrdering}

module _ {A : Type 0} (is_after : A → A → Bool) where
  -- the first of the same things
  pub least_same : (P Q : A → Type 0) (o : Option A) → ((f : A) → P f → Q f) → ((f : A) → Q f → P f) → IsLeastBy is_after P o → IsLeastBy is_after Q o
  least_same P Q None to back h = λ f q. h f (back f q)
  least_same P Q (Some x) to back h = record { there = to x h.there; first = λ y q. h.first y (back y q) }

  pub earlier_none : (a : Option A) → earlier_by is_after a None ≡ a
  earlier_none None = refl
  earlier_none (Some a) = refl

  pick : (b : Bool) (f g : A) → b ≡ true → (if b then Some g else Some f) ≡ Some g
  pick true f g e = refl
  pick false f g e = absurd cc

  keep : (b : Bool) (f g : A) → b ≡ false → (if b then Some g else Some f) ≡ Some f
  keep true f g e = absurd cc
  keep false f g e = refl

  module _ (laws : IsOrdering is_after) where
    pub not_self : (f : A) → is_after f f ≡ false
    not_self f = by (is_after f f) refl where
      by : (b : Bool) → is_after f f ≡ b → is_after f f ≡ false
      by true e = laws.turn f f e
      by false e = e

    behind_both : (f g h : A) → is_after f g ≡ true → is_after g h ≡ true → is_after f h ≡ true
    behind_both f g h a b = by (is_after f h) refl where
      by : (c : Bool) → is_after f h ≡ c → is_after f h ≡ true
      by true e = e
      by false e = let d : is_after g h ≡ false = laws.chain g f h (laws.turn f g a) e in absurd cc

    pub one_first : (P : A → Type 0) (f g : A) → IsFirstBy is_after P f → IsFirstBy is_after P g → f ≡ g
    one_first P f g a b = laws.same f g (a.first g b.there) (b.first f a.there)

    -- the first of one thing
    pub least_one : (f : A) → IsFirstBy is_after (λ g. f ≡ g) f
    least_one f = record { there = refl; first = λ g e. subst (λ (x : A). is_after f x ≡ false) e (not_self f) }

    -- the first of things of two kinds
    pub least_or : (P Q : A → Type 0) (a b : Option A) → IsLeastBy is_after P a → IsLeastBy is_after Q b → IsLeastBy is_after (λ f. P f ⊎ Q f) (earlier_by is_after a b)
    least_or P Q None None h g = λ f. ⊎_elim (h f) (g f)
    least_or P Q None (Some y) h g = record { there = inr g.there; first = λ x. ⊎_elim (λ p. absurd (h x p)) (g.first x) }
    least_or P Q (Some x) None h g = record { there = inl h.there; first = λ y. ⊎_elim (h.first y) (λ q. absurd (g y q)) }
    least_or P Q (Some x) (Some y) h g = by (is_after x y) refl where
      by : (t : Bool) → is_after x y ≡ t → IsLeastBy is_after (λ f. P f ⊎ Q f) (if t then Some y else Some x)
      by true e = record { there = inr g.there; first = λ z. ⊎_elim (λ p. laws.chain y x z (laws.turn x y e) (h.first z p)) (g.first z) }
      by false e = record { there = inl h.there; first = λ z. ⊎_elim (h.first z) (λ q. laws.chain x y z e (g.first z q)) }

    three : (f g h : A) (b c : Bool) → is_after f g ≡ b → is_after g h ≡ c
        → earlier_by is_after (earlier_by is_after (Some f) (Some g)) (Some h) ≡ earlier_by is_after (Some f) (earlier_by is_after (Some g) (Some h))
    three f g h true true e d =
        ap (λ x. earlier_by is_after x (Some h)) (pick (is_after f g) f g e) ∙ pick (is_after g h) g h d
        ∙ sym (ap (earlier_by is_after (Some f)) (pick (is_after g h) g h d) ∙ pick (is_after f h) f h (behind_both f g h e d))
    three f g h true false e d =
        ap (λ x. earlier_by is_after x (Some h)) (pick (is_after f g) f g e) ∙ keep (is_after g h) g h d
        ∙ sym (ap (earlier_by is_after (Some f)) (keep (is_after g h) g h d) ∙ pick (is_after f g) f g e)
    three f g h false true e d =
        ap (λ x. earlier_by is_after x (Some h)) (keep (is_after f g) f g e)
        ∙ sym (ap (earlier_by is_after (Some f)) (pick (is_after g h) g h d))
    three f g h false false e d =
        ap (λ x. earlier_by is_after x (Some h)) (keep (is_after f g) f g e) ∙ keep (is_after f h) f h (laws.chain f g h e d)
        ∙ sym (ap (earlier_by is_after (Some f)) (keep (is_after g h) g h d) ∙ keep (is_after f g) f g e)

    pub earlier_assoc : (a b c : Option A) → earlier_by is_after (earlier_by is_after a b) c ≡ earlier_by is_after a (earlier_by is_after b c)
    earlier_assoc None b c = refl
    earlier_assoc (Some f) None c = refl
    earlier_assoc (Some f) (Some g) None = earlier_none (earlier_by is_after (Some f) (Some g))
    earlier_assoc (Some f) (Some g) (Some h) = three f g h (is_after f g) (is_after g h) refl refl
