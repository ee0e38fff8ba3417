-- No tokens have two readings.
use Rattle.std.proofs.Common.{◌≡◌, ℕ, List, [], ◌∷◌, ◌++◌, ◌⊎◌, inl, inr, refl, sym, ap, ◌∙◌, append_assoc, subst}
use Rattle.geo_tokens.specs.declared.token.Token.{Token}
use Rattle.geo_tokens.specs.Words.{Lang}
use Rattle.geo_tokens.specs.Reading.{Parts}
use Rattle.geo_tokens.specs.Deep.{Spells, IsValue, IsFault}
use Rattle.geo_tokens.proofs.Lists.{Cuts, behind, before, cuts}

-- what agrees at its first token does not part
agrees : (e more rest : List Token) → Parts (e ++ more) (e ++ rest) → e ≡ [] ⊎ ⊥
agrees [] more rest h = inl refl
agrees (t ∷ e) more rest h = inr (h refl)

never : (e rest : List Token) → Parts e (e ++ rest) → ⊥
never [] rest h = h
never (t ∷ e) rest h = h refl

module _ {A : Type 0} (L : ℕ → Lang A) (w : List Token) where
  value_value_at : (a b : A) (rest last : List Token) (r : IsValue L w a rest) (q : IsValue L w b last) → Cuts r.run rest q.run last → (a ≡ b) × (rest ≡ last)
  value_value_at a b rest last r q (behind e c d) =
      elim (q.only a e (subst (λ (u : List Token). Spells L a u) c r.spells)) [
        | inl z ↦ (z.1, sym (d ∙ ap (λ (u : List Token). u ++ rest) z.0))
        | inr z ↦ absurd (never e rest (subst (λ (u : List Token). Parts e u) d z))
      ]
  value_value_at a b rest last r q (before s e c d) =
      elim (r.only b (s ∷ e) (subst (λ (u : List Token). Spells L b u) c q.spells)) [
        | inl z ↦ (let no_way : s ∷ e ≡ [] = z.0 in absurd cc)
        | inr z ↦ absurd (never (s ∷ e) last (subst (λ (u : List Token). Parts (s ∷ e) u) d z))
      ]

  pub value_value : (a b : A) (rest last : List Token) → IsValue L w a rest → IsValue L w b last → (a ≡ b) × (rest ≡ last)
  value_value a b rest last r q = value_value_at a b rest last r q (cuts r.run rest q.run last (sym r.parts ∙ q.parts))

  value_fault_at : (a : A) (rest last : List Token) (r : IsValue L w a rest) (q : IsFault L w last) → Cuts r.run rest q.run last → ⊥
  value_fault_at a rest last r q (behind e c d) = never e rest (subst (λ (u : List Token). Parts e u) d (q.only a e (subst (λ (u : List Token). Spells L a u) c r.spells)))
  value_fault_at a rest last r q (before s e c d) =
      elim (r.only q.value ((s ∷ e) ++ q.more) (subst (λ (u : List Token). Spells L q.value u) (append_assoc r.run (s ∷ e) q.more) (subst (λ (u : List Token). Spells L q.value (u ++ q.more)) c q.begins))) [
        | inl z ↦ (let no_way : s ∷ (e ++ q.more) ≡ [] = z.0 in absurd cc)
        | inr z ↦ elim (agrees (s ∷ e) q.more last (subst (λ (u : List Token). Parts ((s ∷ e) ++ q.more) u) d z)) [ inl y ↦ absurd cc | inr y ↦ y ]
      ]

  pub value_fault : (a : A) (rest last : List Token) → IsValue L w a rest → IsFault L w last → ⊥
  value_fault a rest last r q = value_fault_at a rest last r q (cuts r.run rest q.run last (sym r.parts ∙ q.parts))

  longer_fault : (rest last : List Token) (r : IsFault L w rest) (q : IsFault L w last) (e : List Token) → r.run ≡ q.run ++ e → last ≡ e ++ rest → e ≡ []
  longer_fault rest last r q e c d =
      elim (agrees e r.more rest (subst (λ (u : List Token). Parts (e ++ r.more) u) d
      (q.only r.value (e ++ r.more) (subst (λ (u : List Token). Spells L r.value u) (append_assoc q.run e r.more) (subst (λ (u : List Token). Spells L r.value (u ++ r.more)) c r.begins))))) [ inl y ↦ y | inr y ↦ absurd y ]

  fault_fault_at : (rest last : List Token) (r : IsFault L w rest) (q : IsFault L w last) → Cuts r.run rest q.run last → rest ≡ last
  fault_fault_at rest last r q (behind e c d) = sym (d ∙ ap (λ (u : List Token). u ++ rest) (longer_fault rest last r q e c d))
  fault_fault_at rest last r q (before s e c d) = let no_way : s ∷ e ≡ [] = longer_fault last rest q r (s ∷ e) c d in absurd cc

  pub fault_fault : (rest last : List Token) → IsFault L w rest → IsFault L w last → rest ≡ last
  fault_fault rest last r q = fault_fault_at rest last r q (cuts r.run rest q.run last (sym r.parts ∙ q.parts))
