-- A language and the same language with one level more.
use Rattle.std.proofs.Common.{◌≡◌, ℕ, zero, suc, List, [], ◌∷◌, ◌++◌, Option, Some, None, false, ◌⊎◌, inl, inr, refl, sym, ap, ◌∙◌, append_assoc, subst}
use Rattle.geo_tokens.specs.declared.token.Token.{Token}
use Rattle.geo_tokens.specs.Words.{Kinds, Of, Lang, Pure, Tok, Cut, Bind, cut, both, Either, left, right, Opt, there, not_there, UpTo, Many, UpToEnded, Ended, Chain, Placed}
use Rattle.geo_tokens.proofs.Facts.{Facts, MayBeEmpty}
use Rattle.geo_tokens.proofs.Levels.{IsCut, Splits, Above, tok_above, pure_above, bind_above, either_above, opt_above, many_above, placed_above}

-- M has a level more than L: what L spells M spells too, what is cut in L goes on in M; and what is in M is in L,
-- or some front of it is cut there.
pub record Step {A : Type 0} (L M : Lang A) : Type 0 where
  pub above : Above L M
  pub fall : (o : Option A) (w : List Token) → M o w → (L o w) ⊎ IsCut L w

pub tok_step : (ks : Kinds) (t : Token) → Of ks t → Step (Tok ks) (Tok ks)
tok_step ks t i = record { above = tok_above ks t i; fall = λ o w l. inl l }

pub pure_step : {A : Type 0} (a : A) → Step (Pure a) (Pure a)
pure_step a = record { above = pure_above a; fall = λ o w l. inl l }

module _ {A B : Type 0} (L M : Lang A) (K N : A → Lang B) where
  bind_fall : Step L M → ((a : A) → Step (K a) (N a)) → (o : Option B) (w : List Token) → Bind M N o w → (Bind L K o w) ⊎ IsCut (Bind L K) w
  bind_fall s t o w (cut e l) = elim (s.fall None w l) [ inl m ↦ inl (cut e m) | inr c ↦ inr (c.0, c.1, c.2, cut refl c.3) ]
  bind_fall s t o w (both a x y l k e) =
      elim (s.fall (Some a) x l) [
        | inl m ↦ elim ((t a).fall o y k) [
          | inl n ↦ inl (both a x y m n e)
          | inr c ↦ inr (x ++ c.0, c.1, e ∙ ap (λ (u : List Token). x ++ u) c.2 ∙ sym (append_assoc x c.0 c.1), both a x c.0 m c.3 refl)
        ]
        | inr c ↦ inr (c.0, c.1 ++ y, e ∙ ap (λ (u : List Token). u ++ y) c.2 ∙ append_assoc c.0 c.1 y, cut refl c.3)
      ]

  pub bind_step : Step L M → ((a : A) → Step (K a) (N a)) → Step (Bind L K) (Bind M N)
  bind_step s t = record { above = bind_above L M K N s.above (λ a. (t a).above); fall = bind_fall s t }

module _ {A : Type 0} (L M K N : Lang A) where
  either_fall : Step L M → Step K N → (o : Option A) (w : List Token) → Either M N o w → (Either L K o w) ⊎ IsCut (Either L K) w
  either_fall s t o w (left l) = elim (s.fall o w l) [ inl m ↦ inl (left m) | inr c ↦ inr (c.0, c.1, c.2, left c.3) ]
  either_fall s t o w (right k) = elim (t.fall o w k) [ inl m ↦ inl (right m) | inr c ↦ inr (c.0, c.1, c.2, right c.3) ]

  pub either_step : Step L M → Step K N → Step (Either L K) (Either M N)
  either_step s t = record { above = either_above L M K N s.above t.above; fall = either_fall s t }

module _ {A : Type 0} (L M : Lang A) (d : A) where
  opt_fall : Step L M → (o : Option A) (w : List Token) → Opt M d o w → (Opt L d o w) ⊎ IsCut (Opt L d) w
  opt_fall s o w (there l) = elim (s.fall o w l) [ inl m ↦ inl (there m) | inr c ↦ inr (c.0, c.1, c.2, there c.3) ]
  opt_fall s o w (not_there e1 e2) = inl (not_there e1 e2)

  pub opt_step : Step L M → Step (Opt L d) (Opt M d)
  opt_step s = record { above = opt_above L M d s.above; fall = opt_fall s }

module _ {A : Type 0} (L M : Lang A) where
  up_to_step : Step L M → (k : ℕ) → Step (UpTo L k) (UpTo M k)
  up_to_step s zero = pure_step []
  up_to_step s (suc k) = opt_step _ _ [] (bind_step L M (λ a. Bind (UpTo L k) (λ others. Pure (a ∷ others))) (λ a. Bind (UpTo M k) (λ others. Pure (a ∷ others))) s
      (λ a. bind_step (UpTo L k) (UpTo M k) (λ others. Pure (a ∷ others)) (λ others. Pure (a ∷ others)) (up_to_step s k) (λ others. pure_step (a ∷ others))))

  many_fall : Step L M → (o : Option (List A)) (w : List Token) → Many M o w → (Many L o w) ⊎ IsCut (Many L) w
  many_fall s o w l = elim ((up_to_step s l.0).fall o w l.1) [ inl m ↦ inl (l.0, m) | inr c ↦ inr (c.0, c.1, c.2, (l.0, c.3)) ]

  pub many_step : Step L M → Step (Many L) (Many M)
  many_step s = record { above = many_above L M s.above; fall = many_fall s }

module _ {A B : Type 0} (marks : Kinds) (L M : Lang A) (E F : Lang B) (t : Token) (i : Of marks t) (s : Step L M) (e : Step E F) where
  up_to_ended_step : (k : ℕ) → Step (UpToEnded marks L E k) (UpToEnded marks M F k)
  up_to_ended_step zero = pure_step ([], None)
  up_to_ended_step (suc k) = opt_step _ _ ([], None) (bind_step (Tok marks) (Tok marks) _ _ (tok_step marks t i) (λ m. either_step _ _ _ _
      (bind_step L M _ _ s (λ a. bind_step (UpToEnded marks L E k) (UpToEnded marks M F k) (λ r. Pure (a ∷ r.0, r.1)) (λ r. Pure (a ∷ r.0, r.1)) (up_to_ended_step k) (λ r. pure_step (a ∷ r.0, r.1))))
      (bind_step E F (λ x. Pure ([], Some x)) (λ x. Pure ([], Some x)) e (λ x. pure_step ([], Some x)))))

  ended_above : Above (Ended marks L E) (Ended marks M F)
  ended_above = record {
    raise = λ a w l. (l.0, (up_to_ended_step l.0).above.raise a w l.1);
    fill = λ y l. (let f = (up_to_ended_step l.0).above.fill y l.1 in (f.0, f.1, (l.0, f.2)));
    value = ([], None);
    list = [];
    word = (0, (refl, refl));
  }

  ended_fall : (o : Option (List A × Option B)) (w : List Token) → Ended marks M F o w → (Ended marks L E o w) ⊎ IsCut (Ended marks L E) w
  ended_fall o w l = elim ((up_to_ended_step l.0).fall o w l.1) [ inl m ↦ inl (l.0, m) | inr c ↦ inr (c.0, c.1, c.2, (l.0, c.3)) ]

  pub ended_step : Step (Ended marks L E) (Ended marks M F)
  ended_step = record { above = ended_above; fall = ended_fall }

module _ {A B : Type 0} (L M : Lang A) (made : ℕ → A → B) where
  placed_fall : Step L M → (o : Option B) (w : List Token) → Placed M made o w → (Placed L made o w) ⊎ IsCut (Placed L made) w
  placed_fall s o w q = elim (s.fall q.0 w q.1) [ inl m ↦ inl (q.0, m, q.2) | inr c ↦ inr (c.0, c.1, c.2, (None, c.3, refl)) ]

  pub placed_step : Step L M → Step (Placed L made) (Placed M made)
  placed_step s = record { above = placed_above L M made s.above; fall = placed_fall s }

pub chain_step : {A : Type 0} (L M : Lang A) (marks : Kinds) (t : Token) → Of marks t → Step L M → Step (Chain L marks) (Chain M marks)
chain_step L M marks t i s = bind_step L M _ _ s (λ a. bind_step _ _ _ _ (many_step _ _ (bind_step (Tok marks) (Tok marks) _ _ (tok_step marks t i) (λ u. s))) (λ others. pure_step (a, others)))

-- ---- what opens a level

solid : {A : Type 0} (o : Option A) → MayBeEmpty false o → ⊥
solid None i = i
solid (Some a) i = absurd cc

module _ {A : Type 0} (ks e : Kinds) (M : Lang A) (l : Facts M false ks e) where
  -- what begins with these kinds is cut at once where no level is left
  cut_fall : (o : Option A) (w : List Token) → M o w → (Cut ks o w) ⊎ IsCut (Cut {A = A} ks) w
  cut_fall o [] m = absurd (solid o (l.empty o m))
  cut_fall o (t ∷ w) m = inr (t ∷ [], w, refl, (t, l.first o t w m, refl, refl))

  module _ (rest : (t : Token) → Of ks t → (a : A) × (v : List Token) × M (Some a) (t ∷ v)) where
    cut_fill : (y : List Token) → Cut {A = A} ks None y → (a : A) × (v : List Token) × M (Some a) (y ++ v)
    cut_fill y q = let r = rest q.0 q.1 in (r.0, r.1, subst (λ (u : List Token). M (Some r.0) (u ++ r.1)) (sym q.3) r.2)

    pub cut_step : (t : Token) → Of ks t → Step (Cut ks) M
    cut_step t i =
        let r = rest t i in
        record {
          above = record { raise = λ a w q. absurd cc; fill = cut_fill; value = r.0; list = t ∷ r.1; word = r.2 };
          fall = cut_fall;
        }

-- ---- any two limits

plus : ℕ → ℕ → ℕ
plus zero n = n
plus (suc k) n = suc (plus k n)

plus_zero : (k : ℕ) → plus k zero ≡ k
unfolding plus
plus_zero zero = refl
plus_zero (suc k) = ap suc (plus_zero k)

plus_suc : (k n : ℕ) → plus k (suc n) ≡ suc (plus k n)
unfolding plus
plus_suc zero n = refl
plus_suc (suc k) n = ap suc (plus_suc k n)

-- one of two numbers is reached from the other
Reaches : ℕ → ℕ → Type 0
Reaches m n = ((k : ℕ) × (plus k m ≡ n)) ⊎ ((k : ℕ) × (plus k n ≡ m))

reaches : (m n : ℕ) → Reaches m n
unfolding Reaches
reaches zero n = inl (n, plus_zero n)
reaches (suc m) zero = inr (suc m, plus_zero (suc m))
reaches (suc m) (suc n) = elim (reaches m n) [ inl r ↦ inl (r.0, plus_suc r.0 m ∙ ap suc r.1) | inr r ↦ inr (r.0, plus_suc r.0 n ∙ ap suc r.1) ]

module _ {A : Type 0} (L : ℕ → Lang A) (step : (n : ℕ) → Step (L n) (L (suc n))) where
  rise : (k m : ℕ) (a : A) (w : List Token) → L m (Some a) w → L (plus k m) (Some a) w
  unfolding plus
  rise zero m a w l = l
  rise (suc k) m a w l = (step (plus k m)).above.raise a w (rise k m a w l)

  descend : (k n : ℕ) (o : Option A) (w : List Token) → L (plus k n) o w → (L n o w) ⊎ IsCut (L n) w
  unfolding plus
  descend zero n o w l = inl l
  descend (suc k) n o w l =
      elim ((step (plus k n)).fall o w l) [
        | inl m ↦ descend k n o w m
        | inr c ↦ elim (descend k n None c.0 c.3) [
          | inl m ↦ inr (c.0, c.1, c.2, m)
          | inr d ↦ inr (d.0, d.1 ++ c.1, c.2 ∙ ap (λ (u : List Token). u ++ c.1) d.2 ∙ append_assoc d.0 d.1 c.1, d.3)
        ]
      ]

  -- what is spelled under some limit is spelled under another, or some front of it is cut there
  pub steps_split : (m n : ℕ) → Splits (L m) (L n)
  unfolding Reaches
  steps_split m n a w l = elim (reaches m n) [
    | inl r ↦ inl (subst (λ (u : ℕ). L u (Some a) w) r.1 (rise r.0 m a w l))
    | inr r ↦ descend r.0 n (Some a) w (subst (λ (u : ℕ). L u (Some a) w) (sym r.1) l)
  ]
