-- The same grammar under two limits of levels.
use Rattle.std.proofs.Common.{◌≡◌, ℕ, zero, suc, List, [], ◌∷◌, ◌++◌, Option, Some, None, option_map, false, ◌⊎◌, inl, inr, refl, sym, ap, ◌∙◌, append_assoc, subst}
use Rattle.std.proofs.lemmas.List.{append-nil}
use Rattle.geo_tokens.specs.declared.token.Token.{Token}
use Rattle.geo_tokens.specs.Words.{Kinds, Of, Lang, Pure, Tok, Cut, Bind, cut, both, Either, left, right, Opt, there, not_there, UpTo, Many, start_of, Placed}
use Rattle.geo_tokens.specs.Reading.{Read, Got, Wrong, Is, Found, Lost, Parts}
use Rattle.geo_tokens.specs.Deep.{Spells, IsReading}
use Rattle.geo_tokens.proofs.Lists.{behind, before, cuts, parts_more}
use Rattle.geo_tokens.proofs.Facts.{Facts}

-- some front of the list is cut
abbrev pub IsCut : {A : Type 0} → Lang A → List Token → Type 0
IsCut M w = (y : List Token) × (v : List Token) × (w ≡ y ++ v) × M None y

-- A list of L is one of M with the same value, or is cut in M.
abbrev pub Splits : {A : Type 0} → Lang A → Lang A → Type 0
Splits {A} L M = (a : A) (w : List Token) → L (Some a) w → (M (Some a) w) ⊎ IsCut M w

-- M has a level more than L: what L spells M spells too, and what is cut in L goes on in M.
pub record Above {A : Type 0} (L M : Lang A) : Type 0 where
  pub raise : (a : A) (w : List Token) → L (Some a) w → M (Some a) w
  pub fill : (y : List Token) → L None y → (a : A) × (v : List Token) × M (Some a) (y ++ v)
  pub value : A
  pub list : List Token
  pub word : M (Some value) list

pub same_splits : {A : Type 0} (L : Lang A) → Splits L L
same_splits L a w l = inl l

-- a language that cuts nothing
pub plain_above : {A : Type 0} (L : Lang A) → ((y : List Token) → L None y → ⊥) → (a : A) (w : List Token) → L (Some a) w → Above L L
plain_above L n a w l = record { raise = λ b x m. m; fill = λ y m. absurd (n y m); value = a; list = w; word = l }

pub tok_above : (ks : Kinds) (t : Token) → Of ks t → Above (Tok ks) (Tok ks)
tok_above ks t i = plain_above (Tok ks) (λ y m. absurd cc) t (t ∷ []) (t, i, refl, refl)

pub pure_above : {A : Type 0} (a : A) → Above (Pure a) (Pure a)
pure_above a = plain_above (Pure a) (λ y m. absurd cc) a [] (refl, refl)

module _ {A B : Type 0} (L M : Lang A) (K N : A → Lang B) where
  pub bind_splits : Splits L M → ((a : A) → Splits (K a) (N a)) → Splits (Bind L K) (Bind M N)
  bind_splits s t b w (cut e l) = absurd cc
  bind_splits s t b w (both a x y l k e) =
      elim (s a x l) [
        | inl m ↦ elim (t a b y k) [
          | inl n ↦ inl (both a x y m n e)
          | inr c ↦ inr (x ++ c.0, c.1, e ∙ ap (λ (u : List Token). x ++ u) c.2 ∙ sym (append_assoc x c.0 c.1), both a x c.0 m c.3 refl)
        ]
        | inr c ↦ inr (c.0, c.1 ++ y, e ∙ ap (λ (u : List Token). u ++ y) c.2 ∙ append_assoc c.0 c.1 y, cut refl c.3)
      ]

  bind_fill : Above L M → ((a : A) → Above (K a) (N a)) → (w : List Token) → Bind L K None w → (b : B) × (v : List Token) × Bind M N (Some b) (w ++ v)
  bind_fill h g w (cut e l) =
      let f = h.fill w l in
      let k = g f.0 in
      (k.value, f.1 ++ k.list, both f.0 (w ++ f.1) k.list f.2 k.word (sym (append_assoc w f.1 k.list)))
  bind_fill h g w (both a x y l k e) =
      let f = (g a).fill y k in
      (f.0, f.1, both a x (y ++ f.1) (h.raise a x l) f.2 (ap (λ (u : List Token). u ++ f.1) e ∙ append_assoc x y f.1))

  bind_raise : Above L M → ((a : A) → Above (K a) (N a)) → (b : B) (w : List Token) → Bind L K (Some b) w → Bind M N (Some b) w
  bind_raise h g b w (cut e l) = absurd cc
  bind_raise h g b w (both a x y l k e) = both a x y (h.raise a x l) ((g a).raise b y k) e

  pub bind_above : Above L M → ((a : A) → Above (K a) (N a)) → Above (Bind L K) (Bind M N)
  bind_above h g = record {
    raise = bind_raise h g;
    fill = bind_fill h g;
    value = (g h.value).value;
    list = h.list ++ (g h.value).list;
    word = both h.value h.list (g h.value).list h.word (g h.value).word refl;
  }

module _ {A : Type 0} (L M K N : Lang A) where
  pub either_splits : Splits L M → Splits K N → Splits (Either L K) (Either M N)
  either_splits s t a w (left l) = elim (s a w l) [ inl m ↦ inl (left m) | inr c ↦ inr (c.0, c.1, c.2, left c.3) ]
  either_splits s t a w (right k) = elim (t a w k) [ inl n ↦ inl (right n) | inr c ↦ inr (c.0, c.1, c.2, right c.3) ]

  either_raise : Above L M → Above K N → (a : A) (w : List Token) → Either L K (Some a) w → Either M N (Some a) w
  either_raise h g a w (left l) = left (h.raise a w l)
  either_raise h g a w (right k) = right (g.raise a w k)

  either_fill : Above L M → Above K N → (y : List Token) → Either L K None y → (a : A) × (v : List Token) × Either M N (Some a) (y ++ v)
  either_fill h g y (left l) = let f = h.fill y l in (f.0, f.1, left f.2)
  either_fill h g y (right k) = let f = g.fill y k in (f.0, f.1, right f.2)

  pub either_above : Above L M → Above K N → Above (Either L K) (Either M N)
  either_above h g = record { raise = either_raise h g; fill = either_fill h g; value = h.value; list = h.list; word = left h.word }

module _ {A : Type 0} (L M : Lang A) (d : A) where
  pub opt_splits : Splits L M → Splits (Opt L d) (Opt M d)
  opt_splits s a w (there l) = elim (s a w l) [ inl m ↦ inl (there m) | inr c ↦ inr (c.0, c.1, c.2, there c.3) ]
  opt_splits s a w (not_there e1 e2) = inl (not_there e1 e2)

  opt_raise : Above L M → (a : A) (w : List Token) → Opt L d (Some a) w → Opt M d (Some a) w
  opt_raise h a w (there l) = there (h.raise a w l)
  opt_raise h a w (not_there e1 e2) = not_there e1 e2

  opt_fill : Above L M → (y : List Token) → Opt L d None y → (a : A) × (v : List Token) × Opt M d (Some a) (y ++ v)
  opt_fill h y (there l) = let f = h.fill y l in (f.0, f.1, there f.2)
  opt_fill h y (not_there e1 e2) = absurd cc

  pub opt_above : Above L M → Above (Opt L d) (Opt M d)
  opt_above h = record { raise = opt_raise h; fill = opt_fill h; value = d; list = []; word = not_there refl refl }

module _ {A : Type 0} (L M : Lang A) where
  up_to_splits : Splits L M → (k : ℕ) → Splits (UpTo L k) (UpTo M k)
  up_to_splits s zero = same_splits (Pure [])
  up_to_splits s (suc k) = opt_splits _ _ [] (bind_splits L M (λ a. Bind (UpTo L k) (λ others. Pure (a ∷ others))) (λ a. Bind (UpTo M k) (λ others. Pure (a ∷ others))) s
      (λ a. bind_splits (UpTo L k) (UpTo M k) (λ others. Pure (a ∷ others)) (λ others. Pure (a ∷ others)) (up_to_splits s k) (λ others. same_splits (Pure (a ∷ others)))))

  up_to_above : Above L M → (k : ℕ) → Above (UpTo L k) (UpTo M k)
  up_to_above h zero = pure_above []
  up_to_above h (suc k) = opt_above _ _ [] (bind_above L M (λ a. Bind (UpTo L k) (λ others. Pure (a ∷ others))) (λ a. Bind (UpTo M k) (λ others. Pure (a ∷ others))) h
      (λ a. bind_above (UpTo L k) (UpTo M k) (λ others. Pure (a ∷ others)) (λ others. Pure (a ∷ others)) (up_to_above h k) (λ others. pure_above (a ∷ others))))

  pub many_splits : Splits L M → Splits (Many L) (Many M)
  many_splits s a w l = elim (up_to_splits s l.0 a w l.1) [ inl m ↦ inl (l.0, m) | inr c ↦ inr (c.0, c.1, c.2, (l.0, c.3)) ]

  pub many_above : Above L M → Above (Many L) (Many M)
  many_above h = record {
    raise = λ a w l. (l.0, (up_to_above h l.0).raise a w l.1);
    fill = λ y l. (let f = (up_to_above h l.0).fill y l.1 in (f.0, f.1, (l.0, f.2)));
    value = [];
    list = [];
    word = (0, (refl, refl));
  }

module _ {A B : Type 0} (L M : Lang A) (made : ℕ → A → B) where
  placed_splits_at : Splits L M → (b : B) (w : List Token) (p : Option A) → L p w → Some b ≡ option_map (made (start_of w)) p → (Placed M made (Some b) w) ⊎ IsCut (Placed M made) w
  placed_splits_at s b w None l e = absurd cc
  placed_splits_at s b w (Some a) l e = elim (s a w l) [ inl m ↦ inl (Some a, m, e) | inr c ↦ inr (c.0, c.1, c.2, (None, c.3, refl)) ]

  pub placed_splits : Splits L M → Splits (Placed L made) (Placed M made)
  placed_splits s b w l = placed_splits_at s b w l.0 l.1 l.2

  placed_raise : Above L M → (b : B) (w : List Token) (p : Option A) → L p w → Some b ≡ option_map (made (start_of w)) p → Placed M made (Some b) w
  placed_raise h b w None l e = absurd cc
  placed_raise h b w (Some a) l e = (Some a, h.raise a w l, e)

  placed_fill : Above L M → (y : List Token) (p : Option A) → L p y → None ≡ option_map (made (start_of y)) p → (b : B) × (v : List Token) × Placed M made (Some b) (y ++ v)
  placed_fill h y None l e = let f = h.fill y l in (made (start_of (y ++ f.1)) f.0, f.1, (Some f.0, f.2, refl))
  placed_fill h y (Some a) l e = absurd cc

  pub placed_above : Above L M → Above (Placed L made) (Placed M made)
  placed_above h = record {
    raise = λ b w l. placed_raise h b w l.0 l.1 l.2;
    fill = λ y l. placed_fill h y l.0 l.1 l.2;
    value = made (start_of h.list) h.value;
    list = h.list;
    word = (Some h.value, h.word, refl);
  }

-- ---- what opens a level

module _ {A : Type 0} (ks : Kinds) (K : Token → Lang A) where
  pub cut_splits : (M : Lang A) → Splits (Cut ks) M
  cut_splits M a w l = absurd cc

  pub splits_cut : Splits (Bind (Tok ks) K) (Cut ks)
  splits_cut a w (cut e l) = absurd cc
  splits_cut a w (both t x y l k e) = inr (x, y, e, (l.0, l.1, refl, l.3))

  -- what is cut may be spelled with a level more, where the inside has a list of its own
  cut_fill : (a : Token → A) (v : Token → List Token) → ((t : Token) → K t (Some (a t)) (v t)) → (y : List Token) → Cut {A = A} ks None y → (b : A) × (z : List Token) × Bind (Tok ks) K (Some b) (y ++ z)
  cut_fill a v k y l = (a l.0, v l.0, both l.0 y (v l.0) (l.0, l.1, refl, l.3) (k l.0) refl)

  pub cut_above : (a : Token → A) (v : Token → List Token) → ((t : Token) → K t (Some (a t)) (v t)) → (t : Token) → Of ks t → Above (Cut ks) (Bind (Tok ks) K)
  cut_above a v k t i = record {
    raise = λ b w l. absurd cc;
    fill = cut_fill a v k;
    value = a t;
    list = t ∷ v t;
    word = both t (t ∷ []) (v t) (t, i, refl, refl) (k t) refl;
  }

-- ---- reading up to a limit

module _ {A : Type 0} (L : ℕ → Lang A) (limit : ℕ) (f e : Kinds) (l : Facts (L limit) false f e) (splits : (m : ℕ) → Splits (L m) (L limit)) (above : Above (L limit) (L (suc limit))) where
  -- what is cut goes on in no list
  no_cut_inside : (p : Option A) (y : List Token) (s : Token) (d v : List Token) → L limit None y → L limit p ((y ++ s ∷ d) ++ v) → ⊥
  no_cut_inside p y s d v lc lp = l.behind None p y s (d ++ v) lc (subst (λ (u : List Token). L limit p u) (append_assoc y (s ∷ d) v) lp)

  only_value : (w rest : List Token) (a : A) (r : Found (L limit) w (Some a) rest) (b : A) (v : List Token) → Spells L b (r.run ++ v) → ((v ≡ []) × (b ≡ a)) ⊎ Parts v rest
  only_value w rest a r b v q =
      elim (splits q.0 b (r.run ++ v) q.1) [
        | inl m ↦ elim (r.only (Some b) v m) [
          | inl z ↦ inl (z.0, (let same : Some b ≡ Some a = z.1 in cc))
          | inr z ↦ inr z
        ]
        | inr c ↦ elim (cuts c.0 c.1 r.run v (sym c.2)) [
          | behind d e1 e2 ↦ elim (r.only None d (subst (λ (u : List Token). L limit None u) e1 c.3)) [
            | inl z ↦ let none : None ≡ Some a = z.1 in absurd cc
            | inr z ↦ inr (subst (λ (u : List Token). Parts u rest) (sym e2) (parts_more d c.1 rest z))
          ]
          | before s d e1 e2 ↦ absurd (no_cut_inside (Some a) c.0 s d [] c.3 (subst (λ (u : List Token). L limit (Some a) u) (e1 ∙ sym (append-nil (c.0 ++ s ∷ d))) r.word))
        ]
      ]

  only_fault : (w rest : List Token) (r : Lost (L limit) w rest) (b : A) (v : List Token) → Spells L b (r.run ++ v) → Parts v rest
  only_fault w rest r b v q =
      elim (splits q.0 b (r.run ++ v) q.1) [
        | inl m ↦ r.only (Some b) v m
        | inr c ↦ elim (cuts c.0 c.1 r.run v (sym c.2)) [
          | behind d e1 e2 ↦ subst (λ (u : List Token). Parts u rest) (sym e2) (parts_more d c.1 rest (r.only None d (subst (λ (u : List Token). L limit None u) e1 c.3)))
          | before s d e1 e2 ↦ absurd (no_cut_inside r.value c.0 s d r.more c.3 (subst (λ (u : List Token). L limit r.value (u ++ r.more)) e1 r.begins))
        ]
      ]

  begins_any : (o : Option A) (y : List Token) → L limit o y → (a : A) × (v : List Token) × Spells L a (y ++ v)
  begins_any None y lw = let g = above.fill y lw in (g.0, g.1, (suc limit, g.2))
  begins_any (Some a) y lw = (a, [], (limit, subst (λ (u : List Token). L limit (Some a) u) (sym (append-nil y)) lw))

  pub is_reading : (w : List Token) (r : Read A) → Is (L limit) w r → IsReading L limit w r
  is_reading w (Got (Some a) rest) r = record { run = r.run; parts = r.parts; spells = (limit, r.word); only = only_value w rest a r }
  is_reading w (Got None rest) r = let b = begins_any None r.run r.word in record { run = r.run; parts = r.parts; cut = r.word; value = b.0; more = b.1; begins = b.2 }
  is_reading w (Wrong rest) r =
      let b = begins_any r.value (r.run ++ r.more) r.begins in
      record { run = r.run; parts = r.parts; value = b.0; more = r.more ++ b.1; begins = subst (λ (u : List Token). Spells L b.0 u) (append_assoc r.run r.more b.1) b.2; only = only_fault w rest r }
