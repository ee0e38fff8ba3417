-- A language of two texts: what tokens spell in the one they spell in the other, where each is the same bytes there; and the word
-- `end` is none of them.
use Rattle.std.proofs.Common.{◌≡◌, ℕ, zero, suc, List, [], ◌∷◌, ◌++◌, Option, Some, None, true, false, refl, sym, ap, ◌∙◌, subst}
use Rattle.geo_tokens.specs.declared.token.Token.{Token}
use Rattle.geo_tokens.specs.declared.token.Kind.{Kind}
use Rattle.geo_tokens.specs.declared.token.Kind.TheVariants as kinds
use Rattle.geo_tokens.specs.declared.token.Keyword.TheVariants as keywords
use Rattle.geo_tokens.specs.Bytes.{bytes_of}
use Rattle.geo_tokens.specs.Class.{class_of}
use Rattle.geo_tokens.specs.Words.{Kinds, has, Of, names, Lang, Pure, OneOf, Tok, Bind, cut, both, Either, left, right, Opt, there, not_there, UpTo, Many, UpToEnded, Ended, Placed, Chain}
use Rattle.rule_syntax.specs.declared.tree.PlacedName.{PlacedName}
use Rattle.rule_syntax.specs.Grammar.{Named}

-- each token is the same bytes in both texts
abbrev pub AreSame : List ℕ → List ℕ → List Token → Type 0
AreSame text other [] = Unit {0}
AreSame text other (t ∷ ts) = (bytes_of text t ≡ bytes_of other t) × AreSame text other ts

-- none of them is the word `end`
abbrev pub HaveNoEnd : List Token → Type 0
HaveNoEnd [] = Unit {0}
HaveNoEnd (t ∷ ts) = (t.kind ≡ kinds.Word keywords.End → ⊥) × HaveNoEnd ts

pub no_end_both : (x y : List Token) → HaveNoEnd x → HaveNoEnd y → HaveNoEnd (x ++ y)
no_end_both [] y h k = k
no_end_both (t ∷ x) y h k = (h.0, no_end_both x y h.1 k)

-- M is L in the other text
pub record Alike (text other : List ℕ) {A : Type 0} (L M : Lang A) : Type 0 where
  pub carry : (o : Option A) (w : List Token) → L o w → AreSame text other w → M o w
  pub plain : (o : Option A) (w : List Token) → L o w → HaveNoEnd w

pub same_apart : (text other : List ℕ) (x y : List Token) → AreSame text other (x ++ y) → AreSame text other x × AreSame text other y
same_apart text other [] y h = (tt, h)
same_apart text other (t ∷ x) y h = let r = same_apart text other x y h.1 in ((h.0, r.0), r.1)

no_end_in : (ks : Kinds) → has ks (class_of (kinds.Word keywords.End)) ≡ false → (t : Token) → Of ks t → t.kind ≡ kinds.Word keywords.End → ⊥
no_end_in ks n t i e = let clash : true ≡ false = sym i ∙ ap (λ (k : Kind). has ks (class_of k)) e ∙ n in absurd cc

named_carry : (text other : List ℕ) (o : Option PlacedName) (w : List Token) → Named text o w → AreSame text other w → Named other o w
named_carry text other o w (cut e l) s = absurd cc
named_carry text other o w (both t x y l k e) s =
    let same : Some t ≡ Some l.0 = l.2 in
    let token : t ≡ l.0 = cc in
    let front : AreSame text other (l.0 ∷ y) = subst (λ (u : List Token). AreSame text other (u ++ y)) l.3 (subst (AreSame text other) e s) in
    let bytes : bytes_of text t ≡ bytes_of other t = subst (λ (u : Token). bytes_of text u ≡ bytes_of other u) (sym token) front.0 in
    both t x y l (k.0 ∙ ap (λ (b : List ℕ). let a : PlacedName = record { place = t.start; name = b } in Some a) bytes, k.1) e

module _ {text other : List ℕ} where
  -- ---- one token, and none

  pub one_alike : {A : Type 0} (ks : Kinds) (f : Token → Option A) → has ks (class_of (kinds.Word keywords.End)) ≡ false → Alike text other (OneOf ks f) (OneOf ks f)
  one_alike ks f n = record { carry = λ o w l s. l; plain = λ o w l. subst HaveNoEnd (sym l.3) (no_end_in ks n l.0 l.1, tt) }

  pub pure_alike : {A : Type 0} (a : A) → Alike text other (Pure a) (Pure a)
  pure_alike a = record { carry = λ o w l s. l; plain = λ o w l. subst HaveNoEnd (sym l.1) tt }

  -- ---- languages made of others

  module _ {A B : Type 0} (L M : Lang A) (K N : A → Lang B) where
    bind_carry : Alike text other L M → ((a : A) → Alike text other (K a) (N a)) → (o : Option B) (w : List Token) → Bind L K o w → AreSame text other w → Bind M N o w
    bind_carry h g o w (cut e l) s = cut e (h.carry None w l s)
    bind_carry h g o w (both a x y l k e) s =
        let r = same_apart text other x y (subst (AreSame text other) e s) in
        both a x y (h.carry (Some a) x l r.0) ((g a).carry o y k r.1) e

    bind_plain : Alike text other L M → ((a : A) → Alike text other (K a) (N a)) → (o : Option B) (w : List Token) → Bind L K o w → HaveNoEnd w
    bind_plain h g o w (cut e l) = h.plain None w l
    bind_plain h g o w (both a x y l k e) = subst HaveNoEnd (sym e) (no_end_both x y (h.plain (Some a) x l) ((g a).plain o y k))

    pub bind_alike : Alike text other L M → ((a : A) → Alike text other (K a) (N a)) → Alike text other (Bind L K) (Bind M N)
    bind_alike h g = record { carry = bind_carry h g; plain = bind_plain h g }

  module _ {A : Type 0} (L M K N : Lang A) where
    either_carry : Alike text other L M → Alike text other K N → (o : Option A) (w : List Token) → Either L K o w → AreSame text other w → Either M N o w
    either_carry h g o w (left l) s = left (h.carry o w l s)
    either_carry h g o w (right k) s = right (g.carry o w k s)

    either_plain : Alike text other L M → Alike text other K N → (o : Option A) (w : List Token) → Either L K o w → HaveNoEnd w
    either_plain h g o w (left l) = h.plain o w l
    either_plain h g o w (right k) = g.plain o w k

    pub either_alike : Alike text other L M → Alike text other K N → Alike text other (Either L K) (Either M N)
    either_alike h g = record { carry = either_carry h g; plain = either_plain h g }

  module _ {A : Type 0} (L M : Lang A) (d : A) where
    opt_carry : Alike text other L M → (o : Option A) (w : List Token) → Opt L d o w → AreSame text other w → Opt M d o w
    opt_carry h o w (there l) s = there (h.carry o w l s)
    opt_carry h o w (not_there e f) s = not_there e f

    opt_plain : Alike text other L M → (o : Option A) (w : List Token) → Opt L d o w → HaveNoEnd w
    opt_plain h o w (there l) = h.plain o w l
    opt_plain h o w (not_there e f) = subst HaveNoEnd (sym f) tt

    pub opt_alike : Alike text other L M → Alike text other (Opt L d) (Opt M d)
    opt_alike h = record { carry = opt_carry h; plain = opt_plain h }

  module _ {A : Type 0} (L M : Lang A) where
    up_to_alike : Alike text other L M → (k : ℕ) → Alike text other (UpTo L k) (UpTo M k)
    up_to_alike h zero = pure_alike []
    up_to_alike h (suc k) = opt_alike _ _ [] (bind_alike L M (λ a. Bind (UpTo L k) (λ others. Pure (a ∷ others))) (λ a. Bind (UpTo M k) (λ others. Pure (a ∷ others))) h
        (λ a. bind_alike (UpTo L k) (UpTo M k) (λ others. Pure (a ∷ others)) (λ others. Pure (a ∷ others)) (up_to_alike h k) (λ others. pure_alike (a ∷ others))))

    pub many_alike : Alike text other L M → Alike text other (Many L) (Many M)
    many_alike h = record {
      carry = λ o w l s. (l.0, (up_to_alike h l.0).carry o w l.1 s);
      plain = λ o w l. (up_to_alike h l.0).plain o w l.1;
    }

  module _ {A B : Type 0} (marks : Kinds) (L M : Lang A) (E F : Lang B) (n : has marks (class_of (kinds.Word keywords.End)) ≡ false) (h : Alike text other L M) (e : Alike text other E F) where
    up_to_ended_alike : (k : ℕ) → Alike text other (UpToEnded marks L E k) (UpToEnded marks M F k)
    up_to_ended_alike zero = pure_alike ([], None)
    up_to_ended_alike (suc k) = opt_alike _ _ ([], None) (bind_alike (Tok marks) (Tok marks) _ _ (one_alike marks (λ t. Some t) n) (λ m. either_alike _ _ _ _
        (bind_alike L M _ _ h (λ a. bind_alike (UpToEnded marks L E k) (UpToEnded marks M F k) (λ r. Pure (a ∷ r.0, r.1)) (λ r. Pure (a ∷ r.0, r.1)) (up_to_ended_alike k) (λ r. pure_alike (a ∷ r.0, r.1))))
        (bind_alike E F (λ x. Pure ([], Some x)) (λ x. Pure ([], Some x)) e (λ x. pure_alike ([], Some x)))))

    pub ended_alike : Alike text other (Ended marks L E) (Ended marks M F)
    ended_alike = record {
      carry = λ o w l s. (l.0, (up_to_ended_alike l.0).carry o w l.1 s);
      plain = λ o w l. (up_to_ended_alike l.0).plain o w l.1;
    }

  module _ {A B : Type 0} (L M : Lang A) (made : ℕ → A → B) where
    pub placed_alike : Alike text other L M → Alike text other (Placed L made) (Placed M made)
    placed_alike h = record {
      carry = λ o w l s. (l.0, h.carry l.0 w l.1 s, l.2);
      plain = λ o w l. h.plain l.0 w l.1;
    }

  pub chain_alike : {A : Type 0} (L M : Lang A) (marks : Kinds) → has marks (class_of (kinds.Word keywords.End)) ≡ false → Alike text other L M → Alike text other (Chain L marks) (Chain M marks)
  chain_alike L M marks n h = bind_alike L M _ _ h (λ a. bind_alike _ _ _ _ (many_alike _ _ (bind_alike (Tok marks) (Tok marks) _ _ (one_alike marks (λ t. Some t) n) (λ t. h))) (λ others. pure_alike _))

  -- ---- names

  pub named_alike : Alike text other (Named text) (Named other)
  named_alike = record {
    carry = named_carry text other;
    plain = λ o w l. bind_plain (Tok names) (Tok names) _ _ (one_alike names (λ t. Some t) refl) (λ t. pure_alike _) o w l;
  }
