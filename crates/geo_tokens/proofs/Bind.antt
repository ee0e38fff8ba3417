-- One language after another.
use Rattle.std.proofs.Common.{◌≡◌, ℕ, List, [], ◌∷◌, ◌++◌, Option, Some, None, Bool, true, false, ◌&&◌, ◌⊎◌, inl, inr, refl, sym, ap, ◌∙◌, append_assoc, subst}
use Rattle.std.proofs.lemmas.List.{append-nil}
use Rattle.std.proofs.lemmas.Bool.{and_parts}
use Rattle.geo_tokens.specs.declared.token.Token.{Token}
use Rattle.geo_tokens.specs.Class.{class_of}
use Rattle.geo_tokens.specs.Words.{Kinds, has, Of, Lang, Bind, cut, both}
use Rattle.geo_tokens.specs.Reading.{Read, Got, Wrong, ◌>>=◌, Is, Found, Lost, Parts}
use Rattle.geo_tokens.proofs.Lists.{behind, before, cuts, disjoint, has_disjoint, or_if, has_left, has_right, has_append, parts_more, parts_behind}
use Rattle.geo_tokens.proofs.Facts.{Facts, GoesOn, MayBeEmpty}

nil_append : (x y : List Token) → [] ≡ x ++ y → (x ≡ []) × (y ≡ [])
nil_append [] y e = (refl, sym e)
nil_append (t ∷ x) y e = absurd cc

may_both : {B : Type 0} (n m : Bool) (o : Option B) → n ≡ true → MayBeEmpty m o → MayBeEmpty (n && m) o
may_both n m None e h = h
may_both true m (Some b) e h = h
may_both false m (Some b) e h = absurd cc

has_if : (n : Bool) (f g : Kinds) (c : ℕ) → n ≡ true → has g c ≡ true → has (f ++ or_if n g) c ≡ true
has_if true f g c e h = has_right f g c h
has_if false f g c e h = absurd cc

of_if : (n : Bool) (g : Kinds) (c : ℕ) → has (or_if n g) c ≡ true → (n ≡ true) × (has g c ≡ true)
of_if true g c h = (refl, h)
of_if false g c h = absurd cc

pub goes_left : {B : Type 0} (f g : Kinds) (o : Option B) (t : Token) → GoesOn f o t → GoesOn (f ++ g) o t
goes_left f g None t h = h
goes_left f g (Some b) t h = has_left f g (class_of t.kind) h

pub goes_if : {B : Type 0} (f g : Kinds) (m : Bool) (o : Option B) (t : Token) → MayBeEmpty m o → Of g t → GoesOn (f ++ or_if m g) o t
goes_if f g m None t e h = e
goes_if f g m (Some b) t e h = has_if m f g (class_of t.kind) e h

module _ {A B : Type 0} (L : Lang A) (M : A → Lang B) (n m : Bool) (f e g h : Kinds) (l : Facts L n f e) (k : (a : A) → Facts (M a) m g h) (apart : disjoint e g ≡ true) where
  -- A list of L does not end inside another where a list of M begins.
  pub not_inside : (a : A) (p : Option A) (x : List Token) (s : Token) (d u v : List Token) (b : A) (o : Option B) (y : List Token)
      → L (Some a) x → L p ((x ++ s ∷ d) ++ u) → M b o y → y ≡ s ∷ d ++ v → ⊥
  not_inside a p x s d u v b o y la lp mo eq =
      let long : L p (x ++ s ∷ (d ++ u)) = subst (λ (z : List Token). L p z) (append_assoc x (s ∷ d) u) lp in
      let in_e : Of e s = l.behind (Some a) p x s (d ++ u) la long in
      let in_g : Of g s = (k b).first o s (d ++ v) (subst (λ (z : List Token). M b o z) eq mo) in
      has_disjoint e g (class_of s.kind) apart in_e in_g

  -- ---- reading

  pub inside : (p : Option A) (run : List Token) → L p run → (x : List Token) (s : Token) (d z : List Token) (b : A) (o : Option B) (y : List Token)
      → L (Some b) x → M b o y → run ≡ x ++ s ∷ d → y ≡ s ∷ d ++ z → ⊥
  inside p run lp x s d z b o y la mb e1 e2 =
      let long : L p ((x ++ s ∷ d) ++ []) = subst (λ (u : List Token). L p u) (e1 ∙ sym (append-nil (x ++ s ∷ d))) lp in
      not_inside b p x s d [] z b o y la long mb e2

  after_value : (w rest z : List Token) (a : A) (o : Option B) (r : Found L w (Some a) rest) → Bind L M o (r.run ++ z) → (M a o z) ⊎ Parts z rest
  after_value w rest z a o r (cut none lc) =
      elim (r.only None z lc) [
        | inl q ↦ let no : None ≡ Some a = q.1 in absurd cc
        | inr q ↦ inr q
      ]
  after_value w rest z a o r (both b x y la mb eq) =
      elim (cuts x y r.run z (sym eq)) [
        | behind d p q ↦ elim (r.only (Some b) d (subst (λ (u : List Token). L (Some b) u) p la)) [
          | inl t ↦
              let nil : d ≡ [] = t.0 in
              let b_is : b ≡ a = cc in
              let z_is : y ≡ z = sym (q ∙ ap (λ (u : List Token). u ++ y) nil) in
              inl (subst (λ (u : List Token). M a o u) z_is (subst (λ (c : A). M c o y) b_is mb))
          | inr t ↦ inr (subst (λ (u : List Token). Parts u rest) (sym q) (parts_more d y rest t))
        ]
        | before s d p q ↦ absurd (inside (Some a) r.run r.word x s d z b o y la mb p q)
      ]

  after_cut : (w rest z : List Token) (o : Option B) (r : Found L w None rest) → Bind L M o (r.run ++ z) → ((z ≡ []) × (o ≡ None)) ⊎ Parts z rest
  after_cut w rest z o r (cut none lc) =
      elim (r.only None z lc) [
        | inl q ↦ inl (q.0, none)
        | inr q ↦ inr q
      ]
  after_cut w rest z o r (both b x y la mb eq) =
      elim (cuts x y r.run z (sym eq)) [
        | behind d p q ↦ elim (r.only (Some b) d (subst (λ (u : List Token). L (Some b) u) p la)) [
          | inl t ↦ let no : Some b ≡ None = t.1 in absurd cc
          | inr t ↦ inr (subst (λ (u : List Token). Parts u rest) (sym q) (parts_more d y rest t))
        ]
        | before s d p q ↦ absurd (inside None r.run r.word x s d z b o y la mb p q)
      ]

  after_wrong : (w rest z : List Token) (o : Option B) (r : Lost L w rest) → Bind L M o (r.run ++ z) → Parts z rest
  after_wrong w rest z o r (cut none lc) = r.only None z lc
  after_wrong w rest z o r (both b x y la mb eq) =
      elim (cuts x y r.run z (sym eq)) [
        | behind d p q ↦ subst (λ (u : List Token). Parts u rest) (sym q) (parts_more d y rest (r.only (Some b) d (subst (λ (u : List Token). L (Some b) u) p la)))
        | before s d p q ↦ absurd (not_inside b r.value x s d r.more z b o y la (subst (λ (u : List Token). L r.value (u ++ r.more)) p r.begins) mb q)
      ]

  -- a value was read, and then the second was read
  found_found : (w rest last : List Token) (a : A) (o : Option B) (r : Found L w (Some a) rest) → Found (M a) rest o last → Found (Bind L M) w o last
  found_found w rest last a o r t = record {
    run = r.run ++ t.run;
    parts = r.parts ∙ ap (λ (u : List Token). r.run ++ u) t.parts ∙ sym (append_assoc r.run t.run last);
    word = both a r.run t.run r.word t.word refl;
    only = λ p v q. elim (after_value w rest (t.run ++ v) a p r (subst (λ (u : List Token). Bind L M p u) (append_assoc r.run t.run v) q)) [
      | inl mw ↦ t.only p v mw
      | inr far ↦ inr (parts_behind t.run v last (subst (λ (u : List Token). Parts (t.run ++ v) u) t.parts far))
    ];
  }

  found_lost : (w rest last : List Token) (a : A) (r : Found L w (Some a) rest) → Lost (M a) rest last → Lost (Bind L M) w last
  found_lost w rest last a r t = record {
    run = r.run ++ t.run;
    parts = r.parts ∙ ap (λ (u : List Token). r.run ++ u) t.parts ∙ sym (append_assoc r.run t.run last);
    value = t.value;
    more = t.more;
    begins = both a r.run (t.run ++ t.more) r.word t.begins (append_assoc r.run t.run t.more);
    only = λ p v q. elim (after_value w rest (t.run ++ v) a p r (subst (λ (u : List Token). Bind L M p u) (append_assoc r.run t.run v) q)) [
      | inl mw ↦ t.only p v mw
      | inr far ↦ parts_behind t.run v last (subst (λ (u : List Token). Parts (t.run ++ v) u) t.parts far)
    ];
  }

  found_cut : (w rest : List Token) → Found L w None rest → Found (Bind L M) w None rest
  found_cut w rest r = record {
    run = r.run;
    parts = r.parts;
    word = cut refl r.word;
    only = λ p v q. after_cut w rest v p r q;
  }

  -- a list of the first goes on to one of both
  begun : (p : Option A) (x : List Token) → L p x → (o : Option B) × (y : List Token) × Bind L M o (x ++ y)
  begun None x lw = (None, [], cut refl (subst (λ (u : List Token). L None u) (sym (append-nil x)) lw))
  begun (Some a) x lw = ((k a).value, (k a).list, both a x (k a).list lw (k a).word refl)

  lost : (w rest : List Token) → Lost L w rest → Lost (Bind L M) w rest
  lost w rest r =
      let b = begun r.value (r.run ++ r.more) r.begins in
      record {
        run = r.run;
        parts = r.parts;
        value = b.0;
        more = r.more ++ b.1;
        begins = subst (λ (u : List Token). Bind L M b.0 u) (append_assoc r.run r.more b.1) b.2;
        only = λ p v q. after_wrong w rest v p r q;
      }

  second : (w rest : List Token) (a : A) (r : Found L w (Some a) rest) (t : Read B) → Is (M a) rest t → Is (Bind L M) w t
  second w rest a r (Got o last) h = found_found w rest last a o r h
  second w rest a r (Wrong last) h = found_lost w rest last a r h

  -- what is read one after the other
  pub bind_is : (w : List Token) (r : Read A) (s : A → List Token → Read B) → Is L w r → ((a : A) (v : List Token) → Is (M a) v (s a v)) → Is (Bind L M) w (r >>= s)
  bind_is w (Got (Some a) rest) s r t = second w rest a r (s a rest) (t a rest)
  bind_is w (Got None rest) s r t = found_cut w rest r
  bind_is w (Wrong rest) s r t = lost w rest r

  -- ---- its facts

  empty_both : (a : A) (o : Option B) (x y : List Token) → L (Some a) x → M a o y → [] ≡ x ++ y → MayBeEmpty (n && m) o
  empty_both a o x y la mb q =
      let z = nil_append x y q in
      may_both n m o (l.empty (Some a) (subst (λ (u : List Token). L (Some a) u) z.0 la)) ((k a).empty o (subst (λ (u : List Token). M a o u) z.1 mb))

  empty_bind : (o : Option B) → Bind L M o [] → MayBeEmpty (n && m) o
  empty_bind o (cut none lc) = absurd (l.empty None lc)
  empty_bind o (both a x y la mb q) = empty_both a o x y la mb q

  first_both : (a : A) (o : Option B) (t : Token) (v x y : List Token) → L (Some a) x → M a o y → t ∷ v ≡ x ++ y → Of (f ++ or_if n g) t
  first_both a o t v [] y la mb q = has_if n f g (class_of t.kind) (l.empty (Some a) la) ((k a).first o t v (subst (λ (u : List Token). M a o u) (sym q) mb))
  first_both a o t v (s ∷ x) y la mb q =
      let head : s ≡ t = cc in
      has_left f (or_if n g) (class_of t.kind) (subst (λ (u : Token). Of f u) head (l.first (Some a) s x la))

  first_bind : (o : Option B) (t : Token) (v : List Token) → Bind L M o (t ∷ v) → Of (f ++ or_if n g) t
  first_bind o t v (cut none lc) = has_left f (or_if n g) (class_of t.kind) (l.first None t v lc)
  first_bind o t v (both a x y la mb q) = first_both a o t v x y la mb q

  -- the first one's list goes on where the second one's should begin
  longer : (p : Option A) (a : A) (o : Option B) (x : List Token) (s : Token) (d y z : List Token) (t : Token) (v : List Token)
      → L (Some a) x → L p (x ++ s ∷ d) → M a o z → s ∷ d ++ y ≡ z ++ t ∷ v → GoesOn (h ++ or_if m e) o t
  longer p a o x s d y [] t v la lp mo q =
      let head : s ≡ t = cc in
      goes_if h e m o t ((k a).empty o mo) (subst (λ (u : Token). Of e u) head (l.behind (Some a) p x s d la lp))
  longer p a o x s d y (r ∷ z) t v la lp mo q =
      let head : s ≡ r = cc in
      absurd (has_disjoint e g (class_of s.kind) apart (l.behind (Some a) p x s d la lp) (subst (λ (u : Token). Of g u) (sym head) ((k a).first o r z mo)))

  behind_cut : (x : List Token) (t : Token) (v : List Token) (p : Option B) → L None x → Bind L M p (x ++ t ∷ v) → ⊥
  behind_cut x t v p lc (cut none ld) = l.behind None None x t v lc ld
  behind_cut x t v p lc (both b y1 y2 lb mb q) =
      elim (cuts y1 y2 x (t ∷ v) (sym q)) [
        | behind d c1 c2 ↦ behind_cut_far x b y1 d lc lb c1
        | before s d c1 c2 ↦ inside None x lc y1 s d (t ∷ v) b p y2 lb mb c1 c2
      ]
    where
      behind_cut_far : (x : List Token) (b : A) (y d : List Token) → L None x → L (Some b) y → y ≡ x ++ d → ⊥
      behind_cut_far x b y [] lc lb c1 =
          let no : None ≡ Some b = l.same None (Some b) x lc (subst (λ (u : List Token). L (Some b) u) (c1 ∙ append-nil x) lb) in absurd cc
      behind_cut_far x b y (s ∷ d) lc lb c1 = l.behind None (Some b) x s d lc (subst (λ (u : List Token). L (Some b) u) c1 lb)

  behind_same : (a b : A) (o p : Option B) (x z : List Token) (t : Token) (v y1 y2 d : List Token) → L (Some a) x → M a o z → L (Some b) y1 → M b p y2
      → y1 ≡ x ++ d → z ++ t ∷ v ≡ d ++ y2 → GoesOn (h ++ or_if m e) o t
  behind_same a b o p x z t v y1 y2 [] la ma lb mb c1 c2 =
      let one : Some a ≡ Some b = l.same (Some a) (Some b) x la (subst (λ (u : List Token). L (Some b) u) (c1 ∙ append-nil x) lb) in
      let it : b ≡ a = cc in
      let mine : M a p (z ++ t ∷ v) = subst (λ (u : List Token). M a p u) (sym c2) (subst (λ (c : A). M c p y2) it mb) in
      goes_left h (or_if m e) o t ((k a).behind o p z t v ma mine)
  behind_same a b o p x z t v y1 y2 (s ∷ d) la ma lb mb c1 c2 =
      longer (Some b) a o x s d y2 z t v la (subst (λ (u : List Token). L (Some b) u) c1 lb) ma (sym c2)

  behind_long : (a : A) (o : Option B) (x z : List Token) (t : Token) (v : List Token) → L (Some a) x → M a o z → L None (x ++ (z ++ t ∷ v)) → GoesOn (h ++ or_if m e) o t
  behind_long a o x [] t v la ma lc = longer None a o x t v [] [] t v la lc ma (append-nil (t ∷ v))
  behind_long a o x (r ∷ z) t v la ma lc = longer None a o x r (z ++ t ∷ v) [] (r ∷ z) t v la lc ma (append-nil (r ∷ (z ++ t ∷ v)))

  behind_both : (a : A) (o p : Option B) (x z : List Token) (t : Token) (v : List Token) → L (Some a) x → M a o z → Bind L M p (x ++ (z ++ t ∷ v)) → GoesOn (h ++ or_if m e) o t
  behind_both a o p x z t v la ma (cut none lc) = behind_long a o x z t v la ma lc
  behind_both a o p x z t v la ma (both b y1 y2 lb mb q) =
      elim (cuts y1 y2 x (z ++ t ∷ v) (sym q)) [
        | behind d c1 c2 ↦ behind_same a b o p x z t v y1 y2 d la ma lb mb c1 c2
        | before s d c1 c2 ↦ absurd (inside (Some a) x la y1 s d (z ++ t ∷ v) b p y2 lb mb c1 c2)
      ]

  behind_bind : (o p : Option B) (x : List Token) (t : Token) (v : List Token) → Bind L M o x → Bind L M p (x ++ t ∷ v) → GoesOn (h ++ or_if m e) o t
  behind_bind o p x t v (cut none lc) w = absurd (behind_cut x t v p lc w)
  behind_bind o p x t v (both a x1 x2 la ma q) w =
      behind_both a o p x1 x2 t v la ma (subst (λ (u : List Token). Bind L M p u) (ap (λ (u : List Token). u ++ t ∷ v) q ∙ append_assoc x1 x2 (t ∷ v)) w)

  cut_not_both : (x : List Token) (b : A) (p : Option B) (y z : List Token) → L None x → L (Some b) y → M b p z → x ≡ y ++ z → ⊥
  cut_not_both x b p y z lc lb mb q =
      elim (cuts y z x [] (sym q ∙ sym (append-nil x))) [
        | behind d c1 c2 ↦
            let nil = nil_append d z c2 in
            let yx : y ≡ x = c1 ∙ ap (λ (u : List Token). x ++ u) nil.0 ∙ append-nil x in
            let no : None ≡ Some b = l.same None (Some b) x lc (subst (λ (u : List Token). L (Some b) u) yx lb) in
            absurd cc
        | before s d c1 c2 ↦ inside None x lc y s d [] b p z lb mb c1 c2
      ]

  same_both : (a b : A) (o p : Option B) (x z y w d : List Token) → L (Some a) x → M a o z → L (Some b) y → M b p w → x ≡ y ++ d → w ≡ d ++ z → o ≡ p
  same_both a b o p x z y w [] la ma lb mb c1 c2 =
      let one : Some a ≡ Some b = l.same (Some a) (Some b) y (subst (λ (u : List Token). L (Some a) u) (c1 ∙ append-nil y) la) lb in
      let it : b ≡ a = cc in
      (k a).same o p z ma (subst (λ (u : List Token). M a p u) c2 (subst (λ (c : A). M c p w) it mb))
  same_both a b o p x z y w (s ∷ d) la ma lb mb c1 c2 = absurd (inside (Some a) x la y s d z b p w lb mb c1 c2)

  same_bind : (o p : Option B) (x : List Token) → Bind L M o x → Bind L M p x → o ≡ p
  same_bind o p x (cut none lc) (cut none2 lc2) = none ∙ sym none2
  same_bind o p x (cut none lc) (both b y z lb mb q) = absurd (cut_not_both x b p y z lc lb mb q)
  same_bind o p x (both b y z lb mb q) (cut none lc) = absurd (cut_not_both x b o y z lc lb mb q)
  same_bind o p x (both a x1 x2 la ma q) (both b y1 y2 lb mb r) =
      elim (cuts x1 x2 y1 y2 (sym q ∙ r)) [
        | behind d c1 c2 ↦ same_both a b o p x1 x2 y1 y2 d la ma lb mb c1 c2
        | before s d c1 c2 ↦ absurd (inside (Some b) y1 lb x1 s d y2 a o x2 la ma c1 c2)
      ]

  blank_bind : (n && m) ≡ true → (b : B) × Bind L M (Some b) []
  blank_bind q =
      let z = and_parts n m q in
      let i = l.blank z.0 in
      let j = (k i.0).blank z.1 in
      (j.0, both i.0 [] [] i.1 j.1 refl)

  begins_left : (t : Token) → Of f t → (o : Option B) × (v : List Token) × Bind L M o (t ∷ v)
  begins_left t i =
      let w = l.begins t i in
      let b = begun w.0 (t ∷ w.1) w.2 in
      (b.0, w.1 ++ b.1, b.2)

  begins_right : (t : Token) → has (or_if n g) (class_of t.kind) ≡ true → (o : Option B) × (v : List Token) × Bind L M o (t ∷ v)
  begins_right t i =
      let z = of_if n g (class_of t.kind) i in
      let e = l.blank z.0 in
      let w = (k e.0).begins t z.1 in
      (w.0, w.1, both e.0 [] (t ∷ w.1) e.1 w.2 refl)

  begins_bind : (t : Token) → Of (f ++ or_if n g) t → (o : Option B) × (v : List Token) × Bind L M o (t ∷ v)
  begins_bind t i = elim (has_append f (or_if n g) (class_of t.kind) i) [ inl j ↦ begins_left t j | inr j ↦ begins_right t j ]

  begun_bind : (o : Option B) × (x : List Token) × Bind L M o x
  begun_bind =
      let b = begun l.value l.list l.word in (b.0, l.list ++ b.1, b.2)

  pub bind_facts : Facts (Bind L M) (n && m) (f ++ or_if n g) (h ++ or_if m e)
  bind_facts = record {
    empty = empty_bind;
    blank = blank_bind;
    first = first_bind;
    begins = begins_bind;
    behind = behind_bind;
    same = same_bind;
    value = begun_bind.0;
    list = begun_bind.1;
    word = begun_bind.2;
  }
