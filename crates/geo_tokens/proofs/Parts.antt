-- One token, test_not token, one language or another, a language or nothing.
use Rattle.std.proofs.Common.{◌≡◌, List, [], ◌∷◌, ◌++◌, Option, Some, None, Bool, true, false, inl, inr, refl, sym, ap, ◌∙◌, subst}
use Rattle.std.specs.Prelude.{if◌then◌else◌}
use Rattle.std.proofs.lemmas.Bool.{both_ways}
use Rattle.std.proofs.lemmas.List.{append-nil}
use Rattle.geo_tokens.specs.declared.token.Token.{Token}
use Rattle.geo_tokens.specs.Class.{class_of}
use Rattle.geo_tokens.specs.Words.{Kinds, has, Of, Lang, Pure, OneOf, Either, left, right, Opt, there, not_there}
use Rattle.geo_tokens.specs.Reading.{Read, Got, Wrong, Is, Found, Lost, Parts, one_at, next_is}
use Rattle.geo_tokens.proofs.Lists.{disjoint, has_disjoint, has_left, has_right, has_append}
use Rattle.geo_tokens.proofs.Facts.{Facts, GoesOn, MayBeEmpty}
use Rattle.geo_tokens.proofs.Bind.{goes_left}

-- ---- test_not token

nothing : (t : Token) (v x : List Token) → x ++ t ∷ v ≡ [] → ⊥
nothing t v [] q = absurd cc
nothing t v (s ∷ x) q = absurd cc

pub pure_facts : {A : Type 0} (a : A) → Facts (Pure a) true [] []
pure_facts {A} a = record {
  empty = empty_pure;
  blank = λ q. (a, (refl, refl));
  first = λ o t v l. let test_not : t ∷ v ≡ [] = l.1 in absurd cc;
  begins = λ t i. absurd cc;
  behind = λ o p x t v l m. absurd (nothing t v x m.1);
  same = λ o p x l m. l.0 ∙ sym m.0;
  value = Some a;
  list = [];
  word = (refl, refl);
}
  where
    empty_pure : (o : Option A) → Pure a o [] → MayBeEmpty true o
    empty_pure None l = let test_not : None ≡ Some a = l.0 in absurd cc
    empty_pure (Some b) l = refl

pub pure_is : {A : Type 0} (a : A) (w : List Token) → Is (Pure a) w (Got (Some a) w)
pure_is a w = record {
  run = [];
  parts = refl;
  word = (refl, refl);
  only = λ p v l. inl (l.1, l.0);
}

-- ---- one token

-- what is one token does not begin with another
one_token : (x : List Token) (t s : Token) (v : List Token) → x ≡ t ∷ [] → (r : Token) → x ++ s ∷ v ≡ r ∷ [] → ⊥
one_token [] t s v e r q = absurd cc
one_token (a ∷ x) t s v e r q = let rest : x ++ s ∷ v ≡ [] = cc in nothing s v x rest

one_of_same : {A : Type 0} (f : Token → Option A) (o p : Option A) (x : List Token) (t s : Token) → o ≡ f t → x ≡ t ∷ [] → p ≡ f s → x ≡ s ∷ [] → o ≡ p
one_of_same f o p x t s e1 e2 e3 e4 =
    let ts : t ≡ s = cc in
    e1 ∙ ap f ts ∙ sym e3

pub one_of_facts : {A : Type 0} (ks : Kinds) (f : Token → Option A) (t : Token) → Of ks t → Facts (OneOf ks f) false ks []
one_of_facts {A} ks f t i = record {
  empty = λ o l. let test_not : [] ≡ l.0 ∷ [] = l.3 in absurd cc;
  blank = λ q. absurd cc;
  first = λ o s v l. let e : s ≡ l.0 = head s v l.0 l.3 in subst (λ (u : Token). Of ks u) (sym e) l.1;
  begins = λ s j. (f s, [], (s, j, refl, refl));
  behind = λ o p x s v l m. absurd (one_token x l.0 s v l.3 m.0 m.3);
  same = λ o p x l m. one_of_same f o p x l.0 m.0 l.2 l.3 m.2 m.3;
  value = f t;
  list = t ∷ [];
  word = (t, i, refl, refl);
}
  where
    head : (s : Token) (v : List Token) (r : Token) → s ∷ v ≡ r ∷ [] → s ≡ r
    head s v r q = cc

-- a read token, or another one in its place
token_found : {A : Type 0} (ks : Kinds) (f : Token → Option A) (s : Token) (rest : List Token) → Of ks s → Found (OneOf ks f) (s ∷ rest) (f s) rest
token_found {A} ks f s rest i = record {
  run = s ∷ [];
  parts = refl;
  word = (s, i, refl, refl);
  only = λ p v l. inl (done p v l.0 l.2 l.3);
}
  where
    done : (p : Option A) (v : List Token) (r : Token) → p ≡ f r → s ∷ v ≡ r ∷ [] → (v ≡ []) × (p ≡ f s)
    done p v r e q =
        let sr : r ≡ s = cc in
        let nil : v ≡ [] = cc in
        (nil, e ∙ ap f sr)

token_lost : {A : Type 0} (ks : Kinds) (f : Token → Option A) (t : Token) → Of ks t → (w : List Token) → next_is ks w ≡ false → Lost (OneOf ks f) w w
token_lost {A} ks f t i w test_not = record {
  run = [];
  parts = refl;
  value = f t;
  more = t ∷ [];
  begins = (t, i, refl, refl);
  only = λ p v l. other w v l.0 test_not l.1 l.3;
}
  where
    other : (w v : List Token) (r : Token) → next_is ks w ≡ false → Of ks r → v ≡ r ∷ [] → Parts v w
    other [] [] r test_not j q = absurd cc
    other [] (a ∷ v) r test_not j q = tt
    other (s ∷ w) [] r test_not j q = absurd cc
    other (s ∷ w) (a ∷ v) r test_not j q = λ e. both_ways (has ks (class_of s.kind)) test_not (subst (λ (u : Token). has ks (class_of u.kind) ≡ true) (let same : r ≡ s = cc in same) j)

one_at_tested : {A : Type 0} (ks : Kinds) (f : Token → Option A) (t : Token) → Of ks t → (s : Token) (rest : List Token) (b : Bool) → has ks (class_of s.kind) ≡ b
    → Is (OneOf ks f) (s ∷ rest) (if b then Got (f s) rest else Wrong (s ∷ rest))
one_at_tested ks f t i s rest true e = token_found ks f s rest e
one_at_tested ks f t i s rest false e = token_lost ks f t i (s ∷ rest) e

pub one_of_is : {A : Type 0} (ks : Kinds) (f : Token → Option A) (t : Token) → Of ks t → (w : List Token) → Is (OneOf ks f) w (one_at ks f w)
one_of_is ks f t i [] = token_lost ks f t i [] refl
one_of_is ks f t i (s ∷ rest) = one_at_tested ks f t i s rest (has ks (class_of s.kind)) refl

-- ---- one or the other

-- The next token is none of these kinds.
abbrev NoneNext : Kinds → List Token → Type 0
NoneNext ks [] = Unit {0}
NoneNext ks (t ∷ w) = Of ks t → ⊥

none_next : (ks : Kinds) (w : List Token) → next_is ks w ≡ false → NoneNext ks w
none_next ks [] e = tt
none_next ks (t ∷ w) e = λ i. both_ways (has ks (class_of t.kind)) e i

-- the next token is of the kinds ks, and so of none that is apart
none_apart : (ks ms : Kinds) (w : List Token) → disjoint ks ms ≡ true → next_is ks w ≡ true → NoneNext ms w
none_apart ks ms [] d e = absurd cc
none_apart ks ms (t ∷ w) d e = λ i. has_disjoint ks ms (class_of t.kind) d e i

-- A list of a language that does not begin with the next token parts from what is left at once.
other : {A : Type 0} (N : Lang A) (n : Bool) (g h : Kinds) (k : Facts N n g h) (w run rest v : List Token) (p : Option A) → n ≡ false → w ≡ run ++ rest → NoneNext g w → N p (run ++ v) → Parts v rest
other N n g h k w [] rest [] p e q test_not m = absurd (not_empty n p e (k.empty p m))
  where
    not_empty : {A : Type 0} (n : Bool) (p : Option A) → n ≡ false → MayBeEmpty n p → ⊥
    not_empty n None e m = m
    not_empty n (Some a) e m = both_ways n e m
other N n g h k [] [] rest (t ∷ v) p e q test_not m = subst (λ (u : List Token). Parts (t ∷ v) u) q tt
other N n g h k (s ∷ w) [] rest (t ∷ v) p e q test_not m = subst (λ (u : List Token). Parts (t ∷ v) u) q (λ ts. test_not (subst (λ (u : Token). Of g u) ts (k.first p t v m)))
other N n g h k [] (r ∷ run) rest v p e q test_not m = absurd cc
other N n g h k (s ∷ w) (r ∷ run) rest v p e q test_not m =
    let head : r ≡ s = cc in
    absurd (test_not (subst (λ (u : Token). Of g u) head (k.first p r (run ++ v) m)))

module _ {A : Type 0} (L M : Lang A) (f e g h : Kinds) (l : Facts L false f e) (k : Facts M false g h) (apart : disjoint f g ≡ true) where
  left_is : (w : List Token) (r : Read A) → next_is f w ≡ true → Is L w r → Is (Either L M) w r
  left_is w (Got o rest) test_is r = record {
    run = r.run;
    parts = r.parts;
    word = left r.word;
    only = λ p v q. elim q [
      | left lw ↦ r.only p v lw
      | right mw ↦ inr (other M false g h k w r.run rest v p refl r.parts (none_apart f g w apart test_is) mw)
    ];
  }
  left_is w (Wrong rest) test_is r = record {
    run = r.run;
    parts = r.parts;
    value = r.value;
    more = r.more;
    begins = left r.begins;
    only = λ p v q. elim q [
      | left lw ↦ r.only p v lw
      | right mw ↦ other M false g h k w r.run rest v p refl r.parts (none_apart f g w apart test_is) mw
    ];
  }

  right_is : (w : List Token) (r : Read A) → next_is f w ≡ false → Is M w r → Is (Either L M) w r
  right_is w (Got o rest) test_not r = record {
    run = r.run;
    parts = r.parts;
    word = right r.word;
    only = λ p v q. elim q [
      | left lw ↦ inr (other L false f e l w r.run rest v p refl r.parts (none_next f w test_not) lw)
      | right mw ↦ r.only p v mw
    ];
  }
  right_is w (Wrong rest) test_not r = record {
    run = r.run;
    parts = r.parts;
    value = r.value;
    more = r.more;
    begins = right r.begins;
    only = λ p v q. elim q [
      | left lw ↦ other L false f e l w r.run rest v p refl r.parts (none_next f w test_not) lw
      | right mw ↦ r.only p v mw
    ];
  }

  either_tested : (w : List Token) (r s : Read A) (b : Bool) → next_is f w ≡ b → Is L w r → Is M w s → Is (Either L M) w (if b then r else s)
  either_tested w r s true e x y = left_is w r e x
  either_tested w r s false e x y = right_is w s e y

  pub either_is : (w : List Token) (r s : Read A) → Is L w r → Is M w s → Is (Either L M) w (if next_is f w then r else s)
  either_is w r s x y = either_tested w r s (next_is f w) refl x y

  -- test_not list begins both ways
  not_both : (o p : Option A) (x v : List Token) → L o x → M p (x ++ v) → ⊥
  not_both None p [] v lw mw = l.empty None lw
  not_both (Some a) p [] v lw mw = let test_not : false ≡ true = l.empty (Some a) lw in absurd cc
  not_both o p (t ∷ x) v lw mw = has_disjoint f g (class_of t.kind) apart (l.first o t x lw) (k.first p t (x ++ v) mw)

  not_both_again : (o p : Option A) (x v : List Token) → M o x → L p (x ++ v) → ⊥
  not_both_again None p [] v mw lw = k.empty None mw
  not_both_again (Some a) p [] v mw lw = let test_not : false ≡ true = k.empty (Some a) mw in absurd cc
  not_both_again o p (t ∷ x) v mw lw = has_disjoint f g (class_of t.kind) apart (l.first p t (x ++ v) lw) (k.first o t x mw)

  goes_right : (o : Option A) (t : Token) → GoesOn h o t → GoesOn (e ++ h) o t
  goes_right None t i = i
  goes_right (Some a) t i = has_right e h (class_of t.kind) i

  either_behind : (o p : Option A) (x : List Token) (t : Token) (v : List Token) → Either L M o x → Either L M p (x ++ t ∷ v) → GoesOn (e ++ h) o t
  either_behind o p x t v (left lw) (left lv) = goes_left e h o t (l.behind o p x t v lw lv)
  either_behind o p x t v (left lw) (right mv) = absurd (not_both o p x (t ∷ v) lw mv)
  either_behind o p x t v (right mw) (left lv) = absurd (not_both_again o p x (t ∷ v) mw lv)
  either_behind o p x t v (right mw) (right mv) = goes_right o t (k.behind o p x t v mw mv)

  either_same : (o p : Option A) (x : List Token) → Either L M o x → Either L M p x → o ≡ p
  either_same o p x (left lw) (left lv) = l.same o p x lw lv
  either_same o p x (left lw) (right mv) = absurd (not_both o p x [] lw (subst (λ (u : List Token). M p u) (sym (append-nil x)) mv))
  either_same o p x (right mw) (left lv) = absurd (not_both_again o p x [] mw (subst (λ (u : List Token). L p u) (sym (append-nil x)) lv))
  either_same o p x (right mw) (right mv) = k.same o p x mw mv

  pub either_facts : Facts (Either L M) false (f ++ g) (e ++ h)
  either_facts = record {
    empty = λ o q. elim q [ left lw ↦ l.empty o lw | right mw ↦ k.empty o mw ];
    blank = λ q. absurd cc;
    first = λ o t v q. elim q [ left lw ↦ has_left f g (class_of t.kind) (l.first o t v lw) | right mw ↦ has_right f g (class_of t.kind) (k.first o t v mw) ];
    begins = λ t i. elim (has_append f g (class_of t.kind) i) [
      | inl j ↦ (let b = l.begins t j in (b.0, b.1, left b.2))
      | inr j ↦ (let b = k.begins t j in (b.0, b.1, right b.2))
    ];
    behind = either_behind;
    same = either_same;
    value = l.value;
    list = l.list;
    word = left l.word;
  }

-- ---- a language or nothing

module _ {A : Type 0} (L : Lang A) (f e : Kinds) (a : A) (l : Facts L false f e) where
  no_empty : (o : Option A) → L o [] → ⊥
  no_empty None lw = l.empty None lw
  no_empty (Some b) lw = let test_not : false ≡ true = l.empty (Some b) lw in absurd cc

  not_nil : (o : Option A) (run v : List Token) → run ++ v ≡ [] → L o run → ⊥
  not_nil o [] v q lw = no_empty o lw
  not_nil o (t ∷ run) v q lw = absurd cc

  -- reading gets behind a token that begins the language
  not_lost : (w rest : List Token) → next_is f w ≡ true → (r : Lost L w rest) → (v : List Token) → r.run ++ v ≡ [] → ⊥
  not_lost w rest test_is r v q = at w rest r.run r.parts r.only test_is q
    where
      at : (w rest run : List Token) → w ≡ run ++ rest → ((p : Option A) (v : List Token) → L p (run ++ v) → Parts v rest) → next_is f w ≡ true → run ++ v ≡ [] → ⊥
      at [] rest run e only test_is q = absurd cc
      at (t ∷ w) rest [] e only test_is q =
          let b = l.begins t test_is in
          let far : Parts (t ∷ b.1) (t ∷ w) = subst (λ (u : List Token). Parts (t ∷ b.1) u) (sym e) (only b.0 (t ∷ b.1) b.2) in
          far refl
      at (t ∷ w) rest (s ∷ run) e only test_is q = absurd cc

  there_is : (w : List Token) (r : Read A) → next_is f w ≡ true → Is L w r → Is (Opt L a) w r
  there_is w (Got o rest) test_is r = record {
    run = r.run;
    parts = r.parts;
    word = there r.word;
    only = λ p v q. elim q [
      | there lw ↦ r.only p v lw
      | not_there e1 e2 ↦ absurd (not_nil o r.run v e2 r.word)
    ];
  }
  there_is w (Wrong rest) test_is r = record {
    run = r.run;
    parts = r.parts;
    value = r.value;
    more = r.more;
    begins = there r.begins;
    only = λ p v q. elim q [
      | there lw ↦ r.only p v lw
      | not_there e1 e2 ↦ absurd (not_lost w rest test_is r v e2)
    ];
  }

  not_there_is : (w : List Token) → next_is f w ≡ false → Is (Opt L a) w (Got (Some a) w)
  not_there_is w test_not = record {
    run = [];
    parts = refl;
    word = not_there refl refl;
    only = λ p v q. elim q [
      | there lw ↦ inr (other L false f e l w [] w v p refl refl (none_next f w test_not) lw)
      | not_there e1 e2 ↦ inl (e2, e1)
    ];
  }

  opt_tested : (w : List Token) (r : Read A) (b : Bool) → next_is f w ≡ b → Is L w r → Is (Opt L a) w (if b then r else Got (Some a) w)
  opt_tested w r true e x = there_is w r e x
  opt_tested w r false e x = not_there_is w e

  pub opt_is : (w : List Token) (r : Read A) → Is L w r → Is (Opt L a) w (if next_is f w then r else Got (Some a) w)
  opt_is w r x = opt_tested w r (next_is f w) refl x

  opt_empty : (o : Option A) → Opt L a o [] → MayBeEmpty true o
  opt_empty o (there lw) = absurd (no_empty o lw)
  opt_empty None (not_there e1 e2) = absurd cc
  opt_empty (Some b) (not_there e1 e2) = refl

  goes_first : (o : Option A) (x : List Token) (t : Token) (v : List Token) → o ≡ Some a → x ≡ [] → (p : Option A) → L p (x ++ t ∷ v) → GoesOn (f ++ e) o t
  goes_first None x t v e1 e2 p lw = absurd cc
  goes_first (Some b) [] t v e1 e2 p lw = has_left f e (class_of t.kind) (l.first p t v lw)
  goes_first (Some b) (s ∷ x) t v e1 e2 p lw = absurd cc

  goes_last : (o : Option A) (t : Token) → GoesOn e o t → GoesOn (f ++ e) o t
  goes_last None t i = i
  goes_last (Some b) t i = has_right f e (class_of t.kind) i

  opt_behind : (o p : Option A) (x : List Token) (t : Token) (v : List Token) → Opt L a o x → Opt L a p (x ++ t ∷ v) → GoesOn (f ++ e) o t
  opt_behind o p x t v (there lw) (there lv) = goes_last o t (l.behind o p x t v lw lv)
  opt_behind o p x t v (not_there e1 e2) (there lv) = goes_first o x t v e1 e2 p lv
  opt_behind o p x t v q (not_there e1 e2) = absurd (nothing t v x e2)

  opt_same : (o p : Option A) (x : List Token) → Opt L a o x → Opt L a p x → o ≡ p
  opt_same o p x (there lw) (there lv) = l.same o p x lw lv
  opt_same o p x (there lw) (not_there e1 e2) = absurd (no_empty o (subst (λ (u : List Token). L o u) e2 lw))
  opt_same o p x (not_there e1 e2) (there lv) = absurd (no_empty p (subst (λ (u : List Token). L p u) e2 lv))
  opt_same o p x (not_there e1 e2) (not_there e3 e4) = e1 ∙ sym e3

  pub opt_facts : Facts (Opt L a) true f (f ++ e)
  opt_facts = record {
    empty = opt_empty;
    blank = λ q. (a, not_there refl refl);
    first = λ o t v q. elim q [ there lw ↦ l.first o t v lw | not_there e1 e2 ↦ absurd cc ];
    begins = λ t i. (let b = l.begins t i in (b.0, b.1, there b.2));
    behind = opt_behind;
    same = opt_same;
    value = Some a;
    list = [];
    word = not_there refl refl;
  }
