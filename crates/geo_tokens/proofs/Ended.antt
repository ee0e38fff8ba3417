-- Lists behind marks, the last of which may be of another language: the facts, and reading them.
use Rattle.std.proofs.Common.{◌≡◌, ℕ, zero, suc, ◌<◌, ◌≤◌, List, [], ◌∷◌, ◌++◌, length, Option, Some, None, Bool, true, false, inl, inr, refl, sym, ap, ◌∙◌, subst, arith}
use Rattle.std.specs.Prelude.{if◌then◌else◌}
use Rattle.std.proofs.lemmas.List.{append-nil, append_cancel_right, length-append}
use Rattle.geo_tokens.specs.declared.token.Token.{Token}
use Rattle.geo_tokens.specs.Class.{class_of}
use Rattle.geo_tokens.specs.Words.{Kinds, has, Of, Lang, Pure, Tok, Bind, cut, both, Either, left, right, Opt, there, not_there, UpToEnded, Ended}
use Rattle.geo_tokens.specs.Reading.{Read, Got, Wrong, ◌>>=◌, Is, Found, next_is, up_to_ended_at, many_ended_at}
use Rattle.geo_tokens.proofs.Lists.{disjoint, has_left, has_right, has_append}
use Rattle.geo_tokens.proofs.Facts.{Facts, MayBeEmpty, wider_by}
use Rattle.geo_tokens.proofs.Many.{disjoint_nil, plus, le_plus}
use Rattle.geo_tokens.proofs.Good.{Good, pure_good, one_good, bind_good, either_good, opt_good}

-- the same first set, written otherwise, and a larger set behind
wide : {A : Type 0} {L : Lang A} {r : List Token → Read A} {n : Bool} {f e : Kinds} (f' e' : Kinds) → ((c : ℕ) → has f c ≡ true → has f' c ≡ true) → ((c : ℕ) → has f' c ≡ true → has f c ≡ true)
    → ((c : ℕ) → has e c ≡ true → has e' c ≡ true) → Good L r n f e → Good L r n f' e'
wide {A} {L} {r} {n} {f} {e} f' e' p p' q x = record { facts = wider_by L n f e f' e' p p' q x.facts; reads = x.reads }

-- ---- one more

module _ {A B : Type 0} (marks : Kinds) (L : Lang A) (E : Lang B) where
  abbrev Item : Lang (List A × Option B) → Lang (List A × Option B)
  Item M = Bind L (λ a. Bind M (λ r. Pure (a ∷ r.0, r.1)))

  abbrev Last : Lang (List A × Option B)
  Last = Bind E (λ x. Pure ([], Some x))

  abbrev Marked : Lang (List A × Option B) → Lang (List A × Option B)
  Marked M = Opt (Bind (Tok marks) (λ m. Either (Item M) Last)) ([], None)

  module _ (M N : Lang (List A × Option B)) (up : (o : Option (List A × Option B)) (w : List Token) → M o w → N o w) where
    rest_more : (a : A) (o : Option (List A × Option B)) (w : List Token) → Bind M (λ r. Pure (a ∷ r.0, r.1)) o w → Bind N (λ r. Pure (a ∷ r.0, r.1)) o w
    rest_more a o w (cut e l) = cut e (up None w l)
    rest_more a o w (both b x y l m e) = both b x y (up (Some b) x l) m e

    item_more : (o : Option (List A × Option B)) (w : List Token) → Item M o w → Item N o w
    item_more o w (cut e l) = cut e l
    item_more o w (both a x y l m e) = both a x y l (rest_more a o y m) e

    either_more : (o : Option (List A × Option B)) (w : List Token) → Either (Item M) Last o w → Either (Item N) Last o w
    either_more o w (left l) = left (item_more o w l)
    either_more o w (right l) = right l

    marked_more : (o : Option (List A × Option B)) (w : List Token) → Marked M o w → Marked N o w
    marked_more o w (there (cut e l)) = there (cut e l)
    marked_more o w (there (both t x y l m e)) = there (both t x y l (either_more o y m) e)
    marked_more o w (not_there e1 e2) = not_there e1 e2

  abbrev U : ℕ → Lang (List A × Option B)
  U k = UpToEnded marks L E k

  none_more : (k : ℕ) (o : Option (List A × Option B)) (w : List Token) → Pure ([], None) o w → U k o w
  none_more zero o w l = l
  none_more (suc k) o w l = not_there l.0 l.1

  raise : (k n : ℕ) (o : Option (List A × Option B)) (w : List Token) → U k o w → U (plus k n) o w
  unfolding plus
  raise zero n o w l = none_more n o w l
  raise (suc k) n o w l = marked_more (U k) (U (plus k n)) (raise k n) o w l

  one_more : (k : ℕ) (o : Option (List A × Option B)) (w : List Token) → U k o w → U (suc k) o w
  one_more zero o w l = not_there l.0 l.1
  one_more (suc k) o w l = marked_more (U k) (U (suc k)) (one_more k) o w l

  raise_by : (n k : ℕ) (o : Option (List A × Option B)) (w : List Token) → U k o w → U (plus n k) o w
  unfolding plus
  raise_by zero k o w l = l
  raise_by (suc n) k o w l = one_more (plus n k) o w (raise_by n k o w l)

module _ {A B : Type 0} (marks : Kinds) (mark : Token) (L : Lang A) (E : Lang B) (r : List Token → Read A) (s : List Token → Read B) (f e g h : Kinds) (is_mark : Of marks mark)
    (parted : disjoint f g ≡ true) (apart : disjoint e marks ≡ true) (good : Good L r false f e) (ends : Good E s false g h) where
  abbrev behind : Kinds
  behind = marks ++ (e ++ h)

  firsts_of : ℕ → Kinds
  firsts_of zero = []
  firsts_of (suc k) = marks

  abbrev V : ℕ → Lang (List A × Option B)
  V k = UpToEnded marks L E k

  abbrev v_at : ℕ → List Token → Read (List A × Option B)
  v_at k = up_to_ended_at marks f r s k

  apart_at : (k : ℕ) → disjoint e (firsts_of k ++ []) ≡ true
  unfolding firsts_of
  apart_at zero = disjoint_nil e
  apart_at (suc k) = subst (λ (u : Kinds). disjoint e u ≡ true) (sym (append-nil marks)) apart

  nil_in : (ks : Kinds) (c : ℕ) → has (ks ++ []) c ≡ true → has ks c ≡ true
  nil_in ks c i = subst (λ (u : Kinds). has u c ≡ true) (append-nil ks) i

  nil_out : (ks : Kinds) (c : ℕ) → has ks c ≡ true → has (ks ++ []) c ≡ true
  nil_out ks c i = has_left ks [] c i

  in_e : (c : ℕ) → has e c ≡ true → has behind c ≡ true
  in_e c i = has_right marks (e ++ h) c (has_left e h c i)

  in_h : (c : ℕ) → has h c ≡ true → has behind c ≡ true
  in_h c i = has_right marks (e ++ h) c (has_right e h c i)

  -- an item of L, and more behind it
  item_good : (k : ℕ) → Good (V k) (v_at k) true (firsts_of k) behind
      → Good {A = List A × Option B} (Bind L (λ a. Bind (V k) (λ q. Pure {A = List A × Option B} (a ∷ q.0, q.1)))) (λ w. r w >>= λ a v3. v_at k v3 >>= λ q v4. Got (Some (a ∷ q.0, q.1)) v4) false f behind
  item_good k x =
      wide f behind (nil_in f) (nil_out f)
      (λ c i. elim (has_append behind e c i) [ inl j ↦ j | inr j ↦ in_e c j ])
      (bind_good (apart_at k) good (λ a. bind_good (disjoint_nil behind) x (λ q. pure_good {A = List A × Option B} (a ∷ q.0, q.1))))

  -- an item of E
  last_good : Good {A = List A × Option B} (Bind E (λ x. Pure {A = List A × Option B} ([], Some x))) (λ w. s w >>= λ x v3. Got (Some ([], Some x)) v3) false g behind
  last_good = wide g behind (nil_in g) (nil_out g) in_h (bind_good (disjoint_nil h) ends (λ x. pure_good {A = List A × Option B} ([], Some x)))

  up_good : (k : ℕ) → Good (V k) (v_at k) true (firsts_of k) behind
  unfolding firsts_of
  up_good zero = wide [] behind (λ c i. i) (λ c i. i) (λ c i. absurd cc) (pure_good {A = List A × Option B} ([], None))
  up_good (suc k) =
      wide marks behind (λ c i. i) (λ c i. i) (λ c i. elim (has_append marks behind c i) [ inl j ↦ has_left marks (e ++ h) c j | inr j ↦ j ])
      (opt_good {A = List A × Option B} ([], None)
      (wide marks behind (nil_in marks) (nil_out marks)
      (λ c i. elim (has_append behind behind c (nil_in (behind ++ behind) c i)) [ inl j ↦ j | inr j ↦ j ])
      (bind_good refl (one_good marks (λ t. Some t) mark is_mark) (λ m. either_good parted (item_good k (up_good k)) last_good))))

  -- ---- any number of items

  begins_one : (t : Token) → Of marks t → (o : Option (List A × Option B)) × (v : List Token) × V 1 o (t ∷ v)
  unfolding firsts_of
  begins_one t i = (up_good 1).facts.begins t i

  of_first : (k c : ℕ) → has (firsts_of k) c ≡ true → has marks c ≡ true
  unfolding firsts_of
  of_first zero c i = absurd cc
  of_first (suc k) c i = i

  facts_of : (k : ℕ) → Facts (V k) true (firsts_of k) behind
  facts_of k = (up_good k).facts

  ended_facts : Facts (Ended marks L E) true marks behind
  ended_facts = record {
    empty = λ o q. (facts_of q.0).empty o q.1;
    blank = λ q. (([], None), (0, (refl, refl)));
    first = λ o t v q. of_first q.0 (class_of t.kind) ((facts_of q.0).first o t v q.1);
    begins = λ t i. (let b = begins_one t i in (b.0, b.1, (1, b.2)));
    behind = λ o p x t v q z. (facts_of (plus q.0 z.0)).behind o p x t v (raise marks L E q.0 z.0 o x q.1) (raise_by marks L E q.0 z.0 p (x ++ t ∷ v) z.1);
    same = λ o p x q z. (facts_of (plus q.0 z.0)).same o p x (raise marks L E q.0 z.0 o x q.1) (raise_by marks L E q.0 z.0 p x z.1);
    value = Some ([], None);
    list = [];
    word = (0, (refl, refl));
  }

  solid : (o : Option A) → MayBeEmpty false o → ⊥
  solid None i = i
  solid (Some a) i = absurd cc

  shorter : (w rest : List Token) (o : Option A) → Found L w o rest → length rest < length w
  shorter w rest o x = at x.run x.word x.parts
    where
      at : (run : List Token) → L o run → w ≡ run ++ rest → length rest < length w
      at [] lw q = absurd (solid o (good.facts.empty o lw))
      at (t ∷ run) lw q = omega (arith, ap length q, length-append run rest)

  -- more fuel than tokens changes nothing

  steady_nil : (k : ℕ) → v_at k [] ≡ Got (Some ([], None)) []
  steady_nil zero = refl
  steady_nil (suc k) = refl

  abbrev item_at : ℕ → Read A → Read (List A × Option B)
  item_at k x = x >>= λ a v3. v_at k v3 >>= λ q v4. Got (Some (a ∷ q.0, q.1)) v4

  abbrev last_at : List Token → Read (List A × Option B)
  last_at w = s w >>= λ x v3. Got (Some ([], Some x)) v3

  abbrev tail_at : ℕ → List Token → Read (List A × Option B)
  tail_at k w = if next_is f w then item_at k (r w) else last_at w

  item_same : (k j : ℕ) (w : List Token) (x : Read A) → Is L w x → ((v : List Token) → length v < length w → v_at k v ≡ v_at j v) → item_at k x ≡ item_at j x
  item_same k j w (Got (Some a) rest) y ih = ap (λ (u : Read (List A × Option B)). u >>= λ q v4. Got (Some (a ∷ q.0, q.1)) v4) (ih rest (shorter w rest (Some a) y))
  item_same k j w (Got None rest) y ih = refl
  item_same k j w (Wrong rest) y ih = refl

  tail_same : (k j : ℕ) (w : List Token) → ((v : List Token) → length v < length w → v_at k v ≡ v_at j v) → tail_at k w ≡ tail_at j w
  tail_same k j w ih = ap (λ (u : Read (List A × Option B)). if next_is f w then u else last_at w) (item_same k j w (r w) (good.reads w) ih)

  abbrev mark_at : Bool → ℕ → Token → List Token → Read (List A × Option B)
  mark_at b k t w = if b then ((if b then Got (Some t) w else Wrong (t ∷ w)) >>= (λ m v. tail_at k v)) else Got (Some ([], None)) (t ∷ w)

  mark_same : (b : Bool) (k j : ℕ) (t : Token) (w : List Token) → tail_at k w ≡ tail_at j w → mark_at b k t w ≡ mark_at b j t w
  mark_same true k j t w x = x
  mark_same false k j t w x = refl

  steady : (k j : ℕ) (w : List Token) → length w ≤ k → length w ≤ j → v_at k w ≡ v_at j w
  steady k j [] p q = steady_nil k ∙ sym (steady_nil j)
  steady zero j (t ∷ w) p q = absurd (omega (arith, p))
  steady (suc k) zero (t ∷ w) p q = absurd (omega (arith, q))
  steady (suc k) (suc j) (t ∷ w) p q =
      mark_same (has marks (class_of t.kind)) k j t w (tail_same k j w (λ v l. steady k j v (omega (arith, l, p)) (omega (arith, l, q))))

  at_each : (w : List Token) (k : ℕ) → Is (V (plus k (length w))) w (many_ended_at marks f r s w)
  at_each w k = subst (λ (u : Read (List A × Option B)). Is (V (plus k (length w))) w u) (steady (plus k (length w)) (length w) w (le_plus k (length w)) (omega arith)) ((up_good (plus k (length w))).reads w)

  at_all : (w : List Token) (n : ℕ) (x : Read (List A × Option B)) → ((k : ℕ) → Is (V (plus k n)) w x) → Is (Ended marks L E) w x
  at_all w n (Got o rest) y =
      let z = y 0 in record {
        run = z.run;
        parts = z.parts;
        word = (plus 0 n, z.word);
        only = λ p v q. (let u = y q.0 in u.only p v (subst (λ (a : List Token). V (plus q.0 n) p (a ++ v)) (append_cancel_right z.run u.run rest (sym z.parts ∙ u.parts)) (raise marks L E q.0 n p (z.run ++ v) q.1)));
      }
  at_all w n (Wrong rest) y =
      let z = y 0 in record {
        run = z.run;
        parts = z.parts;
        value = z.value;
        more = z.more;
        begins = (plus 0 n, z.begins);
        only = λ p v q. (let u = y q.0 in u.only p v (subst (λ (a : List Token). V (plus q.0 n) p (a ++ v)) (append_cancel_right z.run u.run rest (sym z.parts ∙ u.parts)) (raise marks L E q.0 n p (z.run ++ v) q.1)));
      }

  ended_is : (w : List Token) → Is (Ended marks L E) w (many_ended_at marks f r s w)
  ended_is w = at_all w (length w) (many_ended_at marks f r s w) (at_each w)

-- where one token tells an item of L from one of E, and an item of L from the next mark
pub ended_good : {A B : Type 0} (marks : Kinds) (mark : Token) {L : Lang A} {E : Lang B} {r : List Token → Read A} {s : List Token → Read B} {f e g h : Kinds} → Of marks mark
    → disjoint f g ≡ true → disjoint e marks ≡ true → Good L r false f e → Good E s false g h → Good (Ended marks L E) (many_ended_at marks f r s) true marks (marks ++ (e ++ h))
ended_good marks mark {L} {E} {r} {s} {f} {e} {g} {h} i p a good ends =
    record { facts = ended_facts marks mark L E r s f e g h i p a good ends; reads = ended_is marks mark L E r s f e g h i p a good ends }
