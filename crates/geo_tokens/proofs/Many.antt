-- Lists of one language, one after the other.
use Rattle.std.proofs.Common.{◌≡◌, ℕ, zero, suc, ◌<◌, ◌≤◌, List, [], ◌∷◌, ◌++◌, length, Option, Some, None, true, false, inl, inr, refl, sym, ap, ◌∙◌, subst, arith}
use Rattle.std.specs.Prelude.{if◌then◌else◌}
use Rattle.std.proofs.lemmas.List.{append-nil, append_cancel_right, length-append}
use Rattle.geo_tokens.specs.declared.token.Token.{Token}
use Rattle.geo_tokens.specs.Class.{class_of}
use Rattle.geo_tokens.specs.Words.{Kinds, has, Of, Lang, Pure, Bind, cut, both, Opt, there, not_there, UpTo, Many}
use Rattle.geo_tokens.specs.Reading.{Read, Got, Wrong, ◌>>=◌, Is, Found, next_is, up_to_at, many_at}
use Rattle.geo_tokens.proofs.Lists.{disjoint, has_left, has_right, has_append}
use Rattle.geo_tokens.proofs.Facts.{Facts, MayBeEmpty, wider_by}
use Rattle.geo_tokens.proofs.Bind.{bind_is, bind_facts}
use Rattle.geo_tokens.proofs.Parts.{pure_facts, pure_is, opt_facts, opt_is}

pub disjoint_nil : (ks : Kinds) → disjoint ks [] ≡ true
disjoint_nil [] = refl
disjoint_nil (k ∷ ks) = disjoint_nil ks

-- a sum that computes
unfoldable pub plus : ℕ → ℕ → ℕ
plus zero n = n
plus (suc k) n = suc (plus k n)

pub le_plus : (k n : ℕ) → n ≤ plus k n
unfolding plus
le_plus zero n = omega arith
le_plus (suc k) n = omega (arith, le_plus k n)

-- where the values before were read, more may stand behind
items_more : {A : Type 0} (M N : Lang (List A)) (a : A) → ((o : Option (List A)) (w : List Token) → M o w → N o w) → (o : Option (List A)) (w : List Token)
    → Bind M (λ others. Pure (a ∷ others)) o w → Bind N (λ others. Pure (a ∷ others)) o w
items_more M N a up o w (cut e l) = cut e (up None w l)
items_more M N a up o w (both b x y l m e) = both b x y (up (Some b) x l) m e

chain_more : {A : Type 0} (L : Lang A) (M N : Lang (List A)) → ((o : Option (List A)) (w : List Token) → M o w → N o w) → (o : Option (List A)) (w : List Token)
    → Opt (Bind L (λ a. Bind M (λ others. Pure (a ∷ others)))) [] o w → Opt (Bind L (λ a. Bind N (λ others. Pure (a ∷ others)))) [] o w
chain_more L M N up o w (there (cut e l)) = there (cut e l)
chain_more L M N up o w (there (both a x y l m e)) = there (both a x y l (items_more M N a up o y m) e)
chain_more L M N up o w (not_there e1 e2) = not_there e1 e2

module _ {A : Type 0} (L : Lang A) where
  none_more : (k : ℕ) (o : Option (List A)) (w : List Token) → Pure [] o w → UpTo L k o w
  none_more zero o w l = l
  none_more (suc k) o w l = not_there l.0 l.1

  -- raising the limit
  raise : (k n : ℕ) (o : Option (List A)) (w : List Token) → UpTo L k o w → UpTo L (plus k n) o w
  unfolding plus
  raise zero n o w l = none_more n o w l
  raise (suc k) n o w l = chain_more L (UpTo L k) (UpTo L (plus k n)) (raise k n) o w l

  one_more : (k : ℕ) (o : Option (List A)) (w : List Token) → UpTo L k o w → UpTo L (suc k) o w
  one_more zero o w l = not_there l.0 l.1
  one_more (suc k) o w l = chain_more L (UpTo L k) (UpTo L (suc k)) (one_more k) o w l

  raise_by : (n k : ℕ) (o : Option (List A)) (w : List Token) → UpTo L k o w → UpTo L (plus n k) o w
  unfolding plus
  raise_by zero k o w l = l
  raise_by (suc n) k o w l = one_more (plus n k) o w (raise_by n k o w l)

module _ {A : Type 0} (L : Lang A) (f e : Kinds) (l : Facts L false f e) (apart : disjoint e f ≡ true) where
  firsts_of : ℕ → Kinds
  firsts_of zero = []
  firsts_of (suc k) = f

  apart_at : (k : ℕ) → disjoint e (firsts_of k ++ []) ≡ true
  unfolding firsts_of
  apart_at zero = disjoint_nil e
  apart_at (suc k) = subst (λ (u : Kinds). disjoint e u ≡ true) (sym (append-nil f)) apart

  -- one item, and up to k more
  item_facts : (k : ℕ) → Facts (UpTo L k) true (firsts_of k) (f ++ e) → Facts (Bind L (λ a. Bind (UpTo L k) (λ others. Pure (a ∷ others)))) false f (f ++ e)
  item_facts k h =
      let inner : (a : A) → Facts (Bind (UpTo L k) (λ others. Pure (a ∷ others))) true (firsts_of k ++ []) (f ++ e) =
      λ a. bind_facts (UpTo L k) (λ others. Pure (a ∷ others)) true true (firsts_of k) (f ++ e) [] [] h (λ others. pure_facts (a ∷ others)) (disjoint_nil (f ++ e)) in
      let whole : Facts (Bind L (λ a. Bind (UpTo L k) (λ others. Pure (a ∷ others)))) false (f ++ []) ((f ++ e) ++ e) =
      bind_facts L (λ a. Bind (UpTo L k) (λ others. Pure (a ∷ others))) false true f e (firsts_of k ++ []) (f ++ e) l inner (apart_at k) in
      wider_by _ false (f ++ []) ((f ++ e) ++ e) f (f ++ e)
      (λ c i. subst (λ (u : Kinds). has u c ≡ true) (append-nil f) i)
      (λ c i. has_left f [] c i)
      (λ c i. elim (has_append (f ++ e) e c i) [ inl j ↦ j | inr j ↦ has_right f e c j ])
      whole

  up_to_facts : (k : ℕ) → Facts (UpTo L k) true (firsts_of k) (f ++ e)
  unfolding firsts_of
  up_to_facts zero = wider_by (Pure []) true [] [] [] (f ++ e) (λ c i. i) (λ c i. i) (λ c i. absurd cc) (pure_facts [])
  up_to_facts (suc k) = wider_by _ true f (f ++ (f ++ e)) f (f ++ e) (λ c i. i) (λ c i. i)
      (λ c i. elim (has_append f (f ++ e) c i) [ inl j ↦ has_left f e c j | inr j ↦ j ])
      (opt_facts _ f (f ++ e) [] (item_facts k (up_to_facts k)))

  of_first : (k c : ℕ) → has (firsts_of k) c ≡ true → has f c ≡ true
  unfolding firsts_of
  of_first zero c i = absurd cc
  of_first (suc k) c i = i

  begins_one : (t : Token) → Of f t → (o : Option (List A)) × (v : List Token) × UpTo L 1 o (t ∷ v)
  unfolding firsts_of
  begins_one t i = (up_to_facts 1).begins t i

  pub many_facts : Facts (Many L) true f (f ++ e)
  many_facts = record {
    empty = λ o q. (up_to_facts q.0).empty o q.1;
    blank = λ q. ([], (0, (refl, refl)));
    first = λ o t v q. of_first q.0 (class_of t.kind) ((up_to_facts q.0).first o t v q.1);
    begins = λ t i. (let b = begins_one t i in (b.0, b.1, (1, b.2)));
    behind = λ o p x t v q r. (up_to_facts (plus q.0 r.0)).behind o p x t v (raise L q.0 r.0 o x q.1) (raise_by L q.0 r.0 p (x ++ t ∷ v) r.1);
    same = λ o p x q r. (up_to_facts (plus q.0 r.0)).same o p x (raise L q.0 r.0 o x q.1) (raise_by L q.0 r.0 p x r.1);
    value = Some [];
    list = [];
    word = (0, (refl, refl));
  }

  module _ (r : List Token → Read A) (is : (w : List Token) → Is L w (r w)) where
    up_to_is : (k : ℕ) (w : List Token) → Is (UpTo L k) w (up_to_at f r k w)
    up_to_is zero w = pure_is [] w
    up_to_is (suc k) w =
        opt_is (Bind L (λ a. Bind (UpTo L k) (λ others. Pure (a ∷ others)))) f (f ++ e) [] (item_facts k (up_to_facts k)) w
        (r w >>= λ a rest. up_to_at f r k rest >>= λ others last. Got (Some (a ∷ others)) last)
        (bind_is L (λ a. Bind (UpTo L k) (λ others. Pure (a ∷ others))) false true f e (firsts_of k ++ []) (f ++ e) l (inner k) (apart_at k) w (r w)
        (λ a rest. up_to_at f r k rest >>= λ others last. Got (Some (a ∷ others)) last) (is w)
        (λ a v. bind_is (UpTo L k) (λ others. Pure (a ∷ others)) true true (firsts_of k) (f ++ e) [] [] (up_to_facts k) (λ others. pure_facts (a ∷ others)) (disjoint_nil (f ++ e)) v
        (up_to_at f r k v) (λ others last. Got (Some (a ∷ others)) last) (up_to_is k v) (λ others last. pure_is (a ∷ others) last)))
      where
        inner : (k : ℕ) (a : A) → Facts (Bind (UpTo L k) (λ others. Pure (a ∷ others))) true (firsts_of k ++ []) (f ++ e)
        inner k a = bind_facts (UpTo L k) (λ others. Pure (a ∷ others)) true true (firsts_of k) (f ++ e) [] [] (up_to_facts k) (λ others. pure_facts (a ∷ others)) (disjoint_nil (f ++ e))

    solid : (o : Option A) → MayBeEmpty false o → ⊥
    solid None i = i
    solid (Some a) i = absurd cc

    pub shorter : (w rest : List Token) (o : Option A) → Found L w o rest → length rest < length w
    shorter w rest o h = at h.run h.word h.parts
      where
        at : (run : List Token) → L o run → w ≡ run ++ rest → length rest < length w
        at [] lw q = absurd (solid o (l.empty o lw))
        at (t ∷ run) lw q = omega (arith, ap length q, length-append run rest)

    -- more fuel than tokens changes nothing
    steady_nil : (k : ℕ) → up_to_at f r k [] ≡ Got (Some []) []
    steady_nil zero = refl
    steady_nil (suc k) = refl

    -- what is read behind the first item
    behind_at : ℕ → Read A → Read (List A)
    behind_at k x = x >>= λ a rest. up_to_at f r k rest >>= λ others last. Got (Some (a ∷ others)) last

    steady_step : (k j : ℕ) (w : List Token) (x : Read A) → Is L w x → ((v : List Token) → length v < length w → up_to_at f r k v ≡ up_to_at f r j v) → behind_at k x ≡ behind_at j x
    unfolding behind_at
    steady_step k j w (Got (Some a) rest) h ih = ap (λ (u : Read (List A)). u >>= λ others last. Got (Some (a ∷ others)) last) (ih rest (shorter w rest (Some a) h))
    steady_step k j w (Got None rest) h ih = refl
    steady_step k j w (Wrong rest) h ih = refl

    pub steady : (k j : ℕ) (w : List Token) → length w ≤ k → length w ≤ j → up_to_at f r k w ≡ up_to_at f r j w
    unfolding behind_at
    steady k j [] p q = steady_nil k ∙ sym (steady_nil j)
    steady zero j (t ∷ w) p q = absurd (omega arith)
    steady (suc k) zero (t ∷ w) p q = absurd (omega arith)
    steady (suc k) (suc j) (t ∷ w) p q =
        ap (λ (u : Read (List A)). if next_is f (t ∷ w) then u else Got (Some []) (t ∷ w))
        (steady_step k j (t ∷ w) (r (t ∷ w)) (is (t ∷ w)) (λ v h. steady k j v (omega arith) (omega arith)))

    at_each : (w : List Token) (k : ℕ) → Is (UpTo L (plus k (length w))) w (many_at f r w)
    at_each w k = subst (λ (u : Read (List A)). Is (UpTo L (plus k (length w))) w u) (steady (plus k (length w)) (length w) w (le_plus k (length w)) (omega arith)) (up_to_is (plus k (length w)) w)

    at_all : (w : List Token) (n : ℕ) (x : Read (List A)) → ((k : ℕ) → Is (UpTo L (plus k n)) w x) → Is (Many L) w x
    at_all w n (Got o rest) h =
        let z = h 0 in record {
          run = z.run;
          parts = z.parts;
          word = (plus 0 n, z.word);
          only = λ p v q. (let y = h q.0 in y.only p v (subst (λ (u : List Token). UpTo L (plus q.0 n) p (u ++ v)) (append_cancel_right z.run y.run rest (sym z.parts ∙ y.parts)) (raise L q.0 n p (z.run ++ v) q.1)));
        }
    at_all w n (Wrong rest) h =
        let z = h 0 in record {
          run = z.run;
          parts = z.parts;
          value = z.value;
          more = z.more;
          begins = (plus 0 n, z.begins);
          only = λ p v q. (let y = h q.0 in y.only p v (subst (λ (u : List Token). UpTo L (plus q.0 n) p (u ++ v)) (append_cancel_right z.run y.run rest (sym z.parts ∙ y.parts)) (raise L q.0 n p (z.run ++ v) q.1)));
        }

    pub many_is : (w : List Token) → Is (Many L) w (many_at f r w)
    many_is w = at_all w (length w) (many_at f r w) (at_each w)
