-- A language with its reader: the facts, and that reading is right. The parts of a grammar compose.
use Rattle.std.proofs.Common.{◌≡◌, ℕ, List, [], ◌∷◌, ◌++◌, Option, Some, None, option_map, Bool, true, false, ◌&&◌, inl, inr, refl, sym, ap, ◌∙◌, subst}
use Rattle.geo_tokens.specs.declared.token.Token.{Token}
use Rattle.geo_tokens.specs.Words.{Kinds, Of, Lang, Pure, OneOf, Bind, Either, Opt, Many, start_of, Placed}
use Rattle.geo_tokens.specs.Reading.{Read, Got, Wrong, ◌>>=◌, Is, Found, Parts, one_at, either_at, opt_at, many_at, placed_at}
use Rattle.geo_tokens.proofs.Lists.{disjoint, subset, or_if}
use Rattle.geo_tokens.proofs.Facts.{Facts, MayBeEmpty, GoesOn, wider}
use Rattle.geo_tokens.proofs.Bind.{bind_is, bind_facts}
use Rattle.geo_tokens.proofs.Parts.{pure_facts, pure_is, one_of_facts, one_of_is, either_facts, either_is, opt_facts, opt_is}
use Rattle.geo_tokens.proofs.Many.{many_facts, many_is}

pub record Good {A : Type 0} (L : Lang A) (r : List Token → Read A) (nullable : Bool) (firsts behinds : Kinds) : Type 0 where
  pub facts : Facts L nullable firsts behinds
  pub reads : (w : List Token) → Is L w (r w)

pub pure_good : {A : Type 0} (a : A) → Good (Pure a) (λ w. Got (Some a) w) true [] []
pure_good a = record { facts = pure_facts a; reads = pure_is a }

pub one_good : {A : Type 0} (ks : Kinds) (f : Token → Option A) (t : Token) → Of ks t → Good (OneOf ks f) (one_at ks f) false ks []
one_good ks f t i = record { facts = one_of_facts ks f t i; reads = one_of_is ks f t i }

pub bind_good : {A B : Type 0} {L : Lang A} {M : A → Lang B} {r : List Token → Read A} {s : A → List Token → Read B} {n m : Bool} {f e g h : Kinds}
    → disjoint e g ≡ true → Good L r n f e → ((a : A) → Good (M a) (s a) m g h) → Good (Bind L M) (λ w. r w >>= s) (n && m) (f ++ or_if n g) (h ++ or_if m e)
bind_good {A} {B} {L} {M} {r} {s} {n} {m} {f} {e} {g} {h} d x y = record {
  facts = bind_facts L M n m f e g h x.facts (λ a. (y a).facts) d;
  reads = λ w. bind_is L M n m f e g h x.facts (λ a. (y a).facts) d w (r w) s (x.reads w) (λ a v. (y a).reads v);
}

pub either_good : {A : Type 0} {L M : Lang A} {r s : List Token → Read A} {f e g h : Kinds}
    → disjoint f g ≡ true → Good L r false f e → Good M s false g h → Good (Either L M) (either_at f r s) false (f ++ g) (e ++ h)
either_good {A} {L} {M} {r} {s} {f} {e} {g} {h} d x y = record {
  facts = either_facts L M f e g h x.facts y.facts d;
  reads = λ w. either_is L M f e g h x.facts y.facts d w (r w) (s w) (x.reads w) (y.reads w);
}

pub opt_good : {A : Type 0} {L : Lang A} {r : List Token → Read A} {f e : Kinds} (a : A) → Good L r false f e → Good (Opt L a) (opt_at f r a) true f (f ++ e)
opt_good {A} {L} {r} {f} {e} a x = record {
  facts = opt_facts L f e a x.facts;
  reads = λ w. opt_is L f e a x.facts w (r w) (x.reads w);
}

pub many_good : {A : Type 0} {L : Lang A} {r : List Token → Read A} {f e : Kinds} → disjoint e f ≡ true → Good L r false f e → Good (Many L) (many_at f r) true f (f ++ e)
many_good {A} {L} {r} {f} {e} d x = record {
  facts = many_facts L f e x.facts d;
  reads = λ w. many_is L f e x.facts d r x.reads w;
}

pub wider_good : {A : Type 0} {L : Lang A} {r : List Token → Read A} {n : Bool} {f e : Kinds} (f' e' : Kinds) → subset f f' ≡ true → subset f' f ≡ true → subset e e' ≡ true → Good L r n f e → Good L r n f' e'
wider_good {A} {L} {r} {n} {f} {e} f' e' p p' q x = record { facts = wider L n f e f' e' p p' q x.facts; reads = x.reads }

-- ---- the place of the first token

solid : {A : Type 0} (o : Option A) → MayBeEmpty false o → ⊥
solid None i = i
solid (Some a) i = absurd cc

same_start : (run v : List Token) → (run ≡ [] → ⊥) → start_of (run ++ v) ≡ start_of run
same_start [] v n = absurd (n refl)
same_start (t ∷ run) v n = refl

module _ {A B : Type 0} (L : Lang A) (made : ℕ → A → B) (f e : Kinds) (l : Facts L false f e) where
  not_nil : (o : Option A) (run : List Token) → L o run → run ≡ [] → ⊥
  not_nil o run lw q = solid o (l.empty o (subst (λ (u : List Token). L o u) q lw))

  nil_behind : (o : Option A) (run : List Token) (v : List Token) → L o (run ++ v) → run ≡ [] → L o v
  nil_behind o run v lw q = subst (λ (u : List Token). L o (u ++ v)) q lw

  placed_goes : (p : Option A) (o : Option B) (x : List Token) (t : Token) → o ≡ option_map (made (start_of x)) p → GoesOn e p t → GoesOn e o t
  placed_goes None o x t q i = absurd i
  placed_goes (Some a) None x t q i = absurd cc
  placed_goes (Some a) (Some b) x t q i = i

  placed_facts : Facts (Placed L made) false f e
  placed_facts = record {
    empty = λ o q. absurd (solid q.0 (l.empty q.0 q.1));
    blank = λ q. absurd cc;
    first = λ o t v q. l.first q.0 t v q.1;
    begins = λ t i. (let b = l.begins t i in (option_map (made t.start) b.0, b.1, (b.0, b.2, refl)));
    behind = λ o p x t v q r. placed_goes q.0 o x t q.2 (l.behind q.0 r.0 x t v q.1 r.1);
    same = λ o p x q r. q.2 ∙ ap (λ (u : Option A). option_map (made (start_of x)) u) (l.same q.0 r.0 x q.1 r.1) ∙ sym r.2;
    value = option_map (made (start_of l.list)) l.value;
    list = l.list;
    word = (l.value, l.word, refl);
  }

  placed_found : (w rest : List Token) (p : Option A) → Found L w p rest → Found (Placed L made) w (option_map (made (start_of w)) p) rest
  placed_found w rest p r =
      let at : start_of w ≡ start_of r.run = ap start_of r.parts ∙ same_start r.run rest (not_nil p r.run r.word) in
      record {
        run = r.run;
        parts = r.parts;
        word = (p, r.word, ap (λ (n : ℕ). option_map (made n) p) at);
        only = λ o v q. elim (r.only q.0 v q.1) [
          | inl z ↦ inl (z.0, q.2 ∙ ap (λ (n : ℕ). option_map (made n) q.0) (same_start r.run v (not_nil p r.run r.word) ∙ sym at) ∙ ap (λ (u : Option A). option_map (made (start_of w)) u) z.1)
          | inr z ↦ inr z
        ];
      }

  placed_is : (w : List Token) (x : Read A) → Is L w x → Is (Placed L made) w (x >>= λ a rest. Got (Some (made (start_of w) a)) rest)
  placed_is w (Got (Some a) rest) r = placed_found w rest (Some a) r
  placed_is w (Got None rest) r = placed_found w rest None r
  placed_is w (Wrong rest) r = record {
    run = r.run;
    parts = r.parts;
    value = option_map (made (start_of (r.run ++ r.more))) r.value;
    more = r.more;
    begins = (r.value, r.begins, refl);
    only = λ o v q. r.only q.0 v q.1;
  }

pub placed_good : {A B : Type 0} {L : Lang A} {r : List Token → Read A} {f e : Kinds} (made : ℕ → A → B) → Good L r false f e → Good (Placed L made) (placed_at r made) false f e
placed_good {A} {B} {L} {r} {f} {e} made x = record {
  facts = placed_facts L made f e x.facts;
  reads = λ w. placed_is L made f e x.facts w (r w) (x.reads w);
}

-- ---- what is spelled is read

no_parts : (v : List Token) → Parts v v → ⊥
no_parts [] h = h
no_parts (t ∷ v) h = h refl

all_read : {A : Type 0} (L : Lang A) (w : List Token) (a : A) (x : Read A) → Is L w x → L (Some a) w → x ≡ Got (Some a) []
all_read L w a (Got o rest) r l =
    elim (r.only (Some a) rest (subst (λ (u : List Token). L (Some a) u) r.parts l)) [
      | inl z ↦ (let none : rest ≡ [] = z.0 in let same : Some a ≡ o = z.1 in cc)
      | inr z ↦ absurd (no_parts rest z)
    ]
all_read L w a (Wrong rest) r l = absurd (no_parts rest (r.only (Some a) rest (subst (λ (u : List Token). L (Some a) u) r.parts l)))

-- a list that spells a value is read as that value, to its end
pub reads_all : {A : Type 0} {L : Lang A} {r : List Token → Read A} {n : Bool} {f e : Kinds} → Good L r n f e → (a : A) (w : List Token) → L (Some a) w → r w ≡ Got (Some a) []
reads_all {A} {L} {r} g a w l = all_read L w a (r w) (g.reads w) l
