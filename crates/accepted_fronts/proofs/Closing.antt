-- A problem's tokens end with the word `end`, and it is none of those before.
use Rattle.std.proofs.Common.{◌≡◌, ℕ, List, [], ◌∷◌, ◌++◌, Option, Some, None, Bool, true, false, ◌||◌, ◌==◌, refl, sym, ap, ◌∙◌, subst, append_assoc, arith}
use Rattle.std.proofs.lemmas.Bool.{eqb-true}
use Rattle.geo_tokens.specs.declared.token.Token.{Token}
use Rattle.geo_tokens.specs.declared.token.Kind.{Kind}
use Rattle.geo_tokens.specs.declared.token.Kind.TheVariants as kinds
use Rattle.geo_tokens.specs.declared.token.Keyword.TheVariants as keywords
use Rattle.geo_tokens.specs.declared.token.Sym.TheVariants as symbols
use Rattle.geo_tokens.specs.Class.{class_of}
use Rattle.geo_tokens.specs.Words.{Of, word, Lang, Pure, Tok, Bind, cut, both}
use Rattle.problem_data.specs.Grammar.{problem_tree, is_second, StatementWords, ProblemWords}
use Rattle.accepted_fronts.proofs.Alike.{AreSame, HaveNoEnd, Alike, same_apart, no_end_both, many_alike}
use Rattle.accepted_fronts.proofs.RuleParts.{word_alike, numbers_alike}
use Rattle.accepted_fronts.proofs.ProblemParts.{statement_alike}

-- the word `end` is the last one, and none of those before
pub record EndsThere (w : List Token) : Type 0 where
  pub front : List Token
  pub last : Token
  pub both : w ≡ front ++ last ∷ []
  pub plain : HaveNoEnd front
  pub word : last.kind ≡ kinds.Word keywords.End

-- M is L in the other text, and each list of L ends with the word `end`
pub record Closing (text other : List ℕ) {A : Type 0} (L M : Lang A) : Type 0 where
  pub carry : (o : Option A) (w : List Token) → L o w → AreSame text other w → M o w
  pub ends : (a : A) (w : List Token) → L (Some a) w → EndsThere w

module _ {text other : List ℕ} {A B : Type 0} (L M : Lang A) (K N : A → Lang B) where
  closing_carry : Alike text other L M → ((a : A) → Closing text other (K a) (N a)) → (o : Option B) (w : List Token) → Bind L K o w → AreSame text other w → Bind M N o w
  closing_carry h g o w (cut e l) s = cut e (h.carry None w l s)
  closing_carry h g o w (both a x y l k e) s =
      let r = same_apart text other x y (subst (AreSame text other) e s) in
      both a x y (h.carry (Some a) x l r.0) ((g a).carry o y k r.1) e

  closing_ends : Alike text other L M → ((a : A) → Closing text other (K a) (N a)) → (b : B) (w : List Token) → Bind L K (Some b) w → EndsThere w
  closing_ends h g b w (cut e l) = absurd cc
  closing_ends h g b w (both a x y l k e) =
      let r = (g a).ends b y k in
      record {
        front = x ++ r.front;
        last = r.last;
        both = e ∙ ap (λ (u : List Token). x ++ u) r.both ∙ sym (append_assoc x r.front (r.last ∷ []));
        plain = no_end_both x r.front (h.plain (Some a) x l) r.plain;
        word = r.word;
      }

  bind_closing : Alike text other L M → ((a : A) → Closing text other (K a) (N a)) → Closing text other (Bind L K) (Bind M N)
  bind_closing h g = record { carry = closing_carry h g; ends = closing_ends h g }

-- ---- the word `end`

end_class : (k : Kind) → class_of k ≡ 21 → k ≡ kinds.Word keywords.End
end_class (kinds.Word keywords.End) e = refl
end_class (kinds.Symbol symbols.Dot) e = absurd (omega arith)
end_class _ e = absurd (omega arith)

no_more : (b : Bool) → (b || false) ≡ true → b ≡ true
no_more true h = refl
no_more false h = h

is_end : (t : Token) → Of (word keywords.End) t → t.kind ≡ kinds.Word keywords.End
is_end t i = end_class t.kind (eqb-true (class_of t.kind) 21 (no_more (class_of t.kind == 21) i))

last_ends : {A : Type 0} (f : Token → A) (a : A) (w : List Token) → Bind (Tok (word keywords.End)) (λ t. Pure (f t)) (Some a) w → EndsThere w
last_ends f a w (cut e l) = absurd cc
last_ends f a w (both t x y l k e) = record {
  front = [];
  last = l.0;
  both = e ∙ ap (λ (u : List Token). u ++ y) l.3 ∙ ap (λ (u : List Token). l.0 ∷ u) k.1;
  plain = tt;
  word = is_end l.0 l.1;
}

last_closing : {text other : List ℕ} {A : Type 0} (f : Token → A) → Closing text other (Bind (Tok (word keywords.End)) (λ t. Pure (f t))) (Bind (Tok (word keywords.End)) (λ t. Pure (f t)))
last_closing f = record { carry = λ o w l s. l; ends = last_ends f }

pub problem_closing : (text other : List ℕ) (n : ℕ) → Closing text other (ProblemWords text n) (ProblemWords other n)
unfolding ProblemWords
problem_closing text other n =
    bind_closing _ _ _ _ (word_alike keywords.Geost refl) (λ a. bind_closing _ _ _ _ numbers_alike (λ v.
    bind_closing _ _ _ _ (word_alike keywords.Dims refl) (λ b. bind_closing _ _ _ _ numbers_alike (λ d.
    bind_closing _ _ _ _ (many_alike (StatementWords text n (is_second v)) (StatementWords other n (is_second v)) (statement_alike n (is_second v))) (λ ss. last_closing (λ e. problem_tree v d ss))))))
