-- What is refused inside a longer production.
use Rattle.std.proofs.Common.{◌≡◌, ℕ, List, [], ◌∷◌, Bool, true, false, Some, None, Result, refl, sym, subst}
use Rattle.std.specs.Prelude.{if◌then◌else◌}
use Rattle.std.specs.Borrow.{Bor}
use Rattle.geo_tokens.specs.declared.token.Token.{Token}
use Rattle.geo_tokens.specs.declared.token.Keyword.TheVariants as keywords
use Rattle.geo_tokens.specs.declared.token.Sym.TheVariants as syms
use Rattle.geo_tokens.specs.declared.stop.Stop.{Stop}
use Rattle.geo_tokens.specs.Class.{class_of}
use Rattle.geo_tokens.specs.Words.{Kinds, has, symbol}
use Rattle.geo_tokens.specs.Reading.{Read, Got, Wrong, ◌>>=◌, token_at, cut_at}
use Rattle.geo_tokens.specs.Gives.{Gives}
use Rattle.rule_syntax.specs.declared.tree.PlacedName.{PlacedName}
use Rattle.rule_syntax.specs.Marks.{words}
use Rattle.rule_syntax.specs.Tree.{ExprTree, ArgumentTree, value_call, arguments}
use Rattle.rule_syntax.specs.Grammar.{extreme_in}
use Rattle.rule_syntax.specs.Reading.{named_at, value_call_at, extreme_at}

refused_first : {A B : Type 0} (b : Bool) (rest w : List Token) (s : B → List Token → Read A) → (let cut : Read A = if b then Got None rest else Wrong w in cut) ≡ ((if b then Got None rest else Wrong w) >>= s)
refused_first true rest w s = refl
refused_first false rest w s = refl

-- what is refused at once is refused whatever would stand behind it
cut_stays : {A B : Type 0} (ks : Kinds) (w : List Token) (s : B → List Token → Read A) → cut_at {A = A} ks w ≡ (cut_at {A = B} ks w >>= s)
cut_stays ks [] s = refl
cut_stays ks (t ∷ w) s = refused_first (has ks (class_of t.kind)) w (t ∷ w) s

module _ {A B X : Type 0} (view : X → A) (res : Result (X × Bor (List Token)) Stop) where
  cut_behind : (ks : Kinds) (w : List Token) (s : B → List Token → Read A) → Gives view res (cut_at {A = A} ks w) → Gives view res (cut_at {A = B} ks w >>= s)
  cut_behind ks w s g = subst (λ (u : Read A). Gives view res u) (cut_stays ks w s) g

  behind : (r : Read B) (s : B → List Token → Read A) (b : B) (rest : List Token) → r ≡ Got (Some b) rest → Gives view res (s b rest) → Gives view res (r >>= s)
  behind r s b rest h g = subst (λ (u : Read B). Gives view res (u >>= s)) (sym h) g

module _ {X : Type 0} (view : X → ExprTree) (res : Result (X × Bor (List Token)) Stop) where
  pub extreme_refused : (w rest : List Token) (t : Token) → token_at (words keywords.Min keywords.Max) w ≡ Got (Some t) rest → Gives view res (cut_at (symbol syms.ParenOpen) rest) → Gives view res (extreme_at (cut_at (symbol syms.ParenOpen)) w)
  extreme_refused w rest t h g =
      behind view res (token_at (words keywords.Min keywords.Max) w) (λ t rest. cut_at {A = ExprTree × ExprTree} (symbol syms.ParenOpen) rest >>= λ p last. Got (Some (extreme_in t.kind t.start p.0 p.1)) last) t rest h
      (cut_behind view res (symbol syms.ParenOpen) rest (λ (p : ExprTree × ExprTree) (last : List Token). Got (Some (extreme_in t.kind t.start p.0 p.1)) last) g)

  pub call_refused : (text : List ℕ) (w v rest : List Token) (t : Token) (a : PlacedName) → token_at (symbol syms.Dollar) w ≡ Got (Some t) v → named_at text v ≡ Got (Some a) rest
      → Gives view res (cut_at (symbol syms.ParenOpen) rest) → Gives view res (value_call_at text (cut_at (symbol syms.ParenOpen)) w)
  call_refused text w v rest t a h k g =
      behind view res (token_at (symbol syms.Dollar) w) (λ t rest. named_at text rest >>= λ a after. cut_at {A = List ArgumentTree} (symbol syms.ParenOpen) after >>= λ es last. Got (Some (value_call t.start a (arguments es))) last) t v h
      (behind view res (named_at text v) (λ a after. cut_at {A = List ArgumentTree} (symbol syms.ParenOpen) after >>= λ es last. Got (Some (value_call t.start a (arguments es))) last) a rest k
      (cut_behind view res (symbol syms.ParenOpen) rest (λ (es : List ArgumentTree) (last : List Token). Got (Some (value_call t.start a (arguments es))) last) g))
