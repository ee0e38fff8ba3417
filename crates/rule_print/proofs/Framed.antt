-- What is spelled between two brackets, where they are needed.
use Rattle.std.proofs.Common.{◌≡◌, ◌++◌, ◌∷◌, [], List, Result, Bool, true, false, append_assoc, sym, ap, ◌∙◌}
use Rattle.std.specs.Prelude.{if◌then◌else◌}
use Rattle.std.specs.Result.{IfOk}
use Rattle.std.proofs.lemmas.Result.{IfOk-equal}
use Rattle.std.proofs.lemmas.List.{append-nil}
use Rattle.geo_tokens.specs.declared.token.Sym.{Sym}
use Rattle.rule_print.specs.Canonical.{Written, symbol}
use Rattle.rule_print.specs.Spelled.{bracketed}

-- a first part, and behind it a mark and the second part
mark_between : (b : Bool) (o c : Sym) (m : Written) (now one f g : List Written) → one ≡ now ++ (if b then symbol o ∷ [] else []) ++ f →
    one ++ m ∷ (g ++ (if b then symbol c ∷ [] else [])) ≡ now ++ bracketed b o c (f ++ m ∷ g)
mark_between true o c m now one f g e =
    ap (λ l. l ++ m ∷ (g ++ symbol c ∷ [])) (e ∙ append_assoc now (symbol o ∷ []) f) ∙ append_assoc now (symbol o ∷ f) (m ∷ (g ++ symbol c ∷ [])) ∙ sym (ap (λ l. now ++ symbol o ∷ l) (append_assoc f (m ∷ g) (symbol c ∷ [])))
mark_between false o c m now one f g e = ap (λ l. one ++ m ∷ l) (append-nil g) ∙ ap (λ l. l ++ m ∷ g) (e ∙ ap (λ l. l ++ f) (append-nil now)) ∙ append_assoc now f (m ∷ g)

pub two_framed : {E : Type 0} (r : Result Unit E) (b : Bool) (o c : Sym) (m : Written) (now one later f g whole : List Written) → one ≡ now ++ (if b then symbol o ∷ [] else []) ++ f →
    IfOk r (λ _. later ≡ one ++ m ∷ (g ++ (if b then symbol c ∷ [] else []))) → whole ≡ bracketed b o c (f ++ m ∷ g) → IfOk r (λ _. later ≡ now ++ whole)
two_framed r b o c m now one later f g whole e h is = IfOk-equal r later _ _ h (mark_between b o c m now one f g e ∙ sym (ap (λ l. now ++ l) is))

-- a first part, and behind it the others
others_behind : (b : Bool) (o c : Sym) (now one two f g : List Written) → one ≡ now ++ (if b then symbol o ∷ [] else []) ++ f → two ≡ one ++ g →
    two ++ (if b then symbol c ∷ [] else []) ≡ now ++ bracketed b o c (f ++ g)
others_behind true o c now one two f g e t =
    ap (λ l. l ++ symbol c ∷ []) (t ∙ ap (λ l. l ++ g) (e ∙ append_assoc now (symbol o ∷ []) f) ∙ append_assoc now (symbol o ∷ f) g) ∙ append_assoc now (symbol o ∷ (f ++ g)) (symbol c ∷ [])
others_behind false o c now one two f g e t = append-nil two ∙ t ∙ ap (λ l. l ++ g) (e ∙ ap (λ l. l ++ f) (append-nil now)) ∙ append_assoc now f g

pub more_framed : {E : Type 0} (r : Result Unit E) (b : Bool) (o c : Sym) (now one two later f g whole : List Written) → one ≡ now ++ (if b then symbol o ∷ [] else []) ++ f → two ≡ one ++ g →
    IfOk r (λ _. later ≡ two ++ (if b then symbol c ∷ [] else [])) → whole ≡ bracketed b o c (f ++ g) → IfOk r (λ _. later ≡ now ++ whole)
more_framed r b o c now one two later f g whole e t h is = IfOk-equal r later _ _ h (others_behind b o c now one two f g e t ∙ sym (ap (λ l. now ++ l) is))

-- one part alone
pub one_framed : {E : Type 0} (r : Result Unit E) (b d : Bool) (o c : Sym) (now one two later f : List Written) → b ≡ d → one ≡ now ++ (if b then symbol o ∷ [] else []) → two ≡ one ++ f → IfOk r (λ _. later ≡ two ++ (if b then symbol c ∷ [] else [])) →
    IfOk r (λ _. later ≡ now ++ bracketed d o c f)
one_framed r b d o c now one two later f i e t h =
    IfOk-equal r later _ _ h (others_behind b o c now one two [] f (e ∙ sym (append-nil (now ++ (if b then symbol o ∷ [] else [])))) t ∙ ap (λ x. now ++ bracketed x o c f) i)

-- what was spelled is the whole
pub spelled_as : {E : Type 0} (r : Result Unit E) (now later given whole : List Written) → whole ≡ given → IfOk r (λ _. later ≡ now ++ given) → IfOk r (λ _. later ≡ now ++ whole)
spelled_as r now later given whole is h = IfOk-equal r later _ _ h (sym (ap (λ l. now ++ l) is))

pub spelled_behind : {E : Type 0} (r : Result Unit E) (now later f g whole : List Written) → whole ≡ f ++ g → IfOk r (λ _. later ≡ now ++ f ++ g) → IfOk r (λ _. later ≡ now ++ whole)
spelled_behind r now later f g whole is h = IfOk-equal r later _ _ h (append_assoc now f g ∙ sym (ap (λ l. now ++ l) is))

-- a mark and two parts in a list
pub two_listed : {E : Type 0} (r : Result Unit E) (m o k c : Written) (now one later f g whole : List Written) → one ≡ now ++ m ∷ o ∷ f →
    IfOk r (λ _. later ≡ one ++ k ∷ (g ++ c ∷ [])) → whole ≡ m ∷ o ∷ ((f ++ k ∷ g) ++ c ∷ []) → IfOk r (λ _. later ≡ now ++ whole)
two_listed r m o k c now one later f g whole e h is =
    IfOk-equal r later _ _ h (ap (λ l. l ++ k ∷ (g ++ c ∷ [])) e ∙ append_assoc now (m ∷ o ∷ f) (k ∷ (g ++ c ∷ []))
    ∙ sym (ap (λ l. now ++ m ∷ o ∷ l) (append_assoc f (k ∷ g) (c ∷ []))) ∙ sym (ap (λ l. now ++ l) is))

-- a range up to its colon, and the body behind it
pub range_behind : {E : Type 0} (r : Result Unit E) (v i c : Written) (now one later q k f whole : List Written) → one ≡ now ++ (q ++ v ∷ i ∷ (k ++ c ∷ [])) →
    IfOk r (λ _. later ≡ one ++ f) → whole ≡ q ++ v ∷ i ∷ (k ++ c ∷ f) → IfOk r (λ _. later ≡ now ++ whole)
range_behind r v i c now one later q k f whole e h is =
    IfOk-equal r later _ _ h (ap (λ l. l ++ f) e ∙ append_assoc now (q ++ v ∷ i ∷ (k ++ c ∷ [])) f
    ∙ ap (λ l. now ++ l) (append_assoc q (v ∷ i ∷ (k ++ c ∷ [])) f ∙ ap (λ l. q ++ v ∷ i ∷ l) (append_assoc k (c ∷ []) f)) ∙ sym (ap (λ l. now ++ l) is))
