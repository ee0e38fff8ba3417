-- The places of faults lie within the text.
use Rattle.std.proofs.Common.{◌≡◌, ℕ, zero, suc, ◌+◌, ◌<◌, ◌≤◌, List, [], ◌∷◌, ◌++◌, length, drop, take, Option, Some, None, true, false, inl, inr, refl, sym, ap, ◌∙◌, subst, arith}
use Rattle.std.specs.Prelude.{slice_get}
use Rattle.std.proofs.lemmas.List.{drop-drop, length-drop}
use Rattle.geo_tokens.specs.declared.token.Token.{Token}
use Rattle.geo_tokens.specs.declared.token.Keyword.TheVariants as keywords
use Rattle.geo_tokens.specs.declared.token.Sym.TheVariants as symbols
use Rattle.geo_tokens.specs.declared.fault.FaultWord.{FaultWord}
use Rattle.geo_tokens.specs.declared.fault.FaultWord.TheVariants as words
use Rattle.geo_tokens.specs.Words.{Kinds, names, numbers, word, symbol, Lang, Pure, Tok, Bind, cut, both, Either, left, right, Opt, there, not_there, UpTo, Many, start_of}
use Rattle.geo_tokens.specs.Cut.{Cut, here, behind_gap, behind_token, IsTokenFault, IsBad}
use Rattle.rule_syntax.specs.Grammar.{Named}
use Rattle.rule_reading.specs.Outcome.{place_of}
use Rattle.rule_print.proofs.Respelled.{AllOf}
use Rattle.problem_data.specs.declared.tree.Int.{Int}
use Rattle.problem_data.specs.declared.fault.Fault.{Fault}
use Rattle.problem_data.specs.Problem.{ObjectData, ProblemData}
use Rattle.problem_data.specs.Grammar.{IntWords}
use Rattle.problem_syntax.specs.WholeText.{FirstFault}
use Rattle.problem_data.specs.Least.{fault}
use Rattle.problem_data.specs.Faults.{first_place, int_place}
use Rattle.layout_text.specs.Tree.{PutTree, placed, absent, LineTree, TokenTree, LayoutTree}
use Rattle.layout_text.specs.Grammar.{PutWords, LineWords, TupleWords, TokenWords, TokenLine, LayoutWords}
use Rattle.layout_text.specs.Faults.{OutsideFault, PutFault, LineFault, TokenLineFault, behind_lines, IsFault}
use Rattle.layout_text.specs.FirstFault.{most_bytes, HasFirstFault, long, no_token, no_lines, in_lines}

-- ---- tokens

abbrev AllIn : ℕ → List Token → Type 0
AllIn n [] = Unit {0}
AllIn n (t ∷ ts) = (t.start ≤ n) × AllIn n ts

in_parts : (n : ℕ) (x y : List Token) → AllIn n (x ++ y) → (AllIn n x) × (AllIn n y)
in_parts n [] y h = (tt, h)
in_parts n (t ∷ x) y h = let r = in_parts n x y h.1 in ((h.0, r.0), r.1)

-- how far a cut reaches
record Reached (end : ℕ) (rest : List ℕ) (place : ℕ) (bytes : List ℕ) : Type 0 where
  more : ℕ
  at : end ≡ place + more
  left : rest ≡ drop more bytes

further : (end : ℕ) (rest : List ℕ) (place n : ℕ) (bytes : List ℕ) → Reached end rest (place + n) (drop n bytes) → Reached end rest place bytes
further end rest place n bytes h = record {
  more = n + h.more;
  at = (let e : end ≡ place + n + h.more = h.at in omega arith);
  left = h.left ∙ drop-drop h.more n bytes;
}

reached : (end : ℕ) (rest : List ℕ) (place : ℕ) (bytes : List ℕ) (ts : List Token) → Cut end rest place bytes ts → Reached end rest place bytes
reached end rest place bytes ts (here _ _ _ a b c) = record { more = 0; at = (let e : place ≡ end = a in omega arith); left = sym b }
reached end rest place bytes ts (behind_gap _ _ _ n g x) = further end rest place n bytes (reached end rest (place + n) (drop n bytes) ts x)
reached end rest place bytes ts (behind_token _ _ _ k n us i e x) = further end rest place n bytes (reached end rest (place + n) (drop n bytes) us x)

cut_in : (end : ℕ) (rest : List ℕ) (place : ℕ) (bytes : List ℕ) (ts : List Token) → Cut end rest place bytes ts → AllIn end ts
cut_in end rest place bytes ts (here _ _ _ a b c) = subst (λ (us : List Token). AllIn end us) (sym c) tt
cut_in end rest place bytes ts (behind_gap _ _ _ n g x) = cut_in end rest (place + n) (drop n bytes) ts x
cut_in end rest place bytes ts (behind_token _ _ _ k n us i e x) =
    let r = reached end rest (place + n) (drop n bytes) us x in
    let le : place ≤ end = (let a : end ≡ place + n + r.more = r.at in omega arith) in
    subst (λ (vs : List Token). AllIn end vs) (sym e) (le, cut_in end rest (place + n) (drop n bytes) us x)

nothing_bad : (word : FaultWord) → IsBad word [] → ⊥
nothing_bad words.Byte h = let l : 0 < 0 = h.some in omega arith
nothing_bad words.Number h = let e : false ≡ true = h.begins in cc
nothing_bad words.Name h = let e : false ≡ true = h.begins in cc
nothing_bad _ h = h

some_left : (text : List ℕ) (m : ℕ) (word : FaultWord) → IsBad word (drop m text) → m ≤ length text
some_left text m word h = elim (drop m text) as (λ (u : List ℕ). (u ≡ drop m text) → m ≤ length text) [
  | [] ↦ λ e. absurd (nothing_bad word (subst (λ (u : List ℕ). IsBad word u) (sym e) h))
  | b ∷ u ↦ λ e. (let l : length (b ∷ u) ≡ length (drop m text) = ap length e in let d = length-drop m text in omega arith)
] refl

token_fault_in : (text : List ℕ) (place : ℕ) (word : FaultWord) → IsTokenFault text place word → place ≤ length text
token_fault_in text place word h =
    let r = reached place h.rest 0 text h.tokens h.before in
    let le : r.more ≤ length text = some_left text r.more word (subst (λ (u : List ℕ). IsBad word u) r.left h.bad) in
    let at : place ≡ 0 + r.more = r.at in
    omega arith

-- ---- what tokens spell

-- P holds of each value that tokens up to n spell
record In {A : Type 0} (n : ℕ) (L : Lang A) (P : A → Type 0) : Type 0 where
  each : (a : A) (w : List Token) → L (Some a) w → AllIn n w → P a

module _ (n : ℕ) where
  tok_in : (ks : Kinds) → In n (Tok ks) (λ t. t.start ≤ n)
  tok_in ks = record { each = λ t w h g. one t w h g }
    where
      one : (t : Token) (w : List Token) → Tok ks (Some t) w → AllIn n w → t.start ≤ n
      one t w h g =
          let s : Token = h.0 in
          let same : s ≡ t = (let e : Some t ≡ Some s = h.2 in cc) in
          let all : AllIn n (s ∷ []) = subst (λ (u : List Token). AllIn n u) h.3 g in
          subst (λ (u : Token). u.start ≤ n) same all.0

  pure_in : {A : Type 0} {P : A → Type 0} (a : A) → P a → In n (Pure a) P
  pure_in {A} {P} a h = record { each = λ b w e g. (let same : a ≡ b = (let q : Some b ≡ Some a = e.0 in cc) in subst P same h) }

  bind_cases : {A B : Type 0} (L : Lang A) (M : A → Lang B) (Q : A → Type 0) (P : B → Type 0) → In n L Q → ((a : A) → Q a → In n (M a) P) → (b : B) (w : List Token) → Bind L M (Some b) w → AllIn n w → P b
  bind_cases L M Q P l m b w (cut e x) g = absurd cc
  bind_cases L M Q P l m b w (both a x y k i e) g =
      let r = in_parts n x y (subst (λ (u : List Token). AllIn n u) e g) in
      (m a (l.each a x k r.0)).each b y i r.1

  bind_in : {A B : Type 0} {L : Lang A} {M : A → Lang B} {Q : A → Type 0} {P : B → Type 0} → In n L Q → ((a : A) → Q a → In n (M a) P) → In n (Bind L M) P
  bind_in {A} {B} {L} {M} {Q} {P} l m = record { each = bind_cases L M Q P l m }

  either_cases : {A : Type 0} (L M : Lang A) (P : A → Type 0) → In n L P → In n M P → (a : A) (w : List Token) → Either L M (Some a) w → AllIn n w → P a
  either_cases L M P l m a w (left x) g = l.each a w x g
  either_cases L M P l m a w (right x) g = m.each a w x g

  either_in : {A : Type 0} {L M : Lang A} {P : A → Type 0} → In n L P → In n M P → In n (Either L M) P
  either_in {A} {L} {M} {P} l m = record { each = either_cases L M P l m }

  opt_cases : {A : Type 0} (L : Lang A) (P : A → Type 0) (d : A) → In n L P → P d → (a : A) (w : List Token) → Opt L d (Some a) w → AllIn n w → P a
  opt_cases L P d l h a w (there x) g = l.each a w x g
  opt_cases L P d l h a w (not_there e x) g = let same : d ≡ a = (let q : Some a ≡ Some d = e in cc) in subst P same h

  opt_in : {A : Type 0} {L : Lang A} {P : A → Type 0} (d : A) → In n L P → P d → In n (Opt L d) P
  opt_in {A} {L} {P} d l h = record { each = opt_cases L P d l h }

  up_to_in : {A : Type 0} (L : Lang A) (P : A → Type 0) → In n L P → (k : ℕ) → In n (UpTo L k) (AllOf P)
  up_to_in L P l zero = pure_in [] tt
  up_to_in L P l (suc k) = opt_in [] (bind_in l (λ a h. bind_in (up_to_in L P l k) (λ others g. pure_in (a ∷ others) (h, g)))) tt

  many_in : {A : Type 0} {L : Lang A} {P : A → Type 0} → In n L P → In n (Many L) (AllOf P)
  many_in {A} {L} {P} l = record { each = λ xs w h g. (up_to_in L P l h.0).each xs w h.1 g }

  -- anything
  any_in : {A : Type 0} (L : Lang A) → In n L (λ a. Unit {0})
  any_in L = record { each = λ a w h g. tt }

  named_in : (text : List ℕ) → In n (Named text) (λ a. a.place ≤ n)
  named_in text = bind_in (tok_in names) (λ t h. pure_in _ h)

  int_in : In n IntWords (λ i. i.place ≤ n)
  unfolding IntWords
  int_in = either_in
      (bind_in (tok_in (symbol symbols.Minus)) (λ m h. bind_in (tok_in numbers) (λ t g. pure_in _ h)))
      (bind_in (tok_in numbers) (λ t h. pure_in _ h))

  abbrev InPut : PutTree → Type 0
  InPut (placed shape origin) = (shape.place ≤ n) × AllOf (λ (i : Int). i.place ≤ n) origin
  InPut (absent place) = place ≤ n

  put_in : (text : List ℕ) → In n (PutWords text) InPut
  unfolding PutWords
  put_in text = either_in
      (bind_in (tok_in (word keywords.As)) (λ t ht. bind_in (named_in text) (λ s hs. bind_in (tok_in (word keywords.At)) (λ u hu.
      bind_in (bind_in int_in (λ x hx. bind_in (many_in int_in) (λ xs hxs. pure_in {P = AllOf (λ (i : Int). i.place ≤ n)} (x ∷ xs) (hx, hxs))))
      (λ xs hxs. pure_in {P = InPut} (placed s xs) (hs, hxs))))))
      (bind_in (tok_in (word keywords.Absent)) (λ t h. pure_in {P = InPut} (absent t.start) h))

  record InLine (l : LineTree) : Type 0 where
    name : l.name.place ≤ n
    put : InPut l.put

  line_in : (text : List ℕ) → In n (LineWords text) InLine
  unfolding LineWords
  line_in text = bind_in (named_in text) (λ a ha. bind_in (put_in text) (λ p hp. pure_in _ (record { name = ha; put = hp })))

  abbrev InToken : Option TokenTree → Type 0
  InToken None = Unit {0}
  InToken (Some t) = t.place ≤ n

  token_in : In n TokenWords (λ t. t.place ≤ n)
  unfolding TokenWords
  token_in = bind_in (tok_in (word keywords.Token)) (λ t h. bind_in (any_in TupleWords) (λ gs g. pure_in _ h))

  end_in : In n TokenLine InToken
  unfolding TokenLine
  end_in = opt_in None (bind_in token_in (λ t h. pure_in {P = InToken} (Some t) h)) tt

  record InTree (t : LayoutTree) : Type 0 where
    lines : AllOf InLine t.lines
    token : InToken t.token

  layout_in : (text : List ℕ) (k : ℕ) → In n (LayoutWords text k) InTree
  unfolding LayoutWords
  layout_in text k = bind_in (tok_in (word keywords.Layout)) (λ l h. bind_in (many_in (line_in text)) (λ ls hls. bind_in end_in (λ t ht. pure_in _ (record { lines = hls; token = ht }))))

  -- ---- faults of the tree

  at_in : {A : Type 0} (P : A → Type 0) (xs : List A) (i : ℕ) (x : A) → AllOf P xs → slice_get xs i ≡ Some x → P x
  at_in P [] i x h e = absurd cc
  at_in P (y ∷ xs) zero x h e = let same : y ≡ x = cc in subst P same h.0
  at_in P (y ∷ xs) (suc i) x h e = at_in P xs i x h.1 e

  same_place : (f : Fault) (q : ℕ) (w : FaultWord) → f ≡ fault q w → q ≤ n → f.place ≤ n
  same_place f q w e h = subst (λ (k : ℕ). k ≤ n) (sym (ap (λ (g : Fault). g.place) e)) h

  first_in : (xs : List Int) → AllOf (λ (i : Int). i.place ≤ n) xs → first_place int_place xs ≤ n
  first_in [] h = omega arith
  first_in (x ∷ xs) h = h.0

  outside_in : (o : Option _) (i : Int) (f : Fault) → OutsideFault o i f → i.place ≤ n → f.place ≤ n
  outside_in None i f h g = absurd h
  outside_in (Some r) i f h g = same_place f i.place words.Range h.1 g

  put_fault_in : (p : ProblemData) (o : ObjectData) (u : PutTree) (f : Fault) → InPut u → PutFault p o u f → f.place ≤ n
  put_fault_in p o (placed shape origin) f g (inl h) = same_place f shape.place words.Unknown h.1 g.0
  put_fault_in p o (placed shape origin) f g (inr (inl h)) = same_place f (first_place int_place origin) words.Limit h.1 (first_in origin g.1)
  put_fault_in p o (placed shape origin) f g (inr (inr h)) = outside_in (slice_get o.pieces (length (take h.index origin))) h.item f h.wrong (at_in (λ (i : Int). i.place ≤ n) origin h.index h.item g.1 h.there)
  put_fault_in p o (absent place) f g h = same_place f place words.Unknown h.1 g

  line_fault_in : (p : ProblemData) (o : Option ObjectData) (l : LineTree) (f : Fault) → InLine l → LineFault p o l f → f.place ≤ n
  line_fault_in p None l f g h = same_place f l.name.place words.Order h g.name
  line_fault_in p (Some o) l f g (inl h) = same_place f l.name.place words.Order h.1 g.name
  line_fault_in p (Some o) l f g (inr h) = put_fault_in p o l.put f g.put h

  behind_in : (o : Option TokenTree) → InToken o → behind_lines n o ≤ n
  behind_in None h = omega arith
  behind_in (Some t) h = h

  token_line_in : (p : ProblemData) (ls : List LineTree) (o : Option TokenTree) (f : Fault) → InToken o → TokenLineFault p ls o f → f.place ≤ n
  token_line_in p ls None f g h = absurd h
  token_line_in p ls (Some t) f g h = same_place f t.place words.Token h.1 g

  tree_fault_in : (p : ProblemData) (t : LayoutTree) (f : Fault) → InTree t → IsFault p n t f → f.place ≤ n
  tree_fault_in p t f g (inl h) = line_fault_in p (slice_get p.objects (length (take h.index t.lines))) h.item f (at_in InLine t.lines h.index h.item g.lines h.there) h.wrong
  tree_fault_in p t f g (inr (inl h)) = same_place f (behind_lines n t.token) words.Order h.1 (behind_in t.token g.token)
  tree_fault_in p t f g (inr (inr h)) = token_line_in p t.lines t.token f g.token h

-- ---- first faults

place_in : (n : ℕ) (rest : List Token) → AllIn n rest → place_of n rest ≤ n
place_in n [] h = omega arith
place_in n (t ∷ rest) h = h.0

drop_in : (n k : ℕ) (ts : List Token) → AllIn n ts → AllIn n (drop k ts)
drop_in n zero ts h = h
drop_in n (suc k) [] h = tt
drop_in n (suc k) (t ∷ ts) h = drop_in n k ts h.1

start_in : (n : ℕ) (rest : List Token) → AllIn n rest → start_of rest ≤ n
start_in n [] h = omega arith
start_in n (t ∷ rest) h = h.0

grammar_in : (text : List ℕ) (list : List Token) (place : ℕ) (word : FaultWord) → AllIn (length text) list → FirstFault (LayoutWords text) 0 (length text) list place word → place ≤ length text
grammar_in text list place words.Syntax g h =
    let r = in_parts (length text) h.fault.run h.rest (subst (λ (u : List Token). AllIn (length text) u) h.fault.parts g) in
    subst (λ (k : ℕ). k ≤ length text) (sym h.at) (place_in (length text) h.rest r.1)
grammar_in text list place words.Deep g h = subst (λ (k : ℕ). k ≤ length text) (sym h.at) (start_in (length text) (drop h.token list) (drop_in (length text) h.token list g))
grammar_in text list place _ g h = absurd h

-- the first fault of a text has a place within the greatest text
pub fault_within : (p : ProblemData) (text : List ℕ) (place : ℕ) (word : FaultWord) → HasFirstFault p text place word → place ≤ most_bytes
fault_within p text place word (long l d e) = omega arith
fault_within p text place word (no_token le h) = let i : place ≤ length text = token_fault_in text place word h in omega arith
fault_within p text place word (no_lines le list ts h) = let i : place ≤ length text = grammar_in text list place word (cut_in (length text) [] 0 text list ts) h in omega arith
fault_within p text place word (in_lines t says h) =
    let le : length text ≤ most_bytes = says.short in
    let tree : InTree (length text) t = (layout_in (length text) text 0).each t says.list says.spells.within (cut_in (length text) [] 0 text says.list says.tokens) in
    let i : place ≤ length text = tree_fault_in (length text) p t (fault place word) tree h.there in
    omega arith
