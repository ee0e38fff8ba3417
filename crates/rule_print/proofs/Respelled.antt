-- Lexemes that spell a value in a language, in whatever text they are shown: one lemma for each part of a grammar.
use Rattle.std.proofs.Common.{◌≡◌, ℕ, zero, suc, ◌-◌, ◌≤◌, List, [], ◌∷◌, ◌++◌, drop, Option, Some, None, true, false, ◌==◌, ◌||◌, refl, sym, ap, ◌∙◌, append_assoc, subst, arith}
use Rattle.std.proofs.lemmas.List.{append-nil}
use Rattle.geo_tokens.specs.declared.token.Token.{Token}
use Rattle.geo_tokens.specs.declared.token.Keyword.{Keyword}
use Rattle.geo_tokens.specs.declared.token.Keyword.TheVariants as keywords
use Rattle.geo_tokens.specs.declared.token.Sym.{Sym}
use Rattle.geo_tokens.specs.declared.token.Sym.TheVariants as syms
use Rattle.geo_tokens.specs.declared.token.Kind.{Kind}
use Rattle.geo_tokens.specs.declared.token.Kind.TheVariants as kinds
use Rattle.geo_tokens.specs.Class.{class_of, word_class, symbol_class, number_in}
use Rattle.geo_tokens.specs.Cut.{IsToken}
use Rattle.geo_tokens.specs.Names.{IsNameText}
use Rattle.geo_tokens.specs.Words.{Kinds, has, Of, names, Lang, Pure, Tok, Cut, Bind, cut, both, Either, left, right, Opt, there, not_there, UpTo, Many, UpToEnded, Ended, start_of, Placed, Chain}
use Rattle.geo_tokens.proofs.NameText.{name_token}
use Rattle.rule_syntax.specs.declared.tree.PlacedName.{PlacedName}
use Rattle.rule_syntax.specs.Grammar.{name_in, Named}
use Rattle.rule_print.specs.Canonical.{Written, name, kind_of}
use Rattle.rule_print.proofs.Lexemes.{IsWritten}
use Rattle.rule_print.proofs.ShownTokens.{AllWritten, Stands, stands_split, written_append}

-- the lexemes spell some value in the language that has the property, wherever their tokens stand
pub record Again {A : Type 0} (L : List ℕ → Lang A) (P : A → Type 0) (ps : List Written) : Type 0 where
  pub reads : (text : List ℕ) (v : List Token) → Stands text ps v → (a : A) × L text (Some a) v × P a

-- and they can be written
pub record Respelled {A : Type 0} (L : List ℕ → Lang A) (P : A → Type 0) (ps : List Written) : Type 0 where
  pub good : AllWritten ps
  pub again : Again L P ps

one_stands : {A : Type 0} (L : Lang A) (P : A → Type 0) (text : List ℕ) (p : Written) (v : List Token) → Stands text (p ∷ []) v → ((t : Token) → t.kind ≡ kind_of p → v ≡ t ∷ [] → (a : A) × L (Some a) v × P a) → (a : A) × L (Some a) v × P a
one_stands L P text p [] h f = absurd h
one_stands L P text p (t ∷ []) h f = f t h.0 refl
one_stands L P text p (t ∷ s ∷ v) h f = absurd h.2

of_kind_in : (ks : Kinds) (k : Kind) (t : Token) → has ks (class_of k) ≡ true → t.kind ≡ k → Of ks t
of_kind_in ks k t i e = ap (λ (m : Kind). has ks (class_of m)) e ∙ i

pub tok_again : (ks : Kinds) (p : Written) → has ks (class_of (kind_of p)) ≡ true → Again (λ text. Tok ks) (λ t. t.kind ≡ kind_of p) (p ∷ [])
tok_again ks p i = record { reads = λ text v h. one_stands (Tok ks) (λ t. t.kind ≡ kind_of p) text p v h (λ t k e. (t, (t, of_kind_in ks (kind_of p) t i k, refl, e), k)) }

named_reads : (b : List ℕ) (text : List ℕ) (v : List Token) → Stands text (name b ∷ []) v → (a : PlacedName) × Named text (Some a) v × (a.name ≡ b)
named_reads b text [] h = absurd h
named_reads b text (t ∷ []) h = (name_in text t, both t (t ∷ []) [] (t, of_kind_in names kinds.Name t refl h.0, refl, refl) (refl, refl) refl, h.1)
named_reads b text (t ∷ s ∷ v) h = absurd h.2

pub named_again : (b : List ℕ) → Again Named (λ a. a.name ≡ b) (name b ∷ [])
named_again b = record { reads = named_reads b }

pure_reads : {A : Type 0} (a : A) (P : A → Type 0) (text : List ℕ) (v : List Token) → P a → Stands text [] v → (b : A) × Pure a (Some b) v × P b
pure_reads a P text [] p h = (a, (refl, refl), p)
pure_reads a P text (t ∷ v) p h = absurd h

pub pure_again : {A : Type 0} {P : A → Type 0} (a : A) → P a → Again (λ text. Pure a) P []
pure_again {A} {P} a p = record { reads = λ text v h. pure_reads a P text v p h }

pub bind_again : {A B : Type 0} {L : List ℕ → Lang A} {K : A → List ℕ → Lang B} {P : A → Type 0} {Q : B → Type 0} {ps qs : List Written}
    → Again L P ps → ((a : A) → P a → Again (K a) Q qs) → Again (λ text. Bind (L text) (λ a. K a text)) Q (ps ++ qs)
bind_again {A} {B} {L} {K} {P} {Q} {ps} {qs} l k = record {
  reads = λ text v h.
      let s = stands_split text ps qs v h in
      let x = l.reads text s.0 s.3 in
      let y = (k x.0 x.2).reads text s.1 s.4 in
      (y.0, both x.0 s.0 s.1 x.1 y.1 s.2, y.2);
}

-- the last part, and a value made of what it spells
pub last_again : {A B : Type 0} {L : List ℕ → Lang A} {P : A → Type 0} {Q : B → Type 0} {ps : List Written} (f : A → B)
    → Again L P ps → ((a : A) → P a → Q (f a)) → Again (λ text. Bind (L text) (λ a. Pure (f a))) Q ps
last_again f l g = record {
  reads = λ text v h.
      let x = l.reads text v h in
      (f x.0, both x.0 v [] x.1 (refl, refl) (sym (append-nil v)), g x.0 x.2);
}

pub left_again : {A : Type 0} {L M : List ℕ → Lang A} {P : A → Type 0} {ps : List Written} → Again L P ps → Again (λ text. Either (L text) (M text)) P ps
left_again l = record { reads = λ text v h. (let x = l.reads text v h in (x.0, left x.1, x.2)) }

pub right_again : {A : Type 0} {L M : List ℕ → Lang A} {P : A → Type 0} {ps : List Written} → Again M P ps → Again (λ text. Either (L text) (M text)) P ps
right_again l = record { reads = λ text v h. (let x = l.reads text v h in (x.0, right x.1, x.2)) }

pub there_again : {A : Type 0} {L : List ℕ → Lang A} {P : A → Type 0} {ps : List Written} (d : A) → Again L P ps → Again (λ text. Opt (L text) d) P ps
there_again d l = record { reads = λ text v h. (let x = l.reads text v h in (x.0, there x.1, x.2)) }

missing_reads : {A : Type 0} (L : Lang A) (d : A) (P : A → Type 0) (text : List ℕ) (v : List Token) → P d → Stands text [] v → (b : A) × Opt L d (Some b) v × P b
missing_reads L d P text [] p h = (d, not_there refl refl, p)
missing_reads L d P text (t ∷ v) p h = absurd h

pub missing_again : {A : Type 0} (L : List ℕ → Lang A) {P : A → Type 0} (d : A) → P d → Again (λ text. Opt (L text) d) P []
missing_again L {P} d p = record { reads = λ text v h. missing_reads (L text) d P text v p h }

pub placed_again : {A B : Type 0} {L : List ℕ → Lang A} {P : A → Type 0} {Q : B → Type 0} {ps : List Written} (made : ℕ → A → B)
    → Again L P ps → ((n : ℕ) (a : A) → P a → Q (made n a)) → Again (λ text. Placed (L text) made) Q ps
placed_again made l g = record { reads = λ text v h. (let x = l.reads text v h in (made (start_of v) x.0, (Some x.0, x.1, refl), g (start_of v) x.0 x.2)) }

-- the same in a larger language
pub raised_again : {A : Type 0} {L M : List ℕ → Lang A} {P : A → Type 0} {ps : List Written} → Again L P ps → ((text : List ℕ) (a : A) (w : List Token) → L text (Some a) w → M text (Some a) w) → Again M P ps
raised_again l f = record { reads = λ text v h. (let x = l.reads text v h in (x.0, f text x.0 v x.1, x.2)) }

pub same_again : {A : Type 0} {L : List ℕ → Lang A} {P : A → Type 0} {ps : List Written} (qs : List Written) → Again L P ps → ps ≡ qs → Again L P qs
same_again {A} {L} {P} qs l e = subst (λ (us : List Written). Again L P us) e l

-- ---- one after the other

abbrev pub AllOf : {A : Type 0} → (A → Type 0) → List A → Type 0
AllOf Q [] = Unit {0}
AllOf Q (a ∷ others) = Q a × AllOf Q others

-- each is as the other one
abbrev pub Each : {A B : Type 0} → (B → A → Type 0) → List B → List A → Type 0
Each R [] [] = Unit {0}
Each R [] (a ∷ others) = ⊥
Each R (b ∷ bs) [] = ⊥
Each R (b ∷ bs) (a ∷ others) = R b a × Each R bs others

abbrev pub joined : {B : Type 0} → (B → List Written) → List B → List Written
joined s [] = []
joined s (b ∷ bs) = s b ++ joined s bs

module _ {A B : Type 0} (L : List ℕ → Lang A) (R : B → A → Type 0) (s : B → List Written) where
  many_reads : (bs : List B) → AllOf (λ b. Respelled L (R b) (s b)) bs → (text : List ℕ) (v : List Token) → Stands text (joined s bs) v → (xs : List A) × Many (L text) (Some xs) v × Each R bs xs
  many_reads [] h text [] st = ([], (0, (refl, refl)), tt)
  many_reads [] h text (t ∷ v) st = absurd st
  many_reads (b ∷ bs) h text v st =
      let p = stands_split text (s b) (joined s bs) v st in
      let x = h.0.again.reads text p.0 p.3 in
      let ys = many_reads bs h.1 text p.1 p.4 in (
        x.0 ∷ ys.0,
        (suc ys.1.0, there (both x.0 p.0 p.1 x.1 (both ys.0 p.1 [] ys.1.1 (refl, refl) (sym (append-nil p.1))) p.2)),
        (x.2, ys.2),
      )

  pub many_again : (bs : List B) → AllOf (λ b. Respelled L (R b) (s b)) bs → Again (λ text. Many (L text)) (Each R bs) (joined s bs)
  many_again bs h = record { reads = many_reads bs h }

  pub many_good : (bs : List B) → AllOf (λ b. Respelled L (R b) (s b)) bs → AllWritten (joined s bs)
  many_good [] h = tt
  many_good (b ∷ bs) h = written_append (s b) (joined s bs) h.0.good (many_good bs h.1)

-- ---- behind marks, with another one at the end

module _ {A B C : Type 0} (marks : Kinds) (L : List ℕ → Lang A) (E : List ℕ → Lang B) (R : C → A → Type 0) (s : C → List Written) (mark : Written) (i : has marks (class_of (kind_of mark)) ≡ true) (w : IsWritten mark) where
  abbrev marked : C → List Written
  marked c = mark ∷ s c

  abbrev Items : List ℕ → ℕ → Lang (List A × Option B)
  Items text k = UpToEnded marks (L text) (E text) k

  -- an item more in front of others
  one_more : (c : C) → Respelled L (R c) (s c) → (cs : List C) (Q : Option B → Type 0) (k : ℕ) (qs : List Written) → Again (λ text. Items text k) (λ r. Each R cs r.0 × Q r.1) qs
      → Again (λ text. Items text (suc k)) (λ r. Each R (c ∷ cs) r.0 × Q r.1) (marked c ++ qs)
  one_more c h cs Q k qs others =
      there_again ([], None) (bind_again (tok_again marks mark i) (λ m e. left_again (bind_again h.again (λ a ea. last_again (λ r. (a ∷ r.0, r.1)) others (λ r er. ((ea, er.0), er.1))))))

  items_again : (cs : List C) → AllOf (λ c. Respelled L (R c) (s c)) cs → (Q : Option B → Type 0) (k : ℕ) (qs : List Written) → Again (λ text. Items text k) (λ r. Each R [] r.0 × Q r.1) qs
      → (n : ℕ) × Again (λ text. Items text n) (λ r. Each R cs r.0 × Q r.1) (joined marked cs ++ qs)
  items_again [] h Q k qs e = (k, e)
  items_again (c ∷ cs) h Q k qs e =
      let others = items_again cs h.1 Q k qs e in
      (suc others.0, same_again (joined marked (c ∷ cs) ++ qs) (one_more c h.0 cs Q others.0 (joined marked cs ++ qs) others.1) (sym (append_assoc (marked c) (joined marked cs) qs)))

  any_number : {P : List A × Option B → Type 0} {ps : List Written} (n : ℕ) → Again (λ text. Items text n) P ps → Again (λ text. Ended marks (L text) (E text)) P ps
  any_number n h = record { reads = λ text v st. (let x = h.reads text v st in (x.0, (n, x.1), x.2)) }

  -- items, and no other one behind them
  pub unended_again : (cs : List C) → AllOf (λ c. Respelled L (R c) (s c)) cs → (Q : Option B → Type 0) → Q None → Again (λ text. Ended marks (L text) (E text)) (λ r. Each R cs r.0 × Q r.1) (joined marked cs)
  unended_again cs h Q q =
      let all = items_again cs h Q 0 [] (pure_again ([], None) (tt, q)) in
      same_again (joined marked cs) (any_number all.0 all.1) (append-nil (joined marked cs))

  -- items, and another one behind them
  pub ended_again : (cs : List C) → AllOf (λ c. Respelled L (R c) (s c)) cs → (Q : Option B → Type 0) {P : B → Type 0} {ps : List Written} → Again E P ps → ((b : B) → P b → Q (Some b))
      → Again (λ text. Ended marks (L text) (E text)) (λ r. Each R cs r.0 × Q r.1) (joined marked cs ++ mark ∷ ps)
  ended_again cs h Q {P} {ps} e q =
      let last : Again (λ text. Items text 1) (λ r. Each R [] r.0 × Q r.1) (mark ∷ ps) =
      there_again ([], None) (bind_again (tok_again marks mark i) (λ m k. right_again (last_again (λ b. ([], Some b)) e (λ b eb. (tt, q b eb))))) in
      let all = items_again cs h Q 1 (mark ∷ ps) last in
      any_number all.0 all.1

  pub marked_good : (cs : List C) → AllOf (λ c. Respelled L (R c) (s c)) cs → AllWritten (joined marked cs)
  marked_good [] h = tt
  marked_good (c ∷ cs) h = (w, written_append (s c) (joined marked cs) h.0.good (marked_good cs h.1))

-- ---- what was read, and its tokens

-- each token is what stands at its place in the text
abbrev pub IsTrue : List ℕ → Token → Type 0
IsTrue text t = IsToken t.kind (t.end - t.start) (drop t.start text)

abbrev pub AllTrue : List ℕ → List Token → Type 0
AllTrue text [] = Unit {0}
AllTrue text (t ∷ ts) = IsTrue text t × AllTrue text ts

pub true_parts : (text : List ℕ) (x y : List Token) → AllTrue text (x ++ y) → (AllTrue text x) × (AllTrue text y)
true_parts text [] y h = (tt, h)
true_parts text (t ∷ x) y h = let r = true_parts text x y h.1 in ((h.0, r.0), r.1)

-- a list in two parts
pub record Parts {A B : Type 0} (text : List ℕ) (L : Lang A) (K : A → Lang B) (b : B) : Type 0 where
  pub value : A
  pub front : List Token
  pub rest : List Token
  pub first : L (Some value) front
  pub second : K value (Some b) rest
  pub front_true : AllTrue text front
  pub rest_true : AllTrue text rest

pub parts_of : {A B : Type 0} {L : Lang A} {K : A → Lang B} (text : List ℕ) (b : B) (w : List Token) → Bind L K (Some b) w → AllTrue text w → Parts text L K b
parts_of text b w (cut e l) h = absurd cc
parts_of text b w (both a x y l k e) h =
    let t = true_parts text x y (subst (λ (u : List Token). AllTrue text u) e h) in
    record { value = a; front = x; rest = y; first = l; second = k; front_true = t.0; rest_true = t.1 }

pub pure_is : {A : Type 0} (a b : A) (w : List Token) → Pure a (Some b) w → a ≡ b
pure_is a b w h = let e : Some b ≡ Some a = h.0 in cc

-- what a list with a place was before
pub record Inside {A B : Type 0} (L : Lang A) (made : ℕ → A → B) (w : List Token) (b : B) : Type 0 where
  pub value : A
  pub word : L (Some value) w
  pub is : made (start_of w) value ≡ b

pub inside_of : {A B : Type 0} (L : Lang A) (made : ℕ → A → B) (b : B) (w : List Token) → Placed L made (Some b) w → Inside L made w b
inside_of L made b w (None, l, q) = absurd cc
inside_of L made b w (Some a, l, q) = record { value = a; word = l; is = (let e : Some b ≡ Some (made (start_of w) a) = q in cc) }

pub record OneToken (text : List ℕ) (ks : Kinds) (t : Token) : Type 0 where
  pub of_kinds : Of ks t
  pub is_true : IsTrue text t

pub token_of_list : (text : List ℕ) (ks : Kinds) (t : Token) (w : List Token) → Tok ks (Some t) w → AllTrue text w → OneToken text ks t
token_of_list text ks t w h tr =
    let s : Token = h.0 in
    let same : s ≡ t = (let e : Some t ≡ Some s = h.2 in cc) in
    let one : AllTrue text (s ∷ []) = subst (λ (u : List Token). AllTrue text u) h.3 tr in
    subst (λ (u : Token). OneToken text ks u) same (record { of_kinds = h.1; is_true = one.0 })

pub never_cut : {A : Type 0} (ks : Kinds) (a : A) (w : List Token) → Cut ks (Some a) w → ⊥
never_cut ks a w h = let e : Some a ≡ None = h.2 in absurd cc

pub many_of : {A : Type 0} (text : List ℕ) (L : Lang A) (Q : A → Type 0) → ((a : A) (w : List Token) → L (Some a) w → AllTrue text w → Q a) → (k : ℕ) (xs : List A) (w : List Token) → UpTo L k (Some xs) w → AllTrue text w → AllOf Q xs
many_of text L Q f zero xs w h tr = let e : [] ≡ xs = pure_is [] xs w h in subst (λ us. AllOf Q us) e tt
many_of {A} text L Q f (suc k) xs w (there h) tr =
    let j = parts_of text xs w h tr in
    let i = parts_of text xs j.rest j.second j.rest_true in
    let e : j.value ∷ i.value ≡ xs = pure_is (j.value ∷ i.value) xs i.rest i.second in
    subst (λ (us : List A). AllOf Q us) e (f j.value j.front j.first j.front_true, many_of text L Q f k i.value i.front i.first i.front_true)
many_of {A} text L Q f (suc k) xs w (not_there e q) tr = let is : [] ≡ xs = cc in subst (λ (us : List A). AllOf Q us) is tt

-- the items of one language, where a list of another may end them
module _ {A B : Type 0} (text : List ℕ) (marks : Kinds) (L : Lang A) (E : Lang B) (Q : A → Type 0) (f : (a : A) (w : List Token) → L (Some a) w → AllTrue text w → Q a) where
  abbrev Rests : ℕ → Type 0
  Rests k = (r : List A × Option B) (w : List Token) → UpToEnded marks L E k (Some r) w → AllTrue text w → AllOf Q r.0

  item_of : (k : ℕ) → Rests k → (r : List A × Option B) (w : List Token) → Either (Bind L (λ a. Bind (UpToEnded marks L E k) (λ q. Pure (a ∷ q.0, q.1)))) (Bind E (λ x. Pure ([], Some x))) (Some r) w
      → AllTrue text w → AllOf Q r.0
  item_of k rest r w (left l) tr =
      let i = parts_of text r w l tr in
      let n = parts_of text r i.rest i.second i.rest_true in
      let e : (i.value ∷ n.value.0, n.value.1) ≡ r = pure_is (i.value ∷ n.value.0, n.value.1) r n.rest n.second in
      subst (λ (u : List A × Option B). AllOf Q u.0) e (f i.value i.front i.first i.front_true, rest n.value n.front n.first n.front_true)
  item_of k rest r w (right l) tr =
      let i = parts_of text r w l tr in
      let e : ([], Some i.value) ≡ r = pure_is ([], Some i.value) r i.rest i.second in
      subst (λ (u : List A × Option B). AllOf Q u.0) e tt

  pub items_of : (k : ℕ) → Rests k
  items_of zero r w h tr = let e : ([], None) ≡ r = pure_is ([], None) r w h in subst (λ (u : List A × Option B). AllOf Q u.0) e tt
  items_of (suc k) r w (not_there e q) tr = let is : ([], None) ≡ r = cc in subst (λ (u : List A × Option B). AllOf Q u.0) is tt
  items_of (suc k) r w (there h) tr = let j = parts_of text r w h tr in item_of k (items_of k) r j.rest j.second j.rest_true

-- ---- names and numbers

kind_small : (k : Kind) (n : ℕ) (bytes : List ℕ) → IsToken k n bytes → number_in k ≤ 1000000000
kind_small kinds.Name n bytes h = omega arith
kind_small (kinds.Number v) n bytes h = h.small
kind_small (kinds.Word w) n bytes h = omega arith
kind_small (kinds.Symbol s) n bytes h = omega arith

pub small_number : (text : List ℕ) (t : Token) → IsTrue text t → number_in t.kind ≤ 1000000000
small_number text t h = kind_small t.kind (t.end - t.start) (drop t.start text) h

word_no_name : (w : Keyword) → ((word_class w == 0) || false) ≡ true → ⊥
word_no_name keywords.Geost h = absurd cc
word_no_name _ h = absurd cc

symbol_no_name : (s : Sym) → ((symbol_class s == 0) || false) ≡ true → ⊥
symbol_no_name syms.DotDot h = absurd cc
symbol_no_name _ h = absurd cc

only_name : (k : Kind) → has names (class_of k) ≡ true → k ≡ kinds.Name
only_name kinds.Name h = refl
only_name (kinds.Number v) h = absurd cc
only_name (kinds.Word w) h = absurd (word_no_name w h)
only_name (kinds.Symbol s) h = absurd (symbol_no_name s h)

pub name_is_text : (text : List ℕ) (a : PlacedName) (w : List Token) → Named text (Some a) w → AllTrue text w → IsNameText a.name
name_is_text text a w h tr =
    let j = parts_of text a w h tr in
    let t = token_of_list text names j.value j.front j.first j.front_true in
    let e : name_in text j.value ≡ a = pure_is (name_in text j.value) a j.rest j.second in
    subst (λ (b : PlacedName). IsNameText b.name) e (name_token text j.value t.is_true (only_name j.value.kind t.of_kinds))

-- ---- chains

module _ {A B : Type 0} (L : List ℕ → Lang A) (R : B → A → Type 0) (s : B → List Written) (marks : Kinds) (mark : Written) (i : has marks (class_of (kind_of mark)) ≡ true) (w : IsWritten mark) where
  all_marked : (bs : List B) → AllOf (λ b. Respelled L (R b) (s b)) bs → AllOf (λ b. Respelled (λ text. Bind (Tok marks) (λ t. L text)) (R b) (mark ∷ s b)) bs
  all_marked [] h = tt
  all_marked (b ∷ bs) h = (record { good = (w, h.0.good); again = bind_again (tok_again marks mark i) (λ t k. h.0.again) }, all_marked bs h.1)

  -- the first one, and others with a mark before each
  pub chain_again : (b : B) (bs : List B) → AllOf (λ c. Respelled L (R c) (s c)) (b ∷ bs) → Respelled (λ text. Chain (L text) marks) (λ c. R b c.0 × Each R bs c.1) (s b ++ joined (λ c. mark ∷ s c) bs)
  chain_again b bs h =
      let others = all_marked bs h.1 in
      record {
        good = written_append (s b) (joined (λ c. mark ∷ s c) bs) h.0.good (many_good (λ text. Bind (Tok marks) (λ t. L text)) R (λ c. mark ∷ s c) bs others);
        again = bind_again h.0.again (λ a ea. last_again (λ xs. (a, xs)) (many_again (λ text. Bind (Tok marks) (λ t. L text)) R (λ c. mark ∷ s c) bs others) (λ xs ex. (ea, ex)));
      }

-- a chain that was read
pub chain_of : {A : Type 0} (text : List ℕ) (L : Lang A) (marks : Kinds) (Q : A → Type 0) → ((a : A) (w : List Token) → L (Some a) w → AllTrue text w → Q a)
    → (c : A × List A) (w : List Token) → Chain L marks (Some c) w → AllTrue text w → Q c.0 × AllOf Q c.1
chain_of {A} text L marks Q f c w h tr =
    let j = parts_of text c w h tr in
    let i = parts_of text c j.rest j.second j.rest_true in
    let e : (j.value, i.value) ≡ c = pure_is (j.value, i.value) c i.rest i.second in
    let many = i.first in
    let others : AllOf Q i.value = many_of text (Bind (Tok marks) (λ t. L)) Q (λ a v g gt. (let k = parts_of text a v g gt in f a k.rest k.second k.rest_true)) many.0 i.value i.front many.1 i.front_true in
    subst (λ (d : A × List A). Q d.0 × AllOf Q d.1) e (f j.value j.front j.first j.front_true, others)
