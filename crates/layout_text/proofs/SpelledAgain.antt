-- The tokens of a layout block spell its lines and its groups by the grammar.
use Rattle.std.proofs.Common.{◌≡◌, ℕ, ℤ, Bool, true, false, List, [], ◌∷◌, ◌++◌, length, map, Option, Some, None, refl, sym, ap, ◌∙◌, subst}
use Rattle.std.specs.Prelude.{flat_map}
use Rattle.std.specs.List.{range_with_len}
use Rattle.std.proofs.lemmas.List.{append-nil}
use Rattle.geo_tokens.specs.declared.token.Keyword.TheVariants as keywords
use Rattle.geo_tokens.specs.declared.token.Sym.TheVariants as syms
use Rattle.geo_tokens.specs.Class.{number_in}
use Rattle.geo_tokens.specs.Names.{IsNameText}
use Rattle.geo_tokens.specs.Words.{numbers, word, symbol, Tok, Bind, Many}
use Rattle.rule_print.specs.Canonical.{Written}
use Rattle.rule_print.specs.Canonical.{name as a_name, number as digits, word as a_word, symbol as a_symbol}
use Rattle.rule_print.proofs.ShownTokens.{AllWritten}
use Rattle.rule_print.proofs.Respelled.{Again, Respelled, tok_again, named_again, bind_again, last_again, left_again, right_again, there_again, same_again, AllOf, Each, joined, many_again, many_good}
use Rattle.problem_data.specs.declared.tree.Int.{Int}
use Rattle.problem_data.specs.Problem.{ProblemData}
use Rattle.problem_data.specs.Places.{is_absent_at}
use Rattle.problem_data.specs.Tuple.{Spot, Tuple, spot, object_of}
use Rattle.problem_data.specs.Meaning.{number_of}
use Rattle.problem_data.specs.Grammar.{OneOrMore, IntWords}
use Rattle.problem_text.specs.Canonical.{int_spelling}
use Rattle.problem_text.proofs.PrintingParts.{bare_int, int_of, IsTextNumber, IsSome, IntAgain, int_again, all_as, one_or_more_again}
use Rattle.layout_text.specs.Tree.{PutTree, placed, absent, LineTree, GroupTree, TokenTree, LayoutTree}
use Rattle.layout_text.specs.Grammar.{line_tree, group_tree, token_tree, layout_tree, PutWords, LineWords, GroupWords, TupleWords, TokenWords, TokenLine, LayoutWords}
use Rattle.layout_text.specs.Block.{shape_name}
use Rattle.layout_text.specs.Faults.{spot_in}
use Rattle.layout_text.proofs.TextParts.{blank, lexemes, lexemes_both}
use Rattle.layout_text.proofs.PrintedParts.{comma_lexemes, CanWriteSpot, parts_where, line_parts, placed_lexemes, group_parts, later_parts, token_parts, end_parts, block_parts, CanWriteLine}

-- ---- numbers

numbers_back : (vs : List ℤ) (xs : List Int) → Each (λ v i. bare_int i ≡ int_of v) vs xs → map number_of xs ≡ vs
numbers_back [] [] h = refl
numbers_back [] (x ∷ xs) h = absurd h
numbers_back (v ∷ vs) [] h = absurd h
numbers_back (v ∷ vs) (x ∷ xs) h = λ i. (ap (λ (n : Int). n.value) h.0) i ∷ numbers_back vs xs h.1 i

ints_again : (vs : List ℤ) → IsSome vs → AllOf IsTextNumber vs → Again (λ text. OneOrMore IntWords) (λ xs. map number_of xs ≡ vs) (flat_map int_spelling vs)
ints_again vs some h =
    let r = one_or_more_again (λ text. IntWords) (λ v i. bare_int i ≡ int_of v) int_spelling vs some (all_as {P = IsTextNumber} {Q = IntAgain} int_again vs h) in
    record { reads = λ text v st. (let x = r.again.reads text v st in (x.0, x.1, numbers_back vs x.0 x.2)) }

-- ---- lines

-- where the tuple puts the object, by whether it is absent
abbrev pub SaysPut : ProblemData → Tuple → ℕ → Bool → PutTree → Type 0
SaysPut p t o true (absent place) = Unit {0}
SaysPut p t o true (placed shape origin) = ⊥
SaysPut p t o false (absent place) = ⊥
SaysPut p t o false (placed shape origin) = (shape.name ≡ shape_name p t o) × (map number_of origin ≡ (spot t o).origin)

pub record SaysLine (p : ProblemData) (t : Tuple) (o : ℕ) (b : Bool) (l : LineTree) : Type 0 where
  pub name : l.name.name ≡ (object_of p o).name
  pub put : SaysPut p t o b l.put

-- the line says where the tuple puts the object
abbrev pub SaysSpot : ProblemData → Tuple → ℕ → LineTree → Type 0
SaysSpot p t o = SaysLine p t o (is_absent_at (object_of p o) (spot t o).place)

module _ (p : ProblemData) (t : Tuple) where
  abbrev LineAgain : ℕ → Type 0
  LineAgain o = Respelled LineWords (SaysSpot p t o) (lexemes (line_parts p t o))

  abbrev pub CanReadLine : ℕ → Type 0
  CanReadLine o = CanWriteLine p t o × IsSome (spot t o).origin

  ints_written : (vs : List ℤ) → AllOf IsTextNumber vs → IsSome vs → AllWritten (flat_map int_spelling vs)
  ints_written vs h some = (one_or_more_again (λ text. IntWords) (λ v i. bare_int i ≡ int_of v) int_spelling vs some (all_as {P = IsTextNumber} {Q = IntAgain} int_again vs h)).good

  placed_again : (o : ℕ) → IsNameText (shape_name p t o) → CanWriteSpot (spot t o) → IsSome (spot t o).origin
      → Again PutWords (SaysPut p t o false) (a_word keywords.As ∷ a_name (shape_name p t o) ∷ a_word keywords.At ∷ flat_map int_spelling (spot t o).origin)
  unfolding PutWords
  placed_again o hs h some =
      left_again (bind_again (tok_again (word keywords.As) (a_word keywords.As) refl) (λ w k. bind_again (named_again (shape_name p t o)) (λ s es.
      bind_again (tok_again (word keywords.At) (a_word keywords.At) refl) (λ u j. last_again (λ xs. placed s xs) (ints_again (spot t o).origin some h.origin) (λ xs ex. (es, ex))))))

  absent_again : (o : ℕ) → Again PutWords (SaysPut p t o true) (a_word keywords.Absent ∷ [])
  unfolding PutWords
  absent_again o = right_again (last_again (λ w. absent w.start) (tok_again (word keywords.Absent) (a_word keywords.Absent) refl) (λ w k. tt))

  line_where : (b : Bool) (o : ℕ) → IsNameText (object_of p o).name → (b ≡ false → IsNameText (shape_name p t o)) → CanWriteSpot (spot t o) → IsSome (spot t o).origin
      → Respelled LineWords (SaysLine p t o b) (lexemes (parts_where p t b o))
  unfolding LineWords
  line_where true o hn hs h some = record {
    good = (hn, (tt, tt));
    again = bind_again (named_again (object_of p o).name) (λ a ea. last_again (λ q. line_tree a q) (absent_again o) (λ q eq. record { name = ea; put = eq }));
  }
  line_where false o hn hs h some =
      let e = sym (placed_lexemes p t o) in
      record {
        good = subst (λ (us : List Written). AllWritten us) e (hn, (tt, (hs refl, (tt, ints_written (spot t o).origin h.origin some))));
        again = same_again (lexemes (parts_where p t false o))
            (bind_again (named_again (object_of p o).name) (λ a ea. last_again (λ q. line_tree a q) (placed_again o (hs refl) h some) (λ q eq. record { name = ea; put = eq })))
            e;
      }

  line_again : (o : ℕ) → CanReadLine o → LineAgain o
  line_again o h = line_where (is_absent_at (object_of p o) (spot t o).place) o h.0.name h.0.shape h.0.spot h.1

  lines_lexemes : (os : List ℕ) → joined (λ o. lexemes (line_parts p t o)) os ≡ lexemes (flat_map (line_parts p t) os)
  lines_lexemes [] = refl
  lines_lexemes (o ∷ os) = ap (λ (us : List Written). lexemes (line_parts p t o) ++ us) (lines_lexemes os) ∙ sym (lexemes_both (line_parts p t o) (flat_map (line_parts p t) os))

  lines_again : (os : List ℕ) → AllOf CanReadLine os → Again (λ text. Many (LineWords text)) (Each (SaysSpot p t) os) (lexemes (flat_map (line_parts p t) os))
  lines_again os h = same_again (lexemes (flat_map (line_parts p t) os)) (many_again LineWords (SaysSpot p t) (λ o. lexemes (line_parts p t o)) os (all_as {P = CanReadLine} {Q = LineAgain} line_again os h)) (lines_lexemes os)

-- ---- groups

abbrev GroupAgain : Spot → Type 0
GroupAgain s = Respelled (λ text. GroupWords) (λ g. spot_in g ≡ s) (lexemes (group_parts s))

comma_int : (v : ℤ) → IsTextNumber v → Respelled (λ text. Bind (Tok (symbol syms.Comma)) (λ c. IntWords)) (λ i. bare_int i ≡ int_of v) (a_symbol syms.Comma ∷ int_spelling v)
comma_int v h = let r = int_again v h in record { good = (tt, r.good); again = bind_again (tok_again (symbol syms.Comma) (a_symbol syms.Comma) refl) (λ t k. r.again) }

group_again : (s : Spot) → CanWriteSpot s → GroupAgain s
unfolding GroupWords
group_again s h =
    let each = all_as {P = IsTextNumber} {Q = λ v. Respelled (λ text. Bind (Tok (symbol syms.Comma)) (λ c. IntWords)) (λ i. bare_int i ≡ int_of v) (a_symbol syms.Comma ∷ int_spelling v)} comma_int s.origin h.origin in
    let e : digits s.place ∷ joined (λ v. a_symbol syms.Comma ∷ int_spelling v) s.origin ≡ lexemes (group_parts s) = ap (λ (us : List Written). digits s.place ∷ us) (sym (comma_lexemes s.origin)) in
    record {
      good = subst (λ (us : List Written). AllWritten us) e (h.place, many_good (λ text. Bind (Tok (symbol syms.Comma)) (λ c. IntWords)) (λ v i. bare_int i ≡ int_of v) (λ v. a_symbol syms.Comma ∷ int_spelling v) s.origin each);
      again = same_again (lexemes (group_parts s))
          (bind_again (tok_again numbers (digits s.place) refl) (λ n k. last_again (λ xs. group_tree n xs)
          (many_again (λ text. Bind (Tok (symbol syms.Comma)) (λ c. IntWords)) (λ v i. bare_int i ≡ int_of v) (λ v. a_symbol syms.Comma ∷ int_spelling v) s.origin each)
          (λ xs ex. (λ i. record { place = (ap number_in k) i; origin = numbers_back s.origin xs ex i }))))
          e;
    }

abbrev LaterAgain : Spot → Type 0
LaterAgain s = Respelled (λ text. Bind (Tok (symbol syms.Slash)) (λ u. GroupWords)) (λ g. spot_in g ≡ s) (lexemes (later_parts s))

later_again : (s : Spot) → CanWriteSpot s → LaterAgain s
later_again s h = let r = group_again s h in record { good = (tt, r.good); again = bind_again (tok_again (symbol syms.Slash) (a_symbol syms.Slash) refl) (λ t k. r.again) }

later_lexemes : (ss : List Spot) → joined (λ s. lexemes (later_parts s)) ss ≡ lexemes (flat_map later_parts ss)
later_lexemes [] = refl
later_lexemes (s ∷ ss) = ap (λ (us : List Written). lexemes (later_parts s) ++ us) (later_lexemes ss) ∙ sym (lexemes_both (later_parts s) (flat_map later_parts ss))

spots_back : (ss : List Spot) (gs : List GroupTree) → Each (λ s g. spot_in g ≡ s) ss gs → map spot_in gs ≡ ss
spots_back [] [] h = refl
spots_back [] (g ∷ gs) h = absurd h
spots_back (s ∷ ss) [] h = absurd h
spots_back (s ∷ ss) (g ∷ gs) h = λ i. h.0 i ∷ spots_back ss gs h.1 i

pub tuple_again : (t : Tuple) → AllOf CanWriteSpot t → Again (λ text. TupleWords) (λ gs. map spot_in gs ≡ t) (lexemes (token_parts t))
unfolding TupleWords
tuple_again [] h = left_again (last_again (λ m. []) (tok_again (symbol syms.Minus) (a_symbol syms.Minus) refl) (λ m k. refl))
tuple_again (s ∷ ss) h =
    let others = all_as {P = CanWriteSpot} {Q = LaterAgain} later_again ss h.1 in
    right_again (same_again (lexemes (group_parts s ++ flat_map later_parts ss))
    (bind_again (group_again s h.0).again (λ g eg. last_again (λ gs. g ∷ gs)
    (many_again (λ text. Bind (Tok (symbol syms.Slash)) (λ u. GroupWords)) (λ s g. spot_in g ≡ s) (λ s. lexemes (later_parts s)) ss others)
    (λ gs egs. (λ i. eg i ∷ spots_back ss gs egs i))))
    (ap (λ (us : List Written). lexemes (group_parts s) ++ us) (later_lexemes ss) ∙ sym (lexemes_both (group_parts s) (flat_map later_parts ss))))

-- ---- the block

-- the token line gives the tuple
pub record GivesTuple (t : Tuple) (o : Option TokenTree) : Type 0 where
  pub line : TokenTree
  pub there : o ≡ Some line
  pub same : map spot_in line.groups ≡ t

pub record SaysTuple (p : ProblemData) (t : Tuple) (l : LayoutTree) : Type 0 where
  pub lines : Each (SaysSpot p t) (range_with_len 0 (length t)) l.lines
  pub token : GivesTuple t l.token

module _ (p : ProblemData) (t : Tuple) (writes : AllOf CanWriteSpot t) where
  end_again : Again (λ text. TokenLine) (GivesTuple t) (lexemes (end_parts p t))
  unfolding TokenLine TokenWords
  end_again =
      let e : lexemes (token_parts t) ≡ lexemes (token_parts t ++ blank 10 ∷ []) = sym (lexemes_both (token_parts t) (blank 10 ∷ []) ∙ append-nil (lexemes (token_parts t))) in
      same_again (lexemes (end_parts p t))
      (there_again None (last_again Some
      (bind_again (tok_again (word keywords.Token) (a_word keywords.Token) refl) (λ w k. last_again (λ gs. token_tree w gs) (tuple_again t writes) (λ gs egs. egs)))
      (λ l el. record { line = l; there = refl; same = el })))
      (ap (λ (us : List Written). a_word keywords.Token ∷ us) e)

  pub block_again : AllOf (CanReadLine p t) (range_with_len 0 (length t)) → Again (λ text. LayoutWords text 0) (SaysTuple p t) (lexemes (block_parts p t))
  unfolding LayoutWords
  block_again h =
      same_again (lexemes (block_parts p t))
      (bind_again (tok_again (word keywords.Layout) (a_word keywords.Layout) refl) (λ w k. bind_again (lines_again p t (range_with_len 0 (length t)) h) (λ ls els. last_again (λ o. layout_tree ls o) end_again (λ o eo. record { lines = els; token = eo }))))
      (ap (λ (us : List Written). a_word keywords.Layout ∷ us) (sym (lexemes_both (flat_map (line_parts p t) (range_with_len 0 (length t))) (end_parts p t))))
