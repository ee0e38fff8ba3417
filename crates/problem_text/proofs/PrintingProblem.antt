-- A text of a problem spells its statements in the grammar of problems.
use Rattle.std.proofs.Common.{◌≡◌, ℕ, zero, suc, ◌<◌, ◌≤◌, List, [], ◌∷◌, ◌++◌, length, map, Some, Bool, true, false, ◌==◌, refl, sym, ap, ◌∙◌, subst, append_assoc, arith}
use Rattle.std.specs.Prelude.{flat_map, pos, not, if◌then◌else◌}
use Rattle.std.specs.List.{All}
use Rattle.std.proofs.lemmas.List.{append-nil}
use Rattle.geo_tokens.specs.declared.token.Token.{Token}
use Rattle.geo_tokens.specs.declared.token.Kind.{Kind}
use Rattle.geo_tokens.specs.declared.token.Kind.TheVariants as kinds
use Rattle.geo_tokens.specs.declared.token.Keyword.TheVariants as keywords
use Rattle.geo_tokens.specs.Class.{number_in}
use Rattle.geo_tokens.specs.Names.{IsNameText}
use Rattle.geo_tokens.specs.Cut.{IsTokens}
use Rattle.geo_tokens.specs.Words.{numbers, word}
use Rattle.rule_print.specs.Canonical.{Written}
use Rattle.rule_print.specs.Canonical.{number as digits, word as a_word}
use Rattle.rule_print.proofs.Respelled.{Respelled, tok_again, bind_again, last_again, same_again, AllOf, joined, many_again, many_good}
use Rattle.rule_print.proofs.ShownTokens.{AllWritten, written_append}
use Rattle.problem_data.specs.Tree.{StatementTree, ProblemTree}
use Rattle.problem_data.specs.Grammar.{problem_tree, is_second, StatementWords, ProblemWords}
use Rattle.problem_data.specs.Problem.{ObjectData, ProblemData}
use Rattle.problem_data.specs.WellFormed.{IsWellFormed}
use Rattle.problem_text.specs.Canonical.{name_at, line_text, line_if, head_spelling, shape_names, object_names, shape_spelling, object_spelling, macro_spelling, rule_spelling, order_spelling, sides_spelling, counts_from, text_stating, needs_order, needs_sides, MayState}
use Rattle.problem_text.proofs.PrintingParts.{bare_int, int_of, each_map, all_as, IsSome}
use Rattle.problem_text.proofs.PrintingStatements.{bare_statement, shape_of, object_of, order_of, sides_of, macro_of, rule_of, StatementAgain, CanWriteShape, shape_again, CanWriteNames, CanWriteObject, object_again, order_again, sides_again_line, CanWriteMacro, macro_again, CanWriteRule, rule_again}
use Rattle.problem_text.proofs.PrintingText.{all_lexemes, lines_text, lines_tokens, EachWritten, lines_are_tokens, lines_stand_whole}

-- a statement, and how it is spelled
abbrev pub Line : Type 0
Line = StatementTree × List Written

abbrev pub line_where : Bool → Line → List Line
line_where needed l = if needed then l ∷ [] else []

-- the search order and the sides, where they are stated
abbrev pub ways : (with_order with_sides : Bool) → ProblemData → List Line
ways with_order with_sides p = line_where with_order (order_of (object_names p) p.order, order_spelling (object_names p) p.order) ++ line_where with_sides (sides_of p.sides, sides_spelling p.sides)

-- the statements of a problem, in canonical order
abbrev pub all_statements : (with_order with_sides : Bool) → ProblemData → List Line
all_statements with_order with_sides p =
    map (λ s. (shape_of s, shape_spelling s)) p.shapes ++ (map (λ o. (object_of (shape_names p) o, object_spelling (shape_names p) o)) p.objects
    ++ (map (λ m. (macro_of m, macro_spelling m)) p.macros ++ (ways with_order with_sides p ++ map (λ r. (rule_of r, rule_spelling r)) p.rules)))

abbrev pub bare_problem_tree : ProblemTree → ProblemTree
bare_problem_tree t = record { version = bare_int t.version; dims = bare_int t.dims; statements = map bare_statement t.statements }

-- the tree that the text spells
abbrev pub tree_of : (with_order with_sides : Bool) → ProblemData → ProblemTree
tree_of with_order with_sides p = record { version = int_of (pos p.version); dims = int_of (pos p.dims); statements = map (λ l. l.0) (all_statements with_order with_sides p) }

-- the parts of the problem can be written
pub record CanWriteProblem (p : ProblemData) : Type 0 where
  pub version : p.version ≤ 1000000000
  pub dims : p.dims ≤ 1000000000
  pub shapes : AllOf CanWriteShape p.shapes
  pub objects : AllOf (CanWriteObject (p.version == 2) (shape_names p)) p.objects
  pub macros : AllOf CanWriteMacro p.macros
  pub rules : AllOf CanWriteRule p.rules

-- ---- lists of statements

abbrev LineAgain : Bool → Line → Type 0
LineAgain second l = StatementAgain second l.0 l.1

all_both : {A : Type 0} (P : A → Type 0) (xs ys : List A) → AllOf P xs → AllOf P ys → AllOf P (xs ++ ys)
all_both P [] ys h g = g
all_both P (x ∷ xs) ys h g = (h.0, all_both P xs ys h.1 g)

all_map : {A B : Type 0} (P : B → Type 0) (f : A → B) (xs : List A) → AllOf (λ x. P (f x)) xs → AllOf P (map f xs)
all_map P f [] h = tt
all_map P f (x ∷ xs) h = (h.0, all_map P f xs h.1)

line_again : (second needed : Bool) (l : Line) → (needed ≡ true → LineAgain second l) → AllOf (LineAgain second) (line_where needed l)
line_again second true l f = (f refl, tt)
line_again second false l f = tt

-- an object's name can be written
named_at : (second : Bool) (names : List (List ℕ)) (os : List ObjectData) → AllOf (CanWriteObject second names) os → (i : ℕ) → i < length os → IsNameText (name_at (map (λ (o : ObjectData). o.name) os) i)
named_at second names [] h i l = absurd (omega (arith, l))
named_at second names (o ∷ os) h zero l = h.0.name
named_at second names (o ∷ os) h (suc i) l = named_at second names os h.1 i (omega (arith, l))

each_all : (P Q : ℕ → Type 0) → ((i : ℕ) → P i → Q i) → (is : List ℕ) → All P is → AllOf Q is
each_all P Q f [] h = tt
each_all P Q f (i ∷ is) h = (f i (h 0 0 (omega arith)), each_all P Q f is (λ k d l. h (suc k) d (omega (arith, l))))

-- what a text states can be written
module _ (with_order with_sides : Bool) (p : ProblemData) (h : CanWriteProblem p) (well : IsWellFormed p) (may : MayState with_order with_sides p) where
  order_written : with_order ≡ true → CanWriteNames (object_names p) p.order
  order_written e = record {
    some = λ none. (let some : 0 < length p.order = may.some e in let size : length p.order ≡ 0 = ap length none in absurd (omega (arith, some, size)));
    each = each_all (λ i. i < length p.objects) (λ i. IsNameText (name_at (object_names p) i)) (named_at (p.version == 2) (shape_names p) p.objects h.objects) p.order well.order;
  }

  some_sides_there : IsSome p.sides
  some_sides_there none = let size : length p.sides ≡ 0 = ap length none in absurd (omega (arith, size, well.sides, well.some))

  abbrev second : Bool
  second = p.version == 2

  ways_again : AllOf (LineAgain second) (ways with_order with_sides p)
  ways_again = all_both (LineAgain second) (line_where with_order (order_of (object_names p) p.order, order_spelling (object_names p) p.order)) (line_where with_sides (sides_of p.sides, sides_spelling p.sides))
      (line_again second with_order (order_of (object_names p) p.order, order_spelling (object_names p) p.order) (λ e. order_again second (object_names p) p.order (order_written e)))
      (line_again second with_sides (sides_of p.sides, sides_spelling p.sides) (λ e. sides_again_line second p.sides some_sides_there))

  all_again : AllOf (LineAgain second) (all_statements with_order with_sides p)
  all_again =
      let shapes = all_map (LineAgain second) (λ s. (shape_of s, shape_spelling s)) p.shapes (all_as {P = CanWriteShape} {Q = λ s. StatementAgain second (shape_of s) (shape_spelling s)} (shape_again second) p.shapes h.shapes) in
      let objects = all_map (LineAgain second) (λ o. (object_of (shape_names p) o, object_spelling (shape_names p) o)) p.objects
      (all_as {P = CanWriteObject second (shape_names p)} {Q = λ o. StatementAgain second (object_of (shape_names p) o) (object_spelling (shape_names p) o)} (object_again second (shape_names p)) p.objects h.objects) in
      let macros = all_map (LineAgain second) (λ m. (macro_of m, macro_spelling m)) p.macros (all_as {P = CanWriteMacro} {Q = λ m. StatementAgain second (macro_of m) (macro_spelling m)} (macro_again second) p.macros h.macros) in
      let rules = all_map (LineAgain second) (λ r. (rule_of r, rule_spelling r)) p.rules (all_as {P = CanWriteRule} {Q = λ r. StatementAgain second (rule_of r) (rule_spelling r)} (rule_again second) p.rules h.rules) in
      all_both (LineAgain second) _ _ shapes (all_both (LineAgain second) _ _ objects (all_both (LineAgain second) _ _ macros (all_both (LineAgain second) _ _ ways_again rules)))

-- ---- the text and its lines

abbrev spellings : List Line → List (List Written)
spellings ls = map (λ l. l.1) ls

abbrev last_line : List Written
last_line = a_word keywords.End ∷ []

abbrev problem_lines : (with_order with_sides : Bool) → ProblemData → List (List Written)
problem_lines with_order with_sides p = head_spelling p ∷ (spellings (all_statements with_order with_sides p) ++ last_line ∷ [])

text_both : (xs ys : List (List Written)) → lines_text (xs ++ ys) ≡ lines_text xs ++ lines_text ys
text_both [] ys = refl
text_both (x ∷ xs) ys = ap (λ (u : List ℕ). line_text x ++ u) (text_both xs ys) ∙ sym (append_assoc (line_text x) (lines_text xs) (lines_text ys))

spellings_both : (xs ys : List Line) → spellings (xs ++ ys) ≡ spellings xs ++ spellings ys
spellings_both [] ys = refl
spellings_both (x ∷ xs) ys = ap (λ (u : List (List Written)). x.1 ∷ u) (spellings_both xs ys)

abbrev statements_text : List Line → List ℕ
statements_text ls = lines_text (spellings ls)

statements_both : (xs ys : List Line) → statements_text (xs ++ ys) ≡ statements_text xs ++ statements_text ys
statements_both xs ys = ap lines_text (spellings_both xs ys) ∙ text_both (spellings xs) (spellings ys)

each_text : {A : Type 0} (f : A → StatementTree) (s : A → List Written) (xs : List A) → statements_text (map (λ x. (f x, s x)) xs) ≡ flat_map (λ x. line_text (s x)) xs
each_text f s [] = refl
each_text f s (x ∷ xs) = ap (λ (u : List ℕ). line_text (s x) ++ u) (each_text f s xs)

where_text : (needed : Bool) (l : Line) → statements_text (line_where needed l) ≡ line_if needed l.1
where_text true l = append-nil (line_text l.1)
where_text false l = refl

ways_text : (with_order with_sides : Bool) (p : ProblemData) → statements_text (ways with_order with_sides p) ≡ line_if with_order (order_spelling (object_names p) p.order) ++ line_if with_sides (sides_spelling p.sides)
ways_text with_order with_sides p =
    statements_both (line_where with_order (order_of (object_names p) p.order, order_spelling (object_names p) p.order)) (line_where with_sides (sides_of p.sides, sides_spelling p.sides))
    ∙ (λ i. where_text with_order (order_of (object_names p) p.order, order_spelling (object_names p) p.order) i ++ where_text with_sides (sides_of p.sides, sides_spelling p.sides) i)

-- the text of a problem is that of its lines
lines_of_problem : (with_order with_sides : Bool) (p : ProblemData) → text_stating with_order with_sides p ≡ lines_text (problem_lines with_order with_sides p)
lines_of_problem with_order with_sides p =
    let shapes : List Line = map (λ s. (shape_of s, shape_spelling s)) p.shapes in
    let objects : List Line = map (λ o. (object_of (shape_names p) o, object_spelling (shape_names p) o)) p.objects in
    let macros : List Line = map (λ m. (macro_of m, macro_spelling m)) p.macros in
    let rules : List Line = map (λ r. (rule_of r, rule_spelling r)) p.rules in
    let shape_texts : List ℕ = flat_map (λ s. line_text (shape_spelling s)) p.shapes in
    let object_texts : List ℕ = flat_map (λ o. line_text (object_spelling (shape_names p) o)) p.objects in
    let macro_texts : List ℕ = flat_map (λ m. line_text (macro_spelling m)) p.macros in
    let order_text : List ℕ = line_if with_order (order_spelling (object_names p) p.order) in
    let sides_text : List ℕ = line_if with_sides (sides_spelling p.sides) in
    let rule_texts : List ℕ = flat_map (λ r. line_text (rule_spelling r)) p.rules in
    let one : statements_text (all_statements with_order with_sides p) ≡ shape_texts ++ (object_texts ++ (macro_texts ++ ((order_text ++ sides_text) ++ rule_texts))) =
    statements_both shapes (objects ++ (macros ++ (ways with_order with_sides p ++ rules)))
    ∙ (λ i. each_text shape_of shape_spelling p.shapes i ++ (statements_both objects (macros ++ (ways with_order with_sides p ++ rules))
    ∙ (λ j. each_text (object_of (shape_names p)) (object_spelling (shape_names p)) p.objects j ++ (statements_both macros (ways with_order with_sides p ++ rules)
    ∙ (λ k. each_text macro_of macro_spelling p.macros k ++ (statements_both (ways with_order with_sides p) rules ∙ (λ l. ways_text with_order with_sides p l ++ each_text rule_of rule_spelling p.rules l)) k)) j)) i) in
    let two : lines_text (spellings (all_statements with_order with_sides p) ++ last_line ∷ []) ≡ (shape_texts ++ (object_texts ++ (macro_texts ++ ((order_text ++ sides_text) ++ rule_texts)))) ++ (line_text last_line ++ []) =
    text_both (spellings (all_statements with_order with_sides p)) (last_line ∷ []) ∙ ap (λ (u : List ℕ). u ++ (line_text last_line ++ [])) one in
    let three : (shape_texts ++ (object_texts ++ (macro_texts ++ ((order_text ++ sides_text) ++ rule_texts)))) ++ (line_text last_line ++ [])
    ≡ shape_texts ++ (object_texts ++ (macro_texts ++ (order_text ++ (sides_text ++ (rule_texts ++ line_text last_line))))) = simp (append_assoc, append-nil) in
    sym (ap (λ (u : List ℕ). line_text (head_spelling p) ++ u) (two ∙ three))

-- ---- the grammar

lexemes_both : (xs ys : List (List Written)) → all_lexemes (xs ++ ys) ≡ all_lexemes xs ++ all_lexemes ys
lexemes_both [] ys = refl
lexemes_both (x ∷ xs) ys = ap (λ (u : List Written). x ++ u) (lexemes_both xs ys) ∙ sym (append_assoc x (all_lexemes xs) (all_lexemes ys))

spellings_joined : (ls : List Line) → all_lexemes (spellings ls) ≡ joined (λ l. l.1) ls
spellings_joined [] = refl
spellings_joined (l ∷ ls) = ap (λ (u : List Written). l.1 ++ u) (spellings_joined ls)

each_written : (b : Bool) (ls : List Line) → AllOf (LineAgain b) ls → EachWritten (spellings ls ++ last_line ∷ [])
each_written b [] h = ((tt, tt), tt)
each_written b (l ∷ ls) h = (h.0.good, each_written b ls h.1)

module _ (p : ProblemData) (ls : List Line) (h : AllOf (LineAgain (p.version == 2)) ls) (version : p.version ≤ 1000000000) (small : p.dims ≤ 1000000000) where
  -- the version that is read is that of the problem
  version_read : (v : Token) → v.kind ≡ kinds.Number p.version → AllOf (LineAgain (is_second v)) ls
  version_read v e = subst (λ (b : Bool). AllOf (LineAgain b) ls) (sym (ap (λ (k : Kind). number_in k == 2) e)) h

  whole_again : Respelled (λ text. ProblemWords text 64) (λ t. bare_problem_tree t ≡ record { version = int_of (pos p.version); dims = int_of (pos p.dims); statements = map (λ l. l.0) ls }) (head_spelling p ++ (joined (λ l. l.1) ls ++ last_line))
  unfolding ProblemWords
  whole_again = record {
    good = (tt, (version, (tt, (small, written_append (joined (λ l. l.1) ls) last_line (many_good (λ text. StatementWords text 64 (p.version == 2)) (λ l x. bare_statement x ≡ l.0) (λ l. l.1) ls h) (tt, tt)))));
    again = bind_again (tok_again (word keywords.Geost) (a_word keywords.Geost) refl) (λ a ka. bind_again (tok_again numbers (digits p.version) refl) (λ v kv.
        bind_again (tok_again (word keywords.Dims) (a_word keywords.Dims) refl) (λ b kb. bind_again (tok_again numbers (digits p.dims) refl) (λ d kd.
        bind_again (many_again (λ text. StatementWords text 64 (is_second v)) (λ l x. bare_statement x ≡ l.0) (λ l. l.1) ls (version_read v kv)) (λ ss es. last_again (λ e. problem_tree v d ss) (tok_again (word keywords.End) (a_word keywords.End) refl) (λ e ke.
        (λ i. record { version = int_of (pos (number_in (kv i))); dims = int_of (pos (number_in (kd i))); statements = each_map bare_statement (λ l. l.0) ls ss es i })))))));
  }

-- a list of tokens and a tree that they spell
pub record SpelledAgain (with_order with_sides : Bool) (p : ProblemData) : Type 0 where
  pub list : List Token
  pub tree : ProblemTree
  pub tokens : IsTokens (text_stating with_order with_sides p) list
  pub word : ProblemWords (text_stating with_order with_sides p) 64 (Some tree) list
  pub same : bare_problem_tree tree ≡ tree_of with_order with_sides p

pub problem_again : (with_order with_sides : Bool) (p : ProblemData) → CanWriteProblem p → IsWellFormed p → MayState with_order with_sides p → SpelledAgain with_order with_sides p
problem_again with_order with_sides p h well may =
    let ls = all_statements with_order with_sides p in
    let every = all_again with_order with_sides p h well may in
    let lines : List (List Written) = problem_lines with_order with_sides p in
    let text : lines_text lines ≡ text_stating with_order with_sides p = sym (lines_of_problem with_order with_sides p) in
    let head : AllWritten (head_spelling p) = (tt, (h.version, (tt, (h.dims, tt)))) in
    let cut : IsTokens (lines_text lines) (lines_tokens 0 lines) = lines_are_tokens lines (head, each_written (p.version == 2) ls every) in
    let lexemes : all_lexemes lines ≡ head_spelling p ++ (joined (λ l. l.1) ls ++ last_line) =
    ap (λ (u : List Written). head_spelling p ++ u) (lexemes_both (spellings ls) (last_line ∷ []) ∙ (λ i. spellings_joined ls i ++ last_line)) in
    let whole = whole_again p ls every h.version h.dims in
    let x = (same_again (all_lexemes lines) whole.again (sym lexemes)).reads (lines_text lines) (lines_tokens 0 lines) (lines_stand_whole lines) in
    record {
      list = lines_tokens 0 lines;
      tree = x.0;
      tokens = subst (λ (u : List ℕ). IsTokens u (lines_tokens 0 lines)) text cut;
      word = subst (λ (u : List ℕ). ProblemWords u 64 (Some x.0) (lines_tokens 0 lines)) text x.1;
      same = x.2;
    }

-- the canonical text is one of the texts

some_counted : (is : List ℕ) → not (counts_from 0 is) ≡ true → 0 < length is
some_counted [] e = absurd cc
some_counted (i ∷ is) e = omega arith

not_false : (b : Bool) → not b ≡ false → b ≡ true
not_false true e = refl
not_false false e = absurd cc

pub may_state_canonical : (p : ProblemData) → MayState (needs_order p) (needs_sides p) p
may_state_canonical p = record { some = some_counted p.order; file_order = not_false (counts_from 0 p.order); low_sides = λ e. e }
