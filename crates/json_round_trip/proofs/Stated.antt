-- The text that a problem's sheet spells is the canonical text of the problem, with the sides
-- stated, and the search order too where there is an object.
use Rattle.std.proofs.Common.{◌≡◌, ℕ, zero, suc, ◌<◌, List, [], ◌∷◌, ◌++◌, map, length, get_or, Bool, true, false, ◌-◌, ◌==◌, ◌||◌, Option, Some, refl, sym, ap, ◌∙◌, subst, append_assoc, append-nil, arith}
use Rattle.std.specs.Prelude.{flat_map, if◌then◌else◌}
use Rattle.geo_tokens.specs.declared.token.Keyword.TheVariants as keywords
use Rattle.geo_tokens.specs.declared.token.Sym.TheVariants as syms
use Rattle.geo_tokens.specs.Class.{word_bytes}
use Rattle.rule_print.specs.Canonical.{Written, name, word, symbol, spelling, gap, shown_behind, shown}
use Rattle.rule_print.specs.Spelled.{in_list}
use Rattle.rule_print.proofs.Respelled.{AllOf}
use Rattle.problem_data.specs.Problem.{ObjectData, MacroData, RuleData, ProblemData}
use Rattle.problem_data.specs.declared.tree.Side.{Side}
use Rattle.problem_text.specs.Canonical.{listed, more_listed, name_spelling, pieces_spelling, attributes_spelling, param_spelling, body_spelling, demand_spelling, closed, name_at, shape_names, object_names, absent_spelling, shape_spelling, object_spelling, macro_spelling, rule_spelling, order_spelling, sides_spelling, head_spelling, line_if, line_text}
use Rattle.problem_text.specs.NameTable.{absent_names}
use Rattle.problem_data.specs.Accepted.{IsSaid}
use Rattle.problem_data.specs.SomeRules.{no_rule, numbered, HasNumbers}
use Rattle.problem_data.specs.WellFormed.{IsWellFormed}
use Rattle.problem_data.proofs.Accepted.{accepted_well_formed}
use Rattle.problem_data.proofs.SomeRules.{well_formed_kept}
use Rattle.problem_text.proofs.PrintingParts.{IsSome}
use Rattle.problem_text.proofs.SaysAgain.{says_of, says_written}
use Rattle.problem_text.proofs.PrintingStatements.{CanWriteObject, CanWriteRule}
use Rattle.problem_text.proofs.PrintingProblem.{CanWriteProblem}
use Rattle.json_sheets.specs.SheetText.{object_line, macro_line, rule_line, order_line, lines, line_where_some, sheet_text}
use Rattle.geo_json.specs.SheetOf.{object_sheet_of, macro_text, rule_sheet_of, sheet_of}
use Rattle.json_round_trip.specs.Stated.{has_objects, stated_text}
use Rattle.json_round_trip.proofs.Ends.{StartsApart, macro_rests, demand_rests, demand_starts, shown_closed}

-- a line of each, where they are those of other things
lines_alike : {A B : Type 0} (P : A → Type 0) (f : A → B) (line : B → List Written) (own : A → List Written) → ((x : A) → P x → line_text (line (f x)) ≡ line_text (own x)) → (xs : List A) → AllOf P xs
    → lines line (map f xs) ≡ flat_map (λ x. line_text (own x)) xs
lines_alike P f line own same [] h = refl
lines_alike P f line own same (x ∷ xs) h = λ i. same x h.0 i ++ lines_alike P f line own same xs h.1 i

-- ---- macros and rules

macro_alike : (m : MacroData) → line_text (macro_line (macro_text m)) ≡ line_text (macro_spelling m)
macro_alike m =
    let params : List Written = in_list (listed param_spelling m.params) in
    let rest : List Written = params ++ body_spelling m.body in
    let end : List ℕ = 32 ∷ 59 ∷ [] in
    let whole : shown_behind (Some (name m.name)) (params ++ closed (body_spelling m.body)) ≡ shown_behind (Some (name m.name)) rest ++ end =
    ap (shown_behind (Some (name m.name))) (sym (append_assoc params (body_spelling m.body) (symbol syms.Semicolon ∷ []))) ∙ shown_closed (name m.name) rest (macro_rests (listed param_spelling m.params) m.body) in
    ap (λ (u : List ℕ). (word_bytes keywords.Macro ++ (32 ∷ u)) ++ 10 ∷ []) (append_assoc m.name (shown_behind (Some (name m.name)) rest) end ∙ ap (λ (u : List ℕ). m.name ++ u) (sym whole))

-- lexemes behind a colon, and their text behind it
piece_alike : (qs : List Written) → StartsApart qs → shown_behind (Some (symbol syms.Colon)) qs ≡ 32 ∷ shown qs
piece_alike [] h = absurd h
piece_alike (q ∷ qs) h = ap (λ (b : Bool). (if (b || false) then [] else 32 ∷ []) ++ (spelling q ++ shown_behind (Some q) qs)) h

rule_alike : (r : RuleData) → CanWriteRule r → line_text (rule_line (rule_sheet_of r)) ≡ line_text (rule_spelling r)
rule_alike r h =
    let body : List Written = demand_spelling r.demand in
    let whole : shown_behind (Some (symbol syms.Colon)) (closed body) ≡ 32 ∷ (shown body ++ 32 ∷ 59 ∷ []) =
    shown_closed (symbol syms.Colon) body (demand_rests r.demand) ∙ ap (λ (u : List ℕ). u ++ 32 ∷ 59 ∷ []) (piece_alike body (demand_starts r.demand h.demand)) in
    ap (λ (u : List ℕ). (word_bytes keywords.Rule ++ (32 ∷ (r.name ++ (32 ∷ 58 ∷ u)))) ++ 10 ∷ []) (sym whole)

-- ---- names, and the word `absent` among them

names_alike : (names : List (List ℕ)) (is : List ℕ) → more_listed name_spelling (map (name_at names) is) ≡ more_listed (λ i. name_spelling (name_at names i)) is
names_alike names [] = refl
names_alike names (i ∷ is) = ap (λ (u : List Written). symbol syms.Comma ∷ name (name_at names i) ∷ u) (names_alike names is)

list_alike : (names : List (List ℕ)) (is : List ℕ) → listed name_spelling (map (name_at names) is) ≡ listed (λ i. name_spelling (name_at names i)) is
list_alike names [] = refl
list_alike names (i ∷ is) = ap (λ (u : List Written). name (name_at names i) ∷ u) (names_alike names is)

one_more : (ns : List (List ℕ)) (n : List ℕ) → more_listed name_spelling (ns ++ n ∷ []) ≡ more_listed name_spelling ns ++ symbol syms.Comma ∷ name n ∷ []
one_more [] n = refl
one_more (m ∷ ns) n = ap (λ (u : List Written). symbol syms.Comma ∷ name m ∷ u) (one_more ns n)

-- the word is shown like a name of its bytes
word_alike : (p : Option Written) (ps rest : List Written)
    → shown_behind p (ps ++ symbol syms.Comma ∷ name (word_bytes keywords.Absent) ∷ word keywords.At ∷ rest) ≡ shown_behind p (ps ++ symbol syms.Comma ∷ word keywords.Absent ∷ word keywords.At ∷ rest)
word_alike p [] rest = refl
word_alike p (q ∷ ps) rest = ap (λ (u : List ℕ). gap p q ++ (spelling q ++ u)) (word_alike (Some q) ps rest)

-- ---- objects

abbrev behind_as : List Written → List ℕ
behind_as ps = shown_behind (Some (word keywords.As)) ps

module _ (names : List (List ℕ)) (rest : List Written) where
  abbrev others : List ℕ → List Written
  others is = more_listed (λ i. name_spelling (name_at names i)) is

  shapes_alike : (is : List ℕ) (b : Bool) → 0 < length is
      → behind_as (listed name_spelling (map (name_at names) is ++ absent_names b) ++ word keywords.At ∷ rest) ≡ behind_as ((listed (λ i. name_spelling (name_at names i)) is ++ absent_spelling b) ++ word keywords.At ∷ rest)
  shapes_alike [] b some = absurd (omega arith)
  shapes_alike (i ∷ is) false some =
      ap (λ (u : List (List ℕ)). behind_as (listed name_spelling u ++ word keywords.At ∷ rest)) (append-nil (map (name_at names) (i ∷ is)))
      ∙ ap (λ (u : List Written). behind_as (u ++ word keywords.At ∷ rest)) (list_alike names (i ∷ is) ∙ sym (append-nil (listed (λ k. name_spelling (name_at names k)) (i ∷ is))))
  shapes_alike (i ∷ is) true some =
      let first : Written = name (name_at names i) in
      let mark : Written = symbol syms.Comma in
      let spelled : more_listed name_spelling (map (name_at names) is ++ word_bytes keywords.Absent ∷ []) ≡ others is ++ mark ∷ name (word_bytes keywords.Absent) ∷ [] =
      one_more (map (name_at names) is) (word_bytes keywords.Absent) ∙ ap (λ (u : List Written). u ++ mark ∷ name (word_bytes keywords.Absent) ∷ []) (names_alike names is) in
      ap (λ (u : List Written). behind_as (first ∷ (u ++ word keywords.At ∷ rest))) spelled
      ∙ ap (λ (u : List Written). behind_as (first ∷ u)) (append_assoc (others is) (mark ∷ name (word_bytes keywords.Absent) ∷ []) (word keywords.At ∷ rest))
      ∙ word_alike (Some (word keywords.As)) (first ∷ others is) rest
      ∙ ap (λ (u : List Written). behind_as (first ∷ u)) (sym (append_assoc (others is) (mark ∷ word keywords.Absent ∷ []) (word keywords.At ∷ rest)))

some_shape : (is : List ℕ) → IsSome is → 0 < length is
some_shape [] h = absurd (h refl)
some_shape (i ∷ is) h = omega arith

module _ (second : Bool) (names : List (List ℕ)) where
  object_alike : (o : ObjectData) → CanWriteObject second names o → line_text (object_line (object_sheet_of names o)) ≡ line_text (object_spelling names o)
  object_alike o h =
      ap (λ (u : List ℕ). (word_bytes keywords.Object ++ (32 ∷ (o.name ++ (32 ∷ (word_bytes keywords.As ++ u))))) ++ 10 ∷ [])
      (shapes_alike names (flat_map pieces_spelling o.pieces ++ closed (attributes_spelling o.attributes)) o.shapes o.may_be_absent (some_shape o.shapes h.shapes.some))

-- ---- the search order and the sides

order_alike : (names : List (List ℕ)) (order : List ℕ) → line_where_some order_line (map (name_at names) order) ≡ line_if (has_objects order) (order_spelling names order)
order_alike names [] = refl
order_alike names (i ∷ is) = ap (λ (u : List Written). line_text (word keywords.Order ∷ closed u)) (list_alike names (i ∷ is))

sides_alike : (sides : List Side) → 0 < length sides → line_where_some sides_spelling sides ≡ line_text (sides_spelling sides)
sides_alike [] some = absurd (omega arith)
sides_alike (s ∷ ss) some = refl

-- ---- the text

every : {A : Type 0} (xs : List A) → AllOf (λ x. Unit {0}) xs
every [] = tt
every (x ∷ xs) = (tt, every xs)

written_stated : (p : ProblemData) → CanWriteProblem p → 0 < length p.sides → sheet_text (sheet_of p) ≡ stated_text p
written_stated p h some =
    let names : List (List ℕ) = shape_names p in
    λ i. line_text (head_spelling p) ++ (flat_map (λ s. line_text (shape_spelling s)) p.shapes
    ++ (lines_alike _ (object_sheet_of names) object_line (object_spelling names) (object_alike (p.version == 2) names) p.objects h.objects i
    ++ (lines_alike (λ m. Unit {0}) macro_text macro_line macro_spelling (λ m u. macro_alike m) p.macros (every p.macros) i
    ++ (order_alike (object_names p) p.order i ++ (sides_alike p.sides some i
    ++ (lines_alike CanWriteRule rule_sheet_of rule_line rule_spelling rule_alike p.rules h.rules i ++ line_text (word keywords.End ∷ [])))))))

-- rules that can be written, and those with some numbers among them
one_written : (rs : List RuleData) → AllOf CanWriteRule rs → (i : ℕ) → i < length rs → CanWriteRule (get_or rs i no_rule)
one_written [] h i l = absurd (omega (arith, l))
one_written (r ∷ rs) h zero l = h.0
one_written (r ∷ rs) h (suc i) l = one_written rs h.1 i (omega (arith, l))

kept_written : (rs : List RuleData) → AllOf CanWriteRule rs → (keep : List ℕ) → HasNumbers (length rs) keep → AllOf CanWriteRule (map (numbered rs) keep)
kept_written rs h [] there = tt
kept_written rs h (n ∷ keep) there = (one_written rs h (n - 1) (let m = there 0 0 (omega arith) in omega (arith, m.0, m.1)), kept_written rs h keep (λ k d l. there (suc k) d (omega (arith, l))))

said_written : (p : ProblemData) → IsSaid p → CanWriteProblem p
said_written p s =
    let w = says_written s.said.text s.whole (says_of s.said.text s.whole s.said.accepts) in
    subst CanWriteProblem (sym s.is) (record {
      version = w.version;
      dims = w.dims;
      shapes = w.shapes;
      objects = w.objects;
      macros = w.macros;
      rules = kept_written s.whole.rules w.rules s.keep s.kept.there;
    })

said_well : (p : ProblemData) → IsSaid p → IsWellFormed p
said_well p s = subst IsWellFormed (sym s.is) (well_formed_kept s.whole s.keep s.kept (accepted_well_formed s.said.text s.whole s.said.accepts))

-- the text of the sheet of a problem that is said
pub said_stated : (p : ProblemData) → IsSaid p → sheet_text (sheet_of p) ≡ stated_text p
said_stated p s = let well = said_well p s in written_stated p (said_written p s) (omega (arith, well.some, well.sides))
