-- The texts of a problem are ASCII, since they are spelled with lexemes that can be written.
use Rattle.std.proofs.Common.{◌≡◌, ℕ, zero, suc, ◌-◌, ◌<◌, List, [], ◌∷◌, ◌++◌, length, map, get_or, sym, subst, arith}
use Rattle.std.specs.List.{All}
use Rattle.std.specs.Str.{IsAscii}
use Rattle.std.proofs.lemmas.List.{length-map, get_or-map}
use Rattle.std.proofs.lemmas.Str.Ascii.{IsAscii-nil}
use Rattle.rule_print.specs.Canonical.{name}
use Rattle.rule_print.specs.Spelled.{in_list}
use Rattle.rule_print.proofs.Respelled.{AllOf}
use Rattle.rule_print.proofs.ShownTokens.{written_append}
use Rattle.problem_data.specs.Problem.{AttributeData, ShapeData, ObjectData, MacroData, RuleData, ProblemData}
use Rattle.problem_data.specs.Accepted.{IsWhollySaid, IsSaid}
use Rattle.problem_data.specs.SomeRules.{no_rule, numbered, HasNumbers, AreRules, with_rules}
use Rattle.problem_text.specs.Canonical.{listed, param_spelling, body_spelling, demand_spelling}
use Rattle.problem_text.proofs.PrintingParts.{CanWriteAttribute, params_again, body_again, demand_again}
use Rattle.problem_text.proofs.PrintingStatements.{CanWriteShape, CanWriteObject, CanWriteMacro, CanWriteRule}
use Rattle.problem_text.proofs.SaysAgain.{says_of, says_written}
use Rattle.json_parts.proofs.Words.{name_word, word_ascii}
use Rattle.geo_json.specs.Ascii.{IsAsciiShape, IsAsciiObject, IsAsciiMacro, IsAsciiRule, AreAsciiNames, IsAsciiProblem}
use Rattle.geo_json.proofs.Shown.{shown_ascii}

each : {A : Type 0} (P Q : A → Type 0) → ((a : A) → P a → Q a) → (xs : List A) → AllOf P xs → All Q xs
each P Q f [] h k d l = absurd (omega (arith, l))
each P Q f (x ∷ xs) h zero d l = f x h.0
each P Q f (x ∷ xs) h (suc k) d l = each P Q f xs h.1 k d (omega (arith, l))

names : {A : Type 0} (P : A → Type 0) (own : A → List ℕ) → ((a : A) → P a → IsAscii (own a)) → (xs : List A) → AllOf P xs → AreAsciiNames (map own xs)
names P own f [] h k = IsAscii-nil
names P own f (x ∷ xs) h zero = f x h.0
names P own f (x ∷ xs) h (suc k) = names P own f xs h.1 k

shape_ascii : (s : ShapeData) → CanWriteShape s → IsAsciiShape s
shape_ascii s h = word_ascii s.name (name_word s.name h.name)

attribute_ascii : (a : AttributeData) → CanWriteAttribute a → IsAscii a.name
attribute_ascii a h = word_ascii a.name (name_word a.name h.name)

module _ (second : _) (ns : List (List ℕ)) where
  object_ascii : (o : ObjectData) → CanWriteObject second ns o → IsAsciiObject o
  object_ascii o h = record { name = word_ascii o.name (name_word o.name h.name); attributes = each CanWriteAttribute (λ a. IsAscii a.name) attribute_ascii o.attributes h.attributes }

macro_ascii : (m : MacroData) → CanWriteMacro m → IsAsciiMacro m
macro_ascii m h =
    shown_ascii (name m.name ∷ (in_list (listed param_spelling m.params) ++ body_spelling m.body))
    (h.name, written_append (in_list (listed param_spelling m.params)) (body_spelling m.body) (params_again m.params h.params).good (body_again m.body h.body).good)

rule_ascii : (r : RuleData) → CanWriteRule r → IsAsciiRule r
rule_ascii r h = record { name = word_ascii r.name (name_word r.name h.name); body = shown_ascii (demand_spelling r.demand) (demand_again r.demand h.demand).good }

-- what holds of all that items are seen as
pub seen_all : {A B : Type 0} (P : B → Type 0) (f : A → B) (xs : List A) (ys : List B) → map f xs ≡ ys → All P ys → All (λ x. P (f x)) xs
seen_all P f xs ys e h k d l =
    let all : All P (map f xs) = subst (All P) (sym e) h in
    let size : length (map f xs) ≡ length xs = length-map xs f in
    subst P (get_or-map f xs k d (f d) l) (all k (f d) (omega (arith, l, size)))

whole_ascii : (p : ProblemData) → IsWhollySaid p → IsAsciiProblem p
whole_ascii p s =
    let w = says_written s.text p (says_of s.text p s.accepts) in
    record {
      shapes = each CanWriteShape IsAsciiShape shape_ascii p.shapes w.shapes;
      objects = each _ IsAsciiObject (object_ascii _ _) p.objects w.objects;
      macros = each CanWriteMacro IsAsciiMacro macro_ascii p.macros w.macros;
      rules = each CanWriteRule IsAsciiRule rule_ascii p.rules w.rules;
      shape_names = names CanWriteShape (λ s. s.name) shape_ascii p.shapes w.shapes;
      object_names = names _ (λ o. o.name) (λ o h. (object_ascii _ _ o h).name) p.objects w.objects;
    }

-- what holds of all rules holds of some of them
kept_rules : (P : RuleData → Type 0) (rs : List RuleData) (keep : List ℕ) → HasNumbers (length rs) keep → All P rs → All P (map (numbered rs) keep)
kept_rules P rs keep there all k d l =
    let size : length (map (numbered rs) keep) ≡ length keep = length-map keep (numbered rs) in
    let short : k < length keep = omega (arith, l, size) in
    let within = there k 0 short in
    subst P (sym (get_or-map (numbered rs) keep k 0 d short)) (all (get_or keep k 0 - 1) no_rule (omega (arith, within.0, within.1)))

with_ascii : (p : ProblemData) (keep : List ℕ) → AreRules p keep → IsAsciiProblem p → IsAsciiProblem (with_rules p keep)
with_ascii p keep kept h = record {
  shapes = h.shapes;
  objects = h.objects;
  macros = h.macros;
  rules = kept_rules IsAsciiRule p.rules keep kept.there h.rules;
  shape_names = h.shape_names;
  object_names = h.object_names;
}

pub said_ascii : (p : ProblemData) → IsSaid p → IsAsciiProblem p
said_ascii p s = subst IsAsciiProblem (sym s.is) (with_ascii s.whole s.keep s.kept (whole_ascii s.whole s.said))
