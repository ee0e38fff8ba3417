-- The text of a derivation is its lines and a line feed.
use Rattle.std.proofs.Common.{◌≡◌, ◌∙◌, ℕ, ◌-◌, List, [], ◌∷◌, ◌++◌, length, take, sym, ap, subst, append_assoc, length-append, codes, arith}
use Rattle.std.specs.Str.{IsAscii}
use Rattle.std.proofs.lemmas.List.{take_at}
use Rattle.geo_tokens.specs.Names.{NameTable, IsNameTable}
use Rattle.geo_conditions.specs.declared.cond.Cond.{Cond}
use Rattle.derivation.specs.declared.event.Event.{Event}
use Rattle.derivation_text.specs.Lines.{derivation_text, lines_of}
use Rattle.printed_derivation.specs.Printable.{IsPrintable}
use Rattle.problem_data.specs.Problem.{ProblemData}
use Rattle.problem_text.specs.NameTable.{name_table}
use Rattle.search_commands.specs.First.{ShowsNone}
use Rattle.json_search_commands.specs.FirstJson.{SaysNoneJson, none_line}
use Rattle.json_search_commands.proofs.AsciiLines.{unended_ascii}

unended : NameTable → List Event → List ℕ
unended n es = lines_of n 0 es ++ codes "qed"

ended : (n : NameTable) (es : List Event) → derivation_text n es ≡ unended n es ++ 10 ∷ []
unfolding unended
ended n es = sym (append_assoc (lines_of n 0 es) (codes "qed") (10 ∷ []))

popped : (n : NameTable) (es : List Event) (text : List ℕ) (size : ℕ) (rest : List ℕ) → text ≡ derivation_text n es → size ≡ length text → rest ≡ take (size - 1) text → rest ≡ unended n es
popped n es text size rest e whole is =
    let own = unended n es in
    is ∙ ap (λ (k : ℕ). take (k - 1) text) whole ∙ ap (λ (t : List ℕ). take (length t - 1) t) (e ∙ ended n es) ∙ take_at own (10 ∷ []) (length (own ++ 10 ∷ []) - 1) (let all = length-append own (10 ∷ []) in omega (arith, all))

pub lines_left : (n : NameTable) (es : List Event) (text : List ℕ) (size : ℕ) (rest : List ℕ) → text ≡ derivation_text n es → size ≡ length text → rest ≡ take (size - 1) text → derivation_text n es ≡ rest ++ 10 ∷ []
lines_left n es text size rest e whole is = ended n es ∙ ap (λ (t : List ℕ). t ++ 10 ∷ []) (sym (popped n es text size rest e whole is))

pub ascii_left : (n : NameTable) (es : List Event) (text : List ℕ) (size : ℕ) (rest : List ℕ) → IsNameTable n → IsPrintable n es → text ≡ derivation_text n es → size ≡ length text → rest ≡ take (size - 1) text → IsAscii rest
unfolding unended
ascii_left n es text size rest table h e whole is = subst IsAscii (sym (popped n es text size rest e whole is)) (unended_ascii n table es h)

-- what is written of them says that there is no layout
pub says_none : (p : ProblemData) (cs : List Cond) (n : NameTable) (es : List Event) (lines all text : List ℕ) → n ≡ name_table p → ShowsNone p cs es → derivation_text n es ≡ lines ++ 10 ∷ [] → all ≡ lines → text ≡ none_line all → SaysNoneJson p cs text
says_none p cs n es lines all text same shows is e says = record {
  lines = lines;
  shows = record { events = es; shows = shows; is = subst (λ (m : NameTable). derivation_text m es ≡ lines ++ 10 ∷ []) same is };
  says = says ∙ ap none_line e;
}
