-- What a canonical text of several lines is cut into, and what it spells.
use Rattle.std.proofs.Common.{◌≡◌, ℕ, ◌+◌, List, [], ◌∷◌, ◌++◌, length, None, refl, sym, ap, ◌∙◌, subst, append_assoc, arith}
use Rattle.std.proofs.lemmas.List.{length-append}
use Rattle.geo_tokens.specs.declared.token.Token.{Token}
use Rattle.geo_tokens.specs.Cut.{Cut, here, behind_gap, white, IsTokens}
use Rattle.rule_print.specs.Canonical.{Written, shown}
use Rattle.rule_print.proofs.Lexemes.{line_ends}
use Rattle.rule_print.proofs.ShownTokens.{AllWritten, tokens_behind, shown_cut, Stands, shown_stands}
use Rattle.problem_text.specs.Canonical.{line_text}

-- ---- several lines

abbrev pub all_lexemes : List (List Written) → List Written
all_lexemes [] = []
all_lexemes (l ∷ ls) = l ++ all_lexemes ls

abbrev pub lines_text : List (List Written) → List ℕ
lines_text [] = []
lines_text (l ∷ ls) = line_text l ++ lines_text ls

abbrev pub lines_tokens : ℕ → List (List Written) → List Token
lines_tokens e [] = []
lines_tokens e (l ∷ ls) = tokens_behind None e l ++ lines_tokens (e + length (line_text l)) ls

abbrev pub EachWritten : List (List Written) → Type 0
EachWritten [] = Unit {0}
EachWritten (l ∷ ls) = AllWritten l × EachWritten ls

lines_cut : (end e : ℕ) (ls : List (List Written)) → EachWritten ls → e + length (lines_text ls) ≡ end → Cut end [] e (lines_text ls) (lines_tokens e ls)
lines_cut end e [] h q = let same : e ≡ end = sym (omega arith) ∙ q in here e [] [] same refl refl
lines_cut end e (l ∷ ls) h q =
    let size : length (line_text l ++ lines_text ls) ≡ length (line_text l) + length (lines_text ls) = length-append (line_text l) (lines_text ls) in
    let lf : length (line_text l) ≡ length (shown l) + 1 = length-append (shown l) (10 ∷ []) in
    let at : e + length (line_text l) + length (lines_text ls) ≡ end = omega arith in
    let others = lines_cut end (e + length (line_text l)) ls h.1 at in
    let place : e + length (shown l) + 1 ≡ e + length (line_text l) = omega arith in
    let next : Cut end [] (e + length (shown l) + 1) (lines_text ls) (lines_tokens (e + length (line_text l)) ls) = subst (λ (k : ℕ). Cut end [] k (lines_text ls) (lines_tokens (e + length (line_text l)) ls)) (sym place) others in
    let gap : Cut end [] (e + length (shown l)) (10 ∷ lines_text ls) (lines_tokens (e + length (line_text l)) ls) = behind_gap (e + length (shown l)) (10 ∷ lines_text ls) _ 1 (white refl refl) next in
    let bytes : line_text l ++ lines_text ls ≡ shown l ++ (10 ∷ lines_text ls) = append_assoc (shown l) (10 ∷ []) (lines_text ls) in
    subst (λ (v : List ℕ). Cut end [] e v (lines_tokens e (l ∷ ls))) (sym bytes) (shown_cut end [] None e l (10 ∷ lines_text ls) _ h.0 line_ends gap)

-- the text is cut into its lines' tokens
pub lines_are_tokens : (ls : List (List Written)) → EachWritten ls → IsTokens (lines_text ls) (lines_tokens 0 ls)
lines_are_tokens ls h = lines_cut (length (lines_text ls)) 0 ls h (omega arith)

stands_both : (text : List ℕ) (ps qs : List Written) (x y : List Token) → Stands text ps x → Stands text qs y → Stands text (ps ++ qs) (x ++ y)
stands_both text [] qs [] y h g = g
stands_both text [] qs (t ∷ x) y h g = absurd h
stands_both text (p ∷ ps) qs [] y h g = absurd h
stands_both text (p ∷ ps) qs (t ∷ x) y h g = (h.0, h.1, stands_both text ps qs x y h.2 g)

lines_stand : (text before : List ℕ) (e : ℕ) (ls : List (List Written)) → e ≡ length before → text ≡ before ++ lines_text ls → Stands text (all_lexemes ls) (lines_tokens e ls)
lines_stand text before e [] l q = tt
lines_stand text before e (p ∷ ls) l q =
    let at : text ≡ before ++ (shown p ++ (10 ∷ lines_text ls)) = q ∙ ap (λ (u : List ℕ). before ++ u) (append_assoc (shown p) (10 ∷ []) (lines_text ls)) in
    let next : text ≡ (before ++ line_text p) ++ lines_text ls = q ∙ sym (append_assoc before (line_text p) (lines_text ls)) in
    let place : e + length (line_text p) ≡ length (before ++ line_text p) = omega (arith, length-append before (line_text p)) in
    stands_both text p (all_lexemes ls) (tokens_behind None e p) (lines_tokens (e + length (line_text p)) ls)
    (shown_stands text before None e p (10 ∷ lines_text ls) l at) (lines_stand text (before ++ line_text p) (e + length (line_text p)) ls place next)

pub lines_stand_whole : (ls : List (List Written)) → Stands (lines_text ls) (all_lexemes ls) (lines_tokens 0 ls)
lines_stand_whole ls = lines_stand (lines_text ls) [] 0 ls refl refl
