-- Up to its word `end` the text of a problem is a text of the same problem.
use Rattle.std.proofs.Common.{◌≡◌, ℕ, ◌+◌, ◌≤◌, List, [], ◌∷◌, ◌++◌, length, take, drop, Some, sym, ap, ◌∙◌, subst, append_assoc, arith}
use Rattle.std.specs.Prelude.{codes}
use Rattle.std.proofs.lemmas.List.{length-append, length-take}
use Rattle.geo_tokens.specs.declared.token.Token.{Token}
use Rattle.geo_tokens.specs.declared.token.Kind.{Kind}
use Rattle.geo_tokens.specs.declared.token.Kind.TheVariants as kinds
use Rattle.geo_tokens.specs.declared.token.Keyword.TheVariants as keywords
use Rattle.geo_tokens.specs.Cut.{IsToken, IsReserved, Cut, IsTokens}
use Rattle.geo_tokens.specs.Deep.{Spells}
use Rattle.geo_tokens.specs.FirstEnd.{first_word, IsFirstEnd}
use Rattle.geo_tokens.proofs.Cuts.{token_of, token_more}
use Rattle.geo_tokens.proofs.Fronts.{token_inside}
use Rattle.blank_texts.specs.Blank.{IsBlank}
use Rattle.blank_texts.proofs.Lines.{first_end_stays}
use Rattle.blank_texts.proofs.Moved.{gaps_back}
use Rattle.problem_data.specs.Problem.{ProblemData}
use Rattle.problem_data.specs.Tree.{ProblemTree}
use Rattle.problem_data.specs.Grammar.{ProblemWords}
use Rattle.problem_data.specs.Whole.{IsWhole}
use Rattle.problem_data.specs.Accepted.{most_bytes, Says, Accepts}
use Rattle.accepted_fronts.specs.Fronts.{HasFront, HasFrontThere}
use Rattle.accepted_fronts.proofs.Alike.{AreSame}
use Rattle.accepted_fronts.proofs.Closing.{EndsThere, problem_closing}
use Rattle.accepted_fronts.proofs.Cuts.{cut_front, tokens_same, cut_before, HasLast, has_last}
use Rattle.accepted_fronts.proofs.Passing.{plain_passes}

-- ---- the same tokens in two texts

same_back : (text other : List ℕ) (ts : List Token) → AreSame text other ts → AreSame other text ts
same_back text other [] h = tt
same_back text other (t ∷ ts) h = (sym h.0, same_back text other ts h.1)

module _ (text other : List ℕ) (list : List Token) (same : AreSame text other list) (tree : ProblemTree) where
  spells_there : Spells (ProblemWords text) tree list → Spells (ProblemWords other) tree list
  spells_there s = (s.0, (problem_closing text other s.0).carry (Some tree) list s.1 same)

  whole_there : IsWhole (ProblemWords text) 64 list tree → IsWhole (ProblemWords other) 64 list tree
  whole_there h = record {
    within = (problem_closing text other 64).carry (Some tree) list h.within same;
    text = record {
      spells = spells_there h.text.spells;
      only = λ b s. h.text.only b (s.0, (problem_closing other text s.0).carry (Some b) list s.1 (same_back text other list same));
    };
  }

-- ---- the word `end`

end_word : (k : Kind) (n : ℕ) (bytes : List ℕ) → k ≡ kinds.Word keywords.End → IsToken k n bytes → (first_word bytes ≡ codes "end") × (n ≡ 3)
end_word k n bytes e h =
    let r : IsReserved keywords.End n bytes = subst (λ (j : Kind). IsToken j n bytes) e h in
    let i = token_inside k n bytes h in
    let size : length (take n bytes) ≡ 3 = ap length r.spelled in
    (sym (ap (λ (m : ℕ). take m bytes) r.form.longest) ∙ r.spelled, omega (arith, size, i.1, length-take n bytes))

module _ (text : List ℕ) (p : ProblemData) (a : Accepts text p) where
  abbrev ends : EndsThere a.says.list
  ends = (problem_closing text text 64).ends a.tree a.says.list a.says.spells.within

  abbrev parts : HasLast (length text) [] 0 text ends.front ends.last
  parts = has_last (length text) [] ends.last 0 text a.says.list a.says.tokens ends.front ends.both

  -- where the word ends, and what stands behind it
  abbrev place : ℕ
  place = ends.last.start + parts.size

  abbrev behind : List ℕ
  behind = drop parts.size parts.at

  front_cut : Cut place behind 0 text a.says.list
  front_cut =
      let t : token_of ends.last.kind ends.last.start parts.size ≡ ends.last = ap (λ (m : ℕ). let u : Token = record { kind = ends.last.kind; start = ends.last.start; end = m } in u) (sym parts.ends) in
      let list : ends.front ++ token_of ends.last.kind ends.last.start parts.size ∷ [] ≡ a.says.list = ap (λ (u : Token). ends.front ++ u ∷ []) t ∙ sym ends.both in
      subst (Cut place behind 0 text) list (token_more ends.last.start parts.size parts.at ends.last.kind parts.token 0 text ends.front parts.before)

  abbrev cut : (xs : List ℕ) × (text ≡ xs ++ behind) × (0 + length xs ≡ place)
  cut = cut_front place behind 0 text a.says.list front_cut

  abbrev front : List ℕ
  front = cut.0

  far : length front ≡ place
  far = let e : 0 + length front ≡ place = cut.2 in omega arith

  size : length text ≡ length front + length behind
  size = ap length cut.1 ∙ length-append front behind

  tokens_front : IsTokens front a.says.list
  tokens_front = subst (λ (m : ℕ). Cut m [] 0 front a.says.list) (sym far) (cut_before behind place 0 text a.says.list front_cut front cut.1 cut.2)

  same_front : AreSame text front a.says.list
  same_front = subst (λ (u : List ℕ). AreSame u front a.says.list) (sym cut.1) (tokens_same place behind front behind (let e : length front ≡ place = far in omega arith) 0 text a.says.list front_cut)

  says_front : Says front a.tree
  says_front = record {
    short = (let all : length text ≤ most_bytes = a.says.short in omega (arith, size));
    list = a.says.list;
    tokens = tokens_front;
    spells = whole_there text front a.says.list same_front a.tree a.says.spells;
  }

  end_there : IsFirstEnd text (length front)
  end_there =
      let w = end_word ends.last.kind parts.size parts.at ends.word parts.token in
      record {
        place = ends.last.start;
        rest = parts.at;
        before = plain_passes ends.last.start parts.at 0 text ends.front parts.before ends.plain;
        word = w.0;
        behind_word = far ∙ ap (λ (m : ℕ). ends.last.start + m) w.1;
      }

  blank_there : IsBlank behind
  blank_there =
      let at : place ≡ place + 0 = omega arith in
      let all : length text ≡ place + length behind = omega (arith, size, far) in
      gaps_back place (length text) [] (length behind) place 0 behind parts.behind at all

  pub has_front : HasFront text p
  has_front = record {
    front = front;
    blank = behind;
    both = cut.1;
    spells = record { tree = a.tree; says = says_front; right = a.right; means = a.means };
    ends = end_there;
    behind = blank_there;
  }

  pub has_front_there : (more : List ℕ) → HasFrontThere text more p
  has_front_there more =
      let h : HasFront text p = has_front in
      record {
        front = h.front;
        blank = h.blank;
        both = ap (λ (u : List ℕ). u ++ (10 ∷ more)) h.both ∙ append_assoc h.front h.blank (10 ∷ more);
        spells = h.spells;
        ends = first_end_stays more text (length h.front) h.ends;
        behind = h.behind;
      }
