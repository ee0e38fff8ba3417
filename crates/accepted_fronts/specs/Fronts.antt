-- The front part of a problem's text up to its word `end`, which alone spells the problem.
use Rattle.std.specs.Prelude.{◌≡◌, ◌++◌, ℕ, List, length, codes}
use Rattle.geo_tokens.specs.FirstEnd.{IsFirstEnd}
use Rattle.blank_texts.specs.Blank.{IsBlank}
use Rattle.problem_data.specs.Problem.{ProblemData}
use Rattle.problem_data.specs.Accepted.{Accepts}

-- The text is a front part that spells the problem and ends with the first word `end`, and behind
-- it white space and comments.
pub record HasFront (text : List ℕ) (p : ProblemData) : Type 0 where
  pub front : List ℕ
  pub blank : List ℕ
  pub both : text ≡ front ++ blank
  pub spells : Accepts front p
  pub ends : IsFirstEnd text (length front)
  pub behind : IsBlank blank

-- The same of a text with a line feed and more behind it.
pub record HasFrontThere (text more : List ℕ) (p : ProblemData) : Type 0 where
  pub front : List ℕ
  pub blank : List ℕ
  pub both : text ++ (codes "\n" ++ more) ≡ front ++ (blank ++ (codes "\n" ++ more))
  pub spells : Accepts front p
  pub ends : IsFirstEnd (text ++ (codes "\n" ++ more)) (length front)
  pub behind : IsBlank blank

abbrev pub FrontsAreAccepted : Type 0
FrontsAreAccepted = (text : List ℕ) (p : ProblemData) → Accepts text p → HasFront text p

abbrev pub FrontsStay : Type 0
FrontsStay = (text more : List ℕ) (p : ProblemData) → Accepts text p
    → HasFrontThere text more p
