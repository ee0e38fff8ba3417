-- What `check_best` answers.
use Rattle.std.specs.Prelude.{ℕ, ℤ, List}
use Rattle.command_input.specs.declared.command.Status.{Status}
use Rattle.command_input.specs.declared.command.Status.TheVariants.{BadDimension}
use Rattle.command_reply.specs.Dimension.{HasFewerDimensions, IsFirst}
use Rattle.command_reply.specs.Question.{Question}
use Rattle.check_commands.specs.Check.{ClaimAnswer, IsDerivable, most_checked}
use Rattle.check_commands.specs.Claims.{none_below}

-- `check_best D E`: as the check that no layout ends below E in the dimension D; a problem with
-- fewer dimensions is answered before the text behind it
abbrev pub CheckBestAnswer : ℕ → ℤ → List ℕ → List ℕ → Status → Type 0
CheckBestAnswer d e input text BadDimension = HasFewerDimensions IsFirst d input text
CheckBestAnswer d e input text status = ClaimAnswer (none_below d e) input text status

abbrev pub check_best_question : ℕ → ℤ → Question
check_best_question d e = record {
  answer = CheckBestAnswer d e;
  differ = λ input status text other. ⊥;
  faultless = IsDerivable (none_below d e);
  most = most_checked;
}
