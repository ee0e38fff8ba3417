use Rattle.std.proofs.Common.{length}
use Rattle.problem_text.proofs.names.+any_optional.Given as goal

abbrev pub decreases-any_optional : goal.decreases-any_optional
decreases-any_optional l = length l.objects.now
