-- What is replied where a problem may have no layout.
use Rattle.std.specs.Prelude.{◌++◌, ℕ, List}
use Rattle.command_input.specs.declared.command.Status.{Status}
use Rattle.command_reply.specs.Reply.{IsSaid}
use Rattle.derivation_text.specs.Lines.{AreNamed}
use Rattle.printed_derivation.specs.Laws.{printed}
use Rattle.search_commands.specs.declared.search_reply.SearchReply.{SearchReply}
use Rattle.search_commands.specs.declared.search_reply.SearchReply.TheVariants.{Text, Refuted}

abbrev pub search_says : SearchReply → List ℕ → Status → Type 0
search_says (Text r) = IsSaid r.text.items r.status
search_says (Refuted r refutation) = IsSaid (r.text.items ++ printed refutation.names refutation.log.events) r.status

-- what a derivation speaks of has a name
abbrev pub is_search_ready : SearchReply → Type 0
is_search_ready (Text r) = Unit {0}
is_search_ready (Refuted r refutation) = AreNamed refutation.names 0 refutation.log.events
