-- What the things and the variables in sight of the program stand for.
use Rattle.std.specs.Prelude.{[], pos}
use Rattle.problem_data.specs.Value as meaning
use Rattle.rule_expand.specs.PlainTruth.{PlainEnv, set_variable}
use Rattle.rule_values.specs.declared.env.Thing.{Thing}
use Rattle.rule_values.specs.declared.env.Thing.TheVariants as things
use Rattle.rule_values.specs.declared.env.Env.{Env}
use Rattle.rule_values.specs.declared.env.Env.TheOpen.{Env-F}
use Rattle.rule_values.specs.declared.env.Env.TheFolds.{fold-Env}

abbrev pub thing_view : Thing → meaning.Thing
thing_view things.Nothing = meaning.Number (pos 0)
thing_view (things.Object o) = meaning.Object o
thing_view (things.Part b) = meaning.Part b.now

abbrev pub env_layer : Env-F PlainEnv → PlainEnv
env_layer Env-F.Empty = []
env_layer (Env-F.More outer v thing) = set_variable v (thing_view thing) outer.now

abbrev pub env_view : Env → PlainEnv
env_view = fold-Env PlainEnv env_layer
