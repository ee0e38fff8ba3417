-- How a fault is named.
use Rattle.std.specs.Prelude.{ℕ, List, codes}
use Rattle.geo_tokens.specs.declared.fault.FaultWord.{FaultWord}
use Rattle.geo_tokens.specs.declared.fault.FaultWord.TheVariants as words

abbrev pub fault_bytes : FaultWord → List ℕ
fault_bytes words.Byte = codes "byte"
fault_bytes words.Number = codes "number"
fault_bytes words.Name = codes "name"
fault_bytes words.Syntax = codes "syntax"
fault_bytes words.Deep = codes "deep"
fault_bytes words.Limit = codes "limit"
fault_bytes words.Twice = codes "twice"
fault_bytes words.Unknown = codes "unknown"
fault_bytes words.Range = codes "range"
fault_bytes words.Size = codes "size"
fault_bytes words.Order = codes "order"
fault_bytes words.Kind = codes "kind"
fault_bytes words.Args = codes "args"
fault_bytes words.Expand = codes "expand"
fault_bytes words.Product = codes "product"
fault_bytes words.Overflow = codes "overflow"
fault_bytes words.Ground = codes "ground"
fault_bytes words.Token = codes "token"
fault_bytes words.Long = codes "long"
