-- What private contracts say of members.
use Rattle.std.specs.Prelude.{ℕ, List, String, string_bytes}
use Rattle.std.specs.declared.alloc.Global.{Global}
use Rattle.serde_json.specs.Data.{Data}
use Rattle.serde_json.specs.View.{view}
use Rattle.serde_json.specs.declared.value.Value.{Value}

abbrev pub pair_of : String Global × Value → List ℕ × Data
pair_of p = (string_bytes p.0, view p.1)
