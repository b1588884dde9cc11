use Rattle.std.proofs.Common.{List, map, option_map, bytes_eq, Bor, ap, sym, ◌∙◌}
use Rattle.serde_json.specs.View.{view}
use Rattle.serde_json.specs.declared.value.Value.{Value}
use Rattle.pv_case.specs.Fields.{text_of}
use Rattle.pv_case.specs.Cases.{names_reduction}
use Rattle.pv_case.proofs.Made.{any_made}
use Rattle.pv_case.proofs.making.names_reduction.Goals as goal

pub returns-in-Some : goal.returns-in-Some
returns-in-Some c =
    c.is_named.ensures ∙ any_made (λ d. bytes_eq (text_of d) c.args.name.now) view c.in-Some.items.now
    ∙ ap (λ o. names_reduction (option_map (λ (items : Bor (List Value)). map view items.now) o) c.args.name.now) (sym c.in-Some.is)
