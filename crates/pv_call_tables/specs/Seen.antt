-- The code's chains as plain data.
use Rattle.pv_call_tables.specs.declared.chains.Chains.{Chains as CodeChains}
use Rattle.pv_call_tables.specs.Chains.{Chains}

abbrev pub chains_seen : CodeChains → Chains
chains_seen c = record { heads = c.heads.items; nexts = c.nexts.items }
