-- What a case says beside its program.
use Rattle.std.specs.Prelude.{ℕ}
use Rattle.pv_valid.specs.declared.facts.Facts.{Facts}
use Rattle.pv_bool_judged.specs.declared.setting.Setting.{Setting}

abbrev pub setting_of : Facts → ℕ → Setting
setting_of facts gates = record {
  goal = facts.goal;
  looks_back = facts.looks_back;
  depth = facts.depth;
  lemmas = facts.lemmas;
  words = facts.words;
  gates = gates;
}
