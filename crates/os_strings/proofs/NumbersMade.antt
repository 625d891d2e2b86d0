-- The laws of strings and numbers.
use Rattle.os_strings.specs.NumberLaws.{NumberLaws}
use Rattle.os_strings.proofs.SettingMade.{set_law, set_error_law}
use Rattle.os_strings.proofs.ValueMade.{value_law}

pub law : NumberLaws
law = record {
  value = λ p s o text room. value_law p s o text room;
  set = λ p s o text room. set_law p s o text room;
  set_error = λ p s o text room. set_error_law p s o text room;
}
