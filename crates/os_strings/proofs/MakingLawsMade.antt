-- The laws of strings made and given back.
use Rattle.os_strings.specs.MakingLaws.{MakingLaws}
use Rattle.os_strings.proofs.MakingMade.{new_law, new_empty_law, new_error_law, new_full_law}
use Rattle.os_strings.proofs.DisposingMade.{dispose_law}

pub law : MakingLaws
law = record {
  new = λ p h s max. new_law p h s max;
  new_empty = λ p h s max. new_empty_law p h s max;
  new_error = λ p h s max. new_error_law p h s max;
  new_full = λ p h s max. new_full_law p h s max;
  dispose = λ p h s o text room. dispose_law p h s o text room;
}
