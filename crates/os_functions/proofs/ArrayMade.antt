-- The laws of arrays.
use Rattle.os_functions.specs.MemoryLaws.{ArrayLaws}
use Rattle.os_functions.proofs.ArrayRuns.{new_error_law, new_asks_law}
use Rattle.os_functions.proofs.NewArray.{made_new}
use Rattle.os_functions.proofs.DisposeArray.{made_old}

pub law : ArrayLaws
law = record {
  new = λ p s h a. made_new p h s a;
  new_error = λ p s. new_error_law p s;
  new_asks = λ p s. new_asks_law p s;
  dispose = λ p s h d. made_old p h s d;
}
