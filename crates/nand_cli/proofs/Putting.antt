-- A text that is put after another.
use Rattle.std.proofs.Common.{◌++◌, [], ℕ, List, ◌∙◌}
use Rattle.outer_world.specs.State.{SinkState}
use Rattle.outer_world.specs.Written.{Puts}
use Rattle.outer_world.specs.declared.sink.Put.{Put}
use Rattle.outer_world.specs.declared.sink.Put.TheVariants as put
use Rattle.outer_world.proofs.Passing.{CountsPut-then, Got-then, Passes-cut, Passes-put, Puts-failed}
use Rattle.nand_cli.proofs.Saying.{Got-then-part}

pub puts_then : (a b c : SinkState) (s t : List ℕ) (r : Put) → Puts a b s put.Done → Puts b c t r → Puts a c (s ++ t) r
puts_then a b c s t put.Done h k = record { bytes = Got-then a.written b.written c.written s t h.bytes k.bytes; counts = k.counts ∙ h.counts }
puts_then a b c s t put.Failed h k = record {
  bytes = Got-then-part a.written b.written c.written s t h.bytes k.bytes;
  counts = CountsPut-then a.faults b.faults c.faults put.Failed h.counts k.counts;
}

pub puts_cut : (a b : SinkState) (s t : List ℕ) → Puts a b s put.Failed → Puts a b (s ++ t) put.Failed
puts_cut a b s t h = Puts-failed a b [] (s ++ t) (Passes-cut a b [] [] s t (Passes-put a b [] s put.Failed h))
