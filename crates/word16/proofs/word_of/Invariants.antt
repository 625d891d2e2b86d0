-- The bits from place k on are read.
use Rattle.std.proofs.Common.{◌≡◌, drop}
use Rattle.word16.specs.Words.{number_of}
use Rattle.word16.proofs.word_of.Given as goal

abbrev pub invariant-loop-k : goal.invariant-loop-k
invariant-loop-k l = l.word ≡ number_of (drop l.k l.bits)
