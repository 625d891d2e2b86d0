use Rattle.std.proofs.Common.{◌≡◌, ◌+◌, length}
use Rattle.script_parser.specs.Tokens.{word_front}
use Rattle.script_parser.proofs.lexer.word_len.Given as goal

abbrev pub invariant-loop-byte : goal.invariant-loop-byte
invariant-loop-byte l = record {
  within : l.n + length l.rest ≡ length l.bytes;
  longest : l.n + length (word_front l.rest) ≡ length (word_front l.bytes);
}

abbrev pub decreases-loop-byte : goal.decreases-loop-byte
decreases-loop-byte l = length l.rest
