use Rattle.std.proofs.Common.{◌≡◌, ◌+◌, length}
use Rattle.scan_text.specs.Text.{front}
use Rattle.jack_lexer.specs.Tokens.{is_text_byte}
use Rattle.jack_lexer.proofs.lexer.text_len.Given as goal

abbrev pub invariant-loop-byte : goal.invariant-loop-byte
invariant-loop-byte l = record {
  within : l.n + length l.rest ≡ length l.bytes;
  longest : l.n + length (front is_text_byte l.rest) ≡ length (front is_text_byte l.bytes);
}

abbrev pub decreases-loop-byte : goal.decreases-loop-byte
decreases-loop-byte l = length l.rest
