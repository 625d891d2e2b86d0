-- The last expression is filled with the bytes so far.
use Rattle.std.proofs.Common.{take}
use Rattle.jack_names.specs.Made.{filled_characters}
use Rattle.jack_names.specs.Inner.Pushed.{Turns}
use Rattle.jack_names.proofs.meant.push_bytes.Given as goal

abbrev pub invariant-loop-byte : goal.invariant-loop-byte
invariant-loop-byte l = Turns (λ e. filled_characters l.append e (take l.byte-index l.text)) l.fn.parts.items l.parts.items
