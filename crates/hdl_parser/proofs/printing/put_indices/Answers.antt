use Rattle.grammar.proofs.Shown.{shows_absent, shows_present, shows_both, shows_mark, shows_word, shows_inside}
use Rattle.hdl_parser.proofs.printing.put_indices.Goals as goal

pub returns-in-Bit : goal.returns-in-Bit
returns-in-Bit g c = rw c.in-Bit.is (shows_inside (shows_both (shows_word c.put_number.ensures) shows_absent))

pub returns-in-Bits : goal.returns-in-Bits
returns-in-Bits g c = rw c.in-Bits.is (shows_inside (shows_both (shows_word c.put_number-begun.ensures) (shows_present (shows_both (shows_mark c.put_token-dotted.ensures) (shows_word c.put_number-in-Bits.ensures)))))
