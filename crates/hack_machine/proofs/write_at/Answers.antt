use Rattle.hack_machine.proofs.Memory.{not_stored}
use Rattle.hack_machine.proofs.write_at.Goals as goal

pub returns-else-at-lt-KEYBOARD-clause-words : goal.returns-else-at-lt-KEYBOARD-clause-words
returns-else-at-lt-KEYBOARD-clause-words c = not_stored _ _ _ c.if-at-lt-KEYBOARD.false
