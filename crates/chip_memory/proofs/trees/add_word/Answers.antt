use Rattle.chip_memory.proofs.trees.add_word.Goals as goal

pub returns : goal.returns
returns c =
    rw (c.in_ok-add_part.ensures, c.wire.ensures, c.wire-2.ensures, c.as_bytes.ensures, c.wire-3.ensures, c.as_bytes-2.ensures, c.in_ok-load.ensures, c.in_ok-word.ensures)
