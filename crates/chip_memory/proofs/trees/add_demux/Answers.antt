use Rattle.chip_memory.proofs.trees.add_demux.Goals as goal

pub returns : goal.returns
returns c =
    rw (c.in_ok-add_part.ensures, c.wire.ensures, c.wire-2.ensures, c.wire-3.ensures, c.wire-4.ensures, c.wire-5.ensures, c.wire-6.ensures, c.wire-7.ensures, c.wire-8.ensures, c.wire-9.ensures)
