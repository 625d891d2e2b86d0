use Rattle.jack_core.specs.Texts.{the_subroutines}
use Rattle.os_laws.specs.Names.{names_in, error_number}
use Rattle.os_laws.specs.NameLaws.{numbers_of}
use Rattle.os_laws.proofs.HeapRuns.{holds}
use Rattle.os_laws.proofs.NamedKernel.{is_init, is_alloc, is_deAlloc}
use Rattle.os_laws.proofs.names.heap_run_law.Goals as goal

pub returns : goal.returns
returns c = λ core k s live u.
    holds (the_subroutines core) (numbers_of k) (names_in k.init).own (names_in k.alloc).own (names_in k.deAlloc).own (error_number (names_in k.alloc))
    (is_init core k.init k.free k.init_free) (is_alloc core k.alloc k.free k.alloc_errs k.alloc_free) (is_deAlloc core k.deAlloc k.free k.deAlloc_free) u
