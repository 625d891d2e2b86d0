-- The kernel's subroutines, with their names resolved, by computation.
use Rattle.std.proofs.Common.{refl}
use Rattle.os_laws.specs.NameLaws.{KernelLaw}

pub law : KernelLaw
law = record {
  multiply = λ all own statics fields c. refl;
  divide = λ all own statics fields c h. rw h refl;
  init = λ all own statics fields free c h. rw (h.1, h.2) refl;
  alloc = λ all own statics fields free c n h. rw (n, h.1, h.2) refl;
  deAlloc = λ all own statics fields free c h. rw (h.1, h.2) refl;
}
