-- What `link` answers.
use Rattle.std.specs.Prelude.{◌≡◌, Bool, List, Some, None, Result, Ok, Err, length}
use Rattle.vm_tree.specs.declared.program.File.{File}
use Rattle.vm_link.specs.declared.fault.LinkFault.{LinkFault}
use Rattle.vm_link.specs.declared.fault.LinkFault.TheVariants.{Memory}
use Rattle.vm_link.specs.declared.linked.Linked.{Linked}
use Rattle.vm_link.specs.Sections.{Section, sections}
use Rattle.vm_link.specs.Faults.{text_fault, kept_fault}
use Rattle.vm_link.specs.Reached.{AreKept}
use Rattle.vm_link.specs.Resolved.{linked_of}

-- The answer for a program: the first fault of its text, or else of what is kept of it, or else its linked code.
-- Which sections are kept is settled by the program, so each program has one answer but for want of memory.
pub data Links (bare : Bool) (files : List File) : Result Linked LinkFault → Type 0 where
  memory : Links bare files (Err Memory)
  faulty : {f : LinkFault} → text_fault bare (sections bare files) ≡ Some f → Links bare files (Err f)
  kept_faulty : {f : LinkFault} (kept : List Section) → text_fault bare (sections bare files) ≡ None → AreKept bare (sections bare files) kept
      → kept_fault (length files) (sections bare files) kept ≡ Some f → Links bare files (Err f)
  whole : {l : Linked} (kept : List Section) → text_fault bare (sections bare files) ≡ None → AreKept bare (sections bare files) kept
      → kept_fault (length files) (sections bare files) kept ≡ None → l ≡ linked_of bare files kept → Links bare files (Ok l)
