-- A name that no shipped chip has is refused.
use Rattle.std.proofs.Common.{◌≡◌, ℕ, List, None, Err, refl, subst}
use Rattle.hack_cpu.specs.Library.{shipped_chips}
use Rattle.hdl_tree.specs.Chips.{find_entry}
use Rattle.hdl_tree.specs.declared.library.Entry.{Entry}
use Rattle.source_files.specs.Loads.{Loads, Refused}
use Rattle.source_files.specs.declared.error.LoadError.{LoadError}
use Rattle.source_files.proofs.Told.{told}
use Rattle.nand_cli.specs.Commands.Chip.{ChipRefuses, IsShipped, unknown_chip}

pub none_shipped : (entries : List Entry) (name : List ℕ) (e : LoadError) → entries ≡ shipped_chips → find_entry entries name ≡ None → Refused name (unknown_chip name) e
    → Loads (λ (entry : Entry). IsShipped name entry) (ChipRefuses name) ⊥ (Err e)
none_shipped entries name e is none h =
    told (λ (entry : Entry). IsShipped name entry) (ChipRefuses name) ⊥ name (unknown_chip name) e (subst (λ (es : List Entry). find_entry es name ≡ None) is none, refl) h
