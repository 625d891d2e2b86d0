-- Each shipped chip can be printed, by computation; and so can one that is found.
use Rattle.std.proofs.Common.{◌≡◌, ℕ, true, List, Some, refl}
use Rattle.hdl_tree.specs.Chips.{find_entry}
use Rattle.hdl_tree.specs.Writable.{chip_can}
use Rattle.hdl_tree.specs.declared.library.Entry.{Entry}
use Rattle.hdl_behaviours.proofs.Clean.{find_in}
use Rattle.hdl_behaviours.proofs.Levels.{all_at}
use Rattle.hack_cpu.specs.Library.{TextsLaw, shipped_chips}
use Rattle.hack_cpu.proofs.Opened.{opened}

pub all_printed : TextsLaw
unfolding opened
all_printed = refl

pub found_printed : (name : List ℕ) (entry : Entry) → find_entry shipped_chips name ≡ Some entry → chip_can entry.chip ≡ true
found_printed name entry found =
    let r = find_in shipped_chips name entry found in
    all_at (λ (e : Entry). chip_can e.chip) shipped_chips all_printed r.place entry r.there
