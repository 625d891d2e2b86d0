use Rattle.std.proofs.Common.{false, lit≤}
use Rattle.soak_laws.specs.Named.{folder_of}
use Rattle.soak_laws.proofs.meant_law.Goals as goal

pub returns : goal.returns
returns c = λ s t text k h spells.
    let os = c.system_law.ensures in
    c.program_law.ensures false (folder_of k) os.classes (lit≤ tt) ((text, spells), tt) os.are (c.named_law.ensures s t text k os.classes h spells os.are)
