use Rattle.std.proofs.Common.{◌≡◌, ℕ, List, map, subst}
use Rattle.std.specs.Prelude.{IfOk}
use Rattle.std.specs.List.{All, Contains}
use Rattle.hdl_tree.specs.declared.library.Entry.{Entry}
use Rattle.script_device.specs.Directory.{part_named}
use Rattle.script_device.specs.declared.directory.PartNodes.{PartNodes}
use Rattle.tst_runner.specs.Directories.{first_part, part_nodes}
use Rattle.tst_runner.proofs.directories.parts_named.Goals as goal

pub returns-clause-first : goal.returns-clause-first
returns-clause-first c =
    let parts = c.args.parts.now in
    subst (λ (es : List Entry). IfOk c.first_parts.result (λ (l : List PartNodes). (name : List ℕ) → part_named l name ≡ first_part es parts name)) c.in_ok-catalog.ensures.entries c.first_parts.ensures.first

pub returns-clause-among : goal.returns-clause-among
returns-clause-among c =
    let parts = c.args.parts.now in
    subst (λ (es : List Entry). IfOk c.first_parts.result (λ (l : List PartNodes). All (Contains (map (part_nodes es) parts)) l)) c.in_ok-catalog.ensures.entries c.first_parts.ensures.among
