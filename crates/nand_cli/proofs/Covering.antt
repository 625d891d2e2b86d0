-- The points of a built program and its routines have each address of its image.
use Rattle.std.proofs.Common.{refl, sym, subst}
use Rattle.hack_isa.specs.Table.{word_of}
use Rattle.jack_core.specs.declared.program.Core.{Core}
use Rattle.vm_link.proofs.Marking.{length_mapped}
use Rattle.vm_translator.specs.Image.{image_of, shared_at, shared_ranges}
use Rattle.image_map.specs.declared.map.Image.{Image}
use Rattle.image_map.specs.Map.{CoversShared}
use Rattle.vm_translator.proofs.Covered.{covers}
use Rattle.vm_translator.proofs.Instructed.{shared_covers_as}
use Rattle.tower.specs.Image.{IsImageOf}
use Rattle.nand_cli.specs.Commands.Map.{HasEachAddress}

pub covered : (core : Core) (b : Image) → IsImageOf core b → HasEachAddress b
covered core b is =
    let l = is.linked in
    subst HasEachAddress (sym is.is_image) (record {
      mapped = shared_at l;
      points = covers l;
      shared = subst (CoversShared (shared_at l) (shared_ranges l)) (sym (length_mapped word_of (image_of l))) (shared_covers_as l (image_of l) (shared_ranges l) refl refl);
    })
