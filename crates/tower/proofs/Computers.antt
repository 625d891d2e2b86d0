-- The computer with the image of a program follows the program's meaning. For its files are linked to the code of the program, and the image does
-- what the code does.
use Rattle.std.proofs.Common.{◌≡◌, ◌≤◌, ℕ, length, Bool, List, [], ◌∷◌, Result, Ok, Err, false, map, refl, sym, subst, ap, arith}
use Rattle.std.specs.Prelude.{IfOk, IfErr, if◌then◌else◌}
use Rattle.hack_isa.specs.Table.{word_of}
use Rattle.hack_isa.specs.declared.Instr.{Instr}
use Rattle.image_map.specs.declared.map.Image.{Image}
use Rattle.image_map.specs.declared.map.ImageMap.{ImageMap}
use Rattle.image_map.specs.Map.{Covers, CoversShared, IsMapped, the_map}
use Rattle.image_map.specs.Computer.{endless_loop}
use Rattle.vm_templates.specs.Templates.{start_size}
use Rattle.vm_tree.specs.declared.program.File.{File}
use Rattle.vm_link.specs.declared.linked.Linked.{Linked}
use Rattle.vm_link.specs.Links.{Links, whole}
use Rattle.vm_link.proofs.Marking.{length_mapped}
use Rattle.vm_link.proofs.SoundLemmas.{sound_if}
use Rattle.vm_translator.specs.Image.{image_of, shared_at}
use Rattle.vm_translator.specs.Places.{base_of}
use Rattle.vm_translator.specs.Translated.{IsTranslated}
use Rattle.vm_translator.proofs.Instructed.{translated}
use Rattle.jack_core.specs.declared.program.Core.{Core}
use Rattle.jack_meaning.specs.Gap.{gap}
use Rattle.jack_core.specs.Texts.{the_program}
use Rattle.jack_compiler.specs.Files.{files_of}
use Rattle.jack_compiler.specs.Linked.{IsLinkedOf}
use Rattle.jack_compiler.proofs.Seam.{compiled}
use Rattle.jack_compiler.proofs.Uniform.{code_is_uniform}
use Rattle.tower.specs.declared.building.BuildError.{BuildError}
use Rattle.tower.specs.declared.building.BuildError.TheVariants as errors
use Rattle.tower.specs.Image.{Builds, ComputerLaw, FollowsProgram, IsImageOf, IsUnbuilt, image_for}
use Rattle.tower.proofs.Headline.{run_follows}

pub linked_bare : (bare : Bool) (files : List File) (l : Linked) → Links bare files (Ok l) → l.bare ≡ bare
linked_bare bare files l (whole ks text k fault e) = ap (λ (x : Linked). x.bare) e

code_follows : (core : Core) (linked : Linked) → IsLinkedOf core linked → (image : Image) → IsTranslated linked image.words (the_map image.map) endless_loop → FollowsProgram (the_program core) image
code_follows core linked code image does = λ keys words n. (
  gap code.depth code.most_locals,
  record { depth = code.depth; most_locals = code.most_locals; deepest = code.deepest; most = code.most; sum = refl },
  run_follows (the_program core) code.numbers linked code.depth code.most_locals image.words (the_map image.map) code.fits code.code does keys words n,
)

image_does : (core : Core) (linked : Linked) (image : Image) → Links false (files_of core) (Ok linked) → IsLinkedOf core linked → image ≡ image_for linked → length image.words ≤ 32768
    → IsTranslated linked image.words (the_map image.map) endless_loop
image_does core linked image links code is fits =
    let few : length (image_of linked) ≤ 32768 = subst (λ (n : ℕ). n ≤ 32768) (length_mapped word_of (image_of linked)) (subst (λ (q : Image). length q.words ≤ 32768) is fits) in
    subst (λ (q : Image). IsTranslated linked q.words (the_map q.map) endless_loop) (sym is)
    (translated linked (sound_if false (files_of core) linked links) (code_is_uniform (the_program core) linked code) (linked_bare false (files_of core) linked links) few)

pub computer : ComputerLaw
computer core image resolved is =
    let code = compiled.linked core is.linked resolved is.links in
    code_follows core is.linked code image (image_does core is.linked image is.links code is.is_image is.fits)

-- the points of an image come before its routines, and where there is start code, there are some
pub is_mapped : (l : Linked) (instrs : List Instr) (mapping : ImageMap) → l.bare ≡ false → Covers 0 mapping.points (shared_at l) → CoversShared (shared_at l) mapping.shared (length instrs)
    → instrs ≡ image_of l → length (image_of l) ≤ 32768 → IsMapped (record { words = map word_of instrs; map = mapping })
is_mapped l instrs mapping starts covers rest image fits =
    let base : base_of l ≡ start_size = ap (λ b. if b then 0 else start_size) starts in
    let size : length (map word_of instrs) ≡ length instrs = length_mapped word_of instrs in
    let up = shared_up (shared_at l) (length instrs) mapping.shared rest in
    record {
      covers = record { mapped = shared_at l; some = omega (arith, base); covers = covers };
      within = omega (arith, size, up);
      room = omega (arith, size, ap length image, fits);
    }
  where
    shared_up : (at to : ℕ) (rs : List (ℕ × ℕ)) → CoversShared at rs to → at ≤ to
    shared_up at to [] e = omega (arith, e)
    shared_up at to (r ∷ rs) c = let first = c.1 in let more = shared_up r.1 to rs c.2 in omega (arith, first, more)

-- it is built
pub built : (core : Core) (linked : Linked) → Links false (files_of core) (Ok linked) → (r : Result Image BuildError) → IfOk r (λ image. image ≡ image_for linked) → IfOk r (λ image. length image.words ≤ 32768) → IfErr r (IsUnbuilt linked)
    → Builds core r
built core linked links (Ok image) is fits no_fault = record { linked = linked; links = links; is_image = is; fits = fits }
built core linked links (Err errors.Memory) is fits fault = tt
built core linked links (Err (errors.TooManyStatics w)) is fits fault = absurd fault
built core linked links (Err (errors.TooLarge w)) is fits fault = (linked, links, fault)
