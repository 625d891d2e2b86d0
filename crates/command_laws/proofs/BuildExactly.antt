-- A line of `build` and one of `map` prints one thing or is refused for one thing, and not both.
use Rattle.std.proofs.Common.{◌≡◌, ℕ, List, Some, Ok, false, map, refl, sym, ◌∙◌, ap}
use Rattle.outer_world.specs.Files.{Files}
use Rattle.hack_asm.specs.Image.{image_text}
use Rattle.jack_tree.specs.declared.tree.Class.{Class}
use Rattle.jack_tree.specs.Seen.{the_file}
use Rattle.jack_parser.specs.Spelled.{ClassLaw}
use Rattle.jack_os.proofs.SystemTexts.{seen_files}
use Rattle.tower.specs.Sources.{system_beside}
use Rattle.tower.proofs.Beside.{one_beside}
use Rattle.jack_compiler.specs.Files.{files_of}
use Rattle.jack_core.specs.declared.program.Core.{Core}
use Rattle.jack_debug.specs.MapText as placed
use Rattle.jack_debug.specs.declared.places.Places.{Places}
use Rattle.vm_link.specs.declared.linked.Linked.{Linked}
use Rattle.vm_debug.specs.Places.{the_places}
use Rattle.vm_debug.proofs.SeenPlaces.{same_places}
use Rattle.jack_core.specs.Texts.{names_of}
use Rattle.image_map.specs.declared.map.Image.{Image}
use Rattle.image_map.specs.Text.{map_text}
use Rattle.command_line.specs.Line.{Source, build, map_image, of_classes}
use Rattle.command_line.specs.declared.request.MapFormat.{MapFormat}
use Rattle.command_line.specs.declared.request.MapFormat.TheVariants as formats
use Rattle.command_laws.specs.Exact.{IsExact}
use Rattle.nand_cli.specs.Commands.Build.{BuildPrints, BuildRefuses, FolderBuilds, unbuilt, without_program}
use Rattle.nand_cli.specs.Commands.Map.{FolderHasPlaces, HavePlaces, MapPrints}
use Rattle.nand_cli.specs.JackFolder.{HasClasses}
use Rattle.nand_cli.proofs.OneFolder.{one_list_of_classes}
use Rattle.tower.specs.OneProgram.{SameProgram}
use Rattle.command_laws.proofs.Exactly.{not_lacking, one_linked}
use Rattle.command_laws.proofs.RunExactly.{linked_here, never_refused, never_unbuilt, one_build_line, one_image_of, one_folder_line, one_meaning}

module _ (law : ClassLaw) (files : Files) (source : Source) where
  one_image : (out out' : List ℕ) → BuildPrints (Some files) source out → BuildPrints (Some files) source out' → out ≡ out'
  one_image out out' (core, p, builds, e) (core', q, builds', d) =
      let same = one_meaning law files source core core' builds.0 builds'.0 in
      e ∙ ap (λ (x : Image). image_text x.words) (one_image_of core core' same p q builds.1 builds'.1) ∙ sym d

  -- the program and the image that places are made of
  pub built_of : (own : List Class) (places : Places) → HasClasses (Some files) source.folder (map the_file own) → HavePlaces source.replace own places → (core : Core) × (image : Image) × FolderBuilds (Some files) source core image
  built_of own places has h = (h.core, h.image, ((own, has, (h.os, h.shipped, h.program)), h.is_image))

  pub one_places : (places places' : Places) → FolderHasPlaces (Some files) source places → FolderHasPlaces (Some files) source places' → places ≡ places'
  one_places places places' (own, has, h) (own', has', k) =
      let owns : map the_file own ≡ map the_file own' = one_list_of_classes law files source.folder (map the_file own) (map the_file own') has has' in
      let systems : map the_file h.os ≡ map the_file k.os = one_beside source.replace (map the_file own) (map the_file own') (map the_file h.os) (map the_file k.os) owns
      (seen_files (system_beside source.replace (map the_file own)) h.os h.shipped) (seen_files (system_beside source.replace (map the_file own')) k.os k.shipped) in
      let same : SameProgram h.core k.core = one_meaning law files source h.core k.core (own, has, (h.os, h.shipped, h.program)) (own', has', (k.os, k.shipped, k.program)) in
      let image : h.image ≡ k.image = one_image_of h.core k.core same h.image k.image h.is_image k.is_image in
      let linked : h.are.0 ≡ k.are.0 = one_linked false (files_of h.core) h.are.0 k.are.0 h.are.1 (linked_here h.core k.core same (Ok k.are.0) k.are.1) in
      h.are.2
      ∙ same_places own own' h.os k.os h.are.0 h.image.map owns systems
      ∙ ap (λ (l : Linked). the_places own' k.os l h.image.map) linked
      ∙ ap (λ (x : Image). the_places own' k.os k.are.0 x.map) image
      ∙ sym k.are.2

  one_map : (format : MapFormat) (out out' : List ℕ) → MapPrints (Some files) source format out → MapPrints (Some files) source format out' → out ≡ out'
  one_map formats.Places out out' (places, here, whole, e) (places', there, whole', d) = e ∙ ap placed.map_text (one_places places places' here there) ∙ sym d
  one_map formats.Points out out' (core, p, builds, whole, e) (core', q, builds', whole', d) =
      let same = one_meaning law files source core core' builds.0 builds'.0 in
      e
      ∙ ap (λ (x : Image). map_text (names_of core) x.map) (one_image_of core core' same p q builds.1 builds'.1)
      ∙ ap (λ (ns : List (List ℕ)). map_text ns q.map) same.names
      ∙ sym d

  pub one_line : (line line' : List ℕ) → BuildRefuses (Some files) source line → BuildRefuses (Some files) source line' → line ≡ line'
  one_line line line' (without_program h) (without_program k) = one_folder_line law files source line line' h k
  one_line line line' (without_program h) (unbuilt core means k) = absurd (never_refused law files source core line means h)
  one_line line line' (unbuilt core means h) (without_program k) = absurd (never_refused law files source core line' means k)
  one_line line line' (unbuilt core means h) (unbuilt core' means' k) = one_build_line core core' (one_meaning law files source core core' means means') source.folder line line' h k

  pub built_apart : (out line : List ℕ) → BuildPrints (Some files) source out → BuildRefuses (Some files) source line → ⊥
  built_apart out line (core, p, builds, e) (without_program k) = never_refused law files source core line builds.0 k
  built_apart out line (core, p, builds, e) (unbuilt core' means' k) =
      never_unbuilt core core' (one_meaning law files source core core' builds.0 means') p k.0 k.1 builds.1 k.2 k.3

pub build_exact : ClassLaw → (files : Files) (source : Source) → IsExact files (of_classes source build)
build_exact law files source = record {
  prints = λ one out err out' err' h k. (one_image law files source out out' h.0 k.0, h.1 ∙ sym k.1);
  refuses = λ out before told out' before' told' h k. (h.0 ∙ sym k.0, one_line law files source told told' h.1 k.1, h.2 ∙ sym k.2);
  apart = λ out err out' before told h k. built_apart law files source out told h.0 k.1;
  lacking = λ there has gone out before told. absurd (not_lacking there files source has gone);
}

map_apart : ClassLaw → (files : Files) (source : Source) (format : MapFormat) (out line : List ℕ) → MapPrints (Some files) source format out → BuildRefuses (Some files) source line → ⊥
map_apart law files source formats.Points out line (core, p, builds, whole, e) k = built_apart law files source (image_text p.words) line (core, p, builds, refl) k
map_apart law files source formats.Places out line (places, (own, has, h), whole, e) k =
    let b = built_of law files source own places has h in
    built_apart law files source (image_text b.1.words) line (b.0, b.1, b.2, refl) k

pub map_exact : ClassLaw → (files : Files) (source : Source) (format : MapFormat) → IsExact files (of_classes source (map_image format))
map_exact law files source format = record {
  prints = λ one out err out' err' h k. (one_map law files source format out out' h.0 k.0, h.1 ∙ sym k.1);
  refuses = λ out before told out' before' told' h k. (h.0 ∙ sym k.0, one_line law files source told told' h.1 k.1, h.2 ∙ sym k.2);
  apart = λ out err out' before told h k. map_apart law files source format out told h.0 k.1;
  lacking = λ there has gone out before told. absurd (not_lacking there files source has gone);
}
