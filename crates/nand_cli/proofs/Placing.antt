-- A folder's program with its image and its places.
use Rattle.std.proofs.Common.{◌≡◌, ◌<◌, ◌≤◌, ◌+◌, ◌^◌, inl, inr, ℕ, suc, Bool, List, [], ◌∷◌, Vec, Global, Option, Result, Ok, Err, codes, length, map, refl, ap, subst, arith}
use Rattle.outer_world.specs.Files.{Files, LacksFolder}
use Rattle.source_files.specs.Loads.{CountsLoad, Loads}
use Rattle.source_files.specs.Sources.{IsUnread}
use Rattle.source_files.specs.declared.error.LoadError.{LoadError}
use Rattle.source_files.specs.declared.error.LoadError.TheVariants as errors
use Rattle.source_files.proofs.Told.{without}
use Rattle.jack_tree.specs.declared.tree.Class.{Class}
use Rattle.jack_tree.specs.Syntax.{ClassFile}
use Rattle.jack_tree.specs.Seen.{the_file}
use Rattle.jack_os.specs.System.{AreClassesOf, SpellsClass, Texts}
use Rattle.jack_os.proofs.SystemTexts.{one_list, seen_files}
use Rattle.jack_core.specs.declared.program.Core.{Core}
use Rattle.jack_compiler.specs.Resolved.{IsResolvedCore}
use Rattle.image_map.specs.Map.{IsMapped}
use Rattle.image_map.specs.declared.map.Image.{Image}
use Rattle.vm_debug.proofs.CorePlaces.{core_places}
use Rattle.vm_debug.specs.Program.{ArePlacesOfClasses}
use Rattle.tower.specs.Image.{IsImageOf}
use Rattle.tower.specs.Program.{IsProgramOf, Means}
use Rattle.tower.specs.Sources.{system_beside}
use Rattle.tower.proofs.Beside.{few_beside}
use Rattle.command_line.specs.Line.{Source}
use Rattle.jack_parser.specs.Language.{RefusesClass}
use Rattle.nand_cli.specs.Commands.Build.{BuildRefuses, unbuilt, without_program}
use Rattle.nand_cli.specs.Inner.Debugging.{FolderIsPlaced, IsPlaced}
use Rattle.nand_cli.specs.Inner.Placed.{AreRefused}
use Rattle.nand_cli.specs.JackFolder.{BuildIsRefused, IsMeaningless, meaningless, unread}
use Rattle.nand_cli.specs.declared.placed.PlacedProgram.{PlacedProgram}
use Rattle.nand_cli.proofs.Spelling.{HasTrees, seen_classes, seen_unread}

-- ---- the operating system has few classes

as_many : (fs : Texts) (cs : List Class) → AreClassesOf fs cs → length cs ≡ length fs
as_many [] [] h = refl
as_many (f ∷ fs) (c ∷ cs) h = ap suc (as_many fs cs h.1)
as_many [] (c ∷ cs) h = absurd h
as_many (f ∷ fs) [] h = absurd h

pub few_all : (replace : Bool) (own os : List Class) → length own ≤ 256 → AreClassesOf (system_beside replace (map the_file own)) os → length own + length os < 2 ^ 32
few_all replace own os few are =
    let size = as_many (system_beside replace (map the_file own)) os are in omega (arith, few, size, few_beside replace (map the_file own))

-- ---- the program

pub is_placed : (replace : Bool) (own os : List Class) (core : Core) (p : PlacedProgram) → Means replace own (Ok core) → AreClassesOf (system_beside replace (map the_file own)) os → IsImageOf core p.image
    → ArePlacesOfClasses own os core p.image.map p.places → IsResolvedCore core → IsMapped p.image → IsPlaced replace own p
is_placed replace own os core p (others, are_others, is) are built placed resolved mapped =
    let system = system_beside replace (map the_file own) in
    let same : map the_file others ≡ map the_file os = one_list system (map the_file others) (map the_file os) (seen_files system others are_others) (seen_files system os are) in
    let program : IsProgramOf (map the_file own) (map the_file os) core = subst (λ (fs : List ClassFile). IsProgramOf (map the_file own) fs core) same is in
    record {
      have = record {
        os = os;
        core = core;
        image = p.image;
        shipped = are;
        program = program;
        is_image = built;
        are = placed;
        meant = core_places own os core built.linked p.image.map p.places resolved program.program built.links (ap (λ (q : Image). q.map) built.is_image) placed;
      };
      image = refl;
      resolved = resolved;
      mapped = mapped;
    }

module _ (own : List Class) (source : Source) where
  -- what the classes say of loading
  abbrev pub LoadsPlaced : Result PlacedProgram LoadError → Type 0
  LoadsPlaced r = Loads (IsPlaced source.replace own) (AreRefused own source) ⊥ r

  pub placed_meaningless : (e : LoadError) → Loads (λ (core : Core). Means source.replace own (Ok core)) (IsMeaningless source (map the_file own)) ⊥ (Err e) → LoadsPlaced (Err e)
  placed_meaningless e h =
      without (λ (core : Core). Means source.replace own (Ok core)) (IsMeaningless source (map the_file own)) ⊥ (IsPlaced source.replace own) (AreRefused own source) ⊥ e (λ line k. inl k) (λ k. k) h

  pub placed_unbuilt : (core : Core) (e : LoadError) → Means source.replace own (Ok core) → Loads (IsImageOf core) (BuildIsRefused core source.folder) ⊥ (Err e) → LoadsPlaced (Err e)
  placed_unbuilt core e means h =
      without (IsImageOf core) (BuildIsRefused core source.folder) ⊥ (IsPlaced source.replace own) (AreRefused own source) ⊥ e (λ line k. inr (core, means, k)) (λ k. k) h

module _ (files : Option Files) (source : Source) (there : List ℕ → Bool) (steady : Type 0) where
  abbrev pub LoadsFolder : Result PlacedProgram LoadError → Type 0
  LoadsFolder r = Loads (FolderIsPlaced files source) (BuildRefuses files source) (steady → LacksFolder files there source.folder) r

  pub without_trees : (e : LoadError) → Loads (λ (classes : Vec Class Global). HasTrees files source.folder classes.items) (IsUnread SpellsClass RefusesClass (codes ".jack") files source.folder) (steady → LacksFolder files there source.folder) (Err e) → LoadsFolder (Err e)
  without_trees e h =
      without (λ (classes : Vec Class Global). HasTrees files source.folder classes.items) (IsUnread SpellsClass RefusesClass (codes ".jack") files source.folder) (steady → LacksFolder files there source.folder)
      (FolderIsPlaced files source) (BuildRefuses files source) (steady → LacksFolder files there source.folder) e (λ line k. without_program (unread (seen_unread files source.folder line k))) (λ k. k) h

  refused : (own : List Class) (line : List ℕ) → HasTrees files source.folder own → AreRefused own source line → BuildRefuses files source line
  refused own line has (inl k) = without_program (meaningless (map the_file own) (seen_classes files source.folder own has) k)
  refused own line has (inr (core, means, k)) = unbuilt core (own, seen_classes files source.folder own has, means) k

  pub folder_placed : (own : List Class) (r : Result PlacedProgram LoadError) → HasTrees files source.folder own → LoadsPlaced own source r → LoadsFolder r
  folder_placed own (Ok p) has h = (own, seen_classes files source.folder own has, h)
  folder_placed own (Err (errors.Refused r)) has h = refused own _ has h
  folder_placed own (Err errors.Failed) has h = absurd h
  folder_placed own (Err errors.Memory) has h = tt

pub placed_counts : (own : List Class) (source : Source) (r : Result PlacedProgram LoadError) (shelf shelf' : ℕ) → LoadsPlaced own source r → shelf' ≡ shelf → CountsLoad shelf shelf' r
placed_counts own source (Ok p) shelf shelf' h same = same
placed_counts own source (Err (errors.Refused r)) shelf shelf' h same = same
placed_counts own source (Err errors.Failed) shelf shelf' h same = absurd h
placed_counts own source (Err errors.Memory) shelf shelf' h same = same
