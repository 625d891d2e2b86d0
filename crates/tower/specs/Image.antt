-- The image of a program with its map, and what the computer with this image does. (The book, chapters 7 to 11.)
use Rattle.std.specs.Prelude.{◌≡◌, ◌≤◌, length, ℕ, map, false, Result, Ok, Err}
use Rattle.hack_isa.specs.Machine.{image_words}
use Rattle.hack_isa.specs.Table.{word_of}
use Rattle.simulation.specs.System.{IsKey}
use Rattle.image_map.specs.declared.map.Image.{Image}
use Rattle.image_map.specs.Map.{the_map}
use Rattle.vm_link.specs.declared.fault.LinkFault.TheVariants.{TooManyStatics}
use Rattle.vm_link.specs.declared.linked.Linked.{Linked}
use Rattle.vm_link.specs.Links.{Links}
use Rattle.vm_translator.specs.Image.{image_map_of, image_of, IsTooLarge}
use Rattle.jack_meaning.specs.Text.{Program}
use Rattle.jack_core.specs.declared.program.Core.{Core}
use Rattle.jack_core.specs.Texts.{the_program}
use Rattle.jack_compiler.specs.Files.{files_of}
use Rattle.jack_compiler.specs.Resolved.{IsResolvedCore}
use Rattle.tower.specs.Headline.{RunFollows}
use Rattle.tower.specs.declared.building.BuildError.{BuildError}
use Rattle.tower.specs.declared.building.BuildError.TheVariants as errors

-- the image of linked code, with its map
abbrev pub image_for : Linked → Image
image_for l = record { words = map word_of (image_of l); map = image_map_of l }

-- The computer with this image follows the program's meaning, at each cycle and under all keys, and makes each step within the gap of the
-- program.
abbrev pub FollowsProgram : Program → Image → Type 0
FollowsProgram program image = (keys : ℕ → ℕ) → ((c : ℕ) → IsKey (keys c)) → (n : ℕ) → RunFollows program image.words (the_map image.map) keys n

-- This is the image of the program with its map: that of the linked code of its compiled files, which the computer has room for. (Each program has
-- one at most: its files are linked in one way.)
pub record IsImageOf (core : Core) (image : Image) : Type 0 where
  pub linked : Linked
  pub links : Links false (files_of core) (Ok linked)
  pub is_image : image ≡ image_for linked
  pub fits : length image.words ≤ image_words

-- Where the names of a program are resolved, the computer with its image follows its meaning.
abbrev pub ComputerLaw : Type 0
ComputerLaw = (core : Core) (image : Image) → IsResolvedCore core → IsImageOf core image → FollowsProgram (the_program core) image

-- Why a program has no image.
pub data Unbuilt : Type 0 where
  ManyStatics : ℕ → Unbuilt
  LargeImage : ℕ → Unbuilt

-- The program has no image: its files have this many static words, or it would have this many words, which are too
-- many.
abbrev pub IsNotBuilt : Core → Unbuilt → Type 0
IsNotBuilt core (ManyStatics w) = Links false (files_of core) (Err (TooManyStatics w))
IsNotBuilt core (LargeImage w) = (linked : Linked) × Links false (files_of core) (Ok linked) × IsTooLarge linked w

-- This is the image of the program, or this is why there is no image, unless memory ran out.
abbrev pub Builds : Core → Result Image BuildError → Type 0
Builds core (Ok image) = IsImageOf core image
Builds core (Err errors.Memory) = Unit {0}
Builds core (Err (errors.TooManyStatics w)) = IsNotBuilt core (ManyStatics w)
Builds core (Err (errors.TooLarge w)) = IsNotBuilt core (LargeImage w)

-- Linked code has no image since it would be too large, or memory ran out.
abbrev pub IsUnbuilt : Linked → BuildError → Type 0
IsUnbuilt l errors.Memory = Unit {0}
IsUnbuilt l (errors.TooManyStatics w) = ⊥
IsUnbuilt l (errors.TooLarge w) = IsTooLarge l w
