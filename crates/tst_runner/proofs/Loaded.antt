-- What is loaded, from its parts.
use Rattle.std.proofs.Common.{◌≡◌, ◌-◌, ◌++◌, ◌⊎◌, ℕ, Bool, true, List, [], ◌∷◌, Option, Some, None, Result, Ok, Err, length, take, drop, refl, sym, ap, ◌∙◌, inl, inr}
use Rattle.std.specs.Prelude.{IfOk, IfSome, codes}
use Rattle.std.proofs.lemmas.List.{take-append-drop}
use Rattle.outer_world.specs.Files.{Files, LacksFolder}
use Rattle.source_files.specs.Loads.{Loads, CountsLoad}
use Rattle.source_files.specs.declared.error.LoadError.{LoadError}
use Rattle.source_files.specs.declared.error.LoadError.TheVariants as loads
use Rattle.hdl_tree.specs.declared.library.Entry.{Entry}
use Rattle.gate_sim.specs.Calls.Call.{Eval}
use Rattle.script_device.specs.declared.chip.DrivenChip.{DrivenChip}
use Rattle.script_device.specs.Driven.{IsDriven, chip_of}
use Rattle.script_parser.specs.Numbers.{ends_in}
use Rattle.tst_runner.specs.Setting.{Setting, folder}
use Rattle.tst_runner.specs.Gathering.{file_of}
use Rattle.tst_runner.specs.Loading.{HasGathered, IsBuilt, IsUnknown, IsFaulty, IsNotLoaded}
use Rattle.tst_runner.specs.Inner.Loaded.{ChipIsLoaded}
use Rattle.tst_runner.specs.Inner.States.{LacksDevice}

-- what is not loaded here is not loaded there either
pub Loads-err : {A B : Type 0} (good : A → Type 0) (good' : B → Type 0) (refused refused' : List ℕ → Type 0) (missed missed' : Type 0) (x : LoadError)
    → ((line : List ℕ) → refused line → refused' line) → (missed → missed') → Loads good refused missed (Err x) → Loads good' refused' missed' (Err x)
Loads-err good good' refused refused' missed missed' (loads.Refused r) f k h = f _ h
Loads-err good good' refused refused' missed missed' loads.Failed f k h = k h
Loads-err good good' refused refused' missed missed' loads.Memory f k h = tt

-- the chip that is built from those that were gathered
pub Loads-chip : (setting : Setting) (name : List ℕ) (entries : List Entry) (missed : Type 0) (built : Result DrivenChip LoadError)
    → HasGathered setting name entries
    → Loads (λ (chip : DrivenChip). IsBuilt setting entries name (chip_of chip)) (λ line. IsUnknown setting entries name line ⊎ IsFaulty setting entries name line) ⊥ built
    → IfOk built (λ chip. IsDriven chip (Eval ∷ [])) → Loads (ChipIsLoaded setting (file_of name)) (IsNotLoaded setting (file_of name)) missed built
Loads-chip setting name entries missed (Ok chip) has h driven = record { loaded = (name, refl, (entries, has, h)); driven = driven; fits = h.fits }
Loads-chip setting name entries missed (Err (loads.Refused r)) has h driven = (name, refl, inr (entries, has, h))
Loads-chip setting name entries missed (Err loads.Failed) has h driven = absurd h
Loads-chip setting name entries missed (Err loads.Memory) has h driven = tt

pub CountsLoad-built : {A : Type 0} (good : A → Type 0) (refused : List ℕ → Type 0) (a b : ℕ) (built : Result A LoadError) → b ≡ a → Loads good refused ⊥ built → CountsLoad a b built
CountsLoad-built good refused a b (Ok x) e h = e
CountsLoad-built good refused a b (Err (loads.Refused r)) e h = e
CountsLoad-built good refused a b (Err loads.Failed) e h = absurd h
CountsLoad-built good refused a b (Err loads.Memory) e h = e

-- a file that ends so is that of its stem
pub file_of-stem : (file name : List ℕ) → drop (length file - 4) file ≡ codes ".hdl" → name ≡ take (length file - 4) file → file ≡ file_of name
file_of-stem file name e f = sym (take-append-drop (length file - 4) file) ∙ ap (λ x. x ++ drop (length file - 4) file) (sym f) ∙ ap (λ x. name ++ x) e

pub lacks-folder : (files : Option Files) (there : List ℕ → Bool) (setting : Setting) (file : List ℕ) → ends_in (codes ".hdl") file ≡ true → LacksFolder files there (folder setting) → IfSome files (LacksDevice there setting file)
lacks-folder None there setting file e h = tt
lacks-folder (Some told) there setting file e h = inl (e, h)
