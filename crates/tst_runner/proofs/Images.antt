-- The files in a script's folder: a program, and a text that lines are compared with.
use Rattle.std.proofs.Common.{◌≡◌, ◌≤◌, ℕ, Bool, true, false, cond, List, Option, Result, Ok, Err, Vec, Global, length, refl, subst, inl, inr, arith}
use Rattle.std.specs.Prelude.{IfOk, codes}
use Rattle.outer_world.specs.Files.{Files, LacksFile}
use Rattle.hack_asm.specs.declared.fault.AsmFault.{AsmFault}
use Rattle.source_files.specs.Loads.{Loads}
use Rattle.source_files.specs.Sources.{IsFaulty, IsPastLimit, IsText, SpellsAt}
use Rattle.source_files.specs.declared.error.LoadError.{LoadError}
use Rattle.source_files.specs.declared.error.LoadError.TheVariants as errors
use Rattle.script_parser.specs.Numbers.{ends_in}
use Rattle.hack_asm.specs.declared.language.Form.{Form}
use Rattle.hack_asm.specs.declared.language.Form.TheVariants.{Assembly, Image}
use Rattle.tst_runner.specs.Inner.Files.{IsCompared, IsTooLong, form_of}
use Rattle.hack_asm.specs.Language.{IsRefused, SpellsWords, TellsAsmFault}
use Rattle.tst_runner.specs.Loading.{IsImage, IsNoImage, RefusesImage, SpellsImage}
use Rattle.tst_runner.specs.Setting.{Setting, path_of}
use Rattle.hack_asm.proofs.Sizes.{few_words}

spelled_by : (b : Bool) (file text words : List ℕ) → ends_in (codes ".hack") file ≡ b → SpellsWords (cond b Image Assembly) text words → SpellsImage file text words
spelled_by true file text words e h = inl (e, h)
spelled_by false file text words e h = inr (e, h)

refused_by : (b : Bool) (file text : List ℕ) (fault : AsmFault) → ends_in (codes ".hack") file ≡ b → IsRefused (cond b Image Assembly) text fault → RefusesImage file text fault
refused_by true file text fault e h = inl (e, h)
refused_by false file text fault e h = inr (e, h)

-- what is loaded as a text of a form
abbrev pub LoadsWords : Form → Option Files → List ℕ → Type 0 → Result (Vec ℕ Global) LoadError → Type 0
LoadsWords form files path steady r =
    Loads (SpellsAt (λ text (words : Vec ℕ Global). SpellsWords form text words.items) files path) (IsFaulty (TellsAsmFault form) files path) (steady → LacksFile files path) r

abbrev pub LoadsImage : Setting → List ℕ → Type 0 → Result (Vec ℕ Global) LoadError → Type 0
LoadsImage setting file steady r = Loads (λ (words : Vec ℕ Global). IsImage setting file words.items) (IsNoImage setting file) (steady → LacksFile setting.files (path_of setting file)) r

image_loads : (setting : Setting) (file : List ℕ) (steady : Type 0) (r : Result (Vec ℕ Global) LoadError) → LoadsWords (form_of file) setting.files (path_of setting file) steady r → LoadsImage setting file steady r
image_loads setting file steady (Ok words) h = (h.0, h.1, spelled_by (ends_in (codes ".hack") file) file h.0 words.items refl h.2)
image_loads setting file steady (Err (errors.Refused r)) (text, told, has, (fault, refused, tells), is) =
    (text, fault, told, has, refused_by (ends_in (codes ".hack") file) file text fault refl refused, tells, is)
image_loads setting file steady (Err errors.Failed) h = h
image_loads setting file steady (Err errors.Memory) h = tt

pub image_loaded : (setting : Setting) (file path : List ℕ) (form : Form) (steady : Type 0) (r : Result (Vec ℕ Global) LoadError) → path ≡ path_of setting file → form ≡ form_of file → LoadsWords form setting.files path steady r → LoadsImage setting file steady r
image_loaded setting file path form steady r at same h =
    let formed = subst (λ (f : Form). LoadsWords f setting.files path steady r) same h in
    image_loads setting file steady r (subst (λ (p : List ℕ). LoadsWords (form_of file) setting.files p steady r) at formed)

pub short_image : (form : Form) (files : Option Files) (path : List ℕ) (steady : Type 0) (r : Result (Vec ℕ Global) LoadError) → LoadsWords form files path steady r → IfOk r (λ words. length words.items ≤ 32768)
short_image form files path steady (Ok words) h = few_words form h.0 words.items h.2
short_image form files path steady (Err e) h = tt

-- what is loaded as a text
abbrev pub LoadsText : Option Files → List ℕ → Type 0 → Result (Vec ℕ Global) LoadError → Type 0
LoadsText files path steady r = Loads (λ (text : Vec ℕ Global). IsText files path text.items) (IsPastLimit files path) (steady → LacksFile files path) r

abbrev pub LoadsCompared : Setting → List ℕ → Type 0 → Result (Vec ℕ Global) LoadError → Type 0
LoadsCompared setting file steady r =
    Loads (λ (text : Vec ℕ Global). IsCompared setting file text.items) (IsTooLong setting file) (steady → LacksFile setting.files (path_of setting file)) r

compared_loads : (setting : Setting) (file : List ℕ) (steady : Type 0) (r : Result (Vec ℕ Global) LoadError) → LoadsText setting.files (path_of setting file) steady r → LoadsCompared setting file steady r
compared_loads setting file steady (Ok text) h = h
compared_loads setting file steady (Err (errors.Refused r)) (text, has, long, is) = (text, has, omega arith, is)
compared_loads setting file steady (Err errors.Failed) h = h
compared_loads setting file steady (Err errors.Memory) h = tt

pub compared_loaded : (setting : Setting) (file path : List ℕ) (steady : Type 0) (r : Result (Vec ℕ Global) LoadError) → path ≡ path_of setting file → LoadsText setting.files path steady r → LoadsCompared setting file steady r
compared_loaded setting file path steady r at h = compared_loads setting file steady r (subst (λ (p : List ℕ). LoadsText setting.files p steady r) at h)
