-- What is reported of generated programs, one after another.
use Rattle.std.proofs.Common.{◌≡◌, ◌+◌, ◌%◌, ℕ, suc, Bool, true, false, List, [], Some, Err, refl, sym, subst, add-one}
use Rattle.std.specs.Prelude.{if◌then◌else◌}
use Rattle.outer_world.specs.Files.{Files, LacksFolder}
use Rattle.outer_world.specs.Plans.{NoneToCome, each_folder_there}
use Rattle.source_files.specs.Loads.{Loads, line_of}
use Rattle.source_files.specs.declared.error.LoadError.{LoadError}
use Rattle.source_files.specs.declared.error.LoadError.TheVariants as errors
use Rattle.jack_core.specs.declared.program.Core.{Core}
use Rattle.tower.specs.Image.{IsImageOf}
use Rattle.soak_program.specs.Generator.{IsProgram}
use Rattle.nand_cli.specs.Commands.Build.{unbuilt, without_program}
use Rattle.nand_cli.specs.Commands.Soak.{AreOutcomes, HasNoImage, HasOutcome, IsOutcome, More, cycles, most_moves, soak_files, soak_folder, soak_source}
use Rattle.nand_cli.specs.JackFolder.{BuildIsRefused, FolderIsRefused, FolderMeans}

-- ---- one program

-- its folder is there, so the shelf does not fail
pub without_core : {A : Type 0} (good : A → Type 0) (seed number : ℕ) (text fails : List ℕ) (calls : ℕ) (files : Files) (e : LoadError) → IsProgram seed number text → files ≡ soak_files text → fails ≡ []
    → Loads (FolderMeans (Some files) soak_source) (FolderIsRefused (Some files) soak_source) (NoneToCome fails calls → LacksFolder (Some files) each_folder_there soak_folder) (Err e)
    → Loads good (HasNoImage seed number) ⊥ (Err e)
without_core good seed number text fails calls files (errors.Refused r) is same none h =
    record { text = text; generated = is; refused = without_program (subst (λ (fs : Files). FolderIsRefused (Some fs) soak_source (line_of r)) same h) }
without_core good seed number text fails calls files errors.Failed is same none h =
    let gone = h (subst (λ (l : List ℕ). NoneToCome l calls) (sym none) (λ n le. refl)) in
    let not_there : true ≡ false = gone.0 in
    let no : ⊥ = cc in absurd no
without_core good seed number text fails calls files errors.Memory is same none h = tt

pub without_image : {A : Type 0} (good : A → Type 0) (seed number : ℕ) (text : List ℕ) (files : Files) (core : Core) (e : LoadError) → IsProgram seed number text → files ≡ soak_files text
    → FolderMeans (Some files) soak_source core → Loads (IsImageOf core) (BuildIsRefused core soak_folder) ⊥ (Err e) → Loads good (HasNoImage seed number) ⊥ (Err e)
without_image good seed number text files core (errors.Refused r) is same means h =
    record { text = text; generated = is; refused = unbuilt core (subst (λ (fs : Files). FolderMeans (Some fs) soak_source core) same means) h }
without_image good seed number text files core errors.Failed is same means h = absurd h
without_image good seed number text files core errors.Memory is same means h = tt

pub has_outcome : (seed number : ℕ) (text : List ℕ) (files : Files) (core : Core) (m sum : ℕ) (b : Bool) → IsProgram seed number text → files ≡ soak_files text → FolderMeans (Some files) soak_source core
    → IsOutcome core cycles most_moves m sum b → HasOutcome seed number m sum b
has_outcome seed number text files core m sum b is same means outcome =
    record { text = text; generated = is; core = core; means = subst (λ (fs : Files). FolderMeans (Some fs) soak_source core) same means; outcome = outcome }

-- ---- the first programs

pub one_more : (seed before agree all sum m w x : ℕ) (b : Bool) → AreOutcomes seed before agree all sum → HasOutcome seed (before + 1) m w b → x ≡ (if b then 1 else 0)
    → AreOutcomes seed (before + 1) (agree + x) (all + m) ((sum + w) % 65536)
one_more seed before agree all sum m w x b h one e =
    let more = More {m = m} {w = w} {agreed = b} h (subst (λ (n : ℕ). HasOutcome seed n m w b) (add-one before) one) in
    let P : ℕ → Type 0 = λ n. AreOutcomes seed n (agree + x) (all + m) ((sum + w) % 65536) in
    let Q : ℕ → Type 0 = λ y. AreOutcomes seed (suc before) (agree + y) (all + m) ((sum + w) % 65536) in
    subst P (sym (add-one before)) (subst Q (sym e) more)

-- the same, given in another way
pub retold : (seed i agree all sum agree' all' sum' : ℕ) → AreOutcomes seed i agree all sum → agree' ≡ agree → all' ≡ all → sum' ≡ sum → AreOutcomes seed i agree' all' sum'
retold seed i agree all sum agree' all' sum' h e f g =
    let P : ℕ → Type 0 = λ n. AreOutcomes seed i n all' sum' in
    let Q : ℕ → Type 0 = λ n. AreOutcomes seed i agree n sum' in
    let R : ℕ → Type 0 = λ n. AreOutcomes seed i agree all n in
    subst P (sym e) (subst Q (sym f) (subst R (sym g) h))
