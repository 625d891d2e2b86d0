-- A VM file has no more functions than tokens.
use Rattle.std.proofs.Common.{◌≡◌, ◌≤◌, ℕ, suc, ◌*◌, Bool, true, false, cond, List, [], ◌∷◌, length, Option, Some, None, refl, ap, arith}
use Rattle.std.proofs.lemmas.List.{length-map}
use Rattle.outer_world.specs.Files.{Files}
use Rattle.source_files.specs.Sources.{SpellEach}
use Rattle.scan_text.specs.declared.Place.{Place}
use Rattle.vm_tree.specs.declared.program.File.{File}
use Rattle.vm_parser.specs.Tokens.{Word, piece, close, line_end_token, finish}
use Rattle.vm_parser.specs.Grammar.{Said, vm}
use Rattle.vm_parser.specs.Trees.{Spells, WrittenFunction, function_of, functions_tree, file_of}
use Rattle.vm_parser.specs.Language.{SpellsVmFile}
use Rattle.count_laws.specs.Counts.{VmLaw}
use Rattle.count_laws.proofs.Sections.{all_functions, sections_few}
use Rattle.count_laws.proofs.Tokens.{tokens_few}
use Rattle.tower.proofs.Weights.{weight, weighs}

closed_by : (b : Bool) (at : Place) → length (cond b (line_end_token at ∷ []) []) ≤ 1
closed_by true at = omega arith
closed_by false at = omega arith

closes : (last : Option Word) (at : Place) → length (close last at) ≤ 1
closes None at = omega arith
closes (Some t) at = closed_by _ at

functions_weigh : (fs : List WrittenFunction) → length fs ≤ weight (functions_tree fs)
functions_weigh [] = omega arith
functions_weigh (f ∷ fs) = omega (arith, functions_weigh fs)

one_file : (f g : File) → f ∷ [] ≡ g ∷ [] → f ≡ g
one_file f g e = cc

file_few : (bare : Bool) (name text : List ℕ) (f : File) → Spells bare name text (f ∷ []) → length f.functions ≤ 1048577
file_few bare name text f s =
    let e : length f.functions ≡ length (file_of bare name s.0).functions = ap (λ (g : File). length g.functions) (one_file f (file_of bare name s.0) s.1) in
    let w = weighs Word ℕ (Unit {0}) Said (vm (finish text)) s.2.3 in
    omega (arith, e, length-map s.0.functions function_of, functions_weigh s.0.functions, w, tokens_few piece close closes text s.2.0 s.2.2)

each_few : (bare : Bool) (files : Option Files) (folder : List ℕ) (names : List (List ℕ)) (fs : List File) → SpellEach (SpellsVmFile bare) files folder names fs
    → (length fs ≡ length names) × (all_functions fs ≤ 1048577 * length fs)
each_few bare files folder [] [] h = (refl, omega arith)
each_few bare files folder [] (f ∷ fs) h = absurd h
each_few bare files folder (n ∷ ns) [] h = absurd h
each_few bare files folder (n ∷ ns) (f ∷ fs) h =
    let more = each_few bare files folder ns fs h.1 in
    (ap suc more.0, omega (arith, more.1, file_few bare _ h.0.0 f h.0.2))

pub vm_few : VmLaw
vm_few bare files folder program h =
    let each = each_few bare files folder h.0 program h.2 in
    omega (arith, sections_few bare 0 1 program, each.0, each.1, h.1.1)
