-- The printed text of what was read spells it again.
use Rattle.std.proofs.Common.{◌≡◌, ℕ, ◌≤◌, Bool, true, false, List, [], ◌∷◌, length, map, Option, Some, None, Result, Ok, Err, refl, sym, ap, subst}
use Rattle.std.specs.Prelude.{IfOk}
use Rattle.grammar.specs.declared.ReadError.{ReadError}
use Rattle.vm_tree.specs.Printed.{program_text}
use Rattle.vm_tree.specs.declared.command.Command.{Command}
use Rattle.vm_tree.specs.declared.command.Line.{Line}
use Rattle.vm_tree.specs.declared.program.File.{File}
use Rattle.vm_parser.specs.Trees.{read_line, commands, WrittenFunction, function_of, Opening, opening_of, WrittenFile, file_of, Spells}
use Rattle.vm_parser.specs.Printed.{all, file_can, read_lines, read_function, read_file}
use Rattle.vm_parser.proofs.Readable.{spelled_can}
use Rattle.std.proofs.lemmas.Bool.{and_parts}
use Rattle.vm_parser.proofs.Printed.{printed_spells}

commands_same : (ls : List (Option Command)) → read_lines (commands ls) ≡ commands ls
commands_same [] = refl
commands_same (None ∷ ls) = commands_same ls
commands_same (Some c ∷ ls) = ap (λ (ms : List Line). read_line c ∷ ms) (commands_same ls)

functions_same : (fs : List WrittenFunction) → map read_function (map function_of fs) ≡ map function_of fs
functions_same [] = refl
functions_same (f ∷ fs) = let ls = commands_same f.lines in let rest = functions_same fs in λ i. record { name = f.name; locals = f.locals; lines = ls i } ∷ rest i

opening_same : (bare : Bool) (o : Opening bare) → read_lines (opening_of bare o) ≡ opening_of bare o
opening_same true ls = commands_same ls
opening_same false n = refl

file_same : (bare : Bool) (name : List ℕ) (f : WrittenFile bare) → read_file (file_of bare name f) ≡ file_of bare name f
file_same bare name f = let o = opening_same bare f.opening in let fs = functions_same f.functions in λ i. record { name = name; opening = o i; functions = fs i }

pub spelled_again : (bare : Bool) (name text : List ℕ) (p : List File) → Spells bare name text p → length (program_text p) ≤ 1048576 → Spells bare name (program_text p) p
spelled_again bare name text p h small =
    let f = file_of bare name h.0 in
    let can : all (file_can bare) (f ∷ []) ≡ true = subst (λ (q : List File). all (file_can bare) q ≡ true) h.1 (spelled_can bare name text p h) in
    let short : length (program_text (f ∷ [])) ≤ 1048576 = subst (λ (q : List File). length (program_text q) ≤ 1048576) h.1 small in
    let one = subst (λ (g : File). Spells bare name (program_text (f ∷ [])) (g ∷ [])) (file_same bare name h.0) (printed_spells bare f (and_parts (file_can bare f) true can).0 short) in
    subst (λ (q : List File). Spells bare name (program_text q) q) (sym h.1) one

-- of what a reader returned
pub read_can : (bare : Bool) (name text : List ℕ) (r : Result (List File) ReadError) → IfOk r (Spells bare name text) → IfOk r (λ p. all (file_can bare) p ≡ true)
read_can bare name text (Ok p) h = spelled_can bare name text p h
read_can bare name text (Err e) h = h

pub read_again : (bare : Bool) (name text : List ℕ) (r : Result (List File) ReadError) → IfOk r (Spells bare name text) → IfOk r (λ p. length (program_text p) ≤ 1048576 → Spells bare name (program_text p) p)
read_again bare name text (Ok p) h = spelled_again bare name text p h
read_again bare name text (Err e) h = h
