-- How many sections files have: no more than functions and opening texts.
use Rattle.std.proofs.Common.{◌≡◌, ◌≤◌, ◌<◌, ℕ, zero, suc, ◌+◌, Bool, true, false, List, [], ◌∷◌, length, drop, cond, refl, ap, arith, length-append, eqb-true}
use Rattle.std.specs.Prelude.{◌==◌}
use Rattle.vm_tree.specs.declared.program.Function.{Function}
use Rattle.vm_tree.specs.declared.program.File.{File}
use Rattle.vm_link.specs.Sections.{functions_from, file_sections, sections_from, sections}
use Rattle.jack_meaning.specs.Text.{Subroutine, Class, Program}
use Rattle.jack_compiler.specs.Lines.{Around}
use Rattle.jack_compiler.specs.Files.{around_class, functions_of, files_from, program_files}

-- the functions of some files
abbrev pub all_functions : List File → ℕ
all_functions [] = 0
all_functions (f ∷ fs) = length f.functions + all_functions fs

functions_length : (k n : ℕ) (fs : List Function) → length (functions_from k n fs) ≡ length fs
functions_length k n [] = refl
functions_length k n (f ∷ fs) = ap suc (functions_length k (n + 1) fs)

file_length : (bare : Bool) (k n : ℕ) (f : File) → length (file_sections bare k n f) ≤ length f.functions + 1
file_length true k n f = omega (arith, functions_length k (n + 1) f.functions)
file_length false k n f = omega (arith, functions_length k n f.functions)

pub sections_few : (bare : Bool) (k n : ℕ) (fs : List File) → length (sections_from bare k n fs) ≤ all_functions fs + length fs
sections_few bare k n [] = omega arith
sections_few bare k n (f ∷ fs) =
    let more = sections_from bare (k + 1) (n + length (file_sections bare k n f)) fs in
    omega (arith, length-append (file_sections bare k n f) more, file_length bare k n f, sections_few bare (k + 1) (n + length (file_sections bare k n f)) fs)

-- ---- Each subroutine is a function of one class.

-- how many of these subroutines are of the class of number k
abbrev of_class : ℕ → List Subroutine → ℕ
of_class k [] = 0
of_class k (s ∷ ss) = cond (s.class == k) (1 + of_class k ss) (of_class k ss)

of_class_by : (b : Bool) (around : Around) (k g : ℕ) (f : Function) (ss : List Subroutine) → length (functions_of around k (g + 1) ss) ≡ of_class k ss
    → length (cond b (f ∷ functions_of around k (g + 1) ss) (functions_of around k (g + 1) ss)) ≡ cond b (1 + of_class k ss) (of_class k ss)
of_class_by true around k g f ss h = omega (arith, h)
of_class_by false around k g f ss h = h

functions_of_class : (around : Around) (k g : ℕ) (ss : List Subroutine) → length (functions_of around k g ss) ≡ of_class k ss
functions_of_class around k g [] = refl
functions_of_class around k g (s ∷ ss) = of_class_by (s.class == k) around k g _ ss (functions_of_class around k (g + 1) ss)

-- those of n classes from this one on
abbrev of_classes : ℕ → ℕ → List Subroutine → ℕ
of_classes k zero ss = 0
of_classes k (suc n) ss = of_class k ss + of_classes (k + 1) n ss

none : (k n : ℕ) → of_classes k n [] ≡ 0
none k zero = refl
none k (suc n) = omega (arith, none (k + 1) n)

past_by : (b : Bool) (s : Subroutine) (k m : ℕ) → (s.class == k) ≡ b → s.class < k → cond b (1 + m) m ≡ m
past_by true s k m e h = absurd (omega (arith, eqb-true s.class k e))
past_by false s k m e h = refl

-- a subroutine of a class before these
past : (s : Subroutine) (ss : List Subroutine) (k n : ℕ) → s.class < k → of_classes k n (s ∷ ss) ≡ of_classes k n ss
past s ss k zero h = refl
past s ss k (suc n) h = omega (arith, past_by (s.class == k) s k (of_class k ss) refl h, past s ss (k + 1) n (omega arith))

here_by : (b : Bool) (s : Subroutine) (ss : List Subroutine) (k n : ℕ) → (s.class == k) ≡ b → of_classes (k + 1) n (s ∷ ss) ≤ 1 + of_classes (k + 1) n ss
    → cond b (1 + of_class k ss) (of_class k ss) + of_classes (k + 1) n (s ∷ ss) ≤ 1 + (of_class k ss + of_classes (k + 1) n ss)
here_by true s ss k n e h = omega (arith, past s ss (k + 1) n (omega (arith, eqb-true s.class k e)))
here_by false s ss k n e h = omega (arith, h)

one_more : (s : Subroutine) (ss : List Subroutine) (k n : ℕ) → of_classes k n (s ∷ ss) ≤ 1 + of_classes k n ss
one_more s ss k zero = omega arith
one_more s ss k (suc n) = here_by (s.class == k) s ss k n refl (one_more s ss (k + 1) n)

few : (ss : List Subroutine) (k n : ℕ) → of_classes k n ss ≤ length ss
few [] k n = omega (arith, none k n)
few (s ∷ ss) k n = omega (arith, one_more s ss k n, few ss k n)

module _ (program : Program) (names class_names : List (List ℕ)) where
  -- the subroutines but `start`
  abbrev rest : List Subroutine
  rest = drop 1 program.subroutines

  as_many : (k : ℕ) (cs : List Class) → length (files_from program names class_names k cs) ≡ length cs
  as_many k [] = refl
  as_many k (c ∷ cs) = ap suc (as_many (k + 1) cs)

  functions_are : (k : ℕ) (cs : List Class) → all_functions (files_from program names class_names k cs) ≡ of_classes k (length cs) rest
  functions_are k [] = refl
  functions_are k (c ∷ cs) = omega (arith, functions_of_class (around_class program.classes names k) k 1 rest, functions_are (k + 1) cs)

  pub compiled_few : length (sections false (program_files program names class_names)) ≤ length rest + length program.classes
  compiled_few =
      let fs = program_files program names class_names in
      omega (arith, sections_few false 0 1 fs, functions_are 0 program.classes, as_many 0 program.classes, few rest 0 (length program.classes))
