-- Where instructions stand.
use Rattle.std.proofs.Common.{◌≡◌, ℕ, zero, suc, ◌+◌, ◌<◌, ◌≤◌, inl, inr, List, [], ◌∷◌, ◌++◌, length, take, drop, true, false, Some, refl, ap, ◌∙◌, subst, arith}
use Rattle.std.specs.Prelude.{Bool, if◌then◌else◌, slice_index, slice_get, map, All}
use Rattle.std.proofs.lemmas.Bool.{cases_lt, le-ltb, lt-ltb}
use Rattle.std.proofs.lemmas.Option.{get_or_from_slice_get, slice_get_within}
use Rattle.hack_isa.specs.Table.{WellFormed, word_of, instr_of}
use Rattle.hack_isa.specs.declared.Instr.{Instr}
use Rattle.hack_isa.specs.declared.Instr.TheVariants.{Address, Compute, Shift}
use Rattle.hack_isa.proofs.RoundTrip.{encoded}
use Rattle.vm_tree.specs.declared.command.Operation.{Operation}
use Rattle.vm_tree.specs.declared.command.Operation.TheVariants.{Add, Sub, And, Or, Neg, Not, ShiftLeft, ShiftRight, Eq, Gt, Lt}
use Rattle.vm_templates.specs.declared.shape.Shape.{Shape}
use Rattle.vm_templates.specs.declared.shape.Shape.TheVariants.{PushConstant, PushAt, PushFirst, PushWord, PopAt, PopFirst, PopWord, Operate, Goto, IfGoto, Call, Function, Return}
use Rattle.vm_templates.specs.declared.routines.Routine.{Routine}
use Rattle.vm_templates.specs.declared.routines.Routine.TheVariants as routine
use Rattle.vm_templates.specs.declared.routines.Routines.{Routines}
use Rattle.vm_templates.specs.Templates.{order_routine, load, operation_words, template, size, routine_code, routine_size, routine_of, function_code, set_stack, endless, start_code}
use Rattle.vm_templates.specs.Computer.{Stands}
use Rattle.vm_templates.specs.Commands.{IsShape}
use Rattle.vm_templates.specs.Laws.{IsFound, TemplatesFit, InstructionsStand, Starts}
use Rattle.vm_templates.proofs.Block.{Data, AreWords, from_place, up_to}
use Rattle.vm_templates.proofs.Frames.{function_length}
use Rattle.vm_templates.proofs.Calls.{set_stack_goes}

pub stands_front : (image : List ℕ) (here : ℕ) (a b : List Instr) → Stands image here (a ++ b) → Stands image here a
stands_front image here [] b h = tt
stands_front image here (i ∷ a) b h = (h.0, stands_front image (here + 1) a b h.1)

pub stands_back : (image : List ℕ) (here : ℕ) (a b : List Instr) → Stands image here (a ++ b) → Stands image (here + length a) b
stands_back image here [] b h = let e : here ≡ here + 0 = omega arith in subst (λ p. Stands image p b) e h
stands_back image here (i ∷ a) b h =
    let e : here + 1 + length a ≡ here + suc (length a) = omega arith in
    subst (λ p. Stands image p b) e (stands_back image (here + 1) a b h.1)

index_of : (is : List Instr) (k : ℕ) (i : Instr) → slice_get is k ≡ Some i → slice_index (map word_of is) k ≡ word_of i
index_of [] k i g = cc
index_of (j ∷ is) zero i g = let e : j ≡ i = cc in ap word_of e
index_of (j ∷ is) (suc k) i g = index_of is k i g

at_place : (is : List Instr) (k : ℕ) (i : Instr) → All WellFormed is → slice_get is k ≡ Some i → WellFormed i
at_place is k i h g = subst WellFormed (get_or_from_slice_get is k i i g) (h k i (slice_get_within is k i g))

-- the same, one after another
abbrev Fit : List Instr → Type 0
Fit [] = Unit {0}
Fit (i ∷ is) = WellFormed i × Fit is

all_of : (is : List Instr) → Fit is → All WellFormed is
all_of [] h k d l = absurd (omega arith)
all_of (i ∷ is) h zero d l = h.0
all_of (i ∷ is) h (suc k) d l = all_of is h.1 k d (omega arith)

stand_from : (instrs is : List Instr) (here : ℕ) → All WellFormed instrs → ((k : ℕ) → k < length is → slice_get instrs (here + k) ≡ slice_get is k) → Stands (map word_of instrs) here is
stand_from instrs [] here fit same = tt
stand_from instrs (i ∷ is) here fit same =
    let z : here + 0 ≡ here = omega arith in
    let first = subst (λ n. slice_get instrs n ≡ Some i) z (same 0 (omega arith)) in (
      ap instr_of (index_of instrs here i first) ∙ encoded i (at_place instrs here i fit first),
      stand_from instrs is (here + 1) fit (λ k l. let y : here + 1 + k ≡ here + suc k = omega arith in ap (slice_get instrs) y ∙ same (suc k) (omega arith)),
    )

pub all_stand : (instrs : List Instr) → All WellFormed instrs → Stands (map word_of instrs) 0 instrs
all_stand instrs fit = stand_from instrs instrs 0 fit (λ k l. let z : 0 + k ≡ k = omega arith in ap (slice_get instrs) z)

at_most : (b : Bool) (n : ℕ) → (if b then n else 0) ≤ n
at_most true n = omega arith
at_most false n = omega arith

word_small : (i : Instr) → WellFormed i → word_of i < 65536
word_small (Address n) h = omega arith
word_small (Compute true c d j) h = omega arith
word_small (Compute false c d j) h = omega arith
word_small (Shift m left d c j) h = let small = h.1 in let few = h.2 in omega (arith, small, few, at_most m 4096, at_most left 2048, at_most d 1024)

pub all_words : (instrs : List Instr) → All WellFormed instrs → (k : ℕ) → slice_index (map word_of instrs) k < 65536
all_words [] fit k = omega arith
all_words (i ∷ is) fit zero = word_small i (fit 0 i (omega arith))
all_words (i ∷ is) fit (suc k) = all_words is (λ j d l. fit (suc j) d (omega arith)) k

pub size_is : (at : Routines) (here : ℕ) (c : Shape) → length (template at here c) ≡ size c
size_is at here (PushConstant n) = refl
size_is at here (PushAt base index) = refl
size_is at here (PushFirst base) = refl
size_is at here (PushWord address) = refl
size_is at here (PopAt base index) = refl
size_is at here (PopFirst base) = refl
size_is at here (PopWord address) = refl
size_is at here (Operate Add) = refl
size_is at here (Operate Sub) = refl
size_is at here (Operate And) = refl
size_is at here (Operate Or) = refl
size_is at here (Operate Neg) = refl
size_is at here (Operate Not) = refl
size_is at here (Operate ShiftLeft) = refl
size_is at here (Operate ShiftRight) = refl
size_is at here (Operate Eq) = refl
size_is at here (Operate Gt) = refl
size_is at here (Operate Lt) = refl
size_is at here (Goto target) = refl
size_is at here (IfGoto target) = refl
size_is at here (Call target arguments) = refl
size_is at here (Function locals) = function_length locals ∙ omega arith
size_is at here Return = refl

pub operation_some : (o : Operation) → 1 ≤ operation_words o
operation_some Add = omega arith
operation_some Sub = omega arith
operation_some And = omega arith
operation_some Or = omega arith
operation_some Neg = omega arith
operation_some Not = omega arith
operation_some ShiftLeft = omega arith
operation_some ShiftRight = omega arith
operation_some Eq = omega arith
operation_some Gt = omega arith
operation_some Lt = omega arith

pub size_some : (c : Shape) → 1 ≤ size c
size_some (Operate o) = operation_some o
size_some c = grind arith

function_fits : (n : ℕ) → Fit (function_code n)
function_fits zero = search arith
function_fits (suc n) = let r = function_fits n in search (arith, r)

fit_both : (a b : List Instr) → Fit a → Fit b → Fit (a ++ b)
fit_both [] b h k = k
fit_both (i ∷ a) b h k = (h.0, fit_both a b h.1 k)

load_fits : (n : ℕ) → n < 65536 → Fit (load n)
load_fits n small =
    elim (cases_lt n 32768) [
      | inl l ↦ rw (lt-ltb n 32768 l) (search (arith, l))
      | inr l ↦ rw (le-ltb n 32768 l) (search (arith, l))
    ]

order_fits : (j t here : ℕ) → here + 38 ≤ 32768 → j < 8 → t < 8 → Fit (order_routine (Compute false 12 0 j) (Compute false 12 0 t) here)
order_fits j t here h small low =
    let code = order_routine (Compute false 12 0 j) (Compute false 12 0 t) here in
    fit_both (take 13 code) (drop 13 code) (search arith) (fit_both (take 13 (drop 13 code)) (drop 26 code) (search arith) (search arith))

fits : (at : Routines) (here : ℕ) (c : Shape) → IsShape c → IsFound at (routine_of c) → here + size c ≤ 32768 → Fit (template at here c)
fits at here (PushConstant n) l f h = search arith
fits at here (PushAt base index) l f h = search arith
fits at here (PushFirst base) l f h = search arith
fits at here (PushWord address) l f h = search arith
fits at here (PopAt base index) l f h = search arith
fits at here (PopFirst base) l f h = search arith
fits at here (PopWord address) l f h = search arith
fits at here (Operate Add) l f h = search arith
fits at here (Operate Sub) l f h = search arith
fits at here (Operate And) l f h = search arith
fits at here (Operate Or) l f h = search arith
fits at here (Operate Neg) l f h = search arith
fits at here (Operate Not) l f h = search arith
fits at here (Operate ShiftLeft) l f h = search arith
fits at here (Operate ShiftRight) l f h = search arith
fits at here (Operate Eq) l f h = search arith
fits at here (Operate Gt) l f h = search arith
fits at here (Operate Lt) l f h = search arith
fits at here (Goto target) l f h = search arith
fits at here (IfGoto target) l f h = search arith
fits at here (Call target arguments) l f h =
    let code = template at here (Call target arguments) in
    fit_both (take 4 code) (drop 4 code) (search arith) (fit_both (load (5 + arguments)) (drop 6 code) (load_fits (5 + arguments) (omega (arith, l.1))) (search arith))
fits at here (Function locals) l f h = function_fits locals
fits at here Return l f h = search arith

start_fit : (at : Routines) (entry : ℕ) → entry < 32768 → at.call < 32768 → Fit (start_code at entry)
start_fit at entry h c =
    fit_both set_stack (template at 4 (Call entry 0) ++ (template at 16 (PopWord 5) ++ endless 21)) (search arith) (fit_both (template at 4 (Call entry 0)) (template at 16 (PopWord 5) ++ endless 21) (fits at 4 (Call entry 0) (omega arith, omega arith) c (omega arith)) (fit_both (template at 16 (PopWord 5)) (endless 21) (search arith) (search arith)))

pub template_fits : (at : Routines) (here : ℕ) (c : Shape) → IsShape c → IsFound at (routine_of c) → here + size c ≤ 32768 → All WellFormed (template at here c)
template_fits at here c l f h = all_of (template at here c) (fits at here c l f h)

start_fits : (at : Routines) (entry : ℕ) → entry < 32768 → at.call < 32768 → All WellFormed (start_code at entry)
start_fits at entry h c = all_of (start_code at entry) (start_fit at entry h c)

-- the routines
pub routine_length : (r : Routine) (at : ℕ) → length (routine_code r at) ≡ routine_size r
routine_length routine.Call at = refl
routine_length routine.Back at = refl
routine_length routine.Equal at = refl
routine_length routine.Greater at = refl
routine_length routine.Less at = refl

routine_fit : (r : Routine) (at : ℕ) → at + routine_size r ≤ 32768 → Fit (routine_code r at)
routine_fit routine.Call at h = search arith
routine_fit routine.Back at h = search arith
routine_fit routine.Equal at h = search arith
routine_fit routine.Greater at h = order_fits 1 3 at h (omega arith) (omega arith)
routine_fit routine.Less at h = order_fits 4 4 at h (omega arith) (omega arith)

pub routine_fits : (r : Routine) (at : ℕ) → at + routine_size r ≤ 32768 → All WellFormed (routine_code r at)
routine_fits r at h = all_of (routine_code r at) (routine_fit r at h)

pub templates_fit : TemplatesFit
templates_fit = record { number = size_is; some = size_some; well_formed = template_fits; routine_number = routine_length; routine_well_formed = routine_fits; start_number = λ at entry. refl; start_well_formed = start_fits }

pub instructions_stand : InstructionsStand
instructions_stand = record { all = all_stand; words = all_words; parts = λ image here a b h. (stands_front image here a b h, stands_back image here a b h) }

pub starts : Starts
starts = record {
  sets = λ image at entry st.
      let x : Data = record { a = 0; d = 0; m = λ k. 0 } in
      let w : AreWords x = record { a_word = omega arith; d_word = omega arith; m_words = λ k. omega arith } in
      set_stack_goes image (λ k. k < 4) 0 (omega arith) (λ k a b. b) x w (up_to image 0 4 (start_code at entry) st)
      (λ y wy sp same. record { pc = refl; sp = sp; zeros = same; words = record { a_word = wy.a_word; d_word = wy.d_word; memory_words = wy.m_words } });
  stands = λ image at entry st.
      (up_to image 4 12 (drop 4 (start_code at entry)) (from_place image 0 4 (start_code at entry) st), up_to image 16 5 (drop 16 (start_code at entry)) (from_place image 0 16 (start_code at entry) st), from_place image 0 21 (start_code at entry) st);
}
