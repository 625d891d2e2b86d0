-- The instructions of each command, by its shape. (The book, chapters 7 and 8: the mapping of the stack machine onto Hack.)
-- The words 0 to 4 are SP, LCL, ARG, THIS and THAT; SP is the address above the topmost value. The words 13 and 14 are free for use within a command.
use Rattle.std.specs.Prelude.{ℕ, zero, suc, ◌+◌, ◌*◌, ◌%◌, nat_lt, if◌then◌else◌, List, [], ◌∷◌, ◌++◌, Option, None, Some}
use Rattle.word16.specs.Words.{word_not}
use Rattle.hack_isa.specs.declared.Instr.{Instr}
use Rattle.hack_isa.specs.declared.Instr.TheVariants.{Address}
use Rattle.image_map.specs.Computer.{endless_loop}
use Rattle.vm_tree.specs.declared.command.Operation.{Operation}
use Rattle.vm_tree.specs.declared.command.Operation.TheVariants.{Add, Sub, And, Or, Neg, Not, ShiftLeft, ShiftRight, Eq, Gt, Lt}
use Rattle.vm_templates.specs.declared.shape.Shape.{Shape}
use Rattle.vm_templates.specs.declared.shape.Shape.TheVariants.{PushConstant, PushAt, PushFirst, PushWord, PopAt, PopFirst, PopWord, Operate, Goto, IfGoto, Call, Function, Return}
use Rattle.vm_templates.specs.declared.routines.Routine.{Routine}
use Rattle.vm_templates.specs.declared.routines.Routine.TheVariants as routine
use Rattle.vm_templates.specs.declared.routines.Routines.{Routines}
use Rattle.vm_templates.specs.declared.instructions.TheConstants.{D_IS_A, D_IS_NOT_A, D_IS_M, A_IS_M, M_IS_D, M_IS_0, M_IS_MINUS_1, AM_IS_M_MINUS_1, AM_IS_M_PLUS_1, A_IS_A_MINUS_1, A_IS_M_MINUS_1, D_IS_M_PLUS_1, MD_IS_M_PLUS_1, A_IS_D_PLUS_M, D_IS_D_PLUS_M, D_IS_D_AND_M, D_IS_D_OR_M, D_IS_D_MINUS_M, D_IS_M_MINUS_D, A_IS_D_MINUS_A, M_IS_D_PLUS_M, M_IS_M_MINUS_D, M_IS_D_AND_M, M_IS_D_OR_M, M_IS_MINUS_M, M_IS_NOT_M, M_IS_M_SHIFTED_LEFT, M_IS_M_SHIFTED_RIGHT, JUMP, IF_D_LESS, IF_D_GREATER, IF_D_EQUAL, IF_D_NOT_LESS, IF_D_NOT_EQUAL}

-- D goes on the stack
abbrev pub push_d : List Instr
push_d = Address 0 ∷ AM_IS_M_PLUS_1 ∷ A_IS_A_MINUS_1 ∷ M_IS_D ∷ []

-- a number goes on the stack
abbrev pub push_constant : ℕ → List Instr
push_constant n = Address n ∷ D_IS_A ∷ push_d

-- the word at an address goes on the stack
abbrev pub push_word : ℕ → List Instr
push_word address = Address address ∷ D_IS_M ∷ push_d

-- the word at an index from where the register points goes on the stack
abbrev pub push_at : ℕ → ℕ → List Instr
push_at base index = Address index ∷ D_IS_A ∷ Address base ∷ A_IS_D_PLUS_M ∷ D_IS_M ∷ push_d

-- the word that the register points to goes on the stack
abbrev pub push_first : ℕ → List Instr
push_first base = Address base ∷ A_IS_M ∷ D_IS_M ∷ push_d

-- the topmost value goes to D
abbrev pub pop_d : List Instr
pop_d = Address 0 ∷ AM_IS_M_MINUS_1 ∷ D_IS_M ∷ []

-- the topmost value goes to an address
abbrev pub pop_word : ℕ → List Instr
pop_word address = pop_d ++ Address address ∷ M_IS_D ∷ []

-- the topmost value goes to an index from where the register points; the address waits in the word 13
abbrev pub pop_at : ℕ → ℕ → List Instr
pop_at base index =
    Address index ∷ D_IS_A ∷ Address base ∷ D_IS_D_PLUS_M ∷ Address 13 ∷ M_IS_D ∷ (pop_d ++ Address 13 ∷ A_IS_M ∷ M_IS_D ∷ [])

-- the topmost value goes to the word that the register points to
abbrev pub pop_first : ℕ → List Instr
pop_first base = pop_d ++ Address base ∷ A_IS_M ∷ M_IS_D ∷ []

-- the two topmost values give way to one, which the instruction makes in the place of the lower from D, the upper
abbrev pub join : Instr → List Instr
join operation = pop_d ++ A_IS_A_MINUS_1 ∷ operation ∷ []

-- the topmost value gives way to another, which the instruction makes
abbrev pub turn : Instr → List Instr
turn operation = Address 0 ∷ A_IS_M_MINUS_1 ∷ operation ∷ []

-- on to an address
abbrev pub go_to : ℕ → List Instr
go_to target = Address target ∷ JUMP ∷ []

-- on to an address if the topmost value is not 0; it is taken away
abbrev pub if_go_to : ℕ → List Instr
if_go_to target = pop_d ++ Address target ∷ IF_D_NOT_EQUAL ∷ []

-- How a comparison goes through its routine: the address to come back to is in D.
abbrev pub compare_by : ℕ → ℕ → List Instr
compare_by routine back = Address back ∷ D_IS_A ∷ go_to routine

-- A number goes to D. An instruction names the numbers below 32,768; of a greater one it names the word with the other bits.
abbrev pub load : ℕ → List Instr
load n = Address (if nat_lt n 32768 then n else word_not n) ∷ (if nat_lt n 32768 then D_IS_A else D_IS_NOT_A) ∷ []

-- How a call goes through its routine. The word 13 has the function's address. The word 14 has one number, of the arguments and of the five
-- words that are saved, together. The return address is in D.
abbrev pub call_by : ℕ → ℕ → ℕ → ℕ → List Instr
call_by routine back target arguments =
    Address target ∷ D_IS_A ∷ Address 13 ∷ M_IS_D ∷ (load (5 + arguments) ++ Address 14 ∷ M_IS_D ∷ Address back ∷ D_IS_A ∷ go_to routine)

-- D goes where SP points
abbrev pub put_d : List Instr
put_d = Address 0 ∷ A_IS_M ∷ M_IS_D ∷ []

-- the word of a register goes above the one that SP points to, and SP points to it
abbrev pub save : ℕ → List Instr
save register = Address register ∷ D_IS_M ∷ Address 0 ∷ AM_IS_M_PLUS_1 ∷ M_IS_D ∷ []

-- SP is above the topmost word again, LCL is SP, and ARG is as far below as the word 14 says
abbrev pub set_pointers : List Instr
set_pointers = Address 0 ∷ MD_IS_M_PLUS_1 ∷ Address 1 ∷ M_IS_D ∷ Address 14 ∷ D_IS_D_MINUS_M ∷ Address 2 ∷ M_IS_D ∷ []

-- on to the address that is in the word 13
abbrev pub go_on : List Instr
go_on = Address 13 ∷ A_IS_M ∷ JUMP ∷ []

-- The return address and the four registers go on the stack, and then the function is entered. SP points to the topmost of them until all are there.
abbrev pub call_routine : List Instr
call_routine = put_d ++ (save 1 ++ (save 2 ++ (save 3 ++ (save 4 ++ (set_pointers ++ go_on)))))

-- one local of 0
abbrev pub push_zero : List Instr
push_zero = Address 0 ∷ AM_IS_M_PLUS_1 ∷ A_IS_A_MINUS_1 ∷ M_IS_0 ∷ []

-- as many locals of 0, and one instruction more, so that each function has one
abbrev pub function_code : ℕ → List Instr
function_code zero = Address 0 ∷ []
function_code (suc n) = push_zero ++ function_code n

-- the return address goes to the word 14, before the result is put, which may stand where the return address stood
abbrev pub save_return : List Instr
save_return = Address 1 ∷ D_IS_M ∷ Address 5 ∷ A_IS_D_MINUS_A ∷ D_IS_M ∷ Address 14 ∷ M_IS_D ∷ []

-- the topmost value goes to where ARG points, and SP is above it
abbrev pub put_result : List Instr
put_result = pop_d ++ Address 2 ∷ A_IS_M ∷ M_IS_D ∷ Address 2 ∷ D_IS_M_PLUS_1 ∷ Address 0 ∷ M_IS_D ∷ []

-- LCL goes down the saved words: the next one goes to a register
abbrev pub restore : ℕ → List Instr
restore register = Address 1 ∷ AM_IS_M_MINUS_1 ∷ D_IS_M ∷ Address register ∷ M_IS_D ∷ []

-- and the last one to LCL
abbrev pub restore_lcl : List Instr
restore_lcl = Address 1 ∷ A_IS_M_MINUS_1 ∷ D_IS_M ∷ Address 1 ∷ M_IS_D ∷ []

-- back to the return address, which is in the word 14
abbrev pub go_back : List Instr
go_back = Address 14 ∷ A_IS_M ∷ JUMP ∷ []

abbrev pub return_code : List Instr
return_code = save_return ++ (put_result ++ (restore 4 ++ (restore 3 ++ (restore 2 ++ (restore_lcl ++ go_back)))))

-- How the routine of a comparison of x and, above it, y begins. The address to come back to, which is in D, waits in the word 14. Then y is taken
-- away and goes to D; it still stands where it stood, above SP. A is the address of x.
abbrev pub begin_compare : List Instr
begin_compare = Address 14 ∷ M_IS_D ∷ Address 0 ∷ AM_IS_M_MINUS_1 ∷ D_IS_M ∷ A_IS_A_MINUS_1 ∷ []

-- 0 over the topmost word
abbrev pub put_false : List Instr
put_false = Address 0 ∷ A_IS_M_MINUS_1 ∷ M_IS_0 ∷ []

-- How it ends: the -1 that is the topmost word stays there if the jump is taken, else 0 goes over it. Then back.
abbrev pub decide : Instr → ℕ → List Instr
decide jump here = Address (here + 5) ∷ jump ∷ (put_false ++ go_back)

-- x, to which A points, gives way to -1 where x - y compares to 0 as the jump does, else to 0; y is in D
abbrev pub by_difference : Instr → ℕ → List Instr
by_difference jump here = D_IS_M_MINUS_D ∷ M_IS_MINUS_1 ∷ decide jump (here + 2)

-- `eq`: two values are equal where their difference is 0, also where it overflows.
abbrev pub equal_routine : ℕ → List Instr
equal_routine at = begin_compare ++ by_difference IF_D_EQUAL (at + 6)

-- y, which stands above SP, goes to D again, and A is the address of x
abbrev pub load_again : List Instr
load_again = Address 0 ∷ A_IS_M ∷ D_IS_M ∷ A_IS_A_MINUS_1 ∷ []

-- `gt` and `lt`: where both values are negative, or neither is, their difference does not overflow, and decides it. Where the signs differ,
-- the jump `by_sign` decides it by x alone.
abbrev pub order_routine : Instr → Instr → ℕ → List Instr
order_routine jump by_sign at =
    begin_compare ++ (D_IS_D_OR_M ∷ Address (at + 24) ∷ IF_D_NOT_LESS ∷ (load_again ++ (D_IS_D_AND_M ∷ Address (at + 24) ∷ IF_D_LESS ∷
    Address 0 ∷ A_IS_M_MINUS_1 ∷ D_IS_M ∷ M_IS_MINUS_1 ∷ Address (at + 35) ∷ by_sign ∷ Address (at + 32) ∷ JUMP ∷
    (load_again ++ by_difference jump (at + 28)))))

-- the instructions of a routine at an address
abbrev pub routine_code : Routine → ℕ → List Instr
routine_code routine.Call at = call_routine
routine_code routine.Back at = return_code
routine_code routine.Equal at = equal_routine at
routine_code routine.Greater at = order_routine IF_D_GREATER IF_D_NOT_LESS at
routine_code routine.Less at = order_routine IF_D_LESS IF_D_LESS at

-- the number of these instructions
abbrev pub routine_size : Routine → ℕ
routine_size routine.Call = 34
routine_size routine.Back = 40
routine_size routine.Equal = 16
routine_size routine.Greater = 38
routine_size routine.Less = 38

-- where a routine stands
abbrev pub routine_at : Routines → Routine → ℕ
routine_at at routine.Call = at.call
routine_at at routine.Back = at.back
routine_at at routine.Equal = at.equal
routine_at at routine.Greater = at.greater
routine_at at routine.Less = at.less

-- the routine that an operation goes through
abbrev pub compared_by : Operation → Option Routine
compared_by Eq = Some routine.Equal
compared_by Gt = Some routine.Greater
compared_by Lt = Some routine.Less
compared_by o = None

-- the routine that a command goes through
abbrev pub routine_of : Shape → Option Routine
routine_of (Operate o) = compared_by o
routine_of (Call target arguments) = Some routine.Call
routine_of Return = Some routine.Back
routine_of c = None

-- The instructions of an operation at an address, where the routines have theirs. The address after the last word of the
-- longest image, 32,768, is 0.
abbrev pub operation_code : Routines → ℕ → Operation → List Instr
operation_code at here Add = join M_IS_D_PLUS_M
operation_code at here Sub = join M_IS_M_MINUS_D
operation_code at here And = join M_IS_D_AND_M
operation_code at here Or = join M_IS_D_OR_M
operation_code at here Neg = turn M_IS_MINUS_M
operation_code at here Not = turn M_IS_NOT_M
operation_code at here ShiftLeft = turn M_IS_M_SHIFTED_LEFT
operation_code at here ShiftRight = turn M_IS_M_SHIFTED_RIGHT
operation_code at here Eq = compare_by at.equal ((here + 4) % 32768)
operation_code at here Gt = compare_by at.greater ((here + 4) % 32768)
operation_code at here Lt = compare_by at.less ((here + 4) % 32768)

-- the number of these instructions
abbrev pub operation_words : Operation → ℕ
operation_words Add = 5
operation_words Sub = 5
operation_words And = 5
operation_words Or = 5
operation_words Neg = 3
operation_words Not = 3
operation_words ShiftLeft = 3
operation_words ShiftRight = 3
operation_words Eq = 4
operation_words Gt = 4
operation_words Lt = 4

-- the instructions of a command at such an address
abbrev pub template : Routines → ℕ → Shape → List Instr
template at here (PushConstant n) = push_constant n
template at here (PushAt base index) = push_at base index
template at here (PushFirst base) = push_first base
template at here (PushWord address) = push_word address
template at here (PopAt base index) = pop_at base index
template at here (PopFirst base) = pop_first base
template at here (PopWord address) = pop_word address
template at here (Operate o) = operation_code at here o
template at here (Goto target) = go_to target
template at here (IfGoto target) = if_go_to target
template at here (Call target arguments) = call_by at.call ((here + 12) % 32768) target arguments
template at here (Function locals) = function_code locals
template at here Return = go_to at.back

-- the number of these instructions
abbrev pub size : Shape → ℕ
size (PushConstant n) = 6
size (PushAt base index) = 9
size (PushFirst base) = 7
size (PushWord address) = 6
size (PopAt base index) = 12
size (PopFirst base) = 6
size (PopWord address) = 5
size (Operate o) = operation_words o
size (Goto target) = 2
size (IfGoto target) = 5
size (Call target arguments) = 12
size (Function locals) = 4 * locals + 1
size Return = 2

-- SP is 256
abbrev pub set_stack : List Instr
set_stack = Address 256 ∷ D_IS_A ∷ Address 0 ∷ M_IS_D ∷ []

-- The endless loop at an address. (The book, chapter 4.)
abbrev pub endless : ℕ → List Instr
endless here = Address here ∷ JUMP ∷ []

-- how many instructions the start has
abbrev pub start_size : ℕ
start_size = 23

-- The start, at address 0: the stack, `call Sys.init 0`, `pop temp 0`, and the endless loop. (The book, chapter 8.)
abbrev pub start_code : Routines → ℕ → List Instr
start_code at sys_init = set_stack ++ (template at 4 (Call sys_init 0) ++ (template at 16 (PopWord 5) ++ endless endless_loop))
