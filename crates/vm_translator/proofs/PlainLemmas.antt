-- Each instruction of an image that fits is plain.
use Rattle.std.proofs.Common.{◌≡◌, ⊎_elim, ◌+◌, ◌%◌, ◌<◌, ◌≤◌, ◌++◌, ◌⊎◌, ◌&&◌, ℕ, zero, suc, Bool, true, false, List, [], ◌∷◌, length, drop, nat_eq, nat_lt, unwrap_or, Option, Some, None, refl, sym, subst, ◌∙◌, arith, inl, inr, if◌then◌else◌}
use Rattle.std.specs.Prelude.{All, not}
use Rattle.std.specs.List.{flat_map, list_any, list_all}
use Rattle.std.proofs.lemmas.Bool.{and_parts, or_parts, ltb-true, lt-ltb, le-ltb, cases_Bool, cases_eq, cases_lt, eqb-false}
use Rattle.hack_isa.specs.declared.Instr.{Instr}
use Rattle.hack_isa.specs.declared.Instr.TheVariants.{Address, Compute, Shift}
use Rattle.vm_templates.specs.declared.shape.Shape.{Shape}
use Rattle.vm_templates.specs.declared.shape.Shape.TheVariants as shape
use Rattle.vm_templates.specs.declared.instructions.TheConstants.{D_IS_A, D_IS_NOT_A, D_IS_M, A_IS_M, M_IS_D, M_IS_MINUS_1, A_IS_M_MINUS_1, A_IS_D_PLUS_M, D_IS_D_PLUS_M, D_IS_D_AND_M, D_IS_D_OR_M, D_IS_M_MINUS_D, M_IS_D_PLUS_M, M_IS_M_MINUS_D, M_IS_D_AND_M, M_IS_D_OR_M, M_IS_MINUS_M, M_IS_NOT_M, M_IS_M_SHIFTED_LEFT, M_IS_M_SHIFTED_RIGHT, JUMP, IF_D_LESS, IF_D_GREATER, IF_D_EQUAL, IF_D_NOT_LESS, IF_D_NOT_EQUAL}
use Rattle.vm_templates.specs.declared.routines.Routine.{Routine}
use Rattle.vm_templates.specs.declared.routines.Routine.TheVariants as routine
use Rattle.vm_templates.specs.declared.routines.Routines.{Routines}
use Rattle.vm_templates.specs.Laws.{IsFound}
use Rattle.vm_templates.specs.Templates.{begin_compare, by_difference, call_by, call_routine, compare_by, decide, equal_routine, function_code, go_back, join, load, load_again, order_routine, pop_d, push_constant, push_d, push_word, push_zero, put_false, return_code, routine_at, routine_code, routine_of, routine_size, set_stack, endless, size, start_code, template, turn}
use Rattle.vm_tree.specs.declared.command.Operation.TheVariants as operation
use Rattle.vm_tree.specs.declared.command.Segment.{Segment}
use Rattle.vm_tree.specs.declared.command.Segment.TheVariants as segment
use Rattle.vm_link.specs.declared.linked.Code.{Code}
use Rattle.vm_link.specs.declared.linked.Step.{Step}
use Rattle.vm_link.specs.declared.linked.Step.TheVariants as step
use Rattle.vm_link.specs.declared.linked.Linked.{Linked}
use Rattle.vm_link.specs.declared.linked.LinkedFunction.{LinkedFunction}
use Rattle.vm_translator.specs.declared.layout.Placed.{Placed}
use Rattle.vm_translator.specs.declared.ends.Closing.{Closing}
use Rattle.vm_translator.specs.declared.ends.Closing.TheVariants as closes
use Rattle.vm_translator.specs.Shapes.{push_from, pop_to, push_shape, pop_shape, shape_of, step_size}
use Rattle.vm_translator.specs.Places.{address, base_of, code_at, end_of, named_symbol, placed_code, placed_from, program, target_of, words_in, words_of}
use Rattle.vm_translator.specs.Image.{closing, closing_code, closing_of, closing_size, entry_of, image_of, names, names_end, opening, piece, routines, shared_at}
use Rattle.vm_translator.specs.Shared.{routine_for, shared_from, used_routines, uses, words_shared}
use Rattle.vm_translator.proofs.Routines.{Contained, ContainedIn, contained_uses, routine_some, routine_within, start_uses}
use Rattle.vm_translator.specs.Plain.{IsPlain, is_spelled}
use Rattle.vm_translator.specs.Tables.{IsReady}
use Rattle.vm_translator.proofs.Sums.{routine_to, size_to, words_parts, words_in_parts}
use Rattle.vm_translator.proofs.Sizes.{closing_some, length_image, length_with}
use Rattle.vm_translator.proofs.Laid.{Each, each_all, each_both, each_of}

⊎_by : {A B C : Type 0} → A ⊎ B → (A → C) → (B → C) → C
⊎_by (inl a) f g = f a
⊎_by (inr b) f g = g b

abbrev is_plain : Instr → Bool
is_plain (Address n) = nat_lt n 32768
is_plain (Compute memory comp dest jump) = nat_lt comp 64 && (nat_lt dest 8 && (nat_lt jump 8 && is_spelled memory comp))
is_plain (Shift memory left d dest jump) = not (d && memory) && (nat_lt dest 8 && nat_lt jump 8)

none_of : (b : Bool) → not b ≡ true → b ≡ false
none_of true e = absurd (cc e)
none_of false e = refl

plain : (i : Instr) → is_plain i ≡ true → IsPlain i
plain (Address n) e = ltb-true n 32768 e
plain (Compute memory comp dest jump) e =
    let a = and_parts _ _ e in
    let b = and_parts _ _ a.1 in
    let c = and_parts _ _ b.1 in
    ((ltb-true comp 64 a.0, ltb-true dest 8 b.0, ltb-true jump 8 c.0), c.1)
plain (Shift memory left d dest jump) e =
    let a = and_parts _ _ e in
    let b = and_parts _ _ a.1 in
    (none_of (d && memory) a.0, ltb-true dest 8 b.0, ltb-true jump 8 b.1)

plain_all : (is : List Instr) → list_all is_plain is ≡ true → Each IsPlain is
unfolding Each
plain_all [] e = tt
plain_all (i ∷ is) e = let h = and_parts _ _ e in (plain i h.0, plain_all is h.1)

-- the numbers of a shape are those of instructions
abbrev IsNumbered : Shape → Type 0
IsNumbered (shape.PushConstant n) = n < 32768
IsNumbered (shape.PushAt b i) = (b < 32768) × (i < 32768)
IsNumbered (shape.PushFirst b) = b < 32768
IsNumbered (shape.PushWord a) = a < 32768
IsNumbered (shape.PopAt b i) = (b < 32768) × (i < 32768)
IsNumbered (shape.PopFirst b) = b < 32768
IsNumbered (shape.PopWord a) = a < 32768
IsNumbered (shape.Goto t) = t < 32768
IsNumbered (shape.IfGoto t) = t < 32768
IsNumbered (shape.Call t n) = (t < 32768) × (n < 32768)
IsNumbered _ = Unit {0}

plain_constant : (n : ℕ) → n < 32768 → Each IsPlain (push_constant n)
unfolding Each
plain_constant n h = (h, plain_all (D_IS_A ∷ push_d) refl)

plain_word : (a : ℕ) → a < 32768 → Each IsPlain (push_word a)
unfolding Each
plain_word a h = (h, plain_all (D_IS_M ∷ push_d) refl)

plain_load : (n : ℕ) → n < 65536 → Each IsPlain (load n)
unfolding Each
plain_load n small =
    ⊎_elim
    (λ l. rw (lt-ltb n 32768 l) (l, (plain D_IS_A refl, tt)))
    (λ l. rw (le-ltb n 32768 l) (omega (arith, l), (plain D_IS_NOT_A refl, tt)))
    (cases_lt n 32768)

plain_call : (there back t n : ℕ) → there < 32768 → back < 32768 → t < 32768 → n < 32768 → Each IsPlain (call_by there back t n)
unfolding Each
plain_call there back t n r b h l =
    let d = plain_load (5 + n) (omega (arith, l)) in
    (h, (plain D_IS_A refl, (plain (Address 13) refl, (plain M_IS_D refl, (d.0, (d.1.0, (plain (Address 14) refl, (plain M_IS_D refl, (b, (plain D_IS_A refl, (r, plain_all (JUMP ∷ []) refl)))))))))))

plain_compare_by : (there back : ℕ) → there < 32768 → back < 32768 → Each IsPlain (compare_by there back)
unfolding Each
plain_compare_by there back r b = (b, (plain D_IS_A refl, (r, plain_all (JUMP ∷ []) refl)))

plain_function : (n : ℕ) → Each IsPlain (function_code n)
plain_function zero = plain_all (Address 0 ∷ []) refl
plain_function (suc n) = each_both IsPlain push_zero (function_code n) (plain_all push_zero refl) (plain_function n)

plain_decide : (jump : Instr) (here : ℕ) → is_plain jump ≡ true → here + 8 ≤ 32768 → Each IsPlain (decide jump here)
unfolding Each
plain_decide jump here j h = (omega arith, (plain jump j, plain_all (put_false ++ go_back) refl))

plain_difference : (jump : Instr) (here : ℕ) → is_plain jump ≡ true → here + 10 ≤ 32768 → Each IsPlain (by_difference jump here)
unfolding Each
plain_difference jump here j h = (plain D_IS_M_MINUS_D refl, (plain M_IS_MINUS_1 refl, plain_decide jump (here + 2) j (omega arith)))

plain_equal : (at : ℕ) → at + 16 ≤ 32768 → Each IsPlain (equal_routine at)
plain_equal at h = each_both IsPlain begin_compare (by_difference IF_D_EQUAL (at + 6)) (plain_all begin_compare refl) (plain_difference IF_D_EQUAL (at + 6) refl (omega arith))

-- where the signs differ, and what follows
plain_signs : (jump by_sign : Instr) (at : ℕ) → is_plain jump ≡ true → is_plain by_sign ≡ true → at + 38 ≤ 32768 → Each IsPlain (drop 13 (order_routine jump by_sign at))
unfolding Each
plain_signs jump by_sign at j s h =
    let rest = each_both IsPlain load_again (by_difference jump (at + 28)) (plain_all load_again refl) (plain_difference jump (at + 28) j (omega arith)) in
    (plain D_IS_D_AND_M refl, (omega arith, (plain IF_D_LESS refl, (plain (Address 0) refl, (plain A_IS_M_MINUS_1 refl, (plain D_IS_M refl, (plain M_IS_MINUS_1 refl, (omega arith, (plain by_sign s, (omega arith, (plain JUMP refl, rest)))))))))))

plain_order : (jump by_sign : Instr) (at : ℕ) → is_plain jump ≡ true → is_plain by_sign ≡ true → at + 38 ≤ 32768 → Each IsPlain (order_routine jump by_sign at)
unfolding Each
plain_order jump by_sign at j s h =
    let code = order_routine jump by_sign at in
    each_both IsPlain begin_compare (drop 6 code) (plain_all begin_compare refl)
    (plain D_IS_D_OR_M refl, (omega arith, (plain IF_D_NOT_LESS refl, each_both IsPlain load_again (drop 13 code) (plain_all load_again refl) (plain_signs jump by_sign at j s h))))

pub plain_routine : (r : Routine) (at : ℕ) → at + routine_size r ≤ 32768 → Each IsPlain (routine_code r at)
plain_routine routine.Call at h = plain_all call_routine refl
plain_routine routine.Back at h = plain_all return_code refl
plain_routine routine.Equal at h = plain_equal at h
plain_routine routine.Greater at h = plain_order IF_D_GREATER IF_D_NOT_LESS at refl refl h
plain_routine routine.Less at h = plain_order IF_D_LESS IF_D_LESS at refl refl h

plain_shared : (at : ℕ) (rs : List Routine) → at + words_shared rs ≤ 32768 → Each IsPlain (shared_from at rs)
unfolding Each
plain_shared at [] h = tt
plain_shared at (r ∷ rs) h = each_both IsPlain (routine_code r at) (shared_from (at + routine_size r) rs) (plain_routine r at (omega arith)) (plain_shared (at + routine_size r) rs (omega arith))

plain_template : (rs : Routines) (here : ℕ) (s : Shape) → here + size s ≤ 32768 → IsFound rs (routine_of s) → IsNumbered s → Each IsPlain (template rs here s)
unfolding Each
plain_template rs here (shape.PushConstant n) h f w = plain_constant n w
plain_template rs here (shape.PushAt b i) h f w = (w.1, (plain D_IS_A refl, (w.0, plain_all (A_IS_D_PLUS_M ∷ D_IS_M ∷ push_d) refl)))
plain_template rs here (shape.PushFirst b) h f w = (w, plain_all (A_IS_M ∷ D_IS_M ∷ push_d) refl)
plain_template rs here (shape.PushWord a) h f w = plain_word a w
plain_template rs here (shape.PopAt b i) h f w =
    (w.1, (plain D_IS_A refl, (w.0, plain_all (D_IS_D_PLUS_M ∷ Address 13 ∷ M_IS_D ∷ (pop_d ++ Address 13 ∷ A_IS_M ∷ M_IS_D ∷ [])) refl)))
plain_template rs here (shape.PopFirst b) h f w = each_both IsPlain pop_d (Address b ∷ A_IS_M ∷ M_IS_D ∷ []) (plain_all pop_d refl) (w, plain_all (A_IS_M ∷ M_IS_D ∷ []) refl)
plain_template rs here (shape.PopWord a) h f w = each_both IsPlain pop_d (Address a ∷ M_IS_D ∷ []) (plain_all pop_d refl) (w, plain_all (M_IS_D ∷ []) refl)
plain_template rs here (shape.Operate operation.Add) h f w = plain_all (join M_IS_D_PLUS_M) refl
plain_template rs here (shape.Operate operation.Sub) h f w = plain_all (join M_IS_M_MINUS_D) refl
plain_template rs here (shape.Operate operation.And) h f w = plain_all (join M_IS_D_AND_M) refl
plain_template rs here (shape.Operate operation.Or) h f w = plain_all (join M_IS_D_OR_M) refl
plain_template rs here (shape.Operate operation.Neg) h f w = plain_all (turn M_IS_MINUS_M) refl
plain_template rs here (shape.Operate operation.Not) h f w = plain_all (turn M_IS_NOT_M) refl
plain_template rs here (shape.Operate operation.ShiftLeft) h f w = plain_all (turn M_IS_M_SHIFTED_LEFT) refl
plain_template rs here (shape.Operate operation.ShiftRight) h f w = plain_all (turn M_IS_M_SHIFTED_RIGHT) refl
plain_template rs here (shape.Operate operation.Eq) h f w = plain_compare_by rs.equal ((here + 4) % 32768) f (omega arith)
plain_template rs here (shape.Operate operation.Gt) h f w = plain_compare_by rs.greater ((here + 4) % 32768) f (omega arith)
plain_template rs here (shape.Operate operation.Lt) h f w = plain_compare_by rs.less ((here + 4) % 32768) f (omega arith)
plain_template rs here (shape.Goto t) h f w = (w, plain_all (JUMP ∷ []) refl)
plain_template rs here (shape.IfGoto t) h f w = each_both IsPlain pop_d (Address t ∷ IF_D_NOT_EQUAL ∷ []) (plain_all pop_d refl) (w, plain_all (IF_D_NOT_EQUAL ∷ []) refl)
plain_template rs here (shape.Call t n) h f w = plain_call rs.call ((here + 12) % 32768) t n f (omega arith) w.0 w.1
plain_template rs here (shape.Function n) h f w = plain_function n
plain_template rs here shape.Return h f w = (f, plain_all (JUMP ∷ []) refl)

numbered_from : (base i : ℕ) → base < 32768 → IsNumbered (push_from base i)
numbered_from base zero h = h
numbered_from base (suc i) h = (h, omega arith)

numbered_to : (base i : ℕ) → base < 32768 → IsNumbered (pop_to base i)
numbered_to base zero h = h
numbered_to base (suc i) h = (h, omega arith)

numbered_push : (g : Segment) (i : ℕ) → IsNumbered (push_shape g i)
numbered_push segment.Argument i = numbered_from 2 i (omega arith)
numbered_push segment.Local i = numbered_from 1 i (omega arith)
numbered_push segment.Static i = omega arith
numbered_push segment.Constant i = omega arith
numbered_push segment.This i = numbered_from 3 i (omega arith)
numbered_push segment.That i = numbered_from 4 i (omega arith)
numbered_push segment.Pointer i = omega arith
numbered_push segment.Temp i = omega arith

numbered_pop : (g : Segment) (i : ℕ) → IsNumbered (pop_shape g i)
numbered_pop segment.Argument i = numbered_to 2 i (omega arith)
numbered_pop segment.Local i = numbered_to 1 i (omega arith)
numbered_pop segment.Static i = omega arith
numbered_pop segment.Constant i = omega arith
numbered_pop segment.This i = numbered_to 3 i (omega arith)
numbered_pop segment.That i = numbered_to 4 i (omega arith)
numbered_pop segment.Pointer i = omega arith
numbered_pop segment.Temp i = omega arith

numbered : (to : ℕ) (s : Step) → to < 32768 → IsNumbered (shape_of to s)
numbered to (step.Operate o) h = tt
numbered to (step.Push g i) h = numbered_push g i
numbered to (step.Pop g i) h = numbered_pop g i
numbered to (step.Goto p) h = h
numbered to (step.IfGoto p) h = h
numbered to (step.Function n) h = tt
numbered to (step.Call f n) h = (h, omega arith)
numbered to step.Return h = tt

plain_piece : (rs : Routines) (base : ℕ) (fs : List LinkedFunction) (c : Placed) → c.at + step_size c.code.step ≤ 32768 → IsFound rs (routine_for c.code.step) → target_of base fs c.function c.code.step < 32768 → Each IsPlain (piece rs base fs c)
plain_piece rs base fs c h f t =
    let s = size_to (target_of base fs c.function c.code.step) c.code.step in
    plain_template rs c.at (shape_of (target_of base fs c.function c.code.step) c.code.step) (omega arith)
    (subst (IsFound rs) (sym (routine_to (target_of base fs c.function c.code.step) c.code.step)) f) (numbered (target_of base fs c.function c.code.step) c.code.step t)

each_flat : {A B : Type 0} (P : B → Type 0) (f : A → List B) (xs : List A) → Each (λ x. Each P (f x)) xs → Each P (flat_map f xs)
unfolding Each
each_flat P f [] e = tt
each_flat P f (x ∷ xs) e = each_both P (f x) (flat_map f xs) e.0 (each_flat P f xs e.1)

each_map : {A : Type 0} (P Q R : A → Type 0) (xs : List A) → ((x : A) → P x → Q x → R x) → Each P xs → Each Q xs → Each R xs
unfolding Each
each_map P Q R [] f a b = tt
each_map P Q R (x ∷ xs) f a b = (f x a.0 b.0, each_map P Q R xs f a.1 b.1)

none_each : {A : Type 0} (f : A → Bool) (xs : List A) → list_any f xs ≡ false → Each (λ x. f x ≡ false) xs
unfolding Each
none_each f [] e = tt
none_each f (x ∷ xs) e = let h = or_parts _ _ e in (h.0, none_each f xs h.1)

every : {A : Type 0} (P : A → Type 0) (xs : List A) → ((x : A) → P x) → Each P xs
unfolding Each
every P [] h = tt
every P (x ∷ xs) h = (h x, every P xs h)

pub address_within : (base : ℕ) (fs : List LinkedFunction) (k p : ℕ) → address base fs k p ≤ base + words_in fs
address_within base fs k p = let w = words_in_parts fs k in let q = words_parts (code_at fs k) p in omega arith

-- a step leads to the end at most, and below it where it does not name it
target_within : (base : ℕ) (fs : List LinkedFunction) (k : ℕ) (s : Step) (n : ℕ) → base + words_in fs < n → target_of base fs k s < n
target_within base fs k (step.Goto p) n h = let w = address_within base fs k p in omega arith
target_within base fs k (step.IfGoto p) n h = let w = address_within base fs k p in omega arith
target_within base fs k (step.Call f m) n h = let w = address_within base fs f 0 in omega arith
target_within base fs k (step.Operate o) n h = omega arith
target_within base fs k (step.Push g i) n h = omega arith
target_within base fs k (step.Pop g i) n h = omega arith
target_within base fs k (step.Function m) n h = omega arith
target_within base fs k step.Return n h = omega arith

below_end : (end a n : ℕ) → a ≤ end → end ≤ n → nat_eq end a ≡ false → a < n
below_end end a n h l e = let f = eqb-false end a e in ⊎_by (cases_eq end a) (λ s. absurd (f s)) (λ s. let t : a ≡ end → ⊥ = λ z. s (sym z) in lower t)
  where
    lower : (a ≡ end → ⊥) → a < n
    lower t = omega arith

target_below : (base : ℕ) (fs : List LinkedFunction) (k next : ℕ) (s : Step) (n : ℕ) → 0 < n → base + words_in fs ≤ n
    → list_any (nat_eq (base + words_in fs)) (named_symbol base fs k next s) ≡ false → target_of base fs k s < n
target_below base fs k next (step.Goto p) n z h e = below_end (base + words_in fs) (address base fs k p) n (address_within base fs k p) h ((or_parts _ _ e).0)
target_below base fs k next (step.IfGoto p) n z h e = below_end (base + words_in fs) (address base fs k p) n (address_within base fs k p) h ((or_parts _ _ e).0)
target_below base fs k next (step.Call f m) n z h e = below_end (base + words_in fs) (address base fs f 0) n (address_within base fs f 0) h ((or_parts _ _ e).0)
target_below base fs k next (step.Operate o) n z h e = z
target_below base fs k next (step.Push g i) n z h e = z
target_below base fs k next (step.Pop g i) n z h e = z
target_below base fs k next (step.Function m) n z h e = z
target_below base fs k next step.Return n z h e = z

pub record Leads (l : Linked) : Type 0 where
  pub entry : l.bare ≡ false → entry_of l < 32768
  pub targets : Each (λ c. target_of (base_of l) l.functions c.function c.code.step < 32768) (program l)

pub leads : (l : Linked) → length (image_of l) ≤ 32768 → Leads l
leads l fits = ⊎_by (cases_Bool (names_end l)) some none
  where
    some : names_end l ≡ true → Leads l
    some e =
        let n = length_image l in
        let some = closing_some l e in
        let low : base_of l + words_in l.functions < 32768 = omega arith in
        record {
          entry = λ b. let w = address_within (base_of l) l.functions (unwrap_or l.start 0) 0 in omega arith;
          targets = every (λ c. target_of (base_of l) l.functions c.function c.code.step < 32768) (program l) (λ c. target_within (base_of l) l.functions c.function c.code.step 32768 low);
        }

    none : names_end l ≡ false → Leads l
    none e =
        let n = length_image l in
        let low : base_of l + words_in l.functions ≤ 32768 = omega arith in
        let parts = or_parts (not l.bare && nat_eq (end_of l) (entry_of l)) (list_any (names (base_of l) l.functions (end_of l)) (program l)) e in
        record {
          entry = λ b. below_end (end_of l) (entry_of l) 32768 (address_within (base_of l) l.functions (unwrap_or l.start 0) 0) low
              (let r : (not l.bare && nat_eq (end_of l) (entry_of l)) ≡ nat_eq (end_of l) (entry_of l) = rw b refl in sym r ∙ parts.0);
          targets = each_map (λ c. names (base_of l) l.functions (end_of l) c ≡ false) (λ c. Unit {0}) (λ c. target_of (base_of l) l.functions c.function c.code.step < 32768) (program l)
              (λ c f u. target_below (base_of l) l.functions c.function (c.at + step_size c.code.step) c.code.step 32768 (omega arith) low f)
              (none_each (names (base_of l) l.functions (end_of l)) (program l) parts.1) (every (λ c. Unit {0}) (program l) (λ c. tt));
        }

plain_start : (rs : Routines) (entry : ℕ) → entry < 32768 → rs.call < 32768 → Each IsPlain (start_code rs entry)
plain_start rs entry h r =
    each_both IsPlain set_stack (template rs 4 (shape.Call entry 0) ++ (template rs 16 (shape.PopWord 5) ++ endless 21)) (plain_all set_stack refl)
    (each_both IsPlain (template rs 4 (shape.Call entry 0)) (template rs 16 (shape.PopWord 5) ++ endless 21) (plain_call rs.call 16 entry 0 r (omega arith) h (omega arith))
    (plain_all (template rs 16 (shape.PopWord 5) ++ endless 21) refl))

plain_closing : (at : ℕ) (c : Closing) → at + closing_size c ≤ 32768 → Each IsPlain (closing_code at c)
unfolding Each
plain_closing at closes.Nothing h = tt
plain_closing at closes.Word h = (omega arith, tt)
plain_closing at closes.Loop h = (omega arith, (plain JUMP refl, tt))

-- all routines that steps go through have an address
pub found : (l : Linked) → length (image_of l) ≤ 32768 → (r : Routine) → uses l r ≡ true → routine_at (routines l) r < 32768
found l fits r u =
    let p = routine_within l r u in
    let some = routine_some r in
    let n = length_with l in
    omega arith

step_found : (l : Linked) → length (image_of l) ≤ 32768 → (o : Option Routine) → ((r : Routine) → o ≡ Some r → uses l r ≡ true) → IsFound (routines l) o
step_found l fits None u = tt
step_found l fits (Some r) u = found l fits r (u r refl)

code_found : (l : Linked) → length (image_of l) ≤ 32768 → (k sub at : ℕ) (cs : List Code) → ((c : Code) (r : Routine) → Contained c cs → routine_for c.step ≡ Some r → uses l r ≡ true) → Each (λ c. IsFound (routines l) (routine_for c.code.step)) (placed_code k sub at cs)
unfolding Each
code_found l fits k sub at [] u = tt
code_found l fits k sub at (c ∷ cs) u = (step_found l fits (routine_for c.step) (λ r e. u c r (inl refl) e), code_found l fits k sub (at + step_size c.step) cs (λ d r i e. u d r (inr i) e))

from_found : (l : Linked) → length (image_of l) ≤ 32768 → (k at : ℕ) (fs : List LinkedFunction) → ((f : LinkedFunction) (c : Code) (r : Routine) → ContainedIn f fs → Contained c f.code → routine_for c.step ≡ Some r → uses l r ≡ true) → Each (λ c. IsFound (routines l) (routine_for c.code.step)) (placed_from k at fs)
unfolding Each
from_found l fits k at [] u = tt
from_found l fits k at (f ∷ fs) u = each_both (λ c. IsFound (routines l) (routine_for c.code.step)) (placed_code k f.number at f.code) (placed_from (k + 1) (at + words_of f.code) fs) (code_found l fits k f.number at f.code (λ c r i e. u f c r (inl refl) i e)) (from_found l fits (k + 1) (at + words_of f.code) fs (λ g c r j i e. u g c r (inr j) i e))

pub plain_image : (l : Linked) → length (image_of l) ≤ 32768 → All (IsReady l.functions) (program l) → All IsPlain (image_of l)
unfolding Each
plain_image l fits ready =
    let t = leads l fits in
    let n = length_with l in
    let r = each_of (IsReady l.functions) (program l) ready in
    let shared = from_found l fits 0 (base_of l) l.functions (λ f c r j i e. contained_uses l r f c j i e) in
    let code = flat_map (piece (routines l) (base_of l) l.functions) (program l) in
    let routines_code = shared_from (shared_at l) (used_routines l) in
    each_all IsPlain (image_of l)
    (each_both IsPlain (opening l) (code ++ (closing l ++ routines_code)) (front t.entry (λ b. found l fits routine.Call (start_uses l b)))
    (each_both IsPlain code (closing l ++ routines_code)
    (each_flat IsPlain (piece (routines l) (base_of l) l.functions) (program l)
    (each_map (λ c. IsReady l.functions c × IsFound (routines l) (routine_for c.code.step)) (λ c. target_of (base_of l) l.functions c.function c.code.step < 32768) (λ c. Each IsPlain (piece (routines l) (base_of l) l.functions c)) (program l)
    (λ c a b. plain_piece (routines l) (base_of l) l.functions c (a.0).fits a.1 b) (each_map (IsReady l.functions) (λ c. IsFound (routines l) (routine_for c.code.step)) (λ c. IsReady l.functions c × IsFound (routines l) (routine_for c.code.step)) (program l) (λ c a b. (a, b)) r shared) t.targets))
    (each_both IsPlain (closing l) routines_code back (plain_shared (shared_at l) (used_routines l) (omega arith)))))
  where
    front : (l.bare ≡ false → entry_of l < 32768) → (l.bare ≡ false → (routines l).call < 32768) → Each IsPlain (opening l)
    front h r = by_bare l.bare (routines l) (entry_of l) h r
      where
        by_bare : (b : Bool) (rs : Routines) (e : ℕ) → (b ≡ false → e < 32768) → (b ≡ false → rs.call < 32768) → Each IsPlain (if b then [] else start_code rs e)
        by_bare true rs e h r = tt
        by_bare false rs e h r = plain_start rs e (h refl) (r refl)

    back : Each IsPlain (closing l)
    back = let n = length_with l in plain_closing (end_of l) (closing_of l) (omega arith)
