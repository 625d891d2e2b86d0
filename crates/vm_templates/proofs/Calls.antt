-- How the computer goes through jumps, calls, functions, returns and the start.
use Rattle.std.proofs.Common.{◌≡◌, ◌≢◌, ◌⊎◌, inl, inr, ℕ, zero, suc, ◌+◌, ◌-◌, ◌*◌, ◌<◌, ◌≤◌, ◌%◌, Bool, true, false, List, ◌∷◌, [], take, drop, refl, sym, ap, subst, ◌∙◌, arith}
use Rattle.std.specs.Prelude.{if◌then◌else◌}
use Rattle.word16.specs.Words.{word_not, word_sub}
use Rattle.std.proofs.lemmas.Bool.{cases_lt, le-ltb, lt-ltb}
use Rattle.std.proofs.lemmas.Bool.Decides.{nat_tests}
use Rattle.hack_isa.specs.Machine.{Machine, jumps}
use Rattle.hack_isa.specs.declared.Instr.{Instr}
use Rattle.hack_isa.specs.declared.Instr.TheVariants.{Address}
use Rattle.vm_templates.specs.declared.instructions.TheConstants.{D_IS_A, D_IS_NOT_A, M_IS_D, JUMP, IF_D_NOT_EQUAL}
use Rattle.vm_templates.specs.Templates.{go_to, if_go_to, call_by, call_routine, function_code, return_code, set_stack}
use Rattle.vm_templates.specs.Computer.{Stands}
use Rattle.vm_templates.specs.Going.{Quiet, Reaches, arrived, Does}
use Rattle.vm_templates.specs.Effects.{PushedAll, Dropped, Called, Returned}
use Rattle.vm_templates.proofs.Block.{Data, AreWords, at, do_block, block_words, Safe, block, block_then, jump, last_jump, from_place, up_to}
use Rattle.vm_templates.proofs.Compare.{jumps_always, taken}
use Rattle.vm_templates.proofs.Commands.{goes}
use Rattle.vm_templates.proofs.Frames.{Saving, Entered, Restored, RestoredLast, Saved, Resulted, put_d_does, save_does, set_pointers_does, restore_does, restore_lcl_does, save_return_does, put_result_does, saving_first, saving_more, function_does, function_length, frame_word, called, returned}

jumps_unless_zero : (d : ℕ) → d ≢ 0 → jumps 5 d ≡ true
unfolding jumps
jumps_unless_zero d h = grind (arith, nat_tests)

no_jump_at_zero : (d : ℕ) → d ≡ 0 → jumps 5 d ≡ false
unfolding jumps
no_jump_at_zero d h = grind (arith, nat_tests)

passed : (b : Bool) (a q : ℕ) → b ≡ false → (if b then a % 32768 else q) ≡ q
passed b a q e = rw e refl

-- a register while the frame is put on the stack
register : (m m' : ℕ → ℕ) (n back k : ℕ) → 256 ≤ m 0 → Saving m m' n (frame_word m back) → 1 ≤ k → k < 13 → m' k ≡ frame_word m back k
register m m' n back k low p one small =
    let at_register : m k ≡ frame_word m back k = grind (arith, nat_tests) in
    p.same k (omega arith) (inl (omega arith)) ∙ at_register

module _ (image : List ℕ) (inside : ℕ → Type 0) (here last : ℕ) (fits : last < 32768) (places : (k : ℕ) → here ≤ k → k < last → inside k) (x : Data) (w : AreWords x) where
  pub go_to_goes : (target : ℕ) → target < 32768 → Stands image here (go_to target) → here + 1 ≡ last
      → {goal : Machine → Type 0} → ((y : Data) → AreWords y → y.m ≡ x.m → goal (at target y)) → Does image inside last ⊥ goal 1 (at here x)
  go_to_goes target low st e {goal} go =
      let y : Data = record x { a = target } in
      let wy : AreWords y = record { a_word = omega arith; d_word = w.d_word; m_words = w.m_words } in
      block image inside (Address target ∷ []) x here last 0 (up_to image here 1 (go_to target) st) (search arith) w e fits places
      (last_jump image inside JUMP y last target 0 (subst (λ k. Stands image k (drop 1 (go_to target))) e (from_place image here 1 (go_to target) st)).0 (refl, refl, taken _ _ _ _ (jumps_always 0) refl low) wy (go y wy refl))

  -- both ways end with the same instruction
  pub if_go_to_goes : (target : ℕ) → target < 32768 → Stands image here (if_go_to target) → here + 4 ≡ last → 257 ≤ x.m 0 → x.m 0 ≤ 2048
      → {goal : Machine → Type 0} → ((y : Data) → AreWords y → Dropped x.m y.m → (x.m (x.m 0 - 1) ≢ 0 → goal (at target y)) × (x.m (x.m 0 - 1) ≡ 0 → goal (at ((last + 1) % 32768) y))) → Does image inside last ⊥ goal 4 (at here x)
  if_go_to_goes target small st e low high {goal} go =
      let code = if_go_to target in
      let front = take 4 code in
      let y = do_block front x in
      let safe : Safe front x = search arith in
      let wy = block_words front x safe w in
      let value : y.d ≡ x.m (x.m 0 - 1) = grind (arith, nat_tests) in
      let dropped : Dropped x.m y.m = record { sp = grind (arith, nat_tests); same = λ k h. grind (arith, nat_tests) } in
      let ends = go y wy dropped in
      let there = (subst (λ k. Stands image k (drop 4 code)) e (from_place image here 4 code st)).0 in
      block image inside front x here last 0 (up_to image here 4 code st) safe w e fits places
      (elim (zero_or (x.m (x.m 0 - 1))) [
        | inl z ↦ last_jump image inside IF_D_NOT_EQUAL y last ((last + 1) % 32768) 0 there (refl, refl, passed _ _ _ (no_jump_at_zero y.d (value ∙ z))) wy (ends.1 z)
        | inr n ↦ last_jump image inside IF_D_NOT_EQUAL y last target 0 there (refl, refl, taken _ _ _ _ (jumps_unless_zero y.d (λ q. n (sym value ∙ q))) refl small) wy (ends.0 n)
      ])
    where
      zero_or : (n : ℕ) → (n ≡ 0) ⊎ (n ≢ 0)
      zero_or zero = inl refl
      zero_or (suc n) = inr (λ e. omega arith)

  pub function_goes : (n : ℕ) → Stands image here (function_code n) → here + 4 * n ≡ last → 256 ≤ x.m 0 → x.m 0 + n ≤ 2048
      → {goal : Machine → Type 0} → ((y : Data) → AreWords y → PushedAll x.m y.m n (λ k. 0) → goal (at ((last + 1) % 32768) y)) → Does image inside last ⊥ goal (4 * n) (at here x)
  function_goes n st e low room {goal} go =
      goes image inside here last fits places x w (function_code n) (4 * n) (λ y. PushedAll x.m y.m n (λ k. 0)) (function_length n) st e (function_does n x low room) go

  return_routine_goes : Stands image here return_code → here + 39 ≡ last → 257 ≤ x.m 0 → x.m 0 ≤ 2048 → 256 ≤ x.m 2 → x.m 2 + 5 ≤ x.m 1 → x.m 1 ≤ 2048 → x.m (x.m 1 - 5) < 32768
      → {goal : Machine → Type 0} → ((y : Data) → AreWords y → Returned x.m y.m → goal (at (x.m (x.m 1 - 5)) y)) → Does image inside last ⊥ goal 39 (at here x)
  return_routine_goes st e some high arg_low below lcl_high low {goal} go =
      let m = x.m in
      let part : (a l : ℕ) → Stands image (here + a) (take l (drop a return_code)) = λ a l. up_to image (here + a) l _ (from_place image here a return_code st) in
      let d1 = save_return_does x (omega arith) lcl_high in
      block_then image inside (take 7 return_code) x here (here + 7) 32 (λ z. Saved m z.m) (up_to image here 7 return_code st) d1.1 w refl (omega arith) (λ a p q. places a p (omega arith)) d1.0
      (λ y1 w1 p1.
      let sp1 = p1.same 0 (omega arith) in
      let arg1 = p1.same 2 (omega arith) in
      let lcl1 = p1.same 1 (omega arith) in
      let d2 = put_result_does y1 (omega (arith, sp1)) (omega (arith, sp1)) (omega (arith, arg1)) (omega (arith, arg1)) in
      block_then image inside (take 10 (drop 7 return_code)) y1 (here + 7) (here + 17) 22 (λ z. Resulted y1.m z.m) (part 7 10) d2.1 w1 (omega arith) (omega arith) (λ a p q. places a (omega arith) (omega arith)) d2.0
      (λ y2 w2 p2.
      let f2 : y2.m 1 ≡ m 1 = p2.same 1 (omega arith) (omega (arith, arg1)) ∙ lcl1 in
      let d3 = restore_does y2 4 (omega arith) (omega arith) (omega arith) (omega arith) in
      block_then image inside (take 5 (drop 17 return_code)) y2 (here + 17) (here + 22) 17 (λ z. Restored y2.m z.m 4) (part 17 5) d3.1 w2 (omega arith) (omega arith) (λ a p q. places a (omega arith) (omega arith)) d3.0
      (λ y3 w3 p3.
      let f3 : y3.m 1 ≡ m 1 - 1 = omega (arith, p3.below) in
      let d4 = restore_does y3 3 (omega arith) (omega arith) (omega arith) (omega arith) in
      block_then image inside (take 5 (drop 22 return_code)) y3 (here + 22) (here + 27) 12 (λ z. Restored y3.m z.m 3) (part 22 5) d4.1 w3 (omega arith) (omega arith) (λ a p q. places a (omega arith) (omega arith)) d4.0
      (λ y4 w4 p4.
      let f4 : y4.m 1 ≡ m 1 - 2 = omega (arith, p4.below) in
      let d5 = restore_does y4 2 (omega arith) (omega arith) (omega arith) (omega arith) in
      block_then image inside (take 5 (drop 27 return_code)) y4 (here + 27) (here + 32) 7 (λ z. Restored y4.m z.m 2) (part 27 5) d5.1 w4 (omega arith) (omega arith) (λ a p q. places a (omega arith) (omega arith)) d5.0
      (λ y5 w5 p5.
      let f5 : y5.m 1 ≡ m 1 - 3 = omega (arith, p5.below) in
      let d6 = restore_lcl_does y5 (omega arith) (omega arith) in
      block_then image inside (take 5 (drop 32 return_code)) y5 (here + 32) (here + 37) 2 (λ z. RestoredLast y5.m z.m) (part 32 5) d6.1 w5 (omega arith) (omega arith) (λ a p q. places a (omega arith) (omega arith)) d6.0
      (λ y6 w6 p6.
      let all = returned m y1.m y2.m y3.m y4.m y5.m y6.m some (omega arith) arg_low below p1 p2 p3 p4 p5 p6 in
      let z : Data = record y6 { a = y6.m 14 } in
      let wz : AreWords z = record { a_word = w6.m_words 14; d_word = w6.d_word; m_words = w6.m_words } in
      block image inside (take 2 (drop 37 return_code)) y6 (here + 37) last 0 (part 37 2) (search arith) w6 (omega arith) fits (λ a p q. places a (omega arith) q)
      (last_jump image inside JUMP z last (m (m 1 - 5)) 0 (subst (λ k. Stands image k (drop 39 return_code)) e (from_place image here 39 return_code st)).0 (refl, refl, taken _ _ _ _ (jumps_always 0) all.1 low) wz (go z wz all.0))))))))

-- The routine of calls: the return address is in D, the function's address in the word 13, and how far ARG is below SP in the word 14.
call_routine_goes : (image : List ℕ) (inside : ℕ → Type 0) (here back target n : ℕ) (x : Data) → AreWords x → here + 34 ≤ 32768 → ((k : ℕ) → here ≤ k → k < here + 33 → inside k) → x.d ≡ back → x.m 13 ≡ target → target < 32768 → x.m 14 ≡ 5 + n
    → Stands image here call_routine → 256 ≤ x.m 0 → x.m 0 + 5 ≤ 2048 → n < 32768
    → {goal : Machine → Type 0} → ((y : Data) → AreWords y → Called x.m y.m back n → goal (at target y)) → Does image inside (here + 33) ⊥ goal 33 (at here x)
call_routine_goes image inside here back target n x w fits places d to target_low some st low room few {goal} go =
    let m = x.m in
    let word = frame_word m back in
    let code = call_routine in
    let part : (k l : ℕ) → Stands image (here + k) (take l (drop k code)) = λ k l. up_to image (here + k) l _ (from_place image here k code st) in
    let d1 = put_d_does x low (omega arith) in
    block_then image inside (take 3 code) x here (here + 3) 30 (λ y. Saving m y.m 0 word) (up_to image here 3 code st) d1.2 w refl (omega arith) (λ k p q. places k p (omega arith)) (saving_first m _ word low (d1.0 ∙ d) d1.1)
    (λ y1 w1 p1.
    let s1 = p1.sp in
    let d2 = save_does y1 1 (omega arith) (omega arith) (omega arith) in
    block_then image inside (take 5 (drop 3 code)) y1 (here + 3) (here + 8) 25 (λ y. Saving m y.m 1 word) (part 3 5) d2.1 w1 (omega arith) (omega arith) (λ k p q. places k (omega arith) (omega arith))
    (saving_more m y1.m _ 0 (y1.m 1) word low (register m y1.m 0 back 1 low p1 (omega arith) (omega arith)) p1 d2.0)
    (λ y2 w2 p2.
    let s2 = p2.sp in
    let d3 = save_does y2 2 (omega arith) (omega arith) (omega arith) in
    block_then image inside (take 5 (drop 8 code)) y2 (here + 8) (here + 13) 20 (λ y. Saving m y.m 2 word) (part 8 5) d3.1 w2 (omega arith) (omega arith) (λ k p q. places k (omega arith) (omega arith))
    (saving_more m y2.m _ 1 (y2.m 2) word low (register m y2.m 1 back 2 low p2 (omega arith) (omega arith)) p2 d3.0)
    (λ y3 w3 p3.
    let s3 = p3.sp in
    let d4 = save_does y3 3 (omega arith) (omega arith) (omega arith) in
    block_then image inside (take 5 (drop 13 code)) y3 (here + 13) (here + 18) 15 (λ y. Saving m y.m 3 word) (part 13 5) d4.1 w3 (omega arith) (omega arith) (λ k p q. places k (omega arith) (omega arith))
    (saving_more m y3.m _ 2 (y3.m 3) word low (register m y3.m 2 back 3 low p3 (omega arith) (omega arith)) p3 d4.0)
    (λ y4 w4 p4.
    let s4 = p4.sp in
    let d5 = save_does y4 4 (omega arith) (omega arith) (omega arith) in
    block_then image inside (take 5 (drop 18 code)) y4 (here + 18) (here + 23) 10 (λ y. Saving m y.m 4 word) (part 18 5) d5.1 w4 (omega arith) (omega arith) (λ k p q. places k (omega arith) (omega arith))
    (saving_more m y4.m _ 3 (y4.m 4) word low (register m y4.m 3 back 4 low p4 (omega arith) (omega arith)) p4 d5.0)
    (λ y5 w5 p5.
    let s5 = p5.sp in
    let d6 = set_pointers_does y5 n few (p5.same 14 (omega arith) (inl (omega arith)) ∙ some) (omega arith) in
    block_then image inside (take 8 (drop 23 code)) y5 (here + 23) (here + 31) 2 (λ y. Entered y5.m y.m n) (part 23 8) d6.1 w5 (omega arith) (omega arith) (λ k p q. places k (omega arith) (omega arith)) d6.0
    (λ y6 w6 p6.
    let z : Data = record y6 { a = y6.m 13 } in
    let wz : AreWords z = record { a_word = w6.m_words 13; d_word = w6.d_word; m_words = w6.m_words } in
    let leads : y6.m 13 ≡ target = p6.same 13 (omega arith) (omega arith) (omega arith) ∙ p5.same 13 (omega arith) (inl (omega arith)) ∙ to in
    block image inside (take 2 (drop 31 code)) y6 (here + 31) (here + 33) 0 (part 31 2) (search arith) w6 (omega arith) (omega arith) (λ k p q. places k (omega arith) q)
    (last_jump image inside JUMP z (here + 33) target 0 (from_place image here 33 code st).0 (refl, refl, taken _ _ _ _ (jumps_always 0) leads target_low) wz
    (go z wz (called m y5.m z.m back n low few p5 p6)))))))))

-- A call's own instructions stand at `here`, and its routine at `there`.
called_from : (m m1 after : ℕ → ℕ) (back n : ℕ) → ((k : ℕ) → k ≢ 13 → k ≢ 14 → m1 k ≡ m k) → 256 ≤ m 0 → Called m1 after back n → Called m after back n
called_from m m1 after back n same low p =
    let sp = same 0 (omega arith) (omega arith) in
    let at : (k : ℕ) → after (m1 0 + k) ≡ after (m 0 + k) = λ k. ap (λ z. after (z + k)) sp in
    record {
      sp = omega (arith, p.sp);
      lcl = omega (arith, p.lcl);
      arg = p.arg ∙ ap (λ z. word_sub z n) sp;
      return_address = ap after (sym sp) ∙ p.return_address;
      saved_lcl = sym (at 1) ∙ p.saved_lcl ∙ same 1 (omega arith) (omega arith);
      saved_arg = sym (at 2) ∙ p.saved_arg ∙ same 2 (omega arith) (omega arith);
      saved_this = sym (at 3) ∙ p.saved_this ∙ same 3 (omega arith) (omega arith);
      saved_that = sym (at 4) ∙ p.saved_that ∙ same 4 (omega arith) (omega arith);
      same = λ k h one two apart. p.same k h one two (elim apart [ inl l ↦ inl (omega arith) | inr l ↦ inr (omega arith) ]) ∙ same k h.1 h.2;
    }

-- after a call's own instructions but the last
call_through : (image : List ℕ) (inside : ℕ → Type 0) (here there : ℕ) → inside (here + 11) → ((k : ℕ) → there ≤ k → k < there + 33 → inside k) → there + 34 ≤ 32768 → (back target n : ℕ) → target < 32768 → n < 32768
    → Stands image (here + 11) (JUMP ∷ []) → Stands image there call_routine → (m : ℕ → ℕ) → 256 ≤ m 0 → m 0 + 5 ≤ 2048
    → (y : Data) → AreWords y → y.a ≡ there → y.d ≡ back → y.m 13 ≡ target → y.m 14 ≡ 5 + n → ((k : ℕ) → k ≢ 13 → k ≢ 14 → y.m k ≡ m k)
    → {goal : Machine → Type 0} → ((z : Data) → AreWords z → Called m z.m back n → goal (at target z)) → Does image inside (there + 33) ⊥ goal 34 (at (here + 11) y)
call_through image inside here there own shared room back target n target_low few st routine m sp_low sp_room y wy to d to_target some same {goal} go =
    let sp = same 0 (omega arith) (omega arith) in
    jump image inside JUMP y (here + 11) there 33 st.0 (refl, refl, taken _ _ _ _ (jumps_always 0) to (omega arith)) wy own
    (call_routine_goes image inside there back target n y wy room shared d to_target target_low some routine (omega (arith, sp)) (omega (arith, sp)) few
    (λ z wz p. go z wz (called_from m y.m z.m back n same sp_low p)))

pub call_goes : (image : List ℕ) (inside : ℕ → Type 0) (here there : ℕ) → ((k : ℕ) → here ≤ k → k < here + 12 → inside k) → ((k : ℕ) → there ≤ k → k < there + 33 → inside k) → here + 12 ≤ 32768 → there + 34 ≤ 32768 → (x : Data) → AreWords x
    → (back target n : ℕ) → back < 32768 → target < 32768 → n < 32768 → Stands image here (call_by there back target n) → Stands image there call_routine → 256 ≤ x.m 0 → x.m 0 + 5 ≤ 2048
    → {goal : Machine → Type 0} → ((y : Data) → AreWords y → Called x.m y.m back n → goal (at target y)) → Does image inside (there + 33) ⊥ goal 45 (at here x)
call_goes image inside here there own shared low room x w back target n back_low target_low few st routine sp_low sp_room {goal} go =
    elim (cases_lt (5 + n) 32768) [
      | inl l ↦
          let code = own_code (Address (5 + n)) D_IS_A in
          let is : call_by there back target n ≡ code = rw (lt-ltb (5 + n) 32768 l) refl in
          let y = do_block (take 11 code) x in
          let safe : Safe (take 11 code) x = search arith in
          along (Address (5 + n)) D_IS_A is safe (block_words (take 11 code) x safe w) refl refl refl refl (λ k one two. grind (arith, nat_tests))
      | inr l ↦
          let code = own_code (Address (word_not (5 + n))) D_IS_NOT_A in
          let is : call_by there back target n ≡ code = rw (le-ltb (5 + n) 32768 l) refl in
          let safe : Safe (take 11 code) x = search arith in
          along (Address (word_not (5 + n))) D_IS_NOT_A is safe (block_words (take 11 code) x safe w) refl refl refl (omega arith) (λ k one two. grind (arith, nat_tests))
    ]
  where
    own_code : Instr → Instr → List Instr
    own_code a d = Address target ∷ D_IS_A ∷ Address 13 ∷ M_IS_D ∷ a ∷ d ∷ Address 14 ∷ M_IS_D ∷ Address back ∷ D_IS_A ∷ go_to there

    along : (a d : Instr) → call_by there back target n ≡ own_code a d → Safe (take 11 (own_code a d)) x → AreWords (do_block (take 11 (own_code a d)) x)
        → (do_block (take 11 (own_code a d)) x).a ≡ there → (do_block (take 11 (own_code a d)) x).d ≡ back → (do_block (take 11 (own_code a d)) x).m 13 ≡ target → (do_block (take 11 (own_code a d)) x).m 14 ≡ 5 + n
        → ((k : ℕ) → k ≢ 13 → k ≢ 14 → (do_block (take 11 (own_code a d)) x).m k ≡ x.m k) → Does image inside (there + 33) ⊥ goal 45 (at here x)
    along a d is safe words to back_is target_is some same =
        let code = own_code a d in
        let stands : Stands image here code = subst (Stands image here) is st in
        block image inside (take 11 code) x here (here + 11) 34 (up_to image here 11 code stands) safe w refl (omega arith) (λ k p q. own k p (omega arith))
        (call_through image inside here there (own (here + 11) (omega arith) (omega arith)) shared room back target n target_low few (from_place image here 11 code stands) routine x.m sp_low sp_room
        (do_block (take 11 code) x) words to back_is target_is some same go)

pub return_goes : (image : List ℕ) (inside : ℕ → Type 0) (here there : ℕ) → ((k : ℕ) → here ≤ k → k < here + 2 → inside k) → ((k : ℕ) → there ≤ k → k < there + 39 → inside k) → here + 2 ≤ 32768 → there + 40 ≤ 32768 → (x : Data) → AreWords x
    → Stands image here (go_to there) → Stands image there return_code → 257 ≤ x.m 0 → x.m 0 ≤ 2048 → 256 ≤ x.m 2 → x.m 2 + 5 ≤ x.m 1 → x.m 1 ≤ 2048 → x.m (x.m 1 - 5) < 32768
    → {goal : Machine → Type 0} → ((y : Data) → AreWords y → Returned x.m y.m → goal (at (x.m (x.m 1 - 5)) y)) → Does image inside (there + 39) ⊥ goal 41 (at here x)
return_goes image inside here there own shared low room x w st routine some high arg_low below lcl_high to_low {goal} go =
    let code = go_to there in
    let x1 : Data = record x { a = there } in
    let w1 : AreWords x1 = record { a_word = omega arith; d_word = w.d_word; m_words = w.m_words } in
    block image inside (take 1 code) x here (here + 1) 40 (up_to image here 1 code st) (search arith) w refl (omega arith) (λ k p q. own k p (omega arith))
    (jump image inside JUMP x1 (here + 1) there 39 (from_place image here 1 code st).0 (refl, refl, taken _ _ _ _ (jumps_always 0) refl (omega arith)) w1 (own _ (omega arith) (omega arith))
    (return_routine_goes image inside there (there + 39) (omega arith) shared x1 w1 routine refl some high arg_low below lcl_high to_low go))

-- SP is 256 after four quiet steps
pub set_stack_goes : (image : List ℕ) (inside : ℕ → Type 0) (here : ℕ) → here + 4 < 32768 → ((k : ℕ) → here ≤ k → k < here + 4 → inside k) → (x : Data) → AreWords x → Stands image here set_stack
    → {goal : Machine → Type 0} → ((y : Data) → AreWords y → y.m 0 ≡ 256 → ((k : ℕ) → k ≢ 0 → y.m k ≡ x.m k) → goal (at (here + 4) y)) → Reaches image (Quiet image inside) goal 4 (at here x)
set_stack_goes image inside here fits places x w st {goal} go =
    let safe : Safe set_stack x = search arith in
    let y = do_block set_stack x in
    block image inside set_stack x here (here + 4) 0 st safe w refl fits places
    (arrived (go y (block_words set_stack x safe w) refl (λ k h. grind (arith, nat_tests))))
