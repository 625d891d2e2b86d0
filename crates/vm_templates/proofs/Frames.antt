-- The pieces of call, function and return.
use Rattle.std.proofs.Common.{◌≡◌, ◌≢◌, ◌⊎◌, inl, inr, ℕ, zero, suc, ◌+◌, ◌-◌, ◌*◌, ◌<◌, ◌≤◌, length, refl, sym, ap, ◌∙◌, arith}
use Rattle.std.specs.Prelude.{nat_eq, if◌then◌else◌}
use Rattle.std.proofs.lemmas.Bool.Decides.{nat_tests}
use Rattle.word16.specs.Words.{word_sub}
use Rattle.vm_templates.specs.Templates.{push_zero, function_code, put_d, save, set_pointers, save_return, put_result, restore, restore_lcl}
use Rattle.vm_templates.specs.Effects.{IsKept, Pushed, PushedAll, Called, Returned}
use Rattle.vm_templates.proofs.Block.{Data, do_block, Safe, safe_append}

-- The saved words of a call so far, whose topmost is n words above where SP pointed; SP points to it. `word` gives each, the lowest first.
pub record Saving (m after : ℕ → ℕ) (n : ℕ) (word : ℕ → ℕ) : Type 0 where
  pub sp : after 0 ≡ m 0 + n
  pub words : (k : ℕ) → k < suc n → after (m 0 + k) ≡ word k
  pub same : (k : ℕ) → k ≢ 0 → (k < m 0) ⊎ (m 0 + n < k) → after k ≡ m k

-- one word more
pub record SavedOne (m after : ℕ → ℕ) (v : ℕ) : Type 0 where
  pub sp : after 0 ≡ m 0 + 1
  pub there : after (m 0 + 1) ≡ v
  pub same : (k : ℕ) → k ≢ 0 → k ≢ m 0 + 1 → after k ≡ m k

-- SP, LCL and ARG are set for a call with n arguments
pub record Entered (m after : ℕ → ℕ) (n : ℕ) : Type 0 where
  pub sp : after 0 ≡ m 0 + 1
  pub lcl : after 1 ≡ m 0 + 1
  pub arg : after 2 ≡ word_sub (m 0 + 1) (5 + n)
  pub same : (k : ℕ) → k ≢ 0 → k ≢ 1 → k ≢ 2 → after k ≡ m k

-- one word that LCL points above goes to a register
pub record Restored (m after : ℕ → ℕ) (r : ℕ) : Type 0 where
  pub below : after 1 ≡ m 1 - 1
  pub there : after r ≡ m (m 1 - 1)
  pub same : (k : ℕ) → k ≢ 1 → k ≢ r → after k ≡ m k

-- and one to LCL
pub record RestoredLast (m after : ℕ → ℕ) : Type 0 where
  pub there : after 1 ≡ m (m 1 - 1)
  pub same : (k : ℕ) → k ≢ 1 → after k ≡ m k

-- the return address is saved
pub record Saved (m after : ℕ → ℕ) : Type 0 where
  pub return : after 14 ≡ m (m 1 - 5)
  pub same : (k : ℕ) → k ≢ 14 → after k ≡ m k

-- the topmost value is where ARG points, and SP is above it
pub record Resulted (m after : ℕ → ℕ) : Type 0 where
  pub sp : after 0 ≡ m 2 + 1
  pub there : after (m 2) ≡ m (m 0 - 1)
  pub same : (k : ℕ) → k ≢ 0 → k ≢ m 2 → after k ≡ m k

module _ (x : Data) where
  pub push_zero_does : 256 ≤ x.m 0 → x.m 0 < 2048 → Pushed x.m (do_block push_zero x).m 0 × Safe push_zero x
  push_zero_does low high = (record { sp = grind (arith, nat_tests); top = grind (arith, nat_tests); same = λ k h e. grind (arith, nat_tests) }, search arith)

  pub put_d_does : 256 ≤ x.m 0 → x.m 0 < 2048 → ((do_block put_d x).m (x.m 0) ≡ x.d) × ((k : ℕ) → k ≢ x.m 0 → (do_block put_d x).m k ≡ x.m k) × Safe put_d x
  put_d_does low high = (grind (arith, nat_tests), (λ k e. grind (arith, nat_tests)), search arith)

  pub save_does : (r : ℕ) → 256 ≤ x.m 0 → x.m 0 < 2047 → r < 13 → SavedOne x.m (do_block (save r) x).m (x.m r) × Safe (save r) x
  save_does r low high small = (record { sp = grind (arith, nat_tests); there = grind (arith, nat_tests); same = λ k h e. grind (arith, nat_tests) }, search arith)

  pub set_pointers_does : (n : ℕ) → n < 32768 → x.m 14 ≡ 5 + n → x.m 0 < 2048 → Entered x.m (do_block set_pointers x).m n × Safe set_pointers x
  set_pointers_does n few some high =
      (record { sp = grind (arith, nat_tests); lcl = grind (arith, nat_tests); arg = grind (arith, nat_tests); same = λ k h e f. grind (arith, nat_tests) }, search arith)

  pub restore_does : (r : ℕ) → 257 ≤ x.m 1 → x.m 1 ≤ 2048 → 2 ≤ r → r < 13 → Restored x.m (do_block (restore r) x).m r × Safe (restore r) x
  restore_does r low high two small = (record { below = grind (arith, nat_tests); there = grind (arith, nat_tests); same = λ k h e. grind (arith, nat_tests) }, search arith)

  pub restore_lcl_does : 257 ≤ x.m 1 → x.m 1 ≤ 2048 → RestoredLast x.m (do_block restore_lcl x).m × Safe restore_lcl x
  restore_lcl_does low high = (record { there = grind (arith, nat_tests); same = λ k h. grind (arith, nat_tests) }, search arith)

  pub save_return_does : 261 ≤ x.m 1 → x.m 1 ≤ 2048 → Saved x.m (do_block save_return x).m × Safe save_return x
  save_return_does low high = (record { return = grind (arith, nat_tests); same = λ k h. grind (arith, nat_tests) }, search arith)

  pub put_result_does : 257 ≤ x.m 0 → x.m 0 ≤ 2048 → 256 ≤ x.m 2 → x.m 2 < 2048 → Resulted x.m (do_block put_result x).m × Safe put_result x
  put_result_does low high arg_low arg_high = (record { sp = grind (arith, nat_tests); there = grind (arith, nat_tests); same = λ k h e. grind (arith, nat_tests) }, search arith)

pub pushed_none : (m : ℕ → ℕ) (word : ℕ → ℕ) → PushedAll m m 0 word
pushed_none m word = record { sp = omega arith; words = λ k h. absurd (omega arith); same = λ k h e. refl }

-- one value, and then all others
pub pushed_first : (m m1 m2 : ℕ → ℕ) (n : ℕ) → 256 ≤ m 0 → Pushed m m1 0 → PushedAll m1 m2 n (λ k. 0) → PushedAll m m2 (suc n) (λ k. 0)
pushed_first m m1 m2 n low p q =
    let sp = p.sp in
    let kept : (k : ℕ) → 256 ≤ k → IsKept k = λ k h. (omega arith, omega arith, omega arith, omega arith) in
    record {
      sp = omega (arith, q.sp);
      words = λ k h. word k h;
      same = λ k h apart. q.same k h (elim apart [ inl l ↦ inl (omega arith) | inr l ↦ inr (omega arith) ]) ∙ p.same k h (elim apart [ inl l ↦ omega arith | inr l ↦ omega arith ]);
    }
  where
    word : (k : ℕ) → k < suc n → m2 (m 0 + k) ≡ 0
    word zero h =
        let sp = p.sp in
        let z : m 0 + 0 ≡ m 0 = omega arith in
        ap m2 z ∙ q.same (m 0) (omega arith, omega arith, omega arith, omega arith) (inl (omega arith)) ∙ p.top
    word (suc k) h =
        let sp = p.sp in
        let z : m 0 + suc k ≡ m1 0 + k = omega arith in
        ap m2 z ∙ q.words k (omega arith)

-- the locals of a function
pub function_does : (n : ℕ) (x : Data) → 256 ≤ x.m 0 → x.m 0 + n ≤ 2048 → PushedAll x.m (do_block (function_code n) x).m n (λ k. 0) × Safe (function_code n) x
function_does zero x low high = (pushed_none x.m (λ k. 0), search arith)
function_does (suc n) x low high =
    let d = push_zero_does x low (omega arith) in
    let x1 = do_block push_zero x in
    let r = function_does n x1 (omega (arith, d.0.sp)) (omega (arith, d.0.sp)) in
    (pushed_first x.m x1.m _ n low d.0 r.0, safe_append push_zero (function_code n) x d.1 r.1)

pub function_length : (n : ℕ) → length (function_code n) ≡ suc (4 * n)
function_length zero = refl
function_length (suc n) = let r = function_length n in omega arith

-- what a call puts on the stack
abbrev pub frame_word : (ℕ → ℕ) → ℕ → ℕ → ℕ
frame_word m back k = if nat_eq k 0 then back else m k

pub saving_first : (m m1 : ℕ → ℕ) (word : ℕ → ℕ) → 256 ≤ m 0 → m1 (m 0) ≡ word 0 → ((k : ℕ) → k ≢ m 0 → m1 k ≡ m k) → Saving m m1 0 word
saving_first m m1 word low here same = record {
  sp = same 0 (omega arith) ∙ (let z : m 0 ≡ m 0 + 0 = omega arith in z);
  words = λ k h.
      let z : m 0 + k ≡ m 0 = omega arith in
      let zero_is : 0 ≡ k = omega arith in
      ap m1 z ∙ here ∙ ap word zero_is;
  same = λ k h apart. same k (elim apart [ inl l ↦ omega arith | inr l ↦ omega arith ]);
}

pub saving_more : (m m1 m2 : ℕ → ℕ) (n v : ℕ) (word : ℕ → ℕ) → 256 ≤ m 0 → v ≡ word (suc n) → Saving m m1 n word → SavedOne m1 m2 v → Saving m m2 (suc n) word
saving_more m m1 m2 n v word low e p q =
    let sp = p.sp in
    record {
      sp = omega (arith, q.sp);
      words = λ k h. elim (near k h) [
        | inl l ↦ q.same (m 0 + k) (omega arith) (omega arith) ∙ p.words k l
        | inr z ↦ ap m2 (let y : m 0 + k ≡ m1 0 + 1 = omega arith in y) ∙ q.there ∙ e ∙ ap word (sym z)
      ];
      same = λ k h apart. q.same k h (elim apart [ inl l ↦ omega arith | inr l ↦ omega arith ]) ∙ p.same k h (elim apart [ inl l ↦ inl l | inr l ↦ inr (omega arith) ]);
    }
  where
    near : (k : ℕ) → k < suc (suc n) → (k < suc n) ⊎ (k ≡ suc n)
    near k h = grind arith

pub called : (m m5 m6 : ℕ → ℕ) (back n : ℕ) → 256 ≤ m 0 → n < 32768 → Saving m m5 4 (frame_word m back) → Entered m5 m6 n → Called m m6 back n
called m m5 m6 back n low few p q =
    let sp = p.sp in
    let up : (k : ℕ) → k < 5 → m6 (m 0 + k) ≡ frame_word m back k = λ k h. q.same (m 0 + k) (omega arith) (omega arith) (omega arith) ∙ p.words k h in
    record {
      sp = omega (arith, q.sp);
      lcl = omega (arith, q.lcl);
      arg = omega (arith, q.arg);
      return_address = (let z : m 0 ≡ m 0 + 0 = omega arith in ap m6 z) ∙ up 0 (omega arith);
      saved_lcl = up 1 (omega arith);
      saved_arg = up 2 (omega arith);
      saved_this = up 3 (omega arith);
      saved_that = up 4 (omega arith);
      same = λ k h one two apart. q.same k h.0 one two ∙ p.same k h.0 (elim apart [ inl l ↦ inl l | inr l ↦ inr (omega arith) ]);
    }

-- the six parts of a return together
pub returned : (m m1 m2 m3 m4 m5 m6 : ℕ → ℕ) → 257 ≤ m 0 → 261 ≤ m 1 → 256 ≤ m 2 → m 2 + 5 ≤ m 1 → Saved m m1 → Resulted m1 m2 → Restored m2 m3 4 → Restored m3 m4 3 → Restored m4 m5 2 → RestoredLast m5 m6 → Returned m m6 × (m6 14 ≡ m (m 1 - 5))
returned m m1 m2 m3 m4 m5 m6 some low arg_low below s p a b c d =
    let to : m1 2 ≡ m 2 = s.same 2 (omega arith) in
    let sp1 : m1 0 ≡ m 0 = s.same 0 (omega arith) in
    let up1 : (k : ℕ) → 256 ≤ k → m1 k ≡ m k = λ k h. s.same k (omega arith) in
    let up2 : (k : ℕ) → 256 ≤ k → k ≢ m 2 → m2 k ≡ m k = λ k h e. p.same k (omega arith) (omega (arith, to)) ∙ up1 k h in
    let up3 : (k : ℕ) → 256 ≤ k → k ≢ m 2 → m3 k ≡ m k = λ k h e. a.same k (omega arith) (omega arith) ∙ up2 k h e in
    let up4 : (k : ℕ) → 256 ≤ k → k ≢ m 2 → m4 k ≡ m k = λ k h e. b.same k (omega arith) (omega arith) ∙ up3 k h e in
    let up5 : (k : ℕ) → 256 ≤ k → k ≢ m 2 → m5 k ≡ m k = λ k h e. c.same k (omega arith) (omega arith) ∙ up4 k h e in
    let f2 : m2 1 ≡ m 1 = p.same 1 (omega arith) (omega (arith, to)) ∙ s.same 1 (omega arith) in
    let f3 : m3 1 ≡ m 1 - 1 = omega (arith, a.below, f2) in
    let f4 : m4 1 ≡ m 1 - 2 = omega (arith, b.below, f3) in
    let f5 : m5 1 ≡ m 1 - 3 = omega (arith, c.below, f4) in
    let e4 : m2 1 - 1 ≡ m 1 - 1 = omega arith in
    let e3 : m3 1 - 1 ≡ m 1 - 2 = omega arith in
    let e2 : m4 1 - 1 ≡ m 1 - 3 = omega arith in
    let e1 : m5 1 - 1 ≡ m 1 - 4 = omega arith in (
      record {
        sp = d.same 0 (omega arith) ∙ c.same 0 (omega arith) (omega arith) ∙ b.same 0 (omega arith) (omega arith) ∙ a.same 0 (omega arith) (omega arith) ∙ omega (arith, p.sp, to);
        result =
            d.same (m 2) (omega arith) ∙ c.same (m 2) (omega arith) (omega arith) ∙ b.same (m 2) (omega arith) (omega arith) ∙ a.same (m 2) (omega arith) (omega arith)
            ∙ ap m2 (sym to) ∙ p.there ∙ (let z : m1 0 - 1 ≡ m 0 - 1 = omega arith in ap m1 z) ∙ up1 (m 0 - 1) (omega arith);
        lcl = d.there ∙ ap m5 e1 ∙ up5 (m 1 - 4) (omega arith) (omega arith);
        arg = d.same 2 (omega arith) ∙ c.there ∙ ap m4 e2 ∙ up4 (m 1 - 3) (omega arith) (omega arith);
        this = d.same 3 (omega arith) ∙ c.same 3 (omega arith) (omega arith) ∙ b.there ∙ ap m3 e3 ∙ up3 (m 1 - 2) (omega arith) (omega arith);
        that = d.same 4 (omega arith) ∙ c.same 4 (omega arith) (omega arith) ∙ b.same 4 (omega arith) (omega arith) ∙ a.there ∙ ap m2 e4 ∙ up2 (m 1 - 1) (omega arith) (omega arith);
        same = λ k h one two three four e. d.same k one ∙ c.same k one two ∙ b.same k one three ∙ a.same k one four ∙ p.same k (h.0) (omega (arith, to, e)) ∙ s.same k (h.2);
      },
      d.same 14 (omega arith) ∙ c.same 14 (omega arith) (omega arith) ∙ b.same 14 (omega arith) (omega arith) ∙ a.same 14 (omega arith) (omega arith) ∙ p.same 14 (omega arith) (omega (arith, to)) ∙ s.return,
    )
