-- At an address with a point the words of a memory give a view; and the first number at which a test holds.
use Rattle.std.proofs.Common.{◌≡◌, ◌≤◌, ◌<◌, ◌+◌, ◌-◌, ◌⊎◌, ◌∷◌, inl, inr, ℕ, zero, suc, Bool, true, false, List, [], Option, Some, None, map, refl, sym, ◌∙◌, ap, subst, arith}
use Rattle.std.specs.Prelude.{nat_le, slice_get, if◌then◌else◌}
use Rattle.std.proofs.lemmas.Bool.Decides.{nat_tests}
use Rattle.outer_world.specs.declared.point.Point.{Point}
use Rattle.jack_debug.specs.declared.places.Places.{Places}
use Rattle.jack_debug.specs.declared.places.SubPlaces.{SubPlaces}
use Rattle.jack_debug.specs.declared.seen.Caller.{Caller}
use Rattle.jack_debug.specs.declared.seen.View.{View}
use Rattle.jack_debug.specs.Walk.{Callers, IsFrame, ShowsSub, Walk, caller_of, called, first_named, is_in, no_frame, no_point, point_in, static_variable, statics_of, sub_at, this_of, to_start, variables_from, word_at}

-- ---- the callers

module _ (places : Places) (words : ℕ → ℕ) where
  pub record HasCallers (above l : ℕ) : Type 0 where
    pub found : List Caller
    pub lost : Bool
    pub are : Callers places words above l found lost

  frame_or_not : (above l : ℕ) → IsFrame above l ⊎ (IsFrame above l → ⊥)
  frame_or_not above l = by_tests (nat_le 261 l) (nat_le l 2047) (nat_le (l + 5) above) refl refl refl
    where
      by_tests : (a b c : Bool) → nat_le 261 l ≡ a → nat_le l 2047 ≡ b → nat_le (l + 5) above ≡ c → IsFrame above l ⊎ (IsFrame above l → ⊥)
      by_tests true true true a b c = inl (record { from = grind (arith, nat_tests, a); to = grind (arith, nat_tests, b); below = grind (arith, nat_tests, c) })
      by_tests false b' c' a b c = inr (λ f. let h = f.from in let no : ⊥ = grind (arith, nat_tests, a, h) in no)
      by_tests true false c' a b c = inr (λ f. let h = f.to in let no : ⊥ = grind (arith, nat_tests, b, h) in no)
      by_tests true true false a b c = inr (λ f. let h = f.below in let no : ⊥ = grind (arith, nat_tests, c, h) in no)

  further : (above l : ℕ) (p : Point) → IsFrame above l → point_in places.ranges (words (l - 5)) ≡ Some p → (sub : ℕ) → p.sub ≡ sub → HasCallers l (words (l - 4)) → HasCallers above l
  further above l p f e zero z rest = record { found = caller_of places words p ∷ []; lost = false; are = to_start above l p f e z }
  further above l p f e (suc k) z rest = record {
    found = caller_of places words p ∷ rest.found;
    lost = rest.lost;
    are = called above l p rest.found rest.lost f e (let more : 0 < p.sub = omega (arith, z) in more) rest.are;
  }

  pub callers_there : (fuel above l : ℕ) → above ≤ fuel → HasCallers above l
  callers_there zero above l few = record { found = []; lost = true; are = no_frame above l (λ f. let h = f.below in let no : ⊥ = omega (arith, h, few) in no) }
  callers_there (suc fuel) above l few = by_frame (callers_there fuel l (words (l - 4))) (frame_or_not above l)
    where
      by_point : (l ≤ fuel → HasCallers l (words (l - 4))) → IsFrame above l → (o : Option Point) → point_in places.ranges (words (l - 5)) ≡ o → HasCallers above l
      by_point rest f None e = record { found = []; lost = true; are = no_point above l f e }
      by_point rest f (Some p) e =
          let h = f.below in
          further above l p f e p.sub refl (rest (let less : l ≤ fuel = omega (arith, h, few) in less))

      by_frame : (l ≤ fuel → HasCallers l (words (l - 4))) → IsFrame above l ⊎ (IsFrame above l → ⊥) → HasCallers above l
      by_frame rest (inl f) = by_point rest f (point_in places.ranges (words (l - 5))) refl
      by_frame rest (inr none) = record { found = []; lost = true; are = no_frame above l none }

  -- ---- the view

  of_sub : (pc : ℕ) (p : Point) (o : Option SubPlaces) → (v : View) × (v.point ≡ p) × ShowsSub places words o pc v
  of_sub pc p None = (
    record { point = p; this = None; arguments = []; locals = []; statics = []; callers = []; lost = false },
    refl,
    record { this = refl; arguments = refl; locals = refl; statics = refl; callers = refl; lost = refl },
  )
  of_sub pc p (Some sub) =
      let cs = callers_there 2052 2052 (words 1) (omega arith) in (
        record {
          point = p;
          this = this_of words sub.form p.number;
          arguments = variables_from (λ k. word_at words (words 2 + k)) (first_named sub.form) sub.arguments;
          locals = variables_from (λ k. if is_in sub.from sub.to pc then 0 else word_at words (words 1 + k)) 0 sub.locals;
          statics = map (static_variable words) (statics_of (slice_get places.classes sub.class));
          callers = cs.found;
          lost = cs.lost;
        },
        refl,
        record { this = refl; arguments = refl; locals = refl; statics = refl; callers = cs.are },
      )

  pub view_there : (pc : ℕ) (p : Point) → point_in places.ranges pc ≡ Some p → (v : View) × Walk places words pc v
  view_there pc p e =
      let (v, same, shows) = of_sub pc p (sub_at places p.sub) in
      (v, record { point = e ∙ ap Some (sym same); shows = subst (λ (q : Point). ShowsSub places words (sub_at places q.sub) pc v) (sym same) shows })

-- ---- the first number

pub record IsFirst (test : ℕ → Bool) (n k : ℕ) : Type 0 where
  pub few : k ≤ n
  pub holds : test k ≡ true
  pub before : (c : ℕ) → c < k → test c ≡ false

abbrev pub HoldsNowhere : (ℕ → Bool) → ℕ → Type 0
HoldsNowhere test n = (c : ℕ) → c ≤ n → test c ≡ false

none_at : (test : ℕ → Bool) (n : ℕ) → HoldsNowhere test n → test (suc n) ≡ false → HoldsNowhere test (suc n)
none_at test n none here c few = by_test (nat_le c n) refl
  where
    by_test : (b : Bool) → nat_le c n ≡ b → test c ≡ false
    by_test true e = none c (grind (arith, nat_tests, e))
    by_test false e = let same : c ≡ suc n = grind (arith, nat_tests, e) in ap test same ∙ here

pub first_or_none : (test : ℕ → Bool) (n : ℕ) → ((k : ℕ) × IsFirst test n k) ⊎ HoldsNowhere test n
first_or_none test zero = by_test (test 0) refl
  where
    by_test : (b : Bool) → test 0 ≡ b → ((k : ℕ) × IsFirst test 0 k) ⊎ HoldsNowhere test 0
    by_test true e = inl (0, record { few = omega arith; holds = e; before = λ c lt. absurd (omega arith) })
    by_test false e = inr (λ c few. let same : c ≡ 0 = omega arith in ap test same ∙ e)
first_or_none test (suc n) = by_found (first_or_none test n)
  where
    by_test : HoldsNowhere test n → (b : Bool) → test (suc n) ≡ b → ((k : ℕ) × IsFirst test (suc n) k) ⊎ HoldsNowhere test (suc n)
    by_test none true e = inl (suc n, record { few = omega arith; holds = e; before = λ c lt. none c (omega arith) })
    by_test none false e = inr (none_at test n none e)

    by_found : ((k : ℕ) × IsFirst test n k) ⊎ HoldsNowhere test n → ((k : ℕ) × IsFirst test (suc n) k) ⊎ HoldsNowhere test (suc n)
    by_found (inl (k, is)) = inl (k, record { few = let h = is.few in omega (arith, h); holds = is.holds; before = is.before })
    by_found (inr none) = by_test none (test (suc n)) refl
