-- The callers that have been found so far, and those that are still to come.
use Rattle.std.proofs.Common.{◌≡◌, ◌++◌, ◌<◌, ◌-◌, ℕ, zero, suc, Bool, true, false, List, [], ◌∷◌, refl, sym, ap, subst, ◌∙◌, arith, append-nil, append_assoc}
use Rattle.std.specs.Prelude.{Some, None}
use Rattle.outer_world.specs.declared.point.Point.{Point}
use Rattle.jack_debug.specs.declared.places.Places.{Places}
use Rattle.jack_debug.specs.declared.seen.Caller.{Caller}
use Rattle.jack_debug.specs.Walk.{point_in, sub_at, name_of, IsFrame, caller_of, Callers, no_frame, no_point, to_start, called}

positive : (n : ℕ) → (n ≡ 0 → ⊥) → 0 < n
positive zero h = absurd (h refl)
positive (suc n) h = omega arith

module _ (places : Places) (words : ℕ → ℕ) (found : List Caller) (above l : ℕ)
    (go : (cs : List Caller) (b : Bool) → Callers places words above l cs b → Callers places words 2052 (words 1) (found ++ cs) b) where
  ended : (b : Bool) → Callers places words above l [] b → Callers places words 2052 (words 1) found b
  ended b h = subst (λ z. Callers places words 2052 (words 1) z b) (append-nil found) (go [] b h)

  pub ends_lost : (IsFrame above l → ⊥) → Callers places words 2052 (words 1) found true
  ends_lost h = ended true (no_frame above l h)

  module _ (f : IsFrame above l) (w : ℕ) (at : w ≡ words (l - 5)) where
    pub ends_nowhere : None ≡ point_in places.ranges w → Callers places words 2052 (words 1) found true
    ends_nowhere e = ended true (no_point above l f (ap (point_in places.ranges) (sym at) ∙ sym e))

    module _ (p : Point) (e : Some p ≡ point_in places.ranges w) (name : List ℕ) (named : name ≡ name_of (sub_at places p.sub) p.sub) (more : List Caller) (added : more ≡ found ++ record { sub = name; number = p.number } ∷ []) where
      there : point_in places.ranges (words (l - 5)) ≡ Some p
      there = ap (point_in places.ranges) (sym at) ∙ sym e

      added_is : more ≡ found ++ caller_of places words p ∷ []
      added_is = added ∙ ap (λ (z : List ℕ). found ++ record { sub = z; number = p.number } ∷ []) named

      pub ends_home : p.sub ≡ 0 → Callers places words 2052 (words 1) more false
      ends_home z = subst (λ y. Callers places words 2052 (words 1) y false) (sym added_is) (go (caller_of places words p ∷ []) false (to_start above l p f there z))

      pub goes_further : (p.sub ≡ 0 → ⊥) → (k : ℕ) → k ≡ words (l - 4) → (cs : List Caller) (b : Bool) → Callers places words l k cs b → Callers places words 2052 (words 1) (more ++ cs) b
      goes_further z k is cs b h =
          let rest = subst (λ y. Callers places words l y cs b) is h in
          let all = go (caller_of places words p ∷ cs) b (called above l p cs b f there (positive p.sub z) rest) in
          subst (λ y. Callers places words 2052 (words 1) y b) (sym (append_assoc found (caller_of places words p ∷ []) cs) ∙ ap (λ y. y ++ cs) (sym added_is)) all
