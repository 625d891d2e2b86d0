-- What a tally counts, one address further.
use Rattle.std.proofs.Common.{◌≡◌, ◌<◌, ◌≤◌, ◌⊎◌, ℕ, suc, List, [], ◌∷◌, Option, Some, None, length, refl, inl, inr, ap, ◌∙◌, sym, arith}
use Rattle.std.specs.Prelude.{◌-◌, if◌then◌else◌, nat_eq, nat_lt, slice_get, unwrap_or}
use Rattle.std.specs.List.{list_any}
use Rattle.std.specs.Option.{option_or}
use Rattle.std.proofs.lemmas.Bool.{cases_lt, le-leb, lt-ltb, le-ltb}
use Rattle.std.proofs.lemmas.Option.{slice_get-get_or}
use Rattle.outer_world.specs.declared.point.Point.{Point}
use Rattle.hack_isa.specs.Machine.{machine_at}
use Rattle.simulation.specs.Trace.{point_at, steps}
use Rattle.simulation.proofs.Traces.{steps_same, point_same}
use Rattle.image_map.specs.declared.map.PointRange.{PointRange}
use Rattle.image_map.specs.declared.map.ImageMap.{ImageMap}
use Rattle.image_map.specs.Map.{Map, the_map, point_in, Covers}
use Rattle.image_map.specs.Computer.{run_trace}
use Rattle.image_map.specs.Tallies.{HasTallied, point_seen, trace_through}

by_cases : {A B C : Type 0} → A ⊎ B → (A → C) → (B → C) → C
by_cases (inl a) f g = f a
by_cases (inr b) f g = g b

-- ---- points

-- the ranges that cover addresses go up
covers_up : (rs : List PointRange) (at to : ℕ) → Covers at rs to → at ≤ to
covers_up [] at to e = omega (arith, e)
covers_up (r ∷ rs) at to c = let more = covers_up rs r.to to c.2 in let some = c.1 in omega (arith, more, some)

in_first : (r : PointRange) (rs : List PointRange) (k : ℕ) → r.from ≤ k → k < r.to → point_in (r ∷ rs) k ≡ Some r.point
in_first r rs k a b = rw (le-leb r.from k a, lt-ltb k r.to b) refl

past_first : (r : PointRange) (rs : List PointRange) (k : ℕ) → r.from ≤ k → r.to ≤ k → point_in (r ∷ rs) k ≡ point_in rs k
past_first r rs k a b = rw (le-leb r.from k a, le-ltb k r.to b) refl

-- an address that is covered has a point
has_point : (rs : List PointRange) (at to k : ℕ) → Covers at rs to → at ≤ k → k < to → (p : Point) × (point_in rs k ≡ Some p)
has_point [] at to k e a b = absurd (let no : ⊥ = omega (arith, e) in no)
has_point (r ∷ rs) at to k c a b =
    let first : r.from ≤ k = let e = c.0 in omega (arith, e) in
    by_cases (cases_lt k r.to)
    (λ l. (r.point, in_first r rs k first l))
    (λ l. let p = has_point rs r.to to k c.2 l b in (p.0, past_first r rs k first l ∙ p.1))

-- an address after them has no point
no_point : (rs : List PointRange) (at to k : ℕ) → Covers at rs to → to ≤ k → point_in rs k ≡ None
no_point [] at to k e h = refl
no_point (r ∷ rs) at to k c h =
    let up = covers_up rs r.to to c.2 in
    let from : r.from ≤ k = let e = c.0 in let some = c.1 in omega (arith, e) in
    past_first r rs k from (omega arith) ∙ no_point rs r.to to k c.2 h

-- the address after the last range
pub mapped_to : (rs : List PointRange) (at end : ℕ) (r : PointRange) → Some r ≡ slice_get rs (length rs - 1) → Covers at rs end → r.to ≡ end
mapped_to [] at end r e c = absurd (cc e)
mapped_to (x ∷ []) at end r e c = let same : r ≡ x = cc e in ap (λ (z : PointRange). z.to) same ∙ c.2
mapped_to (x ∷ y ∷ rs) at end r e c =
    let place : length (x ∷ y ∷ rs) - 1 ≡ suc (length (y ∷ rs) - 1) = omega arith in
    mapped_to (y ∷ rs) x.to end r (e ∙ ap (slice_get (x ∷ y ∷ rs)) place) c.2

pub mapped_none : (rs : List PointRange) (end : ℕ) → None ≡ slice_get rs (length rs - 1) → Covers 0 rs end → 0 ≡ end
mapped_none [] end e c = c
mapped_none (x ∷ rs) end e c =
    let there = slice_get-get_or (x ∷ rs) (length (x ∷ rs) - 1) x (omega arith) in
    absurd (let no : ⊥ = cc (e, there) in no)

seen_is : (rs : List PointRange) (k : ℕ) (p : Point) → point_in rs k ≡ Some p → Some (point_seen rs k) ≡ Some p
seen_is rs k p e = ap (λ o. Some (unwrap_or o (record { sub = 0; number = 0 }))) e

-- the point of the last address that has one, after one more address
pub place_more : (rs : List PointRange) (mapped now seen : ℕ) (last : Option Point) → Covers 0 rs mapped → last ≡ Some (point_seen rs seen)
    → option_or (point_in rs now) last ≡ Some (point_seen rs (if nat_lt now mapped then now else seen))
place_more rs mapped now seen last c e =
    by_cases (cases_lt now mapped)
    (λ l.
    let p = has_point rs 0 mapped now c (omega arith) l in
    ap (λ o. option_or o last) p.1 ∙ sym (seen_is rs now p.0 p.1) ∙ ap (λ b. Some (point_seen rs (if b then now else seen))) (sym (lt-ltb now mapped l)))
    (λ l.
    ap (λ o. option_or o last) (no_point rs 0 mapped now c l) ∙ e ∙ ap (λ b. Some (point_seen rs (if b then now else seen))) (sym (le-ltb now mapped l)))

-- the same of what was computed
pub place_counted : (rs : List PointRange) (mapped now pc seen result : ℕ) → Covers 0 rs mapped → now ≡ pc → result ≡ (if nat_lt now mapped then now else seen)
    → (last : Option Point) → last ≡ Some (point_seen rs seen) → option_or (point_in rs pc) last ≡ Some (point_seen rs result)
place_counted rs mapped now pc seen result c at e last h =
    ap (λ k. option_or (point_in rs k) last) (sym at) ∙ place_more rs mapped now seen last c h ∙ ap (λ k. Some (point_seen rs k)) (sym e)

-- the first address has a point
pub place_first : (rs : List PointRange) (mapped : ℕ) → Covers 0 rs mapped → 0 < mapped → point_in rs 0 ≡ Some (point_seen rs 0)
place_first rs mapped c h = let p = has_point rs 0 mapped 0 c (omega arith) h in p.1 ∙ sym (seen_is rs 0 p.0 p.1)

-- one address further
pub tallied_more : (map : ImageMap) (mapped at steps seen address steps' seen' : ℕ) → Covers 0 map.points mapped
    → steps' ≡ (if list_any (nat_eq at) map.commits then suc steps else steps) → seen' ≡ (if nat_lt address mapped then address else seen)
    → (pc : ℕ → ℕ) (n : ℕ) → HasTallied (record { map = map; at = at; steps = steps; point = point_seen map.points seen }) pc n → pc (suc n) ≡ address
    → HasTallied (record { map = map; at = address; steps = steps'; point = point_seen map.points seen' }) pc (suc n)
tallied_more map mapped at steps seen address steps' seen' covers counts sees pc n h e = record {
  here = sym e;
  counted = counts ∙ ap (λ k. if list_any (nat_eq k) map.commits then suc steps else steps) h.here
      ∙ ap (λ s. if list_any (nat_eq (pc n)) map.commits then suc s else s) h.counted;
  seen = place_counted map.points mapped address (pc (suc n)) seen seen' covers (sym e) sees (point_at (trace_through (the_map map) pc) n) h.seen;
}

-- ---- the run of the computer

abbrev pub machine_pc : List ℕ → (ℕ → ℕ) → ℕ → ℕ
machine_pc image keys c = (machine_at image keys c).pc

-- what a map counts of the addresses that the computer goes through is what it counts of the run
pub run_steps : (image : List ℕ) (map : Map) (keys : ℕ → ℕ) (n : ℕ) → steps (trace_through map (machine_pc image keys)) n ≡ steps (run_trace image map keys) n
run_steps image map keys n = steps_same (trace_through map (machine_pc image keys)) (run_trace image map keys) n (λ c less. refl)

pub run_point : (image : List ℕ) (map : Map) (keys : ℕ → ℕ) (n : ℕ) → point_at (trace_through map (machine_pc image keys)) n ≡ point_at (run_trace image map keys) n
run_point image map keys n = point_same (trace_through map (machine_pc image keys)) (run_trace image map keys) n (λ c less. refl)
