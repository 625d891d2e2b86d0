-- What is still to be reported of a circle, as it is reported.
use Rattle.std.proofs.Common.{◌≡◌, ℕ, zero, suc, ◌+◌, ◌<◌, ◌≤◌, ◌⊎◌, inl, inr, true, List, [], ◌∷◌, ◌++◌, ◌-◌, length, reverse, Option, Some, None, refl, sym, ap, subst, ◌∙◌, arith}
use Rattle.std.specs.Prelude.{slice_get}
use Rattle.std.proofs.lemmas.Option.{slice_get_within}
use Rattle.std.proofs.lemmas.List.{reverse-append}
use Rattle.hdl_tree.specs.declared.library.Entry.{Entry}
use Rattle.hdl_tree.specs.Chips.{Chips}
use Rattle.hdl_plans.specs.Loops.{BitAt, bit_at, IsLoop}
use Rattle.hdl_loops.specs.Inner.Hops.{bit, input_of, output_of, Linked}
use Rattle.hdl_check.proofs.Stages.{entry_there}
use Rattle.hdl_loops.specs.Inner.Knowing.{hops_of, AreHops, IsStraight, AreKnown, IsWayIn, Nests}
use Rattle.hdl_loops.specs.Inner.Stacked.{times, power}
use Rattle.hdl_loops.specs.Inner.Report.{Trip, TripAmong, AreTold, add_name, add_names, names_of, was_passed}
use Rattle.hdl_loops.specs.Inner.Tasks.{net_tasks, way_tasks, Goes, IsSure, IsTask, AreTasks, twice, hop_count, room, tasks_weight}
use Rattle.hdl_loops.specs.declared.hops.Hop.{Hop}
use Rattle.hdl_loops.specs.declared.report.Passage.{Passage}
use Rattle.hdl_loops.specs.declared.report.Report.{Report}
use Rattle.hdl_loops.specs.declared.names.Task.{Task}
use Rattle.hdl_loops.specs.declared.names.Task.TheVariants as tasks
use Rattle.hdl_loops.specs.declared.known.Known.{Known}
use Rattle.hdl_plans.specs.Ways.{JointsFit, TreeFits}
use Rattle.hdl_plans.proofs.Simple.{Among}
use Rattle.hdl_loops.proofs.Crossing.{OnWay, Along, on_more, on_hop, hop_apart, whole_trip}
use Rattle.hdl_loops.proofs.Leaping.{HopTrip, leap_trip}
use Rattle.hdl_loops.proofs.Stacking.{times_less, power_pos}
use Rattle.hdl_loops.proofs.Telling.{told_append, told_all, now_told, told_before}
use Rattle.hdl_loops.proofs.Nesting.{not_zero, nests_fit}
use Rattle.hdl_loops.proofs.Through.{hop_nests, way_hops, way_straight}
use Rattle.hdl_loops.proofs.Trips.{join_trips, trip_loop}

abbrev Names : Type 0
Names = List (List ℕ)

module _ (chips : Chips) (known : List (Option Known)) (chip : Entry) (right : Names → Type 0) (base : List Task) (x y : BitAt) (told0 : Names) (depth : ℕ)
    (all : List Hop) (hops : AreHops chips known chip all) (straight : IsStraight chips chip all) (fit : JointsFit chips chip) (goes : (names : Names) → Along chips chip all (length all) x y names → Goes chips right base (add_names told0 names)) where
  -- a hop more
  further : (n : ℕ) (h : Hop) (before names : Names) → slice_get all n ≡ Some h → Along chips chip all n x (bit h.from) before → HopTrip chips chip h names → Along chips chip all (suc n) x (bit h.to) (before ++ h.from.name.now ∷ names)
  further n h before names e along leap =
      let joint = join_trips chips chip x h.from.name.now h.from.bit (bit h.to) before names along.deep leap.deep (λ v a b. hop_apart chips chip all straight fit n h names e leap v a (along.on v b)) in
      record { deep = joint.deep; on = λ v a. by v joint.deep.over joint.either a }
    where
      either : (v : BitAt) → Among v along.deep.over ⊎ Among v (bit h.from ∷ leap.deep.over) → OnWay chips chip all (suc n) v
      either v (inl a) = on_more chips chip all n v (along.on v (inr a))
      either v (inr a) = on_hop chips chip all n h names e leap v a

      by : (v : BitAt) (over : List BitAt) → ((w : BitAt) → Among w over → Among w along.deep.over ⊎ Among w (bit h.from ∷ leap.deep.over)) → Among v (x ∷ over) → OnWay chips chip all (suc n) v
      by v over split (inl f) = on_more chips chip all n v (along.on v (inl f))
      by v over split (inr a) = either v (split v a)

  nets_go : (n : ℕ) (ws : List Hop) (m : BitAt) (before told : Names) → Linked m ws y → ((p : ℕ) (h : Hop) → slice_get ws p ≡ Some h → slice_get all (n + p) ≡ Some h) → n + length ws ≡ length all → Along chips chip all n x m before → told ≡ add_names told0 before → Goes chips right (net_tasks depth ws ++ base) told
  nets_go n [] m before told linked rest count along is =
      let n_is : n ≡ length all = omega (arith, count) in
      subst (Goes chips right base) (sym is) (goes before (subst (λ (k : ℕ). Along chips chip all k x y before) n_is (subst (λ (v : BitAt). Along chips chip all n x v before) linked along)))
  nets_go n (h ∷ ws) m before told linked rest count along is = λ names through.
      let name = h.from.name.now in
      let zero_is : n + 0 ≡ n = omega arith in
      let e : slice_get all n ≡ Some h = subst (λ (k : ℕ). slice_get all k ≡ Some h) zero_is (rest 0 h refl) in
      let leap = leap_trip chips known chip h names (hops n h e) through in
      let more = further n h before names e (subst (λ (v : BitAt). Along chips chip all n x v before) (sym linked.0) along) leap in
      let told_is : add_names (add_name told name) names ≡ add_names told0 (before ++ name ∷ names) = ap (λ (v : Names). add_names (add_name v name) names) is ∙ sym (told_append before told0 (name ∷ names)) in
      nets_go (suc n) ws (bit h.to) (before ++ name ∷ names) (add_names (add_name told name) names) linked.1
      (λ p g f. let k_is : n + suc p ≡ suc n + p = omega arith in subst (λ (k : ℕ). slice_get all k ≡ Some g) k_is (rest (suc p) g f)) (omega (arith, count)) more told_is

  way_by : (ws : List Hop) → 0 < length ws → Linked x ws y → ((p : ℕ) (h : Hop) → slice_get ws p ≡ Some h → slice_get all p ≡ Some h) → length ws ≡ length all → Goes chips right (way_tasks depth ws ++ base) told0
  way_by [] lt linked rest count = absurd (omega (arith, lt))
  way_by (h ∷ ws) lt linked rest count = λ names through.
      let e = rest 0 h refl in
      let leap = leap_trip chips known chip h names (hops 0 h e) through in
      let along : Along chips chip all 1 (bit h.from) (bit h.to) names = record { deep = leap.deep; on = λ v a. on_hop chips chip all 0 h names e leap v a } in
      nets_go 1 ws (bit h.to) names (add_names told0 names) linked.1
      (λ p g f. let k_is : suc p ≡ 1 + p = omega arith in subst (λ (k : ℕ). slice_get all k ≡ Some g) k_is (rest (suc p) g f)) (omega (arith, count))
      (subst (λ (v : BitAt). Along chips chip all 1 v (bit h.to) names) linked.0 along) refl

  pub way_goes : 0 < length all → Linked x all y → Goes chips right (way_tasks depth all ++ base) told0
  way_goes lt linked = way_by all lt linked (λ p h e. e) refl

-- a way through a chip that is no end goes on in it
pub pass_goes : (chips : Chips) (known : List (Option Known)) (chip : Entry) (right : Names → Type 0) (ts : List Task) (p : Passage) (d depth : ℕ) (ws : List Hop) (told : Names) → slice_get chips.entries p.chip ≡ Some chip → 0 < length ws → Linked (input_of p.through) ws (output_of p.through) → AreHops chips known chip ws →
    IsStraight chips chip ws → JointsFit chips chip → Goes chips right (tasks.Pass p d ∷ ts) told → Goes chips right (way_tasks depth ws ++ tasks.Passed p ∷ ts) told
pass_goes chips known chip right ts p d depth ws told there lt linked hops straight fit goes =
    way_goes chips known chip right (tasks.Passed p ∷ ts) (input_of p.through) (output_of p.through) told depth ws hops straight fit
    (λ names along.
    let trip = whole_trip chips chip ws (input_of p.through) (output_of p.through) names straight linked along in (
      (λ other at. let same : chip ≡ other = cc in subst (λ (v : Entry). TripAmong chips v p.through.input.now p.through.bit p.through.output.now p.through.out (add_names told names)) same (names, trip, now_told names told)),
      goes names (record { chip = chip; there = there; trip = trip }),
    )) lt linked

-- a circle
pub circle_goes : (chips : Chips) (known : List (Option Known)) (chip : Entry) (n : List ℕ) (b depth : ℕ) (ws : List Hop) (told : Names) → told ≡ add_name [] n → 0 < length ws → Linked (bit_at [] n b) ws (bit_at [] n b) → AreHops chips known chip ws → IsStraight chips chip ws → JointsFit chips chip → Goes chips (IsLoop chips chip) (way_tasks depth ws ++ []) told
circle_goes chips known chip n b depth ws told is lt linked hops straight fit =
    subst (Goes chips (IsLoop chips chip) (way_tasks depth ws ++ [])) (sym is)
    (way_goes chips known chip (IsLoop chips chip) [] (bit_at [] n b) (bit_at [] n b) (add_name [] n) depth ws hops straight fit
    (λ names along. subst (IsLoop chips chip) (sym (told_all (n ∷ names))) (trip_loop chips chip n b names along.deep)) lt linked)

-- a way that was reported is reported again by nothing
pub told_goes : (chips : Chips) (told : Report) (p : Passage) (d : ℕ) (ts : List Task) (right : Names → Type 0) (chip : Entry) → slice_get chips.entries p.chip ≡ Some chip → AreTold chips told → was_passed told p.chip p.through.input.now p.through.bit p.through.output.now p.through.out ≡ true → Goes chips right (tasks.Pass p d ∷ ts) (names_of told) → Goes chips right ts (names_of told)
told_goes chips told p d ts right chip there are was goes =
    let r = are p.chip p.through.input.now p.through.bit p.through.output.now p.through.out was chip there in
    subst (Goes chips right ts) (told_before r.0 (names_of told) r.2) (goes r.0 (record { chip = chip; there = there; trip = r.1 }))

pub end_goes : (chips : Chips) (chip : Entry) (p : Passage) (d : ℕ) (ts : List Task) (right : Names → Type 0) (told : Names) → slice_get chips.entries p.chip ≡ Some chip → Trip chips chip (input_of p.through) (output_of p.through) [] → Goes chips right (tasks.Pass p d ∷ ts) told → Goes chips right ts told
end_goes chips chip p d ts right told there trip goes = goes [] (record { chip = chip; there = there; trip = trip })

pub goes_sure : (chips : Chips) (right : Names → Type 0) (ts : List Task) (told : Names) → Goes chips right ts told → IsSure chips ts told
goes_sure chips right [] told goes = tt
goes_sure chips right (tasks.Net n ∷ ts) told goes = tt
goes_sure chips right (tasks.Pass p d ∷ ts) told goes = tt
goes_sure chips right (tasks.Passed p ∷ ts) told goes = goes.0

-- ---- the tasks

nets_tasks : (chips : Chips) (known : List (Option Known)) (chip : Entry) (d e : ℕ) (base : List Task) (ws : List Hop) → AreHops chips known chip ws → Nests d chips chip → suc e ≡ d → AreTasks chips known base → AreTasks chips known (net_tasks e ws ++ base)
nets_tasks chips known chip d e base [] hops nests same are = are
nets_tasks chips known chip d e base (h ∷ ws) hops nests same are =
    let r = hops 0 h refl in
    (tt, ((slice_get_within chips.entries h.chip r.inner r.place, r.crosses_it, hop_nests d e chips known chip h r nests same), nets_tasks chips known chip d e base ws (λ p g f. hops (suc p) g f) nests same are))

pub way_are_tasks : (chips : Chips) (known : List (Option Known)) (chip : Entry) (d e : ℕ) (base : List Task) (ws : List Hop) → AreHops chips known chip ws → Nests d chips chip → suc e ≡ d → AreTasks chips known base → AreTasks chips known (way_tasks e ws ++ base)
way_are_tasks chips known chip d e base [] hops nests same are = are
way_are_tasks chips known chip d e base (h ∷ ws) hops nests same are =
    let r = hops 0 h refl in
    ((slice_get_within chips.entries h.chip r.inner r.place, r.crosses_it, hop_nests d e chips known chip h r nests same), nets_tasks chips known chip d e base ws (λ p g f. hops (suc p) g f) nests same are)

-- ---- the steps that are left

twice_le : (a b : ℕ) → a ≤ b → twice a ≤ twice b
twice_le zero b le = omega arith
twice_le (suc a) zero le = absurd (omega (arith, le))
twice_le (suc a) (suc b) le = let h = twice_le a b (omega (arith, le)) in omega (arith, h)

room_two : (ks : List (Option Known)) → 1 < room ks
room_two [] = omega arith
room_two (k ∷ ks) = let h = room_two ks in omega (arith, h)

pub room_more : (ks : List (Option Known)) (k : ℕ) (inside : Known) → slice_get ks k ≡ Some (Some inside) → twice (length (hops_of inside)) < room ks
room_more [] k inside e = absurd cc
room_more (x ∷ ks) zero inside e =
    let h = room_two ks in
    let same : x ≡ Some inside = cc in
    let n : twice (hop_count x) ≡ twice (length (hops_of inside)) = ap (λ (o : Option Known). twice (hop_count o)) same in
    omega (arith, h, n)
room_more (x ∷ ks) (suc k) inside e = let h = room_more ks k inside e in omega (arith, h)

nets_weight : (b d : ℕ) (ws : List Hop) (base : List Task) → 0 < power b d → tasks_weight b (net_tasks d ws ++ base) ≤ times (twice (length ws)) (power b d) + tasks_weight b base
nets_weight b d [] base pos = omega arith
nets_weight b d (h ∷ ws) base pos = let r = nets_weight b d ws base pos in omega (arith, r, pos)

way_weight : (b d : ℕ) (p : Passage) (ws : List Hop) (ts : List Task) → 0 < length ws → 0 < power b d → tasks_weight b (way_tasks d ws ++ tasks.Passed p ∷ ts) ≤ times (twice (length ws)) (power b d) + tasks_weight b ts
way_weight b d p [] ts lt pos = absurd (omega (arith, lt))
way_weight b d p (h ∷ ws) ts lt pos = let r = nets_weight b d ws (tasks.Passed p ∷ ts) pos in omega (arith, r, pos)

pub pass_less : (ks : List (Option Known)) (k : ℕ) (inside : Known) (d e : ℕ) (p : Passage) (ws : List Hop) (ts : List Task) → slice_get ks k ≡ Some (Some inside) → length ws ≤ length (hops_of inside) → 0 < length ws → suc e ≡ d → tasks_weight (room ks) (way_tasks e ws ++ tasks.Passed p ∷ ts) < tasks_weight (room ks) (tasks.Pass p d ∷ ts)
pass_less ks k inside d e p ws ts there few lt same =
    let b = room ks in
    let two = room_two ks in
    let pos : 0 < power b e = power_pos b e (omega (arith, two)) in
    let more = room_more ks k inside there in
    let le = twice_le (length ws) (length (hops_of inside)) few in
    let small = times_less (twice (length ws)) b (power b e) (omega (arith, more, le)) pos in
    let w = way_weight b e p ws ts lt pos in
    let u : times b (power b e) ≡ power b d = ap (power b) same in
    omega (arith, small, w, u)

pub pass_pos : (ks : List (Option Known)) (p : Passage) (d : ℕ) (ts : List Task) → tasks_weight (room ks) ts < tasks_weight (room ks) (tasks.Pass p d ∷ ts)
pass_pos ks p d ts = let two = room_two ks in let pos : 0 < power (room ks) d = power_pos (room ks) d (omega (arith, two)) in omega (arith, pos)

-- ---- a stack, from its top

pub from_top : {A : Type 0} (old init : List A) (x : A) → old ≡ init ++ x ∷ [] → reverse old ≡ x ∷ reverse init
from_top old init x e = ap (λ v. reverse v) e ∙ reverse-append init (x ∷ [])

-- the hops after the first n
abbrev pub skip : ℕ → List Hop → List Hop
skip zero ws = ws
skip (suc n) [] = []
skip (suc n) (h ∷ ws) = skip n ws

skip_all : (ws : List Hop) (n : ℕ) → length ws ≤ n → skip n ws ≡ []
skip_all [] zero le = refl
skip_all [] (suc n) le = refl
skip_all (h ∷ ws) zero le = absurd (omega (arith, le))
skip_all (h ∷ ws) (suc n) le = skip_all ws n (omega (arith, le))

pub put_none : (d : ℕ) (ws : List Hop) (base : List Task) → 0 < length ws → base ≡ net_tasks d (skip (suc (length ws - 1)) ws) ++ base
put_none d ws base lt = sym (ap (λ (v : List Hop). net_tasks d v ++ base) (skip_all ws (suc (length ws - 1)) (omega (arith, lt))))

-- ---- a step

-- ---- a way through a chip that is no end

pub passed_over : (e : ℕ) (p : Passage) (ws list : List Hop) (old mid new : List Task) → list ≡ ws → mid ≡ old ++ tasks.Passed p ∷ [] → reverse new ≡ way_tasks e list ++ reverse mid → reverse new ≡ way_tasks e ws ++ tasks.Passed p ∷ reverse old
passed_over e p ws list old mid new same pushed put =
    put ∙ (ap (λ (v : List Hop). way_tasks e v ++ reverse mid) same ∙ ap (λ (v : List Task). way_tasks e ws ++ v) (from_top mid old (tasks.Passed p) pushed))

few_of : (o : Option (Option Known)) (x y : BitAt) (ws : List Hop) → IsWayIn o x ws y → (inside : Known) × (o ≡ Some (Some inside)) × (length ws ≤ length (hops_of inside))
few_of None x y ws w = absurd w
few_of (Some None) x y ws w = absurd w
few_of (Some (Some inside)) x y ws w = (inside, refl, w.few)

module _ (chips : Chips) (known : List (Option Known)) (p : Passage) (d : ℕ) (ws : List Hop) (are : AreKnown chips known) (task : IsTask chips known (tasks.Pass p d)) (way : IsWayIn (slice_get known p.chip) (input_of p.through) ws (output_of p.through)) where
  there : (entry : Entry) × (slice_get chips.entries p.chip ≡ Some entry)
  there = entry_there chips.entries p.chip task.0

  hops : AreHops chips known there.0 ws × (0 < length ws) × Linked (input_of p.through) ws (output_of p.through)
  hops = way_hops chips known p.chip there.0 there.1 (input_of p.through) (output_of p.through) ws are way

  fits : TreeFits chips there.0
  fits = nests_fit d chips there.0 (task.2 there.0 there.1)

  straight : IsStraight chips there.0 ws
  straight = way_straight chips known p.chip there.0 there.1 (input_of p.through) (output_of p.through) ws fits are way

  one_deep : suc (d - 1) ≡ d
  one_deep = let pos = not_zero d chips there.0 (task.2 there.0 there.1) in omega (arith, pos)

  pub over_tasks : (ts : List Task) → AreTasks chips known ts → AreTasks chips known (way_tasks (d - 1) ws ++ tasks.Passed p ∷ ts)
  over_tasks ts rest = way_are_tasks chips known there.0 d (d - 1) (tasks.Passed p ∷ ts) ws hops.0 (task.2 there.0 there.1) one_deep (tt, rest)

  pub over_goes : (right : Names → Type 0) (ts : List Task) (told : Names) → Goes chips right (tasks.Pass p d ∷ ts) told → Goes chips right (way_tasks (d - 1) ws ++ tasks.Passed p ∷ ts) told
  over_goes right ts told goes = pass_goes chips known there.0 right ts p d (d - 1) ws told there.1 hops.1 hops.2 hops.0 straight (fits [] there.0 refl) goes

  pub over_less : (ts : List Task) → tasks_weight (room known) (way_tasks (d - 1) ws ++ tasks.Passed p ∷ ts) < tasks_weight (room known) (tasks.Pass p d ∷ ts)
  over_less ts =
      let w = few_of (slice_get known p.chip) (input_of p.through) (output_of p.through) ws way in
      pass_less known p.chip w.0 d (d - 1) p ws ts w.1 w.2 hops.1 one_deep

-- ---- the end

pub goes_end : (chips : Chips) (right : Names → Type 0) (ts : List Task) (told : Names) → length ts ≡ 0 → Goes chips right (reverse ts) told → right told
goes_end chips right [] told none goes = goes
goes_end chips right (t ∷ ts) told none goes = absurd (omega (arith, none))
