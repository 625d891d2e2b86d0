-- Where the next command of a frame stands in the image, and what the map says of its addresses.
use Rattle.std.proofs.Common.{◌≡◌, ◌+◌, ◌-◌, ◌<◌, ◌≤◌, ◌%◌, ◌++◌, ◌⊎◌, ◌&&◌, ◌||◌, not, ℕ, zero, suc, Bool, true, false, List, [], ◌∷◌, Option, Some, None, option_map, unwrap_or, slice_get, nat_eq, length, drop, refl, sym, ap, subst, ◌∙◌, arith, inl, inr, if◌then◌else◌}
use Rattle.std.specs.Prelude.{map, All, slice_index}
use Rattle.std.specs.List.{flat_map, filter_map, list_any, cons_option}
use Rattle.std.proofs.lemmas.Option.{get_or_from_slice_get, slice_get_within}
use Rattle.std.proofs.lemmas.Bool.{ne_eqb, eq-eqb}
use Rattle.std.proofs.lemmas.List.{map-append}
use Rattle.std.proofs.lemmas.List.Concat.{flat_map-append}
use Rattle.std.proofs.lemmas.List.Elements.{filter_map-append}
use Rattle.std.proofs.lemmas.List.Folds.{list_any-append}
use Rattle.outer_world.specs.declared.point.Point.{Point}
use Rattle.hack_isa.specs.declared.Instr.{Instr}
use Rattle.hack_isa.specs.declared.Instr.TheVariants.{Address, Compute, Shift}
use Rattle.hack_isa.specs.Table.{WellFormed, word_of}
use Rattle.vm_tree.specs.declared.command.Segment.TheVariants as segment
use Rattle.vm_link.specs.declared.linked.Code.{Code}
use Rattle.vm_link.specs.declared.linked.Step.{Step}
use Rattle.vm_link.specs.declared.linked.Step.TheVariants as step
use Rattle.vm_link.specs.declared.linked.Linked.{Linked}
use Rattle.vm_link.specs.declared.linked.LinkedFunction.{LinkedFunction}
use Rattle.vm_link.specs.Sound.{IsSound}
use Rattle.vm_link.specs.Uniform.{IsUniform, is_shared}
use Rattle.vm_templates.specs.declared.routines.Routine.{Routine}
use Rattle.vm_templates.specs.declared.routines.Routine.TheVariants as routine
use Rattle.vm_templates.specs.Templates.{template, size, routine_at, routine_of, routine_size, start_code}
use Rattle.vm_templates.specs.Commands.{HasRoutine, IsAmong, last_among}
use Rattle.vm_templates.specs.Computer.{Stands, HasLoop}
use Rattle.vm_templates.proofs.Placed.{stands_front, stands_back, all_stand, all_words, starts}
use Rattle.vm_machine.specs.Step.{code_in, code_of}
use Rattle.vm_machine.specs.Level.{subroutine_of, number_of}
use Rattle.vm_translator.specs.declared.layout.Placed.{Placed}
use Rattle.vm_translator.specs.Shapes.{shape_of, step_size}
use Rattle.vm_translator.specs.Places.{address_of, base_of, end_of, code_at, program, target_of}
use Rattle.vm_translator.specs.Image.{opening, closing, entry_of, piece, image_of, commit_of, commits_of, routines, shared_at, shared_commits, start_commits, start_ranges, points_of, range_of}
use Rattle.vm_translator.specs.Shared.{lasts_from, shared_from, used_routines, uses, has_routine as has_one}
use Rattle.vm_translator.specs.Plain.{IsPlain}
use Rattle.vm_translator.specs.Carries.{IsTarget}
use Rattle.vm_translator.specs.Mapping.{start_address, location}
use Rattle.image_map.specs.Map.{point_in, map_of}
use Rattle.vm_translator.proofs.Sums.{size_some, size_to, address_next, routine_to, shared_is}
use Rattle.vm_translator.proofs.Sizes.{length_closing, length_image, length_opening, length_with}
use Rattle.vm_translator.proofs.Routines.{no_last, routine_placed, routine_some, start_uses, step_uses, Placed as InRoutines}
use Rattle.vm_translator.proofs.Laid.{Each}
use Rattle.vm_translator.proofs.Answering.{all_ready}
use Rattle.vm_translator.proofs.PlainLemmas.{leads, plain_image}
use Rattle.vm_translator.proofs.Chained.{Chain, chain_split, chain_from, chain_up, chain_length, no_commit, among_from}
use Rattle.vm_translator.proofs.Covered.{in_range, no_point, past_ranges, chain_covers, points_are, start_covers}

⊎_by : {A B C : Type 0} → A ⊎ B → (A → C) → (B → C) → C
⊎_by (inl a) f g = f a
⊎_by (inr b) f g = g b

well_formed : (i : Instr) → IsPlain i → WellFormed i
well_formed (Address n) p = p
well_formed (Compute m c d j) p = p.0
well_formed (Shift m left d dest jump) p = p

abbrev pub words : Linked → List ℕ
words l = map word_of (image_of l)

-- What the map says of the addresses of a command and of its routine, all but the last and the last.
pub record OnWay (l : Linked) (point : Point) (commit : Bool) (here n : ℕ) (o : Option Routine) : Type 0 where
  pub inside : (k : ℕ) → IsAmong (routines l) here n o k → (point_in (points_of l) k ≡ Some point) ⊎ ((point_in (points_of l) k ≡ None) × (k < length (image_of l)))
  pub quiet : (k : ℕ) → IsAmong (routines l) here n o k → list_any (nat_eq k) (commits_of l) ≡ false
  pub last_inside : (point_in (points_of l) (last_among (routines l) here n o) ≡ Some point) ⊎ ((point_in (points_of l) (last_among (routines l) here n o) ≡ None) × (last_among (routines l) here n o < length (image_of l)))
  pub last : list_any (nat_eq (last_among (routines l) here n o)) (commits_of l) ≡ commit
  pub apart : (last_among (routines l) here n o ≡ 21 → ⊥) × (last_among (routines l) here n o ≡ 22 → ⊥)

-- The command c of a function's place stands at the address `here`.
pub record Placing (l : Linked) (function : Option ℕ) (p : ℕ) (c : Code) (here : ℕ) : Type 0 where
  pub to : ℕ
  pub fits : here + size (shape_of to c.step) ≤ 32768
  pub stands : Stands (map word_of (image_of l)) here (template (routines l) here (shape_of to c.step))
  pub shared : HasRoutine (map word_of (image_of l)) (routines l) (routine_of (shape_of to c.step))
  pub target : IsTarget (location l) function to c.step
  pub next : (here + size (shape_of to c.step)) % 32768 ≡ location l function (p + 1)
  -- its own addresses have its point
  pub points : (k : ℕ) → here ≤ k → k < here + size (shape_of to c.step) → point_in (points_of l) k ≡ Some (record { sub = subroutine_of l function; number = c.statement })
  pub way : OnWay l (record { sub = subroutine_of l function; number = c.statement }) c.commit here (size (shape_of to c.step)) (routine_of (shape_of to c.step))
  pub is : here ≡ location l function p

code_same : (o : Option LinkedFunction) → code_of o ≡ unwrap_or (option_map (λ f. f.code) o) []
code_same None = refl
code_same (Some f) = refl

each_middle : {A : Type 0} (P : A → Type 0) (xs : List A) (x : A) (ys : List A) → Each P (xs ++ x ∷ ys) → P x
unfolding Each
each_middle P [] x ys e = e.0
each_middle P (z ∷ xs) x ys e = each_middle P xs x ys e.1

rest_at : (cs : List Code) (p : ℕ) (c : Code) → slice_get cs p ≡ Some c → drop p cs ≡ c ∷ drop (suc p) cs
rest_at [] p c g = absurd (cc g)
rest_at (d ∷ cs) zero c g = let e : d ≡ c = cc in ap (λ z. z ∷ cs) e
rest_at (d ∷ cs) (suc p) c g = rest_at cs p c g

-- what a step says of the commits of those after it and its own
commit_here : (a : ℕ) (x : Placed) (behind : List Placed) → list_any (nat_eq a) (filter_map commit_of behind) ≡ false
    → list_any (nat_eq a) (filter_map commit_of (x ∷ behind)) ≡ ((x.code.commit && not (is_shared x.code.step)) && nat_eq a (x.at + step_size x.code.step - 1))
commit_here a x behind h = by_commit (x.code.commit && not (is_shared x.code.step))
  where
    by_commit : (b : Bool) → list_any (nat_eq a) (cons_option (if b then Some (x.at + step_size x.code.step - 1) else None) (filter_map commit_of behind)) ≡ (b && nat_eq a (x.at + step_size x.code.step - 1))
    by_commit true = either (nat_eq a (x.at + step_size x.code.step - 1))
      where
        either : (b : Bool) → (b || list_any (nat_eq a) (filter_map commit_of behind)) ≡ b
        either true = refl
        either false = h
    by_commit false = h

same_and : (b : Bool) (a : ℕ) → (b && nat_eq a a) ≡ b
same_and true a = eq-eqb a a refl
same_and false a = refl

apart_and : (b : Bool) (a k : ℕ) → (a ≡ k → ⊥) → (b && nat_eq a k) ≡ false
apart_and true a k h = ne_eqb a k h
apart_and false a k h = refl

target_is : (l : Linked) (k : ℕ) (s : Step) → target_of (base_of l) l.functions k s < 32768 → IsTarget (location l) (Some k) (target_of (base_of l) l.functions k s) s
target_is l k (step.Goto p) h = omega arith
target_is l k (step.IfGoto p) h = omega arith
target_is l k (step.Call f n) h = omega arith
target_is l k (step.Operate o) h = tt
target_is l k (step.Push g i) h = tt
target_is l k (step.Pop g i) h = tt
target_is l k (step.Function n) h = tt
target_is l k step.Return h = tt

-- a call, a return or a comparison is a commit where the program has commits
all_at : {A : Type 0} (P : A → Type 0) (xs : List A) (k : ℕ) (x : A) → All P xs → slice_get xs k ≡ Some x → P x
all_at P xs k x h g = subst P (get_or_from_slice_get xs k x x g) (h k x (slice_get_within xs k x g))

uniform_at : (l : Linked) → IsUniform l → (k p : ℕ) (c : Code) → slice_get (code_in l (Some k)) p ≡ Some c → is_shared c.step ≡ true → c.commit ≡ l.marked
uniform_at l u k p c g e = by_function (slice_get l.functions k) refl g
  where
    by_function : (o : Option LinkedFunction) → slice_get l.functions k ≡ o → slice_get (code_of o) p ≡ Some c → c.commit ≡ l.marked
    by_function None q h = absurd (cc h)
    by_function (Some f) q h = all_at (λ (c : Code). is_shared c.step ≡ true → c.commit ≡ l.marked) f.code p c (all_at (λ (f : LinkedFunction). All (λ (c : Code). is_shared c.step ≡ true → c.commit ≡ l.marked) f.code) l.functions k f u q) h e

module _ (l : Linked) (sound : IsSound l) (uniform : IsUniform l) (whole : l.bare ≡ false) (few : length (image_of l) ≤ 32768) where
  abbrev code_instrs : List Instr
  code_instrs = flat_map (piece (routines l) (base_of l) l.functions) (program l)

  abbrev shared_instrs : List Instr
  shared_instrs = shared_from (shared_at l) (used_routines l)

  base_is : base_of l ≡ 23
  base_is = ap (λ b. if b then 0 else 23) whole

  end_few : end_of l ≤ 32768
  end_few = let n = length_image l in omega arith

  -- the end is before the routines
  end_before : end_of l ≤ shared_at l
  end_before = omega arith

  base_before : base_of l ≤ end_of l
  base_before = omega arith

  formed : All WellFormed (image_of l)
  formed = let p = plain_image l few (all_ready l few sound) in λ k d h. well_formed _ (p k d h)

  pub image_words : (k : ℕ) → slice_index (map word_of (image_of l)) k < 65536
  image_words = all_words (image_of l) formed

  image_stands : Stands (map word_of (image_of l)) 0 (opening l ++ (code_instrs ++ (closing l ++ shared_instrs)))
  image_stands = all_stand (image_of l) formed

  behind_opening : Stands (map word_of (image_of l)) (base_of l) (code_instrs ++ (closing l ++ shared_instrs))
  behind_opening =
      let n = length_opening l in
      let e : 0 + length (opening l) ≡ base_of l = omega arith in
      subst (λ a. Stands (map word_of (image_of l)) a (code_instrs ++ (closing l ++ shared_instrs))) e
      (stands_back (map word_of (image_of l)) 0 (opening l) (code_instrs ++ (closing l ++ shared_instrs)) image_stands)

  code_stands : Stands (map word_of (image_of l)) (base_of l) code_instrs
  code_stands = stands_front (map word_of (image_of l)) (base_of l) code_instrs (closing l ++ shared_instrs) behind_opening

  pub start_stands : Stands (map word_of (image_of l)) 0 (start_code (routines l) (entry_of l))
  start_stands =
      let e : opening l ≡ start_code (routines l) (entry_of l) = ap (λ b. if b then [] else start_code (routines l) (entry_of l)) whole in
      subst (λ is. Stands (map word_of (image_of l)) 0 is) e (stands_front (map word_of (image_of l)) 0 (opening l) (code_instrs ++ (closing l ++ shared_instrs)) image_stands)

  program_chain : Chain (base_of l) (program l) (end_of l)
  program_chain = chain_from 0 (base_of l) l.functions

  -- the routines after the code
  shared_stands : Stands (map word_of (image_of l)) (shared_at l) shared_instrs
  shared_stands =
      let n = chain_length (routines l) (base_of l) l.functions (base_of l) (end_of l) (program l) program_chain in
      let m = length_closing l in
      let e : base_of l + length code_instrs + length (closing l) ≡ shared_at l = omega arith in
      subst (λ a. Stands (map word_of (image_of l)) a shared_instrs) e
      (stands_back (map word_of (image_of l)) (base_of l + length code_instrs) (closing l) shared_instrs
      (stands_back (map word_of (image_of l)) (base_of l) code_instrs (closing l ++ shared_instrs) behind_opening))

  start_commits_are : start_commits l ≡ (if l.marked then 20 ∷ [] else [])
  start_commits_are = ap (λ b. if not b && l.marked then 20 ∷ [] else []) whole

  -- an address is a commit of the start, of a step, or of a routine
  commit_parts : (a : ℕ) → list_any (nat_eq a) (commits_of l) ≡ ((l.marked && nat_eq a 20) || (list_any (nat_eq a) (filter_map commit_of (program l)) || list_any (nat_eq a) (shared_commits l)))
  commit_parts a =
      ap (λ cs. list_any (nat_eq a) (cs ++ (filter_map commit_of (program l) ++ shared_commits l))) start_commits_are
      ∙ list_any-append (nat_eq a) (if l.marked then 20 ∷ [] else []) (filter_map commit_of (program l) ++ shared_commits l)
      ∙ ap (λ b. list_any (nat_eq a) (if l.marked then 20 ∷ [] else []) || b) (list_any-append (nat_eq a) (filter_map commit_of (program l)) (shared_commits l))
      ∙ ap (λ b. b || (list_any (nat_eq a) (filter_map commit_of (program l)) || list_any (nat_eq a) (shared_commits l))) (by_marked l.marked)
    where
      by_marked : (b : Bool) → list_any (nat_eq a) (if b then 20 ∷ [] else []) ≡ (b && nat_eq a 20)
      by_marked true = either (nat_eq a 20)
        where
          either : (b : Bool) → (b || false) ≡ b
          either true = refl
          either false = refl
      by_marked false = refl

  -- no commit of a routine is before the routines
  early_shared : (a : ℕ) → a < shared_at l → list_any (nat_eq a) (shared_commits l) ≡ false
  early_shared a h = by_marked l.marked
    where
      by_marked : (b : Bool) → list_any (nat_eq a) (if b then lasts_from (shared_at l) (used_routines l) else []) ≡ false
      by_marked true = no_last a (shared_at l) (used_routines l) (inl h)
      by_marked false = refl

  -- the commits of addresses in the start code, past it, and in the routines
  early_commit : (a : ℕ) → a < 23 → list_any (nat_eq a) (commits_of l) ≡ (l.marked && nat_eq a 20)
  early_commit a h =
      let b = base_is in
      let n = no_commit a (base_of l) (end_of l) (program l) program_chain (inl (omega arith)) in
      let m = early_shared a (omega arith) in
      commit_parts a ∙ alone (l.marked && nat_eq a 20) _ _ n m
    where
      alone : (x y z : Bool) → y ≡ false → z ≡ false → (x || (y || z)) ≡ x
      alone true y z e f = refl
      alone false y z e f = rw (e, f) refl

  pub early_quiet : (a : ℕ) → a < 23 → (a ≡ 20 → ⊥) → list_any (nat_eq a) (commits_of l) ≡ false
  early_quiet a h p = early_commit a h ∙ apart_and l.marked a 20 p

  late_commit : (a : ℕ) → 23 ≤ a → a < shared_at l → list_any (nat_eq a) (commits_of l) ≡ list_any (nat_eq a) (filter_map commit_of (program l))
  late_commit a h k = commit_parts a ∙ alone _ _ _ (apart_and l.marked a 20 (λ e. omega arith)) (early_shared a k)
    where
      alone : (x y z : Bool) → x ≡ false → z ≡ false → (x || (y || z)) ≡ y
      alone x true z e f = rw e refl
      alone x false z e f = rw (e, f) refl

  shared_commit : (a : ℕ) → shared_at l ≤ a → list_any (nat_eq a) (commits_of l) ≡ (l.marked && list_any (nat_eq a) (lasts_from (shared_at l) (used_routines l)))
  shared_commit a h =
      let b = base_is in
      let n = no_commit a (base_of l) (end_of l) (program l) program_chain (inr (omega arith)) in
      commit_parts a ∙ alone _ _ _ (apart_and l.marked a 20 (λ e. omega arith)) n ∙ by_marked l.marked
    where
      alone : (x y z : Bool) → x ≡ false → y ≡ false → (x || (y || z)) ≡ z
      alone x y z e f = rw (e, f) refl

      by_marked : (b : Bool) → list_any (nat_eq a) (if b then lasts_from (shared_at l) (used_routines l) else []) ≡ (b && list_any (nat_eq a) (lasts_from (shared_at l) (used_routines l)))
      by_marked true = refl
      by_marked false = refl

  -- the routines in the image
  there : (r : Routine) → uses l r ≡ true → InRoutines (map word_of (image_of l)) (shared_at l) (used_routines l) r (routine_at (routines l) r)
  there r u = routine_placed (map word_of (image_of l)) l r u shared_stands

  pub has_routine : (o : Option Routine) → ((r : Routine) → o ≡ Some r → uses l r ≡ true) → HasRoutine (map word_of (image_of l)) (routines l) o
  has_routine None u = tt
  has_routine (Some r) u =
      let p = there r (u r refl) in
      let high = p.high in
      let n = length_with l in
      (omega arith, p.stands)

  -- the way of a command whose own addresses have its point, and are quiet but for the last
  on_way : (point : Point) (commit : Bool) (here n : ℕ) (o : Option Routine) → ((r : Routine) → o ≡ Some r → (uses l r ≡ true) × (commit ≡ l.marked)) → 0 < n → ((k : ℕ) → here ≤ k → k < here + n → point_in (points_of l) k ≡ Some point)
      → ((k : ℕ) → here ≤ k → k < here + n → list_any (nat_eq k) (commits_of l) ≡ ((commit && not (has_one o)) && nat_eq k (here + n - 1))) → (here + n ≤ 21) ⊎ (23 ≤ here) → OnWay l point commit here n o
  on_way point commit here n None u some points commits apart = record {
    inside = λ k i. inl (points k i.0 (let j = i.1 in omega arith));
    quiet = λ k i. commits k i.0 (let j = i.1 in omega arith) ∙ apart_and (commit && true) k (here + n - 1) (λ e. let j = i.1 in omega arith);
    last_inside = inl (points (here + n - 1) (omega arith) (omega arith));
    last = commits (here + n - 1) (omega arith) (omega arith) ∙ same_and (commit && true) (here + n - 1) ∙ and_true commit;
    apart = away apart;
  }
    where
      and_true : (b : Bool) → (b && true) ≡ b
      and_true true = refl
      and_true false = refl

      away : (here + n ≤ 21) ⊎ (23 ≤ here) → (here + n - 1 ≡ 21 → ⊥) × (here + n - 1 ≡ 22 → ⊥)
      away (inl a) = (λ q. omega arith, λ q. omega arith)
      away (inr a) = (λ q. omega arith, λ q. omega arith)
  on_way point commit here n (Some r) u some points commits apart =
      let both = u r refl in
      let p = there r both.0 in
      let low = p.low in
      let high = p.high in
      let m = length_with l in
      let one = routine_some r in
      let base = base_is in
      record {
        inside = λ k i. elim i [ inl j ↦ inl (points k j.0 j.1) | inr j ↦ inr (no_point l k (let a = j.0 in omega arith), (let a = j.1 in omega arith)) ];
        quiet = λ k i. elim i [
          | inl j ↦ commits k j.0 j.1 ∙ never commit (nat_eq k (here + n - 1))
          | inr j ↦ shared_commit k (let a = j.0 in omega arith) ∙ ap (λ b. l.marked && b) (p.quiet k j.0 j.1) ∙ and_false l.marked
        ];
        last_inside = inr (no_point l (routine_at (routines l) r + routine_size r - 1) (omega arith), omega arith);
        last = shared_commit (routine_at (routines l) r + routine_size r - 1) (omega arith) ∙ ap (λ b. l.marked && b) p.last ∙ and_true l.marked ∙ sym both.1;
        apart = (λ q. omega arith, λ q. omega arith);
      }
    where
      never : (c b : Bool) → ((c && false) && b) ≡ false
      never true b = refl
      never false b = refl

      and_false : (b : Bool) → (b && false) ≡ false
      and_false true = refl
      and_false false = refl

      and_true : (b : Bool) → (b && true) ≡ b
      and_true true = refl
      and_true false = refl

  start_ranges_are : start_ranges l ≡ record { from = 0; to = 21; point = record { sub = 0; number = 1 } } ∷ record { from = 21; to = 23; point = record { sub = 0; number = 2 } } ∷ []
  start_ranges_are = ap (λ b. if b then [] else record { from = 0; to = 21; point = record { sub = 0; number = 1 } } ∷ record { from = 21; to = 23; point = record { sub = 0; number = 2 } } ∷ []) whole

  early_points : (k : ℕ) → k < 23 → point_in (points_of l) k ≡ point_in (record { from = 0; to = 21; point = record { sub = 0; number = 1 } } ∷ record { from = 21; to = 23; point = record { sub = 0; number = 2 } } ∷ map range_of (program l)) k
  early_points k h = points_are l k (omega (arith, base_is)) ∙ ap (λ rs. point_in (rs ++ map range_of (program l)) k) start_ranges_are

  pub start_point : (k : ℕ) → k < 21 → point_in (points_of l) k ≡ Some (record { sub = 0; number = 1 })
  start_point k h =
      early_points k (omega arith) ∙ in_range (record { from = 0; to = 21; point = record { sub = 0; number = 1 } }) (record { from = 21; to = 23; point = record { sub = 0; number = 2 } } ∷ map range_of (program l)) k (omega arith) h

  pub loop_point : (k : ℕ) → 21 ≤ k → k < 23 → point_in (points_of l) k ≡ Some (record { sub = 0; number = 2 })
  loop_point k a b =
      early_points k b ∙ past_ranges 0 21 (record { from = 0; to = 21; point = record { sub = 0; number = 1 } } ∷ []) (record { from = 21; to = 23; point = record { sub = 0; number = 2 } } ∷ map range_of (program l)) (refl, omega arith, refl) k a
      ∙ in_range (record { from = 21; to = 23; point = record { sub = 0; number = 2 } }) (map range_of (program l)) k a b

  placed_by : (k p : ℕ) (c : Code) → slice_get (code_in l (Some k)) p ≡ Some c → (before behind : List Placed)
      → program l ≡ before ++ record { at = address_of l k p; function = k; point = record { sub = number_of (slice_get l.functions k); number = c.statement }; code = c } ∷ behind
      → Placing l (Some k) p c (address_of l k p)
  placed_by k p c g before behind w =
      let image = map word_of (image_of l) in
      let base = base_of l in
      let end = end_of l in
      let here = address_of l k p in
      let x : Placed = record { at = address_of l k p; function = k; point = record { sub = number_of (slice_get l.functions k); number = c.statement }; code = c } in
      let to = target_of (base_of l) l.functions k c.step in
      let size_is : size (shape_of to c.step) ≡ step_size c.step = size_to to c.step in
      let some = size_some c.step in
      let chain = chain_split base end before (x ∷ behind) (subst (λ xs. Chain (base_of l) xs (end_of l)) w program_chain) in
      let mid = chain.0 in
      let front : Chain base before mid = chain.1 in
      let back : Chain mid (x ∷ behind) end = chain.2 in
      let at : here ≡ mid = back.0 in
      let rest : Chain (mid + step_size c.step) behind end = back.1 in
      let up = chain_up (mid + step_size c.step) end behind rest in
      let low = chain_up base mid before front in
      let few_words = end_few in
      let base_23 = base_is in
      let before_shared = end_before in
      let t = leads l few in
      let below : to < 32768 = each_middle (λ c. target_of (base_of l) l.functions c.function c.code.step < 32768) before x behind (subst (λ xs. Each (λ c. target_of (base_of l) l.functions c.function c.code.step < 32768) xs) w t.targets) in
      let lead = chain_length (routines l) base l.functions base mid before front in
      let parts = subst (λ is. Stands (map word_of (image_of l)) (base_of l) is) (flat_map-append (piece (routines l) (base_of l) l.functions) before (x ∷ behind)) (subst (λ xs. Stands (map word_of (image_of l)) (base_of l) (flat_map (piece (routines l) (base_of l) l.functions) xs)) w code_stands) in
      let there = stands_back image base (flat_map (piece (routines l) base l.functions) before) (flat_map (piece (routines l) base l.functions) (x ∷ behind)) parts in
      let place : base + length (flat_map (piece (routines l) base l.functions) before) ≡ here = omega arith in
      let own = stands_front image (base + length (flat_map (piece (routines l) base l.functions) before)) (piece (routines l) base l.functions x) (flat_map (piece (routines l) base l.functions) behind) there in
      let code : drop p (code_at l.functions k) ≡ c ∷ drop (suc p) (code_of (slice_get l.functions k)) = ap (drop p) (sym (code_same (slice_get l.functions k))) ∙ rest_at (code_of (slice_get l.functions k)) p c g in
      let after = address_next base l.functions k p c (drop (suc p) (code_of (slice_get l.functions k))) code in
      let commit_is : (a : ℕ) → here ≤ a → a < here + step_size c.step → list_any (nat_eq a) (commits_of l) ≡ ((c.commit && not (is_shared c.step)) && nat_eq a (here + step_size c.step - 1)) = λ a lo hi.
      late_commit a (omega arith) (omega arith) ∙ ap (λ xs. list_any (nat_eq a) (filter_map commit_of xs)) w
      ∙ ap (list_any (nat_eq a)) (filter_map-append commit_of before (x ∷ behind)) ∙ list_any-append (nat_eq a) (filter_map commit_of before) (filter_map commit_of (x ∷ behind))
      ∙ ap (λ b. b || list_any (nat_eq a) (filter_map commit_of (x ∷ behind))) (no_commit a base mid before front (inr (omega arith)))
      ∙ commit_here a x behind (no_commit a (mid + step_size c.step) end behind rest (inl (omega arith))) in
      let points_at : (a : ℕ) → here ≤ a → a < here + size (shape_of to c.step) → point_in (points_of l) a ≡ Some (record { sub = number_of (slice_get l.functions k); number = c.statement }) = λ a lo hi.
      points_are l a (omega arith) ∙ past_ranges 0 base (start_ranges l) (map range_of (program l)) (start_covers l) a (omega arith)
      ∙ ap (λ xs. point_in (map range_of xs) a) w ∙ ap (λ rs. point_in rs a) (map-append range_of before (x ∷ behind))
      ∙ past_ranges base mid (map range_of before) (map range_of (x ∷ behind)) (chain_covers base mid before front) a (omega arith)
      ∙ in_range (range_of x) (map range_of behind) a lo (omega arith) in
      let routine_is = routine_to to c.step in
      let goes : (r : Routine) → routine_of (shape_of to c.step) ≡ Some r → (uses l r ≡ true) × (c.commit ≡ l.marked) = λ r e. (
        step_uses l k p c r g (sym routine_is ∙ e),
        uniform_at l uniform k p c g (shared_is c.step ∙ ap has_one (sym routine_is ∙ e)),
      ) in
      let one : is_shared c.step ≡ has_one (routine_of (shape_of to c.step)) = shared_is c.step ∙ ap has_one (sym routine_is) in
      record {
        to = to;
        fits = omega arith;
        stands = subst (λ a. Stands (map word_of (image_of l)) a (template (routines l) (address_of l k p) (shape_of (target_of (base_of l) l.functions k c.step) c.step))) place own;
        shared = has_routine (routine_of (shape_of to c.step)) (λ r e. (goes r e).0);
        target = target_is l k c.step below;
        next = ap (λ n. n % 32768) (ap (λ n. address_of l k p + n) size_is ∙ sym after);
        points = points_at;
        way = on_way (record { sub = number_of (slice_get l.functions k); number = c.statement }) c.commit here (size (shape_of to c.step)) (routine_of (shape_of to c.step)) goes (omega arith) points_at
            (λ a lo hi. commit_is a lo (omega arith) ∙ ap (λ b. (c.commit && not b) && nat_eq a (here + step_size c.step - 1)) one ∙ ap (λ n. (c.commit && not (has_one (routine_of (shape_of to c.step)))) && nat_eq a (here + n - 1)) (sym size_is))
            (inr (omega arith));
        is = omega arith;
      }

  -- where a function's command is
  pub code_placing : (k p : ℕ) (c : Code) → slice_get (code_in l (Some k)) p ≡ Some c → Placing l (Some k) p c (address_of l k p)
  code_placing k p c g =
      let here = address_of l k p in
      let point : Point = record { sub = number_of (slice_get l.functions k); number = c.statement } in
      let x : Placed = record { at = here; function = k; point = point; code = c } in
      let a = among_from 0 (base_of l) l.functions k p c g in
      let own : a.placed.function ≡ k = a.function ∙ omega arith in
      let x_is : a.placed ≡ x = λ i. record { at = a.at_is i; function = own i; point = a.point_is i; code = a.code i } in
      placed_by k p c g a.before a.behind (a.whole ∙ ap (λ z. a.before ++ z ∷ a.behind) x_is)

  call_placing : Placing l None 0 (record { step = step.Call (unwrap_or l.start 0) 0; statement = 1; commit = l.marked }) 4
  call_placing =
      let s = starts.stands (map word_of (image_of l)) (routines l) (entry_of l) start_stands in
      let t = leads l few in
      let low = t.entry whole in
      let goes : (r : Routine) → Some routine.Call ≡ Some r → (uses l r ≡ true) × (l.marked ≡ l.marked) = λ r e. let z : routine.Call ≡ r = cc in (subst (λ r. uses l r ≡ true) z (start_uses l whole), refl) in
      record {
        to = entry_of l;
        fits = omega arith;
        stands = s.0;
        shared = has_routine (Some routine.Call) (λ r e. (goes r e).0);
        target = omega arith;
        next = refl;
        points = λ a lo hi. start_point a (omega arith);
        way = on_way (record { sub = 0; number = 1 }) l.marked 4 12 (Some routine.Call) goes (omega arith) (λ a lo hi. start_point a (omega arith))
            (λ a lo hi. early_quiet a (omega arith) (λ e. omega arith) ∙ sym (never l.marked (nat_eq a 15))) (inl (omega arith));
        is = refl;
      }
    where
      never : (c b : Bool) → ((c && false) && b) ≡ false
      never true b = refl
      never false b = refl

  pop_placing : Placing l None 1 (record { step = step.Pop segment.Temp 0; statement = 1; commit = l.marked }) 16
  pop_placing =
      let s = starts.stands (map word_of (image_of l)) (routines l) (entry_of l) start_stands in
      record {
        to = 0;
        fits = omega arith;
        stands = s.1;
        shared = tt;
        target = tt;
        next = refl;
        points = λ a lo hi. start_point a (omega arith);
        way = on_way (record { sub = 0; number = 1 }) l.marked 16 5 None (λ r e. absurd (cc e)) (omega arith) (λ a lo hi. start_point a (omega arith))
            (λ a lo hi. early_commit a (omega arith) ∙ ap (λ b. b && nat_eq a 20) (sym (and_true l.marked))) (inl (omega arith));
        is = refl;
      }
    where
      and_true : (b : Bool) → (b && true) ≡ b
      and_true true = refl
      and_true false = refl

  start_placing : (p : ℕ) (c : Code) → slice_get (code_in l None) p ≡ Some c → Placing l None p c (start_address p)
  start_placing zero c g = let e : record { step = step.Call (unwrap_or l.start 0) 0; statement = 1; commit = l.marked } ≡ c = cc in subst (λ c. Placing l None 0 c 4) e call_placing
  start_placing (suc zero) c g = let e : record { step = step.Pop segment.Temp 0; statement = 1; commit = l.marked } ≡ c = cc in subst (λ c. Placing l None 1 c 16) e pop_placing
  start_placing (suc (suc p)) c g = absurd (cc g)

  -- the next command of a frame, where the computer goes on with it
  pub placing : (function : Option ℕ) (p : ℕ) (c : Code) → slice_get (code_in l function) p ≡ Some c → Placing l function p c (location l function p)
  placing None p c g = start_placing p c g
  placing (Some k) p c g = let x = code_placing k p c g in subst (Placing l (Some k) p c) x.is x

  pub has_loop : HasLoop (map word_of (image_of l)) (map_of (commits_of l) (points_of l)) 21
  has_loop =
      let s = starts.stands (map word_of (image_of l)) (routines l) (entry_of l) start_stands in
      record {
        low = omega arith;
        stands = s.2;
        commits = (early_quiet 21 (omega arith) (λ e. omega arith), early_quiet 22 (omega arith) (λ e. omega arith));
        points = loop_point 22 (omega arith) (omega arith) ∙ sym (loop_point 21 (omega arith) (omega arith));
      }
