-- The stack of chips that are looked at, as it changes.
use Rattle.std.proofs.Common.{◌≡◌, ℕ, zero, suc, ◌+◌, ◌-◌, ◌<◌, ◌≤◌, ◌⊎◌, inl, inr, List, [], ◌∷◌, ◌++◌, length, get_or, Option, Some, None, refl, sym, ap, subst, ◌∙◌, arith, append-nil}
use Rattle.std.proofs.Math.Nat.{eq-or-lt_of_le}
use Rattle.std.specs.Prelude.{slice_get}
use Rattle.std.specs.declared.vec.Vec.{Vec}
use Rattle.std.specs.declared.alloc.Global.{Global}
use Rattle.std.proofs.lemmas.Option.{slice_get_read, slice_get_within}
use Rattle.hdl_tree.specs.declared.tree.Part.{Part}
use Rattle.hdl_tree.specs.declared.library.Entry.{Entry}
use Rattle.hdl_tree.specs.Chips.{Chips, end_of, parts_of}
use Rattle.hdl_tree.specs.Behaviour.{chip_of, inner_chip}
use Rattle.hdl_check.proofs.Stages.{entry_there}
use Rattle.hdl_plans.specs.Loops.{IsLoop}
use Rattle.hdl_plans.specs.Ways.{TreeFits}
use Rattle.hdl_loops.specs.Inner.Knowing.{place_of, IsKnown, IsDone, PartDone, PartsDone, NestsAt, StaysKnown, TreeClear}
use Rattle.hdl_loops.specs.Inner.Stacked.{parts_in, parts_at, StandsAt, IsFrame, IsStack, IsEntered, HasOnlyLast, times, power, many, frame_weight, weight}
use Rattle.hdl_loops.specs.Inner.Looked.{TellsLoop, EndsLook}
use Rattle.hdl_loops.specs.declared.find.Frame.{Frame}
use Rattle.hdl_loops.specs.declared.known.Known.{Known}
use Rattle.hdl_loops.proofs.Growing.{get_kept, get_last, get_cases, length_more}
use Rattle.hdl_loops.proofs.Nesting.{parts_nest, not_zero}
use Rattle.hdl_loops.proofs.Noting.{done_still}
use Rattle.hdl_loops.proofs.Placing.{place_found}
use Rattle.hdl_loops.proofs.Trips.{loop_out}

-- ---- lists

get_beyond : {A : Type 0} (xs : List A) (x y : A) → slice_get (xs ++ x ∷ []) (suc (length xs)) ≡ Some y → ⊥
get_beyond xs x y e =
    let lt = slice_get_within (xs ++ x ∷ []) (suc (length xs)) y e in
    let n = length_more xs x in
    omega (arith, lt, n)

abbrev pub on : Frame → Frame
on f = record { chip = f.chip; next = f.next + 1; depth = f.depth }

stands_kept : (xs ys : List Frame) (j k : ℕ) → StandsAt xs j k → StandsAt (xs ++ ys) j k
stands_kept xs ys j k s = (s.0, get_kept xs ys j s.0 s.1, s.2)

swap_by : (init : List Frame) (f g h : Frame) (j k : ℕ) → (slice_get init j ≡ Some h) ⊎ ((j ≡ length init) × (f ≡ h)) → h.chip ≡ k → g.chip ≡ f.chip → StandsAt (init ++ g ∷ []) j k
swap_by init f g h j k (inl e) is same = (h, get_kept init (g ∷ []) j h e, is)
swap_by init f g h j k (inr e) is same = (g, ap (slice_get (init ++ g ∷ [])) e.0 ∙ get_last init g, same ∙ (ap (λ (v : Frame). v.chip) e.1 ∙ is))

swapped : (init : List Frame) (f g : Frame) (j k : ℕ) → g.chip ≡ f.chip → StandsAt (init ++ f ∷ []) j k → StandsAt (init ++ g ∷ []) j k
swapped init f g j k same s = swap_by init f g s.0 j k (get_cases init f s.0 j s.1) s.2 same

-- ---- frames

module _ (chips : Chips) (known : List (Option Known)) (top : ℕ) (init : List Frame) (f : Frame) (stack : IsStack chips known top (init ++ f ∷ [])) where
  pub last_frame : IsFrame chips known top (init ++ f ∷ []) (length init) f
  last_frame = stack.frames (length init) f (get_last init f)

  done_by : (k : ℕ) → IsDone chips known k ⊎ StandsAt (init ++ f ∷ []) (suc (length init)) k → IsDone chips known k
  done_by k (inl d) = d
  done_by k (inr s) = absurd (get_beyond init f s.0 s.1)

  -- the parts of the last chip up to the next are done
  pub last_done : (i : ℕ) (part : Part) (k : ℕ) → i < f.next → slice_get (parts_at chips f.chip) i ≡ Some part → place_of chips.entries part.chip ≡ Some k → IsDone chips known k
  last_done i part k lt at placed = done_by k (last_frame.done i part k lt at placed)

  pub last_parts : (chip : Entry) → slice_get chips.entries f.chip ≡ Some chip → length (parts_at chips f.chip) ≤ f.next → PartsDone chips known chip
  last_parts chip there le i part k at placed =
      let e : slice_get (parts_at chips f.chip) i ≡ Some part = ap (λ (o : Option Entry). slice_get (parts_in chips o) i) there ∙ at in
      let lt = slice_get_within (parts_at chips f.chip) i part e in
      last_done i part k (omega (arith, lt, le)) e placed

  -- what stands above is another frame of the same chip
  module _ (g : Frame) (same : g.chip ≡ f.chip) (more : List Frame) where
    kept_by : (j k : ℕ) → IsDone chips known k ⊎ StandsAt (init ++ f ∷ []) j k → IsDone chips known k ⊎ StandsAt ((init ++ g ∷ []) ++ more) j k
    kept_by j k (inl d) = inl d
    kept_by j k (inr s) = inr (stands_kept (init ++ g ∷ []) more j k (swapped init f g j k same s))

    kept_root : IsDone chips known top ⊎ StandsAt ((init ++ g ∷ []) ++ more) 0 top
    kept_root = kept_by 0 top stack.root

    kept_frame : (j : ℕ) (h : Frame) → slice_get init j ≡ Some h → IsFrame chips known top ((init ++ g ∷ []) ++ more) j h
    kept_frame j h e =
        let r = stack.frames j h (get_kept init (f ∷ []) j h e) in
        record { there = r.there; within = r.within; no_end = r.no_end; outward = r.outward; nests = r.nests; done = λ i part k lt at placed. kept_by (suc j) k (r.done i part k lt at placed) }

  module _ (part : Part) (within : f.next < length (parts_at chips f.chip)) (at : slice_get (parts_at chips f.chip) f.next ≡ Some part) where
    -- the last chip goes on to its next part, if this one is done or stands above
    on_by : (more : List Frame) (i : ℕ) (other : Part) (k : ℕ) → ((j : ℕ) → place_of chips.entries part.chip ≡ Some j → IsDone chips known j ⊎ StandsAt ((init ++ on f ∷ []) ++ more) (suc (length init)) j) → (i ≡ f.next) ⊎ (i < f.next) → slice_get (parts_at chips f.chip) i ≡ Some other → place_of chips.entries other.chip ≡ Some k →
        IsDone chips known k ⊎ StandsAt ((init ++ on f ∷ []) ++ more) (suc (length init)) k
    on_by more i other k here (inr lt) e placed = inl (last_done i other k lt e placed)
    on_by more i other k here (inl is) e placed =
        let g : slice_get (parts_at chips f.chip) f.next ≡ Some other = ap (slice_get (parts_at chips f.chip)) (sym is) ∙ e in
        let same : other ≡ part = cc in
        here k (ap (λ (v : Part). place_of chips.entries v.chip) (sym same) ∙ placed)

    on_frame : (more : List Frame) → ((j : ℕ) → place_of chips.entries part.chip ≡ Some j → IsDone chips known j ⊎ StandsAt ((init ++ on f ∷ []) ++ more) (suc (length init)) j) → IsFrame chips known top ((init ++ on f ∷ []) ++ more) (length init) (on f)
    on_frame more here =
        let r = last_frame in
        record {
          there = r.there;
          within = omega (arith, within);
          no_end = r.no_end;
          outward = r.outward;
          nests = r.nests;
          done = λ i other k lt e placed. on_by more i other k here (eq-or-lt_of_le (omega (arith, lt))) e placed;
        }

    frame_by : (more : List Frame) → ((j : ℕ) → place_of chips.entries part.chip ≡ Some j → IsDone chips known j ⊎ StandsAt ((init ++ on f ∷ []) ++ more) (suc (length init)) j) → (j : ℕ) (h : Frame) → (slice_get init j ≡ Some h) ⊎ ((j ≡ length init) × (on f ≡ h)) → IsFrame chips known top ((init ++ on f ∷ []) ++ more) j h
    frame_by more here j h (inl e) = kept_frame (on f) refl more j h e
    frame_by more here j h (inr e) = subst (λ (v : ℕ). IsFrame chips known top ((init ++ on f ∷ []) ++ more) v h) (sym e.0) (subst (IsFrame chips known top ((init ++ on f ∷ []) ++ more) (length init)) e.1 (on_frame more here))

    pub stack_on : (new : List Frame) → new ≡ init ++ on f ∷ [] → PartDone chips known part → IsStack chips known top new
    stack_on new is done =
        let all : (init ++ on f ∷ []) ++ [] ≡ new = append-nil (init ++ on f ∷ []) ∙ sym is in
        subst (IsStack chips known top) all
        (record {
          frames = λ j h e. frame_by [] (λ k placed. inl (done k placed)) j h (get_cases init (on f) h j (sym (ap (λ (v : List Frame). slice_get v j) (append-nil (init ++ on f ∷ []))) ∙ e));
          root = kept_root (on f) refl [];
        })

    module _ (k depth : ℕ) (placed : place_of chips.entries part.chip ≡ Some k) (there : k < length chips.entries) (no_end : (chip : Entry) → slice_get chips.entries k ≡ Some chip → end_of chips.memories chip ≡ None) (deep : suc depth ≡ f.depth) where
      abbrev child : Frame
      child = record { chip = k; next = 0; depth = depth }

      abbrev both_frames : List Frame
      both_frames = (init ++ on f ∷ []) ++ child ∷ []

      inside : (chip inner : Entry) → slice_get chips.entries f.chip ≡ Some chip → slice_get chips.entries k ≡ Some inner → inner_chip chips chip f.next ≡ Some inner
      inside chip inner e g =
          let p : slice_get (parts_of chips chip) f.next ≡ Some part = ap (λ (o : Option Entry). slice_get (parts_in chips o) f.next) (sym e) ∙ at in
          ap (chip_of chips) p ∙ (place_found chips.entries part.chip k placed ∙ g)

      child_frame : IsFrame chips known top both_frames (length (init ++ on f ∷ [])) child
      child_frame =
          let c = entry_there chips.entries f.chip last_frame.there in
          record {
            there = there;
            within = omega arith;
            no_end = no_end;
            outward = λ inner outer nets e g loop. last_frame.outward c.0 outer nets c.1 g (loop_out chips c.0 f.next inner (inside c.0 inner c.1 e) nets loop);
            nests = λ inner e. parts_nest f.depth depth chips c.0 (last_frame.nests c.0 c.1) deep f.next inner (inside c.0 inner c.1 e);
            done = λ i other j lt e p. absurd (omega (arith, lt));
          }

      child_there : (j : ℕ) → place_of chips.entries part.chip ≡ Some j → IsDone chips known j ⊎ StandsAt both_frames (suc (length init)) j
      child_there j e =
          let same : k ≡ j = cc in
          let n : suc (length init) ≡ length (init ++ on f ∷ []) = let m = length_more init (on f) in omega (arith, m) in
          inr (child, ap (slice_get both_frames) n ∙ get_last (init ++ on f ∷ []) child, same)

      both_by : (j : ℕ) (h : Frame) → (slice_get (init ++ on f ∷ []) j ≡ Some h) ⊎ ((j ≡ length (init ++ on f ∷ [])) × (child ≡ h)) → IsFrame chips known top both_frames j h
      both_by j h (inl e) = frame_by (child ∷ []) child_there j h (get_cases init (on f) h j e)
      both_by j h (inr e) = subst (λ (v : ℕ). IsFrame chips known top both_frames v h) (sym e.0) (subst (IsFrame chips known top both_frames (length (init ++ on f ∷ []))) e.1 child_frame)

      pub stack_in : (new : List Frame) → new ≡ both_frames → IsStack chips known top new
      stack_in new is =
          subst (IsStack chips known top) (sym is)
          (record {
            frames = λ j h e. both_by j h (get_cases (init ++ on f ∷ []) child h j e);
            root = kept_root (on f) refl (child ∷ []);
          })

  -- the last chip is done
  module _ (after : List (Option Known)) (stays : StaysKnown known after) (done : IsDone chips after f.chip) where
    out_by : (j k : ℕ) (h : Frame) → (slice_get init j ≡ Some h) ⊎ ((j ≡ length init) × (f ≡ h)) → h.chip ≡ k → IsDone chips after k ⊎ StandsAt init j k
    out_by j k h (inl e) is = inr (h, e, is)
    out_by j k h (inr e) is = inl (subst (IsDone chips after) (ap (λ (v : Frame). v.chip) e.1 ∙ is) done)

    out_cases : (j k : ℕ) → IsDone chips known k ⊎ StandsAt (init ++ f ∷ []) j k → IsDone chips after k ⊎ StandsAt init j k
    out_cases j k (inl d) = inl (done_still chips known after k stays d)
    out_cases j k (inr s) = out_by j k s.0 (get_cases init f s.0 j s.1) s.2

    out_frame : (j : ℕ) (h : Frame) → slice_get init j ≡ Some h → IsFrame chips after top init j h
    out_frame j h e =
        let r = stack.frames j h (get_kept init (f ∷ []) j h e) in
        record { there = r.there; within = r.within; no_end = r.no_end; outward = r.outward; nests = r.nests; done = λ i part k lt at placed. out_cases (suc j) k (r.done i part k lt at placed) }

    pub stack_out : IsStack chips after top init
    stack_out = record { frames = out_frame; root = out_cases 0 top stack.root }

-- ---- at the start and the end

abbrev first_frame : ℕ → ℕ → Frame
first_frame top depth = record { chip = top; next = 0; depth = depth }

start_frame : (chips : Chips) (known : List (Option Known)) (top depth : ℕ) → top < length chips.entries → ((chip : Entry) → slice_get chips.entries top ≡ Some chip → end_of chips.memories chip ≡ None) → NestsAt depth chips top → IsFrame chips known top (first_frame top depth ∷ []) 0 (first_frame top depth)
start_frame chips known top depth lt no_end nests = record {
  there = lt;
  within = omega arith;
  no_end = no_end;
  outward = λ chip outer nets a b loop. let same : chip ≡ outer = cc in subst (λ (v : Entry). IsLoop chips v nets) same loop;
  nests = nests;
  done = λ i part k l at placed. absurd (omega (arith, l));
}

start_by : (chips : Chips) (known : List (Option Known)) (top depth : ℕ) → IsFrame chips known top (first_frame top depth ∷ []) 0 (first_frame top depth) → (j : ℕ) (f : Frame) → slice_get (first_frame top depth ∷ []) j ≡ Some f → IsFrame chips known top (first_frame top depth ∷ []) j f
start_by chips known top depth first zero f e = let same : first_frame top depth ≡ f = cc in subst (IsFrame chips known top (first_frame top depth ∷ []) 0) same first
start_by chips known top depth first (suc j) f e = absurd cc

pub stack_start : (chips : Chips) (known : List (Option Known)) (top depth : ℕ) (fs : List Frame) → fs ≡ first_frame top depth ∷ [] → top < length chips.entries → ((chip : Entry) → slice_get chips.entries top ≡ Some chip → end_of chips.memories chip ≡ None) → NestsAt depth chips top → IsStack chips known top fs
stack_start chips known top depth fs is lt no_end nests =
    subst (IsStack chips known top) (sym is)
    (record { frames = start_by chips known top depth (start_frame chips known top depth lt no_end nests); root = inr (first_frame top depth, refl, refl) })

pub stack_end : (chips : Chips) (known : List (Option Known)) (top : ℕ) (fs : List Frame) → IsStack chips known top fs → length fs ≡ 0 → IsDone chips known top
stack_end chips known top fs stack none = by stack.root
  where
    by : IsDone chips known top ⊎ StandsAt fs 0 top → IsDone chips known top
    by (inl d) = d
    by (inr s) = absurd (let lt = slice_get_within fs 0 s.0 s.1 in omega (arith, lt, none))

-- ---- the steps that are left

pub times_less : (a b p : ℕ) → a < b → 0 < p → times a p < times b p
times_less zero zero p lt pos = absurd (omega (arith, lt))
times_less zero (suc b) p lt pos = omega (arith, pos)
times_less (suc a) zero p lt pos = absurd (omega (arith, lt))
times_less (suc a) (suc b) p lt pos = let h = times_less a b p (omega (arith, lt)) pos in omega (arith, h)

times_pos : (b p : ℕ) → 0 < b → 0 < p → 0 < times b p
times_pos zero p lt pos = absurd (omega (arith, lt))
times_pos (suc b) p lt pos = omega (arith, pos)

pub power_pos : (b d : ℕ) → 0 < b → 0 < power b d
power_pos b zero pos = omega arith
power_pos b (suc d) pos = times_pos b (power b d) pos (power_pos b d pos)

many_two : (chips : Chips) (es : List Entry) → 1 < many chips es
many_two chips [] = omega arith
many_two chips (e ∷ es) = let h = many_two chips es in omega (arith, h)

few_parts : (chips : Chips) (es : List Entry) (k : ℕ) → suc (length (parts_in chips (slice_get es k))) < many chips es
few_parts chips [] zero = omega arith
few_parts chips [] (suc k) = omega arith
few_parts chips (e ∷ es) zero = let h = many_two chips es in omega (arith, h)
few_parts chips (e ∷ es) (suc k) = let h = few_parts chips es k in omega (arith, h)

weight_append : (chips : Chips) (xs ys : List Frame) → weight chips (xs ++ ys) ≡ weight chips xs + weight chips ys
weight_append chips [] ys = omega arith
weight_append chips (x ∷ xs) ys = let h = weight_append chips xs ys in omega (arith, h)

module _ (chips : Chips) (init : List Frame) (f : Frame) where
  abbrev unit : ℕ
  unit = power (many chips chips.entries) f.depth

  unit_pos : 0 < unit
  unit_pos = let h = many_two chips chips.entries in power_pos (many chips chips.entries) f.depth (omega (arith, h))

  one_less : f.next < length (parts_at chips f.chip) → frame_weight chips f ≡ unit + frame_weight chips (on f)
  one_less lt =
      let n : suc (length (parts_at chips f.chip)) - f.next ≡ suc (suc (length (parts_at chips f.chip)) - (f.next + 1)) = omega (arith, lt) in
      ap (λ (v : ℕ). times v unit) n

  pub less_on : f.next < length (parts_at chips f.chip) → (new : List Frame) → new ≡ init ++ on f ∷ [] → weight chips new < weight chips (init ++ f ∷ [])
  less_on lt new is =
      let a = weight_append chips init (f ∷ []) in
      let b : weight chips new ≡ weight chips init + weight chips (on f ∷ []) = ap (weight chips) is ∙ weight_append chips init (on f ∷ []) in
      let e = one_less lt in
      let p = unit_pos in
      omega (arith, a, b, e, p)

  pub less_in : f.next < length (parts_at chips f.chip) → (k depth : ℕ) → suc depth ≡ f.depth → (new : List Frame) → new ≡ (init ++ on f ∷ []) ++ record { chip = k; next = 0; depth = depth } ∷ [] → weight chips new < weight chips (init ++ f ∷ [])
  less_in lt k depth deep new is =
      let child : Frame = record { chip = k; next = 0; depth = depth } in
      let a = weight_append chips init (f ∷ []) in
      let b : weight chips new ≡ weight chips (init ++ on f ∷ []) + weight chips (child ∷ []) = ap (weight chips) is ∙ weight_append chips (init ++ on f ∷ []) (child ∷ []) in
      let c = weight_append chips init (on f ∷ []) in
      let e = one_less lt in
      let m = many_two chips chips.entries in
      let small : times (suc (length (parts_at chips k)) - 0) (power (many chips chips.entries) depth) < times (many chips chips.entries) (power (many chips chips.entries) depth) =
      times_less (suc (length (parts_at chips k)) - 0) (many chips chips.entries) (power (many chips chips.entries) depth) (let q = few_parts chips chips.entries k in omega (arith, q)) (power_pos (many chips chips.entries) depth (omega (arith, m))) in
      let u : times (many chips chips.entries) (power (many chips chips.entries) depth) ≡ unit = ap (power (many chips chips.entries)) deep in
      omega (arith, a, b, c, e, small, u)

  pub less_out : f.next ≤ length (parts_at chips f.chip) → weight chips init < weight chips (init ++ f ∷ [])
  less_out le =
      let a = weight_append chips init (f ∷ []) in
      let p = times_pos (suc (length (parts_at chips f.chip)) - f.next) unit (omega (arith, le)) unit_pos in
      omega (arith, a, p)

-- ---- a step

-- the last chip went on to its next part
pub entered : (chips : Chips) (known : List (Option Known)) (top : ℕ) (init old now new : List Frame) (f : Frame) (part : Part) (depth : ℕ) → old ≡ init ++ f ∷ [] → now ≡ init ++ on f ∷ [] → IsStack chips known top old → f.next < length (parts_at chips f.chip) → slice_get (parts_at chips f.chip) f.next ≡ Some part →
    suc depth ≡ f.depth → IsEntered chips known part depth now new → IsStack chips known top new × (weight chips new < weight chips old)
entered chips known top init old now new f part depth was is stack lt at deep h = by h
  where
    stack_was : IsStack chips known top (init ++ f ∷ [])
    stack_was = subst (IsStack chips known top) was stack

    by : IsEntered chips known part depth now new → IsStack chips known top new × (weight chips new < weight chips old)
    by (inl e) =
        let all : new ≡ init ++ on f ∷ [] = e.0 ∙ is in
        (stack_on chips known top init f stack_was part lt at new all e.1, subst (λ (v : List Frame). weight chips new < weight chips v) (sym was) (less_on chips init f lt new all))
    by (inr e) =
        let all : new ≡ (init ++ on f ∷ []) ++ record { chip = e.k; next = 0; depth = depth } ∷ [] = e.more ∙ ap (λ (v : List Frame). v ++ record { chip = e.k; next = 0; depth = depth } ∷ []) is in
        (stack_in chips known top init f stack_was part lt at e.k depth e.placed e.there e.no_end deep new all, subst (λ (v : List Frame). weight chips new < weight chips v) (sym was) (less_in chips init f lt e.k depth deep new all))

-- the last chip is done
pub finished : (chips : Chips) (known after : List (Option Known)) (top : ℕ) (init old : List Frame) (f : Frame) → old ≡ init ++ f ∷ [] → IsStack chips known top old → StaysKnown known after → IsKnown after f.chip → IsStack chips after top init × (weight chips init < weight chips old)
finished chips known after top init old f was stack stays done =
    let s : IsStack chips known top (init ++ f ∷ []) = subst (IsStack chips known top) was stack in (
      stack_out chips known top init f s after stays (λ chip at no_end. done),
      subst (λ (v : List Frame). weight chips init < weight chips v) (sym was) (less_out chips init f (last_frame chips known top init f s).within),
    )

-- the last chip may be looked at, when it has no further part
pub ready : (chips : Chips) (known : List (Option Known)) (top : ℕ) (init old : List Frame) (f : Frame) → old ≡ init ++ f ∷ [] → IsStack chips known top old → length (parts_at chips f.chip) ≤ f.next → (chip : Entry) → slice_get chips.entries f.chip ≡ Some chip → PartsDone chips known chip
ready chips known top init old f was stack le chip at = last_parts chips known top init f (subst (IsStack chips known top) was stack) chip at le

pub frame_of : (chips : Chips) (known : List (Option Known)) (top : ℕ) (init old : List Frame) (f : Frame) → old ≡ init ++ f ∷ [] → IsStack chips known top old → IsFrame chips known top (init ++ f ∷ []) (length init) f
frame_of chips known top init old f was stack = last_frame chips known top init f (subst (IsStack chips known top) was stack)

-- its loops are the top's
pub told_out : (chips : Chips) (known : List (Option Known)) (top : ℕ) (fs : List Frame) (j : ℕ) (f : Frame) → IsFrame chips known top fs j f → (r : Option (Vec (List ℕ) Global)) → ((chip : Entry) → slice_get chips.entries f.chip ≡ Some chip → TellsLoop chips chip r) → (outer : Entry) → slice_get chips.entries top ≡ Some outer → TellsLoop chips outer r
told_out chips known top fs j f frame None told outer at = tt
told_out chips known top fs j f frame (Some nets) told outer at = let c = entry_there chips.entries f.chip frame.there in frame.outward c.0 outer nets.items c.1 at (told c.0 c.1)

-- the parts of the chip in a place
pub parts_there : (chips : Chips) (k : ℕ) (entry : Entry) (parts : List Part) → slice_get chips.entries k ≡ Some entry → parts ≡ parts_of chips entry → parts ≡ parts_at chips k
parts_there chips k entry parts at is = is ∙ sym (ap (parts_in chips) at)

-- ---- the chip on top, as it is read

module _ (chips : Chips) (known : List (Option Known)) (top : ℕ) (init old : List Frame) (f : Frame) (entry : Entry) (parts : List Part) (was : old ≡ init ++ f ∷ []) (stack : IsStack chips known top old) (read : entry ≡ get_or chips.entries f.chip entry) (listed : parts ≡ parts_of chips entry) where
  top_frame : IsFrame chips known top (init ++ f ∷ []) (length init) f
  top_frame = frame_of chips known top init old f was stack

  parts_here : parts ≡ parts_at chips f.chip
  parts_here = parts_there chips f.chip entry parts (slice_get_read chips.entries (length chips.entries) f.chip entry refl top_frame.there read) listed

  -- it goes on to its next part
  pub went_on : (now new : List Frame) (part : Part) → now ≡ init ++ on f ∷ [] → f.next < length parts → part ≡ get_or parts f.next part → IsEntered chips known part (f.depth - 1) now new → IsStack chips known top new × (weight chips new < weight chips old)
  went_on now new part is lt item h =
      let e = entry_there chips.entries f.chip top_frame.there in
      let pos = not_zero f.depth chips e.0 (top_frame.nests e.0 e.1) in
      let at : slice_get (parts_at chips f.chip) f.next ≡ Some part = ap (λ (v : List Part). slice_get v f.next) (sym parts_here) ∙ slice_get_read parts (length parts) f.next part refl lt item in
      entered chips known top init old now new f part (f.depth - 1) was is stack (subst (λ (v : List Part). f.next < length v) parts_here lt) at (omega (arith, pos)) h

  -- it has no further part
  pub looked_at : (length parts ≤ f.next) → (chip : Entry) → slice_get chips.entries f.chip ≡ Some chip → PartsDone chips known chip
  looked_at le = ready chips known top init old f was stack (subst (λ (v : List Part). length v ≤ f.next) parts_here le)

-- ---- the last chip of all

pub last_ready : (chips : Chips) (known : List (Option Known)) (top : ℕ) (fs : List Frame) → IsStack chips known top fs → HasOnlyLast chips top fs → (chip : Entry) → slice_get chips.entries top ≡ Some chip → PartsDone chips known chip
last_ready chips known top fs stack last chip at =
    ready chips known top [] fs last.frame last.alone stack (subst (λ (k : ℕ). length (parts_at chips k) ≤ last.frame.next) (sym last.chip) last.ended) chip (ap (slice_get chips.entries) last.chip ∙ at)

pub alone_is : (fs : List Frame) (d : Frame) → length fs ≡ 1 → fs ≡ get_or fs 0 d ∷ []
alone_is [] d e = absurd (omega (arith, e))
alone_is (f ∷ []) d e = refl
alone_is (f ∷ g ∷ fs) d e = absurd (omega (arith, e))

-- what the last look says
pub ends_none : (chips : Chips) (chip : Entry) (r : Option (Vec (List ℕ) Global)) → EndsLook chips chip r → r ≡ None → TreeFits chips chip → TreeClear chips chip
ends_none chips chip None h e = h
ends_none chips chip (Some nets) h e = absurd cc

pub ends_told : (chips : Chips) (chip : Entry) (r : Option (Vec (List ℕ) Global)) → EndsLook chips chip r → TellsLoop chips chip r
ends_told chips chip None h = tt
ends_told chips chip (Some nets) h = h
