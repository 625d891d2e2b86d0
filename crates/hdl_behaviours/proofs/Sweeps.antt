-- There is a number of sweeps after which, without a loop, nothing changes any more.
use Rattle.std.proofs.Common.{◌≡◌, ℕ, zero, suc, ◌*◌, ◌<◌, ◌≤◌, ◌⊎◌, inl, inr, Bool, true, false, not, ◌&&◌, List, [], ◌∷◌, ◌++◌, length, Option, Some, None, refl, sym, ap, ap₂, subst, ◌∙◌, arith}
use Rattle.std.specs.Prelude.{codes, if◌then◌else◌}
use Rattle.std.specs.Str.{bytes_eq}
use Rattle.std.specs.Cmp.Lexicographic.{bytes_decides}
use Rattle.word16.specs.Words.{has_bit}
use Rattle.hdl_tree.specs.declared.library.Entry.{Entry}
use Rattle.hdl_tree.specs.declared.ends.End.{End}
use Rattle.hdl_tree.specs.declared.ends.End.TheVariants as ends
use Rattle.hdl_tree.specs.Memory.{number, word_held}
use Rattle.hdl_tree.specs.Chips.{Chips, end_of, parts_of}
use Rattle.hdl_tree.specs.Behaviour.{Wires, Histories, World, chip_at}
use Rattle.hdl_plans.specs.Plans.{Place, Origin, FromNet, Low, High, is_input, IsSound}
use Rattle.hdl_plans.specs.Planned.{plan_of}
use Rattle.hdl_plans.specs.Loops.{BitAt, bit_at, IsJoint, outside_bit, inside_bit, reaches_out, Feeds, down, up, through, IsLoop}
use Rattle.hdl_plans.specs.Ways.{Way}
use Rattle.hdl_plans.proofs.Walks.{one_step, join_ways}
use Rattle.hdl_nodes.proofs.Numbers.{number_same}
use Rattle.hdl_behaviours.specs.Inner.Feeding.{backwards, Supply, Given, Copied, Worked, by_driver, inside, by_origin, by_parent, outside, supply_in, supply, end_bit, value_by, swept_value, tree_bits, Among}
use Rattle.hdl_behaviours.proofs.Joints.{Joint, driver_joint, origin_joint}
use Rattle.hdl_behaviours.proofs.Paths.{joint_among}
use Rattle.hdl_behaviours.proofs.Pigeons.{AllAmong, Linked, no_long_way}

bool_same : (a b : Bool) → (a ≡ b) ⊎ (a ≡ b → ⊥)
bool_same true true = inl refl
bool_same false false = inl refl
bool_same true false = inr (λ e. absurd cc)
bool_same false true = inr (λ e. absurd cc)

-- a bit in which two differ
difference : (n : ℕ) (f g : ℕ → Bool) → ((k : ℕ) → k < n → f k ≡ g k) ⊎ ((k : ℕ) × (f k ≡ g k → ⊥))
difference zero f g = inl (λ k lt. absurd (omega arith))
difference (suc n) f g = by (bool_same (f n) (g n)) (difference n f g)
  where
    by : (f n ≡ g n) ⊎ (f n ≡ g n → ⊥) → ((k : ℕ) → k < n → f k ≡ g k) ⊎ ((k : ℕ) × (f k ≡ g k → ⊥)) → ((k : ℕ) → k < suc n → f k ≡ g k) ⊎ ((k : ℕ) × (f k ≡ g k → ⊥))
    by (inr ne) d = inr (n, ne)
    by (inl e) (inr d) = inr d
    by (inl e) (inl all) = inl (λ k lt. at k lt (here_or_not k n))
      where
        here_or_not : (a b : ℕ) → (a ≡ b) ⊎ (a ≡ b → ⊥)
        here_or_not a b = grind arith

        at : (k : ℕ) → k < suc n → (k ≡ n) ⊎ (k ≡ n → ⊥) → f k ≡ g k
        at k lt (inl q) = ap f q ∙ e ∙ sym (ap g q)
        at k lt (inr q) = all k (omega arith)

-- ---- what an end gives changes only where a pin changes that reaches its out

record PinDiffers (e : End) (w v : Wires Bool) : Type 0 where
  name : List ℕ
  bit : ℕ
  reaches : reaches_out e name ≡ true
  differs : w name bit ≡ v name bit → ⊥

end_differs : (world : World) (c : ℕ) (past : Histories) (e : End) (w v : Wires Bool) (bit : ℕ) → (end_bit world c past e w bit ≡ end_bit world c past e v bit → ⊥) → PinDiffers e w v
end_differs world c past ends.Nand w v bit ne = by (bool_same (w (codes "a") 0) (v (codes "a") 0)) (bool_same (w (codes "b") 0) (v (codes "b") 0))
  where
    by : (w (codes "a") 0 ≡ v (codes "a") 0) ⊎ (w (codes "a") 0 ≡ v (codes "a") 0 → ⊥) → (w (codes "b") 0 ≡ v (codes "b") 0) ⊎ (w (codes "b") 0 ≡ v (codes "b") 0 → ⊥) → PinDiffers ends.Nand w v
    by (inr d) q = record { name = codes "a"; bit = 0; reaches = refl; differs = d }
    by (inl p) (inr d) = record { name = codes "b"; bit = 0; reaches = refl; differs = d }
    by (inl p) (inl q) = absurd (ne (ap₂ (λ (a b : Bool). not (a && b)) p q))
end_differs world c past ends.Dff w v bit ne = absurd (ne refl)
end_differs world c past ends.Keyboard w v bit ne = absurd (ne refl)
end_differs world c past ends.Rom w v bit ne = by (difference 15 (w (codes "address")) (v (codes "address")))
  where
    by : ((k : ℕ) → k < 15 → w (codes "address") k ≡ v (codes "address") k) ⊎ ((k : ℕ) × (w (codes "address") k ≡ v (codes "address") k → ⊥)) → PinDiffers ends.Rom w v
    by (inl all) = absurd (ne (ap (λ (a : ℕ). has_bit (world.rom a) bit) (number_same 15 (w (codes "address")) (v (codes "address")) all)))
    by (inr d) = record { name = codes "address"; bit = d.0; reaches = refl; differs = d.1 }
end_differs world c past (ends.Block bits) w v bit ne = by (difference bits (w (codes "address")) (v (codes "address")))
  where
    by : ((k : ℕ) → k < bits → w (codes "address") k ≡ v (codes "address") k) ⊎ ((k : ℕ) × (w (codes "address") k ≡ v (codes "address") k → ⊥)) → PinDiffers (ends.Block bits) w v
    by (inl all) = absurd (ne (ap (λ (a : ℕ). has_bit (word_held (λ d. past (codes "load") 0 d) (λ d. number bits (λ k. past (codes "address") k d)) (λ d. number 16 (λ k. past (codes "in") k d)) (λ x. 0) c a) bit) (number_same bits (w (codes "address")) (v (codes "address")) all)))
    by (inr d) = record { name = codes "address"; bit = d.0; reaches = refl; differs = d.1 }

out_reaches_not : (e : End) → reaches_out e (codes "out") ≡ false
out_reaches_not ends.Nand = refl
out_reaches_not ends.Dff = refl
out_reaches_not ends.Keyboard = refl
out_reaches_not ends.Rom = refl
out_reaches_not (ends.Block bits) = refl

-- ---- where values come from

module _ (chips : Chips) (top : Entry) (d : ℕ) (sound : IsSound d chips (plan_of chips) top) (input : List ℕ → ℕ → Bool) where
  abbrev bit_of : List ℕ → List ℕ → ℕ → BitAt
  bit_of r name bit = bit_at (backwards r) name bit

  abbrev all_bits : List BitAt
  all_bits = tree_bits d chips top []

  record Link (r name : List ℕ) (bit : ℕ) (q n : List ℕ) (k : ℕ) : Type 0 where
    feeds : Feeds chips top (bit_of q n k) (bit_of r name bit)
    among : Among (bit_of q n k) all_bits

  record Works (r name : List ℕ) (bit : ℕ) (e : End) (b : ℕ) : Type 0 where
    chip : Entry
    at : chip_at chips top (backwards r) ≡ Some chip
    is : end_of chips.memories chip ≡ Some e
    named : name ≡ codes "out"

  abbrev LinkOf : List ℕ → List ℕ → ℕ → Supply → Type 0
  LinkOf r name bit (Given b) = Unit {0}
  LinkOf r name bit (Copied q n k) = Link r name bit q n k
  LinkOf r name bit (Worked e b) = Works r name bit e b

  -- a joint of a chip in the tree
  placed : (path : List ℕ) (chip : Entry) (i : ℕ) (input' : Bool) (net : List ℕ) (outer : ℕ) (pin : List ℕ) (bit : ℕ) → chip_at chips top path ≡ Some chip → (j : Joint chips (parts_of chips chip) i input' net outer pin bit) → IsJoint chips top path i j.conn j.w j.k input'
  placed path chip i input' net outer pin bit at j = record { chip = chip; part = j.part; inner = j.inner; j = j.j; at = at; there = j.there; found = j.found; here = j.here; right = j.right; way = j.way; within = j.within }

  same_bit : (path : List ℕ) (n m : List ℕ) (b k : ℕ) → n ≡ m → b ≡ k → bit_at path n b ≡ bit_at path m k
  same_bit path n m b k e f = ap₂ (bit_at path) e f

  link_down : (r : List ℕ) (i : ℕ) (name : List ℕ) (bit : ℕ) (chip : Entry) (net : List ℕ) (outer : ℕ) → chip_at chips top (backwards r) ≡ Some chip → Joint chips (parts_of chips chip) i true net outer name bit → Link (i ∷ r) name bit r net outer
  link_down r i name bit chip net outer at j =
      let p = placed (backwards r) chip i true net outer name bit at j in
      let both = joint_among chips d top (backwards r) i j.conn j.w j.k true sound p in
      let e = same_bit (backwards r) j.w.name net _ outer j.net_is j.outer_is in
      let f = same_bit (backwards r ++ i ∷ []) j.conn.pin.name name _ bit j.pin_is j.bit_is in
      record {
        feeds = subst (λ x. Feeds chips top x (bit_of (i ∷ r) name bit)) e (subst (λ x. Feeds chips top (outside_bit (backwards r) j.w j.k) x) f (down p));
        among = subst (λ x. Among x all_bits) e both.0;
      }

  link_up : (r name : List ℕ) (bit : ℕ) (chip : Entry) (place : Place) → chip_at chips top (backwards r) ≡ Some chip → Joint chips (parts_of chips chip) place.part false name bit place.pin place.bit → Link r name bit (place.part ∷ r) place.pin place.bit
  link_up r name bit chip place at j =
      let p = placed (backwards r) chip place.part false name bit place.pin place.bit at j in
      let both = joint_among chips d top (backwards r) place.part j.conn j.w j.k false sound p in
      let e = same_bit (backwards r) j.w.name name _ bit j.net_is j.outer_is in
      let f = same_bit (backwards r ++ place.part ∷ []) j.conn.pin.name place.pin _ place.bit j.pin_is j.bit_is in
      record {
        feeds = subst (λ x. Feeds chips top x (bit_of r name bit)) f (subst (λ x. Feeds chips top (inside_bit (backwards r) place.part j.conn j.k) x) e (up p));
        among = subst (λ x. Among x all_bits) f both.1;
      }

  by_origin_link : (r : List ℕ) (i : ℕ) (name : List ℕ) (bit : ℕ) (chip : Entry) (o : Origin) → chip_at chips top (backwards r) ≡ Some chip → (plan_of chips chip).origin i name bit ≡ o → LinkOf (i ∷ r) name bit (by_origin r o)
  by_origin_link r i name bit chip (FromNet net outer) at e = link_down r i name bit chip net outer at (origin_joint chips chip i name bit net outer e)
  by_origin_link r i name bit chip Low at e = tt
  by_origin_link r i name bit chip High at e = tt

  by_parent_link : (r : List ℕ) (i : ℕ) (name : List ℕ) (bit : ℕ) (o : Option Entry) → chip_at chips top (backwards r) ≡ o → LinkOf (i ∷ r) name bit (by_parent chips r i name bit o)
  by_parent_link r i name bit None at = tt
  by_parent_link r i name bit (Some chip) at = by_origin_link r i name bit chip ((plan_of chips chip).origin i name bit) at refl

  outside_link : (r name : List ℕ) (bit : ℕ) → LinkOf r name bit (outside chips top input r name bit)
  outside_link [] name bit = tt
  outside_link (i ∷ r) name bit = by_parent_link r i name bit (chip_at chips top (backwards r)) refl

  by_driver_link : (r name : List ℕ) (bit : ℕ) (chip : Entry) (o : Option Place) → chip_at chips top (backwards r) ≡ Some chip → (plan_of chips chip).driver name bit ≡ o → LinkOf r name bit (by_driver r o)
  by_driver_link r name bit chip None at e = tt
  by_driver_link r name bit chip (Some place) at e = link_up r name bit chip place at (driver_joint chips chip name bit place e)

  by_end_link : (r name : List ℕ) (bit : ℕ) (chip : Entry) (e : End) (b : Bool) → chip_at chips top (backwards r) ≡ Some chip → end_of chips.memories chip ≡ Some e → bytes_eq name (codes "out") ≡ b → LinkOf r name bit (if b then Worked e bit else Given false)
  by_end_link r name bit chip e true at is eq = record { chip = chip; at = at; is = is; named = (bytes_decides name (codes "out")).0 eq }
  by_end_link r name bit chip e false at is eq = tt

  inside_link : (r name : List ℕ) (bit : ℕ) (chip : Entry) (o : Option End) → chip_at chips top (backwards r) ≡ Some chip → end_of chips.memories chip ≡ o → LinkOf r name bit (inside chips r name bit chip o)
  inside_link r name bit chip (Some e) at is = by_end_link r name bit chip e (bytes_eq name (codes "out")) at is refl
  inside_link r name bit chip None at is = by_driver_link r name bit chip ((plan_of chips chip).driver name bit) at refl

  chip_link : (r name : List ℕ) (bit : ℕ) (chip : Entry) (b : Bool) → chip_at chips top (backwards r) ≡ Some chip → LinkOf r name bit (if b then outside chips top input r name bit else inside chips r name bit chip (end_of chips.memories chip))
  chip_link r name bit chip true at = outside_link r name bit
  chip_link r name bit chip false at = inside_link r name bit chip (end_of chips.memories chip) at refl

  supply_link : (r name : List ℕ) (bit : ℕ) (o : Option Entry) → chip_at chips top (backwards r) ≡ o → LinkOf r name bit (supply_in chips top input r name bit o)
  supply_link r name bit None at = tt
  supply_link r name bit (Some chip) at = chip_link r name bit chip (is_input chip name) at

  -- ---- changes

  module _ (world : World) (c : ℕ) (past : List ℕ → Histories) where
    abbrev now : ℕ → List ℕ → Wires Bool
    now k = swept_value chips top world c past input k

    -- the bit changes in sweep k
    abbrev Changes : ℕ → List ℕ → List ℕ → ℕ → Type 0
    Changes k r name bit = swept_value chips top world c past input (suc k) r name bit ≡ swept_value chips top world c past input k r name bit → ⊥

    record Visit (m : ℕ) (r name : List ℕ) (bit : ℕ) : Type 0 where
      q : List ℕ
      n : List ℕ
      k : ℕ
      among : Among (bit_of q n k) all_bits
      way : Way (Feeds chips top) (bit_of q n k) (bit_of r name bit)
      at : ℕ
      later : m ≤ at
      changes : Changes at q n k

    abbrev Differs : ℕ → List ℕ → Supply → Type 0
    Differs m r s = value_by world c past (now (suc m)) r s ≡ value_by world c past (now m) r s → ⊥

    -- a pin of an end, which changes because what it copies does
    pin_visit : (m : ℕ) (r name n : List ℕ) (bit k : ℕ) (e : End) (s : Supply) → reaches_out e n ≡ true → Feeds chips top (bit_of r n k) (bit_of r name bit) → LinkOf r n k s → Differs m r s → Visit m r name bit
    pin_visit m r name n bit k e (Given b) reaches feeds l ne = absurd (ne refl)
    pin_visit m r name n bit k e (Copied q net outer) reaches feeds l ne = record {
      q = q;
      n = net;
      k = outer;
      among = l.among;
      way = join_ways (bit_of q net outer) (bit_of r n k) (bit_of r name bit) (one_step (bit_of q net outer) (bit_of r n k) l.feeds) (one_step (bit_of r n k) (bit_of r name bit) feeds);
      at = m;
      later = omega arith;
      changes = ne;
    }
    pin_visit m r name n bit k e (Worked f b) reaches feeds l ne = let z : true ≡ false = sym reaches ∙ ap (reaches_out e) l.named ∙ out_reaches_not e in absurd cc

    visit_by : (m : ℕ) (r name : List ℕ) (bit : ℕ) (s : Supply) → LinkOf r name bit s → Differs (suc m) r s → Visit m r name bit
    visit_by m r name bit (Given b) l ne = absurd (ne refl)
    visit_by m r name bit (Copied q n k) l ne = record { q = q; n = n; k = k; among = l.among; way = one_step (bit_of q n k) (bit_of r name bit) l.feeds; at = suc m; later = omega arith; changes = ne }
    visit_by m r name bit (Worked e b) l ne =
        let p = end_differs world c (past r) e (now (suc (suc m)) r) (now (suc m) r) b ne in
        let feeds : Feeds chips top (bit_of r p.name p.bit) (bit_of r name bit) = subst (λ x. Feeds chips top (bit_of r p.name p.bit) (bit_of r x bit)) (sym l.named) (through {path = backwards r} {name = p.name} {bit = p.bit} {out = bit} l.at l.is p.reaches) in
        pin_visit m r name p.name bit p.bit e (supply chips top input r p.name p.bit) p.reaches feeds (supply_link r p.name p.bit (chip_at chips top (backwards r)) refl) p.differs

    visit : (m : ℕ) (r name : List ℕ) (bit : ℕ) → Changes (suc (suc m)) r name bit → Visit m r name bit
    visit m r name bit ne = visit_by m r name bit (supply chips top input r name bit) (supply_link r name bit (chip_at chips top (backwards r)) refl) ne

    record Visits (n : ℕ) (x : BitAt) : Type 0 where
      over : List BitAt
      number : length over ≡ n
      all : AllAmong over all_bits
      linked : Linked chips top x over

    visits : (n m : ℕ) (r name : List ℕ) (bit : ℕ) → 2 * n ≤ m → Changes m r name bit → Visits n (bit_of r name bit)
    visits zero m r name bit le ne = record { over = []; number = refl; all = tt; linked = tt }
    visits (suc n) zero r name bit le ne = absurd (omega arith)
    visits (suc n) (suc zero) r name bit le ne = absurd (omega arith)
    visits (suc n) (suc (suc m)) r name bit le ne =
        let v = visit m r name bit ne in
        let l = v.later in
        let rest = visits n v.at v.q v.n v.k (omega arith) v.changes in
        record { over = bit_of v.q v.n v.k ∷ rest.over; number = ap suc rest.number; all = (v.among, rest.all); linked = (v.way, rest.linked) }

    pub stable : ((nets : List (List ℕ)) → IsLoop chips top nets → ⊥) → (r name : List ℕ) (bit : ℕ) →
        swept_value chips top world c past input (suc (2 * suc (length (tree_bits d chips top [])))) r name bit ≡ swept_value chips top world c past input (2 * suc (length (tree_bits d chips top []))) r name bit
    stable no_loop r name bit = by (bool_same (now (suc (2 * suc (length all_bits))) r name bit) (now (2 * suc (length all_bits)) r name bit))
      where
        by : (now (suc (2 * suc (length all_bits))) r name bit ≡ now (2 * suc (length all_bits)) r name bit) ⊎ Changes (2 * suc (length all_bits)) r name bit → now (suc (2 * suc (length all_bits))) r name bit ≡ now (2 * suc (length all_bits)) r name bit
        by (inl e) = e
        by (inr ne) =
            let v = visits (suc (length all_bits)) (2 * suc (length all_bits)) r name bit (omega arith) ne in
            let n = v.number in
            absurd (no_long_way chips top no_loop (bit_of r name bit) v.over all_bits v.linked v.all (omega arith))
