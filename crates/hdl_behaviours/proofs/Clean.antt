-- A chip of a library whose texts are clean has no fault.
use Rattle.std.proofs.Common.{◌≡◌, ℕ, zero, suc, ◌<◌, ◌≤◌, ◌⊎◌, inl, inr, Bool, true, false, cond, List, [], ◌∷◌, length, take, map, Option, Some, None, refl, sym, ap, ◌∙◌, arith}
use Rattle.std.specs.Prelude.{slice_get, ◌&&◌, ◌||◌}
use Rattle.std.specs.Str.{bytes_eq}
use Rattle.std.specs.Cmp.Lexicographic.{bytes_decides}
use Rattle.std.proofs.lemmas.Bool.Decides.{eqb_tells, Decides-ltb}
use Rattle.std.proofs.lemmas.Option.{slice_get_within}
use Rattle.hdl_tree.specs.declared.tree.Pin.{Pin}
use Rattle.hdl_tree.specs.declared.tree.Part.{Part}
use Rattle.hdl_tree.specs.declared.tree.Connection.{Connection}
use Rattle.hdl_tree.specs.declared.library.Entry.{Entry}
use Rattle.hdl_tree.specs.declared.ends.End.{End}
use Rattle.hdl_tree.specs.Chips.{Chips, end_of, find_chip, find_entry, parts_of, parts_unless, parts_of_body}
use Rattle.hdl_tree.specs.Writable.{is_among}
use Rattle.hdl_check.specs.declared.fault.FaultKind.TheVariants as kinds
use Rattle.hdl_check.specs.Faults.{pins_of, pin_name, pin_fault, twice_fault, body_fault, part_fault, part_fault_by, fault_in, connection_fault_of, connection_fault_by, connection_fault_at, context, ports_of}
use Rattle.hdl_check.specs.Locations.{Location, AtPin, AtBody, AtPart, Inside, AtConnection, fault_at, fault_of_part, fault_of_connection, inner_of, at_inner, unless, IsFaultless}
use Rattle.hdl_behaviours.specs.Clean.{all_below, is_none, place_of, is_earlier, part_is_clean, text_is_clean, is_clean, AreClean}

pub and_left : (a b : Bool) → (a && b) ≡ true → a ≡ true
and_left true b h = refl
and_left false b h = absurd cc

pub and_right : (a b : Bool) → (a && b) ≡ true → b ≡ true
and_right true b h = h
and_right false b h = absurd cc

below_by : (n k : ℕ) (test : ℕ → Bool) → test n ≡ true → k < suc n → (k < n → test k ≡ true) → (k ≡ n) ⊎ (k ≡ n → ⊥) → test k ≡ true
below_by n k test h lt go (inl p) = ap test p ∙ h
below_by n k test h lt go (inr p) = go (omega (arith, lt, p))

pub all_told : (n : ℕ) (test : ℕ → Bool) → all_below n test ≡ true → (k : ℕ) → k < n → test k ≡ true
all_told zero test h k lt = absurd (omega (arith, lt))
all_told (suc n) test h k lt =
    below_by n k test (and_left (test n) (all_below n test) h) lt (all_told n test (and_right (test n) (all_below n test) h) k)
    (elim (eqb_tells k n) [ inl p ↦ inl p.1 | inr p ↦ inr p.1 ])

pub none_told : {A : Type 0} (o : Option A) → is_none o ≡ true → o ≡ None
none_told None h = refl
none_told (Some a) h = absurd cc

-- ---- chips of a library

-- the chip stands in the list, under this name
pub record IsIn (entries : List Entry) (name : List ℕ) (inner : Entry) : Type 0 where
  pub place : ℕ
  pub there : slice_get entries place ≡ Some inner
  pub named : name ≡ inner.name

find_by : (e : Entry) (es : List Entry) (name : List ℕ) (inner : Entry) (b : Bool) → bytes_eq name e.name ≡ b → cond b (Some e) (find_entry es name) ≡ Some inner → (find_entry es name ≡ Some inner → IsIn es name inner) → IsIn (e ∷ es) name inner
find_by e es name inner true q h go =
    let same : e ≡ inner = cc in
    record { place = 0; there = ap Some same; named = (bytes_decides name e.name).0 q ∙ ap (λ (x : Entry). x.name) same }
find_by e es name inner false q h go = let r = go h in record { place = suc r.place; there = r.there; named = r.named }

pub find_in : (es : List Entry) (name : List ℕ) (inner : Entry) → find_entry es name ≡ Some inner → IsIn es name inner
find_in [] name inner h = absurd cc
find_in (e ∷ es) name inner h = find_by e es name inner (bytes_eq name e.name) refl h (find_in es name inner)

-- ---- the places of one text

pin_by : (entry : Entry) (k : ℕ) (o : Option Pin) → slice_get (pins_of entry.chip) k ≡ o → (k < length (pins_of entry.chip) → is_none (pin_fault entry k) ≡ true) → pin_fault entry k ≡ None
pin_by entry k None e t = ap (twice_fault entry.name (map pin_name (take k (pins_of entry.chip)))) e
pin_by entry k (Some p) e t = none_told (pin_fault entry k) (t (slice_get_within (pins_of entry.chip) k p e))

module _ (chips : Chips) (entry : Entry) where
  abbrev pins_clean : Bool
  pins_clean = all_below (length (pins_of entry.chip)) (λ k. is_none (pin_fault entry k))

  abbrev body_clean : Bool
  body_clean = is_none (body_fault entry)

  abbrev parts_clean : Bool
  parts_clean = all_below (length (parts_of chips entry)) (λ i. part_is_clean chips entry i (slice_get (parts_of chips entry) i))

  abbrev connections_clean : ℕ → Part → Bool
  connections_clean i part = all_below (length part.connections) (λ j. is_none (connection_fault_of chips entry i part j))

  pin_fine : (k : ℕ) (o : Option End) → elim o [ None ↦ text_is_clean chips entry | Some e ↦ true ] ≡ true → unless o (pin_fault entry k) ≡ None
  pin_fine k None h = pin_by entry k (slice_get (pins_of entry.chip) k) refl (all_told (length (pins_of entry.chip)) (λ l. is_none (pin_fault entry l)) (and_left pins_clean (body_clean && parts_clean) h) k)
  pin_fine k (Some e) h = refl

  body_fine : (o : Option End) → elim o [ None ↦ text_is_clean chips entry | Some e ↦ true ] ≡ true → unless o (body_fault entry) ≡ None
  body_fine None h = none_told (body_fault entry) (and_left body_clean parts_clean (and_right pins_clean (body_clean && parts_clean) h))
  body_fine (Some e) h = refl

  part_by : (i : ℕ) (part : Part) (o : Option End) → end_of chips.memories entry ≡ o → elim o [ None ↦ text_is_clean chips entry | Some e ↦ true ] ≡ true → slice_get (parts_of chips entry) i ≡ Some part → part_is_clean chips entry i (Some part) ≡ true
  part_by i part None q h e =
      let parts = and_right body_clean parts_clean (and_right pins_clean (body_clean && parts_clean) h) in
      sym (ap (part_is_clean chips entry i) e) ∙ all_told (length (parts_of chips entry)) (λ l. part_is_clean chips entry l (slice_get (parts_of chips entry) l)) parts i (slice_get_within (parts_of chips entry) i part e)
  part_by i part (Some end) q h e = let none : slice_get [] i ≡ Some part = ap (λ (x : Option End). slice_get (parts_unless x (parts_of_body entry.chip.body)) i) (sym q) ∙ e in absurd cc

  part_fine : (i : ℕ) (part : Part) → is_clean chips entry ≡ true → slice_get (parts_of chips entry) i ≡ Some part → part_is_clean chips entry i (Some part) ≡ true
  part_fine i part h e = part_by i part (end_of chips.memories entry) refl h e

  -- the chip of a part is there, and stands before
  pub record Earlier (part : Part) : Type 0 where
    pub inner : Entry
    pub found : find_chip chips part.chip ≡ Some inner
    pub before : place_of chips.entries inner.name < place_of chips.entries entry.name

  earlier_by : (part : Part) (m : Option Entry) → find_chip chips part.chip ≡ m → is_earlier chips entry part m ≡ true → Earlier part
  earlier_by part None e h = absurd cc
  earlier_by part (Some inner) e h = record { inner = inner; found = e; before = (Decides-ltb (place_of chips.entries inner.name) (place_of chips.entries entry.name)).0 h }

  pub earlier : (i : ℕ) (part : Part) → is_clean chips entry ≡ true → slice_get (parts_of chips entry) i ≡ Some part → Earlier part
  earlier i part h e = earlier_by part (find_chip chips part.chip) refl (and_left (is_earlier chips entry part (find_chip chips part.chip)) (connections_clean i part) (part_fine i part h e))

  gone_by : (i : ℕ) (part : Part) (j : ℕ) (m : Option Entry) → slice_get part.connections j ≡ None → connection_fault_by chips entry i part j m ≡ None
  gone_by i part j None e = refl
  gone_by i part j (Some inner) e = ap (connection_fault_at (context chips entry i (ports_of inner.chip) part.connections j) (ports_of inner.chip)) e

  connection_by : (i : ℕ) (part : Part) (j : ℕ) (o : Option Connection) → slice_get part.connections j ≡ o → all_below (length part.connections) (λ l. is_none (connection_fault_of chips entry i part l)) ≡ true → connection_fault_of chips entry i part j ≡ None
  connection_by i part j None e h = gone_by i part j (find_chip chips part.chip) e
  connection_by i part j (Some conn) e h = none_told (connection_fault_of chips entry i part j) (all_told (length part.connections) (λ l. is_none (connection_fault_of chips entry i part l)) h j (slice_get_within part.connections j conn e))

  connection_fine : (i j : ℕ) (o : Option Part) → is_clean chips entry ≡ true → slice_get (parts_of chips entry) i ≡ o → fault_of_connection chips entry i o j ≡ None
  connection_fine i j None h e = refl
  connection_fine i j (Some part) h e = connection_by i part j (slice_get part.connections j) refl (and_right (is_earlier chips entry part (find_chip chips part.chip)) (connections_clean i part) (part_fine i part h e))

-- ---- the places of the texts in it

module _ (chips : Chips) (clean : AreClean chips) where
  -- no name of a chip that stands before place n
  abbrev Apart : List (List ℕ) → ℕ → Type 0
  Apart outer n = (name : List ℕ) → place_of chips.entries name < n → is_among name outer ≡ false

  apart_by : (x name : List ℕ) (outer : List (List ℕ)) (b : Bool) → bytes_eq name x ≡ b → place_of chips.entries name < place_of chips.entries x → is_among name outer ≡ false → is_among name (x ∷ outer) ≡ false
  apart_by x name outer true q lt h = let same : place_of chips.entries name ≡ place_of chips.entries x = ap (place_of chips.entries) ((bytes_decides name x).0 q) in absurd (omega (arith, lt, same))
  apart_by x name outer false q lt h = ap (λ (b : Bool). b || is_among name outer) q ∙ h

  extend : (x : List ℕ) (outer : List (List ℕ)) (n : ℕ) → Apart outer n → place_of chips.entries x ≤ n → Apart (x ∷ outer) (place_of chips.entries x)
  extend x outer n apart le name lt = apart_by x name outer (bytes_eq name x) refl lt (apart name (omega (arith, le, lt)))

  told_by : (outer : List (List ℕ)) (entry : Entry) (part : Part) (inner : Entry) → find_chip chips part.chip ≡ Some inner → is_among inner.name outer ≡ false → part_fault chips outer entry.name part ≡ None
  told_by outer entry part inner e h = ap (part_fault_by outer entry.name part.chip) e ∙ ap (λ (b : Bool). cond b (Some (fault_in entry.name kinds.Recursive part.chip)) None) h

  part_none : (outer : List (List ℕ)) (entry : Entry) (i : ℕ) (o : Option Part) → is_clean chips entry ≡ true → Apart outer (place_of chips.entries entry.name) → slice_get (parts_of chips entry) i ≡ o → fault_of_part chips outer entry o ≡ None
  part_none outer entry i None h apart e = refl
  part_none outer entry i (Some part) h apart e = let p = earlier chips entry i part h e in told_by outer entry part p.inner p.found (apart p.inner.name p.before)

  inside_by : (outer : List (List ℕ)) (entry : Entry) (i : ℕ) (s : Location) (o : Option Part) → is_clean chips entry ≡ true → Apart outer (place_of chips.entries entry.name) → slice_get (parts_of chips entry) i ≡ o →
      ((names : List (List ℕ)) (k : ℕ) (inner : Entry) → slice_get chips.entries k ≡ Some inner → Apart names (place_of chips.entries inner.name) → fault_at chips names inner s ≡ None) →
      at_inner (λ inner. fault_at chips (inner.name ∷ outer) inner s) (inner_of chips o) ≡ None
  inside_by outer entry i s None h apart e go = refl
  inside_by outer entry i s (Some part) h apart e go =
      let p = earlier chips entry i part h e in
      let r = find_in chips.entries part.chip p.inner p.found in
      ap (at_inner (λ inner. fault_at chips (inner.name ∷ outer) inner s)) p.found ∙ go (p.inner.name ∷ outer) r.place p.inner r.there (extend p.inner.name outer (place_of chips.entries entry.name) apart (omega (arith, p.before)))

  no_fault : (s : Location) (outer : List (List ℕ)) (k : ℕ) (entry : Entry) → slice_get chips.entries k ≡ Some entry → Apart outer (place_of chips.entries entry.name) → fault_at chips outer entry s ≡ None
  no_fault (AtPin l) outer k entry at apart = pin_fine chips entry l (end_of chips.memories entry) (clean k entry at)
  no_fault AtBody outer k entry at apart = body_fine chips entry (end_of chips.memories entry) (clean k entry at)
  no_fault (AtPart i) outer k entry at apart = part_none outer entry i (slice_get (parts_of chips entry) i) (clean k entry at) apart refl
  no_fault (Inside i s) outer k entry at apart = inside_by outer entry i s (slice_get (parts_of chips entry) i) (clean k entry at) apart refl (no_fault s)
  no_fault (AtConnection i j) outer k entry at apart = connection_fine chips entry i j (slice_get (parts_of chips entry) i) (clean k entry at) refl

  faultless : (k : ℕ) (entry : Entry) → slice_get chips.entries k ≡ Some entry → IsFaultless chips (entry.name ∷ []) entry
  faultless k entry at s = no_fault s (entry.name ∷ []) k entry at (extend entry.name [] (place_of chips.entries entry.name) (λ name lt. refl) (omega arith))

pub clean_faultless : (chips : Chips) → AreClean chips → (i : ℕ) (entry : Entry) → slice_get chips.entries i ≡ Some entry → IsFaultless chips (entry.name ∷ []) entry
clean_faultless chips clean i entry at = faultless chips clean i entry at
