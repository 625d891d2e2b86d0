-- What a part and a chip say.
use Rattle.std.proofs.Common.{◌≡◌, ℕ, ◌+◌, ◌<◌, ◌⊎◌, inl, inr, true, false, List, ◌∷◌, ◌++◌, take, Option, Some, None, is_some, Result, Ok, Err, refl, sym, ap, subst, ◌∙◌, arith}
use Rattle.std.specs.Prelude.{slice_get, IfErr}
use Rattle.hdl_tree.specs.declared.tree.Part.{Part}
use Rattle.hdl_tree.specs.declared.ends.End.{End}
use Rattle.hdl_tree.specs.declared.library.Entry.{Entry}
use Rattle.hdl_tree.specs.Chips.{Chips, end_of, find_chip, parts_of, parts_unless, parts_of_body}
use Rattle.hdl_check.specs.Tables.{BitOf}
use Rattle.hdl_check.specs.Inner.Marked.{HasMarks, MarksMore}
use Rattle.hdl_check.specs.declared.fault.NamedFault.{NamedFault}
use Rattle.hdl_check.specs.Inner.Checked.{Checks}
use Rattle.hdl_check.specs.Faults.{ports_of, drivers_of, drivers_by, drivers_of_inner, bits_driven, pin_fault, body_fault, part_fault_by, connection_fault_in, connection_fault_by, connection_fault_of}
use Rattle.hdl_check.specs.Locations.{Location, AtPin, AtBody, AtPart, Inside, AtConnection, IsEarlier, unless, at_inner, inner_of, fault_of_part, fault_of_connection, fault_at, IsFirstFault}
use Rattle.hdl_check.specs.Inner.Progress.{IsProgress, Avoids, PartIsEntered, PartIsFine, PartFails, PartsAreFine, IsOf, IsFirstOf, FindsFirst, FailsInside, HeadIsFine}
use Rattle.hdl_check.specs.Whole.{Tells}
use Rattle.hdl_check.specs.declared.fault.ElabFault.{ElabFault}
use Rattle.hdl_check.specs.declared.fault.ElabFault.TheVariants as errors
use Rattle.hdl_check.specs.declared.stage.Stage.{Stage}
use Rattle.hdl_check.specs.declared.marks.Marks.{Marks}
use Rattle.hdl_check.proofs.Firsts.{part_none, inside_none}
use Rattle.hdl_check.proofs.MarkLemmas.{has_more}
use Rattle.hdl_check.proofs.Rows.{part_next}
use Rattle.hdl_check.proofs.Telling.{tells_more}

none_before : (i : ℕ) (s : Location) → IsOf i s → IsEarlier s (AtPart i) → ⊥
none_before i (AtPin k) of h = of
none_before i AtBody of h = of
none_before i (AtPart j) of h = absurd (omega arith)
none_before i (Inside j s) of h = absurd (omega arith)
none_before i (AtConnection j k) of h = absurd (omega arith)

module _ (chips : Chips) (names : List (List ℕ)) (entry : Entry) (i : ℕ) (part : Part) (there : slice_get (parts_of chips entry) i ≡ Some part) where
  -- the chip's name
  name_fails : (f : NamedFault) → part_fault_by names entry.name part.chip (find_chip chips part.chip) ≡ Some f → PartFails chips names entry i f
  name_fails f h = record {
    place = AtPart i;
    part = refl;
    there = ap (fault_of_part chips names entry) there ∙ h;
    first = λ s of earlier. absurd (none_before i s of earlier);
  }

  pub name_wrong : (wanted : NamedFault) (e : ElabFault) → part_fault_by names entry.name part.chip (find_chip chips part.chip) ≡ Some wanted → Tells (λ f. f ≡ wanted) e → Tells (PartFails chips names entry i) e
  name_wrong wanted errors.Memory h k = tt
  name_wrong wanted (errors.Named f) h k = name_fails f (h ∙ ap Some (sym k))

  -- what stands in the chip
  inside_first : (inner : Entry) (f : NamedFault) (fails : IsFirstFault chips (inner.name ∷ names) inner f) → find_chip chips part.chip ≡ Some inner → part_fault_by names entry.name part.chip (find_chip chips part.chip) ≡ None → (s : Location) → IsOf i s → IsEarlier s (Inside i fails.place) → fault_at chips names entry s ≡ None
  inside_first inner f fails found none (AtPin k) of earlier = absurd of
  inside_first inner f fails found none AtBody of earlier = absurd of
  inside_first inner f fails found none (AtPart j) of earlier = ap (λ x. fault_of_part chips names entry (slice_get (parts_of chips entry) x)) of ∙ ap (fault_of_part chips names entry) there ∙ none
  inside_first inner f fails found none (Inside j s) of (inl lt) = absurd (omega arith)
  inside_first inner f fails found none (Inside j s) of (inr h) =
      ap (λ x. fault_at chips names entry (Inside x s)) of
      ∙ ap (λ o. at_inner (λ y. fault_at chips (y.name ∷ names) y s) (inner_of chips o)) there
      ∙ ap (at_inner (λ y. fault_at chips (y.name ∷ names) y s)) found ∙ fails.first s h.1
  inside_first inner f fails found none (AtConnection j k) of earlier = absurd (omega arith)

  inside_fails : (inner : Entry) (f : NamedFault) → IsFirstFault chips (inner.name ∷ names) inner f → find_chip chips part.chip ≡ Some inner → part_fault_by names entry.name part.chip (find_chip chips part.chip) ≡ None → PartFails chips names entry i f
  inside_fails inner f fails found none = record {
    place = Inside i fails.place;
    part = refl;
    there = ap (λ o. at_inner (λ y. fault_at chips (y.name ∷ names) y fails.place) (inner_of chips o)) there ∙ ap (at_inner (λ y. fault_at chips (y.name ∷ names) y fails.place)) found ∙ fails.there;
    first = λ s of earlier. inside_first inner f fails found none s of earlier;
  }

  module _ (k : ℕ) (inner : Entry) (found : find_chip chips part.chip ≡ slice_get chips.entries k) (here : slice_get chips.entries k ≡ Some inner) where
    pub entering_fails : (f : NamedFault) → (part_fault_by names entry.name part.chip (slice_get chips.entries k) ≡ Some f) ⊎ ((part_fault_by names entry.name part.chip (slice_get chips.entries k) ≡ None) × FailsInside chips names k f) → PartFails chips names entry i f
    entering_fails f (inl h) = name_fails f (ap (part_fault_by names entry.name part.chip) found ∙ h)
    entering_fails f (inr h) = inside_fails inner f (h.1 inner here) (found ∙ here) (ap (part_fault_by names entry.name part.chip) found ∙ h.0)

  -- the connections
  module _ (stages : List Stage) (done : ℕ) (progress : IsProgress chips stages done) (avoids : Avoids chips stages done names) (n : PartIsEntered chips stages part) where
    faults : ℕ → Option NamedFault
    faults = connection_fault_in chips entry i (ports_of n.inner.chip) part.connections

    fault_is : (j : ℕ) → connection_fault_of chips entry i part j ≡ faults j
    unfolding faults
    fault_is j = ap (connection_fault_by chips entry i part j) n.found

    connection_first : (f : NamedFault) (h : IsFirstOf faults f) (s : Location) → IsOf i s → IsEarlier s (AtConnection i h.place) → fault_at chips names entry s ≡ None
    connection_first f h (AtPin k) of earlier = absurd of
    connection_first f h AtBody of earlier = absurd of
    connection_first f h (AtPart j) of earlier = ap (λ x. fault_of_part chips names entry (slice_get (parts_of chips entry) x)) of ∙ part_none chips stages done progress names avoids entry i part there n
    connection_first f h (Inside j s) of earlier = ap (λ x. fault_at chips names entry (Inside x s)) of ∙ inside_none chips stages done progress names avoids entry i part s there n
    connection_first f h (AtConnection j k) of (inl lt) = absurd (omega arith)
    connection_first f h (AtConnection j k) of (inr e) = ap (λ x. fault_of_connection chips entry x (slice_get (parts_of chips entry) x) k) of ∙ ap (λ o. fault_of_connection chips entry i o k) there ∙ fault_is k ∙ h.first k e.1

    connection_fails : (f : NamedFault) → IsFirstOf faults f → PartFails chips names entry i f
    connection_fails f h = record {
      place = AtConnection i h.place;
      part = refl;
      there = ap (λ o. fault_of_connection chips entry i o h.place) there ∙ fault_is h.place ∙ h.there;
      first = λ s of earlier. connection_first f h s of earlier;
    }

    pub connections_wrong : (e : ElabFault) → Tells (IsFirstOf (connection_fault_in chips entry i (ports_of n.inner.chip) part.connections)) e → Tells (PartFails chips names entry i) e
    unfolding faults
    connections_wrong e h = tells_more (IsFirstOf faults) (PartFails chips names entry i) e connection_fails h

-- a part is fine where its connections are
pub part_fine : (chips : Chips) (stages : List Stage) (entry : Entry) (i : ℕ) (part : Part) (n : PartIsEntered chips stages part) → ((j : ℕ) → connection_fault_in chips entry i (ports_of n.inner.chip) part.connections j ≡ None) → PartIsFine chips stages entry i part
part_fine chips stages entry i part n h = record { entered = n; connections = λ j. ap (connection_fault_by chips entry i part j) n.found ∙ h j }

-- what the part drives is marked
pub part_marked : (chips : Chips) (entry : Entry) (i : ℕ) (part : Part) (inner : Entry) (old new : Marks) → find_chip chips part.chip ≡ Some inner → slice_get (parts_of chips entry) i ≡ Some part → HasMarks old (bits_driven (drivers_of chips (take i (parts_of chips entry)))) →
    MarksMore old new (bits_driven (drivers_by (ports_of inner.chip) part.connections)) → HasMarks new (bits_driven (drivers_of chips (take (i + 1) (parts_of chips entry))))
part_marked chips entry i part inner old new found there h k =
    subst (λ (bs : List BitOf). HasMarks new bs)
    (ap (λ ps. bits_driven (drivers_of chips (take i (parts_of chips entry))) ++ bits_driven ps) (sym (ap (λ o. drivers_of_inner o part.connections) found)) ∙ sym (part_next chips (parts_of chips entry) i part there))
    (has_more old new (bits_driven (drivers_of chips (take i (parts_of chips entry)))) (bits_driven (drivers_by (ports_of inner.chip) part.connections)) h k)

pub if_err : (r : Result (Unit {0}) ElabFault) (fault : ℕ → Option NamedFault) (Q : ElabFault → Type 0) → FindsFirst fault r → ((e : ElabFault) → Tells (IsFirstOf fault) e → Q e) → IfErr r Q
if_err (Ok u) fault Q h go = tt
if_err (Err e) fault Q h go = go e h

-- one part more
parts_by : (chips : Chips) (stages : List Stage) (entry : Entry) (i : ℕ) (part : Part) → slice_get (parts_of chips entry) i ≡ Some part → PartsAreFine chips stages entry i → PartIsFine chips stages entry i part → (j : ℕ) (other : Part) → (j < i) ⊎ (j ≡ i) → slice_get (parts_of chips entry) j ≡ Some other → PartIsFine chips stages entry j other
parts_by chips stages entry i part there before fine j other (inl lt) at = before j other lt at
parts_by chips stages entry i part there before fine j other (inr e) at =
    let same : part ≡ other = cc (sym there ∙ ap (slice_get (parts_of chips entry)) (sym e) ∙ at) in
    subst (λ x. PartIsFine chips stages entry x other) (sym e) (subst (λ (p : Part). PartIsFine chips stages entry i p) same fine)

less_or : (j i : ℕ) → j < i + 1 → (j < i) ⊎ (j ≡ i)
less_or j i h = grind arith

pub parts_more : (chips : Chips) (stages : List Stage) (entry : Entry) (i : ℕ) (part : Part) → slice_get (parts_of chips entry) i ≡ Some part → PartsAreFine chips stages entry i → PartIsFine chips stages entry i part → PartsAreFine chips stages entry (i + 1)
parts_more chips stages entry i part there before fine j other lt at = parts_by chips stages entry i part there before fine j other (less_or j i lt) at

-- ---- a whole chip

none_of : {A : Type 0} (o : Option A) → is_some o ≡ false → o ≡ None
none_of None h = refl
none_of (Some a) h = absurd cc

module _ (chips : Chips) (entry : Entry) (tree : is_some (end_of chips.memories entry) ≡ false) where
  pub no_end : end_of chips.memories entry ≡ None
  no_end = none_of (end_of chips.memories entry) tree

  pub its_parts : parts_of chips entry ≡ parts_of_body entry.chip.body
  its_parts = ap (λ e. parts_unless e (parts_of_body entry.chip.body)) no_end

  tree_fault : (f : Option NamedFault) → unless (end_of chips.memories entry) f ≡ f
  tree_fault f = ap (λ e. unless e f) no_end

  pins_first : (names : List (List ℕ)) (f : NamedFault) (h : IsFirstOf (pin_fault entry) f) (s : Location) → IsEarlier s (AtPin h.place) → fault_at chips names entry s ≡ None
  pins_first names f h (AtPin k) earlier = tree_fault (pin_fault entry k) ∙ h.first k earlier
  pins_first names f h AtBody earlier = absurd earlier
  pins_first names f h (AtPart j) earlier = absurd earlier
  pins_first names f h (Inside j s) earlier = absurd earlier
  pins_first names f h (AtConnection j k) earlier = absurd earlier

  pub pins_fail : (names : List (List ℕ)) (f : NamedFault) → IsFirstOf (pin_fault entry) f → IsFirstFault chips names entry f
  pins_fail names f h = record { place = AtPin h.place; there = tree_fault (pin_fault entry h.place) ∙ h.there; first = λ s earlier. pins_first names f h s earlier }

  body_first : (names : List (List ℕ)) → ((k : ℕ) → pin_fault entry k ≡ None) → (s : Location) → IsEarlier s AtBody → fault_at chips names entry s ≡ None
  body_first names pins (AtPin k) earlier = tree_fault (pin_fault entry k) ∙ pins k
  body_first names pins AtBody earlier = absurd earlier
  body_first names pins (AtPart j) earlier = absurd earlier
  body_first names pins (Inside j s) earlier = absurd earlier
  body_first names pins (AtConnection j k) earlier = absurd earlier

  pub body_fails : (names : List (List ℕ)) (f : NamedFault) → ((k : ℕ) → pin_fault entry k ≡ None) → body_fault entry ≡ Some f → IsFirstFault chips names entry f
  body_fails names f pins h = record { place = AtBody; there = tree_fault (body_fault entry) ∙ h; first = λ s earlier. body_first names pins s earlier }

  pub pins_right : ((k : ℕ) → pin_fault entry k ≡ None) → (k : ℕ) → unless (end_of chips.memories entry) (pin_fault entry k) ≡ None
  pins_right pins k = tree_fault (pin_fault entry k) ∙ pins k

  pub body_right : body_fault entry ≡ None → unless (end_of chips.memories entry) (body_fault entry) ≡ None
  body_right h = tree_fault (body_fault entry) ∙ h

-- an end
pub end_head : (chips : Chips) (entry : Entry) → is_some (end_of chips.memories entry) ≡ true → HeadIsFine chips entry
end_head chips entry h = by (end_of chips.memories entry) refl
  where
    by : (o : Option End) → end_of chips.memories entry ≡ o → HeadIsFine chips entry
    by None e = let n : false ≡ true = ap is_some (sym e) ∙ h in absurd cc
    by (Some x) e = record {
      pins = λ k. ap (λ o. unless o (pin_fault entry k)) e;
      body = ap (λ o. unless o (body_fault entry)) e;
    }

-- the same chip at its place
pub at_entry : (chips : Chips) (k : ℕ) (entry other : Entry) → slice_get chips.entries k ≡ Some entry → slice_get chips.entries k ≡ Some other → entry ≡ other
at_entry chips k entry other here there = cc (sym here ∙ there)

pub fails_at : (chips : Chips) (outer : List (List ℕ)) (k : ℕ) (entry : Entry) (f : NamedFault) → slice_get chips.entries k ≡ Some entry → IsFirstFault chips (entry.name ∷ outer) entry f → FailsInside chips outer k f
fails_at chips outer k entry f here h other there = subst (λ (x : Entry). IsFirstFault chips (x.name ∷ outer) x f) (at_entry chips k entry other here there) h

pub body_wrong : (chips : Chips) (entry : Entry) (tree : is_some (end_of chips.memories entry) ≡ false) (names : List (List ℕ)) (wanted : NamedFault) (e : ElabFault) → ((j : ℕ) → pin_fault entry j ≡ None) → body_fault entry ≡ Some wanted → Checks (Some wanted) (Err e) → Tells (IsFirstFault chips names entry) e
body_wrong chips entry tree names wanted errors.Memory pins h c = tt
body_wrong chips entry tree names wanted (errors.Named f) pins h c = body_fails chips entry tree names _ pins (h ∙ c)
