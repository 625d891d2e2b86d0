-- Libraries of shipped chips and of chips from texts.
use Rattle.std.proofs.Common.{◌≡◌, ◌<◌, ℕ, zero, suc, ◌⊎◌, inl, inr, Bool, true, false, cond, List, [], ◌∷◌, ◌++◌, length, get_or, drop, Option, Some, None, refl, ap, sym, subst, ◌∙◌, arith}
use Rattle.std.proofs.Math.Seq.{drop-cons}
use Rattle.std.proofs.lemmas.Option.{slice_get_read}
use Rattle.std.specs.Prelude.{slice_get}
use Rattle.std.specs.Str.{bytes_eq}
use Rattle.std.specs.Cmp.Lexicographic.{bytes_decides}
use Rattle.hdl_tree.specs.declared.library.Entry.{Entry}
use Rattle.hdl_tree.specs.declared.tree.Chip.{Chip}
use Rattle.hdl_tree.specs.declared.ends.End.{End}
use Rattle.hdl_tree.specs.declared.ends.End.TheVariants as ends
use Rattle.hdl_tree.specs.declared.ends.Memories.{Memories}
use Rattle.hdl_tree.specs.Chips.{end_of, end_of_shipped, find_entry}
use Rattle.hdl_check.specs.Whole.{AreDistinct, chips_in}
use Rattle.hdl_behaviours.proofs.Clean.{find_in}
use Rattle.hdl_flatten.specs.Ends.{EndsHavePins, HasPins, named_pins, end_inputs, end_outputs}
use Rattle.hack_cpu.specs.Library.{shipped_chips}
use Rattle.hack_cpu.specs.Pins.{Port, face_of, end_face}
use Rattle.hack_cpu.proofs.Faces.{faces}
use Rattle.hack_cpu.specs.Libraries.{IsShippedAs, IsLibrary, LibrariesLaw}

-- ---- the pins of the shipped ends

inputs_are : (e : End) → (end_face e).0 ≡ end_inputs e
inputs_are ends.Nand = refl
inputs_are ends.Dff = refl
inputs_are ends.Keyboard = refl
inputs_are ends.Rom = refl
inputs_are (ends.Block bits) = refl

outputs_are : (e : End) → (end_face e).1 ≡ end_outputs e
outputs_are ends.Nand = refl
outputs_are ends.Dff = refl
outputs_are ends.Keyboard = refl
outputs_are ends.Rom = refl
outputs_are (ends.Block bits) = refl

has_pins : (chip : Entry) (e : End) → ((face_of chip).inputs, (face_of chip).outputs) ≡ end_face e → HasPins chip e
has_pins chip e h = record {
  inputs = ap (λ (p : List Port × List Port). p.0) h ∙ inputs_are e;
  outputs = ap (λ (p : List Port × List Port). p.1) h ∙ outputs_are e;
}

pub ends_have_pins : (memories : Memories) → EndsHavePins (chips_in shipped_chips memories)
ends_have_pins memories name chip e found is = has_pins chip e (faces.end_pins memories name chip e found is)

-- ---- a chip that is there is found

found_by : (b : Bool) (e : Entry) (rest : Option Entry) → (y : Entry) × (rest ≡ Some y) → (y : Entry) × (cond b (Some e) rest ≡ Some y)
found_by true e rest r = (e, refl)
found_by false e rest r = r

some_found : (es : List Entry) (k : ℕ) (x : Entry) → slice_get es k ≡ Some x → (y : Entry) × (find_entry es x.name ≡ Some y)
some_found [] k x h = absurd cc
some_found (e ∷ es) zero x h =
    let same : e ≡ x = cc in
    (e, ap (λ (b : Bool). cond b (Some e) (find_entry es x.name)) ((bytes_decides x.name e.name).1 (ap (λ (c : Entry). c.name) (sym same))))
some_found (e ∷ es) (suc k) x h = found_by (bytes_eq x.name e.name) e (find_entry es x.name) (some_found es k x h)

absent : (es : List Entry) (name : List ℕ) (k : ℕ) (x : Entry) → find_entry es name ≡ None → slice_get es k ≡ Some x → x.name ≡ name → ⊥
absent es name k x none there named_pins =
    let f = some_found es k x there in
    let same : find_entry es x.name ≡ find_entry es name = ap (find_entry es) named_pins in
    absurd cc

-- the first of its name is the one at its place
pub found_at : (es : List Entry) (name : List ℕ) (k : ℕ) (own : Entry) → k < length es → own ≡ get_or es k own → bytes_eq name own.name ≡ true → find_entry es name ≡ find_entry (drop k es) name → find_entry es name ≡ slice_get es k
found_at es name k own lt at same past =
    past
    ∙ ap (λ rest. find_entry rest name) (drop-cons es k own lt ∙ ap (λ (e : Entry). e ∷ drop (suc k) es) (sym at))
    ∙ ap (λ (b : Bool). cond b (Some own) (find_entry (drop (suc k) es) name)) same
    ∙ sym (slice_get_read es (length es) k own refl lt at)

-- it is the one of its name, where no two have the same
itself_found : (es : List Entry) (k : ℕ) (x : Entry) → AreDistinct es → slice_get es k ≡ Some x → find_entry es x.name ≡ Some x
itself_found es k x distinct there =
    let f = some_found es k x there in
    let r = find_in es x.name f.0 f.1 in
    let place : r.place ≡ k = distinct r.place k f.0 x r.there there (sym r.named) in
    let at : slice_get es k ≡ Some f.0 = subst (λ (p : ℕ). slice_get es p ≡ Some f.0) place r.there in
    let same : f.0 ≡ x = cc in
    f.1 ∙ ap Some same

-- ---- one more chip

pushed : (xs : List Entry) (x : Entry) (k : ℕ) (y : Entry) → slice_get (xs ++ x ∷ []) k ≡ Some y → (slice_get xs k ≡ Some y) ⊎ ((k ≡ length xs) × (x ≡ y))
pushed [] x zero y h = inr (refl, cc)
pushed [] x (suc k) y h = absurd cc
pushed (z ∷ zs) x zero y h = inl h
pushed (z ∷ zs) x (suc k) y h = elim (pushed zs x k y h) [ inl p ↦ inl p | inr p ↦ inr (omega (arith, p.0), p.1) ]

module _ (es : List Entry) (x : Entry) (lib : IsLibrary es) (none : find_entry es x.name ≡ None) where
  more_distinct : AreDistinct (es ++ x ∷ [])
  more_distinct i j a b at there same =
      elim (pushed es x i a at) [
        | inl p ↦ elim (pushed es x j b there) [
          | inl q ↦ lib.distinct i j a b p q same
          | inr q ↦ absurd (absent es x.name i a none p (same ∙ ap (λ (c : Entry). c.name) (sym q.1)))
        ]
        | inr p ↦ elim (pushed es x j b there) [
          | inl q ↦ absurd (absent es x.name j b none q (sym same ∙ ap (λ (c : Entry). c.name) (sym p.1)))
          | inr q ↦ p.0 ∙ sym q.0
        ]
      ]

  pub one_more : (x.shipped ≡ None) ⊎ IsShippedAs x → IsLibrary (es ++ x ∷ [])
  one_more known = record {
    distinct = more_distinct;
    known = λ k entry at. elim (pushed es x k entry at) [
      | inl p ↦ lib.known k entry p
      | inr p ↦ subst (λ (c : Entry). (c.shipped ≡ None) ⊎ IsShippedAs c) p.1 known
    ];
  }

-- ---- the pins of ends in a library

no_end : (memories : Memories) (entry : Entry) (e : End) → entry.shipped ≡ None → end_of memories entry ≡ Some e → ⊥
unfolding end_of
no_end memories entry e none is =
    let same : end_of_shipped memories entry.shipped ≡ None = ap (end_of_shipped memories) none in
    absurd cc

same_end : (memories : Memories) (a b : Entry) → a.shipped ≡ b.shipped → end_of memories a ≡ end_of memories b
unfolding end_of
same_end memories a b same = ap (end_of_shipped memories) same

shipped_pins : (memories : Memories) (chip : Entry) (e : End) → IsShippedAs chip → end_of memories chip ≡ Some e → HasPins chip e
shipped_pins memories chip e r is =
    let found = itself_found shipped_chips r.place r.original faces.distinct r.there in
    let h = ends_have_pins memories r.original.name r.original e found (sym (same_end memories chip r.original r.shipped) ∙ is) in
    record {
      inputs = subst (λ (c : Chip). named_pins c.inputs ≡ end_inputs e) (sym r.chip) h.inputs;
      outputs = subst (λ (c : Chip). named_pins c.outputs ≡ end_outputs e) (sym r.chip) h.outputs;
    }

pub library_ends : (entries : List Entry) (memories : Memories) → IsLibrary entries → EndsHavePins (chips_in entries memories)
library_ends entries memories lib name chip e found is =
    let r = find_in entries name chip found in
    elim (lib.known r.place chip r.there) [
      | inl none ↦ absurd (no_end memories chip e none is)
      | inr shipped ↦ shipped_pins memories chip e shipped is
    ]

-- ---- all

pub shipped_library : IsLibrary shipped_chips
shipped_library = record {
  distinct = faces.distinct;
  known = λ k entry there. inr (record { place = k; original = entry; there = there; chip = refl; shipped = refl });
}

empty_library : IsLibrary []
empty_library = record { distinct = λ i j a b at. absurd cc; known = λ k entry at. absurd cc }

pub libraries : LibrariesLaw
libraries = record { empty = empty_library; shipped = shipped_library; more = λ entries entry lib none known. one_more entries entry lib none known; ends = library_ends }
