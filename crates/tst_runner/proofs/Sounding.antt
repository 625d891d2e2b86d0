-- The chips that are gathered are such that they can be built. Each has its own name, comes from a text or is a shipped one, and has no wide pin.
use Rattle.std.proofs.Common.{◌≡◌, ◌≤◌, ◌++◌, ◌⊎◌, ℕ, Bool, true, false, List, [], ◌∷◌, Option, Some, None, Result, Ok, Err, refl, sym, ap, subst, ◌∙◌, inl, inr, arith}
use Rattle.std.specs.Prelude.{IfOk, unwrap_or, ◌&&◌}
use Rattle.std.specs.List.{All, AllByRecursion}
use Rattle.std.proofs.lemmas.Bool.Decides.{nat_tests}
use Rattle.std.proofs.lemmas.List.Elements.{All-push, All-from_recursion}
use Rattle.hdl_tree.specs.declared.tree.Pin.{Pin}
use Rattle.hdl_tree.specs.declared.tree.Chip.{Chip}
use Rattle.hdl_tree.specs.declared.tree.Body.{Body}
use Rattle.hdl_tree.specs.declared.tree.Body.TheVariants as body
use Rattle.hdl_tree.specs.declared.library.Entry.{Entry}
use Rattle.hdl_tree.specs.declared.library.Library.{Library}
use Rattle.hdl_tree.specs.Chips.{find_entry, pin_width}
use Rattle.hdl_tree.specs.Writable.{all, body_can, chip_can, name_can, pin_can, width_can}
use Rattle.hdl_parser.specs.Spells.{Spells}
use Rattle.hdl_parser.proofs.Readable.{spelled_can}
use Rattle.hack_cpu.specs.Library.{shipped_chips}
use Rattle.hack_cpu.proofs.Printed.{found_printed}
use Rattle.hack_cpu.specs.Libraries.{IsShippedAs}
use Rattle.hack_cpu.proofs.Libraries.{libraries}
use Rattle.source_files.specs.Loads.{Loads}
use Rattle.source_files.specs.declared.error.LoadError.{LoadError}
use Rattle.tst_runner.specs.Gathering.{Gather, Sources, IsFound, IsTaken, built_in, entry_with, no_more, one_more}
use Rattle.tst_runner.specs.Inner.Sound.{IsNarrow, IsSound}
use Rattle.tst_runner.proofs.Finding.{stands}

-- ---- pins that texts can have

left_holds : (a b : Bool) → (a && b) ≡ true → a ≡ true
left_holds true b h = refl
left_holds false b h = absurd (let bad : ⊥ = cc in bad)

right_holds : (a b : Bool) → (a && b) ≡ true → b ≡ true
right_holds true b h = h
right_holds false b h = absurd (let bad : ⊥ = cc in bad)

narrow_width : (width : Option ℕ) → width_can width ≡ true → unwrap_or width 1 ≤ 16
narrow_width None h = omega arith
narrow_width (Some n) h = grind (arith, nat_tests)

narrow_pins : (pins : List Pin) → all pin_can pins ≡ true → AllByRecursion (λ pin. pin_width pin ≤ 16) pins
narrow_pins [] h = tt
narrow_pins (pin ∷ pins) h =
    (narrow_width pin.width (right_holds (name_can pin.name) (width_can pin.width) (left_holds (pin_can pin) (all pin_can pins) h)), narrow_pins pins (right_holds (pin_can pin) (all pin_can pins) h))

both_lists : {A : Type 0} (P : A → Type 0) (xs ys : List A) → AllByRecursion P xs → AllByRecursion P ys → AllByRecursion P (xs ++ ys)
both_lists P [] ys h k = k
both_lists P (x ∷ xs) ys h k = (h.0, both_lists P xs ys h.1 k)

abbrev HasNarrowPins : Chip → Type 0
HasNarrowPins chip = All (λ pin. pin_width pin ≤ 16) (chip.inputs ++ chip.outputs)

narrow_chip : (chip : Chip) → chip_can chip ≡ true → HasNarrowPins chip
narrow_chip chip h =
    let P : Pin → Type 0 = λ pin. pin_width pin ≤ 16 in
    let pins = right_holds (name_can chip.name) (all pin_can chip.inputs && (all pin_can chip.outputs && body_can chip.body)) h in
    let inputs = left_holds (all pin_can chip.inputs) (all pin_can chip.outputs && body_can chip.body) pins in
    let outputs = left_holds (all pin_can chip.outputs) (body_can chip.body) (right_holds (all pin_can chip.inputs) (all pin_can chip.outputs && body_can chip.body) pins) in
    All-from_recursion P (chip.inputs ++ chip.outputs) (both_lists P chip.inputs chip.outputs (narrow_pins chip.inputs inputs) (narrow_pins chip.outputs outputs))

-- ---- a chip that is found

pub record IsGood (name : List ℕ) (entry : Entry) : Type 0 where
  pub named : entry.name ≡ name
  pub known : (entry.shipped ≡ None) ⊎ IsShippedAs entry
  pub narrow : IsNarrow entry

text_good : (name text : List ℕ) (chip : Chip) → Spells text chip → IsGood name (built_in name chip None)
text_good name text chip spells = record { named = refl; known = inl refl; narrow = narrow_chip chip (spelled_can text chip spells) }

shipped_good : (own name : List ℕ) (entry : Entry) → find_entry shipped_chips own ≡ Some entry → IsGood name (record entry { name = name })
shipped_good own name entry found =
    let r = stands shipped_chips own entry found in
    record {
      named = refl;
      known = inr (record { place = r.place; original = entry; there = r.there; chip = refl; shipped = refl });
      narrow = narrow_chip entry.chip (found_printed own entry found);
    }

built_good : (name text own : List ℕ) (chip : Chip) (o : Option Entry) → find_entry shipped_chips own ≡ o → Spells text chip → IsGood name (built_in name chip o)
built_good name text own chip None found spells = text_good name text chip spells
built_good name text own chip (Some entry) found spells = shipped_good own name entry found

entry_good : (name text : List ℕ) (chip : Chip) (b : Body) → Spells text chip → IsGood name (entry_with shipped_chips name chip b)
entry_good name text chip (body.Parts parts) spells = text_good name text chip spells
entry_good name text chip (body.Builtin own clocked) spells = built_good name text own chip (find_entry shipped_chips own) refl spells

own_good : (name : List ℕ) (entry : Entry) → find_entry shipped_chips name ≡ Some entry → IsGood name entry
own_good name entry found =
    let r = stands shipped_chips name entry found in
    let g = shipped_good name name entry found in
    record { named = sym r.named; known = inr (record { place = r.place; original = entry; there = r.there; chip = refl; shipped = refl }); narrow = g.narrow }

pub found_good : (from : Sources) (name : List ℕ) (entry : Entry) → from.shipped ≡ shipped_chips → IsFound from name entry → IsGood name entry
found_good from name entry same (inl (there, (text, chip, has, spells, is))) =
    subst (λ (e : Entry). IsGood name e) (sym (is ∙ ap (λ (shipped : List Entry). entry_with shipped name chip chip.body) same)) (entry_good name text chip chip.body spells)
found_good from name entry same (inr (there, found)) = own_good name entry (ap (λ (shipped : List Entry). find_entry shipped name) (sym same) ∙ found)

-- ---- all that are gathered

one_more_sound : (entries : List Entry) (name : List ℕ) (entry : Entry) → IsSound entries → find_entry entries name ≡ None → IsGood name entry → IsSound (entries ++ entry ∷ [])
one_more_sound entries name entry sound new good =
    let none : find_entry entries entry.name ≡ None = ap (find_entry entries) good.named ∙ new in
    let library = libraries.more entries entry sound.library none good.known in
    record { distinct = library.distinct; library = library; narrow = All-push IsNarrow entries entry sound.narrow good.narrow }

taken_sound : (from : Sources) (name : List ℕ) (entries : List Entry) (next : List (List ℕ)) (entries' : List Entry) → from.shipped ≡ shipped_chips → IsTaken from name entries next entries' → IsSound entries → IsSound entries'
taken_sound from name entries next entries' same (inl (entry, found, none, stay)) sound = subst (λ (es : List Entry). IsSound es) (sym stay) sound
taken_sound from name entries next entries' same (inr (inl (new, (entry, found, needs, more)))) sound =
    subst (λ (es : List Entry). IsSound es) (sym more) (one_more_sound entries name entry sound new (found_good from name entry same found))
taken_sound from name entries next entries' same (inr (inr (new, there, none, needs, stay))) sound = subst (λ (es : List Entry). IsSound es) (sym stay) sound

gathered_sound : {from : Sources} {names : List (List ℕ)} {entries all : List Entry} → from.shipped ≡ shipped_chips → Gather from names entries all → IsSound entries → IsSound all
gathered_sound same no_more sound = sound
gathered_sound {from} same (one_more {name = name} {entries = entries} {entries' = entries'} next taken rest) sound = gathered_sound same rest (taken_sound from name entries next entries' same taken sound)

no_chips : IsSound []
no_chips = record { distinct = libraries.empty.distinct; library = libraries.empty; narrow = All-from_recursion IsNarrow [] tt }

pub loads_sound : (from : Sources) (name : List ℕ) (refused : List ℕ → Type 0) (missed : Type 0) (r : Result Library LoadError) → from.shipped ≡ shipped_chips
    → Loads (λ (library : Library). Gather from (name ∷ []) [] library.entries) refused missed r → IfOk r (λ library. IsSound library.entries)
loads_sound from name refused missed (Ok library) same h = gathered_sound same h no_chips
loads_sound from name refused missed (Err e) same h = tt
