-- The pins of the shipped chips, by computation.
use Rattle.std.proofs.Common.{◌≡◌, ℕ, zero, suc, Bool, true, false, cond, List, [], ◌∷◌, ◌++◌, length, Option, Some, None, is_some, map, codes, nat_eq, refl, sym, ap, subst, ◌∙◌}
use Rattle.std.specs.Prelude.{slice_get, not}
use Rattle.std.specs.Str.{bytes_eq}
use Rattle.std.proofs.lemmas.Bool.Decides.{Decides-eqb}
use Rattle.std.proofs.lemmas.Option.{slice_get_within}
use Rattle.hdl_tree.specs.declared.tree.Pin.{Pin}
use Rattle.hdl_tree.specs.declared.library.Entry.{Entry}
use Rattle.hdl_tree.specs.declared.ends.End.{End}
use Rattle.hdl_tree.specs.declared.ends.End.TheVariants as ends
use Rattle.hdl_tree.specs.declared.ends.Memories.{Memories}
use Rattle.hdl_tree.specs.declared.ends.Memories.TheVariants.{Blocks, Gates}
use Rattle.hdl_tree.specs.Chips.{end_of, pin_width}
use Rattle.hdl_tree.specs.Behaviour.{Each, width_in}
use Rattle.hdl_tree.specs.Writable.{all}
use Rattle.name_table.specs.Names.{find_value}
use Rattle.hdl_check.specs.Whole.{chips_in, AreDistinct}
use Rattle.hdl_plans.specs.Plans.{is_input, EndFits}
use Rattle.hdl_plans.specs.Planned.{HasEnds}
use Rattle.hdl_behaviours.specs.Clean.{place_of, all_below}
use Rattle.hdl_behaviours.proofs.Clean.{find_in, all_told}
use Rattle.hdl_behaviours.proofs.Levels.{all_at, pin_tells}
use Rattle.hack_cpu.specs.Library.{shipped_chips}
use Rattle.hack_cpu.specs.Pins.{Port, port_of, face_of, basic_faces, computing_faces, memory_faces, computer_faces, end_face, HasEndPins, PinsLaw}
use Rattle.hack_cpu.proofs.Opened.{opened}

-- ---- the table

table : map face_of shipped_chips ≡ basic_faces ++ (computing_faces ++ (memory_faces ++ computer_faces))
unfolding opened
table = refl

-- ---- no two chips of one name

abbrev place_is : ℕ → Option Entry → Bool
place_is i None = true
place_is i (Some entry) = nat_eq (place_of shipped_chips entry.name) i

places : all_below (length shipped_chips) (λ i. place_is i (slice_get shipped_chips i)) ≡ true
unfolding opened
places = refl

place : (i : ℕ) (entry : Entry) → slice_get shipped_chips i ≡ Some entry → place_of shipped_chips entry.name ≡ i
place i entry e =
    (Decides-eqb (place_of shipped_chips entry.name) i).0
    (sym (ap (place_is i) e) ∙ all_told (length shipped_chips) (λ k. place_is k (slice_get shipped_chips k)) places i (slice_get_within shipped_chips i entry e))

distinct : AreDistinct shipped_chips
distinct i j a b at there same = sym (place i a at) ∙ ap (place_of shipped_chips) same ∙ place j b there

-- ---- the pins of ends

abbrev FitsEnd : Entry → Option End → Type 0
FitsEnd entry None = Unit {0}
FitsEnd entry (Some e) = ((face_of entry).inputs, (face_of entry).outputs) ≡ end_face e

each_end : (memories : Memories) → Each (λ entry. FitsEnd entry (end_of memories entry)) shipped_chips
unfolding opened
each_end Blocks = (refl, (tt, (tt, (tt, (tt, (tt, (tt, (tt, (tt, (tt, (tt, (tt, (tt, (tt, (tt, (tt, (tt, (tt, (tt, (tt, (tt, (tt, (refl, (tt, (tt, (tt, (tt, (tt, (refl, (refl, (refl, (refl, (refl, (refl, (refl, (refl, (tt, (tt, (tt, tt)))))))))))))))))))))))))))))))))))))))
each_end Gates = (refl, (tt, (tt, (tt, (tt, (tt, (tt, (tt, (tt, (tt, (tt, (tt, (tt, (tt, (tt, (tt, (tt, (tt, (tt, (tt, (tt, (tt, (refl, (tt, (tt, (tt, (tt, (tt, (tt, (tt, (tt, (tt, (tt, (tt, (refl, (refl, (tt, (tt, (tt, tt)))))))))))))))))))))))))))))))))))))))

each_get : {X : Type 0} (P : X → Type 0) (xs : List X) → Each P xs → (i : ℕ) (x : X) → slice_get xs i ≡ Some x → P x
each_get P [] e i x h = absurd cc
each_get P (y ∷ ys) e zero x h = let same : y ≡ x = cc in subst P same e.0
each_get P (y ∷ ys) e (suc i) x h = each_get P ys e.1 i x h

end_pins : (memories : Memories) → HasEndPins (chips_in shipped_chips memories)
end_pins memories name chip e find_value is =
    let r = find_in shipped_chips name chip find_value in
    subst (FitsEnd chip) is (each_get (λ entry. FitsEnd entry (end_of memories entry)) shipped_chips (each_end memories) r.place chip r.there)

-- a name is an input where the ports have it
width_by : (b : Bool) (w : ℕ) (o p : Option ℕ) → o ≡ p → cond b (Some w) o ≡ cond b (Some w) p
width_by b w o p e = ap (λ x. cond b (Some w) x) e

width_found : (pins : List Pin) (name : List ℕ) → width_in pins name ≡ find_value name (map port_of pins)
width_found [] name = refl
width_found (p ∷ ps) name = width_by (bytes_eq name p.name) (pin_width p) (width_in ps name) (find_value name (map port_of ps)) (width_found ps name)

input_found : (chip : Entry) (inputs : List Port) (name : List ℕ) → map port_of chip.chip.inputs ≡ inputs → is_input chip name ≡ is_some (find_value name inputs)
input_found chip inputs name e = ap is_some (width_found chip.chip.inputs name) ∙ ap (λ (ports : List Port). is_some (find_value name ports)) e

fits_by : (chip : Entry) (e : End) → (map port_of chip.chip.inputs, map port_of chip.chip.outputs) ≡ end_face e → EndFits chip (Some e)
fits_by chip ends.Nand h = let i = input_found chip (end_face ends.Nand).0 in let g = ap (λ (p : List Port × List Port). p.0) h in (i (codes "a") g, i (codes "b") g, i (codes "out") g)
fits_by chip ends.Dff h = let i = input_found chip (end_face ends.Dff).0 in let g = ap (λ (p : List Port × List Port). p.0) h in (i (codes "in") g, i (codes "out") g)
fits_by chip ends.Keyboard h = input_found chip (end_face ends.Keyboard).0 (codes "out") (ap (λ (p : List Port × List Port). p.0) h)
fits_by chip ends.Rom h = let i = input_found chip (end_face ends.Rom).0 in let g = ap (λ (p : List Port × List Port). p.0) h in (i (codes "address") g, i (codes "out") g)
fits_by chip (ends.Block width) h = let i = input_found chip (end_face (ends.Block width)).0 in let g = ap (λ (p : List Port × List Port). p.0) h in (i (codes "in") g, i (codes "load") g, i (codes "address") g, i (codes "out") g)

abbrev outputs_apart : Entry → Bool
outputs_apart entry = all (λ (p : Pin). not (is_input entry p.name)) entry.chip.outputs

all_apart : all outputs_apart shipped_chips ≡ true
unfolding opened
all_apart = refl

is_false : (b : Bool) → not b ≡ true → b ≡ false
is_false true h = absurd cc
is_false false h = refl

has_ends : (memories : Memories) → HasEnds (chips_in shipped_chips memories)
has_ends memories = record {
  fits = λ name chip e find_value is. fits_by chip e (end_pins memories name chip e find_value is);
  apart = λ name chip e find_value is pin width there.
      let r = find_in shipped_chips name chip find_value in
      is_false (is_input chip pin) (pin_tells (λ x. not (is_input chip x)) chip.chip.outputs (all_at outputs_apart shipped_chips all_apart r.place chip r.there) pin width there);
}

pub faces : PinsLaw
faces = record { table = table; distinct = distinct; ends = has_ends; end_pins = end_pins }
