-- Ends that have their pins, as the laws of loops want them.
use Rattle.std.proofs.Common.{◌≡◌, ℕ, ◌<◌, Bool, true, false, cond, List, [], ◌∷◌, Option, Some, None, codes, refl, sym, ap, subst, ◌∙◌}
use Rattle.std.specs.Str.{bytes_eq}
use Rattle.std.specs.Cmp.Lexicographic.{bytes_decides}
use Rattle.hdl_tree.specs.declared.tree.Pin.{Pin}
use Rattle.hdl_tree.specs.declared.library.Entry.{Entry}
use Rattle.hdl_tree.specs.declared.ends.End.{End}
use Rattle.hdl_tree.specs.declared.ends.End.TheVariants as ends
use Rattle.hdl_tree.specs.Chips.{Chips, pin_width}
use Rattle.hdl_tree.specs.Behaviour.{width_in}
use Rattle.name_table.specs.Names.{find_value}
use Rattle.hdl_plans.specs.Ways.{HasBit}
use Rattle.hdl_behaviours.specs.Loopless.{IsWide, AreWide}
use Rattle.hdl_behaviours.specs.Reads.{out_bits, HaveOutAlone}
use Rattle.hdl_flatten.specs.Trees.{end_nodes}
use Rattle.hdl_flatten.specs.Ends.{named_pins, end_inputs, end_outputs, HasPins, EndsHavePins}

width_named : (pins : List Pin) (name : List ℕ) → width_in pins name ≡ find_value name (named_pins pins)
width_named [] name = refl
width_named (p ∷ ps) name = ap (λ (o : Option ℕ). cond (bytes_eq name p.name) (Some (pin_width p)) o) (width_named ps name)

input_width : (chip : Entry) (e : End) (name : List ℕ) → HasPins chip e → width_in chip.chip.inputs name ≡ find_value name (end_inputs e)
input_width chip e name pins = width_named chip.chip.inputs name ∙ ap (find_value name) pins.inputs

output_width : (chip : Entry) (e : End) (name : List ℕ) → HasPins chip e → width_in chip.chip.outputs name ≡ find_value name (end_outputs e)
output_width chip e name pins = width_named chip.chip.outputs name ∙ ap (find_value name) pins.outputs

is_wide : (chip : Entry) (e : End) → HasPins chip e → IsWide chip e
is_wide chip ends.Nand pins = (input_width chip ends.Nand (codes "a") pins, input_width chip ends.Nand (codes "b") pins, output_width chip ends.Nand (codes "out") pins)
is_wide chip ends.Dff pins = tt
is_wide chip ends.Keyboard pins = tt
is_wide chip ends.Rom pins = (input_width chip ends.Rom (codes "address") pins, output_width chip ends.Rom (codes "out") pins)
is_wide chip (ends.Block bits) pins = (input_width chip (ends.Block bits) (codes "address") pins, output_width chip (ends.Block bits) (codes "out") pins)

pub are_wide : (chips : Chips) → EndsHavePins chips → AreWide chips
are_wide chips h = λ name chip e f is. is_wide chip e (h name chip e f is)

only_by : (name : List ℕ) (w width : ℕ) (b : Bool) → bytes_eq name (codes "out") ≡ b → cond b (Some w) None ≡ Some width → (name ≡ codes "out") × (width ≡ w)
only_by name w width true e h = ((bytes_decides name (codes "out")).0 e, cc)
only_by name w width false e h = absurd cc

only_out : (e : End) (name : List ℕ) (width : ℕ) → find_value name (end_outputs e) ≡ Some width → (name ≡ codes "out") × (width ≡ out_bits e)
only_out ends.Nand name width h = only_by name 1 width (bytes_eq name (codes "out")) refl h
only_out ends.Dff name width h = only_by name 1 width (bytes_eq name (codes "out")) refl h
only_out ends.Keyboard name width h = only_by name 16 width (bytes_eq name (codes "out")) refl h
only_out ends.Rom name width h = only_by name 16 width (bytes_eq name (codes "out")) refl h
only_out (ends.Block bits) name width h = only_by name 16 width (bytes_eq name (codes "out")) refl h

pub out_alone : (chips : Chips) → EndsHavePins chips → HaveOutAlone chips
out_alone chips h = λ name chip e f is pin bit has.
    let o = only_out e pin has.width (sym (output_width chip e pin (h name chip e f is)) ∙ has.there) in
    (o.0, subst (λ (w : ℕ). bit < w) o.1 has.below)

-- the bits of the out of an end are those that have nodes
out_found : (e : End) → find_value (codes "out") (end_outputs e) ≡ Some (end_nodes (Some e))
out_found ends.Nand = refl
out_found ends.Dff = refl
out_found ends.Keyboard = refl
out_found ends.Rom = refl
out_found (ends.Block bits) = refl

pub out_there : (chip : Entry) (e : End) → HasPins chip e → (bit : ℕ) → bit < end_nodes (Some e) → HasBit chip.chip.outputs (codes "out") bit
out_there chip e pins bit lt = record { width = end_nodes (Some e); there = output_width chip e (codes "out") pins ∙ out_found e; below = lt }
