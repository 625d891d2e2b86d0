-- Ends that have their pins, as plans want them.
use Rattle.std.proofs.Common.{◌≡◌, ℕ, Bool, true, false, cond, List, [], ◌∷◌, Option, Some, None, is_some, codes, refl, sym, ap, ◌∙◌}
use Rattle.std.specs.Str.{bytes_eq}
use Rattle.std.specs.Cmp.Lexicographic.{bytes_decides}
use Rattle.hdl_tree.specs.declared.tree.Pin.{Pin}
use Rattle.hdl_tree.specs.declared.library.Entry.{Entry}
use Rattle.hdl_tree.specs.declared.ends.End.{End}
use Rattle.hdl_tree.specs.declared.ends.End.TheVariants as ends
use Rattle.hdl_tree.specs.Chips.{Chips, pin_width}
use Rattle.hdl_tree.specs.Behaviour.{width_in}
use Rattle.name_table.specs.Names.{find_value}
use Rattle.hdl_plans.specs.Plans.{is_input, EndFits}
use Rattle.hdl_plans.specs.Planned.{HasEnds}
use Rattle.hdl_flatten.specs.Ends.{named_pins, end_inputs, end_outputs, HasPins, EndsHavePins}

width_named : (pins : List Pin) (name : List ℕ) → width_in pins name ≡ find_value name (named_pins pins)
width_named [] name = refl
width_named (p ∷ ps) name = ap (λ (o : Option ℕ). cond (bytes_eq name p.name) (Some (pin_width p)) o) (width_named ps name)

pub input_is : (chip : Entry) (e : End) (name : List ℕ) → HasPins chip e → is_input chip name ≡ is_some (find_value name (end_inputs e))
input_is chip e name pins = ap is_some (width_named chip.chip.inputs name ∙ ap (find_value name) pins.inputs)

fits : (chip : Entry) (e : End) → HasPins chip e → EndFits chip (Some e)
fits chip ends.Nand pins = (input_is chip ends.Nand (codes "a") pins, input_is chip ends.Nand (codes "b") pins, input_is chip ends.Nand (codes "out") pins)
fits chip ends.Dff pins = (input_is chip ends.Dff (codes "in") pins, input_is chip ends.Dff (codes "out") pins)
fits chip ends.Keyboard pins = input_is chip ends.Keyboard (codes "out") pins
fits chip ends.Rom pins = (input_is chip ends.Rom (codes "address") pins, input_is chip ends.Rom (codes "out") pins)
fits chip (ends.Block bits) pins = (input_is chip (ends.Block bits) (codes "in") pins, input_is chip (ends.Block bits) (codes "load") pins, input_is chip (ends.Block bits) (codes "address") pins, input_is chip (ends.Block bits) (codes "out") pins)

only_by : (name : List ℕ) (w width : ℕ) (b : Bool) → bytes_eq name (codes "out") ≡ b → cond b (Some w) None ≡ Some width → name ≡ codes "out"
only_by name w width true e h = (bytes_decides name (codes "out")).0 e
only_by name w width false e h = absurd cc

only_out : (e : End) (name : List ℕ) (width : ℕ) → find_value name (end_outputs e) ≡ Some width → name ≡ codes "out"
only_out ends.Nand name width h = only_by name 1 width (bytes_eq name (codes "out")) refl h
only_out ends.Dff name width h = only_by name 1 width (bytes_eq name (codes "out")) refl h
only_out ends.Keyboard name width h = only_by name 16 width (bytes_eq name (codes "out")) refl h
only_out ends.Rom name width h = only_by name 16 width (bytes_eq name (codes "out")) refl h
only_out (ends.Block bits) name width h = only_by name 16 width (bytes_eq name (codes "out")) refl h

pub out_is_none : (e : End) → is_some (find_value (codes "out") (end_inputs e)) ≡ false
out_is_none ends.Nand = refl
out_is_none ends.Dff = refl
out_is_none ends.Keyboard = refl
out_is_none ends.Rom = refl
out_is_none (ends.Block bits) = refl

apart : (chip : Entry) (e : End) → HasPins chip e → (name : List ℕ) (width : ℕ) → width_in chip.chip.outputs name ≡ Some width → is_input chip name ≡ false
apart chip e pins name width h =
    let out : name ≡ codes "out" = only_out e name width (sym (width_named chip.chip.outputs name ∙ ap (find_value name) pins.outputs) ∙ h) in
    input_is chip e name pins ∙ ap (λ n. is_some (find_value n (end_inputs e))) out ∙ out_is_none e

pub has_ends : (chips : Chips) → EndsHavePins chips → HasEnds chips
has_ends chips h = record {
  fits = λ name chip e f is. fits chip e (h name chip e f is);
  apart = λ name chip e f is. apart chip e (h name chip e f is);
}
