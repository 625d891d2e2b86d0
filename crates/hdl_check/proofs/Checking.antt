-- One check after another.
use Rattle.std.proofs.Common.{◌≡◌, ℕ, List, [], ◌∷◌, ◌++◌, Bool, true, false, Option, Some, None, Result, Err, refl, ap, subst, ◌∙◌}
use Rattle.hdl_tree.specs.declared.tree.Connection.{Connection}
use Rattle.hdl_tree.specs.declared.tree.Selection.{Selection}
use Rattle.hdl_tree.specs.declared.tree.Source.{Source}
use Rattle.hdl_tree.specs.declared.tree.Source.TheVariants as source
use Rattle.hdl_tree.specs.Chips.{first, count}
use Rattle.name_table.specs.Names.{find_value, first_of}
use Rattle.hdl_check.specs.Tables.{bits_of}
use Rattle.hdl_check.specs.declared.fault.NamedFault.{NamedFault}
use Rattle.hdl_check.specs.Inner.Checked.{Checks}
use Rattle.hdl_check.specs.Faults.{Context, right_side_of, driver_by, driver_into, bits_driven, fed_by, width_fault, driven_fault, undriven_fault, wiring_fault, wiring_fault_by, connection_fault}
use Rattle.hdl_check.specs.declared.check.Port.{Port}
use Rattle.hdl_check.specs.declared.check.RightSide.{RightSide}
use Rattle.hdl_check.specs.declared.fault.ElabFault.{ElabFault}
use Rattle.hdl_check.specs.declared.fault.ElabFault.TheVariants as errors

pub in_first : (a b : Option NamedFault) (e : ElabFault) → Checks a (Err e) → Checks (first_of a b) (Err e)
in_first a b errors.Memory h = tt
in_first None b (errors.Named f) h = absurd cc
in_first (Some a) b (errors.Named f) h = h

pub in_second : (a b : Option NamedFault) (r : Result (Unit {0}) ElabFault) → a ≡ None → Checks b r → Checks (first_of a b) r
in_second None b r h k = k
in_second (Some a) b r h k = absurd cc

pub as_fault : (a b : Option NamedFault) (r : Result (Unit {0}) ElabFault) → a ≡ b → Checks a r → Checks b r
as_fault a b r e h = subst (λ (x : Option NamedFault). Checks x r) e h

append_nil : {A : Type 0} (xs : List A) → xs ++ [] ≡ xs
append_nil [] = refl
append_nil (x ∷ xs) = ap (λ ys. x ∷ ys) (append_nil xs)

pub fed_is : (port : Port) (conn : Connection) → port.input ≡ true → fed_by (Some port) conn ≡ bits_of conn.pin.name (first conn.pin.subscript) (count conn.pin.subscript port.width)
fed_is port conn h = ap (λ (b : Bool). Rattle.std.specs.Bool.if◌then◌else◌ b (bits_of conn.pin.name (first conn.pin.subscript) (count conn.pin.subscript port.width)) []) h

pub driver_is : (port : Port) (conn : Connection) (w : Selection) → port.input ≡ false → conn.source ≡ source.Net w → bits_driven (driver_by (Some port) conn) ≡ bits_of w.name (first w.subscript) (count conn.pin.subscript port.width)
driver_is port conn w h e =
    ap (λ (b : Bool). bits_driven (Rattle.std.specs.Bool.if◌then◌else◌ b [] (driver_into (count conn.pin.subscript port.width) conn.source))) h
    ∙ ap (λ (s : Source). bits_driven (driver_into (count conn.pin.subscript port.width) s)) e ∙ append_nil (bits_of w.name (first w.subscript) (count conn.pin.subscript port.width))

module _ (a : Context) (chip : List ℕ) (port : Port) (conn : Connection) (right : RightSide) (e : chip ≡ a.chip) (f : right ≡ right_side_of a conn.source) where
  wiring_is : first_of (width_fault chip port conn right) (first_of (driven_fault a port conn right) (undriven_fault chip port conn right)) ≡ wiring_fault a port conn
  wiring_is =
      ap (λ (x : List ℕ). first_of (width_fault x port conn right) (first_of (driven_fault a port conn right) (undriven_fault x port conn right))) e
      ∙ ap (λ (r : RightSide). first_of (width_fault a.chip port conn r) (first_of (driven_fault a port conn r) (undriven_fault a.chip port conn r))) f

  pub at_width : (x : ElabFault) → Checks (width_fault chip port conn right) (Err x) → Checks (wiring_fault a port conn) (Err x)
  at_width x h = as_fault _ _ (Err x) wiring_is (in_first (width_fault chip port conn right) _ x h)

  pub at_driven : (x : ElabFault) → width_fault chip port conn right ≡ None → Checks (driven_fault a port conn right) (Err x) → Checks (wiring_fault a port conn) (Err x)
  at_driven x w h = as_fault _ _ (Err x) wiring_is (in_second (width_fault chip port conn right) _ (Err x) w (in_first (driven_fault a port conn right) _ x h))

  pub at_undriven : (r : Result (Unit {0}) ElabFault) → width_fault chip port conn right ≡ None → driven_fault a port conn right ≡ None → Checks (undriven_fault chip port conn right) r → Checks (wiring_fault a port conn) r
  at_undriven r w d h = as_fault _ _ r wiring_is (in_second (width_fault chip port conn right) _ r w (in_second (driven_fault a port conn right) _ r d h))

pub at_wiring : (a : Context) (conn : Connection) (port : Port) (seen inner : List (List ℕ × Port)) (r : Result (Unit {0}) ElabFault) → Some port ≡ find_value conn.pin.name seen → find_value conn.pin.name seen ≡ find_value conn.pin.name inner → Checks (wiring_fault a port conn) r → Checks (connection_fault a inner conn) r
at_wiring a conn port seen inner r e f h = as_fault _ _ r (ap (λ (o : Option Port). wiring_fault_by a conn o) (e ∙ f)) h
