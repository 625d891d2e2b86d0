-- What a connection drives, by cases.
use Rattle.std.proofs.Common.{◌≡◌, ℕ, Bool, false, cond, List, [], ◌∷◌, Option, Some, sym, ap, ◌∙◌}
use Rattle.hdl_tree.specs.declared.tree.Connection.{Connection}
use Rattle.hdl_tree.specs.declared.tree.Selection.{Selection}
use Rattle.hdl_tree.specs.declared.tree.Source.{Source}
use Rattle.hdl_tree.specs.declared.tree.Source.TheVariants as source
use Rattle.hdl_tree.specs.Chips.{count}
use Rattle.hdl_check.specs.Faults.{driver_by, driver_into, widths_of}
use Rattle.hdl_check.specs.declared.check.Port.{Port}

pub widths_put : (o : Option Port) (port : Port) (conn : Connection) (w : Selection) (name : List ℕ) (n : ℕ) → o ≡ Some port → port.input ≡ false → conn.source ≡ source.Net w → name ≡ w.name → n ≡ count conn.pin.subscript port.width →
    widths_of (driver_by o conn) ≡ (name, n) ∷ []
widths_put o port conn w name n e i s a b =
    ap (λ p. widths_of (driver_by p conn)) e
    ∙ ap (λ (c : Bool). widths_of (cond c [] (driver_into (count conn.pin.subscript port.width) conn.source))) i
    ∙ ap (λ (t : Source). widths_of (driver_into (count conn.pin.subscript port.width) t)) s
    ∙ sym (ap (λ m. (m, n) ∷ []) a ∙ ap (λ k. (w.name, k) ∷ []) b)
