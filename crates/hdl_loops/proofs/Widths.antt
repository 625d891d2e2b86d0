-- The pins of a chip that a table finds.
use Rattle.std.proofs.Common.{◌≡◌, ℕ, Bool, true, false, cond, List, [], ◌∷◌, ◌++◌, Option, Some, None, refl, sym, ap, ◌∙◌}
use Rattle.std.specs.Prelude.{is_some}
use Rattle.std.specs.Str.{bytes_eq}
use Rattle.hdl_tree.specs.declared.tree.Pin.{Pin}
use Rattle.hdl_tree.specs.declared.library.Entry.{Entry}
use Rattle.hdl_tree.specs.Chips.{pin_width}
use Rattle.hdl_tree.specs.Behaviour.{width_in, width_of}
use Rattle.name_table.specs.Names.{find_value, first_of}
use Rattle.hdl_check.specs.Faults.{ports_of}
use Rattle.hdl_plans.specs.Plans.{is_input}
use Rattle.hdl_plans.proofs.Sound.{as_port, found_ports}

cond_first : (b : Bool) (w : ℕ) (o p : Option ℕ) → cond b (Some w) (first_of o p) ≡ first_of (cond b (Some w) o) p
cond_first true w o p = refl
cond_first false w o p = refl

width_in-append : (ps qs : List Pin) (name : List ℕ) → width_in (ps ++ qs) name ≡ first_of (width_in ps name) (width_in qs name)
width_in-append [] qs name = refl
width_in-append (p ∷ ps) qs name = ap (λ o. cond (bytes_eq name p.name) (Some (pin_width p)) o) (width_in-append ps qs name) ∙ cond_first (bytes_eq name p.name) (pin_width p) (width_in ps name) (width_in qs name)

-- no pin has the name
record IsNoPin (entry : Entry) (name : List ℕ) : Type 0 where
  pub input : width_in entry.chip.inputs name ≡ None
  pub output : width_in entry.chip.outputs name ≡ None

no_pin_by : (entry : Entry) (name : List ℕ) (a b : Option ℕ) → width_in entry.chip.inputs name ≡ a → width_in entry.chip.outputs name ≡ b → first_of (as_port true a) (as_port false b) ≡ None → IsNoPin entry name
no_pin_by entry name None None e f h = record { input = e; output = f }
no_pin_by entry name None (Some w) e f h = absurd cc
no_pin_by entry name (Some w) b e f h = absurd cc

no_pin : (entry : Entry) (name : List ℕ) → find_value name (ports_of entry.chip) ≡ None → IsNoPin entry name
no_pin entry name h = no_pin_by entry name (width_in entry.chip.inputs name) (width_in entry.chip.outputs name) refl refl (sym (found_ports entry.chip name) ∙ h)

-- a name that is no pin's is no input
pub no_pin_way : (entry : Entry) (name : List ℕ) → find_value name (ports_of entry.chip) ≡ None → false ≡ is_input entry name
no_pin_way entry name h = sym (ap is_some (no_pin entry name h).input)

-- and has no bits
pub no_pin_wide : (entry : Entry) (name : List ℕ) → find_value name (ports_of entry.chip) ≡ None → 0 ≡ width_of entry name
no_pin_wide entry name h =
    let none = no_pin entry name h in
    let both : width_in (entry.chip.inputs ++ entry.chip.outputs) name ≡ None =
    width_in-append entry.chip.inputs entry.chip.outputs name ∙ ap (λ o. first_of o (width_in entry.chip.outputs name)) none.input ∙ none.output in
    sym (ap (λ (o : Option ℕ). elim o as (λ _. ℕ) [ None ↦ 0 | Some w ↦ w ]) both)
