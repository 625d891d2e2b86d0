-- The pin that a bit is of.
use Rattle.std.proofs.Common.{◌≡◌, ℕ, suc, Bool, true, false, cond, List, [], ◌∷◌, Some, refl, sym}
use Rattle.std.specs.Prelude.{slice_get}
use Rattle.std.specs.Str.{bytes_eq}
use Rattle.std.specs.Cmp.Lexicographic.{bytes_decides}
use Rattle.hdl_tree.specs.declared.tree.Pin.{Pin}
use Rattle.hdl_tree.specs.Chips.{pin_width}
use Rattle.hdl_tree.specs.Behaviour.{width_in}
use Rattle.hdl_plans.specs.Ways.{HasBit}

pub record PinOf (pins : List Pin) (name : List ℕ) (width : ℕ) : Type 0 where
  pub place : ℕ
  pub pin : Pin
  pub there : slice_get pins place ≡ Some pin
  pub named : pin.name ≡ name
  pub wide : width ≡ pin_width pin

pin_by : (p : Pin) (ps : List Pin) (name : List ℕ) (w : ℕ) (b : Bool) → bytes_eq name p.name ≡ b → cond b (Some (pin_width p)) (width_in ps name) ≡ Some w → (width_in ps name ≡ Some w → PinOf ps name w) → PinOf (p ∷ ps) name w
pin_by p ps name w true e h go = record { place = 0; pin = p; there = refl; named = sym ((bytes_decides name p.name).0 e); wide = cc }
pin_by p ps name w false e h go = let r = go h in record { place = suc r.place; pin = r.pin; there = r.there; named = r.named; wide = r.wide }

pub pin_of : (pins : List Pin) (name : List ℕ) (w : ℕ) → width_in pins name ≡ Some w → PinOf pins name w
pin_of [] name w h = absurd cc
pin_of (p ∷ ps) name w h = pin_by p ps name w (bytes_eq name p.name) refl h (pin_of ps name w)

pub pin_of_bit : (pins : List Pin) (name : List ℕ) (bit : ℕ) → (h : HasBit pins name bit) → PinOf pins name h.width
pin_of_bit pins name bit h = pin_of pins name h.width h.there
