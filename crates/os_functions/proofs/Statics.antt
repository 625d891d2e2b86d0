-- The statics of which the laws speak, by computation from the shipped texts.
use Rattle.std.proofs.Common.{◌≡◌, ℕ, ◌+◌, ◌<◌, List, take, Some, codes, sym, ap, ◌∙◌, arith}
use Rattle.jack_core.specs.declared.program.Core.{Core}
use Rattle.jack_tree.specs.Syntax.{ClassFile}
use Rattle.jack_os.proofs.SystemTexts.{system_classes}
use Rattle.os_laws.specs.Names.{IsShipped, statics_in}
use Rattle.os_laws.proofs.Basics.{some_is}
use Rattle.os_functions.specs.Calls.{static_from, IsStatic, HasStatics, StaticLaws}
use Rattle.os_functions.proofs.Named.{shipped, statics_joined, first_static}

module _ (core : Core) (p : IsShipped core) where
  -- how many statics stand before those of Memory, of Output and of Screen
  before_memory : first_static core p 3 ≡ statics_in p.own + 0 + 0 + 0
  before_memory = statics_joined p.own (take 3 system_classes) ∙ (let e : statics_in p.own + 0 ≡ statics_in p.own + 0 + 0 + 0 = omega arith in e)

  before_output : first_static core p 4 ≡ statics_in p.own + 0 + 0 + 0 + 1
  before_output = statics_joined p.own (take 4 system_classes) ∙ (let e : statics_in p.own + 1 ≡ statics_in p.own + 0 + 0 + 0 + 1 = omega arith in e)

  before_screen : first_static core p 5 ≡ statics_in p.own + 0 + 0 + 0 + 1 + 3
  before_screen = statics_joined p.own (take 5 system_classes) ∙ (let e : statics_in p.own + 4 ≡ statics_in p.own + 0 + 0 + 0 + 1 + 3 = omega arith in e)

  is_free : IsStatic p (codes "Memory") (codes "free") (first_static core p 3)
  is_free = ap (λ (os : List ClassFile). static_from (statics_in p.own) os (codes "Memory") (codes "free")) (shipped core p) ∙ ap (λ (k : ℕ). Some k) (sym before_memory)

  is_font : IsStatic p (codes "Output") (codes "font") (first_static core p 4)
  is_font = ap (λ (os : List ClassFile). static_from (statics_in p.own) os (codes "Output") (codes "font")) (shipped core p) ∙ ap (λ (k : ℕ). Some k) (sym before_output)

  is_place : IsStatic p (codes "Output") (codes "place") (first_static core p 4 + 1)
  is_place = ap (λ (os : List ClassFile). static_from (statics_in p.own) os (codes "Output") (codes "place")) (shipped core p) ∙ ap (λ (k : ℕ). Some (k + 1)) (sym before_output)

  is_right : IsStatic p (codes "Output") (codes "right") (first_static core p 4 + 1 + 1)
  is_right = ap (λ (os : List ClassFile). static_from (statics_in p.own) os (codes "Output") (codes "right")) (shipped core p) ∙ ap (λ (k : ℕ). Some (k + 1 + 1)) (sym before_output)

  is_black : IsStatic p (codes "Screen") (codes "black") (first_static core p 5)
  is_black = ap (λ (os : List ClassFile). static_from (statics_in p.own) os (codes "Screen") (codes "black")) (shipped core p) ∙ ap (λ (k : ℕ). Some k) (sym before_screen)

  abbrev statics_there : HasStatics p
  statics_there = record {
    free = first_static core p 3;
    font = first_static core p 4;
    place = first_static core p 4 + 1;
    right = first_static core p 4 + 1 + 1;
    black = first_static core p 5;
    is_free = is_free;
    is_font = is_font;
    is_place = is_place;
    is_right = is_right;
    is_black = is_black;
  }

module _ {core : Core} {p : IsShipped core} (h : HasStatics p) where
  -- no other numbers are theirs
  pub same_free : first_static core p 3 ≡ h.free
  same_free = some_is _ _ (sym (is_free core p) ∙ h.is_free)

  pub same_font : first_static core p 4 ≡ h.font
  same_font = some_is _ _ (sym (is_font core p) ∙ h.is_font)

  pub same_place : first_static core p 4 + 1 ≡ h.place
  same_place = some_is _ _ (sym (is_place core p) ∙ h.is_place)

  pub same_right : first_static core p 4 + 1 + 1 ≡ h.right
  same_right = some_is _ _ (sym (is_right core p) ∙ h.is_right)

  pub same_black : first_static core p 5 ≡ h.black
  same_black = some_is _ _ (sym (is_black core p) ∙ h.is_black)

  pub apart : (h.free < h.font) × (h.font < h.place) × (h.place < h.right) × (h.right < h.black)
  apart =
      let m = before_memory core p in
      let o = before_output core p in
      let s = before_screen core p in (
        omega (arith, m, o, same_free, same_font),
        omega (arith, same_font, same_place),
        omega (arith, same_place, same_right),
        omega (arith, o, s, same_right, same_black),
      )

pub law : StaticLaws
law = record { there = λ p. statics_there _ p; apart = λ p h. apart h }
