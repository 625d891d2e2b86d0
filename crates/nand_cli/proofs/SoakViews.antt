-- Two levels show the same where what is read of their machines is the same.
use Rattle.std.proofs.Common.{◌≡◌, ◌↔◌, ℕ, Bool, true, Some, sym, ap, ◌∙◌}
use Rattle.outer_world.specs.declared.point.Point.{Point}
use Rattle.simulation.specs.System.{IsData}
use Rattle.machine_io.specs.Reading.{Reading, ShowSame}
use Rattle.jack_core.specs.declared.program.Core.{Core}
use Rattle.image_map.specs.declared.map.Image.{Image}
use Rattle.nand_cli.specs.Commands.SoakLevels.{AreAlike, AreLevelsAlike, IsAtJack, IsAtVm, View}

pub alike_back : (v w : View) → AreAlike v w → AreAlike w v
alike_back v w h = record { words = λ a d. sym (h.words a d); point = sym h.point }

pub alike_on : (u v w : View) → AreAlike u v → AreAlike v w → AreAlike u w
alike_on u v w h k = record { words = λ a d. h.words a d ∙ k.words a d; point = h.point ∙ k.point }

-- this is what is read of a machine
pub record IsViewOf (v : View) (r : Reading Point) : Type 0 where
  pub words : (a : ℕ) → IsData a → v.word a ≡ r.word a
  pub point : v.point ≡ Some r.point

some_once : (p q : Point) → Some p ≡ Some q → p ≡ q
some_once p q e = cc

module _ (v w : View) (r s : Reading Point) (here : IsViewOf v r) (there : IsViewOf w s) where
  pub to_alike : ShowSame r s → AreAlike v w
  to_alike same = record {
    words = λ a d. here.words a d ∙ sym (same.words a d.0 d.1) ∙ sym (there.words a d);
    point = here.point ∙ ap Some (sym same.point) ∙ sym there.point;
  }

  pub from_alike : AreAlike v w → ShowSame r s
  from_alike h = record {
    words = λ a from_on below. sym (there.words a (from_on, below)) ∙ sym (h.words a (from_on, below)) ∙ here.words a (from_on, below);
    point = some_once s.point r.point (sym there.point ∙ sym h.point ∙ here.point);
  }

  pub told_alike : (b : Bool) → (b ≡ true) ↔ ShowSame r s → (b ≡ true) ↔ AreAlike v w
  told_alike b told = (λ e. to_alike (told.0 e), λ h. told.1 (from_alike h))

-- what is as the levels show is so for each view that is alike
module _ (v w : View) (same : AreAlike w v) where
  pub jack_too : (core : Core) (m : ℕ) → IsAtJack core m v → IsAtJack core m w
  jack_too core m h = record { state = h.state; after = h.after; alike = alike_on w v _ same h.alike }

  pub vm_too : (core : Core) (bound m : ℕ) → IsAtVm core bound m v → IsAtVm core bound m w
  vm_too core bound m h = record {
    linked = h.linked;
    is_code = h.is_code;
    moves = h.moves;
    few = h.few;
    made = h.made;
    behind = h.behind;
    alike = alike_on w v _ same h.alike;
  }

  pub levels_too : (core : Core) (image : Image) (n bound m : ℕ) → AreLevelsAlike core image n bound m v → AreLevelsAlike core image n bound m w
  levels_too core image n bound m h = record {
    at_hack = alike_on w v _ same h.at_hack;
    at_jack = jack_too core m h.at_jack;
    at_vm = vm_too core bound m h.at_vm;
  }
