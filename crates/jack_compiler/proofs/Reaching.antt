-- What linking reaches is what the program can come to.
use Rattle.std.proofs.Common.{◌≡◌, ◌+◌, ◌<◌, ℕ, true, List, length, refl, sym, subst, ◌∙◌, arith}
use Rattle.std.specs.List.{Contains}
use Rattle.std.proofs.lemmas.Slice.Eq.{bytes_eq-Decides}
use Rattle.vm_link.specs.Sections.{Section, is_named, calls, stands_in}
use Rattle.vm_link.specs.Faults.{sys_init}
use Rattle.vm_link.specs.Reached as reached_by
use Rattle.vm_link.specs.Reached.{Reached, IsFunction}
use Rattle.jack_meaning.specs.Text.{Program}
use Rattle.jack_meaning.specs.Meaning.{subroutine_at}
use Rattle.jack_meaning.specs.Linked.{text_calls, IsLinked, init, called}
use Rattle.jack_compiler.specs.Fits.{scope_of}
use Rattle.jack_compiler.specs.Lines.{subroutine_lines}
use Rattle.jack_compiler.specs.Files.{name_at, around_class}
use Rattle.jack_compiler.specs.Resolved.{named_in, IsResolved}
use Rattle.jack_compiler.proofs.Members.{body_keeps}
use Rattle.jack_compiler.proofs.Calling.{calls_at, lines_call}
use Rattle.jack_compiler.proofs.Keeping.{position_item}
use Rattle.jack_compiler.proofs.Resolving.{all, names_apart, known_at, keeps_there}

module _ (program : Program) (names : List (List ℕ)) (resolved : IsResolved program names) where
  abbrev ss : List Section
  ss = all program names resolved

  -- the function of a name
  named_at : (name : List ℕ) (i : ℕ) → IsFunction ss name i → (1 + i < length program.subroutines) × (name ≡ name_at names (1 + i))
  named_at name i f =
      let p = position_item (is_named name) 0 ss i f in
      let at = p.1 in
      let same : p.0 ≡ i = omega arith in
      let k = known_at program names resolved p.0 p.2.0 p.2.1 in
      let is : name ≡ name_at names (1 + p.0) =
      (bytes_eq-Decides name (name_at names (1 + p.0))).0 (subst (λ (z : Section). is_named name z ≡ true) k.1 p.2.2) in
      (subst (λ (z : ℕ). 1 + z < length program.subroutines) same k.0, subst (λ (z : ℕ). name ≡ name_at names (1 + z)) same is)

  -- this is the name of a subroutine that a text calls
  abbrev NamesCalled : ℕ → List ℕ → Type 0
  NamesCalled g name = (h : ℕ) × (h < length program.subroutines) × (name ≡ name_at names h) × Contains (text_calls (subroutine_at program.subroutines g).body) h

  lines_called : (g : ℕ) → 0 < g → g < length program.subroutines → (name : List ℕ)
      → stands_in (calls (subroutine_lines (around_class program.classes names (subroutine_at program.subroutines g).class) (subroutine_at program.subroutines g))) name ≡ true → NamesCalled g name
  lines_called g a b name stands =
      let sub = subroutine_at program.subroutines g in
      let r = resolved.each g a b in
      calls_at (NamesCalled g) name (subroutine_lines (around_class program.classes names sub.class) sub)
      (lines_call (around_class program.classes names sub.class) (NamesCalled g) sub
      (λ h c. (h, (keeps_there program names resolved sub.class h (body_keeps program.subroutines (named_in program sub.class) (scope_of sub) sub.kind sub.body r.body h c)).1, refl, c))) stands

  pub reached_linked : (i : ℕ) → Reached ss i → IsLinked program (1 + i)
  reached_linked i (reached_by.start f) =
      let n = named_at sys_init i f in
      subst (IsLinked program) (names_apart program names resolved program.init (1 + i) resolved.init_there n.0 (resolved.init_name ∙ n.1)) init
  reached_linked i (reached_by.called {i = j} s name r e stands f) =
      let k = known_at program names resolved j s e in
      let c = lines_called (1 + j) (omega arith) k.0 name (subst (λ (z : Section). stands_in (calls z.lines) name ≡ true) k.1 stands) in
      let n = named_at name i f in
      subst (IsLinked program) (names_apart program names resolved c.0 (1 + i) c.1 n.0 (sym c.2 ∙ n.1)) (called (reached_linked j r) c.3)
