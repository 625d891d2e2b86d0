-- A program has one answer.
use Rattle.std.proofs.Common.{◌≡◌, ◌≢◌, ℕ, Bool, true, false, List, ◌∷◌, length, Option, Some, None, Result, Ok, Err, refl, sym, ap, ◌∙◌}
use Rattle.vm_tree.specs.declared.program.File.{File}
use Rattle.vm_link.specs.declared.linked.Linked.{Linked}
use Rattle.vm_link.specs.declared.fault.LinkFault.{LinkFault}
use Rattle.vm_link.specs.declared.fault.LinkFault.TheVariants.{Memory}
use Rattle.vm_link.specs.Sections.{Section, sections}
use Rattle.vm_link.specs.Faults.{text_fault, kept_fault}
use Rattle.vm_link.specs.Reached.{Reached, Keeps, none, kept, dropped, AreKept}
use Rattle.vm_link.specs.Resolved.{linked_of}
use Rattle.vm_link.specs.Links.{Links, memory, faulty, kept_faulty, whole}

keeps_same : (P : ℕ → Type 0) {i : ℕ} {ss ks ls : List Section} → Keeps P i ss ks → Keeps P i ss ls → ks ≡ ls
keeps_same P none none = refl
keeps_same P (kept {s = s} p r) (kept q t) = ap (λ z. s ∷ z) (keeps_same P r t)
keeps_same P (kept p r) (dropped n t) = absurd (n p)
keeps_same P (dropped n r) (kept q t) = absurd (n q)
keeps_same P (dropped n r) (dropped m t) = keeps_same P r t

kept_same : (bare : Bool) (ss ks ls : List Section) → AreKept bare ss ks → AreKept bare ss ls → ks ≡ ls
kept_same true ss ks ls k l = k ∙ sym l
kept_same false ss ks ls k l = keeps_same (Reached ss) k l

some_same : (o : Option LinkFault) {f g : LinkFault} → o ≡ Some f → o ≡ Some g → f ≡ g
some_same o e d = cc

some_none : (o : Option LinkFault) {f : LinkFault} → o ≡ Some f → o ≡ None → ⊥
some_none o e d = cc

told : (fault : List Section → Option LinkFault) {ks ls : List Section} {o : Option LinkFault} → ks ≡ ls → fault ks ≡ o → fault ls ≡ o
told fault e h = ap fault (sym e) ∙ h

pub linked_once : (bare : Bool) (files : List File) (r q : Result Linked LinkFault) → Links bare files r → Links bare files q → r ≢ Err Memory → q ≢ Err Memory → r ≡ q
linked_once bare files r q memory b n m = absurd (n refl)
linked_once bare files r q (faulty e) memory n m = absurd (m refl)
linked_once bare files r q (faulty e) (faulty d) n m = ap Err (some_same (text_fault bare (sections bare files)) e d)
linked_once bare files r q (faulty e) (kept_faulty ls d h g) n m = absurd (some_none (text_fault bare (sections bare files)) e d)
linked_once bare files r q (faulty e) (whole ls d h g w) n m = absurd (some_none (text_fault bare (sections bare files)) e d)
linked_once bare files r q (kept_faulty ks t k f) memory n m = absurd (m refl)
linked_once bare files r q (kept_faulty ks t k f) (faulty d) n m = absurd (some_none (text_fault bare (sections bare files)) d t)
linked_once bare files r q (kept_faulty ks t k f) (kept_faulty ls d h g) n m =
    ap Err (some_same (kept_fault (length files) (sections bare files) ls) (told (kept_fault (length files) (sections bare files)) (kept_same bare _ ks ls k h) f) g)
linked_once bare files r q (kept_faulty ks t k f) (whole ls d h g w) n m =
    absurd (some_none (kept_fault (length files) (sections bare files) ls) (told (kept_fault (length files) (sections bare files)) (kept_same bare _ ks ls k h) f) g)
linked_once bare files r q (whole ks t k f e) memory n m = absurd (m refl)
linked_once bare files r q (whole ks t k f e) (faulty d) n m = absurd (some_none (text_fault bare (sections bare files)) d t)
linked_once bare files r q (whole ks t k f e) (kept_faulty ls d h g) n m =
    absurd (some_none (kept_fault (length files) (sections bare files) ls) g (told (kept_fault (length files) (sections bare files)) (kept_same bare _ ks ls k h) f))
linked_once bare files r q (whole ks t k f e) (whole ls u h g d) n m = ap Ok (e ∙ (ap (linked_of bare files) (kept_same bare _ ks ls k h) ∙ sym d))
