-- Faults of the grammar as faults of a key script.
use Rattle.std.proofs.Common.{◌≡◌, ℕ, List, Result, Ok, Err, refl, ap, ◌∙◌}
use Rattle.grammar.specs.declared.Fault.{Fault}
use Rattle.grammar.specs.declared.ReadError.{ReadError}
use Rattle.grammar.specs.declared.ReadError.TheVariants as reads
use Rattle.grammar.specs.Reading.{Halt, memory, fault}
use Rattle.grammar.specs.Reading as reading
use Rattle.key_script.specs.declared.fault.KeyFault.{KeyFault}
use Rattle.key_script.specs.Faults.{key_fault, key_error, Because}
use Rattle.key_script.specs.Grammar.{Stopped, Refuses}

pub refused : (text : List ℕ) (e : ReadError) → Halt (Stopped text) e → Because (Refuses text) (key_error e)
refused text _ memory = tt
refused text _ (fault {f = f} h) = (f, h, refl)

-- what is read has no fault
pub not_read : {X : Type 0} (x : X) (e : ReadError) → reading.Because (λ f. Ok x ≡ Err f) e → Because (λ f. Ok x ≡ Err f) (key_error e)
not_read x reads.Memory h = tt
not_read x (reads.Fault f) h = absurd (let no : ⊥ = cc in no)

-- a first fault is the one that is reported
pub told : (X : Type 0) (f : KeyFault) (g : Fault) (e : ReadError) → f ≡ key_fault g → reading.Because (λ h. ◌≡◌ {A = Result X Fault} (Err g) (Err h)) e → Because (λ h. ◌≡◌ {A = Result X KeyFault} (Err f) (Err h)) (key_error e)
told X f g reads.Memory same h = tt
told X f g (reads.Fault k) same h = ap Err (same ∙ ap key_fault (let e : g ≡ k = cc in e))
