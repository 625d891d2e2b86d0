-- A reader that finds what is spelled and gives the fault that stands finds all that is spelled, and each fault.
use Rattle.std.proofs.Common.{◌≡◌, Result, Ok, Err, ap}
use Rattle.std.specs.Prelude.{IfOk, IfErr}
use Rattle.grammar.specs.declared.Fault.{Fault}
use Rattle.grammar.specs.declared.ReadError.{ReadError}
use Rattle.grammar.specs.declared.ReadError.TheVariants as errors
use Rattle.grammar.specs.Reading.{Halt, fault, Gives}

module _ {X Y : Type 0} (view : X → Y) (Spells : Y → Type 0) (Refuses : Fault → Type 0) (unique : (x y : Y) → Spells x → Spells y → x ≡ y) (excludes : (x : Y) (f : Fault) → Spells x → Refuses f → ⊥) (one_fault : (f g : Fault) → Refuses f → Refuses g → f ≡ g) where
  only_halt : (e : ReadError) (y : Y) → Halt Refuses e → Spells y → Gives view (Err e) (Ok y)
  only_halt errors.Memory y h s = tt
  only_halt (errors.Fault f) y (fault c) s = absurd (excludes y f s c)

  pub only : (r : Result X ReadError) (y : Y) → IfOk r (λ x. Spells (view x)) → IfErr r (Halt Refuses) → Spells y → Gives view r (Ok y)
  only (Ok x) y a b s = ap Ok (unique y (view x) s a)
  only (Err e) y a b s = only_halt e y b s

  exact_halt : (e : ReadError) (f : Fault) → Halt Refuses e → Refuses f → Gives view (Err e) (Err f)
  exact_halt errors.Memory f h c = tt
  exact_halt (errors.Fault g) f (fault d) c = ap Err (one_fault f g c d)

  pub exact : (r : Result X ReadError) (f : Fault) → IfOk r (λ x. Spells (view x)) → IfErr r (Halt Refuses) → Refuses f → Gives view r (Err f)
  exact (Ok x) f a b c = absurd (excludes (view x) f a c)
  exact (Err e) f a b c = exact_halt e f b c
