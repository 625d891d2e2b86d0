-- What a text stands for in the instruction machine.
use Rattle.std.proofs.Common.{◌≡◌, ◌<◌, ◌≤◌, ℕ, Bool, min, List, length, refl, sym, ap, subst, ◌∙◌, arith}
use Rattle.std.specs.Prelude.{Option, Some, None, MatchOption, codes}
use Rattle.word16.specs.Memory.{keyboard}
use Rattle.hack_isa.specs.Machine.{Machine}
use Rattle.script_device.specs.Variables.{HasNumber, number_after}
use Rattle.script_device.specs.declared.machine.Register as code
use Rattle.script_device.specs.declared.machine.Register.TheVariants as found
use Rattle.script_device.specs.Machines.{Register, RunningMachine, Denotes}
use Rattle.script_device.specs.Machines.Register.{A, D, Pc, Word, Key}
use Rattle.script_device.specs.Inner.Brackets.{HasBrackets}
use Rattle.script_device.specs.Inner.Registers.{IsStored, StandsAt}
use Rattle.script_device.specs.Devices as devices
use Rattle.script_device.specs.Devices.{Source}
use Rattle.script_device.specs.Devices.Device.{Machine as Held}
use Rattle.script_device.specs.Devices.Source.{TheTime, OfChip, OfMachine}
use Rattle.script_device.specs.Running.{register_of}
use Rattle.script_device.proofs.Bracketed.{once}
use Rattle.script_device.proofs.Found.{number_has}

abbrev pub running : List ℕ → Machine → ℕ → ℕ → Bool → RunningMachine
running image state key cycle ticked = record { image = image; state = state; key = key; cycle = cycle; ticked = ticked }

-- what stands in the brackets of `RAM[k]`
pub record WordOf (name inside : List ℕ) (k : ℕ) : Type 0 where
  pub ram : name ≡ codes "RAM"
  pub some : 0 < length inside
  pub number : k ≡ number_after 0 inside

pub word_of : (text name inside : List ℕ) (k : ℕ) → HasBrackets text name inside → HasNumber text (codes "RAM") k → WordOf name inside k
word_of text name inside k has n =
    let o = once text name inside (codes "RAM") n.written has (number_has text (codes "RAM") k n) in
    record { ram = o.0; some = subst (λ i. 0 < length i) (sym o.1) n.some; number = n.number ∙ ap (number_after 0) (sym o.1) }

pub is_word : (text name inside : List ℕ) → HasBrackets text name inside → name ≡ codes "RAM" → 0 < length inside → HasNumber text (codes "RAM") (number_after 0 inside)
is_word text name inside has e some = subst (λ n. HasNumber text n (number_after 0 inside)) e (record { written = inside; some = some; digits = has.digits; is = has.is; number = refl })

-- no address past the keyboard's has a register
low : (k : ℕ) (r : Register) → StandsAt k r → k ≤ keyboard
low k A at = absurd at
low k D at = absurd at
low k Pc at = absurd at
low k (Word j) at = omega (arith, at.0, at.1)
low k Key at = omega (arith, at)

abbrev pub NoWord : List ℕ → Type 0
NoWord text = (k : ℕ) → HasNumber text (codes "RAM") k → keyboard < k

abbrev pub IsWordOf : List ℕ → code.Register → Type 0
IsWordOf text r = (k : ℕ) × HasNumber text (codes "RAM") k × StandsAt k (register_of r)

-- what stands at the address that is given in brackets
pub word_found : (text name inside : List ℕ) (n : ℕ) → HasBrackets text name inside → name ≡ codes "RAM" → 0 < length inside → n ≡ min (number_after 0 inside) 4294967296 → (r : Option code.Register) → MatchOption r (keyboard < n) (λ x. StandsAt n (register_of x)) → MatchOption r (NoWord text) (IsWordOf text)
word_found text name inside n has e some capped None past = λ k number. let w = word_of text name inside k has number in omega (arith, w.number, capped, past)
word_found text name inside n has e some capped (Some x) at =
    let below : n ≤ keyboard = low n (register_of x) at in
    let exact : number_after 0 inside ≡ n = omega (arith, capped, below) in
    (n, subst (HasNumber text (codes "RAM")) exact (is_word text name inside has e some), at)

-- a word is found after the names of the registers
pub register_found : (text : List ℕ) → (text ≡ codes "A" → ⊥) → (text ≡ codes "D" → ⊥) → (text ≡ codes "PC" → ⊥) → (r : Option code.Register) → MatchOption r (NoWord text) (IsWordOf text) → MatchOption r ((x : Register) → Denotes text x → ⊥) (λ x. Denotes text (register_of x))
register_found text a d pc None none = no where
  no : (x : Register) → Denotes text x → ⊥
  no A m = a m
  no D m = d m
  no Pc m = pc m
  no (Word k) m = omega (arith, none k m.0, m.1)
  no Key m = omega (arith, none keyboard m)
register_found text a d pc (Some found.A) word = absurd word.2
register_found text a d pc (Some found.D) word = absurd word.2
register_found text a d pc (Some found.Pc) word = absurd word.2
register_found text a d pc (Some (found.Word k)) word = (subst (HasNumber text (codes "RAM")) (sym word.2.0) word.1, word.2.1)
register_found text a d pc (Some found.Key) word = subst (HasNumber text (codes "RAM")) word.2 word.1

-- what is found can be set and seen
pub stored : (text : List ℕ) (r : code.Register) → Denotes text (register_of r) → IsStored r
stored text found.A m = tt
stored text found.D m = tt
stored text found.Pc m = tt
stored text (found.Word k) m = m.1
stored text found.Key m = tt

-- a machine by its image and its state
pub same_machine : {i j : List ℕ} {s t : Machine} → i ≡ j → s ≡ t → (key cycle : ℕ) (ticked : Bool) → running i s key cycle ticked ≡ running j t key cycle ticked
same_machine {j = j} {s = s} e f key cycle ticked = ap (λ i. running i s key cycle ticked) e ∙ ap (λ s. running j s key cycle ticked) f

-- where a text is no register, and not the time, it means nothing
pub no_register : (machine : RunningMachine) (text : List ℕ) → (text ≡ codes "time" → ⊥) → ((x : Register) → Denotes text x → ⊥) → (source : Source) → devices.Denotes (Held machine) text source → ⊥
no_register machine text time none TheTime m = time m
no_register machine text time none (OfChip source) m = m
no_register machine text time none (OfMachine register) m = none register m
