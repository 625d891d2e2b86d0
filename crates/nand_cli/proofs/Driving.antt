-- The instruction machine after a drive.
use Rattle.std.proofs.Common.{◌≡◌, [], ◌∷◌, ◌++◌, ℕ, zero, suc, List, refl, sym, ◌∙◌, ap, append-nil, add-one}
use Rattle.std.specs.Prelude.{map}
use Rattle.std.specs.List.{range_with_len}
use Rattle.std.proofs.lemmas.List.Elements.{recursion_from_All}
use Rattle.std.specs.List.{AllByRecursion}
use Rattle.hack_isa.specs.Machine.{Machine, machine_at, run, start}
use Rattle.hack_machine.specs.Loaded.{LoadedMachine, RunsThroughCycles, machine_of}
use Rattle.hack_machine.specs.Turns.{HasTaken}
use Rattle.key_script.specs.Codes.{code_at}
use Rattle.key_script.specs.declared.lines.Line.{Line}
use Rattle.machine_io.specs.Driven.{EndsBy, IsDriven}
use Rattle.machine_io.specs.History.{Turn, moves_from}
use Rattle.machine_io.specs.declared.driving.End.{End}
use Rattle.machine_io.specs.declared.driving.End.TheVariants as ends
use Rattle.machine_io.specs.declared.machine.Moved.{Moved}
use Rattle.machine_io.specs.declared.machine.Moved.TheVariants as moved

-- the keys of n moves
keys_from : (code : ℕ → ℕ) (c n : ℕ) → map (λ t. t.key) (moves_from code c n) ≡ map code (range_with_len c n)
keys_from code c zero = refl
keys_from code c (suc n) = ap (λ ks. code c ∷ ks) (keys_from code (suc c) n ∙ ap (λ k. map code (range_with_len k n)) (sym (add-one c)))

-- a turn in which the machine acted
pub last_acted : (turns : List Turn) (t : Turn) → AllByRecursion (λ u. u.answer ≡ moved.Acted) (turns ++ t ∷ []) → t.answer ≡ moved.Acted
last_acted [] t h = h.0
last_acted (u ∷ turns) t h = last_acted turns t h.1

-- no drive of it ends by another answer
never_ends : (code : ℕ → ℕ) (old new : LoadedMachine) (c n c' : ℕ) (answer : Moved) → EndsBy code (HasTaken old) c n answer (HasTaken new) c' → HasTaken old [] → answer ≡ moved.Acted
never_ends code old new c n c' answer (m, below, goes) h =
    last_acted (moves_from code c m) _ (recursion_from_All (λ t. t.answer ≡ moved.Acted) _ (goes.leads [] h).acted)

-- where it stands after n moves
pub driven : (code : ℕ → ℕ) (image : List ℕ) (old new : LoadedMachine) (c n c' : ℕ) (end : End) → IsDriven code (HasTaken old) c n end (HasTaken new) c'
    → HasTaken old [] → c ≡ 0 → new.image ≡ image → RunsThroughCycles → machine_of new ≡ machine_at image code n
driven code image old new c n c' ends.Bound goes h first same law =
    (goes.leads [] h).ran.state
    ∙ ap (λ turns. run new.image (map (λ t. t.key) turns) start) (append-nil (moves_from code c n))
    ∙ ap (λ k. run new.image (map (λ t. t.key) (moves_from code k n)) start) first
    ∙ ap (λ keys. run new.image keys start) (keys_from code 0 n)
    ∙ ap (λ words. run words (map code (range_with_len 0 n)) start) same
    ∙ sym (law image code n)
driven code image old new c n c' (ends.Stray s) by h first same law = let bad = never_ends code old new c n c' (moved.Stray s) by h in absurd (let no : ⊥ = cc in no)
driven code image old new c n c' (ends.Full w) by h first same law = let bad = never_ends code old new c n c' (moved.Full w) by h in absurd (let no : ⊥ = cc in no)
driven code image old new c n c' ends.Done by h first same law = let bad = never_ends code old new c n c' moved.Done by h in absurd (let no : ⊥ = cc in no)

-- where it stands is given without keys where they are those of no lines
pub without_keys : (image program : List ℕ) (lines : List Line) (n : ℕ) (m : Machine) → m ≡ machine_at image (code_at lines) n → image ≡ program → lines ≡ [] → m ≡ machine_at program (λ _. 0) n
without_keys image program lines n m stands same none =
    stands ∙ ap (λ words. machine_at words (code_at lines) n) same ∙ ap (λ ls. machine_at program (code_at ls) n) none
