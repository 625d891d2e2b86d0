-- A text means one thing.
use Rattle.std.proofs.Common.{◌≡◌, ℕ, List, Option, Some, None, Result, Ok, Err, refl, sym, ap, ◌∙◌, inl, inr}
use Rattle.grammar.specs.declared.Fault.{Fault}
use Rattle.grammar.specs.declared.Fault.TheVariants as fault
use Rattle.grammar.specs.declared.ReadError.{ReadError}
use Rattle.grammar.specs.declared.ReadError.TheVariants as errors
use Rattle.grammar.specs.Reading.{Halt, memory, fault as told}
use Rattle.grammar.proofs.Wholes.{not_both, first_fault}
use Rattle.hack_asm.specs.declared.fault.AsmFault.{AsmFault}
use Rattle.hack_asm.specs.Tokens.{tokens_of, finish}
use Rattle.hack_asm.specs.Grammar.{assembly, whole}
use Rattle.hack_asm.specs.Trees.{Line, Spells, Refuses, text_tree}
use Rattle.hack_asm.specs.Faults.{Wrong, wrong, wrong_of, asm_fault, IsErrorOf, Yields}
use Rattle.hack_asm.specs.Program.{program}
use Rattle.hack_asm.specs.Meaning.{Means, MeansWrong, IsRefusal, MeansOf}
use Rattle.hack_asm.proofs.Exactness.{spelled_once}

pub one_meaning : (text : List ℕ) (r q : Result (List ℕ) Wrong) → Means text r → Means text q → r ≡ q
one_meaning text r q (inl a) (inl b) = a.2 ∙ ap program (spelled_once text a.0 b.0 a.1 b.1) ∙ sym b.2
one_meaning text r q (inl a) (inr b) = absurd (not_both (assembly (finish text)) whole tt (tokens_of text) (text_tree a.0) b.0 a.1 b.1)
one_meaning text r q (inr a) (inl b) = absurd (not_both (assembly (finish text)) whole tt (tokens_of text) (text_tree b.0) a.0 b.1 a.1)
one_meaning text r q (inr a) (inr b) = a.2 ∙ ap (λ (f : Fault). Err (wrong f)) (first_fault (assembly (finish text)) whole tt (tokens_of text) a.0 b.0 a.1 b.1) ∙ sym b.2

-- a fault of the readers is a refusal
refusal_by : (text : List ℕ) (f : Fault) → Refuses text f → IsRefusal text (asm_fault (errors.Fault f))
refusal_by text (fault.Grammar at) c = inr (fault.Grammar at, c, refl)
refusal_by text (fault.Range at v) c = inr (fault.Range at v, c, refl)

pub refusal : (text : List ℕ) (e : ReadError) → Halt (Refuses text) e → IsRefusal text (asm_fault e)
refusal text _ memory = tt
refusal text _ (told c) = refusal_by text _ c

-- what the lines of a text yield
pub yields_ok : {X : Type 0} (view : X → List ℕ) (text : List ℕ) (ls : List Line) (x : X) → Spells text ls → program ls ≡ Ok (view x) → Means text (Ok (view x))
yields_ok view text ls x s e = inl (ls, s, sym e)

told_wrong : (text : List ℕ) (ls : List Line) (o : Option Wrong) → Spells text ls → IsErrorOf o (program ls) → MeansWrong text o
told_wrong text ls None s h = tt
told_wrong text ls (Some w) s h = inl (ls, s, sym h)

pub yields_err : (text : List ℕ) (ls : List Line) (e : AsmFault) → Spells text ls → IsErrorOf (wrong_of e) (program ls) → IsRefusal text e
yields_err text ls e s h = told_wrong text ls (wrong_of e) s h

means_by : (text : List ℕ) (o : Option Wrong) (r : Result (List ℕ) Wrong) → MeansWrong text o → Means text r → IsErrorOf o r
means_by text None r h m = tt
means_by text (Some w) r h m = one_meaning text r (Err w) m h

-- what a text means is what is answered, unless memory ran out
pub answered : {X : Type 0} (view : X → List ℕ) (text : List ℕ) (x : Result X AsmFault) (r : Result (List ℕ) Wrong) → MeansOf view text x → Means text r → Yields view x r
answered view text (Ok x) r h m = one_meaning text r (Ok (view x)) m h
answered view text (Err e) r h m = means_by text (wrong_of e) r h m
