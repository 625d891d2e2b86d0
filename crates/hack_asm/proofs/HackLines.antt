-- Lines of a `.hack` text one after another, and what they say of it.
use Rattle.std.proofs.Common.{◌≡◌, ℕ, ◌<◌, Bool, false, List, [], ◌∷◌, ◌++◌, Option, Some, None, Result, Ok, Err, refl, sym, ap, ◌∙◌, inl, inr, Vec, Global}
use Rattle.grammar.specs.declared.Fault.{Fault}
use Rattle.grammar.specs.declared.Fault.TheVariants as fault
use Rattle.grammar.specs.declared.ReadError.{ReadError}
use Rattle.grammar.specs.declared.ReadError.TheVariants as errors
use Rattle.std.specs.Prelude.{IfOk}
use Rattle.grammar.specs.Reading.{Halt, memory, fault as told, ParsesAll}
use Rattle.hack_asm.specs.HackTokens.{Word as Token}
use Rattle.grammar.specs.Rules.{Skip, Leaf, Pair, Left, Right, More}
use Rattle.grammar.proofs.Wholes.{one_tree, not_both, first_fault}
use Rattle.word16.specs.Words.{number_of}
use Rattle.word16.proofs.Bits.{written}
use Rattle.hack_asm.specs.declared.fault.AsmFault.{AsmFault}
use Rattle.hack_asm.specs.declared.hack_tokens.Kind.TheVariants.{Digit}
use Rattle.hack_asm.specs.Faults.{Wrong, wrong, wrong_of, asm_fault, IsErrorOf, Yields}
use Rattle.hack_asm.specs.HackTokens.{tokens_of, finish}
use Rattle.hack_asm.specs.HackText.{HackTree, hack, whole, word_tree, line_tree, lines_tree, text_tree, IsLine, AreLines, Spells, Refuses, within_limit, words_of, Holds, HoldsWrong, IsRefusal, HoldsOf}

pub AreLines-push : (ls : List (Option ℕ)) (l : Option ℕ) → AreLines ls → IsLine l → AreLines (ls ++ l ∷ [])
AreLines-push [] l h w = (w, tt)
AreLines-push (k ∷ ls) l h w = (h.0, AreLines-push ls l h.1 w)

-- the parts of a tree

abbrev into : HackTree → HackTree
into (Left t) = t
into (Right t) = t
into _ = Skip

abbrev one : HackTree → HackTree
one (Pair x y) = x
one (More x y) = x
one _ = Skip

abbrev two : HackTree → HackTree
two (Pair x y) = y
two (More x y) = y
two _ = Skip

abbrev is_set : HackTree → Bool
is_set (Leaf (Digit b)) = b
is_set _ = false

-- four digits, the last one first
abbrev four_from : HackTree → List Bool → List Bool
four_from t bits = is_set (two (two (two t))) ∷ is_set (one (two (two t))) ∷ is_set (one (two t)) ∷ is_set (one t) ∷ bits

abbrev bits_from : HackTree → List Bool
bits_from t = four_from (two (two (two t))) (four_from (one (two (two t))) (four_from (one (two t)) (four_from (one t) [])))

abbrev word_from : HackTree → ℕ
word_from t = number_of (bits_from t)

word_back : (w : ℕ) → w < 65536 → word_from (word_tree w) ≡ w
word_back w h = written w h

abbrev line_from : HackTree → Option ℕ
line_from (Left t) = None
line_from (Right t) = Some (word_from (one t))
line_from _ = None

line_back : (l : Option ℕ) → IsLine l → line_from (line_tree l) ≡ l
line_back None h = refl
line_back (Some w) h = ap (λ (v : ℕ). Some v) (word_back w h)

lines_are : (ls ms : List (Option ℕ)) → AreLines ls → AreLines ms → lines_tree ls ≡ lines_tree ms → ls ≡ ms
lines_are [] [] h k e = refl
lines_are [] (m ∷ ms) h k e = absurd cc
lines_are (l ∷ ls) [] h k e = absurd cc
lines_are (l ∷ ls) (m ∷ ms) h k e =
    let first = sym (line_back l h.0) ∙ ap (λ (t : HackTree). line_from (one t)) e ∙ line_back m k.0 in
    let rest = lines_are ls ms h.1 k.1 (ap two e) in
    λ i. first i ∷ rest i

spelled_once : (text : List ℕ) (ls ms : List (Option ℕ)) → Spells text ls → Spells text ms → ls ≡ ms
spelled_once text ls ms a b = lines_are ls ms a.0 b.0 (ap one (one_tree (hack (finish text)) whole tt (tokens_of text) (text_tree ls) (text_tree ms) a.1 b.1))

pub one_meaning : (text : List ℕ) (r q : Result (List ℕ) Wrong) → Holds text r → Holds text q → r ≡ q
one_meaning text r q (inl a) (inl b) = a.2 ∙ ap (λ (ls : List (Option ℕ)). within_limit (words_of ls)) (spelled_once text a.0 b.0 a.1 b.1) ∙ sym b.2
one_meaning text r q (inl a) (inr b) = absurd (not_both (hack (finish text)) whole tt (tokens_of text) (text_tree a.0) b.0 a.1.1 b.1)
one_meaning text r q (inr a) (inl b) = absurd (not_both (hack (finish text)) whole tt (tokens_of text) (text_tree b.0) a.0 b.1.1 a.1)
one_meaning text r q (inr a) (inr b) = a.2 ∙ ap (λ (f : Fault). Err (wrong f)) (first_fault (hack (finish text)) whole tt (tokens_of text) a.0 b.0 a.1 b.1) ∙ sym b.2

-- what was read is spelled
pub found : (text : List ℕ) (ts us : List Token) (r : Result (Vec (Option ℕ) Global) ReadError) → tokens_of text ≡ Ok us → ts ≡ us → ParsesAll (hack (finish text)) whole (λ (v : Vec (Option ℕ) Global). text_tree v.items) (λ _. tt) tt ts r → IfOk r (λ v. AreLines v.items) → IfOk r (λ v. Spells text v.items)
found text ts us (Ok v) e d h w = (w, (ts, tt, e ∙ ap Ok (sym d), h))
found text ts us (Err f) e d h w = tt

-- a fault of the readers is a refusal
refusal_by : (text : List ℕ) (f : Fault) → Refuses text f → IsRefusal text (asm_fault (errors.Fault f))
refusal_by text (fault.Grammar at) c = inr (fault.Grammar at, c, refl)
refusal_by text (fault.Range at v) c = inr (fault.Range at v, c, refl)

pub refusal : (text : List ℕ) (e : ReadError) → Halt (Refuses text) e → IsRefusal text (asm_fault e)
refusal text _ memory = tt
refusal text _ (told c) = refusal_by text _ c

-- what the lines of a text yield
told_wrong : (text : List ℕ) (ls : List (Option ℕ)) (o : Option Wrong) → Spells text ls → IsErrorOf o (within_limit (words_of ls)) → HoldsWrong text o
told_wrong text ls None s h = tt
told_wrong text ls (Some w) s h = inl (ls, s, sym h)

pub yielded : {X : Type 0} (view : X → List ℕ) (text : List ℕ) (ls : List (Option ℕ)) (r : Result X AsmFault) → Spells text ls → Yields view r (within_limit (words_of ls)) → HoldsOf view text r
yielded view text ls (Ok x) s h = inl (ls, s, sym h)
yielded view text ls (Err e) s h = told_wrong text ls (wrong_of e) s h

means_by : (text : List ℕ) (o : Option Wrong) (r : Result (List ℕ) Wrong) → HoldsWrong text o → Holds text r → IsErrorOf o r
means_by text None r h m = tt
means_by text (Some w) r h m = one_meaning text r (Err w) m h

-- what a text holds is what is answered, unless memory ran out
pub answered : {X : Type 0} (view : X → List ℕ) (text : List ℕ) (x : Result X AsmFault) (r : Result (List ℕ) Wrong) → HoldsOf view text x → Holds text r → Yields view x r
answered view text (Ok x) r h m = one_meaning text r (Ok (view x)) m h
answered view text (Err e) r h m = means_by text (wrong_of e) r h m
