-- The codes of a key script that a text spells are words.
use Rattle.std.proofs.Common.{◌≡◌, ◌<◌, ℕ, zero, suc, Bool, true, false, cond, List, [], ◌∷◌, Ok, Err, Option, Some, None, refl, subst, arith, sym, ap}
use Rattle.std.specs.Prelude.{filter, nat_lt, slice_get, ◌^◌}
use Rattle.std.proofs.lemmas.Bool.{ltb-false}
use Rattle.scan_text.specs.declared.Place.{Place}
use Rattle.grammar.specs.declared.Fault.{Fault}
use Rattle.grammar.specs.Rules.{word, seq, repeat, Leaf, Pair, More, Reads, marked, worded, at_end, both, left, right, passed, taken, ended, again, named, inside}
use Rattle.key_script.specs.declared.lines.Line.{Line}
use Rattle.key_script.specs.declared.token.Kind.{Kind}
use Rattle.key_script.specs.Tokens.{Word as Token}
use Rattle.key_script.specs.Codes.{code_at, code_of, has_come}
use Rattle.key_script.specs.Grammar.{KeyTree, Part, Spells, check_code, lines, lines_tree, number, script}
use Rattle.key_script.specs.Tokens.{finish}
use Rattle.simulation.specs.System.{IsKey}
use Rattle.outer_world.specs.Files.{Files}
use Rattle.nand_cli.specs.Commands.Run.{HasKeys}

-- ---- the checks of a tree

-- Each word of a tree that a rule reads has passed its check.
abbrev Checked : Part → KeyTree → Type 0
Checked (word is check value) x = (s : ℕ) × (s' : ℕ) × (t : Token) × (check s t ≡ Ok s') × (x ≡ Leaf (value t))
Checked (seq a b) (Pair x y) = Checked a x × Checked b y
Checked (repeat a) (More x y) = Checked a x × Checked (repeat a) y
Checked r x = Unit {0}

reads_checked : (at : Place) {s s' : ℕ} {r : Part} {ts us : List Token} {x : KeyTree} → Reads Token ℕ (Unit {0}) Kind (script at) s r ts x s' us → Checked r x
reads_checked at (marked e) = tt
reads_checked at (worded {s = s} {s' = s'} {t = t} e c) = (s, s', t, c, refl)
reads_checked at at_end = tt
reads_checked at (both p q) = (reads_checked at p, reads_checked at q)
reads_checked at (left e p) = tt
reads_checked at (right e f p) = tt
reads_checked at (passed e) = tt
reads_checked at (taken e p) = tt
reads_checked at (ended e) = tt
reads_checked at (again e p q) = (reads_checked at p, reads_checked at q)
reads_checked at (named p) = tt
reads_checked at (inside e c p) = tt

-- ---- codes

abbrev leaf_number : KeyTree → ℕ
leaf_number (Leaf k) = number k
leaf_number x = 0

passes_by : (b : Bool) (n s s' : ℕ) (f : Fault) → nat_lt 65535 n ≡ b → cond b (Err f) (Ok s) ≡ Ok s' → n < 2 ^ 16
passes_by true n s s' f e c = absurd (let no : ⊥ = cc in no)
passes_by false n s s' f e c = let h = ltb-false 65535 n e in omega (arith, h)

passes : (s s' : ℕ) (t : Token) → check_code s t ≡ Ok s' → number t.kind < 2 ^ 16
passes s s' t c = passes_by _ (number t.kind) s s' _ refl c

abbrev AllWords : List Line → Type 0
AllWords [] = Unit {0}
AllWords (l ∷ ls) = (l.code < 2 ^ 16) × AllWords ls

lines_words : (ls : List Line) → Checked lines (lines_tree ls) → AllWords ls
lines_words [] h = tt
lines_words (l ∷ ls) ((m, ((s, s', t, c, e), k)), more) =
    (subst (λ n. n < 2 ^ 16) (sym (ap leaf_number e)) (passes s s' t c), lines_words ls more)

-- ---- the code that is held

keep_words : (b : Bool) (l : Line) (ls : List Line) → l.code < 2 ^ 16 → AllWords ls → AllWords (cond b (l ∷ ls) ls)
keep_words true l ls h k = (h, k)
keep_words false l ls h k = k

filter_words : (p : Line → Bool) (ls : List Line) → AllWords ls → AllWords (filter p ls)
filter_words p [] h = tt
filter_words p (l ∷ ls) h = keep_words (p l) l (filter p ls) h.0 (filter_words p ls h.1)

get_word : (ls : List Line) (i : ℕ) → AllWords ls → code_of (slice_get ls i) < 2 ^ 16
get_word [] i h = omega arith
get_word (l ∷ ls) zero h = h.0
get_word (l ∷ ls) (suc i) h = get_word ls i h.1

held_words : (ls : List Line) (c : ℕ) → AllWords ls → IsKey (code_at ls c)
held_words ls c h = get_word (filter (has_come c) ls) _ (filter_words (has_come c) ls h)

spelled_words : (text : List ℕ) (ls : List Line) (c : ℕ) → Spells text ls → IsKey (code_at ls c)
spelled_words text ls c s = held_words ls c (lines_words ls (reads_checked (finish text) s.3).0)

pub keys_are_words : (files : Option Files) (path : Option (List ℕ)) (ls : List Line) → HasKeys files path ls → (c : ℕ) → IsKey (code_at ls c)
keys_are_words files None ls has c = held_words ls c (subst AllWords (sym has) tt)
keys_are_words files (Some path) ls (text, file, spells) c = spelled_words text ls c spells
