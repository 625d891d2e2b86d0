-- The lines of a text, one after another.
use Rattle.std.proofs.Common.{◌≡◌, ◌<◌, ◌≤◌, ◌+◌, ◌-◌, ◌++◌, ℕ, Bool, true, false, List, [], ◌∷◌, length, drop, take, map, refl, sym, ap, subst, ◌∙◌, arith, append_assoc, length-append, length-drop}
use Rattle.std.proofs.lemmas.List.{drop-drop, drop-map, length-map}
use Rattle.std.proofs.Math.Seq.{drop-append_seam}
use Rattle.scan_text.specs.declared.Place.{Place}
use Rattle.grammar.specs.declared.Fault.{Fault}
use Rattle.grammar.specs.declared.ReadError.{ReadError}
use Rattle.grammar.specs.Reading.{Halt}
use Rattle.grammar.specs.Rules.{Rule, Rules, Tree, enters, Reads, marked, worded, both, at_end, left, right, passed, taken, ended, again, named, inside, Stops, first, second, not_end}
use Rattle.grammar.proofs.Steps.{halt}
use Rattle.grammar.proofs.Repeats.{Along, Along-ended, Along-stopped}
use Rattle.grammar.proofs.Lengths.{shorter}
use Rattle.hack_asm.specs.Tokens.{Word, view}
use Rattle.hack_asm.specs.declared.token.Token.{Token}
use Rattle.hack_asm.specs.Grammar.{Said, assembly, line, whole}
use Rattle.hack_asm.specs.Trees.{AsmTree, Line, line_tree, text_tree}
use Rattle.grammar.proofs.Entered.{astray}
use Rattle.hack_asm.proofs.Letters.{R, F}

abbrev pub Lined : Place → List Word → List Line → List Word → Type 0
Lined end ts ls us = Along Word (Unit {0}) (Unit {0}) Said Line (assembly end) line line_tree tt ts ls tt us

module _ (end : Place) (ts : List Word) (ls : List Line) where
  stops_by : (w : Word) (ws : List Word) (f : Fault) (b : Bool) → enters (assembly end) line (w ∷ ws) ≡ b → Lined end ts ls (w ∷ ws) → F end line (w ∷ ws) f → F end whole ts f
  stops_by w ws f true e along p = first (Along-stopped (assembly end) line line_tree tt ts ls tt (w ∷ ws) f along e p)
  stops_by w ws f false e along p =
      subst (λ (d : Fault). F end whole ts d) (sym (astray Word (Unit {0}) (Unit {0}) Said (assembly end) p refl e))
      (second (Along-ended (assembly end) line line_tree tt ts ls tt (w ∷ ws) along e) not_end)

  -- where a line stops the text stops
  pub line_stops : (cs : List Token) (e : ReadError) → 0 < length cs → Lined end ts ls (map view cs) → Halt (Stops Word (Unit {0}) (Unit {0}) Said (assembly end) tt line (map view cs)) e → Halt (Stops Word (Unit {0}) (Unit {0}) Said (assembly end) tt whole ts) e
  line_stops [] e some along h = absurd (omega arith)
  line_stops (c ∷ cs) e some along h = halt (λ f p. stops_by (view c) (map view cs) f (enters (assembly end) line (view c ∷ map view cs)) refl along p) h

  -- the text is read where no token is left
  pub all_read : (cs : List Token) → length cs ≡ 0 → Lined end ts ls (map view cs) → R end whole ts (text_tree ls) []
  all_read [] none along = both (Along-ended (assembly end) line line_tree tt ts ls tt [] along refl) at_end
  all_read (c ∷ cs) none along = absurd (omega arith)

module _ (T S N V : Type 0) (g : Rules T S N V) where
  -- what is left after a rule is a back part of the tokens
  suffix : {s s' : S} {r : Rule T S N V} {ts us : List T} {x : Tree V} → Reads T S N V g s r ts x s' us → (front : List T) × (ts ≡ front ++ us)
  suffix (marked {t = t} e) = (t ∷ [], refl)
  suffix (worded {t = t} e c) = (t ∷ [], refl)
  suffix at_end = ([], refl)
  suffix (both {vs = vs} p q) = let a = suffix p in let b = suffix q in (a.0 ++ b.0, a.1 ∙ ap (λ (l : List T). a.0 ++ l) b.1 ∙ sym (append_assoc a.0 b.0 vs))
  suffix (left e p) = suffix p
  suffix (right e f p) = suffix p
  suffix (passed e) = ([], refl)
  suffix (taken e p) = suffix p
  suffix (ended e) = ([], refl)
  suffix (again {vs = vs} e p q) = let a = suffix p in let b = suffix q in (a.0 ++ b.0, a.1 ∙ ap (λ (l : List T). a.0 ++ l) b.1 ∙ sym (append_assoc a.0 b.0 vs))
  suffix (named p) = suffix p
  suffix (inside e c p) = suffix p

suffix_drop : (ts front us : List Word) → ts ≡ front ++ us → us ≡ drop (length ts - length us) ts
suffix_drop ts front us e =
    let n : length ts - length us ≡ length front = omega (arith, ap length e, length-append front us) in
    sym (drop-append_seam front us) ∙ ap (drop (length front)) (sym e) ∙ ap (λ (k : ℕ). drop k ts) (sym n)

module _ (end : Place) (cs ds : List Token) (at : ℕ) (t : AsmTree) (p : R end line (map view (drop at cs)) t (map view ds)) where
  pub line_shorter : length ds < length (drop at cs)
  line_shorter =
      let h = shorter Word (Unit {0}) (Unit {0}) Said (assembly end) (λ n. refl) p refl in
      omega (arith, h, length-map (drop at cs) view, length-map ds view)

  -- what is left after a line begins where the number of tokens that are left says
  pub line_next : at ≤ length cs → map view ds ≡ map view (drop (length cs - length ds) cs)
  line_next within =
      let tail = suffix Word (Unit {0}) (Unit {0}) Said (assembly end) p in
      let n : at + (length (map view (drop at cs)) - length (map view ds)) ≡ length cs - length ds = omega (arith, line_shorter, within, length-map (drop at cs) view, length-map ds view, length-drop at cs) in
      suffix_drop (map view (drop at cs)) tail.0 (map view ds) tail.1
      ∙ drop-map view (length (map view (drop at cs)) - length (map view ds)) (drop at cs)
      ∙ ap (map view) (drop-drop (length (map view (drop at cs)) - length (map view ds)) at cs ∙ ap (λ (k : ℕ). drop k cs) n)

take_whole : (cs : List Token) → take (length cs) cs ≡ cs
take_whole [] = refl
take_whole (c ∷ cs) = ap (λ (l : List Token). c ∷ l) (take_whole cs)

-- all tokens from one on
pub from_on : (cs : List Token) (at : ℕ) → take (length cs - at) (drop at cs) ≡ drop at cs
from_on cs at = ap (λ (k : ℕ). take k (drop at cs)) (sym (length-drop at cs)) ∙ take_whole (drop at cs)
